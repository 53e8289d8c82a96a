-- The factors' bounds, multiplied, are below 2 to the 32. Assumes nothing.
use Prim.Native.Nat.{◌+◌, ◌*◌, ◌/◌, ◌≤◌}
use native.Mathlib.Omega.{arith}
use Rattle.numbers.proofs.ProductLaws.{product_within}
use Rattle.compensation.proofs.AgeLaws.{aged_within}
use Rattle.compensation.proofs.compensation.adcgn.Goals as goal
use Rattle.compensation.proofs.compensation.adcgn.Goals.{After-dcgn}

within : (c : After-dcgn) →
    c.dcgn.result * (32 + c.tcgn.result * (c.args.cyct / 16) * c.gaf.result) ≤ 31 * 380_867
within c = product_within 31 380_867 (omega arith) (aged_within (omega arith) (omega arith) (omega arith))

pub overflow_mul-result : goal.overflow_mul-result
overflow_mul-result c = omega (arith, within (goal.at.overflow_mul-result c).After-dcgn)

pub returns-clause-range : goal.returns-clause-range
returns-clause-range c = within (goal.at.returns-clause-range c).After-dcgn
