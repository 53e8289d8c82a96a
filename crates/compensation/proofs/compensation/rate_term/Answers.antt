-- The factors' bounds, multiplied, are far below 2 to the 64. Assumes nothing.
use Prim.Native.Nat.{◌+◌, ◌*◌, ◌≤◌}
use native.Mathlib.Omega.{arith}
use Rattle.numbers.proofs.ProductLaws.{product_within}
use Rattle.compensation.proofs.compensation.rate_term.Goals as goal
use Rattle.compensation.proofs.compensation.rate_term.Goals.{After-dt}

term-within : (c : After-dt) →
    c.args.current * c.adcgn-gain.result
    * (128 + c.tcgn.result * c.dt.result)
    ≤ 65_535 * (31 * 380_867) * 34_848
term-within c =
    let cold : c.tcgn.result * c.dt.result ≤ 34_720 = product_within 31 1_120 (omega arith) (omega arith) in
    product_within (65_535 * (31 * 380_867)) 34_848 (product_within 65_535 (31 * 380_867) (omega arith) (omega arith)) (omega arith)

pub overflow_mul-result-2 : goal.overflow_mul-result-2
overflow_mul-result-2 c = omega (arith, term-within (goal.at.overflow_mul-result-2 c).After-dt)

pub returns-clause-range : goal.returns-clause-range
returns-clause-range c = term-within (goal.at.returns-clause-range c).After-dt
