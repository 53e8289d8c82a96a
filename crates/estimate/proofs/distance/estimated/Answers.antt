-- The product fits 32 bits and its thousandth 16. Assumes nothing.
use mathlib.Core.Path.{refl}
use native.Mathlib.Omega.{arith}
use Rattle.estimate.proofs.DistanceLaws.{product_fits, quotient_fits}
use Rattle.estimate.specs.Estimate.{estimated}
use Rattle.estimate.proofs.distance.estimated.Goals as goal

pub overflow_mul-result : goal.overflow_mul-result
overflow_mul-result c = product_fits c.args.permille c.args.lmd c.requires (omega arith)

pub overflow_cast-result-3 : goal.overflow_cast-result-3
overflow_cast-result-3 c = quotient_fits c.args.permille c.args.lmd c.requires (omega arith)

pub returns : goal.returns
unfolding estimated
returns c = refl
