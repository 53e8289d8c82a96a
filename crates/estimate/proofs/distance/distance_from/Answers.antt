-- The difference of two numbers of two bytes, in 32 bits. Assumes nothing.
use native.Mathlib.Omega.{arith}
use Rattle.estimate.proofs.DistanceLaws.{bits_fit, distance_is}
use Rattle.estimate.proofs.distance.distance_from.Goals as goal

pub overflow_sub-result : goal.overflow_sub-result
overflow_sub-result c = bits_fit c.args.counts c.args.estimate (omega arith) (omega arith)

pub returns : goal.returns
returns c = distance_is c.args.counts c.args.estimate (omega arith) (omega arith)
