-- By the laws of the masked MODE. Assumes nothing.
use mathlib.Core.Path.{sym}
use native.Mathlib.Omega.{arith}
use Rattle.std.proofs.lemmas.Nat.{and_le_l}
use Rattle.command.proofs.CommandLaws.{none_found, highest_found, bit_found}
use Rattle.command.proofs.command.highest_command_bit.Goals as goal

pub returns-then-bits-eq0 : goal.returns-then-bits-eq0
returns-then-bits-eq0 c = simp (sym (none_found c.args.mode (omega arith) c.if-bits-eq0.true))

pub overflow_cast-result : goal.overflow_cast-result
overflow_cast-result c = record { fits = omega (arith, and_le_l 59 c.args.mode) }

pub overflow_sub-result : goal.overflow_sub-result
overflow_sub-result c = (highest_found c.args.mode (omega arith) c.if-bits-eq0.false).1

pub returns : goal.returns
returns c = bit_found c.args.mode (omega arith) c.if-bits-eq0.false
