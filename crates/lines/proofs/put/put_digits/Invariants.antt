-- The invariant: the last digits of the rest, before those that stand already, are the number's. Assumes nothing.
use mathlib.Core.List.{◌++◌}
use mathlib.Core.Path.{◌≡◌}
use lib.ListN.{drop, length}
use Rattle.lines.proofs.DecimalLaws.{last_digits}
use Rattle.lines.proofs.put.put_digits.Given as goal

abbrev pub invariant-loop-i : goal.invariant-loop-i
invariant-loop-i l = last_digits l.i l.rest ++ drop l.i l.slots ≡ last_digits (length l.slots) l.number
