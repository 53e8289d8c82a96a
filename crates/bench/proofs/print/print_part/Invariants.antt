-- The invariant is that of the passes: the bytes before the rest are fed and printed. The measure is the rest, which each pass makes less.
-- Assumes nothing.
use lib.ListN.{length}
use Rattle.bench.proofs.PrintLaws.{Printing}
use Rattle.bench.proofs.WrittenLaws.{Writing}
use Rattle.bench.proofs.print.print_part.Given as goal

abbrev pub invariant-loop-rest : goal.invariant-loop-rest
invariant-loop-rest g l =
    Printing l.initial.after l.part l.after l.rest
    × Writing (g.W.Write.contents l.initial.output) (g.W.Write.contents l.output) l.initial.after l.part l.after l.rest

abbrev pub decreases-loop-rest : goal.decreases-loop-rest
decreases-loop-rest g l = length l.rest
