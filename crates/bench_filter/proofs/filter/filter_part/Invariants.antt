-- The invariant is that of the filter's turns: so many bytes are taken, and what they print stands at the start of the buffer. Assumes
-- nothing.
use Rattle.bench_filter.proofs.FilterLaws.{Filtering}
use Rattle.bench_filter.proofs.filter.filter_part.Given as goal

abbrev pub invariant-loop-used : goal.invariant-loop-used
invariant-loop-used l =
    Filtering l.initial.after l.part l.initial.out l.after l.used l.made l.out
