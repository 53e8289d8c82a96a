-- The invariant is that of the filter's turns: so many bytes are taken, and what they print stands at the start of the buffer. Assumes
-- nothing.
use mathlib.Core.Path.{sym, ◌∙◌}
use borrow.Author.Tests.{leb-true, leb-false}
use Rattle.bench_filter.proofs.FilterLaws.{begins, goes_on, stops_done, stops_full}
use Rattle.bench_filter.proofs.filter.filter_part.Goals as goal

pub loop-used-init : goal.loop-used-init
loop-used-init c = begins _ _ _

pub returns-then-not-has_room : goal.returns-then-not-has_room
returns-then-not-has_room c =
    let l = c.loop-used in
    let full = leb-false _ _ (sym c.has_room.ensures ∙ c.if-not-has_room.true) in
    stops_full _ _ _ l.after l.used l.made l.out l.invariant c.loop-used-test.true full

pub loop-used-preserved : goal.loop-used-preserved
loop-used-preserved c =
    let l = c.loop-used in
    let f = c.fed-step in
    let p = c.put_output-made in
    let room = leb-true _ _ (sym c.has_room.ensures ∙ c.if-not-has_room.false) in
    goes_on _ _ _ l.after l.used l.made l.out l.invariant c.loop-used-test.true room f.result f.ensures p.result p.new.out p.ensures

pub returns : goal.returns
returns c =
    let l = c.loop-used in
    stops_done _ _ _ l.after l.used l.made l.out l.invariant c.loop-used-test.false
