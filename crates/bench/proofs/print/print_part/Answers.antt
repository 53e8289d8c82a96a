-- A pass feeds and prints bytes of the part; where none is left, all of it is fed and printed. Assumes nothing.
use Rattle.bench.proofs.PrintLaws as Fed
use Rattle.bench.proofs.WrittenLaws as Text
use Rattle.bench.proofs.print.print_part.Goals as goal

pub loop-rest-init : goal.loop-rest-init
loop-rest-init g c = (Fed.begins _ _, Text.begins _ _ _)

pub returns-in-Err-clause-fed : goal.returns-in-Err-clause-fed
returns-in-Err-clause-fed g c =
    let l = c.loop-rest in
    let p = c.print_some-printed in
    Fed.stopped _ _ _ _ (Fed.passed _ _ l.after l.rest.now l.invariant.0 p.result p.ensures.fed) _

pub loop-rest-preserved : goal.loop-rest-preserved
loop-rest-preserved g c =
    let l = c.loop-rest in
    let p = c.print_some-printed in (
      Fed.passed _ _ l.after l.rest.now l.invariant.0 p.result p.ensures.fed,
      Text.written_on _ _ _ _ l.after l.rest.now l.invariant.1 _ p.result p.ensures.fed (Text.not_failed p.result.written _ c.in_default.is p.ensures.written),
    )

pub returns-clause-fed : goal.returns-clause-fed
returns-clause-fed g c =
    let l = c.loop-rest in
    let e = c.is_ended in
    Fed.finished _ _ l.after l.rest.now l.invariant.0 (Fed.left_none _ _ c.is_empty.ensures c.loop-rest-test.false) e.result e.ensures.value

pub returns-clause-written : goal.returns-clause-written
returns-clause-written g c =
    let l = c.loop-rest in
    let e = c.is_ended in
    Text.all_written _ _ _ _ l.after l.rest.now l.invariant.1 (Fed.left_none _ _ c.is_empty.ensures c.loop-rest-test.false) e.result e.ensures.nothing
