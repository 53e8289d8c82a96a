-- A turn that goes on, and one that does not. Assumes nothing.
use Rattle.bench.proofs.WrittenLaws.{after_turn, last_turn, more_is, not_failed}
use Rattle.bench.proofs.run.Goals as goal

pub loop-preserved : goal.loop-preserved
loop-preserved g c =
    let t = c.turn-progress in
    after_turn _ _ _ _ _ _ _ _ t.result (more_is t.result _ _ c.in_ok-progress.was c.if-not-branch.false) c.loop.invariant
    (not_failed t.result.more _ c.in_ok-progress.was t.ensures.written)

pub returns-then-not-branch : goal.returns-then-not-branch
returns-then-not-branch g c whole =
    let t = c.turn-progress in
    last_turn _ _ _ _ _ _ _ _ t.result (more_is t.result _ _ c.in_ok-progress.was c.if-not-branch.true) c.loop.invariant
    (not_failed t.result.more _ c.in_ok-progress.was t.ensures.written) c.start-bench.ensures.whole
