-- The invariant says what is left to do: the windows left, from what is held now, end where all of them end from the start. The measure is the counts
-- still to be lost: the loop makes at most one turn more than counts are lost. Assumes nothing.
use Prim.Native.Nat.{◌-◌}
use Rattle.grains.specs.Rest.{rest_leak}
use Rattle.grains.proofs.StepLaws.{Resting, to_lose}
use Rattle.grains.proofs.rest.held_after.Given as goal

abbrev pub invariant-loop-grains : goal.invariant-loop-grains
invariant-loop-grains l =
    Resting (l.held - rest_leak l.windows l.rate l.held) l.rate l.counts l.part l.grains l.left

abbrev pub decreases-loop-grains : goal.decreases-loop-grains
decreases-loop-grains l = to_lose (l.held - rest_leak l.windows l.rate l.held) l.counts
