-- The invariant says what is left to do: the windows left, from what is held now, end where all of them end from the start. The measure is the counts
-- still to be lost: the loop makes at most one turn more than counts are lost. Assumes nothing.
use mathlib.Core.Path.{◌∙◌}
use native.Mathlib.Omega.{arith}
use Rattle.grains.proofs.StepLaws.{last_ends, loses, none_lost, steps}
use Rattle.grains.proofs.rest.held_after.Goals as goal

pub returns-then-left-more : goal.returns-then-left-more
returns-then-left-more c = c.grains_of.ensures ∙ last_ends c.loop-grains.invariant (omega arith)

pub loop-grains-smaller : goal.loop-grains-smaller
loop-grains-smaller c = loses c.loop-grains.invariant c.loop-grains-test.true (omega arith)

pub loop-grains-preserved : goal.loop-grains-preserved
loop-grains-preserved c = steps c.loop-grains.invariant c.loop-grains-test.true (omega arith)

pub returns : goal.returns
returns c = c.grains_of-2.ensures ∙ none_lost c.loop-grains.invariant (omega arith)
