-- A run that acceptance takes stays one: its drain is 0 without VDQ, and the passing rule bounds it. Assumes nothing.
use mathlib.Core.Bool.{Bool, true, false, cond}
use mathlib.Core.Path.{◌≡◌, refl}
use Prim.Native.Nat.{ℕ}
use native.Mathlib.Omega.{arith}
use borrow.Author.Tests.{ltb-false}
use Rattle.charge.specs.Charge.{run_moved}
use Rattle.charge.proofs.ChargeLaws.{RunSound}
use Rattle.grains.specs.Grains.{most_drain, passes, saturating_sum}
use Rattle.grains.specs.Run.{drained, no_run, started_run, unless_passed}
use Rattle.grains.specs.declared.run.Run.{Run}

pub none_sound : RunSound no_run
none_sound = record { within = omega arith; none = λ e. refl }

pub started_sound : RunSound started_run
started_sound = record { within = omega arith; none = λ e. refl }

pub drained_none : (r : Run) (n : ℕ) → (r.vdq ≡ false → r.dcr ≡ 0) → (drained r n).vdq ≡ false → (drained r n).dcr ≡ 0
unfolding drained
drained_none r n h = go r.vdq
  where
    go : (t : Bool)
        → (cond t (record { vdq = true; dcr = saturating_sum r.dcr n }) r).vdq ≡ false
        → (cond t (record { vdq = true; dcr = saturating_sum r.dcr n }) r).dcr ≡ 0
    go true e = cc
    go false e = h e

pub passed_sound : (r : Run) → (r.vdq ≡ false → r.dcr ≡ 0) → RunSound (unless_passed r)
unfolding unless_passed
passed_sound r h = go (passes r.dcr) refl
  where
    go : (t : Bool) → passes r.dcr ≡ t → RunSound (cond t no_run r)
    go true e = none_sound
    go false e = record { within = ltb-false most_drain r.dcr e; none = h }

pub moved_run_sound : (charging : Bool) (n : ℕ) (r : Run) → (r.vdq ≡ false → r.dcr ≡ 0) → RunSound (run_moved charging n r)
unfolding run_moved
moved_run_sound true n r h = none_sound
moved_run_sound false n r h = passed_sound (drained r n) (drained_none r n h)
