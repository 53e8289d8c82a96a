-- Runs whose parts agree. Assumes nothing.
use mathlib.Core.Bool.{Bool}
use mathlib.Core.Path.{◌≡◌}
use Prim.Native.Nat.{ℕ}
use Rattle.grains.specs.declared.run.Run.{Run}

abbrev pub run_with : Bool → ℕ → Run
run_with vdq dcr = record { vdq = vdq; dcr = dcr }

pub run_alike : {v w : Bool} {d e : ℕ} → v ≡ w → d ≡ e → run_with v d ≡ run_with w e
run_alike p q = cc
