-- A current of whole units is shown as itself. Assumes nothing.
use mathlib.Core.Path.{◌≡◌}
use Prim.Native.Nat.{ℕ}
use native.Mathlib.Omega.{arith}
use Rattle.standby.specs.Standby.{shown, sixteenths}

pub shown_whole : (units : ℕ) → shown (sixteenths units) ≡ units
unfolding shown
shown_whole units = omega arith
