-- A signed number of 32 bits, read back from its bits, negated at 64 bits, is its magnitude. Assumes nothing.
use mathlib.Core.Bool.{true, false}
use mathlib.Core.Path.{◌≡◌, refl, sym, ap, ◌∙◌, subst}
use Prim.Native.Nat.{suc, ◌≤◌, ◌<◌, ◌^◌}
use native.Mathlib.Nat.{zero-add}
use native.Mathlib.Omega.{arith}
use lib.Dec.{T, leb-suc-zero}
use lib.IntN.{ℤ, pos, negsuc, ◌-ℤ◌}
use lib.Signed.{mag, lt_z}
use mir.Syntax.{w32, w64}
use mir.Val.{Fits, SFits, of_z, to_z}
use mir.Facts.{to_z-of_z}
use Rattle.numbers.specs.Signed.{negative, magnitude}

pub below_zero : (z : ℤ) → lt_z z (pos 0) ≡ negative z
below_zero (pos n) = leb-suc-zero n
below_zero (negsuc n) = refl

magnitude_within : (z : ℤ) → mag z < 2 ^ 31 → magnitude z ≤ 2 ^ 31
magnitude_within (pos n) h = omega arith
magnitude_within (negsuc n) h = omega arith

opposite : (z : ℤ) → negative z ≡ true → pos 0 -ℤ z ≡ pos (magnitude z)
opposite (pos n) e = absurd (subst T (sym e) tt)
opposite (negsuc n) e = ap pos (zero-add (suc n))

upright : (z : ℤ) → negative z ≡ false → z ≡ pos (magnitude z)
upright (pos n) e = refl
upright (negsuc n) e = absurd (subst T e tt)

module _ (z : ℤ) (fits : SFits w32 z) where
  pub narrow : to_z w32 (of_z w32 z) ≡ z
  narrow = to_z-of_z fits

  pub widens : SFits w64 z
  widens = let h = fits.sfits in record { sfits = omega arith }

  wide : to_z w64 (of_z w64 (to_z w32 (of_z w32 z))) ≡ z
  wide = ap (λ (y : ℤ). to_z w64 (of_z w64 y)) narrow ∙ to_z-of_z widens

  pub magnitude_fits : Fits w32 (magnitude z)
  magnitude_fits = let h = magnitude_within z fits.sfits in record { fits = omega arith }

  pub magnitude_fits_signed : SFits w64 (pos (magnitude z))
  magnitude_fits_signed = let h = magnitude_within z fits.sfits in record { sfits = omega arith }

  pub test_is : lt_z (to_z w32 (of_z w32 z)) (pos 0) ≡ negative z
  test_is = ap (λ (y : ℤ). lt_z y (pos 0)) narrow ∙ below_zero z

  pub difference : negative z ≡ true → pos 0 -ℤ to_z w64 (of_z w64 (to_z w32 (of_z w32 z))) ≡ pos (magnitude z)
  difference e = ap (λ (y : ℤ). pos 0 -ℤ y) wide ∙ opposite z e

  pub negated : negative z ≡ true → to_z w64 (of_z w64 (pos 0 -ℤ to_z w64 (of_z w64 (to_z w32 (of_z w32 z))))) ≡ pos (magnitude z)
  negated e = ap (λ (y : ℤ). to_z w64 (of_z w64 y)) (difference e) ∙ to_z-of_z magnitude_fits_signed

  pub kept : negative z ≡ false → to_z w32 (of_z w32 z) ≡ pos (magnitude z)
  kept e = narrow ∙ upright z e
