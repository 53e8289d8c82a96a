-- Signed numbers at 32 bits: a magnitude of at most 2,147,483,648 negated is its opposite, and a number read back from its bits is
-- itself. Assumes nothing.
use mathlib.Core.Path.{◌≡◌, sym, ap, ◌∙◌, subst}
use Prim.Native.Nat.{ℕ, zero, suc, ◌≤◌, ◌<◌, ◌^◌}
use native.Mathlib.Omega.{arith}
use lib.IntN.{ℤ, pos, neg_ℤ, ◌-ℤ◌, +ℤ_idl}
use lib.Signed.{mag}
use mir.Syntax.{w32, w64}
use mir.Val.{SFits, of_z, to_z}
use mir.Facts.{to_z-of_z, to_z_pos}
use Rattle.lines.specs.Line.{joined}
use Rattle.std.specs.Prelude.{Option, Some}

opposite : (m : ℕ) → pos 0 -ℤ pos m ≡ neg_ℤ (pos m)
opposite m = +ℤ_idl (neg_ℤ (pos m))

fits_narrow : (m : ℕ) → m ≤ 2_147_483_648 → SFits w32 (neg_ℤ (pos m))
fits_narrow zero h = record { sfits = omega arith }
fits_narrow (suc n) h = record { sfits = omega arith }

fits_wide : (m : ℕ) → m ≤ 2_147_483_648 → SFits w64 (neg_ℤ (pos m))
fits_wide zero h = record { sfits = omega arith }
fits_wide (suc n) h = record { sfits = omega arith }

module _ (m : ℕ) (h : m ≤ 2_147_483_648) where
  pub difference : pos 0 -ℤ to_z w64 m ≡ neg_ℤ (pos m)
  difference = let k : m < 2 ^ 63 = omega arith in ap (λ (y : ℤ). pos 0 -ℤ y) (to_z_pos w64 k) ∙ opposite m

  pub difference_fits : SFits w64 (pos 0 -ℤ to_z w64 m)
  difference_fits = subst (SFits w64) (sym difference) (fits_wide m h)

  wide : to_z w64 (of_z w64 (pos 0 -ℤ to_z w64 m)) ≡ neg_ℤ (pos m)
  wide = ap (λ (y : ℤ). to_z w64 (of_z w64 y)) difference ∙ to_z-of_z (fits_wide m h)

  pub negated_fits : SFits w32 (to_z w64 (of_z w64 (pos 0 -ℤ to_z w64 m)))
  negated_fits = subst (SFits w32) (sym wide) (fits_narrow m h)

  pub negated : to_z w32 (of_z w32 (to_z w64 (of_z w64 (pos 0 -ℤ to_z w64 m)))) ≡ neg_ℤ (pos m)
  negated = ap (λ (y : ℤ). to_z w32 (of_z w32 y)) wide ∙ to_z-of_z (fits_narrow m h)

pub kept : (m : ℕ) → m ≤ 2_147_483_647 → to_z w32 m ≡ pos m
kept m h = let k : m < 2 ^ 31 = omega arith in to_z_pos w32 k

-- a signed number read back from its bits
pub narrow : (z : ℤ) → mag z < 2 ^ 31 → to_z w32 (of_z w32 z) ≡ z
narrow z h = to_z-of_z {w = w32} {z = z} (record { sfits = h })

-- three numbers read back from their bits
pub numbers_joined : (x y z : ℤ) → mag x < 2 ^ 31 → mag y < 2 ^ 31 → mag z < 2 ^ 31
    → (first second third : Option ℤ) → first ≡ Some x → second ≡ Some y → third ≡ Some z
    → Some (to_z w32 (of_z w32 x), to_z w32 (of_z w32 y), to_z w32 (of_z w32 z)) ≡ joined first second third
unfolding joined
numbers_joined x y z hx hy hz first second third ex ey ez = simp (narrow x hx, narrow y hy, narrow z hz, ex, ey, ez)
