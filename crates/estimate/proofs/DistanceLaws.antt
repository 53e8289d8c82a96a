-- The distance of two counts is in the range of a signed number of 32 bits, and a permille of two bytes' counts fits two bytes. Assumes nothing.
use mathlib.Core.Bool.{Bool, true, false, cond}
use mathlib.Core.Path.{◌≡◌, refl, sym, ap, subst, ◌∙◌}
use Prim.Native.Nat.{ℕ, zero, suc, ◌-◌, ◌*◌, ◌/◌, ◌≤◌, ◌<◌}
use native.Mathlib.Nat.{mul-le-mul_right}
use native.Mathlib.Omega.{arith}
use lib.Dec.{ltb}
use lib.IntN.{ℤ, pos, negsuc, ◌-ℤ◌}
use lib.Signed.{mag}
use mir.Facts.{to_z-of_z, to_z_pos}
use mir.Syntax.{w16, w32}
use mir.Val.{Fits, SFits, of_z, to_z}
use Rattle.estimate.specs.Estimate.{distance_from}

module _ (n e : ℕ) (hn : n < 65_536) (he : e < 65_536) where
  within : mag (pos e -ℤ pos n) < 65_536
  within = go n hn
    where
      either : (t : Bool) (k : ℕ) → ltb e (suc k) ≡ t → suc k < 65_536 → mag (cond t (negsuc (suc k - suc e)) (pos (e - suc k))) < 65_536
      either true k p h = omega arith
      either false k p h = omega arith

      go : (m : ℕ) → m < 65_536 → mag (pos e -ℤ pos m) < 65_536
      go zero h = omega arith
      go (suc k) h = either (ltb e (suc k)) k refl h

  of_bits : to_z w32 e -ℤ to_z w32 n ≡ distance_from n e
  unfolding distance_from
  of_bits =
      let pe = to_z_pos w32 {n = e} (omega arith) in
      let pn = to_z_pos w32 {n = n} (omega arith) in
      ap (λ (x : ℤ). x -ℤ to_z w32 n) pe ∙ ap (λ (x : ℤ). pos e -ℤ x) pn

  distance_fits : SFits w32 (distance_from n e)
  unfolding distance_from
  distance_fits = let h = within in record { sfits = omega arith }

  pub bits_fit : SFits w32 (to_z w32 e -ℤ to_z w32 n)
  bits_fit = subst (SFits w32) (sym of_bits) distance_fits

  pub distance_is : to_z w32 (of_z w32 (to_z w32 e -ℤ to_z w32 n)) ≡ distance_from n e
  distance_is = ap (λ (x : ℤ). to_z w32 (of_z w32 x)) of_bits ∙ to_z-of_z distance_fits

-- ---- a permille of the capacity

module _ (permille lmd : ℕ) (most : permille ≤ 1_000) (fits : lmd < 65_536) where
  product_low : permille * lmd ≤ 1_000 * lmd
  product_low = mul-le-mul_right lmd most

  pub product_fits : Fits w32 (permille * lmd)
  product_fits = let h = product_low in record { fits = omega arith }

  pub quotient_fits : Fits w16 (permille * lmd / 1_000)
  quotient_fits = let h = product_low in record { fits = omega arith }
