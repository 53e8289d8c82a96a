-- A number between two limits, told of the number, or of it or 0 where it is below. Assumes nothing.
use mathlib.Core.Bool.{Bool, true, false, ◌&&◌}
use mathlib.Core.Path.{◌≡◌, refl}
use Prim.Native.Nat.{ℕ, ◌≤◌, ◌<◌}
use lib.Dec.{leb}
use lib.IntN.{ℤ, pos, negsuc, nat_abs}
use lib.Signed.{lt_z}
use borrow.Author.Tests.{le-leb, lt-leb, ltb-false, ltb-true}
use Rattle.sample.specs.Range.{between, value_between}
use Rattle.numbers.specs.Signed.{at_least_zero}

pub between_is : (least most : ℕ) (x : ℤ) → 0 < least → (leb least (at_least_zero x) && leb (at_least_zero x) most) ≡ between least most x
unfolding between
between_is least most (pos n) p = refl
between_is least most (negsuc n) p = simp (lt-leb least 0 p)

-- the two tests, one after the other

pub below_least : (least most : ℕ) (x : ℤ) → lt_z x (pos least) ≡ true → between least most x ≡ false
unfolding between
below_least least most (pos n) e = let h : n < least = ltb-true n least e in simp (lt-leb _ _ h)
below_least least most (negsuc n) e = refl

pub above_most : (least most : ℕ) (x : ℤ) → lt_z (pos most) x ≡ true → between least most x ≡ false
unfolding between
above_most least most (pos n) e = let h : most < n = ltb-true most n e in either (leb least n) (lt-leb _ _ h)
  where
    either : (t : Bool) → leb n most ≡ false → (t && leb n most) ≡ false
    either true p = p
    either false p = refl
above_most least most (negsuc n) e = refl

pub within_both : (least most : ℕ) (x : ℤ) → lt_z x (pos least) ≡ false → lt_z (pos most) x ≡ false
    → (between least most x ≡ true) × (nat_abs x ≡ value_between least most x)
unfolding between value_between
within_both least most (pos n) e f =
    let h : least ≤ n = ltb-false n least e in
    let i : n ≤ most = ltb-false most n f in
    (simp (le-leb _ _ h, le-leb _ _ i), simp (le-leb _ _ h, le-leb _ _ i))
within_both least most (negsuc n) e f = let z : ⊥ = cc in absurd z
