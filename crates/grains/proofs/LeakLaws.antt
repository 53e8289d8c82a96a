-- Laws of the band, the weight and the leak. Assumes nothing.
use mathlib.Core.Bool.{Bool, true, false, ◌&&◌, cond}
use mathlib.Core.List.{List, [], ◌∷◌}
use mathlib.Core.Path.{◌≡◌, refl}
use Prim.Native.Nat.{ℕ, zero, suc, ◌+◌, ◌-◌, ◌*◌, ◌/◌, ◌≤◌, ◌<◌, min}
use native.Mathlib.Nat.{mul-le-mul, le_refl}
use native.Mathlib.Omega.{arith}
use lib.Dec.{T, leb, leb→le}
use lib.ListN.{get_or}
use borrow.Author.Tests.{leb-true, leb-false}
use Rattle.grains.specs.Grains.{grains_per_count, nac}
use Rattle.numbers.proofs.EveryLaws.{first_passes, rest_passes}
use Rattle.numbers.proofs.ProductLaws.{product_within}
use Rattle.grains.specs.Leak.{band_table, rises_up_to, band, weight, leak_rate, leak}

-- n temperatures from first on, 40 quarter kelvins apart
abbrev every_forty : ℕ → ℕ → List ℕ
every_forty first zero = []
every_forty first (suc n) = first ∷ every_forty (first + 40) n

rises_every_forty : (t first n : ℕ) → rises_up_to t (every_forty first n) ≡ min n ((t + 40 - first) / 40)
unfolding rises_up_to
rises_every_forty t first zero = omega arith
rises_every_forty t first (suc n) = go (leb first t) refl (rises_every_forty t (first + 40) n)
  where
    go : (test : Bool) → leb first t ≡ test → rises_up_to t (every_forty (first + 40) n) ≡ min n ((t + 40 - (first + 40)) / 40)
        → cond test (suc (rises_up_to t (every_forty (first + 40) n))) 0 ≡ min (suc n) ((t + 40 - first) / 40)
    go true e ih = let h = leb-true first t e in omega arith
    go false e ih = let h = leb-false first t e in omega arith

-- the band is the number of whole 40 quarter kelvins above 1,052, at most 7
pub band_is : (t : ℕ) → band t ≡ min 7 ((t + 40 - 1092) / 40)
unfolding band
band_is t = rises_every_forty t 1092 7

pub band_below : (t : ℕ) → band t < 8
band_below t = let e = band_is t in omega arith

-- a leak never exceeds the whole counts held, at any rate up to G
pub leak_within_counts : (held rate : ℕ) → rate ≤ grains_per_count → leak held rate ≤ nac held * grains_per_count
unfolding leak
leak_within_counts held rate h = mul-le-mul (le_refl (nac held)) h

pub leak_within : (held rate : ℕ) → rate ≤ grains_per_count → leak held rate ≤ held
leak_within held rate h = let p = leak_within_counts held rate h in omega arith

all_within : ℕ → List ℕ → Bool
all_within most [] = true
all_within most (x ∷ xs) = leb x most && all_within most xs

element_within : (most : ℕ) (xs : List ℕ) → T (all_within most xs) → (k : ℕ) → get_or xs k 0 ≤ most
unfolding all_within
element_within most [] t k = omega arith
element_within most (x ∷ xs) t zero = leb→le x most (first_passes (leb x most) (all_within most xs) t)
element_within most (x ∷ xs) t (suc k) = element_within most xs (rest_passes (leb x most) (all_within most xs) t) k

pub weight_within : (t : ℕ) → weight t ≤ 128
unfolding weight all_within
weight_within t = element_within 128 band_table tt (band t)

-- SD has four bits
pub leak_rate_within : (sd t : ℕ) → sd ≤ 15 → leak_rate sd t ≤ 1_920
unfolding leak_rate
leak_rate_within sd t h = product_within 15 128 h (weight_within t)
