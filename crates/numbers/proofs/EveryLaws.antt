-- One computed test for every number below a bound, and the law that gives it at each. Assumes nothing.
use mathlib.Core.Bool.{Bool, true, false, ◌&&◌}
use Prim.Native.Nat.{ℕ, zero, suc, ◌<◌}
use native.Mathlib.Nat.{not-suc-le-zero, le_of_suc-le-suc}
use lib.Dec.{T}

pub first_passes : (a b : Bool) → T (a && b) → T a
first_passes true b t = tt
first_passes false b t = t

pub rest_passes : (a b : Bool) → T (a && b) → T b
rest_passes true b t = t
rest_passes false b t = absurd t

-- a test passes at every number below n
abbrev pub every_below : ℕ → (ℕ → Bool) → Bool
every_below zero test = true
every_below (suc n) test = test zero && every_below n (λ k. test (suc k))

pub at_each_below : (n : ℕ) (test : ℕ → Bool) → T (every_below n test) → (k : ℕ) → k < n → T (test k)
at_each_below zero test t k h = absurd (not-suc-le-zero h)
at_each_below (suc n) test t zero h = first_passes (test zero) (every_below n (λ j. test (suc j))) t
at_each_below (suc n) test t (suc k) h =
    at_each_below n (λ j. test (suc j)) (rest_passes (test zero) (every_below n (λ j. test (suc j))) t) k (le_of_suc-le-suc h)
