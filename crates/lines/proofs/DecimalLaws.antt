-- The digits of a number by its tenth part, and how many they are. Assumes nothing.
use mathlib.Core.Bool.{Bool, true, false, cond}
use mathlib.Core.List.{List, [], ◌∷◌, ◌++◌}
use mathlib.Core.Path.{◌≡◌, refl, sym, ap, ◌∙◌}
use Prim.Native.Nat.{ℕ, zero, suc, ◌+◌, ◌*◌, ◌/◌, ◌%◌, ◌^◌, ◌≤◌, ◌<◌, max}
use native.Mathlib.Numerals.{add-one}
use native.Mathlib.Omega.{arith}
use lib.Dec.{ltb}
use lib.ListN.{length, length-append}
use borrow.Author.Tests.{lt-ltb, le-ltb, ltb-true, ltb-false}
use Rattle.std.proofs.Math.Nat.{pow-succ'}
use Rattle.lines.specs.Decimal.{decimal_within, decimal}

abbrev digit : ℕ → List ℕ
digit d = (48 + d) ∷ []

-- any number of digits that is above n is enough for it
enough : (j k n : ℕ) → n < j → n < k → decimal_within j n ≡ decimal_within k n
unfolding decimal_within
enough zero k n p q = let z : ⊥ = omega arith in absurd z
enough (suc j) zero n p q = let z : ⊥ = omega arith in absurd z
enough (suc j) (suc k) n p q = go (ltb n 10) refl (enough j k (n / 10))
  where
    go : (t : Bool) → ltb n 10 ≡ t → (n / 10 < j → n / 10 < k → decimal_within j (n / 10) ≡ decimal_within k (n / 10))
        → cond t (digit n) (decimal_within j (n / 10) ++ digit (n % 10)) ≡ cond t (digit n) (decimal_within k (n / 10) ++ digit (n % 10))
    go true e rest = refl
    go false e rest =
        let h = ltb-false n 10 e in
        ap (λ (ds : List ℕ). ds ++ digit (n % 10)) (rest (omega arith) (omega arith))

pub decimal_one : (n : ℕ) → n < 10 → decimal n ≡ (48 + n) ∷ []
unfolding decimal decimal_within
decimal_one n h = simp (lt-ltb n 10 h)

pub decimal_more : (n : ℕ) → 10 ≤ n → decimal n ≡ decimal (n / 10) ++ ((48 + n % 10) ∷ [])
unfolding decimal decimal_within
decimal_more n h =
    simp (le-ltb n 10 h) (ap (λ (ds : List ℕ). ds ++ digit (n % 10)) (enough n (suc (n / 10)) (n / 10) (omega arith) (omega arith)))

pub length_more : (n : ℕ) → 10 ≤ n → length (decimal n) ≡ length (decimal (n / 10)) + 1
length_more n h = ap length (decimal_more n h) ∙ length-append (decimal (n / 10)) ((48 + n % 10) ∷ [])

pub length_one : (n : ℕ) → n < 10 → length (decimal n) ≡ 1
length_one n h = ap length (decimal_one n h)

pub at_least_one : (n : ℕ) → 1 ≤ length (decimal n)
at_least_one n = go (ltb n 10) refl
  where
    go : (t : Bool) → ltb n 10 ≡ t → 1 ≤ length (decimal n)
    go true e = let h = length_one n (ltb-true n 10 e) in omega arith
    go false e = let h = length_more n (ltb-false n 10 e) in omega arith

positive : (k : ℕ) → 0 < 10 ^ k
positive zero = omega arith
positive (suc k) = let power = pow-succ' 10 k in let some = positive k in omega arith

-- a number between 10 to the power k and ten times that has k + 1 digits; 0 has one as 1 has
pub width_is : (k n : ℕ) → 10 ^ k ≤ max n 1 → max n 1 < 10 * 10 ^ k → length (decimal n) ≡ k + 1
width_is zero n low high = length_one n (omega arith)
width_is (suc k) n low high =
    let power = pow-succ' 10 k in
    let some = positive k in
    let big : 10 ≤ n = omega arith in
    let rest = width_is k (n / 10) (omega arith) (omega arith) in
    length_more n big ∙ ap (λ (w : ℕ). w + 1) (rest ∙ add-one k)

-- ---- the digits of a number, its last one first

-- its last k digits
abbrev pub last_digits : ℕ → ℕ → List ℕ
last_digits zero n = []
last_digits (suc k) n = last_digits k (n / 10) ++ digit (n % 10)

-- as many as it has are all of them
pub all_of_them : (k n : ℕ) → k ≡ length (decimal n) → last_digits k n ≡ decimal n
all_of_them zero n e = let some = at_least_one n in let z : ⊥ = omega arith in absurd z
all_of_them (suc k) n e = go (ltb n 10) refl (all_of_them k (n / 10))
  where
    go : (t : Bool) → ltb n 10 ≡ t → (k ≡ length (decimal (n / 10)) → last_digits k (n / 10) ≡ decimal (n / 10))
        → last_digits (suc k) n ≡ decimal n
    go true f rest =
        let h = ltb-true n 10 f in
        let one = length_one n h in
        let none : k ≡ 0 = omega arith in
        let same : n % 10 ≡ n = omega arith in
        ap (λ (j : ℕ). last_digits j (n / 10) ++ digit (n % 10)) none ∙ ap digit same ∙ sym (decimal_one n h)
    go false f rest =
        let h = ltb-false n 10 f in
        let more = length_more n h in
        ap (λ (ds : List ℕ). ds ++ digit (n % 10)) (rest (omega arith)) ∙ sym (decimal_more n h)

-- ---- how many they are at most

-- 10 to the power k + 1
abbrev tens : ℕ → ℕ
tens zero = 10
tens (suc k) = 10 * tens k

at_most : (k n : ℕ) → n < tens k → length (decimal n) ≤ suc k
at_most zero n h = let e = length_one n h in omega arith
at_most (suc k) n h = go (ltb n 10) refl (at_most k (n / 10))
  where
    go : (t : Bool) → ltb n 10 ≡ t → (n / 10 < tens k → length (decimal (n / 10)) ≤ suc k) → length (decimal n) ≤ suc (suc k)
    go true e rest = let l = length_one n (ltb-true n 10 e) in omega arith
    go false e rest =
        let l = length_more n (ltb-false n 10 e) in
        let r = rest (omega arith) in
        omega arith

-- a number of 32 bits has at most ten digits
pub at_most_ten : (n : ℕ) → n < 4_294_967_296 → length (decimal n) ≤ 10
at_most_ten n h = at_most 9 n (omega arith)

-- with the byte after it, eleven bytes
pub at_most_eleven : (n b : ℕ) → n < 4_294_967_296 → length (decimal n ++ (b ∷ [])) ≤ 11
at_most_eleven n b h =
    let few = at_most_ten n h in
    let l = length-append (decimal n) (b ∷ []) in
    omega arith
