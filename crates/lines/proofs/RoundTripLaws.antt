-- What is written in decimal is read as the number that was written. Assumes nothing.
use mathlib.Core.Bool.{Bool, true, false, cond, ◌&&◌}
use mathlib.Core.List.{List, [], ◌∷◌, ◌++◌}
use mathlib.Core.Path.{◌≡◌, refl, ap, ◌∙◌}
use Prim.Native.Nat.{ℕ, zero, suc, ◌+◌, ◌-◌, ◌*◌, ◌/◌, ◌%◌, ◌≤◌, ◌<◌}
use native.Mathlib.Omega.{arith}
use lib.Dec.{eqb, leb, ltb}
use borrow.Author.Tests.{le-leb, leb-true, ltb-true, ltb-false, ne_eqb}
use Rattle.lines.specs.Decimal.{decimal_within, decimal}
use Rattle.lines.specs.Number.{is_digit, all_digits, are_digits, value_from, value, ranged, unsigned, number}

-- ---- digits read

and_first : (s t : Bool) → (s && t) ≡ true → s ≡ true
and_first true t e = refl
and_first false t e = e

at_least_zero_lem : (b : ℕ) → is_digit b ≡ true → 48 ≤ b
at_least_zero_lem b e = leb-true 48 b (and_first (leb 48 b) (leb b 57) e)

no_minus : (b : ℕ) → is_digit b ≡ true → eqb b 45 ≡ false
no_minus b e = let h = at_least_zero_lem b e in ne_eqb b 45 (λ p. let z : ⊥ = omega arith in z)

digits_read : (bs : List ℕ) → are_digits bs ≡ true → number bs ≡ ranged false (value bs)
unfolding number unsigned all_digits
digits_read [] e = cc
digits_read (b ∷ bs) e = simp (no_minus b (and_first (is_digit b) (all_digits bs) e), e)

-- ---- a digit more

digit_is : (d : ℕ) → d < 10 → is_digit (48 + d) ≡ true
digit_is d h =
    let low : 48 ≤ 48 + d = omega arith in
    let high : 48 + d ≤ 57 = omega arith in
    simp (le-leb _ _ low, le-leb _ _ high)

all_and_one : (bs : List ℕ) (d : ℕ) → all_digits bs ≡ true → is_digit d ≡ true → all_digits (bs ++ (d ∷ [])) ≡ true
unfolding all_digits
all_and_one [] d e f = simp f
all_and_one (b ∷ bs) d e f = go (is_digit b) (all_and_one bs d) e
  where
    go : (t : Bool) → (all_digits bs ≡ true → is_digit d ≡ true → all_digits (bs ++ (d ∷ [])) ≡ true)
        → (t && all_digits bs) ≡ true → (t && all_digits (bs ++ (d ∷ []))) ≡ true
    go true rest h = rest h f
    go false rest h = h

are_and_one : (bs : List ℕ) (d : ℕ) → are_digits bs ≡ true → is_digit d ≡ true → are_digits (bs ++ (d ∷ [])) ≡ true
are_and_one [] d e f = cc
are_and_one (b ∷ bs) d e f = all_and_one (b ∷ bs) d e f

value_and_one : (v : ℕ) (bs : List ℕ) (d : ℕ) → value_from v (bs ++ (d ∷ [])) ≡ 10 * value_from v bs + (d - 48)
unfolding value_from
value_and_one v [] d = refl
value_and_one v (b ∷ bs) d = value_and_one (10 * v + (b - 48)) bs d

-- ---- digits written

record Written (n : ℕ) (bs : List ℕ) : Type 0 where
  digits : are_digits bs ≡ true
  whole : value bs ≡ n

one_written : (n : ℕ) → n < 10 → Written n ((48 + n) ∷ [])
unfolding value_from all_digits
one_written n h = record { digits = simp (digit_is n h); whole = omega arith }

more_written : (n : ℕ) (bs : List ℕ) → Written (n / 10) bs → Written n (bs ++ ((48 + n % 10) ∷ []))
more_written n bs w =
    let v = value_and_one 0 bs (48 + n % 10) in
    let e = w.whole in
    record { digits = are_and_one bs (48 + n % 10) w.digits (digit_is (n % 10) (omega arith)); whole = omega arith }

written_within : (k n : ℕ) → n < k → Written n (decimal_within k n)
unfolding decimal_within
written_within zero n h = let z : ⊥ = omega arith in absurd z
written_within (suc k) n h = go (ltb n 10) refl (written_within k (n / 10))
  where
    go : (t : Bool) → ltb n 10 ≡ t → (n / 10 < k → Written (n / 10) (decimal_within k (n / 10)))
        → Written n (cond t ((48 + n) ∷ []) (decimal_within k (n / 10) ++ ((48 + n % 10) ∷ [])))
    go true e rest = one_written n (ltb-true n 10 e)
    go false e rest = let big = ltb-false n 10 e in more_written n (decimal_within k (n / 10)) (rest (omega arith))

pub written_read : (n : ℕ) → number (decimal n) ≡ ranged false n
unfolding decimal
written_read n =
    let w = written_within (suc n) n (omega arith) in
    digits_read (decimal_within (suc n) n) w.digits ∙ ap (λ (m : ℕ). ranged false m) w.whole
