-- A word read byte by byte is the number of its bytes together. The magnitude kept stops at `past`, from where no digit brings it
-- back into the range; the law is stated over the value of the digits read so far. Assumes nothing.
use mathlib.Core.Bool.{Bool, true, false, ◌&&◌, cond}
use mathlib.Core.List.{List, [], ◌∷◌}
use mathlib.Core.Path.{◌≡◌, refl, ap, ◌∙◌}
use Rattle.std.specs.Prelude.{Option, Some, None, ℤ}
use Prim.Native.Nat.{ℕ, ◌+◌, ◌-◌, ◌*◌, ◌<◌, min}
use native.Mathlib.Omega.{arith}
use lib.Dec.{eqb, leb}
use borrow.Author.Tests.{lt-leb, leb-true, leb-false}
use Rattle.lines.specs.Number.{is_digit, all_digits, value_from, greatest, signed, ranged, unsigned, number}
use Rattle.lines.specs.Word.{past, grown, digit_fed, first_fed, word_fed, word_number, word_fed_all}
use Rattle.lines.specs.declared.word.Word.TheVariants.{Empty, Minus, Digits, Other}

greatest_below : (negative : Bool) → greatest negative < past
greatest_below true = omega arith
greatest_below false = omega arith

-- the magnitude that is kept is in the range exactly where the value is
ranged_kept : (negative : Bool) (v : ℕ) → ranged negative (min v past) ≡ ranged negative v
unfolding ranged
ranged_kept negative v = go (leb v (greatest negative)) refl
  where
    go : (t : Bool) → leb v (greatest negative) ≡ t
        → cond (leb (min v past) (greatest negative)) (Some (signed negative (min v past))) None
        ≡ cond (leb v (greatest negative)) (Some (signed negative v)) None
    go true e =
        let h = leb-true v (greatest negative) e in
        let g = greatest_below negative in
        let k : min v past ≡ v = omega arith in
        ap (λ (n : ℕ). cond (leb n (greatest negative)) (Some (signed negative n)) None) k
    go false e =
        let h = leb-false v (greatest negative) e in
        let g = greatest_below negative in
        let k : greatest negative < min v past = omega arith in
        simp (lt-leb _ _ h, lt-leb _ _ k)

grown_kept : (v d : ℕ) → grown (min v past) d ≡ min (10 * v + d) past
unfolding grown
grown_kept v d = omega arith

other_stays : (bs : List ℕ) → word_fed_all Other bs ≡ Other
unfolding word_fed_all word_fed
other_stays [] = refl
other_stays (b ∷ bs) = other_stays bs

abbrev digits_are : Bool → ℕ → Bool → List ℕ → Option ℤ
digits_are negative v test bs = cond test (ranged negative (value_from v bs)) None

digits_read : (negative : Bool) (v : ℕ) (bs : List ℕ)
    → word_number (word_fed_all (Digits negative (min v past)) bs) ≡ digits_are negative v (all_digits bs) bs
unfolding word_number word_fed_all word_fed digit_fed all_digits value_from
digits_read negative v [] = ranged_kept negative v
digits_read negative v (b ∷ bs) = go (is_digit b) (digits_read negative (10 * v + (b - 48)) bs)
  where
    go : (t : Bool)
        → word_number (word_fed_all (Digits negative (min (10 * v + (b - 48)) past)) bs)
        ≡ digits_are negative (10 * v + (b - 48)) (all_digits bs) bs
        → word_number (word_fed_all (cond t (Digits negative (grown (min v past) (b - 48))) Other) bs)
        ≡ digits_are negative v (t && all_digits bs) (b ∷ bs)
    go true rest = ap (λ (n : ℕ). word_number (word_fed_all (Digits negative n) bs)) (grown_kept v (b - 48)) ∙ rest
    go false rest = ap word_number (other_stays bs)

-- digits from the first on
first_read : (negative : Bool) (b : ℕ) (bs : List ℕ)
    → word_number (word_fed_all (digit_fed negative 0 b) bs) ≡ unsigned negative (b ∷ bs)
unfolding unsigned word_fed_all word_fed
first_read negative b bs = digits_read negative 0 (b ∷ bs)

minus_read : (bs : List ℕ) → word_number (word_fed_all Minus bs) ≡ unsigned true bs
unfolding word_number word_fed_all word_fed unsigned
minus_read [] = refl
minus_read (b ∷ bs) = first_read true b bs

pub number_read : (bs : List ℕ) → word_number (word_fed_all Empty bs) ≡ number bs
unfolding word_number word_fed_all word_fed first_fed number
number_read [] = refl
number_read (b ∷ bs) = go (eqb b 45)
  where
    go : (t : Bool) → word_number (word_fed_all (cond t Minus (digit_fed false 0 b)) bs)
        ≡ cond t (unsigned true bs) (unsigned false (b ∷ bs))
    go true = minus_read bs
    go false = first_read false b bs
