-- Bytes of a list from a place on: how many they are, how they are split and joined, and the number that they are. Assumes nothing.
use mathlib.Core.List.{List, [], ◌∷◌, ◌++◌}
use mathlib.Core.Path.{◌≡◌, refl, sym, ap, ◌∙◌}
use Prim.Native.Nat.{ℕ, zero, suc, ◌+◌, ◌*◌, ◌≤◌, ◌<◌}
use native.Mathlib.Nat.{add-suc, add-zero, le_of_suc-le-suc, not-suc-le-zero, suc-add, zero-add}
use native.Mathlib.Omega.{arith}
use lib.ListN.{drop, get_or, length, take, take-append-drop}
use lib.Seq.{get_or-append-add, length-take-le}
use Rattle.std.proofs.lemmas.List.{ext_get_or}
use Rattle.numbers.specs.Little.{bytes_at, number_at}
use Rattle.numbers.proofs.LittleLaws.{past_the_end, value_of, whole}

pub bytes_length : (width place : ℕ) (bytes : List ℕ) → length (bytes_at width place bytes) ≡ width
bytes_length zero place bytes = refl
bytes_length (suc width) place bytes = ap suc (bytes_length width (suc place) bytes)

pub byte_of : (width place : ℕ) (bytes : List ℕ) (i : ℕ) → i < width → get_or (bytes_at width place bytes) i 0 ≡ get_or bytes (place + i) 0
byte_of zero place bytes i h = absurd (not-suc-le-zero h)
byte_of (suc width) place bytes zero h = ap (λ (k : ℕ). get_or bytes k 0) (sym (add-zero place))
byte_of (suc width) place bytes (suc i) h =
    let p : suc place + i ≡ place + suc i = omega arith in
    byte_of width (suc place) bytes i (le_of_suc-le-suc h) ∙ ap (λ (k : ℕ). get_or bytes k 0) p

-- a list is those bytes, if it is as long and has each of them
pub bytes_are : (width place : ℕ) (bytes found : List ℕ) → length found ≡ width → ((i : ℕ) → i < width → get_or found i 0 ≡ get_or bytes (place + i) 0)
    → found ≡ bytes_at width place bytes
bytes_are width place bytes found e h =
    ext_get_or 0 found (bytes_at width place bytes) (e ∙ sym (bytes_length width place bytes))
    (λ i l. let k : i < width = omega arith in h i k ∙ sym (byte_of width place bytes i k))

pub bytes_split : (m n place : ℕ) (bytes : List ℕ) → bytes_at (m + n) place bytes ≡ bytes_at m place bytes ++ bytes_at n (place + m) bytes
bytes_split zero n place bytes =
    ap (λ (k : ℕ). bytes_at k place bytes) (zero-add n) ∙ ap (λ (p : ℕ). bytes_at n p bytes) (sym (add-zero place))
bytes_split (suc m) n place bytes =
    let p : suc place + m ≡ place + suc m = omega arith in
    ap (λ (k : ℕ). bytes_at k place bytes) (suc-add m n)
    ∙ ap (λ (l : List ℕ). get_or bytes place 0 ∷ l) (bytes_split m n (suc place) bytes)
    ∙ ap (λ (k : ℕ). get_or bytes place 0 ∷ (bytes_at m (suc place) bytes ++ bytes_at n k bytes)) p

-- ---- of two lists joined

pub bytes_past : (width n place : ℕ) (xs ys : List ℕ) → length xs ≡ n → bytes_at width (n + place) (xs ++ ys) ≡ bytes_at width place ys
bytes_past zero n place xs ys e = refl
bytes_past (suc width) n place xs ys e =
    let first : get_or (xs ++ ys) (n + place) 0 ≡ get_or ys place 0 =
    ap (λ (k : ℕ). get_or (xs ++ ys) (k + place) 0) (sym e) ∙ get_or-append-add xs ys place 0 in
    ap (λ (x : ℕ). x ∷ bytes_at width (suc (n + place)) (xs ++ ys)) first
    ∙ ap (λ (k : ℕ). get_or ys place 0 ∷ bytes_at width k (xs ++ ys)) (sym (add-suc n place))
    ∙ ap (λ (l : List ℕ). get_or ys place 0 ∷ l) (bytes_past width n (suc place) xs ys e)

pub bytes_front : (width : ℕ) (xs ys : List ℕ) → length xs ≡ width → bytes_at width 0 (xs ++ ys) ≡ xs
bytes_front zero [] ys e = refl
bytes_front zero (x ∷ xs) ys e = let no : ⊥ = omega arith in absurd no
bytes_front (suc width) [] ys e = let no : ⊥ = omega arith in absurd no
bytes_front (suc width) (x ∷ xs) ys e =
    let h : length xs ≡ width = omega arith in
    ap (λ (l : List ℕ). x ∷ l) (bytes_past width 1 0 (x ∷ []) (xs ++ ys) refl ∙ bytes_front width xs ys h)

pub bytes_taken : (width : ℕ) (bytes : List ℕ) → width ≤ length bytes → bytes_at width 0 bytes ≡ take width bytes
bytes_taken width bytes h =
    sym (ap (bytes_at width 0) (take-append-drop width bytes)) ∙ bytes_front width (take width bytes) (drop width bytes) (length-take-le width bytes h)

-- ---- the number that they are

pub number_is : (width place : ℕ) (bytes : List ℕ) → number_at width place bytes ≡ value_of (bytes_at width place bytes)
number_is zero place bytes = refl
number_is (suc width) place bytes = ap (λ (n : ℕ). get_or bytes place 0 + 256 * n) (number_is width (suc place) bytes)

-- the bytes taken out are the same number
pub number_taken : (width place : ℕ) (bytes : List ℕ) → number_at width 0 (bytes_at width place bytes) ≡ number_at width place bytes
number_taken width place bytes =
    number_is width 0 (bytes_at width place bytes) ∙ ap value_of (whole width (bytes_at width place bytes) (bytes_length width place bytes))
    ∙ sym (number_is width place bytes)

-- zeros behind a number change nothing
pub number_widened : (width : ℕ) (bytes : List ℕ) → length bytes ≤ width → number_at width 0 bytes ≡ value_of bytes
number_widened width [] h = past_the_end width 0 [] (omega arith)
number_widened zero (x ∷ xs) h = let no : ⊥ = omega arith in absurd no
number_widened (suc width) (x ∷ xs) h =
    let k : length xs ≤ width = omega arith in
    ap (λ (n : ℕ). x + 256 * n) (number_is width 1 (x ∷ xs) ∙ ap value_of (bytes_past width 1 0 (x ∷ []) xs refl) ∙ sym (number_is width 0 xs)
    ∙ number_widened width xs k)
