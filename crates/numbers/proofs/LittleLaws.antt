-- Numbers as bytes, low byte first: every law over the width. Assumes nothing.
use mathlib.Core.List.{List, [], ◌∷◌}
use mathlib.Core.Path.{◌≡◌, refl, sym, ap, ◌∙◌}
use Prim.Native.Nat.{ℕ, zero, suc, ◌+◌, ◌*◌, ◌/◌, ◌%◌, ◌^◌, ◌≤◌, ◌<◌}
use native.Mathlib.Nat.{add-zero, mul_assoc, mul_comm, not-suc-le-zero, pow-suc, suc-add, zero-add}
use native.Mathlib.Omega.{arith}
use lib.ListN.{drop, get_or, length, get_or-eq_default}
use lib.Seq.{drop-cons, drop-length}
use Rattle.numbers.specs.Little.{bytes_at, little, number_at}

-- a number in two parts
pub number_split : (m n place : ℕ) (bytes : List ℕ)
    → number_at (m + n) place bytes ≡ number_at m place bytes + 256 ^ m * number_at n (place + m) bytes
number_split zero n place bytes =
    let e : number_at (0 + n) place bytes ≡ number_at n (place + 0) bytes =
    ap (λ (k : ℕ). number_at k place bytes) (zero-add n) ∙ ap (λ (p : ℕ). number_at n p bytes) (sym (add-zero place)) in
    omega arith
number_split (suc m) n place bytes =
    let x = number_at n (place + suc m) bytes in
    let ih = number_split m n (suc place) bytes in
    let p : suc place + m ≡ place + suc m = omega arith in
    let same : number_at n (suc place + m) bytes ≡ number_at n (place + suc m) bytes = ap (λ (k : ℕ). number_at n k bytes) p in
    let scaled : 256 ^ suc m * number_at n (place + suc m) bytes ≡ 256 * (256 ^ m * number_at n (place + suc m) bytes) =
    ap (λ (k : ℕ). k * number_at n (place + suc m) bytes) (pow-suc 256 m ∙ mul_comm (256 ^ m) 256)
    ∙ mul_assoc 256 (256 ^ m) (number_at n (place + suc m) bytes) in
    let whole : number_at (suc m + n) place bytes ≡ get_or bytes place 0 + 256 * number_at (m + n) (suc place) bytes =
    ap (λ (k : ℕ). number_at k place bytes) (suc-add m n) in
    let product : 256 ^ m * number_at n (suc place + m) bytes ≡ 256 ^ m * number_at n (place + suc m) bytes =
    ap (λ (k : ℕ). 256 ^ m * k) same in
    omega arith

-- the number of one byte is the byte
pub one_is : (place : ℕ) (bytes : List ℕ) → number_at 1 place bytes ≡ get_or bytes place 0
one_is place bytes = omega arith

-- past the end of the list every number is 0
pub past_the_end : (width place : ℕ) (bytes : List ℕ) → length bytes ≤ place → number_at width place bytes ≡ 0
past_the_end zero place bytes h = refl
past_the_end (suc width) place bytes h =
    let byte = get_or-eq_default bytes 0 h in
    let further = past_the_end width (suc place) bytes (omega arith) in
    omega arith

-- the number that bytes are
abbrev pub value_of : List ℕ → ℕ
value_of [] = 0
value_of (b ∷ bs) = b + 256 * value_of bs

-- a number that fits its width is the one that its bytes are
pub read_back : (width value : ℕ) → value < 256 ^ width → value_of (little width value) ≡ value
read_back zero value h = let e : value < 1 = h in omega arith
read_back (suc width) value h =
    let k : value < 256 ^ width * 256 = rw (pow-suc 256 width) at h in
    let q : value / 256 < 256 ^ width = omega arith in
    let ih = read_back width (value / 256) q in
    omega arith

-- bytes are those of the number that they are
pub write_back : (width place : ℕ) (bytes : List ℕ) → ((k : ℕ) → get_or bytes k 0 < 256)
    → little width (number_at width place bytes) ≡ bytes_at width place bytes
write_back zero place bytes h = refl
write_back (suc width) place bytes h =
    let b = h place in
    let low : number_at (suc width) place bytes % 256 ≡ get_or bytes place 0 = omega arith in
    let high : number_at (suc width) place bytes / 256 ≡ number_at width (suc place) bytes = omega arith in
    ap (λ (x : ℕ). x ∷ little width (number_at (suc width) place bytes / 256)) low
    ∙ ap (λ (x : ℕ). get_or bytes place 0 ∷ little width x) high
    ∙ ap (λ (l : List ℕ). get_or bytes place 0 ∷ l) (write_back width (suc place) bytes h)

-- a number of at most that many bytes fits their width
pub number_within : (most width place : ℕ) (bytes : List ℕ) → ((k : ℕ) → get_or bytes k 0 < 256) → width ≤ most → number_at width place bytes < 256 ^ most
number_within zero zero place bytes h w = omega arith
number_within zero (suc width) place bytes h w = absurd (not-suc-le-zero w)
number_within (suc most) zero place bytes h w =
    let p = pow-suc 256 most in
    let ih = number_within most zero place bytes h (omega arith) in
    omega arith
number_within (suc most) (suc width) place bytes h w =
    let p = pow-suc 256 most in
    let b = h place in
    let ih = number_within most width (suc place) bytes h (omega arith) in
    omega arith

-- a number of two bytes fits them
pub number_fits : (place : ℕ) (bytes : List ℕ) → ((k : ℕ) → get_or bytes k 0 < 256) → number_at 2 place bytes < 65_536
number_fits place bytes h = let a = h place in let b = h (suc place) in omega arith

-- the bytes from a place to the end are what is left of the list
pub bytes_from : (n i : ℕ) (s : List ℕ) → i + n ≡ length s → bytes_at n i s ≡ drop i s
bytes_from zero i s e =
    let h : length s ≡ i = omega arith in
    sym (drop-length s) ∙ ap (λ (k : ℕ). drop k s) h
bytes_from (suc n) i s e =
    let h : i < length s = omega arith in
    ap (λ (l : List ℕ). get_or s i 0 ∷ l) (bytes_from n (suc i) s (omega arith)) ∙ sym (drop-cons s i 0 h)

-- a list is its bytes from the first to the last
pub whole : (width : ℕ) (bytes : List ℕ) → length bytes ≡ width → bytes_at width 0 bytes ≡ bytes
whole width bytes e = bytes_from width 0 bytes (let h : 0 + width ≡ length bytes = omega arith in h)
