-- Fields put among bytes from a place on, one after the other, are what they make together. Assumes nothing.
use mathlib.Core.List.{List, [], ◌∷◌, ◌++◌}
use mathlib.Core.Path.{◌≡◌, refl, sym, ap, ◌∙◌}
use Prim.Native.Nat.{ℕ, zero, suc, ◌+◌, ◌-◌, ◌*◌, ◌/◌, ◌%◌, ◌^◌, ◌≤◌, ◌<◌}
use native.Mathlib.Nat.{div-add-mod, div-div-eq-div-mul, div-one, mod-eq_of_lt, mod-lt, mul-add-mod_self_left, mul_assoc, mul_comm, pow-suc, suc-add, zero-add}
use native.Mathlib.Omega.{arith}
use lib.ListN.{drop, length, set, take}
use borrow.Author.Tests.{eq-eqb}
use lib.Seq.{sets}
use Rattle.std.proofs.lemmas.List.{append_assoc, drop-drop}
use Rattle.std.proofs.lemmas.List.Edits.{sets-eq}
use Rattle.form.specs.Form.{saved_length}
use Rattle.numbers.specs.Little.{little}
use Rattle.saved.specs.Put.{in_form}

pub sets_append : (l : List ℕ) (i n : ℕ) (xs ys : List ℕ) → length xs ≡ n → sets (sets l i xs) (i + n) ys ≡ sets l i (xs ++ ys)
sets_append l i n [] ys e =
    let k : i + n ≡ i = omega arith in
    ap (λ (j : ℕ). sets l j ys) k
sets_append l i n (x ∷ xs) ys e =
    let k : i + n ≡ suc i + length xs = omega arith in
    ap (λ (j : ℕ). sets (sets (set l i x) (suc i) xs) j ys) k ∙ sets_append (set l i x) (suc i) (length xs) xs ys refl

pub little_length : (width v : ℕ) → length (little width v) ≡ width
little_length zero v = refl
little_length (suc width) v = ap suc (little_length width (v / 256))

-- ---- one number

pub one_put : (l : List ℕ) (i v : ℕ) → v < 256 → set l i v ≡ sets l i (little 1 v)
one_put l i v h = let e : v ≡ v % 256 = omega arith in ap (set l i) e

pub pair_put : (l : List ℕ) (i v : ℕ) → v < 65_536 → set (set l i (v % 256)) (i + 1) (v / 256) ≡ sets l i (little 2 v)
pair_put l i v h =
    let k : i + 1 ≡ suc i = omega arith in
    let e : v / 256 ≡ v / 256 % 256 = omega arith in
    ap (λ (j : ℕ). set (set l i (v % 256)) j (v / 256)) k ∙ ap (set (set l i (v % 256)) (suc i)) e

-- ---- a number in two parts

power_positive : (m : ℕ) → 0 < 256 ^ m
power_positive zero = omega arith
power_positive (suc m) = let h = power_positive m in rw (pow-suc 256 m) (omega arith)

-- the low bytes are those of the remainder
little_low : (m v : ℕ) → little m (v % 256 ^ m) ≡ little m v
little_low zero v = refl
little_low (suc m) v =
    let k = 256 ^ m in
    let q = v / (k * 256) in
    let r = v % (k * 256) in
    let pos : 0 < k = power_positive m in
    let sum : k * 256 * q + r ≡ v = div-add-mod v (k * 256) in
    let turned : k * 256 * q ≡ 256 * (k * q) = ap (λ (x : ℕ). x * q) (mul_comm k 256) ∙ mul_assoc 256 k q in
    let wide : 0 < k * 256 = omega arith in
    let below : r < k * 256 = mod-lt v wide in
    let first : r % 256 ≡ v % 256 = omega arith in
    let shifted : v / 256 ≡ k * q + r / 256 = omega arith in
    let small : r / 256 < k = omega arith in
    let rest : r / 256 ≡ v / 256 % k = sym (mod-eq_of_lt small) ∙ sym (mul-add-mod_self_left k q (r / 256)) ∙ ap (λ (x : ℕ). x % k) (sym shifted) in
    ap (λ (x : ℕ). little (suc m) (v % x)) (pow-suc 256 m) ∙ ap (λ (x : ℕ). x ∷ little m (r / 256)) first
    ∙ ap (λ (x : ℕ). v % 256 ∷ little m x) rest ∙ ap (λ (l : List ℕ). v % 256 ∷ l) (little_low m (v / 256))

-- the high ones those of the quotient
little_append : (m n v : ℕ) → little m v ++ little n (v / 256 ^ m) ≡ little (m + n) v
little_append zero n v = ap (little n) (div-one v) ∙ ap (λ (k : ℕ). little k v) (sym (zero-add n))
little_append (suc m) n v =
    let power : 256 ^ suc m ≡ 256 * 256 ^ m = pow-suc 256 m ∙ mul_comm (256 ^ m) 256 in
    let quotient : v / 256 ^ suc m ≡ v / 256 / 256 ^ m = ap (λ (x : ℕ). v / x) power ∙ sym (div-div-eq-div-mul v 256 (256 ^ m)) in
    ap (λ (x : ℕ). v % 256 ∷ (little m (v / 256) ++ little n x)) quotient
    ∙ ap (λ (l : List ℕ). v % 256 ∷ l) (little_append m n (v / 256)) ∙ ap (λ (k : ℕ). little k v) (sym (suc-add m n))

pub parts_put_lem : (m n : ℕ) (l l1 l2 : List ℕ) (i v : ℕ) → l1 ≡ sets l i (little m (v % 256 ^ m)) → l2 ≡ sets l1 (i + m) (little n (v / 256 ^ m))
    → l2 ≡ sets l i (little (m + n) v)
parts_put_lem m n l l1 l2 i v p q =
    let low = p ∙ ap (sets l i) (little_low m v) in
    q ∙ ap (λ (x : List ℕ). sets x (i + m) (little n (v / 256 ^ m))) low
    ∙ sets_append l i m (little m v) (little n (v / 256 ^ m)) (little_length m v) ∙ ap (sets l i) (little_append m n v)

-- ---- one field

pub field_put : (l : List ℕ) (i n : ℕ) {vs ws : List ℕ} → length vs ≡ n → ws ≡ vs → i + n ≤ length l
    → take i l ++ (ws ++ drop (i + n - i) (drop i l)) ≡ sets l i vs
field_put l i n {vs} e w h =
    let k : i + (i + n - i) ≡ i + length vs = omega arith in
    ap (λ (x : List ℕ). take i l ++ (x ++ drop (i + n - i) (drop i l))) w
    ∙ ap (λ (r : List ℕ). take i l ++ (vs ++ r)) (drop-drop (i + n - i) i l ∙ ap (λ (j : ℕ). drop j l) k)
    ∙ sym (append_assoc (take i l) vs (drop (i + length vs) l)) ∙ sym (sets-eq vs l i (omega arith))

-- ---- a part

module _ (bytes : List ℕ) where
  pub put_done : {after r : List ℕ} → length bytes ≡ saved_length → r ≡ after → r ≡ in_form bytes after
  put_done l e = simp (eq-eqb (length bytes) saved_length l) e
