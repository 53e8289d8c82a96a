-- Laws of the copy: the bytes of one pair stored, registers from the middle of the whole map, and what a copy of them leaves. Assumes nothing.
use mathlib.Core.List.{List, [], ◌∷◌, ◌++◌}
use mathlib.Core.Path.{◌≡◌, refl, ap, ◌∙◌}
use Prim.Native.Nat.{ℕ, zero, suc, ◌+◌, ◌-◌, ◌*◌, ◌/◌, ◌%◌, ◌≤◌}
use native.Mathlib.Nat.{le_of_suc-le-suc, not-suc-le-zero}
use native.Mathlib.Omega.{arith}
use lib.ListN.{drop, length, set, take}
use Rattle.gauge.specs.declared.state.Gauge.{Gauge}
use Rattle.registers.proofs.CopyLaws.{copied_all}
use Rattle.registers.specs.Map.{pair_at, register, register_count, registers_from}
use Rattle.registers.specs.Reading.{pair_bytes}
use Rattle.registers.specs.Whole.{whole_map}
use Rattle.looks.proofs.MapLaws.{high_shown, low_shown}

-- ---- the bytes of one pair of addresses: one of them, or both

-- a store in each place of a list leaves the values alone
pub one_stored : (s : List ℕ) (v : ℕ) → length s ≡ 1 → set s 0 v ≡ v ∷ []
one_stored [] v e = absurd (omega arith)
one_stored (x ∷ []) v e = refl
one_stored (x ∷ (y ∷ s)) v e = absurd (omega arith)

pub two_stored : (s : List ℕ) (v w : ℕ) → length s ≡ 2 → set (set s 0 v) 1 w ≡ v ∷ (w ∷ [])
two_stored [] v w e = absurd (omega arith)
two_stored (x ∷ []) v w e = absurd (omega arith)
two_stored (x ∷ (y ∷ [])) v w e = refl
two_stored (x ∷ (y ∷ (z ∷ s))) v w e = absurd (omega arith)

-- they are the registers at its addresses
module _ (g : Gauge) (a pair : ℕ) (e : pair ≡ pair_at g (a / 2)) where
  registers_are : (from n : ℕ) → a % 2 ≡ from → 1 ≤ n → from + n ≤ 2 → pair_bytes pair from n ≡ registers_from g a n
  unfolding registers_from
  registers_are zero (suc zero) r some fits =
      let even : 2 * (a / 2) ≡ a = omega arith in
      ap (λ (v : ℕ). v ∷ []) (low_shown g (a / 2) a pair e even)
  registers_are zero (suc (suc zero)) r some fits =
      let even : 2 * (a / 2) ≡ a = omega arith in
      let odd : 2 * (a / 2) + 1 ≡ suc a = omega arith in
      ap (λ (v : ℕ). v ∷ (pair / 256 % 256 ∷ [])) (low_shown g (a / 2) a pair e even)
      ∙ ap (λ (v : ℕ). register g a ∷ (v ∷ [])) (high_shown g (a / 2) (suc a) pair e odd)
  registers_are (suc zero) (suc zero) r some fits =
      let odd : 2 * (a / 2) + 1 ≡ a = omega arith in
      ap (λ (v : ℕ). v ∷ []) (high_shown g (a / 2) a pair e odd)
  registers_are (suc (suc from)) (suc n) r some fits = absurd (omega arith)
  registers_are (suc zero) (suc (suc n)) r some fits = absurd (omega arith)
  registers_are zero (suc (suc (suc n))) r some fits = absurd (omega arith)
  registers_are zero zero r some fits = absurd (omega arith)
  registers_are (suc zero) zero r some fits = absurd (omega arith)
  registers_are (suc (suc from)) zero r some fits = absurd (omega arith)

  pub pair_copied : (n : ℕ) → 1 ≤ n → a % 2 + n ≤ 2 → pair_bytes pair (a % 2) n ≡ registers_from g a n
  pair_copied n some fits = registers_are (a % 2) n refl some fits

-- ---- registers from the middle of others

length_registers_from : (g : Gauge) (a n : ℕ) → length (registers_from g a n) ≡ n
unfolding registers_from
length_registers_from g a zero = refl
length_registers_from g a (suc n) = ap suc (length_registers_from g (suc a) n)

take_registers : (g : Gauge) (a n m : ℕ) → n ≤ m → take n (registers_from g a m) ≡ registers_from g a n
unfolding registers_from
take_registers g a zero m h = refl
take_registers g a (suc n) zero h = absurd (not-suc-le-zero h)
take_registers g a (suc n) (suc m) h = ap (λ (l : List ℕ). register g a ∷ l) (take_registers g (suc a) n m (le_of_suc-le-suc h))

drop_registers : (g : Gauge) (a n m : ℕ) → drop n (registers_from g a (n + m)) ≡ registers_from g (a + n) m
unfolding registers_from
drop_registers g a zero m =
    let none : 0 + m ≡ m = omega arith in
    let here : a ≡ a + 0 = omega arith in
    ap (registers_from g a) none ∙ ap (λ (k : ℕ). registers_from g k m) here
drop_registers g a (suc n) m =
    let more : suc n + m ≡ suc (n + m) = omega arith in
    let next : suc a + n ≡ a + suc n = omega arith in
    ap (λ (k : ℕ). drop (suc n) (registers_from g a k)) more
    ∙ drop_registers g (suc a) n m
    ∙ ap (λ (k : ℕ). registers_from g k m) next

middle_registers : (g : Gauge) (a n : ℕ) → a + n ≤ register_count → take n (drop a (whole_map g)) ≡ registers_from g a n
middle_registers g a n h =
    let left : register_count ≡ a + (register_count - a) = omega arith in
    let from : 0 + a ≡ a = omega arith in
    ap (λ (k : ℕ). take n (drop a (registers_from g 0 k))) left
    ∙ ap (take n) (drop_registers g 0 a (register_count - a))
    ∙ take_registers g (0 + a) n (register_count - a) (omega arith)
    ∙ ap (λ (k : ℕ). registers_from g k n) from

-- ---- what a copy from the middle of the whole map leaves in a part

pub copied_middle : (g : Gauge) (a : ℕ) (whole part after : List ℕ) → whole ≡ whole_map g → a + length part ≤ register_count
    → after ≡ take (a + length part - a) (drop a whole) ++ drop (length (take (a + length part - a) (drop a whole))) part
    → after ≡ registers_from g a (length part)
copied_middle g a whole part after w h e =
    let count : a + length part - a ≡ length part = omega arith in
    let middle : take (a + length part - a) (drop a whole) ≡ registers_from g a (length part) =
    ap (λ (k : ℕ). take k (drop a whole)) count ∙ ap (λ (l : List ℕ). take (length part) (drop a l)) w ∙ middle_registers g a (length part) h in
    copied_all (take (a + length part - a) (drop a whole)) part after (ap length middle ∙ length_registers_from g a (length part)) e
    ∙ middle
