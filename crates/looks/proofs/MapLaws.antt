-- Laws of the map: what a row shows at its pair of addresses, which pairs no row covers, that every register is a byte, and the bytes of
-- a pair. At an address that is a numeral the map computes. Assumes nothing.
use mathlib.Core.Bool.{Bool, true, false, ◌&&◌, ◌||◌, cond}
use mathlib.Core.List.{List, [], ◌∷◌}
use mathlib.Core.Path.{◌≡◌, refl, sym, ap, ◌∙◌}
use Prim.Native.Nat.{ℕ, zero, suc, ◌+◌, ◌-◌, ◌*◌, ◌/◌, ◌%◌, ◌≤◌, ◌<◌}
use native.Mathlib.Omega.{arith}
use lib.Dec.{T, eqb, leb, ltb, eqb→eq}
use borrow.Author.Tests.{le-ltb, ne_eqb}
use Rattle.gauge.specs.declared.state.Gauge.{Gauge}
use Rattle.numbers.specs.Little.{byte_at}
use Rattle.numbers.proofs.EveryLaws.{at_each_below}
use Rattle.registers.specs.Map.{Row, configuration_pair, look_up, pair_at, register, rows}

-- ---- a pair of addresses, found at a numeral

pub bytes_shown : {v w low high : ℕ} → v ≡ low → w ≡ high → v < 256 → w < 256 → v + 256 * w ≡ byte_at low 0 + 256 * byte_at high 0
bytes_shown {v} {w} {low} p q h k =
    let whole : v + 256 * w ≡ byte_at v 0 + 256 * byte_at w 0 = omega arith in
    whole ∙ ap (λ (k : ℕ). byte_at k 0 + 256 * byte_at w 0) p ∙ ap (λ (k : ℕ). byte_at low 0 + 256 * byte_at k 0) q

module _ (g : Gauge) {pair n : ℕ} (e : pair ≡ n) where
  -- a value of two bytes, low byte first
  pub shows_pair : {v w : ℕ} → v ≡ w → v < 65_536 → pair_at g n ≡ byte_at w 0 + 256 * byte_at w 1 → v ≡ pair_at g pair
  shows_pair {v} p h at =
      let whole : v ≡ byte_at v 0 + 256 * byte_at v 1 = omega arith in
      whole ∙ ap (λ (k : ℕ). byte_at k 0 + 256 * byte_at k 1) p ∙ sym at ∙ sym (ap (λ (k : ℕ). pair_at g k) e)

  -- two values of one byte
  pub shows_bytes : {v w low high : ℕ} → v ≡ low → w ≡ high → v < 256 → w < 256
      → pair_at g n ≡ byte_at low 0 + 256 * byte_at high 0 → v + 256 * w ≡ pair_at g pair
  shows_bytes p q h k at = bytes_shown p q h k ∙ sym at ∙ sym (ap (λ (k : ℕ). pair_at g k) e)

-- ---- the configuration's bytes stand from 0x76 = 2 * 59 on

configuration_at : (g : Gauge) (k : ℕ) → k < 5 → pair_at g (59 + k) ≡ configuration_pair g.settings k
unfolding register look_up rows
configuration_at g zero h = refl
configuration_at g (suc zero) h = refl
configuration_at g (suc (suc zero)) h = refl
configuration_at g (suc (suc (suc zero))) h = refl
configuration_at g (suc (suc (suc (suc zero)))) h = refl
configuration_at g (suc (suc (suc (suc (suc k))))) h = absurd (none h)
  where
    none : suc (suc (suc (suc (suc k)))) < 5 → ⊥
    none p = omega arith

pub configuration_shown : (g : Gauge) {pair r : ℕ} → 59 ≤ pair → pair < 64 → r ≡ configuration_pair g.settings (pair - 59)
    → r ≡ pair_at g pair
configuration_shown g {pair} from to p =
    let e : 59 + (pair - 59) ≡ pair = omega arith in
    p ∙ sym (configuration_at g (pair - 59) (omega arith)) ∙ ap (λ (k : ℕ). pair_at g k) e

-- ---- the pairs that no row covers, by one test that is computed

zero_unless_covered : Gauge → ℕ → Bool
zero_unless_covered g n = ltb n 15 || (eqb n 16 || (eqb n 21 || eqb (pair_at g n) 0))

uncovered : (g : Gauge) (n : ℕ) → n < 59 → T (zero_unless_covered g n)
unfolding zero_unless_covered register look_up rows
uncovered g n h = at_each_below 59 (zero_unless_covered g) tt n h

-- 0x1E and 0x1F, 0x22 to 0x29, and 0x2C to 0x75
pub shows_nothing : (g : Gauge) (n : ℕ) → 15 ≤ n → (n ≡ 16 → ⊥) → (n ≡ 21 → ⊥) → n < 59 → 0 ≡ pair_at g n
unfolding zero_unless_covered
shows_nothing g n from cedv cyct to =
    sym (eqb→eq (pair_at g n) 0 (simp (le-ltb n 15 from, ne_eqb n 16 cedv, ne_eqb n 21 cyct) at (uncovered g n to)))

-- ---- a register is a byte

look_up_below : (a : ℕ) (rs : List Row) → look_up a rs < 256
unfolding look_up
look_up_below a [] = omega arith
look_up_below a (r ∷ rs) = go (leb r.address a && ltb a (r.address + r.width)) (look_up_below a rs)
  where
    go : (test : Bool) → look_up a rs < 256 → cond test (byte_at r.value (a - r.address)) (look_up a rs) < 256
    go true h = omega arith
    go false h = h

register_below : (g : Gauge) (a : ℕ) → register g a < 256
unfolding register
register_below g a = look_up_below a (rows g)

-- ---- the two bytes of a pair

pub low_shown : (g : Gauge) (n a pair : ℕ) → pair ≡ pair_at g n → 2 * n ≡ a → pair % 256 ≡ register g a
low_shown g n a pair e at =
    let low = register_below g (2 * n) in
    let shown : pair % 256 ≡ register g (2 * n) = omega arith in
    shown ∙ ap (register g) at

pub high_shown : (g : Gauge) (n a pair : ℕ) → pair ≡ pair_at g n → 2 * n + 1 ≡ a → pair / 256 % 256 ≡ register g a
high_shown g n a pair e at =
    let low = register_below g (2 * n) in
    let high = register_below g (2 * n + 1) in
    let shown : pair / 256 % 256 ≡ register g (2 * n + 1) = omega arith in
    shown ∙ ap (register g) at
