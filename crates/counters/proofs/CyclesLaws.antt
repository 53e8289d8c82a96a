-- The cycles after a window, and what acceptance says of the drain: it is below 65,535 × G, and stays so. Assumes nothing.
use mathlib.Core.Bool.{true}
use mathlib.Core.Path.{◌≡◌, sym, ap, ◌∙◌}
use Prim.Native.Nat.{ℕ, ◌+◌, ◌/◌, ◌%◌, ◌^◌, ◌≤◌, ◌<◌, min}
use native.Mathlib.Nat.{div-eq_of_lt, div-zero, mod-eq_of_lt, mod-le, mod-lt, mod-zero}
use native.Mathlib.Omega.{arith}
use borrow.Author.Tests.{lt-ltb, ltb-true}
use Rattle.grains.specs.Grains.{grains_of_counts, grains_of_current, most_drain, saturating_sum}
use Rattle.sample.specs.Current.{discharge_current}
use Rattle.sample.specs.declared.current.Current.{Current}
use Rattle.counters.specs.Cycles.{cycles_accepted, cycles_moved, cyct_after, drain_with, most_cycles}
use Rattle.counters.specs.declared.cycles.Cycles.{Cycles}

abbrev pub cycles_of : ℕ → ℕ → Cycles
cycles_of cyct drain = record { cyct = cyct; drain = drain }

pub cycles_alike : {m n d e : ℕ} → m ≡ n → d ≡ e → cycles_of m d ≡ cycles_of n e
cycles_alike p q = cc

-- ---- each way of the functions

pub drain_with_lem : (c : Current) (drain : ℕ) {i g s : ℕ} → i ≡ discharge_current c → g ≡ grains_of_current i → s ≡ saturating_sum drain g → s ≡ drain_with c drain
unfolding drain_with
drain_with_lem c drain p q e = e ∙ ap (saturating_sum drain) (q ∙ ap grains_of_current p)

module _ (lmd : ℕ) (c : Current) (x : Cycles) (small : x.cyct ≤ most_cycles) {d : ℕ} (s : d ≡ drain_with c x.drain) where
  -- where nothing is whole, the drain is its own remainder
  nothing_whole : d / grains_of_counts lmd ≡ 0 → d % grains_of_counts lmd ≡ d → cycles_of x.cyct d ≡ cycles_moved lmd c x
  unfolding cycles_moved cyct_after
  nothing_whole q r =
      let n : x.cyct ≡ min (x.cyct + d / grains_of_counts lmd) most_cycles = omega arith in
      cycles_alike (n ∙ ap (λ (w : ℕ). min (x.cyct + w / grains_of_counts lmd) most_cycles) s)
      (sym r ∙ ap (λ (w : ℕ). w % grains_of_counts lmd) s)

  pub not_whole : {w : ℕ} → w ≡ grains_of_counts lmd → d < w → cycles_of x.cyct d ≡ cycles_moved lmd c x
  not_whole p h =
      let below : d < grains_of_counts lmd = omega arith in
      nothing_whole (div-eq_of_lt below) (mod-eq_of_lt below)

  -- an LMD of 0 divides nothing
  pub nothing_learned : lmd ≡ 0 → cycles_of x.cyct d ≡ cycles_moved lmd c x
  nothing_learned z =
      let none : grains_of_counts lmd ≡ 0 = omega arith in
      nothing_whole (ap (λ (w : ℕ). d / w) none ∙ div-zero d) (ap (λ (w : ℕ). d % w) none ∙ mod-zero d)

  pub whole_counted : {w n : ℕ} → w ≡ grains_of_counts lmd → n ≡ cyct_after x.cyct (d / w) → cycles_of n (d % w) ≡ cycles_moved lmd c x
  unfolding cycles_moved
  whole_counted {w} p e =
      cycles_alike (e ∙ ap (λ (v : ℕ). cyct_after x.cyct (d / v)) p ∙ ap (λ (v : ℕ). cyct_after x.cyct (v / grains_of_counts lmd)) s)
      (ap (λ (v : ℕ). d % v) p ∙ ap (λ (v : ℕ). v % grains_of_counts lmd) s)

-- an accepted drain gains without the stop of the sum
pub drain_sum : (c : Current) (drain : ℕ) → drain < most_drain → discharge_current c ≤ 65_535 → drain_with c drain ≡ drain + grains_of_current (discharge_current c)
unfolding drain_with
drain_sum c drain h k = omega arith

-- ---- widths

pub moved_cyct : (lmd : ℕ) (c : Current) (x : Cycles) → (cycles_moved lmd c x).cyct < 65_536
unfolding cycles_moved cyct_after
moved_cyct lmd c x = omega arith

pub moved_drain : (lmd : ℕ) (c : Current) (x : Cycles) → (cycles_moved lmd c x).drain < 256 ^ 8
unfolding cycles_moved drain_with
moved_drain lmd c x = let h = mod-le (drain_with c x.drain) (grains_of_counts lmd) in omega arith

-- ---- what 14 asks

pub drain_below : (x : Cycles) → cycles_accepted x ≡ true → x.drain < most_drain
unfolding cycles_accepted
drain_below x e = ltb-true x.drain most_drain e

pub drain_accepted : (x : Cycles) → x.drain < most_drain → cycles_accepted x ≡ true
unfolding cycles_accepted
drain_accepted x h = lt-ltb x.drain most_drain h

-- a remainder of LMD × G is below 65,535 × G
pub moved_below : (lmd : ℕ) (c : Current) (x : Cycles) → 0 < lmd → lmd < 65_536 → (cycles_moved lmd c x).drain < most_drain
unfolding cycles_moved
moved_below lmd c x h k =
    let positive : 0 < grains_of_counts lmd = omega arith in
    let r = mod-lt (drain_with c x.drain) positive in
    omega arith
