-- What ties a gauge's charge to a history: the charge held is H, LMD is L, and the run the history's. H as a difference of naturals, and
-- the history's run beside the gauge's. Assumes nothing.
use mathlib.Core.Bool.{Bool, true, false, cond}
use mathlib.Core.Option.{Option, none, some}
use mathlib.Core.Path.{◌≡◌, refl, ap, ◌∙◌}
use Prim.Native.Nat.{ℕ, ◌+◌, ◌-◌, ◌*◌, ◌≤◌}
use native.Mathlib.Omega.{arith}
use lib.IntN.{ℤ, pos, ◌+ℤ◌, ◌*ℤ◌}
use Rattle.charge.specs.declared.charge.Charge.{Charge}
use Rattle.grains.specs.Grains.{most_grains, passes, saturating_sum}
use Rattle.grains.specs.Run.{drained, no_run, unless_passed}
use Rattle.history.specs.Account.{Account}
use Rattle.history.specs.Claim.{run_of}
use Rattle.history.specs.Drain.{gains, unless_above}
use Rattle.history.specs.Sums.{Sums, charge_of, fixed_at, grains_a_unit, with_current, with_leak}
use Rattle.history.proofs.DifferenceLaws.{Difference, is_natural, less, of_natural, of_parts, scaled, sum}

pub record Tracks (y : Charge) (x : Account) : Type 0 where
  pub held : charge_of x.sums ≡ pos y.held
  pub lmd : y.lmd ≡ x.learned
  pub run : y.run ≡ run_of x.run

-- ---- H

-- H is P + 192,000 × a − (192,000 × b + K), where Q is a − b
pub charge_difference : (s : Sums) (a b : ℕ) → Difference s.counted a b
    → Difference (charge_of s) (s.fixed + grains_a_unit * a) (grains_a_unit * b + s.leaked)
unfolding charge_of
charge_difference s a b d =
    let p = sum (pos s.fixed) (pos grains_a_unit *ℤ s.counted) s.fixed 0 (grains_a_unit * a) (grains_a_unit * b)
    (of_natural s.fixed) (scaled s.counted a b d) in
    let e = (less (pos s.fixed +ℤ pos grains_a_unit *ℤ s.counted) (pos s.leaked) (s.fixed + grains_a_unit * a) (0 + grains_a_unit * b)
    s.leaked 0 p (of_natural s.leaked)).balance in
    record { balance = omega arith }

-- H fixed at a value is that value
pub fixed_is : (value : ℕ) → charge_of (fixed_at value) ≡ pos value
fixed_is value =
    let e : value + grains_a_unit * 0 - (grains_a_unit * 0 + 0) ≡ value = omega arith in
    is_natural (charge_of (fixed_at value)) (value + grains_a_unit * 0) (grains_a_unit * 0 + 0) (omega arith)
    (charge_difference (fixed_at value) 0 0 (of_natural 0))
    ∙ ap pos e

-- K gains a leak
pub leaked_difference : (s : Sums) (h l : ℕ) → charge_of s ≡ pos h → Difference (charge_of (with_leak l s)) h l
leaked_difference s h l e =
    let d = of_parts s.counted in
    let old = rw e at (charge_difference s _ _ d) in
    let now = old.balance in
    let new = (charge_difference (with_leak l s) _ _ d).balance in
    record { balance = omega arith }

-- K gains a leak and Q a current, which is a − b
pub moved_difference : (s : Sums) (h l : ℕ) (z : ℤ) (a b : ℕ) → charge_of s ≡ pos h → Difference z a b
    → Difference (charge_of (with_current z (with_leak l s))) (h + grains_a_unit * a) (l + grains_a_unit * b)
moved_difference s h l z a b e c =
    let d = of_parts s.counted in
    let old = rw e at (charge_difference s _ _ d) in
    let now = old.balance in
    let new = (charge_difference (with_current z (with_leak l s)) _ _ (sum s.counted z _ _ a b d c)).balance in
    record { balance = omega arith }

-- ---- the run

-- R, and 0 without a run
abbrev pub drain_in : Option ℕ → ℕ
drain_in none = 0
drain_in (some r) = r

pub drain_is : (r : Option ℕ) → (run_of r).dcr ≡ drain_in r
drain_is none = refl
drain_is (some n) = refl

passed_is : (test : Bool) (n : ℕ) → cond test no_run (record { vdq = true; dcr = n }) ≡ run_of (cond test none (some n))
passed_is true n = refl
passed_is false n = refl

-- the drain gains without the stop of the sum
pub drained_is : (r : Option ℕ) (n : ℕ) → drain_in r + n ≤ most_grains → drained (run_of r) n ≡ run_of (gains n r)
unfolding drained gains
drained_is none n h = refl
drained_is (some m) n h =
    let e : saturating_sum m n ≡ m + n = omega arith in
    ap (λ (k : ℕ). run_of (some k)) e

pub passing_is : (r : Option ℕ) → unless_passed (run_of r) ≡ run_of (unless_above r)
unfolding unless_passed unless_above
passing_is none = refl
passing_is (some n) = passed_is (passes n) n

pub gains_again : (r : Option ℕ) (m n : ℕ) → gains n (gains m r) ≡ gains (m + n) r
unfolding gains
gains_again none m n = refl
gains_again (some k) m n =
    let e : k + m + n ≡ k + (m + n) = omega arith in
    ap some e

pub gained_drain : (r : Option ℕ) (n : ℕ) → drain_in (gains n r) ≤ drain_in r + n
unfolding gains
gained_drain none n = omega arith
gained_drain (some k) n = omega arith
