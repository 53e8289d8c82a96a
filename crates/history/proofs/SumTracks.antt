-- The leak and the sums of a window and of a rest move the gauge's charge and the history alike: H is what was held, what came in, less
-- what leaked and went out; the run's drain stays far below where the gauge's sum would stop. Assumes nothing.
use mathlib.Core.Bool.{Bool, true, false, cond}
use mathlib.Core.Option.{Option, none}
use mathlib.Core.Path.{◌≡◌, refl, sym, ap, ◌∙◌, subst}
use Prim.Native.Nat.{ℕ, suc, ◌+◌, ◌-◌, ◌*◌, ◌/◌, ◌≤◌}
use native.Mathlib.Omega.{arith}
use lib.Dec.{ltb}
use lib.IntN.{ℤ, pos, negsuc}
use borrow.Author.Tests.{ltb-false}
use Rattle.charge.specs.Charge.{leaked, moved, run_moved}
use Rattle.charge.specs.Rest.{rested_once}
use Rattle.charge.specs.declared.charge.Charge.{Charge}
use Rattle.configuration.specs.Terms.{Terms}
use Rattle.grains.specs.Grains.{grains_of_current, most_drain}
use Rattle.grains.specs.Leak.{leak, leak_rate}
use Rattle.grains.specs.Run.{drained, unless_passed}
use Rattle.grains.specs.declared.run.Run.{Run}
use Rattle.numbers.specs.Signed.{at_least_zero, magnitude}
use Rattle.sample.specs.Current.{charge_current, discharge_current}
use Rattle.sample.specs.Range.{current_of}
use Rattle.history.specs.Account.{Account, after_rest_window, after_sums, leak_now}
use Rattle.history.specs.Claim.{run_of}
use Rattle.history.specs.Drain.{gains, unless_above}
use Rattle.history.specs.Sums.{charge_of, grains_a_count, grains_a_unit, with_current, with_leak}
use Rattle.charge.proofs.ChargeKept.{ChargeTaken, leak_most}
use Rattle.history.proofs.DifferenceLaws.{Difference, is_natural}
use Rattle.history.proofs.Tracking.{Tracks, drain_is, drain_in, drained_is, gained_drain, gains_again, passing_is}
use Rattle.history.proofs.Tracking.{leaked_difference, moved_difference}

-- ---- the counted current with its sign

-- c is what comes in less what goes out
parts_difference : (z : ℤ) → Difference z (charge_current (current_of z)) (discharge_current (current_of z))
unfolding charge_current discharge_current
parts_difference (pos n) = go (ltb 0 n) refl
  where
    go : (t : Bool) → ltb 0 n ≡ t → Difference (pos n) (cond t n 0) (cond t 0 n)
    go true e = record { balance = omega arith }
    go false e = let h = ltb-false 0 n e in record { balance = omega arith }
parts_difference (negsuc n) = record { balance = omega arith }

-- ---- the sums

module _ (terms : Terms) (t : ℕ) (low : leak_rate terms.sd t ≤ 1_920) (y : Charge) (x : Account) (k : Tracks y x) (b : ChargeTaken y) where
  pub leak_is : leak_now terms (pos t) x.sums ≡ leak y.held (leak_rate terms.sd t)
  unfolding leak_now leak
  leak_is = ap (λ (h : ℤ). at_least_zero h / grains_a_count * leak_rate terms.sd t) k.held

  drain_most : drain_in x.run ≤ most_drain
  drain_most =
      let h = b.sound.run.within in
      let e = sym (drain_is x.run) ∙ sym (ap (λ (r : Run). r.dcr) k.run) in
      omega arith

  leak_small : leak_now terms (pos t) x.sums ≤ most_drain
  leak_small =
      let e = leak_is in
      let h = leak_most y b (leak_rate terms.sd t) low in
      let w = b.sound.within in
      let m = b.fits.lmd in
      omega arith

  drained_once : drained y.run (leak y.held (leak_rate terms.sd t)) ≡ run_of (gains (leak_now terms (pos t) x.sums) x.run)
  drained_once =
      let d = drain_most in
      let h = leak_small in
      ap (λ (n : ℕ). drained y.run n) (sym leak_is)
      ∙ ap (λ (r : Run). drained r (leak_now terms (pos t) x.sums)) k.run
      ∙ drained_is x.run (leak_now terms (pos t) x.sums) (omega arith)

  -- ---- one window of a rest

  once_held : charge_of (after_rest_window terms (pos t) x).sums ≡ pos (rested_once (leak_rate terms.sd t) y).held
  unfolding after_rest_window rested_once leaked
  once_held =
      let l = leak_now terms (pos t) x.sums in
      let h = leak_most y b (leak_rate terms.sd t) low in
      let e = leak_is in
      is_natural (charge_of (with_leak l x.sums)) y.held l (omega arith) (leaked_difference x.sums y.held l k.held)
      ∙ ap (λ (n : ℕ). pos (y.held - n)) leak_is

  once_run : (rested_once (leak_rate terms.sd t) y).run ≡ run_of (after_rest_window terms (pos t) x).run
  unfolding after_rest_window rested_once leaked
  once_run = ap unless_passed drained_once ∙ passing_is (gains (leak_now terms (pos t) x.sums) x.run)

  pub once_tracks : Tracks (rested_once (leak_rate terms.sd t) y) (after_rest_window terms (pos t) x)
  unfolding after_rest_window rested_once leaked
  once_tracks = record { held = once_held; lmd = k.lmd; run = once_run }

  -- ---- the sums of a window

  -- H before any fixing point
  pub sums_difference : (z : ℤ)
      → Difference (charge_of (after_sums terms z (pos t) x).sums)
      (y.held + grains_of_current (charge_current (current_of z)))
      (leak y.held (leak_rate terms.sd t) + grains_of_current (discharge_current (current_of z)))
  unfolding after_sums
  sums_difference z =
      subst
      (λ (n : ℕ). Difference (charge_of (with_current z (with_leak (leak_now terms (pos t) x.sums) x.sums)))
      (y.held + grains_of_current (charge_current (current_of z))) (n + grains_of_current (discharge_current (current_of z))))
      leak_is
      (moved_difference x.sums y.held (leak_now terms (pos t) x.sums) z (charge_current (current_of z)) (discharge_current (current_of z)) k.held
      (parts_difference z))

  -- charging ends a run; else its drain gains the leak and what is drawn, which is |c|
  run_moves : (charging : Bool) (m : ℕ) → m ≤ 65_535
      → run_moved charging (grains_of_current (cond charging 0 m)) (drained y.run (leak y.held (leak_rate terms.sd t)))
      ≡ run_of (cond charging none (unless_above (gains (leak_now terms (pos t) x.sums + grains_a_unit * m) x.run)))
  unfolding run_moved
  run_moves true m small = refl
  run_moves false m small =
      let l = leak_now terms (pos t) x.sums in
      let d = drain_most in
      let h = leak_small in
      let g = gained_drain x.run l in
      ap (λ (r : Run). unless_passed (drained r (grains_of_current m))) drained_once
      ∙ ap unless_passed (drained_is (gains l x.run) (grains_of_current m) (omega arith))
      ∙ passing_is (gains (grains_of_current m) (gains l x.run))
      ∙ ap (λ (r : Option ℕ). run_of (unless_above r)) (gains_again x.run l (grains_of_current m))

  pub sums_run : (z : ℤ) → magnitude z ≤ 65_535
      → (moved (current_of z) (leaked (leak_rate terms.sd t) y)).run ≡ run_of (after_sums terms z (pos t) x).run
  unfolding moved leaked after_sums discharge_current
  sums_run (pos n) small = run_moves (ltb 0 n) n small
  sums_run (negsuc n) small = run_moves false (suc n) small

  pub sums_lmd : (z : ℤ) → (moved (current_of z) (leaked (leak_rate terms.sd t) y)).lmd ≡ (after_sums terms z (pos t) x).learned
  unfolding moved leaked after_sums
  sums_lmd z = k.lmd
