-- A window moves the gauge's charge and the history alike. Where c is not below 0 the history's charge is the gauge's, so the tests for full
-- agree and no voltage counts; below 0 nothing is full, the empty stop is where the gauge's difference stops at 0, and the voltages decide
-- alike. Assumes nothing.
use mathlib.Core.Bool.{Bool, true, false, cond}
use mathlib.Core.Option.{some}
use mathlib.Core.Path.{◌≡◌, refl, sym, ap, ◌∙◌, subst₂}
use Prim.Native.Nat.{ℕ, suc, ◌+◌, ◌-◌, ◌*◌, ◌≤◌}
use native.Mathlib.Omega.{arith}
use lib.Dec.{leb, ltb}
use lib.IntN.{ℤ, pos, negsuc}
use lib.Signed.{le_z}
use borrow.Author.Tests.{leb-true, leb-false, ltb-false, le-ltb}
use Rattle.charge.specs.Charge.{filled, leaked, moved}
use Rattle.charge.specs.declared.charge.Charge.{Charge}
use Rattle.configuration.specs.Terms.{Terms}
use Rattle.grains.specs.Grains.{grains_of_counts, grains_of_current}
use Rattle.grains.specs.Leak.{leak, leak_rate}
use Rattle.grains.specs.Run.{started_run}
use Rattle.numbers.specs.Signed.{magnitude}
use Rattle.reached.specs.ChargeAfter.{charge_after, reached_in, summed}
use Rattle.reached.specs.Ending.{ending_of}
use Rattle.reached.specs.Full.{is_full}
use Rattle.reached.specs.Reached.{charge_ended, charge_reached, filled_if, reached_by}
use Rattle.sample.specs.Current.{charge_current, discharge_current}
use Rattle.sample.specs.Range.{current_of}
use Rattle.history.specs.Account.{Account, after_empty_stop, after_full, after_sums, after_voltage, after_window, fixing}
use Rattle.history.specs.Sums.{charge_of, grains_a_count}
use Rattle.history.specs.Tests.{reaches_e1, reaches_edvf, reaches_full, stops_empty}
use Rattle.charge.proofs.ChargeKept.{ChargeTaken, leak_most, moved_held}
use Rattle.history.proofs.DifferenceLaws.{above_zero, at_most_zero, is_natural}
use Rattle.history.proofs.SumTracks.{sums_difference, sums_lmd, sums_run}
use Rattle.history.proofs.Tracking.{Tracks, fixed_is}
use Rattle.history.proofs.VoltageTracks.{voltage_tracks}

-- ---- a window with c not below 0 reaches no voltage, in the gauge and in the history

pub no_outflow : (n : ℕ) → discharge_current (current_of (pos n)) ≡ 0
unfolding discharge_current
no_outflow n = go (ltb 0 n) refl
  where
    go : (t : Bool) → ltb 0 n ≡ t → cond t 0 n ≡ 0
    go true e = refl
    go false e = let h = ltb-false 0 n e in omega arith

no_ending : (terms : Terms) (n v t : ℕ) (vdq : Bool) (y : Charge)
    → charge_ended (ending_of terms vdq (discharge_current (current_of (pos n))) v t) y ≡ y
unfolding charge_ended ending_of
no_ending terms n v t vdq y = ap (λ (d : ℕ). charge_ended (ending_of terms vdq d v t) y) (no_outflow n)

only_full : (terms : Terms) (n : ℕ) (v t : ℤ) (x : Account)
    → after_window terms (pos n) v t x ≡ after_full terms (pos n) v (after_sums terms (pos n) t x)
unfolding after_window after_voltage after_empty_stop reaches_edvf reaches_e1 stops_empty
only_full terms n v t x = simp (le-ltb n 0 (omega arith))

-- ---- full

full_alike : (terms : Terms) (n v : ℕ) (h : ℤ) (held l lmd : ℕ) → h ≡ pos held → lmd ≡ l
    → reaches_full terms (pos n) (pos v) h l ≡ is_full terms (current_of (pos n)) v held lmd
unfolding reaches_full is_full
full_alike terms n v h held l lmd p q =
    ap (λ (w : ℤ). reaches_full terms (pos n) (pos v) w l) p
    ∙ ap (λ (m : ℕ). reaches_full terms (pos n) (pos v) (pos held) m) (sym q)

full_tracks : (terms : Terms) (n v : ℕ) (y : Charge) (x : Account) → Tracks y x
    → Tracks (filled_if (is_full terms (current_of (pos n)) v y.held y.lmd) y) (after_full terms (pos n) (pos v) x)
unfolding filled_if filled after_full
full_tracks terms n v y x k =
    rw (full_alike terms n v (charge_of x.sums) y.held x.learned y.lmd k.held k.lmd)
    (go (is_full terms (current_of (pos n)) v y.held y.lmd))
  where
    go : (full : Bool)
        → Tracks (cond full (record { held = grains_of_counts y.lmd; lmd = y.lmd; run = started_run }) y)
        (cond full (fixing (x.learned * grains_a_count) x.learned (some 0)) x)
    go true =
        record {
          held = fixed_is (x.learned * grains_a_count) ∙ ap (λ (l : ℕ). pos (l * grains_a_count)) (sym k.lmd);
          lmd = k.lmd;
          run = refl;
        }
    go false = k

-- ---- the sums with the empty stop

-- the gauge's charge after the sums
abbrev charge_moved : Terms → ℕ → ℤ → Charge → Charge
charge_moved terms t z y = moved (current_of z) (leaked (leak_rate terms.sd t) y)

-- what was held and came in
abbrev incoming : ℤ → Charge → ℕ
incoming z y = y.held + grains_of_current (charge_current (current_of z))

-- what leaked and went out
abbrev outgoing : Terms → ℕ → ℤ → Charge → ℕ
outgoing terms t z y = leak y.held (leak_rate terms.sd t) + grains_of_current (discharge_current (current_of z))

module _ (terms : Terms) (t : ℕ) (low : leak_rate terms.sd t ≤ 1_920) (y : Charge) (x : Account) (k : Tracks y x) (b : ChargeTaken y) where
  held_is : (z : ℤ) → magnitude z ≤ 65_535 → (charge_moved terms t z y).held ≡ incoming z y - outgoing terms t z y
  held_is z small = moved_held y b (leak_rate terms.sd t) low (current_of z) small

  -- no empty stop: H is what came in less what went out
  sums_track : (z : ℤ) → magnitude z ≤ 65_535 → outgoing terms t z y ≤ incoming z y
      → Tracks (charge_moved terms t z y) (after_sums terms z (pos t) x)
  sums_track z small h =
      record {
        held =
            is_natural (charge_of (after_sums terms z (pos t) x).sums) (incoming z y) (outgoing terms t z y) h
            (sums_difference terms t low y x k b z)
            ∙ ap pos (sym (held_is z small));
        lmd = sums_lmd terms t low y x k b z;
        run = sums_run terms t low y x k b z small;
      }

  -- an empty stop: the gauge's difference stops at 0, and the history fixes H there
  stop_tracks : (z : ℤ) → magnitude z ≤ 65_535 → incoming z y ≤ outgoing terms t z y
      → Tracks (charge_moved terms t z y)
      (fixing 0 (after_sums terms z (pos t) x).learned (after_sums terms z (pos t) x).run)
  stop_tracks z small h =
      let e : 0 ≡ incoming z y - outgoing terms t z y = omega arith in
      record {
        held = fixed_is 0 ∙ ap pos (e ∙ sym (held_is z small));
        lmd = sums_lmd terms t low y x k b z;
        run = sums_run terms t low y x k b z small;
      }

  -- ---- c below 0

  stopped_track : (n : ℕ) → suc n ≤ 65_535
      → Tracks (charge_moved terms t (negsuc n) y) (after_empty_stop (negsuc n) (after_sums terms (negsuc n) (pos t) x))
  unfolding after_empty_stop stops_empty
  stopped_track n small = go (leb (incoming (negsuc n) y) (outgoing terms t (negsuc n) y)) refl
    where
      h : ℤ
      h = charge_of (after_sums terms (negsuc n) (pos t) x).sums

      go : (p : Bool) → leb (incoming (negsuc n) y) (outgoing terms t (negsuc n) y) ≡ p
          → Tracks (charge_moved terms t (negsuc n) y)
          (cond (le_z (charge_of (after_sums terms (negsuc n) (pos t) x).sums) (pos 0))
          (fixing 0 (after_sums terms (negsuc n) (pos t) x).learned (after_sums terms (negsuc n) (pos t) x).run)
          (after_sums terms (negsuc n) (pos t) x))
      go true e =
          let l = leb-true (incoming (negsuc n) y) (outgoing terms t (negsuc n) y) e in
          rw (at_most_zero h (incoming (negsuc n) y) (outgoing terms t (negsuc n) y) l (sums_difference terms t low y x k b (negsuc n)))
          (stop_tracks (negsuc n) small l)
      go false e =
          let l = leb-false (incoming (negsuc n) y) (outgoing terms t (negsuc n) y) e in
          rw (above_zero h (incoming (negsuc n) y) (outgoing terms t (negsuc n) y) l (sums_difference terms t low y x k b (negsuc n)))
          (sums_track (negsuc n) small (omega arith))

  below_tracks : (n v : ℕ) → suc n ≤ 65_535
      → Tracks (charge_after terms (current_of (negsuc n)) v t y) (after_window terms (negsuc n) (pos v) (pos t) x)
  unfolding charge_after charge_reached reached_in reached_by summed is_full filled_if discharge_current after_window after_full reaches_full
  below_tracks n v small =
      voltage_tracks terms n v t (charge_moved terms t (negsuc n) y) (after_empty_stop (negsuc n) (after_sums terms (negsuc n) (pos t) x))
      (stopped_track n small)

  -- ---- c not below 0

  above_tracks : (n v : ℕ) → n ≤ 65_535
      → Tracks (charge_after terms (current_of (pos n)) v t y) (after_window terms (pos n) (pos v) (pos t) x)
  unfolding charge_after charge_reached reached_in reached_by summed
  above_tracks n v small =
      let l = leak_most y b (leak_rate terms.sd t) low in
      let d = no_outflow n in
      let s = sums_track (pos n) small (omega arith) in
      subst₂ Tracks (sym (no_ending terms n v t _ _)) (sym (only_full terms n (pos v) (pos t) x)) (full_tracks terms n v _ _ s)

  pub window_tracks : (z : ℤ) (v : ℕ) → magnitude z ≤ 65_535
      → Tracks (charge_after terms (current_of z) v t y) (after_window terms z (pos v) (pos t) x)
  window_tracks (pos n) v small = above_tracks n v small
  window_tracks (negsuc n) v small = below_tracks n v small
