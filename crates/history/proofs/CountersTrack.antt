-- The gauge's counts of rest windows and of cycles are the history's, stopped at 65,535, its cycle drain is the history's, and both move alike.
-- Assumes nothing.
use mathlib.Core.Bool.{Bool, true, false, cond}
use mathlib.Core.Path.{◌≡◌, refl, ap, ◌∙◌}
use Prim.Native.Nat.{ℕ, ◌+◌, ◌*◌, ◌/◌, ◌%◌, ◌≤◌, ◌<◌, min}
use native.Mathlib.Omega.{arith}
use lib.Dec.{eqb, leb, ltb}
use lib.IntN.{ℤ, pos, negsuc}
use borrow.Author.Tests.{le-ltb, leb-true, leb-false, lt-ltb}
use Rattle.command.specs.declared.command.Command.{Command}
use Rattle.command.specs.declared.command.Command.TheVariants.{Setting, Reset}
use Rattle.command.specs.declared.command.Reset.TheVariants.{Prst, Frst}
use Rattle.counters.specs.Counters.{counters_moved, counters_obeyed, counters_rested, opened_counters}
use Rattle.counters.specs.Cycles.{cycles_moved, cyct_after, drain_with, no_cycles}
use Rattle.counters.specs.Fits.{CountersFit}
use Rattle.counters.specs.declared.counters.Counters.{Counters}
use Rattle.counters.proofs.CyclesLaws.{drain_sum}
use Rattle.estimate.specs.Estimate.{least_rests}
use Rattle.grains.specs.Grains.{grains_of_counts, grains_of_current, most_drain}
use Rattle.numbers.specs.Signed.{magnitude}
use Rattle.refusals.specs.Refusal as Refusal
use Rattle.sample.specs.Current.{discharge_current}
use Rattle.sample.specs.Range.{current_of}
use Rattle.history.specs.Counters.{HistoryCounters, counters_after_rest, counters_after_window, cycle_count, discharged, rest_count}
use Rattle.history.specs.History.{after_command, started_history}
use Rattle.history.specs.Kept.{History}
use Rattle.history.specs.Sums.{grains_a_count}
use Rattle.history.proofs.WindowTracks.{no_outflow}

pub record CountersTrack (y : Counters) (x : HistoryCounters) : Type 0 where
  pub rests : y.rests ≡ rest_count x
  pub cycles : y.cycles.cyct ≡ cycle_count x
  pub drain : y.cycles.drain ≡ x.drain

pub begun_counts : (y : Counters) → CountersFit y → CountersTrack y (record { rests = y.rests; cycles = y.cycles.cyct; drain = y.cycles.drain })
begun_counts y f =
    let h = f.rests in
    let k = f.cyct in
    record { rests = omega arith; cycles = omega arith; drain = refl }

-- ---- a window

-- what is discharged is the same for both
outflow_is : (c : ℤ) → grains_of_current (discharge_current (current_of c)) ≡ discharged c
unfolding discharge_current
outflow_is (pos n) = ap grains_of_current (no_outflow n)
outflow_is (negsuc n) = refl

outflow_within : (c : ℤ) → magnitude c ≤ 65_535 → discharge_current (current_of c) ≤ 65_535
unfolding discharge_current
outflow_within (pos n) h = let e = no_outflow n in omega arith
outflow_within (negsuc n) h = h

kept_alike : (t : Bool) {a : ℕ} (x : HistoryCounters) → a ≡ rest_count x → cond t a 0 ≡ min (cond t x.rests 0) 4_294_967_295
kept_alike true x e = e
kept_alike false x e = refl

module _ (y : Counters) (x : HistoryCounters) (k : CountersTrack y x) where
  pub rest_counts : (n : ℕ) → CountersTrack (counters_rested n y) (counters_after_rest n x)
  unfolding counters_rested
  rest_counts n = let e = k.rests in record { rests = omega arith; cycles = k.cycles; drain = k.drain }

  pub window_counts : (l : ℕ) (c : ℤ) → magnitude c ≤ 65_535 → y.cycles.drain < most_drain
      → CountersTrack (counters_moved l (current_of c) y) (counters_after_window l c x)
  unfolding counters_moved cycles_moved cyct_after
  window_counts l c small below =
      let d : drain_with (current_of c) y.cycles.drain ≡ x.drain + discharged c =
      drain_sum (current_of c) y.cycles.drain below (outflow_within c small)
      ∙ ap (λ (n : ℕ). y.cycles.drain + n) (outflow_is c) ∙ ap (λ (n : ℕ). n + discharged c) k.drain in
      let q : drain_with (current_of c) y.cycles.drain / grains_of_counts l ≡ (x.drain + discharged c) / (l * grains_a_count) =
      ap (λ (n : ℕ). n / grains_of_counts l) d in
      let e = k.cycles in
      record {
        rests = kept_alike (eqb (magnitude c) 0) x k.rests;
        cycles = omega arith;
        drain = ap (λ (n : ℕ). n % grains_of_counts l) d;
      }

  -- 15 is for both alike
  pub rested_alike : cond (leb least_rests y.rests) Refusal.none Refusal.not_rested ≡ cond (ltb x.rests 422) Refusal.not_rested Refusal.none
  rested_alike = go (leb least_rests y.rests) refl
    where
      go : (t : Bool) → leb least_rests y.rests ≡ t
          → cond t Refusal.none Refusal.not_rested ≡ cond (ltb x.rests 422) Refusal.not_rested Refusal.none
      go true e =
          let h = leb-true least_rests y.rests e in
          let r = k.rests in
          let l : 422 ≤ x.rests = omega arith in
          rw (le-ltb x.rests 422 l)
      go false e =
          let h = leb-false least_rests y.rests e in
          let r = k.rests in
          let l : x.rests < 422 = omega arith in
          rw (lt-ltb x.rests 422 l)

pub command_counts : (command : Command) (y : Counters) (x : History) → CountersTrack y x.counters
    → CountersTrack (counters_obeyed command y) (after_command command x).counters
unfolding counters_obeyed opened_counters no_cycles after_command started_history
command_counts (Setting setting) y x k = k
command_counts (Reset Prst) y x k = record { rests = refl; cycles = k.cycles; drain = k.drain }
command_counts (Reset Frst) y x k = record { rests = refl; cycles = refl; drain = refl }
