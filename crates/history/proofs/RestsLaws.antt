-- A rest of n windows is n rests of one: its definition goes window by window, TEMP and the sample stand after the first as after the last, and every
-- gauge on the way is accepted. Where the first is refused, nothing moves and each is refused alike. Assumes nothing.
use mathlib.Core.Bool.{Bool, true, false, cond}
use mathlib.Core.List.{List, [], ◌∷◌}
use mathlib.Core.Path.{◌≡◌, refl, sym, ap, ◌∙◌}
use Prim.Native.Nat.{ℕ, zero, suc, ◌+◌, ◌<◌}
use native.Mathlib.Nat.{not-suc-le-zero}
use native.Mathlib.Omega.{arith}
use lib.Dec.{eqb, leb, ltb}
use lib.IntN.{ℤ}
use lib.ListN.{replicate}
use borrow.Author.Tests.{eqb-true, ltb-true}
use Rattle.charge.specs.Rest.{rested}
use Rattle.counters.specs.Counters.{counters_rested}
use Rattle.counters.proofs.CountersLaws.{rested_twice}
use Rattle.gauge.specs.Accepted.{accepted}
use Rattle.gauge.specs.Answer.{unless_rejected}
use Rattle.gauge.specs.Calls.{rest_answer}
use Rattle.gauge.specs.Rest.{rest}
use Rattle.gauge.specs.declared.state.Gauge.{Gauge}
use Rattle.gauge.proofs.GaugeLaws as Parts
use Rattle.gauge.specs.Fits.{Taken}
use Rattle.numbers.proofs.BoolLaws.{and_left}
use Rattle.refusals.specs.Refusal as Refusal
use Rattle.refusals.proofs.OrElseLaws.{not_rejected}
use Rattle.sample.specs.Limits.{longest_rest, rest_in_range}
use Rattle.sample.specs.Range.{temperature, temperature_in_range, temperature_refusal}
use Rattle.sample.specs.Sample.{sample_rested}
use Rattle.history.specs.After.{after, gauge_after, number_of}
use Rattle.history.specs.Call.{Call}
use Rattle.history.specs.Rests.{OneByOne, RestsOfOne}
use Rattle.history.proofs.AnswerLaws.{rest_in_range_lem}
use Rattle.history.proofs.ListLaws.{list_stays}
use Rattle.history.proofs.StayLaws.{rest_stays}

-- ---- one call

-- the number of a rest of a length in range
number : ℤ → Gauge → ℕ
number t g = unless_rejected g (temperature_refusal t)

number_is : (n : ℕ) → rest_in_range n ≡ true → (t : ℤ) (g : Gauge) → number_of (Call.rest n t) g ≡ number t g
unfolding number_of rest_answer number
number_is n r t g = rw r

rest_gauge : (n : ℕ) → rest_in_range n ≡ true → (t : ℤ) (g : Gauge)
    → gauge_after (Call.rest n t) g ≡ cond (eqb (number t g) Refusal.none) (rest n (temperature t) g) g
unfolding gauge_after rest_answer number
rest_gauge n r t g = rw r

some_windows : (n : ℕ) → rest_in_range n ≡ true → 0 < n
some_windows n r = ltb-true 0 n (and_left (ltb 0 n) (leb n longest_rest) r)

-- ---- where the first is refused

-- for whatever calls move: where neither call moves it, none of them does
pub nothing_moves : {S : Type 0} {all : List Call → S → S} {one : Call → S → S} {number : Call → S → ℕ} (n : ℕ) (t : ℤ) (s : S)
    → all [] s ≡ s → ((calls : List Call) → all (Call.rest 1 t ∷ calls) s ≡ all calls s) → one (Call.rest n t) s ≡ s
    → number (Call.rest 1 t) s ≡ number (Call.rest n t) s → OneByOne all one number n t s
nothing_moves {S} {all} {one} {number} n t s none next stays same =
    record { whole = still n ∙ sym stays; numbers = λ k h. ap (number (Call.rest 1 t)) (still k) ∙ same }
  where
    still : (k : ℕ) → all (replicate k (Call.rest 1 t)) s ≡ s
    still zero = none
    still (suc k) = next (replicate k (Call.rest 1 t)) ∙ still k

all_refused : (n : ℕ) → rest_in_range n ≡ true → (t : ℤ) (g : Gauge) → eqb (number t g) Refusal.none ≡ false → OneByOne after gauge_after number_of n t g
unfolding after
all_refused n r t g refused =
    nothing_moves n t g refl (λ calls. ap (after calls) (stays 1 refl)) (stays n r) (number_is 1 refl t g ∙ sym (number_is n r t g))
  where
    stays : (k : ℕ) → rest_in_range k ≡ true → gauge_after (Call.rest k t) g ≡ g
    stays k i = rest_gauge k i t g ∙ simp refused

-- ---- where it is accepted

-- window by window: TEMP and the sample stand after the first as after the last, and the count stops where that of all of them does
rest_joined : (n t : ℕ) (g : Gauge) → rest (suc n) t (rest 1 t g) ≡ rest (suc (suc n)) t g
unfolding rest rested sample_rested
rest_joined n t g =
    let all : 1 + suc n ≡ suc (suc n) = omega arith in
    Parts.same_settings_alike refl refl refl refl refl (rested_twice 1 (suc n) g.counters ∙ ap (λ (m : ℕ). counters_rested m g.counters) all)

module _ (t : ℤ) (in_range : temperature_in_range t ≡ true) where
  taken_number : (g : Gauge) → Taken g → number t g ≡ Refusal.none
  unfolding number
  taken_number g s = simp (s.accepted, in_range)

  taken_gauge : (n : ℕ) → rest_in_range n ≡ true → (g : Gauge) → Taken g → gauge_after (Call.rest n t) g ≡ rest n (temperature t) g
  taken_gauge n r g s = rest_gauge n r t g ∙ simp (taken_number g s)

  all_rest : (n : ℕ) (g : Gauge) → Taken g → after (replicate (suc n) (Call.rest 1 t)) g ≡ rest (suc n) (temperature t) g
  unfolding after
  all_rest zero g s = taken_gauge 1 refl g s
  all_rest (suc n) g s =
      ap (after (replicate (suc n) (Call.rest 1 t))) (taken_gauge 1 refl g s)
      ∙ all_rest n (rest 1 (temperature t) g) (rest_stays g s 1 t in_range) ∙ rest_joined n (temperature t) g

  all_taken : (n : ℕ) → rest_in_range n ≡ true → (g : Gauge) → Taken g → OneByOne after gauge_after number_of n t g
  all_taken zero r g s = absurd (not-suc-le-zero (some_windows 0 r))
  all_taken (suc n) r g s =
      record {
        whole = all_rest n g s ∙ sym (taken_gauge (suc n) r g s);
        numbers = λ k h.
            let calls = replicate k (Call.rest 1 t) in
            number_is 1 refl t (after calls g) ∙ taken_number (after calls g) (list_stays calls g s)
            ∙ sym (number_is (suc n) r t g ∙ taken_number g s);
      }

-- ---- every rest

pub rests_of_one : RestsOfOne
unfolding number
rests_of_one g fits n r t = go (eqb (number t g) Refusal.none) refl
  where
    go : (b : Bool) → eqb (number t g) Refusal.none ≡ b → OneByOne after gauge_after number_of n t g
    go true e =
        let p = not_rejected (accepted g) (temperature_refusal t) (eqb-true (number t g) Refusal.none e) in
        all_taken t (rest_in_range_lem true t p.1) n r g (record { fits = fits; accepted = p.0 })
    go false e = all_refused n r t g e
