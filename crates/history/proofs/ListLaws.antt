-- Every list of calls, by induction: a call keeps what holds of an accepted gauge and its history, and a refused one leaves both. A history
-- begins beside any accepted gauge, and the opened one is that of the opened gauge, which gives demand 3. Assumes nothing.
use mathlib.Core.Bool.{Bool, true, false, cond}
use mathlib.Core.List.{List, [], ◌∷◌}
use mathlib.Core.Option.{none, some}
use mathlib.Core.Path.{◌≡◌, refl, sym, ap, ◌∙◌}
use Prim.Native.Nat.{ℕ, ◌<◌}
use native.Mathlib.Omega.{arith}
use lib.Dec.{eqb}
use lib.ListN.{get_or, length}
use borrow.Author.Tests.{eqb-true, eqb-false}
use Rattle.charge.specs.Charge.{opened_charge}
use Rattle.charge.proofs.ChargeLaws.{RunSound}
use Rattle.configuration.specs.Configuration.{dmf, ilmd, s0}
use Rattle.configuration.specs.Settings.{opened_settings, settings_accepted}
use Rattle.configuration.specs.Terms.{terms_of}
use Rattle.counters.specs.Counters.{opened_counters}
use Rattle.counters.specs.Cycles.{no_cycles}
use Rattle.counters.proofs.CountersKept.{opened_accepted, opened_counters_lem}
use Rattle.gauge.specs.Accepted.{accepted}
use Rattle.gauge.specs.Answer.{answered, unless_rejected}
use Rattle.gauge.specs.Calls.{rest_answer, rest_refusal, sample_refusal, window_answer, write_answer, write_refusal}
use Rattle.gauge.specs.Fits.{Taken}
use Rattle.gauge.specs.Opening.{open_answer, open_refusal, opened}
use Rattle.gauge.specs.declared.state.Gauge.{Gauge}
use Rattle.grains.specs.declared.run.Run.{Run}
use Rattle.host.specs.Host.{opened_host}
use Rattle.numbers.proofs.BoolLaws.{not_is_true}
use Rattle.refusals.specs.Refusal as Refusal
use Rattle.refusals.proofs.OrElseLaws.{not_rejected}
use Rattle.history.specs.After.{after, gauge_after, number_of}
use Rattle.history.specs.Call.{Call}
use Rattle.history.specs.Claim.{Agrees, Demand3, FromAnyGauge, begun, drain_of, run_of}
use Rattle.history.specs.History.{after_call, after_calls, after_work, opened_history, started_history}
use Rattle.history.specs.Kept.{History}
use Rattle.history.specs.Refused.{refusal_of}
use Rattle.history.proofs.AnswerLaws.{rest_in_range_lem, window_in_range}
use Rattle.history.proofs.BesideLaws.{Beside, rest_beside, window_beside, written_beside}
use Rattle.history.proofs.CountersTrack.{begun_counts}
use Rattle.charge.proofs.ChargeKept as Charge
use Rattle.host.proofs.HostKept.{opened_fits}
use Rattle.history.proofs.NumberLaws.{number_other, numbers_alike}
use Rattle.sample.specs.Limits.{rest_in_range}
use Rattle.sample.proofs.SampleKept.{no_sample_lem}
use Rattle.standby.proofs.StandbyKept.{opened_standby_lem}
use Rattle.gauge.proofs.AcceptedLaws.{sound}
use Rattle.gauge.proofs.TakenLaws.{gauge_taken}
use Rattle.history.proofs.StayLaws.{call_stays}
use Rattle.history.proofs.Tracking.{fixed_is}

-- ---- one call

-- done alike where the number is 0, else both as they were
answered_beside : (n : ℕ) (g next : Gauge) (x y : History) → Beside g x → (n ≡ 0 → Beside next y)
    → Beside (answered n g next).gauge (cond (eqb n 0) y x)
answered_beside n g next x y f work = go (eqb n 0) refl
  where
    go : (t : Bool) → eqb n 0 ≡ t → Beside (cond t next g) (cond t y x)
    go true e = work (eqb-true n 0 e)
    go false e = f

either_beside : (t : Bool) (g : Gauge) (x : History) → Beside g x → Beside g (cond t x x)
either_beside true g x f = f
either_beside false g x f = f

pub call_beside : (call : Call) (g : Gauge) (x : History) → Taken g → Beside g x → Beside (gauge_after call g) (after_call call x)
unfolding gauge_after number_of after_call after_work window_answer rest_answer write_answer
call_beside (Call.window a v t) g x s f =
    rw (← numbers_alike (Call.window a v t) g x s.accepted f)
    (answered_beside (unless_rejected g (sample_refusal a v t)) g _ x _ f
    (λ e. window_beside g x s f a v t (window_in_range a v t (not_rejected (accepted g) (sample_refusal a v t) e).1)))
call_beside (Call.rest n t) g x s f =
    rw (← numbers_alike (Call.rest n t) g x s.accepted f)
    (answered_beside (unless_rejected g (rest_refusal n t)) g _ x _ f
    (λ e. rest_beside g x s f n t (rest_in_range_lem (rest_in_range n) t (not_rejected (accepted g) (rest_refusal n t) e).1)))
call_beside (Call.write address value) g x s f =
    rw (← numbers_alike (Call.write address value) g x s.accepted f)
    (answered_beside (unless_rejected g (write_refusal g.host.mode g.host.ar address value.number)) g _ x _ f
    (λ e. written_beside g x s f address value.number))
call_beside (Call.read address count place reply_length) g x s f =
    either_beside (eqb (refusal_of (Call.read address count place reply_length) x) 0) g x f
call_beside (Call.preview key reply_length) g x s f = either_beside (eqb (refusal_of (Call.preview key reply_length) x) 0) g x f
call_beside (Call.estimate v) g x s f = either_beside (eqb (refusal_of (Call.estimate v) x) 0) g x f

-- ---- every list

agrees : (g : Gauge) (x : History) → Taken g → Beside g x → Agrees g x
agrees g x s f =
    record {
      held = sym f.tracks.held;
      lmd = f.tracks.lmd;
      run = f.tracks.run;
      rests = f.counters.rests;
      cycles = f.counters.cycles;
      drain = f.counters.drain;
      refused = λ call. numbers_alike call g x s.accepted f;
      never = λ call e.
          let n = numbers_alike call g x s.accepted f in
          number_other call x (sym n ∙ e);
    }

pub list_agrees : (calls : List Call) (g : Gauge) (x : History) → Taken g → Beside g x → Agrees (after calls g) (after_calls calls x)
unfolding after after_calls
list_agrees [] g x s f = agrees g x s f
list_agrees (call ∷ calls) g x s f =
    list_agrees calls (gauge_after call g) (after_call call x) (call_stays call g s) (call_beside call g x s f)

-- every gauge on the way is accepted
pub list_stays : (calls : List Call) (g : Gauge) → Taken g → Taken (after calls g)
unfolding after
list_stays [] g s = s
list_stays (call ∷ calls) g s = list_stays calls (gauge_after call g) (call_stays call g s)

-- ---- from any gauge

abbrev run_with : Bool → ℕ → Run
run_with vdq dcr = record { vdq = vdq; dcr = dcr }

run_begun : (r : Run) → RunSound r → r ≡ run_of (drain_of r)
run_begun r s = go r.vdq refl
  where
    go : (t : Bool) → r.vdq ≡ t → r ≡ run_of (cond t (some r.dcr) none)
    go true e = ap (λ (v : Bool). run_with v r.dcr) e
    go false e = ap (λ (v : Bool). run_with v r.dcr) e ∙ ap (run_with false) (s.none e)

begun_beside : (g : Gauge) → Taken g → Beside g (begun g)
unfolding begun
begun_beside g s =
    record {
      settings = refl;
      tracks = record { held = fixed_is g.charge.held; lmd = refl; run = run_begun g.charge.run (sound g s.accepted).charge.run };
      host = record { mode = refl; ar = refl };
      counters = begun_counts g.counters s.fits.counters;
    }

pub from_any_gauge : FromAnyGauge
from_any_gauge g k calls = list_agrees calls g (begun g) k (begun_beside g k)

-- ---- demand 3

opened_number : (t u : Bool) → cond t (cond u Refusal.ilmd_zero Refusal.none) Refusal.configuration_length ≡ 0 → (t ≡ true) × (u ≡ false)
opened_number true true e = let z : ⊥ = omega arith in absurd z
opened_number true false e = (refl, refl)
opened_number false u e = let z : ⊥ = omega arith in absurd z

pub opened_taken : (c : List ℕ) → ((k : ℕ) → get_or c k 0 < 256) → open_refusal c ≡ 0 → Taken (opened c)
unfolding opened open_refusal settings_accepted
opened_taken c bytes e =
    let s = opened_settings c in
    let o = opened_number (eqb (length c) 10) (eqb (ilmd s) 0) e in
    let n : ilmd s ≡ 0 → ⊥ = eqb-false (ilmd s) 0 o.1 in
    let q = bytes 0 in
    let y = Charge.opened_taken (terms_of s) (omega arith) (omega arith) in
    gauge_taken (opened c)
    (record {
      settings = not_is_true (eqb (ilmd s) 0) o.1;
      charge = y.sound;
      standby = opened_standby_lem (s0 s);
      sample = no_sample_lem (dmf s);
      counters = opened_accepted;
    })
    (record { ten = eqb-true (length c) 10 o.0; bytes = bytes }) y.fits (opened_fits s (bytes 6)) opened_counters_lem

pub opened_answer : (c : List ℕ) → open_refusal c ≡ 0 → (open_answer c).gauge ≡ opened c
unfolding open_answer
opened_answer c e = rw e

-- the opened history is the one that begins at the opened gauge, MODE and AR too
pub opened_begun : (c : List ℕ) → opened_history c ≡ begun (opened c)
unfolding started_history begun opened opened_charge opened_host opened_counters no_cycles
opened_begun c = refl

pub demand_3 : Demand3
demand_3 c bytes e calls = rw (opened_answer c e, opened_begun c) (from_any_gauge (opened c) (opened_taken c bytes e) calls)
