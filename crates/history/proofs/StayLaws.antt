-- What is accepted stays accepted: each call leaves a charge, a sample, an SI, MODE, AR and counters that 14 does not refuse and that fit their
-- widths; a refused call leaves the gauge. Assumes nothing.
use mathlib.Core.Bool.{Bool, true, false, cond}
use mathlib.Core.Path.{◌≡◌, refl}
use Prim.Native.Nat.{ℕ, ◌<◌}
use native.Mathlib.Omega.{arith}
use lib.Dec.{eqb}
use lib.IntN.{ℤ}
use borrow.Author.Tests.{eqb-true}
use Rattle.charge.proofs.ChargeKept.{rate_low, rest_taken}
use Rattle.command.specs.Command.{decide}
use Rattle.configuration.specs.Configuration.{dmf, s0, sd}
use Rattle.configuration.specs.Terms.{terms_of}
use Rattle.counters.proofs.CountersKept.{moved_accepted, moved_fits, rested_accepted, rested_fits}
use Rattle.gauge.specs.Accepted.{accepted}
use Rattle.gauge.specs.Answer.{answered, unless_rejected}
use Rattle.gauge.specs.Fits.{Taken}
use Rattle.gauge.specs.Calls.{rest_answer, rest_refusal, sample_refusal, stored_at, window_answer, write_answer, write_refusal, written}
use Rattle.gauge.specs.Obey.{decided}
use Rattle.gauge.specs.Rest.{rest}
use Rattle.gauge.specs.Window.{window}
use Rattle.gauge.specs.declared.state.Gauge.{Gauge}
use Rattle.gauge.proofs.AcceptedLaws.{sound}
use Rattle.gauge.proofs.ObeyedKept.{decided_taken}
use Rattle.gauge.proofs.TakenLaws.{gauge_taken, taken_charge}
use Rattle.grains.specs.Leak.{leak_rate}
use Rattle.refusals.proofs.OrElseLaws.{not_rejected}
use Rattle.sample.specs.Current.{counted, discharge_current}
use Rattle.sample.specs.Limits.{rest_in_range}
use Rattle.sample.specs.Range.{current, temperature, temperature_in_range, voltage}
use Rattle.history.specs.After.{gauge_after}
use Rattle.history.specs.Call.{Call}
use Rattle.history.specs.Claim.{StaysAccepted}
use Rattle.history.proofs.AnswerLaws.{InRange, rest_in_range_lem, window_in_range}
use Rattle.reached.proofs.ChargeAfterLaws.{window_taken}
use Rattle.command.proofs.DecisionLaws.{wrtlmd_above}
use Rattle.host.proofs.HostKept.{full_fits, stored_fits}
use Rattle.sample.proofs.SampleKept.{counted_within, rest_sample, window_sample}
use Rattle.standby.proofs.StandbyKept.{averaged_kept}

-- ---- each call's work

module _ (g : Gauge) (k : Taken g) where
  window_stays : (a v t : ℤ) → InRange a v t
      → Taken (window (counted (dmf g.settings) (current a)) (voltage v) (temperature t) g)
  unfolding window
  window_stays a v t r =
      let c = g.settings in
      let f = k.fits in
      let s = sound g k.accepted in
      let i = counted (dmf c) (current a) in
      let y = window_taken (terms_of c) i (voltage v) (temperature t) g.charge (taken_charge g k) (rate_low c (temperature t))
      (counted_within (dmf c) a r.current) in
      gauge_taken (window i (voltage v) (temperature t) g)
      (record {
        settings = s.settings;
        charge = y.sound;
        standby = averaged_kept (s0 c) g.standby (discharge_current i) s.standby;
        sample = window_sample (dmf c) a v t r.current r.voltage r.temperature;
        counters = moved_accepted g.charge.lmd i g.counters s.charge.learned (let l = f.charge.lmd in omega arith);
      })
      f.settings y.fits (full_fits _ g.host f.host) (moved_fits g.counters f.counters g.charge.lmd i)

  pub rest_stays : (n : ℕ) (t : ℤ) → temperature_in_range t ≡ true → Taken (rest n (temperature t) g)
  unfolding rest
  rest_stays n t r =
      let c = g.settings in
      let f = k.fits in
      let s = sound g k.accepted in
      let y = rest_taken n (leak_rate (sd c) (temperature t)) g.charge (taken_charge g k) (rate_low c (temperature t)) in
      gauge_taken (rest n (temperature t) g)
      (record {
        settings = s.settings;
        charge = y.sound;
        standby = s.standby;
        sample = rest_sample (dmf c) g.sample t s.sample r;
        counters = rested_accepted g.counters s.counters n;
      })
      f.settings y.fits f.host (rested_fits g.counters f.counters n)

  stored_stays : (address value : ℕ) → value < 256 → Taken (stored_at address value g)
  unfolding stored_at
  stored_stays address value small =
      let f = k.fits in
      let s = sound g k.accepted in
      gauge_taken (stored_at address value g)
      (record { settings = s.settings; charge = s.charge; standby = s.standby; sample = s.sample; counters = s.counters })
      f.settings f.charge (stored_fits address value g.host small f.host) f.counters

  written_stays : (address value : ℕ) → value < 256 → Taken (written address value g)
  unfolding written
  written_stays address value small = go (eqb address 0)
    where
      go : (t : Bool) → Taken (cond t (decided (decide value g.host.mode g.host.ar) g) (stored_at address value g))
      go true = decided_taken g k (decide value g.host.mode g.host.ar) (wrtlmd_above value g.host.mode g.host.ar)
      go false = stored_stays address value small

-- ---- every call

-- a refusal leaves the gauge
answered_stays : (n : ℕ) (g next : Gauge) → Taken g → (n ≡ 0 → Taken next) → Taken (answered n g next).gauge
answered_stays n g next s f = go (eqb n 0) refl
  where
    go : (t : Bool) → eqb n 0 ≡ t → Taken (cond t next g)
    go true e = f (eqb-true n 0 e)
    go false e = s

pub call_stays : (call : Call) (g : Gauge) → Taken g → Taken (gauge_after call g)
unfolding gauge_after window_answer rest_answer write_answer
call_stays (Call.window a v t) g s =
    answered_stays (unless_rejected g (sample_refusal a v t)) g _ s
    (λ e. window_stays g s a v t (window_in_range a v t (not_rejected (accepted g) (sample_refusal a v t) e).1))
call_stays (Call.rest n t) g s =
    answered_stays (unless_rejected g (rest_refusal n t)) g _ s
    (λ e. rest_stays g s n t (rest_in_range_lem (rest_in_range n) t (not_rejected (accepted g) (rest_refusal n t) e).1))
call_stays (Call.write address value) g s =
    answered_stays (unless_rejected g (write_refusal g.host.mode g.host.ar address value.number)) g _ s
    (λ e. written_stays g s address value.number value.below)
call_stays (Call.read address count place reply_length) g s = s
call_stays (Call.preview key reply_length) g s = s
call_stays (Call.estimate v) g s = s

pub stays_accepted : StaysAccepted
stays_accepted g k call = call_stays call g k
