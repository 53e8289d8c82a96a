-- The calls on a gauge value: which number each yields, in the order of "The fourteen numbers" of paper 01 (14 first, and a rest
-- 6 before 5), and the gauge that follows. Definitions only; assumes nothing.
use Rattle.std.specs.Prelude.{cond, ℕ, eqb, ltb, ℤ}
use Rattle.command.specs.Command.{decide, decision_number}
use Rattle.configuration.specs.Terms.{terms_of}
use Rattle.host.specs.Host.{stored}
use Rattle.refusals.specs.Refusal as Refusal
use Rattle.refusals.specs.Refusal.{or_else}
use Rattle.sample.specs.Current.{counted}
use Rattle.sample.specs.Limits.{rest_in_range}
use Rattle.sample.specs.Range.{current, current_refusal, temperature, temperature_refusal, voltage, voltage_refusal}
use Rattle.gauge.specs.Answer.{Answer, answered, unless_rejected}
use Rattle.gauge.specs.Obey.{decided}
use Rattle.gauge.specs.Rest.{rest}
use Rattle.gauge.specs.Window.{window}
use Rattle.gauge.specs.declared.state.Gauge.{Gauge}

-- ---- a window: 14, 3, 4, 5

abbrev pub sample_refusal : ℤ → ℤ → ℤ → ℕ
sample_refusal a v t = or_else (current_refusal a) (or_else (voltage_refusal v) (temperature_refusal t))

unfoldable pub window_answer : Gauge → ℤ → ℤ → ℤ → Answer
window_answer g a v t =
    answered (unless_rejected g (sample_refusal a v t)) g
    (window (counted (terms_of g.settings).dmf (current a)) (voltage v) (temperature t) g)

-- ---- a rest: 14, 6, 5

abbrev pub rest_refusal : ℕ → ℤ → ℕ
rest_refusal n t = cond (rest_in_range n) (temperature_refusal t) Refusal.rest_length

unfoldable pub rest_answer : Gauge → ℕ → ℤ → Answer
rest_answer g n t = answered (unless_rejected g (rest_refusal n t)) g (rest n (temperature t) g)

-- ---- a host write: 14, 7, 8 to 11

unfoldable pub stored_at : ℕ → ℕ → Gauge → Gauge
stored_at address value g =
    record {
      settings = g.settings;
      charge = g.charge;
      sample = g.sample;
      standby = g.standby;
      flags = g.flags;
      host = stored address value g.host;
      counters = g.counters;
    }

-- "one byte at 0x01 MODE, 0x02 or 0x03 AR .. or 0x00 CTRL"
unfoldable pub written : ℕ → ℕ → Gauge → Gauge
written address value g =
    cond (eqb address 0) (decided (decide value g.host.mode g.host.ar) g) (stored_at address value g)

-- 7, "address not writable", then the numbers of a key
unfoldable pub write_refusal : ℕ → ℕ → ℕ → ℕ → ℕ
write_refusal mode ar address value =
    cond (ltb 3 address) Refusal.not_writable (cond (eqb address 0) (decision_number (decide value mode ar)) Refusal.none)

unfoldable pub write_answer : Gauge → ℕ → ℕ → Answer
write_answer g address value =
    answered (unless_rejected g (write_refusal g.host.mode g.host.ar address value)) g (written address value g)

-- a key at CTRL of an accepted gauge
unfoldable pub key_answer : Gauge → ℕ → Answer
key_answer g key =
    answered (decision_number (decide key g.host.mode g.host.ar)) g (decided (decide key g.host.mode g.host.ar) g)
