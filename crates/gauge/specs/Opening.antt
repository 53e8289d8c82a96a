-- "Opening" of paper 01, with the refusals 1 and 2. Definitions only; assumes nothing.
use Rattle.std.specs.Prelude.{true, cond, List, ℕ, eqb, length, replicate}
use Rattle.charge.specs.Charge.{opened_charge}
use Rattle.configuration.specs.Configuration.{ilmd}
use Rattle.configuration.specs.Settings.{opened_settings}
use Rattle.configuration.specs.Terms.{terms_of}
use Rattle.counters.specs.Counters.{opened_counters}
use Rattle.flags.specs.Flags.{opened_flags}
use Rattle.host.specs.Host.{opened_host}
use Rattle.refusals.specs.Refusal as Refusal
use Rattle.sample.specs.Sample.{no_sample}
use Rattle.standby.specs.Standby.{opened_standby}
use Rattle.gauge.specs.Answer.{Answer, answered}
use Rattle.gauge.specs.declared.state.Gauge.{Gauge}

-- "LMD = design capacity, h, DCR, c, IAV, AR, VOLT, TEMP 0 .. flags only CI", MODE as opened; SI "opening at 16 × S0" (A1 of paper 02); nothing
-- counted yet (A4, A5)
unfoldable pub opened : List ℕ → Gauge
opened c =
    record {
      settings = opened_settings c;
      charge = opened_charge (terms_of (opened_settings c));
      sample = no_sample;
      standby = opened_standby (terms_of (opened_settings c)).s0;
      flags = opened_flags true;
      host = opened_host (terms_of (opened_settings c));
      counters = opened_counters;
    }

-- 1 "configuration not 10 bytes", 2 "ILMD 0"
unfoldable pub open_refusal : List ℕ → ℕ
open_refusal bytes =
    cond (eqb (length bytes) 10) (cond (eqb (ilmd (opened_settings bytes)) 0) Refusal.ilmd_zero Refusal.none) Refusal.configuration_length

-- a refused opening has no gauge to hand back: it is that of ten bytes 0, which every call refuses with 14
unfoldable pub open_answer : List ℕ → Answer
open_answer bytes = answered (open_refusal bytes) (opened (replicate 10 0)) (opened bytes)
