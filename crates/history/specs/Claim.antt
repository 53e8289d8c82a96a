-- Demand 3 as one claim over every list of calls from a freshly opened gauge, the same from any accepted gauge, and that what is accepted
-- stays accepted. Definitions only; assumes nothing.
use Rattle.std.specs.Prelude.{true, cond, List, ◌≡◌, ℕ, ◌<◌, pos, get_or}
use Rattle.std.proofs.Math.Option.{Option, none, some}
use Rattle.gauge.specs.Fits.{Taken}
use Rattle.gauge.specs.Opening.{open_answer, open_refusal}
use Rattle.gauge.specs.declared.state.Gauge.{Gauge}
use Rattle.grains.specs.Run.{no_run}
use Rattle.grains.specs.declared.run.Run.{Run}
use Rattle.refusals.specs.Refusal as Refusal
use Rattle.history.specs.Account.{fixing}
use Rattle.history.specs.After.{after, gauge_after, number_of}
use Rattle.history.specs.Call.{Call}
use Rattle.history.specs.Counters.{cycle_count, rest_count}
use Rattle.history.specs.History.{after_calls, opened_history}
use Rattle.history.specs.Kept.{History}
use Rattle.history.specs.Refused.{refusal_of}
use Rattle.history.specs.Sums.{charge_of}

-- "VDQ is set exactly during a run, and DCR equals R, 0 without a run"
abbrev pub run_of : Option ℕ → Run
run_of none = no_run
run_of (some r) = record { vdq = true; dcr = r }

-- what holds of the gauge and the history after the same list
pub record Agrees (g : Gauge) (x : History) : Type 0 where
  -- "h equals H"
  pub held : pos g.charge.held ≡ charge_of x.account.sums
  -- "LMD equals L"
  pub lmd : g.charge.lmd ≡ x.account.learned
  pub run : g.charge.run ≡ run_of x.account.run
  -- the count of rest windows (A4 of paper 02)
  pub rests : g.counters.rests ≡ rest_count x.counters
  -- CYCT and the cycle drain (A5)
  pub cycles : g.counters.cycles.cyct ≡ cycle_count x.counters
  pub drain : g.counters.cycles.drain ≡ x.counters.drain
  -- "A call is refused exactly where the numbers below say so for its arguments and" what the history keeps
  pub refused : (call : Call) → number_of call g ≡ refusal_of call x
  -- "14 never arises in such a list"
  pub never : (call : Call) → number_of call g ≡ Refusal.rejected → ⊥

-- ---- demand 3

-- "After every list of demand 3": for every configuration that opening accepts and every list of calls
abbrev pub Demand3 : Type 0
Demand3 =
    (configuration : List ℕ) → ((k : ℕ) → get_or configuration k 0 < 256) → open_refusal configuration ≡ Refusal.none
    → (calls : List Call) → Agrees (after calls (open_answer configuration).gauge) (after_calls calls (opened_history configuration))

-- ---- the same from any gauge

-- the run of a gauge
abbrev pub drain_of : Run → Option ℕ
drain_of run = cond run.vdq (some run.dcr) none

-- the history that starts at a gauge: its charge is the last fixing point, and nothing is summed yet
unfoldable pub begun : Gauge → History
begun g =
    record {
      settings = g.settings;
      account = fixing g.charge.held g.charge.lmd (drain_of g.charge.run);
      host = g.host;
      counters = record { rests = g.counters.rests; cycles = g.counters.cycles.cyct; drain = g.counters.cycles.drain };
    }

-- "Any gauge value handed to a call": for each that is accepted and every list of calls
abbrev pub FromAnyGauge : Type 0
FromAnyGauge = (g : Gauge) → Taken g → (calls : List Call) → Agrees (after calls g) (after_calls calls (begun g))

-- every call on an accepted gauge leaves one: where 14 did not arise it never does
abbrev pub StaysAccepted : Type 0
StaysAccepted = (g : Gauge) → Taken g → (call : Call) → Taken (gauge_after call g)
