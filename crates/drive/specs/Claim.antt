-- Demand 3 said of the saved bytes and the calls from C: from opening, and from any bytes that are accepted. Definitions only; assumes
-- nothing.
use Rattle.std.specs.Prelude.{List, ◌≡◌, ℕ, ◌/◌, ◌<◌, ℤ, pos, get_or, length}
use Rattle.configuration.specs.Settings.{opened_settings}
use Rattle.estimate.specs.Estimate.{distance_from, estimated}
use Rattle.flags.specs.Byte.{vdq_of}
use Rattle.form.specs.Form.{Ar, Configuration, CycleDrain, Cyct, Dcr, Flags, Form, Held, Lmd, Mode, Rests, bytes_of, newest, number_of}
use Rattle.gauge.specs.Opening.{open_answer}
use Rattle.gauge.specs.declared.state.Gauge.{Gauge}
use Rattle.grains.specs.declared.run.Run.{Run}
use Rattle.handset.specs.Calls.{estimate_counts, estimate_distance, estimate_number, open_bytes, open_number}
use Rattle.history.specs.Account.{fixing}
use Rattle.history.specs.After as Gauges
use Rattle.history.specs.Call.{Call}
use Rattle.history.specs.Claim.{drain_of, run_of}
use Rattle.history.specs.Counters.{cycle_count, rest_count}
use Rattle.history.specs.History.{after_calls, opened_history}
use Rattle.history.specs.Kept.{History}
use Rattle.history.specs.Refused.{refusal_of}
use Rattle.history.specs.Sums.{charge_of, grains_a_count}
use Rattle.load.specs.Load.{answer_in}
use Rattle.numbers.specs.Signed.{at_least_zero}
use Rattle.permille.specs.Table.{permille}
use Rattle.refusals.specs.Refusal as Refusal
use Rattle.saved.specs.Save.{saved_bytes}
use Rattle.drive.specs.Drive.{bytes_after, called_number}

-- ---- the bytes and a gauge

-- the bytes are those of the gauge, and every call yields the number that it yields on the gauge
pub record Holds (saved : List ℕ) (g : Gauge) : Type 0 where
  pub bytes : saved ≡ saved_bytes g
  pub numbers : (call : Call) → called_number call saved ≡ Gauges.number_of call g

-- for every configuration and buffer that opening accepts and every list of calls
abbrev pub EveryDrive : Type 0
EveryDrive =
    (configuration buffer : List ℕ) → ((k : ℕ) → get_or configuration k 0 < 256) → open_number configuration (length buffer) ≡ Refusal.none
    → (calls : List Call) → Holds (bytes_after calls (open_bytes configuration buffer)) (Gauges.after calls (open_answer configuration).gauge)

-- ---- the bytes and the history

-- VDQ and DCR as they stand in bytes of a form
abbrev pub run_at : Form → List ℕ → Run
run_at form bytes = record { vdq = vdq_of (number_of Flags form bytes); dcr = number_of Dcr form bytes }

-- "floor(permille × LMD / 1,000)" of the history's L
abbrev pub part_of_learned : ℤ → History → ℕ
part_of_learned v x = estimated (permille v) x.account.learned

-- floor(H / G)
abbrev pub counts_held : History → ℕ
counts_held x = at_least_zero (charge_of x.account.sums) / grains_a_count

pub record HoldsHistory (saved : List ℕ) (x : History) : Type 0 where
  -- "h equals H"
  pub held : pos (number_of Held newest saved) ≡ charge_of x.account.sums
  -- "LMD equals L"
  pub lmd : number_of Lmd newest saved ≡ x.account.learned
  -- "VDQ is set exactly during a run, and DCR equals R, 0 without a run"
  pub run : run_at newest saved ≡ run_of x.account.run
  -- the count of rest windows (A4 of paper 02)
  pub rests : number_of Rests newest saved ≡ rest_count x.counters
  -- CYCT and the cycle drain (A5)
  pub cycles : number_of Cyct newest saved ≡ cycle_count x.counters
  pub drain : number_of CycleDrain newest saved ≡ x.counters.drain
  -- "A call is refused exactly where the numbers below say so"; none of them is 14
  pub numbers : (call : Call) → called_number call saved ≡ refusal_of call x
  -- an estimate that is not refused is a part of L, and its distance is from floor(H / G) (A4 of paper 02)
  pub estimate : (v : ℤ) (before : ℕ) → estimate_number saved v ≡ Refusal.none → estimate_counts saved v before ≡ part_of_learned v x
  pub distance : (v before : ℤ) → estimate_number saved v ≡ Refusal.none → estimate_distance saved v before ≡ distance_from (counts_held x) (part_of_learned v x)

-- demand 3 from C: opening, then every list of calls
abbrev pub FromOpening : Type 0
FromOpening =
    (configuration buffer : List ℕ) → ((k : ℕ) → get_or configuration k 0 < 256) → open_number configuration (length buffer) ≡ Refusal.none
    → (calls : List Call) → HoldsHistory (bytes_after calls (open_bytes configuration buffer)) (after_calls calls (opened_history configuration))

-- the history begun at what bytes of a form hold: their h is the last fixing point, and nothing is summed yet; their counters go on, 0 in a form that
-- has none
abbrev pub begun_in : Form → List ℕ → History
begun_in form bytes =
    record {
      settings = opened_settings (bytes_of Configuration form bytes);
      account = fixing (number_of Held form bytes) (number_of Lmd form bytes) (drain_of (run_at form bytes));
      host = record { mode = number_of Mode form bytes; ar = number_of Ar form bytes };
      counters = record { rests = number_of Rests form bytes; cycles = number_of Cyct form bytes; drain = number_of CycleDrain form bytes };
    }

-- demand 3 from any bytes of the newest form that are accepted, for the history begun at what they hold: a handset that was switched off or
-- given another cell goes on
abbrev pub FromSaved : Type 0
FromSaved =
    (saved : List ℕ) → ((k : ℕ) → get_or saved k 0 < 256) → (answer_in newest saved).number ≡ Refusal.none
    → (calls : List Call) → HoldsHistory (bytes_after calls saved) (after_calls calls (begun_in newest saved))
