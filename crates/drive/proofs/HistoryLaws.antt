-- The bytes that a list of calls leaves are those of a gauge that agrees with the history, and each field read back from them is the
-- gauge's. Assumes nothing.
use mathlib.Core.List.{List}
use mathlib.Core.Path.{◌≡◌, ap, ◌∙◌}
use lib.IntN.{pos}
use lib.ListN.{length}
use Rattle.form.specs.Form.{newest}
use Rattle.gauge.specs.Opening.{opened}
use Rattle.gauge.specs.Fits.{Taken}
use Rattle.gauge.specs.declared.state.Gauge.{Gauge}
use Rattle.history.specs.After.{after}
use Rattle.history.specs.Call.{Call}
use Rattle.history.specs.Claim.{Agrees, begun}
use Rattle.history.specs.History.{after_calls}
use Rattle.history.specs.Kept.{History}
use Rattle.history.proofs.ListLaws.{from_any_gauge, opened_begun, opened_taken}
use Rattle.load.specs.Fields.{charge_from, counters_from, gauge_from}
use Rattle.load.specs.Load.{loaded, read_in}
use Rattle.saved.specs.Save.{saved_bytes}
use Rattle.drive.specs.Claim.{FromOpening, FromSaved, HoldsHistory}
use Rattle.drive.specs.Drive.{bytes_after}
use Rattle.drive.proofs.DriveLaws.{list_bytes, list_taken, loads, opened_bytes, opens, step_numbers}
use Rattle.drive.proofs.EstimateLaws.{distance_holds, estimate_holds}
use Rattle.drive.proofs.SavedLaws.{begun_in_lem, load_taken, loaded_is, same_bytes}

loaded_back : (g : Gauge) → Taken g → loaded newest (saved_bytes g) ≡ g
loaded_back g k = loaded_is (saved_bytes g) g (loads g k)

pub gauge_holds : (g : Gauge) (x : History) → Taken g → Agrees g x → HoldsHistory (saved_bytes g) x
unfolding loaded read_in gauge_from charge_from counters_from
gauge_holds g x k a =
    let c = loaded_back g k in
    record {
      held = ap (λ (y : Gauge). pos y.charge.held) c ∙ a.held;
      lmd = ap (λ (y : Gauge). y.charge.lmd) c ∙ a.lmd;
      run = ap (λ (y : Gauge). y.charge.run) c ∙ a.run;
      rests = ap (λ (y : Gauge). y.counters.rests) c ∙ a.rests;
      cycles = ap (λ (y : Gauge). y.counters.cycles.cyct) c ∙ a.cycles;
      drain = ap (λ (y : Gauge). y.counters.cycles.drain) c ∙ a.drain;
      numbers = λ call. step_numbers g k call ∙ a.refused call;
      estimate = λ v before e. estimate_holds g x k a v e before;
      distance = λ v before e. distance_holds g x k a v e before;
    }

list_holds : (calls : List Call) (g : Gauge) → Taken g → HoldsHistory (bytes_after calls (saved_bytes g)) (after_calls calls (begun g))
list_holds calls g k =
    rw (list_bytes calls g k) (gauge_holds (after calls g) (after_calls calls (begun g)) (list_taken calls g k) (from_any_gauge g k calls))

pub from_opening : FromOpening
from_opening c buffer bytes e calls =
    rw (opened_bytes c buffer e, opened_begun c) (list_holds calls (opened c) (opened_taken c bytes (opens c (length buffer) e)))

pub from_saved : FromSaved
from_saved s small e calls =
    let h = list_holds calls (loaded newest s) (load_taken s small e) in
    rw (← begun_in_lem newest s) (rw (same_bytes s small e) at h)
