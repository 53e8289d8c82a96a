-- A history begins at what bytes of a form hold as at their gauge, and accepted bytes of the newest form are the bytes of theirs. Assumes nothing.
use mathlib.Core.List.{List}
use mathlib.Core.Path.{◌≡◌, refl, sym, ap, ◌∙◌}
use Prim.Native.Nat.{ℕ, ◌<◌}
use lib.ListN.{get_or}
use Rattle.form.specs.Form.{Form, newest}
use Rattle.gauge.specs.Fits.{Taken}
use Rattle.gauge.specs.Answer.{Answer}
use Rattle.gauge.specs.declared.state.Gauge.{Gauge}
use Rattle.history.specs.Claim.{begun}
use Rattle.load.specs.Fields.{charge_from, counters_from, gauge_from, host_from}
use Rattle.load.specs.Load.{answer_in, loaded, read_in}
use Rattle.load.proofs.LoadLaws.{loads}
use Rattle.load.proofs.TakenLaws.{newest_taken}
use Rattle.refusals.specs.Refusal as Refusal
use Rattle.round_trip.proofs.RoundTripLaws.{saved_loaded}
use Rattle.saved.specs.Save.{saved_bytes}
use Rattle.drive.specs.Claim.{begun_in}

abbrev answer : Gauge → Answer
answer g = record { number = Refusal.none; gauge = g }

-- a history begins at what bytes of any form hold as at their gauge
pub begun_in_lem : (form : Form) (s : List ℕ) → begun (loaded form s) ≡ begun_in form s
unfolding loaded read_in gauge_from charge_from host_from counters_from begun
begun_in_lem form s = refl

-- ---- the newest form

module _ (s : List ℕ) (small : (k : ℕ) → get_or s k 0 < 256) (e : (answer_in newest s).number ≡ Refusal.none) where
  pub load_taken : Taken (loaded newest s)
  load_taken = newest_taken s small (loads newest s e).accepted

  pub same_bytes : saved_bytes (loaded newest s) ≡ s
  same_bytes = saved_loaded s small (loads newest s e).fits

-- what loads as a gauge holds it
pub loaded_is : (s : List ℕ) (g : Gauge) → answer_in newest s ≡ answer g → loaded newest s ≡ g
loaded_is s g e =
    let n : (answer_in newest s).number ≡ 0 = ap (λ (a : Answer). a.number) e in
    sym (loads newest s n).gauge ∙ ap (λ (a : Answer). a.gauge) e
