-- A conversion leaves the bytes of the gauge that the old bytes hold, which is accepted; so they load as it, a further conversion leaves them, and
-- every list of calls and starts goes on from it. Assumes nothing.
use mathlib.Core.List.{List, [], ◌∷◌}
use mathlib.Core.Path.{◌≡◌, refl, ap, ◌∙◌}
use Prim.Native.Nat.{ℕ, ◌<◌}
use lib.ListN.{get_or, length, replicate}
use borrow.Author.Tests.{eq-eqb}
use Rattle.every_form.specs.EveryForm.{load_answer}
use Rattle.form.specs.Form.{form_of, newest, saved_length}
use Rattle.gauge.specs.Fits.{Taken}
use Rattle.gauge.specs.declared.state.Gauge.{Gauge}
use Rattle.handset.specs.Calls.{convert_bytes, convert_number}
use Rattle.history.specs.After.{after, gauge_after}
use Rattle.history.specs.Claim.{begun}
use Rattle.history.specs.History.{after_calls}
use Rattle.history.proofs.ListLaws.{from_any_gauge}
use Rattle.history.proofs.StayLaws.{stays_accepted}
use Rattle.load.specs.Load.{answer_in, loaded}
use Rattle.load.proofs.LoadLaws.{accepted_loads, loads}
use Rattle.load.proofs.TakenLaws.{form_taken}
use Rattle.refusals.specs.Refusal as Refusal
use Rattle.refusals.proofs.OrElseLaws.{first_none}
use Rattle.round_trip.proofs.RoundTripLaws.{newest_loads}
use Rattle.saved.specs.Save.{length_refusal, saved_bytes}
use Rattle.drive.specs.Claim.{HoldsHistory}
use Rattle.drive.specs.Update.{Converted, ConvertedSame, FromUpdate, Step, bytes_after_steps, calls_of, make, start, step_bytes}
use Rattle.drive.proofs.DriveLaws as Drive
use Rattle.drive.proofs.DriveLaws.{list_taken, step_bytes_lem}
use Rattle.drive.proofs.HistoryLaws.{gauge_holds}
use Rattle.drive.proofs.SavedLaws.{begun_in_lem, load_taken, same_bytes}

-- ---- accepted old bytes

module _ (old buffer : List ℕ) (small : (k : ℕ) → get_or old k 0 < 256) (e : convert_number old (length buffer) ≡ Refusal.none) where
  old_loads : (load_answer old).number ≡ Refusal.none
  unfolding convert_number
  old_loads = first_none (load_answer old).number (length_refusal (length buffer)) e

  old_gauge : (load_answer old).gauge ≡ loaded (form_of old) old
  unfolding load_answer
  old_gauge = (loads (form_of old) old old_loads).gauge

  old_taken : Taken (loaded (form_of old) old)
  unfolding load_answer
  old_taken = form_taken old small (loads (form_of old) old old_loads).accepted

  bytes_are : convert_bytes old buffer ≡ saved_bytes (loaded (form_of old) old)
  unfolding convert_bytes
  bytes_are = rw e (ap saved_bytes old_gauge)

pub converted : Converted
unfolding load_answer
converted old buffer small e =
    let l = loads (form_of old) old (old_loads old buffer small e) in
    ap (answer_in newest) (bytes_are old buffer small e) ∙ Drive.loads (loaded (form_of old) old) (old_taken old buffer small e)
    ∙ accepted_loads (form_of old) old l.fits refl l.accepted

-- ---- the bytes of an accepted gauge

module _ (g : Gauge) (k : Taken g) (buffer : List ℕ) (l : length buffer ≡ saved_length) where
  saved_reads : load_answer (saved_bytes g) ≡ record { number = Refusal.none; gauge = g }
  saved_reads = newest_loads g ∙ Drive.loads g k

  same_number : convert_number (saved_bytes g) (length buffer) ≡ Refusal.none
  unfolding convert_number
  same_number = simp (saved_reads, eq-eqb (length buffer) saved_length l)

  same_after : convert_bytes (saved_bytes g) buffer ≡ saved_bytes g
  unfolding convert_bytes
  same_after = simp (same_number, saved_reads)

-- bytes of the newest form are those of an accepted gauge
pub converted_same : ConvertedSame
converted_same saved buffer small e l =
    let g = loaded newest saved in
    let k = load_taken saved small e in
    let b = same_bytes saved small e in
    let number = same_number g k buffer l in
    let same = same_after g k buffer l in
    (rw b at number, rw b at same)

-- ---- every list

steps_bytes : (steps : List Step) (g : Gauge) → Taken g → bytes_after_steps steps (saved_bytes g) ≡ saved_bytes (after (calls_of steps) g)
unfolding bytes_after_steps step_bytes calls_of after
steps_bytes [] g k = refl
steps_bytes (make call ∷ steps) g k = rw (step_bytes_lem g k call) (steps_bytes steps (gauge_after call g) (stays_accepted g k call))
steps_bytes (start ∷ steps) g k = rw (same_after g k (replicate saved_length 0) refl) (steps_bytes steps g k)

steps_hold : (steps : List Step) (g : Gauge) → Taken g → HoldsHistory (bytes_after_steps steps (saved_bytes g)) (after_calls (calls_of steps) (begun g))
steps_hold steps g k =
    rw (steps_bytes steps g k)
    (gauge_holds (after (calls_of steps) g) (after_calls (calls_of steps) (begun g)) (list_taken (calls_of steps) g k) (from_any_gauge g k (calls_of steps)))

pub from_update : FromUpdate
from_update old buffer small e steps =
    let h = steps_hold steps (loaded (form_of old) old) (old_taken old buffer small e) in
    rw (bytes_are old buffer small e, ← begun_in_lem (form_of old) old) h
