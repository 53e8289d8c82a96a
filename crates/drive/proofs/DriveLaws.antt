-- An accepted gauge's bytes load as it, so each call on them leaves the bytes of the gauge that it leaves, and that gauge is accepted too.
-- Assumes nothing.
use mathlib.Core.Bool.{Bool, true, false, cond}
use mathlib.Core.List.{List, [], ◌∷◌}
use mathlib.Core.Path.{◌≡◌, refl}
use Prim.Native.Nat.{ℕ}
use lib.Dec.{eqb}
use lib.ListN.{length}
use Rattle.form.specs.Form.{newest}
use Rattle.gauge.specs.Answer.{answered}
use Rattle.gauge.specs.Calls.{rest_answer, window_answer, write_answer}
use Rattle.gauge.specs.Opening.{open_refusal, opened}
use Rattle.gauge.specs.Fits.{Taken}
use Rattle.gauge.specs.Answer.{Answer}
use Rattle.gauge.specs.declared.state.Gauge.{Gauge}
use Rattle.handset.specs.Calls.{open_bytes, open_number, rest_call, window_call, write_call}
use Rattle.saved.specs.Call.{call_bytes, call_number}
use Rattle.load.specs.Look.{look_number}
use Rattle.history.specs.After.{after, gauge_after, number_of}
use Rattle.history.specs.Call.{Call}
use Rattle.history.proofs.ListLaws.{opened_answer, opened_taken}
use Rattle.history.proofs.StayLaws.{stays_accepted}
use Rattle.load.specs.Load.{answer_in}
use Rattle.refusals.specs.Refusal as Refusal
use Rattle.refusals.proofs.OrElseLaws.{first_none}
use Rattle.round_trip.proofs.RoundTripLaws.{load_of_saved}
use Rattle.saved.specs.Save.{length_refusal, saved_bytes}
use Rattle.drive.specs.Claim.{EveryDrive, Holds}
use Rattle.drive.specs.Drive.{bytes_after, called_bytes, called_number}

abbrev answer : Gauge → Answer
answer g = record { number = Refusal.none; gauge = g }

pub loads : (g : Gauge) → Taken g → answer_in newest (saved_bytes g) ≡ answer g
loads g k = load_of_saved g k.fits k.accepted

-- ---- one call

either : (t : Bool) (a g : Gauge) → cond t (saved_bytes (cond t a g)) (saved_bytes g) ≡ saved_bytes (cond t a g)
either true a g = refl
either false a g = refl

call_number_lem : (g : Gauge) (call : Gauge → Answer) → answer_in newest (saved_bytes g) ≡ answer g → call_number (saved_bytes g) call ≡ (call g).number
unfolding call_number
call_number_lem g call e = rw e

call_bytes_lem : (g next : Gauge) (n : ℕ) (call : Gauge → Answer) → answer_in newest (saved_bytes g) ≡ answer g → call g ≡ answered n g next
    → call_bytes (saved_bytes g) call ≡ saved_bytes (call g).gauge
unfolding call_bytes call_number
call_bytes_lem g next n call e a = rw (e, a) (either (eqb n 0) next g)

module _ (g : Gauge) (k : Taken g) where
  pub step_bytes_lem : (call : Call) → called_bytes call (saved_bytes g) ≡ saved_bytes (gauge_after call g)
  unfolding called_bytes gauge_after window_answer rest_answer write_answer
  step_bytes_lem (Call.window a v t) = call_bytes_lem g _ _ (window_call a v t) (loads g k) refl
  step_bytes_lem (Call.rest n t) = call_bytes_lem g _ _ (rest_call n t) (loads g k) refl
  step_bytes_lem (Call.write address value) = call_bytes_lem g _ _ (write_call address value.number) (loads g k) refl
  step_bytes_lem (Call.read address count place reply_length) = refl
  step_bytes_lem (Call.preview key reply_length) = refl
  step_bytes_lem (Call.estimate v) = refl

  pub step_numbers : (call : Call) → called_number call (saved_bytes g) ≡ number_of call g
  unfolding called_number number_of look_number
  step_numbers (Call.window a v t) = call_number_lem g (window_call a v t) (loads g k)
  step_numbers (Call.rest n t) = call_number_lem g (rest_call n t) (loads g k)
  step_numbers (Call.write address value) = call_number_lem g (write_call address value.number) (loads g k)
  step_numbers (Call.read address count place reply_length) = rw (loads g k)
  step_numbers (Call.preview key reply_length) = rw (loads g k)
  step_numbers (Call.estimate v) = rw (loads g k)

-- ---- every list

pub list_bytes : (calls : List Call) (g : Gauge) → Taken g → bytes_after calls (saved_bytes g) ≡ saved_bytes (after calls g)
unfolding bytes_after after
list_bytes [] g k = refl
list_bytes (call ∷ calls) g k = rw (step_bytes_lem g k call) (list_bytes calls (gauge_after call g) (stays_accepted g k call))

pub list_taken : (calls : List Call) (g : Gauge) → Taken g → Taken (after calls g)
unfolding after
list_taken [] g k = k
list_taken (call ∷ calls) g k = list_taken calls (gauge_after call g) (stays_accepted g k call)

list_holds : (calls : List Call) (g : Gauge) → Taken g → Holds (bytes_after calls (saved_bytes g)) (after calls g)
list_holds calls g k =
    rw (list_bytes calls g k) (record { bytes = refl; numbers = step_numbers (after calls g) (list_taken calls g k) })

-- ---- opening

pub opens : (c : List ℕ) (n : ℕ) → open_number c n ≡ Refusal.none → open_refusal c ≡ Refusal.none
unfolding open_number
opens c n e = first_none (open_refusal c) (length_refusal n) e

pub opened_bytes : (c buffer : List ℕ) → open_number c (length buffer) ≡ Refusal.none → open_bytes c buffer ≡ saved_bytes (opened c)
unfolding open_bytes
opened_bytes c buffer e = rw e

pub every_drive : EveryDrive
every_drive c buffer bytes e calls =
    let o = opens c (length buffer) e in
    rw (opened_bytes c buffer e, opened_answer c o) (list_holds calls (opened c) (opened_taken c bytes o))
