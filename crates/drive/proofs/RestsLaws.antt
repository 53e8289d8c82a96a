-- Accepted bytes are those of an accepted gauge, and each call leaves the bytes of the gauge that it leaves; bytes that are rejected no call moves. Assumes
-- nothing.
use mathlib.Core.Bool.{Bool, true, false}
use mathlib.Core.List.{List}
use mathlib.Core.Path.{◌≡◌, refl, sym, ap, ◌∙◌}
use Prim.Native.Nat.{ℕ}
use lib.Dec.{eqb}
use lib.IntN.{ℤ}
use lib.ListN.{replicate}
use borrow.Author.Tests.{eqb-true}
use Rattle.form.specs.Form.{newest}
use Rattle.sample.specs.Limits.{rest_in_range}
use Rattle.gauge.specs.Fits.{Taken}
use Rattle.gauge.specs.declared.state.Gauge.{Gauge}
use Rattle.saved.specs.Call.{call_bytes, call_number}
use Rattle.history.specs.After.{after}
use Rattle.history.specs.Call.{Call}
use Rattle.history.specs.Rests.{OneByOne}
use Rattle.history.proofs.RestsLaws.{nothing_moves, rests_of_one}
use Rattle.load.specs.Load.{answer_in, loaded}
use Rattle.refusals.specs.Refusal as Refusal
use Rattle.saved.specs.Save.{saved_bytes}
use Rattle.drive.specs.Drive.{bytes_after, called_bytes, called_number}
use Rattle.drive.specs.Rests.{RestCallsOfOne}
use Rattle.drive.proofs.DriveLaws.{list_bytes, list_taken, step_bytes_lem, step_numbers}
use Rattle.drive.proofs.SavedLaws.{load_taken, same_bytes}

-- ---- the bytes of an accepted gauge

saved_rests : (g : Gauge) → Taken g → (n : ℕ) → rest_in_range n ≡ true → (t : ℤ) → OneByOne bytes_after called_bytes called_number n t (saved_bytes g)
saved_rests g k n r t =
    let o = rests_of_one g k.fits n r t in
    record {
      whole = list_bytes (ones n) g k ∙ ap saved_bytes o.whole ∙ sym (step_bytes_lem g k (Call.rest n t));
      numbers = λ j h.
          ap (called_number (Call.rest 1 t)) (list_bytes (ones j) g k)
          ∙ step_numbers (after (ones j) g) (list_taken (ones j) g k) (Call.rest 1 t)
          ∙ o.numbers j h ∙ sym (step_numbers g k (Call.rest n t));
    }
  where
    ones : ℕ → List Call
    ones j = replicate j (Call.rest 1 t)

-- ---- rejected bytes

module _ (saved : List ℕ) (e : eqb (answer_in newest saved).number Refusal.none ≡ false) (t : ℤ) where
  rejected_number : (n : ℕ) → called_number (Call.rest n t) saved ≡ (answer_in newest saved).number
  unfolding called_number call_number
  rejected_number n = simp e

  rejected_bytes : (n : ℕ) → called_bytes (Call.rest n t) saved ≡ saved
  unfolding called_bytes call_bytes call_number
  rejected_bytes n = simp e

  rejected_rests : (n : ℕ) → OneByOne bytes_after called_bytes called_number n t saved
  unfolding bytes_after
  rejected_rests n =
      nothing_moves n t saved refl (λ calls. ap (bytes_after calls) (rejected_bytes 1)) (rejected_bytes n) (rejected_number 1 ∙ sym (rejected_number n))

-- ---- all bytes

pub rest_calls_of_one : RestCallsOfOne
rest_calls_of_one saved small n r t = go (eqb (answer_in newest saved).number Refusal.none) refl
  where
    go : (b : Bool) → eqb (answer_in newest saved).number Refusal.none ≡ b → OneByOne bytes_after called_bytes called_number n t saved
    go true e =
        let a = eqb-true (answer_in newest saved).number Refusal.none e in
        let o = saved_rests (loaded newest saved) (load_taken saved small a) n r t in
        let b = same_bytes saved small a in
        rw b at o
    go false e = rejected_rests saved e t n
