-- "so a handset updated mid-drive goes on" (A1 of paper 02): what a conversion leaves, and demand 3 over it. Definitions only; assumes nothing.
use Rattle.std.specs.Prelude.{List, [], ◌∷◌, ◌≡◌, ℕ, ◌<◌, get_or, length, replicate}
use Rattle.every_form.specs.EveryForm.{load_answer}
use Rattle.form.specs.Form.{form_of, newest, saved_length}
use Rattle.handset.specs.Calls.{convert_bytes, convert_number}
use Rattle.history.specs.Call.{Call}
use Rattle.history.specs.History.{after_calls}
use Rattle.load.specs.Load.{answer_in}
use Rattle.refusals.specs.Refusal as Refusal
use Rattle.drive.specs.Claim.{HoldsHistory, begun_in}
use Rattle.drive.specs.Drive.{called_bytes}

-- ---- what a conversion leaves

-- every call takes the bytes that a conversion leaves, and finds in them the gauge that the old bytes held
abbrev pub Converted : Type 0
Converted =
    (old buffer : List ℕ) → ((k : ℕ) → get_or old k 0 < 256) → convert_number old (length buffer) ≡ Refusal.none
    → answer_in newest (convert_bytes old buffer) ≡ load_answer old

-- bytes of the newest form come out the same
abbrev pub ConvertedSame : Type 0
ConvertedSame =
    (saved buffer : List ℕ) → ((k : ℕ) → get_or saved k 0 < 256) → (answer_in newest saved).number ≡ Refusal.none → length buffer ≡ saved_length
    → (convert_number saved (length buffer) ≡ Refusal.none) × (convert_bytes saved buffer ≡ saved)

-- ---- demand 3 over an update

-- what a handset does: calls, and starts, at each of which it converts the bytes that it kept
pub data Step : Type 0 where
  make : Call → Step
  start : Step

unfoldable pub step_bytes : Step → List ℕ → List ℕ
step_bytes (make call) saved = called_bytes call saved
step_bytes start saved = convert_bytes saved (replicate saved_length 0)

unfoldable pub bytes_after_steps : List Step → List ℕ → List ℕ
bytes_after_steps [] saved = saved
bytes_after_steps (step ∷ steps) saved = bytes_after_steps steps (step_bytes step saved)

-- the history knows no starts
unfoldable pub calls_of : List Step → List Call
calls_of [] = []
calls_of (make call ∷ steps) = call ∷ calls_of steps
calls_of (start ∷ steps) = calls_of steps

-- from accepted bytes of any form, converted: every list of calls, and starts anywhere among them, holds the history begun at what the old bytes
-- held
abbrev pub FromUpdate : Type 0
FromUpdate =
    (old buffer : List ℕ) → ((k : ℕ) → get_or old k 0 < 256) → convert_number old (length buffer) ≡ Refusal.none
    → (steps : List Step) → HoldsHistory (bytes_after_steps steps (convert_bytes old buffer)) (after_calls (calls_of steps) (begun_in (form_of old) old))
