-- The calls from C on the saved bytes: the number and every byte of every lent buffer. 14 is tested first, success is 0, and a
-- refusal changes no byte. They take the newest form alone, "older ones being 14 there" (A1 of paper 02), but for the conversion, which reads
-- every form. Definitions only; assumes nothing.
use Rattle.std.specs.Prelude.{cond, List, ℕ, eqb, ℤ, length}
use Rattle.estimate.specs.Estimate.{distance_after, estimate_after, estimate_refusal}
use Rattle.every_form.specs.EveryForm.{load_answer}
use Rattle.gauge.specs.Calls.{rest_answer, window_answer, write_answer}
use Rattle.gauge.specs.Opening.{open_refusal, opened}
use Rattle.gauge.specs.Answer.{Answer}
use Rattle.gauge.specs.declared.state.Gauge.{Gauge}
unfoldable pub use Rattle.load.specs.Look.{look_leaves, look_number}
use Rattle.preview.specs.Preview as Preview
use Rattle.preview.specs.Preview.{command_after, preview_refusal}
use Rattle.refusals.specs.Refusal as Refusal
use Rattle.refusals.specs.Refusal.{or_else}
use Rattle.registers.specs.Reading as Reading
use Rattle.registers.specs.Reading.{read_refusal}
unfoldable pub use Rattle.saved.specs.Call.{call_bytes, call_number}
use Rattle.saved.specs.Save.{length_refusal, saved_bytes}

-- ---- a call that moves the gauge: "On success window and write leave the new gauge saved in the same bytes."

abbrev pub window_call : ℤ → ℤ → ℤ → Gauge → Answer
window_call a v t g = window_answer g a v t

abbrev pub rest_call : ℕ → ℤ → Gauge → Answer
rest_call windows t g = rest_answer g windows t

abbrev pub write_call : ℕ → ℕ → Gauge → Answer
write_call address value g = write_answer g address value

-- ---- opening into a lent buffer: 1, 2, 13

unfoldable pub open_number : List ℕ → ℕ → ℕ
open_number configuration buffer_length = or_else (open_refusal configuration) (length_refusal buffer_length)

unfoldable pub open_bytes : List ℕ → List ℕ → List ℕ
open_bytes configuration saved = cond (eqb (open_number configuration (length saved)) Refusal.none) (saved_bytes (opened configuration)) saved

-- ---- a conversion into a lent buffer, so that "a handset updated mid-drive goes on": 14, 13

unfoldable pub convert_number : List ℕ → ℕ → ℕ
convert_number old buffer_length = or_else (load_answer old).number (length_refusal buffer_length)

unfoldable pub convert_bytes : List ℕ → List ℕ → List ℕ
convert_bytes old saved = cond (eqb (convert_number old (length saved)) Refusal.none) (saved_bytes (load_answer old).gauge) saved

-- ---- a call that looks at the gauge and leaves the saved bytes

-- a read: 14, 12, 13

abbrev pub read_number : List ℕ → ℕ → ℕ → ℕ → ℕ → ℕ
read_number saved address count place reply_length = look_number saved (λ g. read_refusal g address count place reply_length)

abbrev pub read_reply : List ℕ → ℕ → ℕ → ℕ → List ℕ → List ℕ
read_reply saved address count place reply = look_leaves saved (λ g. Reading.reply_after g address count place reply) reply

-- a preview of a key at CTRL (A2 of paper 02): 14, 8 to 11, 13

abbrev pub preview_number : List ℕ → ℕ → ℕ → ℕ
preview_number saved key reply_length = look_number saved (λ g. preview_refusal g key reply_length)

abbrev pub preview_reply : List ℕ → ℕ → List ℕ → List ℕ
preview_reply saved key reply = look_leaves saved (λ g. Preview.reply_after g key reply) reply

abbrev pub preview_command : List ℕ → ℕ → ℕ → ℕ → ℕ
preview_command saved key reply_length before = look_leaves saved (λ g. command_after g key reply_length before) before

-- an estimate from a voltage (A4 of paper 02): 14, 15, 16

abbrev pub estimate_number : List ℕ → ℤ → ℕ
estimate_number saved v = look_number saved (λ g. estimate_refusal g v)

abbrev pub estimate_counts : List ℕ → ℤ → ℕ → ℕ
estimate_counts saved v before = look_leaves saved (λ g. estimate_after g v before) before

abbrev pub estimate_distance : List ℕ → ℤ → ℤ → ℤ
estimate_distance saved v before = look_leaves saved (λ g. distance_after g v before) before
