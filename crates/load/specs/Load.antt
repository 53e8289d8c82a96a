-- "Saved gauge" of paper 01, loading: bytes of a form are read field by field, and what was read is carried over to the gauge of the newest form.
-- Definitions only; assumes nothing.
use Rattle.std.specs.Prelude.{Bool, ◌&&◌, cond, List, ℕ, eqb, length, replicate}
use Rattle.flags.specs.Byte.{flags_fit}
use Rattle.form.specs.Form.{Current, Flags, Form, FormNumber, Number, bytes_of, form1, length_of, newest, number_of, saved_length}
use Rattle.form.specs.Signed.{current_of}
use Rattle.gauge.specs.Accepted.{accepted}
use Rattle.gauge.specs.Opening.{opened}
use Rattle.gauge.specs.Parts.{gauge_of}
use Rattle.gauge.specs.Answer.{Answer}
use Rattle.gauge.specs.declared.state.Gauge.{Gauge}
use Rattle.refusals.specs.Refusal as Refusal
use Rattle.standby.specs.Standby.{sixteenths}
use Rattle.load.specs.Fields.{gauge_from}

-- ---- reading

-- the numbers that stand in bytes of a form; "older forms read as 0" (A4 of paper 02), "older forms read as 0 in both" (A5): a field that a form has
-- not is 0
abbrev pub numbers_in : Form → List ℕ → Number → ℕ
numbers_in form bytes n = number_of n form bytes

-- the gauge of the values that stand there
unfoldable pub read_in : Form → List ℕ → Gauge
read_in form bytes = gauge_from (numbers_in form bytes) (λ b. bytes_of b form bytes)

-- ---- carrying over

-- SI of a form by its number: "Form 1 is still read, multiplied by 16" (A1)
unfoldable pub carried_standby : ℕ → ℕ → ℕ
carried_standby number standby = cond (eqb number form1.number) (sixteenths standby) standby

-- what a form of that number has otherwise than the newest
abbrev pub carried : ℕ → Gauge → Gauge
carried number g = gauge_of g.settings g.charge g.sample (carried_standby number g.standby) g.flags g.host g.counters

-- the gauge that bytes of a form hold
unfoldable pub loaded : Form → List ℕ → Gauge
loaded form bytes = carried form.number (read_in form bytes)

-- ---- when bytes are accepted

-- a length and a number, and the flags that a gauge value has no room for: "CHGS exactly if c > 0, other flag bits 0"
abbrev pub fits_as : ℕ → ℕ → Form → List ℕ → Bool
fits_as number long form bytes =
    eqb (length bytes) long
    && (eqb (number_of FormNumber form bytes) number
    && flags_fit (number_of Flags form bytes) (current_of (number_of Current form bytes)).charging)

-- "length 41, form 1", and what of the other conditions a gauge value does not show. Form 1's "SI ≤ 2 × S0" is "the sixteenths, at most 32 × S0" of
-- what is carried over
unfoldable pub form_fits : Form → List ℕ → Bool
form_fits form bytes = fits_as form.number (length_of form.fields) form bytes

-- 14, "saved bytes or gauge value rejected"; rejected bytes hold no gauge, and the answer's is that of a refused opening
unfoldable pub rejected_answer : Answer
rejected_answer = record { number = Refusal.rejected; gauge = opened (replicate 10 0) }

-- a gauge value that was read, or 14
unfoldable pub accepted_answer : Gauge → Answer
accepted_answer g = cond (accepted g) (record { number = Refusal.none; gauge = g }) rejected_answer

-- "Accepted exactly if: length 41, form 1, ..": each form by its own conditions. The calls from C "take that form alone", the newest
unfoldable pub answer_in : Form → List ℕ → Answer
answer_in form bytes = cond (form_fits form bytes) (accepted_answer (loaded form bytes)) rejected_answer

-- ---- bytes that are not tested yet

-- the bytes where they are of the newest form's length, else the others
unfoldable pub of_length : List ℕ → List ℕ → List ℕ
of_length bytes others = cond (eqb (length bytes) saved_length) bytes others

-- what bytes hold before they are tested; those of another length are read as zeros
unfoldable pub decoded_gauge : List ℕ → Gauge
decoded_gauge bytes = read_in newest (of_length bytes (replicate saved_length 0))
