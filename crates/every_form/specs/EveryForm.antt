-- Loading reads every form: "Form 1 is still read" (A1 of paper 02). Definitions only; assumes nothing.
use Rattle.std.specs.Prelude.{List, ℕ}
use Rattle.form.specs.Form.{Form, form1, form2, form3, form4, form_numbered, form_of, length_of, newest}
use Rattle.gauge.specs.Answer.{Answer}
use Rattle.load.specs.Load.{answer_in}
use Rattle.every_form.specs.declared.every_form.SavedForm.{SavedForm}
use Rattle.every_form.specs.declared.every_form.SavedForm.TheVariants.{One, Two, Three, Four, Newest}

-- the gauge that bytes hold in the form that they are in, or 14
unfoldable pub load_answer : List ℕ → Answer
load_answer bytes = answer_in (form_of bytes) bytes

-- the form that a value of the code stands for
abbrev pub form_as : SavedForm → Form
form_as One = form1
form_as Two = form2
form_as Three = form3
form_as Four = form4
form_as Newest = newest

-- what bytes are tested for first
pub record Expected : Type 0 where
  pub number : ℕ
  pub length : ℕ

-- by their first byte
abbrev pub expected_by : ℕ → Expected
expected_by first = record { number = (form_numbered first).number; length = length_of (form_numbered first).fields }
