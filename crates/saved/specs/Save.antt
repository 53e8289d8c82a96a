-- "Saved gauge" of paper 01, saving: every byte from the gauge; "saving writes the newest form" (A1 of paper 02). Definitions only; assumes nothing.
use Rattle.std.specs.Prelude.{cond, List, ℕ, eqb, length}
use Rattle.form.specs.Form.{Name, laid_out, newest, of_bytes, of_number, saved_length}
use Rattle.gauge.specs.Answer.{unless_rejected}
use Rattle.gauge.specs.declared.state.Gauge.{Gauge}
use Rattle.load.specs.Fields.{bytes_in, number_in}
use Rattle.numbers.specs.Little.{bytes_at, little}
use Rattle.refusals.specs.Refusal as Refusal

-- the bytes of a field, as many as its width; a number stands low byte first
unfoldable pub field_bytes : Gauge → Name → ℕ → List ℕ
field_bytes g (of_number n) width = little width (number_in g n)
field_bytes g (of_bytes b) width = bytes_at width 0 (bytes_in g b)

-- a gauge in the newest form: the bytes of its fields, one after the other
unfoldable pub saved_bytes : Gauge → List ℕ
saved_bytes g = laid_out (field_bytes g) newest.fields

-- ---- a buffer

-- 13 "asks for exactly its length", the newest form's
abbrev pub length_refusal : ℕ → ℕ
length_refusal buffer_length = cond (eqb buffer_length saved_length) Refusal.none Refusal.buffer_length

-- every byte of a buffer that a gauge is put into, tested or not
unfoldable pub put_after : Gauge → List ℕ → List ℕ
put_after g buffer = cond (eqb (length buffer) saved_length) (saved_bytes g) buffer

-- 14, then 13
unfoldable pub save_refusal : Gauge → ℕ → ℕ
save_refusal g buffer_length = unless_rejected g (length_refusal buffer_length)

-- every byte of the buffer afterwards
unfoldable pub buffer_after : Gauge → List ℕ → List ℕ
buffer_after g buffer = cond (eqb (save_refusal g (length buffer)) Refusal.none) (saved_bytes g) buffer
