-- Bytes of an older form in the places of the newest: A6 of paper 02 "stores the wider count in place of the two bytes", and the fields behind it
-- move up. Definitions only; assumes nothing.
use Rattle.std.specs.Prelude.{List, ℕ}
use Rattle.numbers.specs.Little.{bytes_at}
use Rattle.form.specs.Form.{Form, Name, field_of, laid_out, newest}

-- the bytes that a field has, and zeros behind them up to a width; of a field that the form has not, zeros alone
unfoldable pub widened : Form → List ℕ → Name → ℕ → List ℕ
widened form bytes name width = bytes_at width 0 (field_of name form bytes)

unfoldable pub in_newest : Form → List ℕ → List ℕ
in_newest form bytes = laid_out (widened form bytes) newest.fields
