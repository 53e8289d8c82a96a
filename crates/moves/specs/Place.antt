-- Where a host write's byte stands in the saved bytes. Definitions only; assumes nothing.
use Rattle.std.specs.Prelude.{cond, ℕ, ◌+◌, eqb}
use Rattle.form.specs.Form.{Ar, Mode, Number, newest, of_number, place_of}

-- where a number stands in them
abbrev pub place_in : Number → ℕ
place_in n = place_of (of_number n) newest.fields

-- where a host write's byte stands in the saved bytes: "0x01 MODE, 0x02 or 0x03 AR", low byte first
unfoldable pub host_place : ℕ → ℕ
host_place address = cond (eqb address 1) (place_in Mode) (cond (eqb address 2) (place_in Ar) (place_in Ar + 1))
