-- Numbers as bytes, low byte first, of any width. Definitions only; assumes nothing.
use Rattle.std.specs.Prelude.{List, [], ◌∷◌, ℕ, zero, suc, ◌+◌, ◌*◌, ◌/◌, ◌%◌, ◌^◌, get_or}

-- the byte at a place of a number
abbrev pub byte_at : ℕ → ℕ → ℕ
byte_at value place = value / 256 ^ place % 256

-- a number as that many bytes
abbrev pub little : ℕ → ℕ → List ℕ
little zero value = []
little (suc width) value = value % 256 ∷ little width (value / 256)

-- the number that stands at a place of a list, of that many bytes; a byte past the list's end is 0
abbrev pub number_at : ℕ → ℕ → List ℕ → ℕ
number_at zero place bytes = 0
number_at (suc width) place bytes = get_or bytes place 0 + 256 * number_at width (suc place) bytes

-- that many bytes from a place on
abbrev pub bytes_at : ℕ → ℕ → List ℕ → List ℕ
bytes_at zero place bytes = []
bytes_at (suc width) place bytes = get_or bytes place 0 ∷ bytes_at width (suc place) bytes
