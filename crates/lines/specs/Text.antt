-- What the lines of a text are. Definitions only; assumes nothing.
use Rattle.std.specs.Prelude.{cond, List, [], ◌∷◌, ℕ, eqb}
use Rattle.lines.specs.Line.{before}

-- a line ends at the byte 10 alone, and "a last newline begins no further line"
unfoldable pub lines_of : List ℕ → List (List ℕ)
lines_of [] = []
lines_of (b ∷ bs) = cond (eqb b 10) ([] ∷ lines_of bs) (before b (lines_of bs))
