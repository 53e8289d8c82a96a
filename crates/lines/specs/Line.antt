-- What a line of three whole numbers is: "single spaces between". Definitions only; assumes nothing.
use Rattle.std.specs.Prelude.{cond, List, [], ◌∷◌, ℕ, eqb, Option, Some, None, ℤ}
use Rattle.lines.specs.Number.{number}

-- a byte before the first of some words
abbrev pub before : ℕ → List (List ℕ) → List (List ℕ)
before b [] = (b ∷ []) ∷ []
before b (w ∷ ws) = (b ∷ w) ∷ ws

-- the words of a line: it is cut at every space (32), so a space too many leaves an empty word, which is no number
unfoldable pub words : List ℕ → List (List ℕ)
words [] = [] ∷ []
words (b ∷ bs) = cond (eqb b 32) ([] ∷ words bs) (before b (words bs))

unfoldable pub joined : Option ℤ → Option ℤ → Option ℤ → Option (ℤ × ℤ × ℤ)
joined (Some a) (Some b) (Some c) = Some (a, b, c)
joined (Some a) (Some b) None = None
joined (Some a) None third = None
joined None second third = None

-- exactly three words, each a whole number
unfoldable pub three : List (List ℕ) → Option (ℤ × ℤ × ℤ)
three [] = None
three (a ∷ []) = None
three (a ∷ b ∷ []) = None
three (a ∷ b ∷ c ∷ []) = joined (number a) (number b) (number c)
three (a ∷ b ∷ c ∷ d ∷ ws) = None

unfoldable pub line : List ℕ → Option (ℤ × ℤ × ℤ)
line bs = three (words bs)
