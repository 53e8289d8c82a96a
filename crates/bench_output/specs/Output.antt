-- What the bench program prints at the end of a line, as text. Definitions only; assumes nothing.
use Rattle.std.specs.Prelude.{List, [], ◌∷◌, ◌++◌, ℕ, Option, Some, None}
use Rattle.lines.specs.Decimal.{decimal}
use Rattle.bench_output.specs.declared.output.Output.{Output}
use Rattle.bench_output.specs.declared.output.Output.TheVariants.{Heading, Names, Unread, Refused, Registers}

-- the room that an output is given; no text is longer
abbrev pub room : ℕ
room = 64

-- "nac lmd rsoc flags" and a newline
abbrev pub heading_text : List ℕ
heading_text =
    110 ∷ 97 ∷ 99 ∷ 32 ∷ 108 ∷ 109 ∷ 100 ∷ 32 ∷ 114 ∷ 115 ∷ 111 ∷ 99 ∷ 32 ∷ 102 ∷ 108 ∷ 97 ∷ 103 ∷ 115 ∷ 10 ∷ []

-- "names" and a newline
abbrev pub names_text : List ℕ
names_text = 110 ∷ 97 ∷ 109 ∷ 101 ∷ 115 ∷ 10 ∷ []

-- "unread" and a newline
abbrev pub unread_text : List ℕ
unread_text = 117 ∷ 110 ∷ 114 ∷ 101 ∷ 97 ∷ 100 ∷ 10 ∷ []

-- "`refused`, a space and the number"
unfoldable pub refused_text : ℕ → List ℕ
refused_text number = (114 ∷ 101 ∷ 102 ∷ 117 ∷ 115 ∷ 101 ∷ 100 ∷ 32 ∷ []) ++ (decimal number ++ (10 ∷ []))

-- "NAC, LMD, RSOC and FLAGS", a space between them
unfoldable pub registers_text : ℕ → ℕ → ℕ → ℕ → List ℕ
registers_text nac lmd rsoc flags =
    (decimal nac ++ (32 ∷ [])) ++ ((decimal lmd ++ (32 ∷ [])) ++ ((decimal rsoc ++ (32 ∷ [])) ++ (decimal flags ++ (10 ∷ []))))

-- "Bench pack": the text of each; a byte that ends no line prints nothing
unfoldable pub text_of : Option Output → List ℕ
text_of None = []
text_of (Some Heading) = heading_text
text_of (Some Names) = names_text
text_of (Some Unread) = unread_text
text_of (Some (Refused number)) = refused_text number
text_of (Some (Registers nac lmd rsoc flags)) = registers_text nac lmd rsoc flags
