-- "Bench pack" of paper 01: the whole output of a whole input. Definitions only; assumes nothing.
use Rattle.std.specs.Prelude.{Bool, true, false, ◌&&◌, cond, List, [], ◌∷◌, ◌++◌, ℕ, eqb, Some}
use Rattle.bench_output.specs.Output.{text_of, heading_text, names_text}
use Rattle.bench_window.specs.Answer.{line_answered}
use Rattle.configuration.specs.BenchPack.{bench_pack}
use Rattle.gauge.specs.Opening.{open_answer}
use Rattle.gauge.specs.declared.state.Gauge.{Gauge}
use Rattle.lines.specs.Line.{line}
use Rattle.lines.specs.Text.{lines_of}

-- "opens this pack"
abbrev pub bench_gauge : Gauge
bench_gauge = (open_answer bench_pack).gauge

-- "c v t"
abbrev pub names_line : List ℕ
names_line = 99 ∷ 32 ∷ 118 ∷ 32 ∷ 116 ∷ []

-- a line is another if a byte differs, is missing or is too many
unfoldable pub same_bytes : List ℕ → List ℕ → Bool
same_bytes [] [] = true
same_bytes [] (y ∷ ys) = false
same_bytes (x ∷ xs) [] = false
same_bytes (x ∷ xs) (y ∷ ys) = eqb x y && same_bytes xs ys

-- "After the heading each window prints ..": the lines below the names line, from a gauge on
unfoldable pub list_printed : Gauge → List (List ℕ) → List ℕ
list_printed g [] = []
list_printed g (l ∷ ls) = text_of (Some (line_answered g (line l)).output) ++ list_printed (line_answered g (line l)).gauge ls

-- "Another first line prints `names` in place of the heading and ends it." Where there is no line there is no names line
unfoldable pub lines_printed : Gauge → List (List ℕ) → List ℕ
lines_printed g [] = names_text
lines_printed g (l ∷ ls) = cond (same_bytes l names_line) (heading_text ++ list_printed g ls) names_text

-- "The bench program reads this from standard input and opens this pack; the second block is its whole output"
unfoldable pub printed : List ℕ → List ℕ
printed input = lines_printed bench_gauge (lines_of input)
