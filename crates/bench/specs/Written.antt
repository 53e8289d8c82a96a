-- The bench program between two reads: which bytes it has written, of an output whose bytes are known. Definitions only; assumes nothing.
use Rattle.std.specs.Prelude.{cond, List, [], ◌++◌, ◌≡◌, ℕ, Option}
use Rattle.std.specs.Io.KnownBytes.{Appends}
use Rattle.bench_feed.specs.Input.{printed_from}
use Rattle.bench_feed.specs.declared.state.Bench.{Bench}
use Rattle.bench.specs.Print.{has_more}
use Rattle.bench.specs.declared.print.Progress.{Progress}

-- what is still to be printed where this is left of the input: nothing where the program does not go on
abbrev pub still_printed : Progress → List ℕ → List ℕ
still_printed r rest = cond (has_more r) (printed_from r.bench rest) []

-- an output before and after: a text stands behind what was there, and the text and what is still to be printed at the rest of the
-- input are what was to be printed at all of it
pub record Written (before after : Option (List ℕ)) (s : Bench) (all : List ℕ) (r : Progress) (rest : List ℕ) : Type 0 where
  pub text : List ℕ
  pub appended : Appends before after text
  pub whole : text ++ still_printed r rest ≡ printed_from s all
