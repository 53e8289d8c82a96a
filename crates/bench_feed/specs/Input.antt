-- Bytes fed one after the other, and an input that comes in parts. That this prints what `printed` says of the whole input is
-- proved, and stands in the contract of `Bench::start`. Definitions only; assumes nothing.
use Rattle.std.specs.Prelude.{List, [], ◌∷◌, ◌++◌, ℕ}
use Rattle.bench_output.specs.Output.{text_of}
use Rattle.bench_feed.specs.Feed.{fed, last_output}
use Rattle.bench_feed.specs.declared.state.Bench.{Bench}

-- ---- bytes one after the other

-- the program after some bytes
unfoldable pub fed_all : Bench → List ℕ → Bench
fed_all s [] = s
fed_all s (b ∷ bs) = fed_all (fed s b).bench bs

-- what it prints at them
unfoldable pub printed_at : Bench → List ℕ → List ℕ
printed_at s [] = []
printed_at s (b ∷ bs) = text_of (fed s b).output ++ printed_at (fed s b).bench bs

-- what it prints at them and at the end of the input behind them
unfoldable pub printed_from : Bench → List ℕ → List ℕ
printed_from s bs = printed_at s bs ++ text_of (last_output (fed_all s bs))

-- ---- an input that comes in parts

-- each part fed for itself, then the end of the input
unfoldable pub printed_of : Bench → List (List ℕ) → List ℕ
printed_of s [] = text_of (last_output s)
printed_of s (part ∷ parts) = printed_at s part ++ printed_of (fed_all s part) parts
