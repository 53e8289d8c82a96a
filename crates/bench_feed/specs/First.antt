-- The first line, byte by byte. Definitions only; assumes nothing.
use Rattle.std.specs.Prelude.{Bool, false, ◌&&◌, cond, ℕ, ◌+◌, eqb, ltb, get_or, Option, Some, None}
use Rattle.bench_output.specs.declared.output.Output.{Output}
use Rattle.bench_output.specs.declared.output.Output.TheVariants.{Heading, Names}
use Rattle.gauge.specs.declared.state.Gauge.{Gauge}
use Rattle.bench_feed.specs.Listed.{step, fresh}
use Rattle.bench_feed.specs.Printed.{names_line}
use Rattle.bench_feed.specs.declared.state.Place.{Place}
use Rattle.bench_feed.specs.declared.state.Place.TheVariants.{First, Ended}
use Rattle.bench_feed.specs.declared.state.Step.{Step}

-- how many bytes of the first line are as the names line has them: all of it
abbrev pub whole : ℕ
whole = 5

-- none are where it is another line
abbrev pub is_whole : Option ℕ → Bool
is_whole None = false
is_whole (Some matched) = eqb matched whole

-- a byte more, as the names line has it or not
unfoldable pub names_fed : Option ℕ → ℕ → Option ℕ
names_fed None b = None
names_fed (Some matched) b = cond (ltb matched whole && eqb b (get_or names_line matched 0)) (Some (matched + 1)) None

-- "Another first line prints `names` in place of the heading"
unfoldable pub first_output : Option ℕ → Output
first_output matched = cond (is_whole matched) Heading Names

-- ".. and ends it"
unfoldable pub after_first : Option ℕ → Place
after_first matched = cond (is_whole matched) fresh Ended

-- a newline ends the first line; any other byte is one of it
unfoldable pub fed_first : Gauge → Option ℕ → ℕ → Step
fed_first g matched b =
    cond (eqb b 10) (step g (after_first matched) (Some (first_output matched))) (step g (First (names_fed matched b)) None)
