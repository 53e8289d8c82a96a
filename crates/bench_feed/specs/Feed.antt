-- The bench program at a byte of its input, and at the end of it. Definitions only; assumes nothing.
use Rattle.std.specs.Prelude.{Bool, true, false, ℕ, Option, Some, None}
use Rattle.bench_output.specs.declared.output.Output.{Output}
use Rattle.gauge.specs.declared.state.Gauge.{Gauge}
use Rattle.bench_feed.specs.First.{first_output, fed_first}
use Rattle.bench_feed.specs.Listed.{step, fed_listed, line_output}
use Rattle.bench_feed.specs.Printed.{bench_gauge}
use Rattle.bench_feed.specs.declared.state.Bench.{Bench}
use Rattle.bench_feed.specs.declared.state.Place.{Place}
use Rattle.bench_feed.specs.declared.state.Place.TheVariants.{First, Listed, Ended}
use Rattle.bench_feed.specs.declared.state.Step.{Step}

-- "opens this pack"; no byte of the first line is read
abbrev pub start : Bench
start = record { gauge = bench_gauge; place = First (Some 0) }

-- ---- a byte

-- after another first line nothing is printed: "and ends it"
unfoldable pub fed_at : Gauge → Place → ℕ → Step
fed_at g (First matched) b = fed_first g matched b
fed_at g (Listed begun r) b = fed_listed g r b
fed_at g Ended b = step g Ended None

unfoldable pub fed : Bench → ℕ → Step
fed s b = fed_at s.gauge s.place b

-- ---- the end of the input

-- a first line, or a line of the list, that no newline ends is a line
unfoldable pub last_output_at : Gauge → Place → Option Output
last_output_at g (First matched) = Some (first_output matched)
last_output_at g (Listed begun r) = line_output g begun r
last_output_at g Ended = None

unfoldable pub last_output : Bench → Option Output
last_output s = last_output_at s.gauge s.place

-- ---- "Another first line prints `names` in place of the heading and ends it."

unfoldable pub ended_at : Place → Bool
ended_at (First matched) = false
ended_at (Listed begun r) = false
ended_at Ended = true

unfoldable pub is_ended : Bench → Bool
is_ended s = ended_at s.place
