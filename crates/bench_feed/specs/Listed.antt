-- A line of the list, byte by byte. Definitions only; assumes nothing.
use Rattle.std.specs.Prelude.{Bool, true, false, cond, ℕ, eqb, Option, Some, None}
use Rattle.bench_output.specs.declared.output.Output.{Output}
use Rattle.bench_window.specs.Answer.{line_answered}
use Rattle.gauge.specs.declared.state.Gauge.{Gauge}
use Rattle.lines.specs.Reading as Reading'
use Rattle.lines.specs.declared.line.Reading.{Reading}
use Rattle.bench_feed.specs.declared.state.Place.{Place}
use Rattle.bench_feed.specs.declared.state.Place.TheVariants.{Listed}
use Rattle.bench_feed.specs.declared.state.Step.{Step}

-- the program with this gauge at this place, and what it prints
abbrev pub step : Gauge → Place → Option Output → Step
step g place output = record { bench = record { gauge = g; place = place }; output = output }

-- a line of the list is to begin
abbrev pub fresh : Place
fresh = Listed false Reading'.start

-- a newline ends the line, which is answered; any other byte is one of it
unfoldable pub fed_listed : Gauge → Reading → ℕ → Step
fed_listed g r b =
    cond (eqb b 10)
    (step (line_answered g (Reading'.read_as r)).gauge fresh (Some (line_answered g (Reading'.read_as r)).output))
    (step g (Listed true (Reading'.fed r b)) None)

-- the end of the input: "A last newline begins no further line."
unfoldable pub line_output : Gauge → Bool → Reading → Option Output
line_output g begun r = cond begun (Some (line_answered g (Reading'.read_as r)).output) None
