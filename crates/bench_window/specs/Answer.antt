-- A line of the list: the gauge after it and what is printed for it. Definitions only; assumes nothing.
use Rattle.std.specs.Prelude.{cond, ℕ, eqb, Option, Some, None, ℤ}
use Rattle.bench_output.specs.declared.output.Output.{Output}
use Rattle.bench_output.specs.declared.output.Output.TheVariants.{Unread, Refused}
use Rattle.gauge.specs.Calls.{window_answer}
use Rattle.gauge.specs.declared.state.Gauge.{Gauge}
use Rattle.bench_window.specs.Shown.{registers_output}
use Rattle.bench_window.specs.declared.answer.Answered.{Answered}

-- "each window prints NAC, LMD, RSOC and FLAGS as they stand after it. A refused line prints `refused`, a space and the number."
unfoldable pub answer_output : ℕ → Gauge → Output
answer_output number g = cond (eqb number 0) (registers_output g) (Refused number)

-- "A line that is not three whole numbers prints `unread`"
unfoldable pub line_answered : Gauge → Option (ℤ × ℤ × ℤ) → Answered
line_answered g (Some (a, v, t)) =
    record {
      gauge = (window_answer g a v t).gauge;
      output = answer_output (window_answer g a v t).number (window_answer g a v t).gauge;
    }
line_answered g None = record { gauge = g; output = Unread }
