-- Both round trips of the saved bytes. Definitions only; assumes nothing.
use Rattle.gauge.specs.Answer.{unless_rejected}
use Rattle.gauge.specs.Answer.{Answer}
use Rattle.gauge.specs.declared.state.Gauge.{Gauge}
use Rattle.refusals.specs.Refusal as Refusal

-- demand 2: a saved gauge reads back as itself, or is 14
unfoldable pub reloaded_answer : Gauge → Answer
reloaded_answer g = record { number = unless_rejected g Refusal.none; gauge = g }
