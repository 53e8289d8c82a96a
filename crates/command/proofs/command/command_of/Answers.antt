-- Each arm returns the clause of the definition at its case. Assumes nothing.
use mathlib.Core.Path.{sym, ap, ◌∙◌}
use Rattle.command.specs.Command.{command_of}
use Rattle.command.proofs.command.command_of.Goals as goal

pub returns-in-Ok : goal.returns-in-Ok
unfolding command_of
returns-in-Ok c = c.number.ensures ∙ ap command_of (sym c.in-Ok.is ∙ c.decide.ensures)

pub returns-in-Err : goal.returns-in-Err
unfolding command_of
returns-in-Err c = ap command_of (sym c.in-Err.is ∙ c.decide.ensures)
