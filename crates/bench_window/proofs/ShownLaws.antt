-- A read that is refused shows its number. Assumes nothing.
use mathlib.Core.Path.{◌≡◌, sym}
use Rattle.bench_output.specs.declared.output.Output.TheVariants.{Refused}
use Rattle.gauge.specs.declared.state.Gauge.{Gauge}
use Rattle.refusals.specs.Refusal.{number}
use Rattle.refusals.specs.declared.Refusal.{Refusal}
use Rattle.bench_window.specs.Shown.{registers_output, six_number}
use Rattle.bench_window.proofs.RefusedLaws.{number_is_none}

pub refusal_shown : (g : Gauge) (r : Refusal) → number r ≡ six_number g → Refused (number r) ≡ registers_output g
unfolding registers_output
refusal_shown g r e = simp (sym e, number_is_none r)
