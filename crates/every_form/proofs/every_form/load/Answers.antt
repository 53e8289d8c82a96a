-- Each way answers what its tests pick, in the form that the first byte tells. Assumes nothing.
use mathlib.Core.Path.{◌∙◌, ap, ap₂, sym}
use Prim.Native.Nat.{ℕ}
use Rattle.std.proofs.lemmas.Result.{err_from_is_err_and}
use Rattle.form.specs.Form.{form_numbered, newest}
use Rattle.gauge.proofs.CallLaws.{tested_accepted}
use Rattle.gauge.specs.Parts.{gauge_of}
use Rattle.gauge.specs.declared.state.Gauge.{Gauge}
use Rattle.load.specs.Load.{fits_as}
use Rattle.every_form.proofs.EveryFormLaws.{Tested, carried_gauge, carried_number, misfit, units_misfit}
use Rattle.every_form.proofs.every_form.load.Goals as goal
use Rattle.every_form.proofs.every_form.load.Goals.{After-in_form}

-- a gauge with another SI
with_standby : Gauge → ℕ → Gauge
with_standby g standby = gauge_of g.settings g.charge g.sample standby g.flags g.host g.counters

-- what the test of the form was given, and what it says
tested : (f : After-in_form) → Tested f.args.bytes.now f.told_by-form.result f.in_form.result
tested f =
    record {
      told = f.told_by-form.ensures ∙ ap form_numbered f.byte_at.ensures;
      fits = f.in_form.ensures ∙ ap₂ (λ (n l : ℕ). fits_as n l newest f.args.bytes.now) f.number.ensures f.length.ensures;
    }

pub returns-then-not-in_form : goal.returns-then-not-in_form
returns-then-not-in_form c = misfit (tested (goal.at.returns-then-not-in_form c).After-in_form) c.if-not-in_form.true

pub returns-then-not-units_fit : goal.returns-then-not-units_fit
returns-then-not-units_fit c =
    units_misfit (tested (goal.at.returns-then-not-units_fit c).After-in_form) c.if-not-in_form.false c.decoded_in_newest-gauge.ensures
    (c.units_fit.ensures.standby_value c.if-not-units_fit.true)

pub returns-in_err-tested : goal.returns-in_err-tested
unfolding with_standby
returns-in_err-tested c =
    let p = err_from_is_err_and c.from_residual.result c.from_residual.ensures.1 in
    let k = tested (goal.at.returns-in_err-tested c).After-in_form in
    let q = ap (with_standby c.decoded_in_newest-gauge.result) c.carried_standby.ensures in
    rw (p.1, p.2) (carried_number k c.if-not-in_form.false c.decoded_in_newest-gauge.ensures q ∙ sym c.in_err-tested.ensures)

pub returns : goal.returns
unfolding with_standby
returns c =
    let k = tested (goal.at.returns c).After-in_form in
    let q = ap (with_standby c.decoded_in_newest-gauge.result) c.carried_standby.ensures in
    let good = c.in_ok-tested.ensures in (
      carried_number k c.if-not-in_form.false c.decoded_in_newest-gauge.ensures q ∙ sym good,
      carried_gauge k c.if-not-in_form.false c.decoded_in_newest-gauge.ensures q (tested_accepted _ (sym good)),
    )
