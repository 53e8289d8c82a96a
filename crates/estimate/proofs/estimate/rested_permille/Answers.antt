-- Each way answers the number that its tests pick. Assumes nothing.
use mathlib.Core.Path.{ap, sym, ◌∙◌}
use borrow.Author.Tests.{le-leb, lt-leb}
use Rattle.estimate.proofs.EstimateLaws.{outside, rejects, rested_too_short, within}
use Rattle.numbers.proofs.SignedLaws.{narrow}
use Rattle.permille.specs.Table.{permille_in}
use Rattle.estimate.proofs.estimate.rested_permille.Goals as goal

pub returns-then-not-accepted-clause-permille : goal.returns-then-not-accepted-clause-permille
returns-then-not-accepted-clause-permille c =
    let a = c.args in
    sym (rejects a.gauge a.voltage (sym c.accepted.ensures ∙ c.if-not-accepted.true))

pub returns-then-gauge-lt-LEAST_RESTS-clause-permille : goal.returns-then-gauge-lt-LEAST_RESTS-clause-permille
returns-then-gauge-lt-LEAST_RESTS-clause-permille c =
    let a = c.args in
    sym (rested_too_short a.gauge a.voltage (sym c.accepted.ensures ∙ c.if-not-accepted.false) (lt-leb _ _ c.if-gauge-lt-LEAST_RESTS.true))

pub returns-in-Some-clause-permille : goal.returns-in-Some-clause-permille
returns-in-Some-clause-permille c =
    let a = c.args in
    let e = sym (c.permille_in.ensures.value ∙ ap permille_in (narrow _ c.ranges.voltage)) ∙ c.in-Some.is in
    within a.gauge a.voltage (sym c.accepted.ensures ∙ c.if-not-accepted.false) (le-leb _ _ c.if-gauge-lt-LEAST_RESTS.false) _ e

pub returns-in-None-clause-permille : goal.returns-in-None-clause-permille
returns-in-None-clause-permille c =
    let a = c.args in
    let e = sym (c.permille_in.ensures.value ∙ ap permille_in (narrow _ c.ranges.voltage)) ∙ c.in-None.is in
    outside a.gauge a.voltage (sym c.accepted.ensures ∙ c.if-not-accepted.false) (le-leb _ _ c.if-gauge-lt-LEAST_RESTS.false) e
