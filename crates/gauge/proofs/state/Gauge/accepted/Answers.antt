-- Each way returns what its tests pick. Assumes nothing.
use mathlib.Core.Bool.{Bool, true}
use mathlib.Core.Path.{◌≡◌, ap, ◌∙◌, sym}
use Prim.Native.Nat.{ℕ}
use borrow.Author.Tests.{not-true, not-false}
use Rattle.charge.specs.Charge.{charge_accepted}
use Rattle.configuration.specs.Configuration.{dmf, s0}
use Rattle.configuration.specs.Settings.{settings_accepted}
use Rattle.sample.specs.Sample.{sample_accepted}
use Rattle.standby.specs.Standby.{standby_accepted}
use Rattle.gauge.proofs.AcceptedLaws.{no_settings, no_charge, no_sample_lem, no_standby, last_test}
use Rattle.gauge.proofs.state.Gauge.accepted.Goals as goal
use Rattle.gauge.proofs.state.Gauge.accepted.Goals.{After-accepted-2, After-accepted-3, After-dmf, After-standby_accepted}

-- what each test that was passed says of the gauge
opens : (c : After-accepted-2) → settings_accepted c.args.self.settings ≡ true
opens c = sym c.accepted.ensures ∙ not-false _ c.if-not-accepted.false-raw

charged : (c : After-standby_accepted) → charge_accepted c.args.self.charge ≡ true
charged c = sym c.accepted-2.ensures ∙ not-false _ c.if-not-accepted-2.false-raw

stands : (c : After-dmf) → standby_accepted (s0 c.args.self.settings) c.args.self.standby ≡ true
stands c = sym c.standby_accepted.ensures ∙ not-false _ c.if-not-standby_accepted.false-raw

sampled : {t : Bool} (c : After-accepted-3) → c.accepted-3.result ≡ t → sample_accepted (dmf c.args.self.settings) c.args.self.sample ≡ t
sampled c e = sym (c.accepted-3.ensures ∙ ap (λ (n : ℕ). sample_accepted n c.args.self.sample) c.dmf.ensures.value) ∙ e

pub returns-then-not-accepted : goal.returns-then-not-accepted
returns-then-not-accepted c =
    no_settings c.args.self (sym c.accepted.ensures ∙ not-true _ c.if-not-accepted.true-raw)

pub returns-then-not-accepted-2 : goal.returns-then-not-accepted-2
returns-then-not-accepted-2 c =
    no_charge c.args.self (opens (goal.at.returns-then-not-accepted-2 c).After-accepted-2) (sym c.accepted-2.ensures ∙ not-true _ c.if-not-accepted-2.true-raw)

pub returns-then-not-standby_accepted : goal.returns-then-not-standby_accepted
returns-then-not-standby_accepted c =
    let at = goal.at.returns-then-not-standby_accepted c in
    no_standby c.args.self (opens at.After-accepted-2) (charged at.After-standby_accepted)
    (sym c.standby_accepted.ensures ∙ not-true _ c.if-not-standby_accepted.true-raw)

pub returns-then-not-accepted-3 : goal.returns-then-not-accepted-3
returns-then-not-accepted-3 c =
    let at = goal.at.returns-then-not-accepted-3 c in
    no_sample_lem c.args.self (opens at.After-accepted-2) (charged at.After-standby_accepted) (stands at.After-dmf)
    (sampled at.After-accepted-3 (not-true _ c.if-not-accepted-3.true-raw))

pub returns : goal.returns
returns c =
    let at = goal.at.returns c in
    last_test c.args.self (opens at.After-accepted-2) (charged at.After-standby_accepted) (stands at.After-dmf)
    (sampled at.After-accepted-3 (not-false _ c.if-not-accepted-3.false-raw)) c.accepted-4.ensures
