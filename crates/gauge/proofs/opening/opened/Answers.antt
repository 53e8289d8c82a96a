-- The parts of the opened settings, put together. Assumes nothing.
use mathlib.Core.Path.{ap, ◌∙◌}
use Rattle.charge.specs.Charge.{opened_charge}
use Rattle.configuration.specs.Terms.{terms_of}
use Rattle.configuration.specs.declared.settings.Settings.{Settings}
use Rattle.host.specs.Host.{opened_host}
use Rattle.standby.specs.Standby.{opened_standby}
use Rattle.gauge.specs.Opening.{opened}
use Rattle.gauge.proofs.GaugeLaws.{gauge_alike}
use Rattle.gauge.proofs.opening.opened.Goals as goal

pub returns : goal.returns
unfolding opened
returns c =
    let e = c.opened-settings.ensures in
    gauge_alike e (c.opened-charge.ensures ∙ ap (λ (s : Settings). opened_charge (terms_of s)) e) c.none-sample.ensures
    (c.opened_standby-standby.ensures ∙ ap (λ (s : Settings). opened_standby (terms_of s).s0) e)
    c.opened-flags.ensures
    (c.opened-host.ensures ∙ ap (λ (s : Settings). opened_host (terms_of s)) e)
    c.opened-counters.ensures
