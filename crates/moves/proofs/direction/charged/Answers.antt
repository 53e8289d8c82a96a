-- Each part, loaded, moved and put. Assumes nothing.
use Rattle.moves.proofs.DirectionLaws.{charged_moved}
use Rattle.moves.proofs.direction.charged.Goals as goal

pub returns : goal.returns
returns c =
    let a = c.args in
    charged_moved a.saved.now (λ n. (c.slice_known-1.given n).fits) c.requires a.sample.now.voltage a.sample.now.temperature a.sample.now.current.magnitude c.loaded_settings-settings.ensures
    c.loaded_charge-before.ensures c.loaded_flags.ensures c.cleared_if-flags.ensures c.loaded_host-host.ensures c.count.ensures
    c.summed-sum.ensures c.is_full-full.ensures c.filled_if-charge.ensures c.put_charge.ensures c.full_if.ensures c.put_host.ensures
    c.put_flags.ensures c.put_sample.ensures
