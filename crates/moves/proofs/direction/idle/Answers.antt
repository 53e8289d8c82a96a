-- Each part, loaded, moved and put. Assumes nothing.
use Rattle.moves.proofs.DirectionLaws.{idle_moved}
use Rattle.moves.proofs.direction.idle.Goals as goal

pub returns : goal.returns
returns c =
    let a = c.args in
    idle_moved a.saved.now (λ n. (c.slice_known-1.given n).fits) c.requires a.sample.now.voltage a.sample.now.temperature c.loaded_settings-settings.ensures c.loaded_charge-before.ensures
    c.loaded_flags-flags.ensures c.none-zero.ensures c.count.ensures c.summed-charge.ensures c.put_charge.ensures c.put_flags.ensures
    c.put_sample.ensures
