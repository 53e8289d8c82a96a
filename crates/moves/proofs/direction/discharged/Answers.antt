-- Each part, loaded, moved and put; FLAGS are read behind what was put by then. Assumes nothing.
use Rattle.sample.specs.Current.{discharge_current}
use Rattle.moves.proofs.DirectionLaws.{discharged_moved}
use Rattle.moves.proofs.direction.discharged.Goals as goal

pub returns : goal.returns
unfolding discharge_current
returns c =
    let a = c.args in
    discharged_moved a.saved.now (λ n. (c.slice_known-1.given n).fits) c.requires a.sample.now.voltage a.sample.now.temperature a.sample.now.current.magnitude c.loaded_settings-settings.ensures
    c.loaded_charge-before.ensures c.loaded_standby-standby.ensures c.count.ensures c.summed-sum.ensures c.ending_of-ending.ensures
    c.charge_ended-charge.ensures c.loaded_flags.ensures c.flags_ended-flags.ensures c.put_charge.ensures c.put_flags.ensures
    c.averaged.ensures c.put_standby.ensures c.put_sample.ensures
