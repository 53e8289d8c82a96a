-- Each part, loaded, moved and put. Assumes nothing.
use Rattle.moves.proofs.RestLaws.{rested_moved}
use Rattle.moves.proofs.rest.rested.Goals as goal

pub returns : goal.returns
returns c =
    let a = c.args in
    rested_moved a.saved.now (λ n. (c.slice_known-1.given n).fits) c.requires a.windows a.temperature c.loaded_settings-settings.ensures c.sd.ensures.value
    c.leak_rate-rate.ensures c.loaded_charge.ensures c.rested-charge.ensures c.loaded_sample.ensures c.rested-sample.ensures
    c.loaded_flags-flags.ensures c.loaded_counters.ensures c.rested-counters.ensures c.put_charge.ensures c.put_sample.ensures
    c.put_flags.ensures c.put_counters.ensures
