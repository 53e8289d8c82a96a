-- The parts stored over zeros are the whole map. Assumes nothing.
use Rattle.looks.proofs.WholeLaws.{whole_stored}
use Rattle.looks.proofs.whole.put_registers.Goals as goal

pub returns : goal.returns
returns c =
    whole_stored _ c.decoded-gauge.ensures c.put_computed.ensures c.decoded-gauge-2.ensures c.put_copied.ensures c.loaded_settings.ensures
    c.put_configuration.ensures
