-- The widths of the charge, which are those of its saved fields in paper 01. Definitions only; assumes nothing.
use Rattle.std.specs.Prelude.{◌^◌, ◌<◌}
use Rattle.charge.specs.declared.charge.Charge.{Charge}

pub record ChargeFits (x : Charge) : Type 0 where
  -- "h and DCR, 8 bytes each"
  pub held : x.held < 256 ^ 8
  pub dcr : x.run.dcr < 256 ^ 8
  -- "LMD, .. 2 each"
  pub lmd : x.lmd < 256 ^ 2
