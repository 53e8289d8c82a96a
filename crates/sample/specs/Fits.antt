-- The widths of the sample, which are those of its saved fields in paper 01. Definitions only; assumes nothing.
use Rattle.std.specs.Prelude.{◌^◌, ◌<◌}
use Rattle.sample.specs.declared.sample.Sample.{Sample}

-- "c (signed), VOLT, TEMP, .. 2 each"
pub record SampleFits (s : Sample) : Type 0 where
  pub magnitude : s.current.magnitude < 256 ^ 2
  pub voltage : s.voltage < 256 ^ 2
  pub temperature : s.temperature < 256 ^ 2
