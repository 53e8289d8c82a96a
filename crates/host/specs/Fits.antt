-- The widths of MODE and AR, which are those of their saved fields in paper 01. Definitions only; assumes nothing.
use Rattle.std.specs.Prelude.{◌^◌, ◌<◌}
use Rattle.host.specs.declared.host.Host.{Host}

pub record HostFits (h : Host) : Type 0 where
  -- "MODE"
  pub mode : h.mode < 256
  -- "AR, 2"
  pub ar : h.ar < 256 ^ 2
