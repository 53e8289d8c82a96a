-- A current by its direction. Definitions only; assumes nothing.
use Rattle.std.specs.Prelude.{true, false, ℕ}
use Rattle.sample.specs.declared.current.Current.{Current}

abbrev pub charging : ℕ → Current
charging magnitude = record { charging = true; magnitude = magnitude }

abbrev pub discharging : ℕ → Current
discharging magnitude = record { charging = false; magnitude = magnitude }
