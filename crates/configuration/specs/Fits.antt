-- The widths of the settings: "The ten configuration bytes" of paper 01. Definitions only; assumes nothing.
use Rattle.std.specs.Prelude.{◌≡◌, ℕ, ◌<◌, get_or, length}
use Rattle.configuration.specs.declared.settings.Settings.{Settings}

pub record SettingsFit (s : Settings) : Type 0 where
  pub ten : length s.bytes ≡ 10
  pub bytes : (k : ℕ) → get_or s.bytes k 0 < 256
