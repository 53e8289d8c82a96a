-- The settings of a gauge: what opening makes of the ten bytes of paper 01, and what 14 asks of them. Definitions only; assumes nothing.
use Rattle.std.specs.Prelude.{Bool, not, List, eqb, ℕ}
use Rattle.configuration.specs.Configuration.{ilmd}
use Rattle.configuration.specs.declared.settings.Settings.{Settings}

-- the ten bytes opened with are those in force
abbrev pub opened_settings : List ℕ → Settings
opened_settings configuration = record { bytes = configuration }

-- "ILMD > 0"
unfoldable pub settings_accepted : Settings → Bool
settings_accepted s = not (eqb (ilmd s) 0)
