-- What the table gives each voltage. Definitions only; assumes nothing.
use Rattle.std.specs.Prelude.{◌≡◌, ℕ, suc, ◌≤◌, ◌<◌, pos}
use Rattle.permille.specs.Rule.{rule}
use Rattle.permille.specs.Table.{entry_voltage, last_voltage, permille}

-- "a voltage between taking the lower": from an entry's voltage up to the next one's the permille is the rule's at that entry
abbrev pub TakesTheLower : Type 0
TakesTheLower = (k v : ℕ) → entry_voltage k ≤ v → v < entry_voltage (suc k) → v ≤ last_voltage → permille (pos v) ≡ rule (entry_voltage k)
