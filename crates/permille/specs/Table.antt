-- A4 of paper 02: "The permille comes from a stored table of 301 entries, 3,000 to 4,200 mV in steps of 4, a voltage between taking the lower."
-- Definitions only; assumes nothing.
use Rattle.std.specs.Prelude.{Bool, cond, Option, Some, None, ℕ, ◌+◌, ◌-◌, ◌*◌, ◌/◌, ℤ}
use Rattle.numbers.specs.Signed.{at_least_zero}
use Rattle.sample.specs.Range.{between}
use Rattle.permille.specs.Rule.{rule}

-- "3,000 to 4,200 mV"
abbrev pub first_voltage : ℕ
first_voltage = 3_000

abbrev pub last_voltage : ℕ
last_voltage = 4_200

unfoldable pub in_table : ℤ → Bool
in_table v = between first_voltage last_voltage v

-- "in steps of 4"
abbrev pub voltage_step : ℕ
voltage_step = 4

-- "301 entries"
abbrev pub entries : ℕ
entries = 301

-- the voltage of an entry, counted from 0
abbrev pub entry_voltage : ℕ → ℕ
entry_voltage k = first_voltage + voltage_step * k

-- "a voltage between taking the lower": the entry of a voltage
abbrev pub entry_of : ℕ → ℕ
entry_of v = (v - first_voltage) / voltage_step

-- the rule at that entry; a voltage outside the table has no permille, and stands as 0
unfoldable pub permille : ℤ → ℕ
permille v = cond (in_table v) (rule (entry_voltage (entry_of (at_least_zero v)))) 0

-- the permille of a voltage in the table
unfoldable pub permille_in : ℤ → Option ℕ
permille_in v = cond (in_table v) (Some (permille v)) None
