-- The charge of the history of demand 3 in paper 01: the charge P at the last fixing point and the sums since. The numbers of the paper
-- stand here a second time, so that a wrong one in the gauge's own definitions is found. Definitions only; assumes nothing.
use Rattle.std.specs.Prelude.{ℕ, ◌+◌, ℤ, pos, ◌+ℤ◌, ◌-ℤ◌, ◌*ℤ◌}

-- "192,000": the grains of a unit of counted current in a window
abbrev pub grains_a_unit : ℕ
grains_a_unit = 192_000

-- "G = 135,000,000": the grains of a count
abbrev pub grains_a_count : ℕ
grains_a_count = 135_000_000

pub record Sums : Type 0 where
  -- P, "the charge P at the last fixing point"
  pub fixed : ℕ
  -- Q, "the sums since of counted currents Q"
  pub counted : ℤ
  -- K, "and of leaks K"
  pub leaked : ℕ

-- "Its charge H is P + 192,000 × Q − K."
unfoldable pub charge_of : Sums → ℤ
charge_of s = pos s.fixed +ℤ pos grains_a_unit *ℤ s.counted -ℤ pos s.leaked

-- "To fix H at a value sets P to it and Q and K to 0."
abbrev pub fixed_at : ℕ → Sums
fixed_at value = record { fixed = value; counted = pos 0; leaked = 0 }

-- "K gains the leak"
abbrev pub with_leak : ℕ → Sums → Sums
with_leak leak s = record { fixed = s.fixed; counted = s.counted; leaked = s.leaked + leak }

-- "Q gains c"
abbrev pub with_current : ℤ → Sums → Sums
with_current c s = record { fixed = s.fixed; counted = s.counted +ℤ c; leaked = s.leaked }
