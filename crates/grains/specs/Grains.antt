-- "Grains and leak" of paper 01, the sums: charge in whole grains. Definitions only; assumes nothing.
use Rattle.std.specs.Prelude.{Bool, ℕ, ◌+◌, ◌-◌, ◌*◌, ◌/◌, ◌^◌, min, ltb}

-- "A count is G = 135,000,000 grains."
abbrev pub grains_per_count : ℕ
grains_per_count = 135_000_000

-- "192,000": what a unit of current moves in a window of 5.12 s
abbrev pub grains_per_unit : ℕ
grains_per_unit = 192_000

-- "65,535 × G"
abbrev pub most_drain : ℕ
most_drain = 65_535 * grains_per_count

-- the greatest number of grains that the 8 bytes of h and of DCR hold
abbrev pub most_grains : ℕ
most_grains = 2 ^ 64 - 1

-- "NAC = floor(h / G)"
abbrev pub nac : ℕ → ℕ
nac h = h / grains_per_count

-- "LMD × G", and of any number of counts
abbrev pub grains_of_counts : ℕ → ℕ
grains_of_counts n = n * grains_per_count

-- "192,000 × |c|"
abbrev pub grains_of_current : ℕ → ℕ
grains_of_current i = grains_per_unit * i

-- "gains": the sum. It stops at most_grains, which no gauge comes near
abbrev pub saturating_sum : ℕ → ℕ → ℕ
saturating_sum a b = min (a + b) most_grains

-- "loses": the difference. It stops at 0
abbrev pub saturating_difference : ℕ → ℕ → ℕ
saturating_difference a b = a - b

-- "If DCR passes 65,535 × G": strictly above
abbrev pub passes : ℕ → Bool
passes drain = ltb most_drain drain
