-- What a qualified run teaches (step 4). Definitions only; assumes nothing.
use Rattle.std.specs.Prelude.{ℕ, ◌-◌, ◌*◌, ◌/◌, min, max}
use Rattle.grains.specs.Grains.{grains_per_count}

-- "65,535", the greatest learned capacity
abbrev pub most_counts : ℕ
most_counts = 65_535

-- "floor(16 × DCR / (15 × G))"
abbrev pub measured_capacity : ℕ → ℕ
measured_capacity drain = 16 * drain / (15 * grains_per_count)

-- "old LMD − floor(old LMD / 8)"
abbrev pub least_learned : ℕ → ℕ
least_learned lmd = lmd - lmd / 8

-- "LMD becomes floor(16 × DCR / (15 × G)), at least old LMD − floor(old LMD / 8), at most 65,535"
unfoldable pub learned : ℕ → ℕ → ℕ
learned lmd drain = min (max (measured_capacity drain) (least_learned lmd)) most_counts
