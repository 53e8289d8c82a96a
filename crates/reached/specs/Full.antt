-- Step 3 of a window in paper 01: the test for full. Definitions only; assumes nothing.
use Rattle.std.specs.Prelude.{Bool, ◌&&◌, ◌||◌, ℕ, ◌*◌, leb}
use Rattle.configuration.specs.Terms.{Terms}
use Rattle.grains.specs.Grains.{grains_of_counts}
use Rattle.sample.specs.declared.current.Current.{Current}

-- "v ≥ 4,100"
abbrev pub taper_voltage : ℕ
taper_voltage = 4_100

-- "If c > 0, and h ≥ LMD × G or (c ≤ 2 × TAPER and v ≥ 4,100): full."
unfoldable pub is_full : Terms → Current → ℕ → ℕ → ℕ → Bool
is_full terms c v held lmd =
    c.charging && (leb (grains_of_counts lmd) held || (leb c.magnitude (2 * terms.taper) && leb taper_voltage v))
