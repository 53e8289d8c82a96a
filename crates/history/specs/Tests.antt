-- The history's own tests in paper 01: the counted current and where the fixing points fall. H is its charge, c the counted current with
-- its sign, v and t as they are handed in. None is the gauge's, so that a wrong test there is found. Definitions only; assumes nothing.
use Rattle.std.specs.Prelude.{Bool, ◌&&◌, ◌||◌, cond, ℕ, ◌*◌, leb, ltb, ℤ, pos}
use Rattle.std.specs.Int.Signed.{le_z, lt_z}
use Rattle.configuration.specs.Terms.{Terms}
use Rattle.numbers.specs.Signed.{magnitude}
use Rattle.history.specs.Sums.{grains_a_count}

-- "Counted current c is 0 if |a| ≤ DMF, else a."
unfoldable pub counted_current : Terms → ℤ → ℤ
counted_current terms a = cond (leb (magnitude a) terms.dmf) (pos 0) a

-- "v ≥ 4,100"
abbrev pub full_voltage : ℕ
full_voltage = 4_100

-- "Full (the test of step 3 on H and L)": "c > 0, and h ≥ LMD × G or (c ≤ 2 × TAPER and v ≥ 4,100)"
unfoldable pub reaches_full : Terms → ℤ → ℤ → ℤ → ℕ → Bool
reaches_full terms c v h l =
    lt_z (pos 0) c && (le_z (pos (l * grains_a_count)) h || (le_z c (pos (2 * terms.taper)) && le_z (pos full_voltage) v))

-- "Empty stop (c < 0, H ≤ 0)"
unfoldable pub stops_empty : ℤ → ℤ → Bool
stops_empty c h = lt_z c (pos 0) && le_z h (pos 0)

-- "EDVF window (c < 0, v ≤ EDVF)"
unfoldable pub reaches_edvf : Terms → ℤ → ℤ → Bool
reaches_edvf terms c v = lt_z c (pos 0) && le_z v (pos terms.edvf)

-- "if c < 0 and v ≤ E1"
unfoldable pub reaches_e1 : Terms → ℤ → ℤ → Bool
reaches_e1 terms c v = lt_z c (pos 0) && le_z v (pos terms.e1)

-- "it qualifies if t ≥ 4 × (273 + TOFF) and |c| > 2 × S0"
unfoldable pub qualifies : Terms → ℤ → ℤ → Bool
qualifies terms c t = le_z (pos terms.cold) t && ltb (2 * terms.s0) (magnitude c)
