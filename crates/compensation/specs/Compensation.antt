-- "Registers" of paper 01, the compensation and the times; the compensation grows with the cycles (A5 of paper 02). Definitions only; assumes
-- nothing.
use Rattle.std.specs.Prelude.{ℕ, ◌+◌, ◌-◌, ◌*◌, ◌/◌, min, eqb, cond}
use Rattle.configuration.specs.Configuration.{ilmd, dcgn, dcoff, tcgn, gaf, cold_threshold}
use Rattle.configuration.specs.declared.settings.Settings.{Settings}

-- "dt = max(0, 4 × (273 + TOFF) − TEMP), 0 if TEMP is 0"; a difference of naturals stops at 0
unfoldable pub dt : Settings → ℕ → ℕ
dt s temp = cond (eqb temp 0) 0 (cold_threshold s - temp)

-- "the ceiling of n / d"
abbrev pub ceiling_of : ℕ → ℕ → ℕ
ceiling_of n d = (n + (d - 1)) / d

-- ADCGN, in 32nds: "DCGN × (32 + TCGN × quotient × GAF) / 32", with "the whole quotient of CYCT / 16"
unfoldable pub adcgn : Settings → ℕ → ℕ
adcgn s cyct = dcgn s * (32 + tcgn s * (cyct / 16) * gaf s)

-- the rate's term: I × ADCGN × (128 + TCGN × dt)
unfoldable pub rate_term : Settings → ℕ → ℕ → ℕ → ℕ
rate_term s i temp cyct = i * adcgn s cyct * (128 + tcgn s * dt s temp)

-- the offset's term, 4,096 × DCGN × DCOFF × ILMD, over the same 32nds: "DCOFF untouched"
unfoldable pub offset_term : Settings → ℕ
offset_term s = 131_072 * dcgn s * dcoff s * ilmd s

-- DCMP(I), counts: "one ceiling over the joined fraction", whose divisor is 32 × 32,768, "at least 0"; a difference of naturals stops at 0
unfoldable pub dcmp : Settings → ℕ → ℕ → ℕ → ℕ
dcmp s i temp cyct = ceiling_of (rate_term s i temp cyct - offset_term s) 1_048_576

-- "CAC = max(0, NAC − D), FCAC = max(0, LMD − D)"
abbrev pub compensated : ℕ → ℕ → ℕ
compensated capacity reduction = capacity - reduction

-- "Quotients are floored; above 65,535, with divisor 0 or the wrong sign: 65,535."
abbrev pub most_minutes : ℕ
most_minutes = 65_535

unfoldable pub minutes : ℕ → ℕ → ℕ
minutes n d = cond (eqb d 0) most_minutes (min (n / d) most_minutes)
