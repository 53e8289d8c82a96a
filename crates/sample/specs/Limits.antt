-- The limits of a sample in "A window" of paper 01, which "Saved gauge" asks of a gauge too, and of a rest. Definitions only; assumes nothing.
use Rattle.std.specs.Prelude.{Bool, ◌&&◌, ◌||◌, ℕ, eqb, leb, ltb}

-- "current a (units, positive charging, −28,011 to 28,011)"
abbrev pub most_current : ℕ
most_current = 28_011

-- "voltage v (2,600 to 4,500 mV)"
abbrev pub least_voltage : ℕ
least_voltage = 2_600

abbrev pub most_voltage : ℕ
most_voltage = 4_500

-- "temperature t (1,012 to 1,372 quarter kelvins)"
abbrev pub least_temperature : ℕ
least_temperature = 1_012

abbrev pub most_temperature : ℕ
most_temperature = 1_372

abbrev pub within : ℕ → ℕ → ℕ → Bool
within least most n = leb least n && leb n most

-- "0 or in range"
unfoldable pub zero_or_within : ℕ → ℕ → ℕ → Bool
zero_or_within least most n = eqb n 0 || within least most n

-- "A rest of n windows", from 1; "may now last 506,250 windows, thirty days" (A6 of paper 02)
abbrev pub longest_rest : ℕ
longest_rest = 506_250

abbrev pub rest_in_range : ℕ → Bool
rest_in_range n = ltb 0 n && leb n longest_rest
