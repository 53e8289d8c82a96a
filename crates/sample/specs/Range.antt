-- "A window" of paper 01, its input as handed in, and the refusals 3, 4 and 5. Definitions only; assumes nothing.
use Rattle.std.specs.Prelude.{Bool, not, ◌&&◌, cond, ℕ, leb, ltb, ℤ, Option, Some, None}
use Rattle.numbers.specs.Signed.{negative, magnitude}
use Rattle.refusals.specs.Refusal as Refusal
use Rattle.sample.specs.Current.{no_current}
use Rattle.sample.specs.Limits.{least_temperature, least_voltage, most_current, most_temperature, most_voltage, within}
use Rattle.sample.specs.declared.current.Current.{Current}

-- ---- the ranges

unfoldable pub current_in_range : ℤ → Bool
current_in_range a = leb (magnitude a) most_current

unfoldable pub between : ℕ → ℕ → ℤ → Bool
between least most x = not (negative x) && within least most (magnitude x)

abbrev pub voltage_in_range : ℤ → Bool
voltage_in_range v = between least_voltage most_voltage v

abbrev pub temperature_in_range : ℤ → Bool
temperature_in_range t = between least_temperature most_temperature t

-- ---- the refusals

-- 3
abbrev pub current_refusal : ℤ → ℕ
current_refusal a = cond (current_in_range a) Refusal.none Refusal.current_range

-- 4
abbrev pub voltage_refusal : ℤ → ℕ
voltage_refusal v = cond (voltage_in_range v) Refusal.none Refusal.voltage_range

-- 5
abbrev pub temperature_refusal : ℤ → ℕ
temperature_refusal t = cond (temperature_in_range t) Refusal.none Refusal.temperature_range

-- ---- the values; a number out of range has none, and stands as 0

-- a by direction and magnitude
abbrev pub current_of : ℤ → Current
current_of a = record { charging = not (negative a) && ltb 0 (magnitude a); magnitude = magnitude a }

abbrev pub current : ℤ → Current
current a = cond (current_in_range a) (current_of a) no_current

unfoldable pub value_between : ℕ → ℕ → ℤ → ℕ
value_between least most x = cond (between least most x) (magnitude x) 0

-- the value, if the number is in range
abbrev pub read_between : ℕ → ℕ → ℤ → Option ℕ
read_between least most x = cond (between least most x) (Some (value_between least most x)) None

abbrev pub voltage : ℤ → ℕ
voltage v = value_between least_voltage most_voltage v

abbrev pub temperature : ℤ → ℕ
temperature t = value_between least_temperature most_temperature t
