-- The last sample of a gauge: c, VOLT and TEMP. Definitions only; assumes nothing.
use Rattle.std.specs.Prelude.{Bool, not, ◌&&◌, cond, ℕ, eqb, leb, ltb}
use Rattle.command.specs.declared.command.Command.{Command}
use Rattle.command.specs.declared.command.Command.TheVariants.{Setting, Reset}
use Rattle.sample.specs.Current.{no_current}
use Rattle.sample.specs.Limits.{least_temperature, least_voltage, most_current, most_temperature, most_voltage, zero_or_within}
use Rattle.sample.specs.declared.current.Current.{Current}
use Rattle.sample.specs.declared.sample.Sample.{Sample}

-- Opening: "c, IAV, .. VOLT, TEMP 0"; "VOLT or TEMP 0 means not measured yet"
unfoldable pub no_sample : Sample
no_sample = record { current = no_current; voltage = 0; temperature = 0 }

-- FRST and PRST: "as opened"
unfoldable pub sample_obeyed : Command → Sample → Sample
sample_obeyed (Setting setting) s = s
sample_obeyed (Reset reset) s = no_sample

-- a rest: "TEMP = t, c and IAV 0, CHGS cleared .. VOLT and all else stay"
unfoldable pub sample_rested : ℕ → Sample → Sample
sample_rested t s = record { current = no_current; voltage = s.voltage; temperature = t }

-- "c in range and 0 or beyond DMF", "CHGS exactly if c > 0"
unfoldable pub current_accepted : ℕ → Current → Bool
current_accepted limit c =
    cond (eqb c.magnitude 0) (not c.charging) (ltb limit c.magnitude && leb c.magnitude most_current)

-- "VOLT and TEMP 0 or in range"
unfoldable pub sample_accepted : ℕ → Sample → Bool
sample_accepted limit s =
    current_accepted limit s.current
    && (zero_or_within least_voltage most_voltage s.voltage && zero_or_within least_temperature most_temperature s.temperature)
