-- Samples put together, and what acceptance of one says of its parts. Assumes nothing.
use mathlib.Core.Bool.{Bool, true, ◌&&◌}
use mathlib.Core.Path.{◌≡◌}
use Prim.Native.Nat.{ℕ}
use Rattle.numbers.proofs.BoolLaws.{and_left, and_right, and_both}
use Rattle.sample.specs.Limits.{least_temperature, least_voltage, most_temperature, most_voltage, zero_or_within}
use Rattle.sample.specs.Sample.{current_accepted, sample_accepted}
use Rattle.sample.specs.declared.current.Current.{Current}
use Rattle.sample.specs.declared.sample.Sample.{Sample}

abbrev sample_of : Current → ℕ → ℕ → Sample
sample_of i v t = record { current = i; voltage = v; temperature = t }

pub sample_alike : {i j : Current} {v w t u : ℕ} → i ≡ j → v ≡ w → t ≡ u → sample_of i v t ≡ sample_of j w u
sample_alike p q r = cc

-- ---- the three tests, in their order

module _ (limit : ℕ) (s : Sample) where
  flows : Bool
  flows = current_accepted limit s.current

  volts : Bool
  volts = zero_or_within least_voltage most_voltage s.voltage

  warm : Bool
  warm = zero_or_within least_temperature most_temperature s.temperature

-- what an accepted sample is, part by part
pub record SampleSound (limit : ℕ) (s : Sample) : Type 0 where
  pub current : current_accepted limit s.current ≡ true
  pub voltage : zero_or_within least_voltage most_voltage s.voltage ≡ true
  pub temperature : zero_or_within least_temperature most_temperature s.temperature ≡ true

module _ (limit : ℕ) (s : Sample) where
  pub sample_sound : sample_accepted limit s ≡ true → SampleSound limit s
  unfolding sample_accepted flows volts warm
  sample_sound e =
      let rest = and_right (flows limit s) (volts limit s && warm limit s) e in
      record {
        current = and_left (flows limit s) (volts limit s && warm limit s) e;
        voltage = and_left (volts limit s) (warm limit s) rest;
        temperature = and_right (volts limit s) (warm limit s) rest;
      }

  pub sample_accepted_lem : SampleSound limit s → sample_accepted limit s ≡ true
  unfolding sample_accepted flows volts warm
  sample_accepted_lem k =
      and_both (flows limit s) (volts limit s && warm limit s) k.current (and_both (volts limit s) (warm limit s) k.voltage k.temperature)
