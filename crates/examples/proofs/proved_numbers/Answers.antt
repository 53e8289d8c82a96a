-- Each row holds by computation. Assumes nothing.
use mathlib.Core.Path.{refl}
use Rattle.command.specs.Command.{decide, decide_by, highest_command_bit}
use Rattle.gauge.specs.Calls.{write_refusal}
use Rattle.gauge.specs.Opening.{open_refusal}
use Rattle.registers.specs.Reading.{place_refusal}
use Rattle.sample.specs.Range.{between, current_in_range, value_between}
use Rattle.examples.proofs.proved_numbers.Goals as goal

pub returns : goal.returns
unfolding decide decide_by highest_command_bit write_refusal open_refusal place_refusal between value_between current_in_range
returns c =
    record {
      first_eight = refl;
      last_eight = refl;
      left_handed = refl;
      left_refused = refl;
      number_1 = refl;
      number_2 = refl;
      opens = refl;
      three_measured = refl;
      number_3 = refl;
      number_3_drawn = refl;
      most_drawn = refl;
      number_4 = refl;
      least_voltage_lem = refl;
      below_least = refl;
      at_least = refl;
      at_most = refl;
      above_most = refl;
      most_voltage_lem = refl;
      number_5 = refl;
      least_temperature_lem = refl;
      most_temperature_lem = refl;
      number_6 = refl;
      longer_than_a_day = refl;
      longest_rest_lem = refl;
      too_long = refl;
      number_7 = refl;
      number_8 = refl;
      number_9 = refl;
      number_10 = refl;
      number_11 = refl;
      number_12 = refl;
      number_13 = refl;
    }
