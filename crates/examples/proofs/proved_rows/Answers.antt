-- Each row holds by computation. Assumes nothing.
use mathlib.Core.Path.{refl}
use Rattle.charge.specs.Charge.{charge_accepted, emptied, filled, held_moved, leaked, moved, opened_charge, run_moved, taught, without_run}
use Rattle.charge.specs.Obeyed.{charge_obeyed, written_lmd, written_nac}
use Rattle.command.specs.Command.{decide, decide_by, highest_command_bit}
use Rattle.compensation.specs.Compensation.{adcgn, dcmp, dt, minutes, offset_term, rate_term}
use Rattle.configuration.specs.Configuration.{dcomp_taken, opened_mode}
use Rattle.configuration.specs.Settings.{settings_accepted}
use Rattle.counters.specs.Counters.{counters_accepted, counters_moved, counters_obeyed, opened_counters}
use Rattle.counters.specs.Cycles.{cycles_accepted, cycles_moved, cyct_after, drain_with, no_cycles}
use Rattle.flags.specs.Byte.{flags_byte}
use Rattle.flags.specs.Flags.{at_edv1, at_edvf, at_taught, cleared_if, flags_obeyed}
use Rattle.gauge.specs.Accepted.{accepted}
use Rattle.gauge.specs.Calls.{stored_at, window_answer, write_answer, write_refusal, written}
use Rattle.gauge.specs.Obey.{decided, obeyed}
use Rattle.gauge.specs.Opening.{open_answer, open_refusal, opened}
use Rattle.gauge.specs.Window.{window}
use Rattle.grains.specs.Leak.{band, leak, leak_rate, rises_up_to, weight}
use Rattle.grains.specs.Learning.{learned}
use Rattle.grains.specs.Run.{drained, run_accepted, unless_passed}
use Rattle.host.specs.Host.{commanded, commands_cleared, full_if, host_obeyed, init_cleared, opened_host, stored}
use Rattle.reached.specs.ChargeAfter.{charge_after, reached_in, summed}
use Rattle.reached.specs.Ending.{ending_of, may_teach}
use Rattle.reached.specs.Full.{is_full}
use Rattle.reached.specs.Reached.{charge_ended, charge_reached, filled_if, flags_ended, reached_by}
use Rattle.registers.specs.Times.{artte, stte, tte, ttf}
use Rattle.registers.specs.Values.{fcac, reduction, usable_at}
use Rattle.sample.specs.Current.{charge_current, counted, discharge_current}
use Rattle.sample.specs.Limits.{zero_or_within}
use Rattle.sample.specs.Range.{between, current_in_range, value_between}
use Rattle.sample.specs.Sample.{current_accepted, no_sample, sample_accepted, sample_obeyed}
use Rattle.standby.specs.Standby.{averaged, shown, standby_accepted, standby_obeyed}
use Rattle.examples.proofs.proved_rows.Goals as goal

pub returns : goal.returns
unfolding charge_accepted emptied filled held_moved leaked moved opened_charge run_moved taught without_run charge_obeyed written_lmd written_nac decide
    decide_by highest_command_bit adcgn dcmp dt minutes offset_term rate_term dcomp_taken opened_mode settings_accepted counters_accepted counters_moved
    counters_obeyed opened_counters cycles_accepted cycles_moved cyct_after drain_with no_cycles flags_byte at_edv1 at_edvf at_taught cleared_if flags_obeyed
    accepted stored_at window_answer write_answer write_refusal written decided obeyed open_answer open_refusal opened window band leak leak_rate rises_up_to
    weight learned drained run_accepted unless_passed commanded commands_cleared full_if host_obeyed init_cleared opened_host stored charge_after reached_in
    summed ending_of may_teach is_full charge_ended charge_reached filled_if flags_ended reached_by artte stte tte ttf fcac reduction usable_at charge_current
    counted discharge_current zero_or_within between current_in_range value_between current_accepted no_sample sample_accepted sample_obeyed averaged shown
    standby_accepted standby_obeyed
returns c =
    record {
      e1_margin = refl;
      dcgn_taken = refl;
      dcoff_taken = refl;
      dcgn_own = refl;
      dcoff_own = refl;
      dt_cold = refl;
      dt_warm = refl;
      dt_unmeasured = refl;
      dcmp_cold = refl;
      cold_1111 = refl;
      cold_1112 = refl;
      edvf_2800 = refl;
      edvf_2801 = refl;
      no_discharge = refl;
      drain_most = refl;
      drain_passed = refl;
      average_4 = refl;
      average_20 = refl;
      average_21 = refl;
      average_0 = refl;
      leak_24 = refl;
      band_1091 = refl;
      band_1092 = refl;
      band_1131 = refl;
      band_1132 = refl;
      band_1211 = refl;
      band_1212 = refl;
      band_1251 = refl;
      band_1252 = refl;
      band_1291 = refl;
      band_1292 = refl;
      band_1331 = refl;
      band_1332 = refl;
      learned_most = refl;
      learned_least = refl;
      learned_896 = refl;
      learned_at = refl;
      learned_above = refl;
      learned_floor = refl;
      full_short = refl;
      full_sum = refl;
      full_taper = refl;
      full_low = refl;
      full_drawn = refl;
      full_held = refl;
      full_flags = refl;
      fcac_897 = refl;
      ttf_4 = refl;
      ttf_drawn = refl;
      tte_charging = refl;
      stte_6114 = refl;
      artte_3000 = refl;
      artte_300 = refl;
      artte_0 = refl;
      minutes_65535 = refl;
      minutes_65536 = refl;
      minutes_65534 = refl;
      key_56 = refl;
      key_56_higher = refl;
      key_56_none = refl;
      key_done = refl;
      key_prst = refl;
      key_frst = refl;
      mode_opened = refl;
      mode_opened_0 = refl;
      mode_commands = refl;
      mode_init = refl;
    }
