-- Each row holds by computation. Assumes nothing.
use mathlib.Core.Path.{refl}
use Rattle.charge.specs.Charge.{charge_accepted, emptied, filled, held_moved, leaked, moved, opened_charge, run_moved, taught, without_run}
use Rattle.charge.specs.Obeyed.{charge_obeyed, written_lmd, written_nac}
use Rattle.charge.specs.Rest.{rested, rested_once}
use Rattle.command.specs.Command.{decide, decide_by, highest_command_bit}
use Rattle.compensation.specs.Compensation.{adcgn, dcmp, dt, minutes, offset_term, rate_term}
use Rattle.configuration.specs.Configuration.{dcomp_taken, opened_mode}
use Rattle.configuration.specs.Settings.{settings_accepted}
use Rattle.counters.specs.Counters.{counters_accepted, counters_moved, counters_obeyed, counters_rested, opened_counters}
use Rattle.counters.specs.Cycles.{cycles_accepted, cycles_moved, cyct_after, drain_with, no_cycles}
use Rattle.flags.specs.Byte.{flags_byte}
use Rattle.flags.specs.Flags.{at_edv1, at_edvf, at_taught, cleared_if, flags_obeyed}
use Rattle.gauge.specs.Accepted.{accepted}
use Rattle.gauge.specs.Calls.{rest_answer, stored_at, window_answer, write_answer, write_refusal, written}
use Rattle.gauge.specs.Obey.{decided, obeyed}
use Rattle.gauge.specs.Opening.{open_answer, open_refusal, opened}
use Rattle.gauge.specs.Rest.{rest}
use Rattle.gauge.specs.Window.{window}
use Rattle.grains.specs.Leak.{band, leak, leak_rate, rises_up_to, weight}
use Rattle.grains.specs.Learning.{learned}
use Rattle.grains.specs.Run.{drained, run_accepted, unless_passed}
use Rattle.host.specs.Host.{commanded, commands_cleared, full_if, host_obeyed, init_cleared, opened_host, stored}
use Rattle.reached.specs.ChargeAfter.{charge_after, reached_in, summed}
use Rattle.reached.specs.Ending.{ending_of, may_teach}
use Rattle.reached.specs.Full.{is_full}
use Rattle.reached.specs.Reached.{charge_ended, charge_reached, filled_if, flags_ended, reached_by}
use Rattle.registers.specs.Map.{look_up, register, rows}
use Rattle.registers.specs.Times.{artte, stte, tte, ttf}
use Rattle.registers.specs.Values.{fcac, reduction, rsoc, usable_at}
use Rattle.sample.specs.Current.{charge_current, counted, discharge_current}
use Rattle.sample.specs.Limits.{zero_or_within}
use Rattle.sample.specs.Range.{between, current_in_range, value_between}
use Rattle.sample.specs.Sample.{current_accepted, no_sample, sample_accepted, sample_obeyed, sample_rested}
use Rattle.standby.specs.Standby.{averaged, shown, standby_accepted, standby_obeyed}
use Rattle.examples.proofs.proved_cycles.Goals as goal

pub returns : goal.returns
unfolding charge_accepted emptied filled held_moved leaked moved opened_charge run_moved taught without_run charge_obeyed written_lmd written_nac rested
    rested_once decide decide_by highest_command_bit adcgn dcmp dt minutes offset_term rate_term dcomp_taken opened_mode settings_accepted counters_accepted
    counters_moved counters_obeyed counters_rested opened_counters cycles_accepted cycles_moved cyct_after drain_with no_cycles flags_byte at_edv1 at_edvf
    at_taught cleared_if flags_obeyed accepted rest_answer stored_at window_answer write_answer write_refusal written decided obeyed open_answer open_refusal
    opened rest window band leak leak_rate rises_up_to weight learned drained run_accepted unless_passed commanded commands_cleared full_if host_obeyed
    init_cleared opened_host stored charge_after reached_in summed ending_of may_teach is_full charge_ended charge_reached filled_if flags_ended reached_by
    look_up register rows artte stte tte ttf fcac reduction rsoc usable_at charge_current counted discharge_current zero_or_within between current_in_range
    value_between current_accepted no_sample sample_accepted sample_obeyed sample_rested averaged shown standby_accepted standby_obeyed
returns c =
    record {
      drain_796 = refl;
      wrtlmd_keeps = refl;
      rest_keeps = refl;
      seven = refl;
      shown_7 = refl;
      high_0 = refl;
      charging_counts = refl;
      prst_keeps = refl;
      frst_clears = refl;
      taught = refl;
      before_taught = refl;
      after_taught = refl;
      stays = refl;
      stops = refl;
      not_whole = refl;
      whole = refl;
      without_gaf = refl;
      first_quotient = refl;
      gaf_low_bits = refl;
      quotient_5 = refl;
      taken_6C = refl;
      quotient_5_cold = refl;
      gaf_1 = refl;
      gaf_2 = refl;
      greatest = refl;
      greatest_dcmp = refl;
      offset = refl;
      ceiling_whole = refl;
      ceiling_more = refl;
      ceiling_least = refl;
      ceiling_0 = refl;
      old_cyct = refl;
      old_cac = refl;
      new_cac = refl;
      old_fcac = refl;
      old_tte = refl;
      new_tte = refl;
      old_artte = refl;
      new_artte = refl;
    }
