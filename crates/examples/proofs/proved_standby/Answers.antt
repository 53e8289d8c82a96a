-- Each row holds by computation. Assumes nothing.
use mathlib.Core.Path.{refl}
use Rattle.charge.specs.Charge.{charge_accepted, emptied, filled, held_moved, leaked, moved, opened_charge, run_moved, taught, without_run}
use Rattle.charge.specs.Obeyed.{charge_obeyed, written_lmd, written_nac}
use Rattle.command.specs.Command.{decide, decide_by, highest_command_bit}
use Rattle.compensation.specs.Compensation.{minutes}
use Rattle.configuration.specs.Configuration.{opened_mode}
use Rattle.configuration.specs.Settings.{settings_accepted}
use Rattle.counters.specs.Counters.{counters_accepted, counters_moved, counters_obeyed, opened_counters}
use Rattle.counters.specs.Cycles.{cycles_accepted, cycles_moved, cyct_after, drain_with, no_cycles}
use Rattle.examples.specs.StandbyRows.{after_loads}
use Rattle.flags.specs.Flags.{at_edv1, at_edvf, at_taught, cleared_if, flags_obeyed}
use Rattle.gauge.specs.Accepted.{accepted}
use Rattle.gauge.specs.Calls.{stored_at, window_answer, write_answer, write_refusal, written}
use Rattle.gauge.specs.Obey.{decided, obeyed}
use Rattle.gauge.specs.Opening.{open_answer, open_refusal, opened}
use Rattle.gauge.specs.Window.{window}
use Rattle.grains.specs.Leak.{band, leak, leak_rate, rises_up_to, weight}
use Rattle.grains.specs.Learning.{learned}
use Rattle.grains.specs.Run.{drained, run_accepted, unless_passed}
use Rattle.host.specs.Host.{commanded, commands_cleared, full_if, host_obeyed, init_cleared, opened_host, stored}
use Rattle.reached.specs.ChargeAfter.{charge_after, reached_in, summed}
use Rattle.reached.specs.Ending.{ending_of, may_teach}
use Rattle.reached.specs.Full.{is_full}
use Rattle.reached.specs.Reached.{charge_ended, charge_reached, filled_if, flags_ended, reached_by}
use Rattle.registers.specs.Times.{stte}
use Rattle.sample.specs.Current.{charge_current, counted, discharge_current}
use Rattle.sample.specs.Limits.{zero_or_within}
use Rattle.sample.specs.Range.{between, current_in_range, value_between}
use Rattle.sample.specs.Sample.{current_accepted, no_sample, sample_accepted, sample_obeyed}
use Rattle.standby.specs.Standby.{averaged, shown, standby_accepted, standby_obeyed}
use Rattle.examples.proofs.proved_standby.Goals as goal

pub returns : goal.returns
unfolding charge_accepted emptied filled held_moved leaked moved opened_charge run_moved taught without_run charge_obeyed written_lmd written_nac decide
    decide_by highest_command_bit minutes opened_mode settings_accepted counters_accepted counters_moved counters_obeyed opened_counters cycles_accepted
    cycles_moved cyct_after drain_with no_cycles after_loads at_edv1 at_edvf at_taught cleared_if flags_obeyed accepted stored_at window_answer write_answer
    write_refusal written decided obeyed open_answer open_refusal opened window band leak leak_rate rises_up_to weight learned drained run_accepted
    unless_passed commanded commands_cleared full_if host_obeyed init_cleared opened_host stored charge_after reached_in summed ending_of may_teach is_full
    charge_ended charge_reached filled_if flags_ended reached_by stte charge_current counted discharge_current zero_or_within between current_in_range
    value_between current_accepted no_sample sample_accepted sample_obeyed averaged shown standby_accepted standby_obeyed
returns c =
    record {
      opened_480 = refl;
      opened_30 = refl;
      load_490 = refl;
      load_31 = refl;
      load_39 = refl;
      settled_625 = refl;
      settled_40 = refl;
      stays_625 = refl;
      above_640 = refl;
      above_40 = refl;
      above_41 = refl;
      half_nac = refl;
      half_stte = refl;
      none_0 = refl;
      none_stays = refl;
      none_shown = refl;
      none_stte = refl;
      prst_480 = refl;
      frst_480 = refl;
    }
