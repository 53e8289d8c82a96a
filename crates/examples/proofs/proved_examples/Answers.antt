-- Each row holds by computation. Assumes nothing.
use mathlib.Core.Path.{refl}
use Rattle.charge.specs.Charge.{charge_accepted, emptied, filled, held_moved, leaked, moved, opened_charge, run_moved, taught, without_run}
use Rattle.command.specs.Command.{decide, decide_by, highest_command_bit}
use Rattle.compensation.specs.Compensation.{adcgn, dcmp, dt, minutes, offset_term, rate_term}
use Rattle.configuration.specs.Configuration.{dcomp_taken, opened_mode}
use Rattle.configuration.specs.Settings.{settings_accepted}
use Rattle.counters.specs.Counters.{counters_accepted, counters_moved, opened_counters}
use Rattle.counters.specs.Cycles.{cycles_accepted, cycles_moved, cyct_after, drain_with, no_cycles}
use Rattle.flags.specs.Byte.{flags_byte}
use Rattle.flags.specs.Flags.{at_edv1, at_edvf, at_taught, cleared_if}
use Rattle.gauge.specs.Accepted.{accepted}
use Rattle.gauge.specs.Calls.{window_answer}
use Rattle.gauge.specs.Opening.{open_answer, open_refusal, opened}
use Rattle.gauge.specs.Window.{window}
use Rattle.grains.specs.Leak.{band, leak, leak_rate, rises_up_to, weight}
use Rattle.grains.specs.Learning.{learned}
use Rattle.grains.specs.Run.{drained, run_accepted, unless_passed}
use Rattle.host.specs.Host.{full_if, init_cleared, opened_host}
use Rattle.reached.specs.ChargeAfter.{charge_after, reached_in, summed}
use Rattle.reached.specs.Ending.{ending_of, may_teach}
use Rattle.reached.specs.Full.{is_full}
use Rattle.reached.specs.Reached.{charge_ended, charge_reached, filled_if, flags_ended, reached_by}
use Rattle.registers.specs.Times.{tte}
use Rattle.registers.specs.Values.{rsoc, usable_at}
use Rattle.sample.specs.Current.{charge_current, counted, discharge_current}
use Rattle.sample.specs.Limits.{zero_or_within}
use Rattle.sample.specs.Range.{between, current_in_range, value_between}
use Rattle.sample.specs.Sample.{current_accepted, no_sample, sample_accepted}
use Rattle.standby.specs.Standby.{averaged, standby_accepted}
use Rattle.examples.proofs.proved_examples.Goals as goal

pub returns : goal.returns
unfolding charge_accepted emptied filled held_moved leaked moved opened_charge run_moved taught without_run decide decide_by highest_command_bit adcgn dcmp
    dt minutes offset_term rate_term dcomp_taken opened_mode settings_accepted counters_accepted counters_moved opened_counters cycles_accepted cycles_moved
    cyct_after drain_with no_cycles flags_byte at_edv1 at_edvf at_taught cleared_if accepted window_answer open_answer open_refusal opened window band leak
    leak_rate rises_up_to weight learned drained run_accepted unless_passed full_if init_cleared opened_host charge_after reached_in summed ending_of may_teach
    is_full charge_ended charge_reached filled_if flags_ended reached_by tte rsoc usable_at charge_current counted discharge_current zero_or_within between
    current_in_range value_between current_accepted no_sample sample_accepted averaged standby_accepted
returns c =
    record {
      bench_lmd = refl;
      bench_edvf = refl;
      bench_e1 = refl;
      bench_s0 = refl;
      bench_dmf = refl;
      current_2 = refl;
      current_3 = refl;
      weight_1171 = refl;
      weight_1172 = refl;
      held = refl;
      dcmp_127 = refl;
      cac_892 = refl;
      tte_17 = refl;
      drain_900 = refl;
      drain_100 = refl;
      drain_61440 = refl;
      iav_20 = refl;
      iav_21 = refl;
      v_3000 = refl;
      v_3001 = refl;
      mode_35 = refl;
      nac_1 = refl;
      lmd_1 = refl;
      rsoc_1 = refl;
      flags_1 = refl;
      nac_2 = refl;
      lmd_2 = refl;
      rsoc_2 = refl;
      flags_2 = refl;
      nac_3 = refl;
      lmd_3 = refl;
      rsoc_3 = refl;
      flags_3 = refl;
    }
