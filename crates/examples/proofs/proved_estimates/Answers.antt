-- Each row holds by computation. Assumes nothing.
use mathlib.Core.Path.{refl}
use Rattle.charge.specs.Charge.{charge_accepted, emptied, filled, held_moved, leaked, moved, opened_charge, run_moved, taught, without_run}
use Rattle.charge.specs.Obeyed.{charge_obeyed, written_lmd, written_nac}
use Rattle.charge.specs.Rest.{rested, rested_once}
use Rattle.command.specs.Command.{decide, decide_by, highest_command_bit}
use Rattle.configuration.specs.Configuration.{opened_mode}
use Rattle.configuration.specs.Settings.{settings_accepted}
use Rattle.counters.specs.Counters.{counters_accepted, counters_moved, counters_obeyed, counters_rested, opened_counters}
use Rattle.counters.specs.Cycles.{cycles_accepted, cycles_moved, cyct_after, drain_with, no_cycles}
use Rattle.estimate.specs.Estimate.{distance_after, distance_from, estimate_after, estimate_refusal, estimated}
use Rattle.flags.specs.Flags.{at_edv1, at_edvf, at_taught, cleared_if, flags_obeyed}
use Rattle.gauge.specs.Accepted.{accepted}
use Rattle.gauge.specs.Calls.{rest_answer, stored_at, window_answer, write_answer, write_refusal, written}
use Rattle.gauge.specs.Obey.{decided, obeyed}
use Rattle.gauge.specs.Opening.{open_answer, open_refusal, opened}
use Rattle.gauge.specs.Rest.{rest}
use Rattle.gauge.specs.Window.{window}
use Rattle.grains.specs.Leak.{band, leak, leak_rate, rises_up_to, weight}
use Rattle.grains.specs.Learning.{learned}
use Rattle.grains.specs.Run.{drained, run_accepted, unless_passed}
use Rattle.host.specs.Host.{commanded, commands_cleared, full_if, host_obeyed, init_cleared, opened_host, stored}
use Rattle.permille.specs.Rule.{rule}
use Rattle.permille.specs.Table.{in_table, permille, permille_in}
use Rattle.reached.specs.ChargeAfter.{charge_after, reached_in, summed}
use Rattle.reached.specs.Ending.{ending_of, may_teach}
use Rattle.reached.specs.Full.{is_full}
use Rattle.reached.specs.Reached.{charge_ended, charge_reached, filled_if, flags_ended, reached_by}
use Rattle.sample.specs.Current.{charge_current, counted, discharge_current}
use Rattle.sample.specs.Limits.{zero_or_within}
use Rattle.sample.specs.Range.{between, current_in_range, value_between}
use Rattle.sample.specs.Sample.{current_accepted, no_sample, sample_accepted, sample_obeyed, sample_rested}
use Rattle.standby.specs.Standby.{averaged, standby_accepted, standby_obeyed}
use Rattle.examples.proofs.proved_estimates.Goals as goal

pub returns : goal.returns
unfolding charge_accepted emptied filled held_moved leaked moved opened_charge run_moved taught without_run charge_obeyed written_lmd written_nac rested
    rested_once decide decide_by highest_command_bit opened_mode settings_accepted counters_accepted counters_moved counters_obeyed counters_rested
    opened_counters cycles_accepted cycles_moved cyct_after drain_with no_cycles distance_after distance_from estimate_after estimate_refusal estimated at_edv1
    at_edvf at_taught cleared_if flags_obeyed accepted rest_answer stored_at window_answer write_answer write_refusal written decided obeyed open_answer
    open_refusal opened rest window band leak leak_rate rises_up_to weight learned drained run_accepted unless_passed commanded commands_cleared full_if
    host_obeyed init_cleared opened_host stored rule in_table permille permille_in charge_after reached_in summed ending_of may_teach is_full charge_ended charge_reached
    filled_if flags_ended reached_by charge_current counted discharge_current zero_or_within between current_in_range value_between current_accepted no_sample
    sample_accepted sample_obeyed sample_rested averaged standby_accepted standby_obeyed
returns c =
    record {
      in_3600 = refl;
      in_2999 = refl;
      in_4201 = refl;
      at_3000 = refl;
      at_3400 = refl;
      at_3600 = refl;
      at_3700 = refl;
      at_3800 = refl;
      at_3900 = refl;
      at_4000 = refl;
      at_4100 = refl;
      at_4200 = refl;
      at_3399 = refl;
      at_3704 = refl;
      at_3703 = refl;
      at_4197 = refl;
      at_4199 = refl;
      from_3000 = refl;
      above_2999 = refl;
      to_4200 = refl;
      below_4201 = refl;
      below_0 = refl;
      after_421 = refl;
      first_15 = refl;
      after_422 = refl;
      then_16 = refl;
      first_14 = refl;
      window_of_2 = refl;
      window_of_3 = refl;
      nac_rested = refl;
      estimate_358 = refl;
      distance_358 = refl;
      distance_1024 = refl;
      greatest = refl;
      greatest_above = refl;
      greatest_below = refl;
      estimate_kept = refl;
      distance_kept = refl;
      wrtnac_keeps = refl;
      prst_clears = refl;
      frst_clears = refl;
      goes_on = refl;
      stops = refl;
      stays = refl;
    }
