-- Each row holds by computation. Assumes nothing.
use mathlib.Core.Path.{refl}
use Rattle.charge.specs.Charge.{charge_accepted, filled, leaked, opened_charge, without_run}
use Rattle.charge.specs.Obeyed.{charge_obeyed, written_lmd, written_nac}
use Rattle.charge.specs.Rest.{rested, rested_once}
use Rattle.command.specs.Command.{decide, decide_by, highest_command_bit}
use Rattle.configuration.specs.Configuration.{opened_mode}
use Rattle.configuration.specs.Settings.{settings_accepted}
use Rattle.counters.specs.Counters.{counters_accepted, counters_obeyed, counters_rested, opened_counters}
use Rattle.counters.specs.Cycles.{cycles_accepted, no_cycles}
use Rattle.flags.specs.Flags.{flags_obeyed}
use Rattle.gauge.specs.Accepted.{accepted}
use Rattle.gauge.specs.Calls.{rest_answer, stored_at, write_answer, write_refusal, written}
use Rattle.gauge.specs.Obey.{decided, obeyed}
use Rattle.gauge.specs.Opening.{open_answer, open_refusal, opened}
use Rattle.gauge.specs.Rest.{rest}
use Rattle.grains.specs.Leak.{band, leak, leak_rate, rises_up_to, weight}
use Rattle.grains.specs.Rest.{step_windows}
use Rattle.grains.specs.Run.{drained, run_accepted, unless_passed}
use Rattle.host.specs.Host.{commanded, commands_cleared, full_if, host_obeyed, init_cleared, opened_host, stored}
use Rattle.sample.specs.Limits.{zero_or_within}
use Rattle.sample.specs.Range.{between, value_between}
use Rattle.sample.specs.Sample.{current_accepted, no_sample, sample_accepted, sample_obeyed, sample_rested}
use Rattle.standby.specs.Standby.{standby_accepted, standby_obeyed}
use Rattle.examples.proofs.proved_rests.Goals as goal

pub returns : goal.returns
unfolding charge_accepted filled leaked opened_charge without_run charge_obeyed written_lmd written_nac rested rested_once decide decide_by
    highest_command_bit opened_mode settings_accepted counters_accepted counters_obeyed counters_rested opened_counters cycles_accepted no_cycles flags_obeyed
    accepted rest_answer stored_at write_answer write_refusal written decided obeyed open_answer open_refusal opened rest band leak leak_rate rises_up_to
    weight step_windows drained run_accepted unless_passed commanded commands_cleared full_if host_obeyed init_cleared opened_host stored zero_or_within
    between value_between current_accepted no_sample sample_accepted sample_obeyed sample_rested standby_accepted standby_obeyed
returns c =
    record {
      first_loses = refl;
      two = refl;
      three = refl;
      two_left = refl;
      no_leak = refl;
      held_3 = refl;
      held_4 = refl;
      drain_4 = refl;
      drain_greatest = refl;
      drain_passes = refl;
      bench_full_lem = refl;
      bench_day = refl;
      leaky_full_lem = refl;
      leaky_day = refl;
      hot_day = refl;
    }
