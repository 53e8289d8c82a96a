-- Each row holds by computation. Assumes nothing.
use mathlib.Core.Path.{refl}
use Rattle.charge.specs.Charge.{charge_accepted, opened_charge}
use Rattle.configuration.specs.Configuration.{opened_mode}
use Rattle.configuration.specs.Settings.{settings_accepted}
use Rattle.counters.specs.Counters.{counters_accepted, opened_counters}
use Rattle.counters.specs.Cycles.{cycles_accepted, no_cycles}
use Rattle.every_form.specs.EveryForm.{load_answer}
use Rattle.flags.specs.Byte.{flags_fit, flags_of}
use Rattle.form.specs.Signed.{current_of}
use Rattle.gauge.specs.Accepted.{accepted}
use Rattle.gauge.specs.Opening.{open_answer, open_refusal, opened}
use Rattle.grains.specs.Run.{run_accepted}
use Rattle.host.specs.Host.{opened_host}
use Rattle.load.specs.Fields.{charge_from, counters_from, gauge_from, host_from, sample_from}
use Rattle.load.specs.Load.{accepted_answer, answer_in, carried_standby, form_fits, loaded, read_in, rejected_answer}
use Rattle.sample.specs.Limits.{zero_or_within}
use Rattle.sample.specs.Sample.{current_accepted, no_sample, sample_accepted}
use Rattle.standby.specs.Standby.{standby_accepted}
use Rattle.examples.proofs.proved_accepted.Goals as goal

pub returns : goal.returns
unfolding charge_accepted opened_charge opened_mode settings_accepted counters_accepted opened_counters cycles_accepted no_cycles load_answer flags_fit
    flags_of current_of accepted open_answer open_refusal opened run_accepted opened_host charge_from counters_from gauge_from host_from sample_from
    accepted_answer answer_in carried_standby form_fits loaded read_in rejected_answer zero_or_within current_accepted no_sample sample_accepted
    standby_accepted
returns c =
    record {
      lower_met = refl;
      upper_met = refl;
      shorter = refl;
      longer = refl;
      form_4 = refl;
      form_6 = refl;
      ilmd_0 = refl;
      ilmd_1 = refl;
      lmd_0 = refl;
      lmd_1 = refl;
      held_above = refl;
      lmd_below = refl;
      drain_above = refl;
      drain_without_run = refl;
      no_drain = refl;
      no_drain_yet = refl;
      standby_321 = refl;
      standby_0 = refl;
      drawn_2 = refl;
      drawn_28011 = refl;
      drawn_28012 = refl;
      charged_2 = refl;
      charged_3 = refl;
      charged_28012 = refl;
      most_negative = refl;
      current_0 = refl;
      volt_0 = refl;
      volt_1 = refl;
      volt_2599 = refl;
      volt_4501 = refl;
      temp_0 = refl;
      temp_1 = refl;
      temp_1011 = refl;
      temp_1373 = refl;
      chgs_drawn = refl;
      chgs_0 = refl;
      chgs_clear = refl;
      bit_3 = refl;
      bit_5 = refl;
      bit_6 = refl;
      cycle_drain = refl;
      charging_0 = refl;
      none_0 = refl;
    }
