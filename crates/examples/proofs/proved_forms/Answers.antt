-- Each row holds by computation. Assumes nothing.
use mathlib.Core.Path.{refl}
use Rattle.charge.specs.Charge.{charge_accepted, opened_charge}
use Rattle.compensation.specs.Compensation.{adcgn, dcmp, dt, minutes, offset_term, rate_term}
use Rattle.configuration.specs.Configuration.{dcomp_taken, opened_mode}
use Rattle.configuration.specs.Settings.{settings_accepted}
use Rattle.counters.specs.Counters.{counters_accepted, opened_counters}
use Rattle.counters.specs.Cycles.{cycles_accepted, no_cycles}
use Rattle.every_form.specs.EveryForm.{load_answer}
use Rattle.flags.specs.Byte.{flags_byte, flags_fit, flags_of}
use Rattle.form.specs.Form.{laid_out}
use Rattle.form.specs.Signed.{current_of, signed_pair}
use Rattle.gauge.specs.Accepted.{accepted}
use Rattle.gauge.specs.Opening.{opened}
use Rattle.grains.specs.Run.{run_accepted}
use Rattle.host.specs.Host.{opened_host}
use Rattle.load.specs.Fields.{bytes_in, charge_from, counters_from, gauge_from, host_from, number_in, sample_from}
use Rattle.load.specs.Load.{accepted_answer, answer_in, carried_standby, form_fits, loaded, read_in, rejected_answer}
use Rattle.registers.specs.Map.{look_up, register, rows}
use Rattle.registers.specs.Times.{artte, stte, tte, ttf}
use Rattle.registers.specs.Values.{fcac, reduction, rsoc, usable_at}
use Rattle.sample.specs.Current.{charge_current, discharge_current}
use Rattle.sample.specs.Limits.{zero_or_within}
use Rattle.sample.specs.Sample.{current_accepted, no_sample, sample_accepted}
use Rattle.saved.specs.Save.{field_bytes, saved_bytes}
use Rattle.standby.specs.Standby.{shown, standby_accepted}
use Rattle.examples.proofs.proved_forms.Goals as goal

pub returns : goal.returns
unfolding charge_accepted opened_charge adcgn dcmp dt minutes offset_term rate_term dcomp_taken opened_mode settings_accepted counters_accepted
    opened_counters cycles_accepted no_cycles load_answer flags_byte flags_fit flags_of laid_out current_of signed_pair accepted opened run_accepted opened_host
    bytes_in charge_from counters_from gauge_from host_from number_in sample_from accepted_answer answer_in carried_standby form_fits loaded read_in
    rejected_answer look_up register rows artte stte tte ttf fcac reduction rsoc usable_at charge_current discharge_current zero_or_within current_accepted
    no_sample sample_accepted field_bytes saved_bytes shown standby_accepted
returns c =
    record {
      length_41 = refl;
      form_1_most = refl;
      form_1_read = refl;
      form_1_above = refl;
      form_1_1020 = refl;
      form_1_1021 = refl;
      form_1_4096 = refl;
      form_1_4097 = refl;
      form_1_65535 = refl;
      form_2_most = refl;
      form_2_above = refl;
      length_43 = refl;
      form_3_read = refl;
      form_3_most = refl;
      form_3_taken = refl;
      form_3_short = refl;
      form_1_rests = refl;
      form_2_rests = refl;
      form_2_long = refl;
      length_53 = refl;
      form_4_cyct = refl;
      form_4_low = refl;
      form_4_high = refl;
      form_4_drain = refl;
      form_4_below = refl;
      form_4_at = refl;
      form_4_short = refl;
      form_3_cycles = refl;
      form_3_long = refl;
      form_4_count = refl;
      length_55 = refl;
      form_5_most = refl;
      form_5_taken = refl;
      form_5_short = refl;
      form_4_long = refl;
      form_0 = refl;
      form_6 = refl;
      taken_5 = refl;
      taken_4 = refl;
      taken_3 = refl;
      taken_2 = refl;
      taken_1 = refl;
      saved_1 = refl;
      saved_2 = refl;
      saved_3 = refl;
      saved_4 = refl;
    }
