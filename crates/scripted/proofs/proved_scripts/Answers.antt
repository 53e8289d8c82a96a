-- Each row holds by computation. Assumes nothing.
use mathlib.Core.Path.{refl}
use Rattle.bench_feed.specs.Feed as Feed
use Rattle.bench_feed.specs.Feed.{ended_at, fed_at, is_ended, last_output, last_output_at}
use Rattle.bench_feed.specs.First.{after_first, fed_first, first_output, names_fed}
use Rattle.bench_feed.specs.Input.{fed_all, printed_at, printed_from, printed_of}
use Rattle.bench_feed.specs.Listed.{fed_listed, line_output}
use Rattle.bench_feed.specs.Printed.{lines_printed, list_printed, printed, same_bytes}
use Rattle.bench_output.specs.Output.{refused_text, registers_text, text_of}
use Rattle.bench_window.specs.Answer.{answer_output, line_answered}
use Rattle.bench_window.specs.Shown.{registers_output}
use Rattle.charge.specs.Charge.{charge_accepted, emptied, filled, held_moved, leaked, moved, opened_charge, run_moved, taught, without_run}
use Rattle.charge.specs.Obeyed.{charge_obeyed, written_lmd, written_nac}
use Rattle.charge.specs.Rest.{rested, rested_once}
use Rattle.charge.specs.Step.{leaked_at_once}
use Rattle.command.specs.Command.{command_of, decide, decide_by, highest_command_bit}
use Rattle.compensation.specs.Compensation.{adcgn, dcmp, dt, minutes, offset_term, rate_term}
use Rattle.compensation.specs.Unaged.{dcmp_unaged}
use Rattle.configuration.specs.Configuration.{dcomp_taken, opened_mode}
use Rattle.configuration.specs.Settings.{settings_accepted}
use Rattle.counters.specs.Counters.{counters_accepted, counters_moved, counters_obeyed, counters_rested, opened_counters}
use Rattle.counters.specs.Cycles.{cycles_accepted, cycles_moved, cyct_after, drain_with, no_cycles}
use Rattle.drive.specs.Drive.{bytes_after, called_bytes, called_number}
use Rattle.drive.specs.Update.{bytes_after_steps, calls_of, step_bytes}
use Rattle.estimate.specs.Estimate.{distance_after, distance_from, estimate_after, estimate_refusal, estimated}
use Rattle.every_form.specs.EveryForm.{load_answer}
use Rattle.flags.specs.Byte.{flags_byte, flags_fit, flags_of}
use Rattle.flags.specs.Flags.{at_edv1, at_edvf, at_taught, cleared_if, flags_obeyed}
use Rattle.form.specs.Form.{laid_out}
use Rattle.form.specs.InNewest.{in_newest, widened}
use Rattle.form.specs.Signed.{current_of, signed_pair}
use Rattle.gauge.specs.Accepted.{accepted}
use Rattle.gauge.specs.Calls.{key_answer, rest_answer, stored_at, window_answer, write_answer, write_refusal, written}
use Rattle.gauge.specs.Obey.{decided, obeyed}
use Rattle.gauge.specs.Opening.{open_answer, open_refusal, opened}
use Rattle.gauge.specs.Rest.{rest}
use Rattle.gauge.specs.Window.{window}
use Rattle.grains.specs.Leak.{band, leak, leak_rate, rises_up_to, weight}
use Rattle.grains.specs.Learning.{learned}
use Rattle.grains.specs.Rest.{rest_leak}
use Rattle.grains.specs.Run.{drained, run_accepted, unless_passed}
use Rattle.handset.specs.Calls.{convert_bytes, convert_number, open_bytes, open_number}
use Rattle.handset.specs.Keep.{kept_bytes, kept_number}
use Rattle.history.specs.Account.{after_empty_stop, after_full, after_rest, after_rest_window, after_run, after_setting, after_sums, after_voltage, after_window, leak_now}
use Rattle.history.specs.After.{after, gauge_after, number_of}
use Rattle.history.specs.Claim.{begun}
use Rattle.history.specs.Drain.{gains, unless_above}
use Rattle.history.specs.History.{after_call, after_calls, after_command, after_key, after_work, after_write, host_after, started_history}
use Rattle.history.specs.Refused.{refusal_of}
use Rattle.history.specs.Sums.{charge_of}
use Rattle.history.specs.Tests.{counted_current, qualifies, reaches_e1, reaches_edvf, reaches_full, stops_empty}
use Rattle.host.specs.Host.{commanded, commands_cleared, full_if, host_obeyed, init_cleared, opened_host, stored}
use Rattle.lines.specs.Decimal.{decimal, decimal_within}
use Rattle.lines.specs.Line.{joined, line, three, words}
use Rattle.lines.specs.Number.{all_digits, number, ranged, unsigned, value_from}
use Rattle.lines.specs.Put.{place_after, put_at}
use Rattle.lines.specs.Reading as Reading
use Rattle.lines.specs.Reading.{goes_on, read_as, spaced}
use Rattle.lines.specs.Text.{lines_of}
use Rattle.lines.specs.Word.{digit_fed, first_fed, grown, word_fed, word_number}
use Rattle.load.specs.Fields.{bytes_in, charge_from, counters_from, gauge_from, host_from, number_in, sample_from}
use Rattle.load.specs.Load.{accepted_answer, answer_in, carried_standby, decoded_gauge, form_fits, loaded, of_length, read_in, rejected_answer}
use Rattle.load.specs.Look.{look_leaves, look_number}
use Rattle.moves.specs.Key.{decided_put, key_bytes, key_number, obeyed_put}
use Rattle.moves.specs.Place.{host_place}
use Rattle.permille.specs.Rule.{rule}
use Rattle.permille.specs.Table.{in_table, permille}
use Rattle.preview.specs.Preview as Preview
use Rattle.preview.specs.Preview.{command_after, preview_refusal}
use Rattle.reached.specs.ChargeAfter.{charge_after, reached_in, summed}
use Rattle.reached.specs.Ending.{ending_of, may_teach}
use Rattle.reached.specs.Full.{is_full}
use Rattle.reached.specs.Reached.{charge_ended, charge_reached, filled_if, flags_ended, reached_by}
use Rattle.registers.specs.Map.{look_up, register, registers_from, rows}
use Rattle.registers.specs.Reading as Reading'
use Rattle.registers.specs.Reading.{place_refusal, read_refusal}
use Rattle.registers.specs.Times.{artte, stte, tte, ttf}
use Rattle.registers.specs.Values.{fcac, reduction, rsoc, usable_at}
use Rattle.round_trip.specs.RoundTrip.{reloaded_answer}
use Rattle.sample.specs.Current.{charge_current, counted, discharge_current}
use Rattle.sample.specs.Limits.{zero_or_within}
use Rattle.sample.specs.Range.{between, current_in_range, value_between}
use Rattle.sample.specs.Sample.{current_accepted, no_sample, sample_accepted, sample_obeyed, sample_rested}
use Rattle.saved.specs.Call.{call_bytes, call_number}
use Rattle.saved.specs.Put.{charge_put, counters_put, flags_put, headed, host_put, sample_put, standby_put}
use Rattle.saved.specs.Save.{buffer_after, field_bytes, put_after, save_refusal, saved_bytes}
use Rattle.standby.specs.Standby.{averaged, shown, standby_accepted, standby_obeyed}
use Rattle.scripted.proofs.proved_scripts.Goals as goal

pub returns : goal.returns
unfolding ended_at Feed.fed fed_at is_ended last_output last_output_at after_first fed_first first_output names_fed fed_all printed_at printed_from printed_of
    fed_listed line_output lines_printed list_printed printed same_bytes refused_text registers_text text_of answer_output line_answered registers_output
    charge_accepted emptied filled held_moved leaked moved opened_charge run_moved taught without_run charge_obeyed written_lmd written_nac rested
    rested_once leaked_at_once command_of decide decide_by highest_command_bit adcgn dcmp dt minutes offset_term rate_term dcmp_unaged dcomp_taken opened_mode
    settings_accepted counters_accepted counters_moved counters_obeyed counters_rested opened_counters cycles_accepted cycles_moved cyct_after drain_with
    no_cycles bytes_after called_bytes called_number bytes_after_steps calls_of step_bytes distance_after distance_from estimate_after estimate_refusal
    estimated load_answer flags_byte flags_fit flags_of at_edv1 at_edvf at_taught cleared_if flags_obeyed laid_out in_newest widened current_of signed_pair
    accepted key_answer rest_answer stored_at window_answer write_answer write_refusal written decided obeyed open_answer open_refusal opened rest window
    band leak leak_rate rises_up_to weight learned rest_leak drained run_accepted unless_passed convert_bytes convert_number open_bytes open_number kept_bytes
    kept_number after_empty_stop after_full after_rest after_rest_window after_run after_setting after_sums after_voltage after_window leak_now after gauge_after
    number_of begun gains unless_above after_call after_calls after_command after_key after_work after_write host_after started_history refusal_of charge_of
    counted_current qualifies reaches_e1 reaches_edvf reaches_full stops_empty commanded commands_cleared full_if host_obeyed init_cleared opened_host stored
    decimal decimal_within joined line three words all_digits number ranged unsigned value_from place_after put_at Reading.fed goes_on read_as spaced
    lines_of digit_fed first_fed grown word_fed word_number bytes_in charge_from counters_from gauge_from host_from number_in sample_from accepted_answer
    answer_in carried_standby decoded_gauge form_fits loaded of_length read_in rejected_answer look_leaves look_number decided_put key_bytes key_number
    obeyed_put host_place rule in_table permille command_after preview_refusal Preview.reply_after charge_after reached_in summed ending_of may_teach is_full
    charge_ended charge_reached filled_if flags_ended reached_by look_up register registers_from rows place_refusal read_refusal Reading'.reply_after artte
    stte tte ttf fcac reduction rsoc usable_at reloaded_answer charge_current counted discharge_current zero_or_within between current_in_range value_between
    current_accepted no_sample sample_accepted sample_obeyed sample_rested call_bytes call_number charge_put counters_put flags_put headed host_put sample_put
    standby_put buffer_after field_bytes put_after save_refusal saved_bytes averaged shown standby_accepted standby_obeyed
returns c =
    record {
      registers = record {
        bench_discharging_registers = refl;
        bench_discharging_saved = refl;
        bench_discharging_history = refl;
        bench_charging_registers = refl;
        bench_charging_saved = refl;
        bench_charging_history = refl;
        other_discharging_registers = refl;
        other_discharging_saved = refl;
        other_discharging_history = refl;
        other_charging_registers = refl;
        other_charging_saved = refl;
        other_charging_history = refl;
      };
      kept = record {
        kept_discharging_saved = refl;
        kept_discharging_converted = refl;
        kept_discharging_begun = refl;
        kept_charging_saved = refl;
        kept_form_1_saved = refl;
        kept_form_1_converted = refl;
        kept_form_1_begun = refl;
        kept_form_2_saved = refl;
        kept_form_2_converted = refl;
        kept_form_2_begun = refl;
        kept_form_3_saved = refl;
        kept_form_3_converted = refl;
        kept_form_3_begun = refl;
        kept_form_4_saved = refl;
        kept_form_4_converted = refl;
        kept_form_4_begun = refl;
        kept_discharging_registers = refl;
        kept_discharging_history = refl;
        kept_discharging_one_window = refl;
        kept_discharging_one_rest = refl;
        kept_discharging_short_window = refl;
        kept_charging_registers = refl;
        kept_charging_history = refl;
        kept_charging_one_window = refl;
        kept_charging_one_rest = refl;
        kept_charging_short_window = refl;
      };
      events = record {
        every_set_idle = refl;
        every_set_idle_low = refl;
        every_set_charging = refl;
        every_set_charging_low = refl;
        every_set_full_by_sum = refl;
        every_set_full_by_taper = refl;
        every_set_discharging = refl;
        every_set_stopping = refl;
        every_set_at_edvf = refl;
        every_set_above_edvf = refl;
        every_set_at_e1 = refl;
        every_set_light_at_e1 = refl;
        every_set_cold_at_e1 = refl;
        every_set_above_e1 = refl;
        every_set_resting = refl;
        every_set_wrtnac = refl;
        every_set_done = refl;
        every_set_prst = refl;
        every_set_frst = refl;
        every_set_wrtlmd = refl;
        every_set_done_alone = refl;
        every_set_not_carried = refl;
        every_set_stopping_at_e1 = refl;
        none_set_idle = refl;
        none_set_idle_low = refl;
        none_set_charging = refl;
        none_set_charging_low = refl;
        none_set_full_by_sum = refl;
        none_set_full_by_taper = refl;
        none_set_discharging = refl;
        none_set_stopping = refl;
        none_set_at_edvf = refl;
        none_set_above_edvf = refl;
        none_set_at_e1 = refl;
        none_set_light_at_e1 = refl;
        none_set_cold_at_e1 = refl;
        none_set_above_e1 = refl;
        none_set_resting = refl;
        none_set_wrtnac = refl;
        none_set_done = refl;
        none_set_prst = refl;
        none_set_frst = refl;
        none_set_wrtlmd = refl;
        none_set_done_alone = refl;
        none_set_not_carried = refl;
        kept_charging_idle = refl;
        kept_charging_idle_low = refl;
        kept_charging_charging = refl;
        kept_charging_charging_low = refl;
        kept_charging_full_by_sum = refl;
        kept_charging_full_by_taper = refl;
        kept_charging_discharging = refl;
        kept_charging_stopping = refl;
        kept_charging_at_edvf = refl;
        kept_charging_above_edvf = refl;
        kept_charging_at_e1 = refl;
        kept_charging_light_at_e1 = refl;
        kept_charging_cold_at_e1 = refl;
        kept_charging_above_e1 = refl;
        kept_charging_resting = refl;
        kept_charging_wrtnac = refl;
        kept_charging_done = refl;
        kept_charging_prst = refl;
        kept_charging_frst = refl;
        kept_charging_wrtlmd = refl;
        kept_charging_done_alone = refl;
        kept_charging_not_carried = refl;
        every_set_idle_charge = refl;
        every_set_idle_low_charge = refl;
        every_set_charging_charge = refl;
        every_set_charging_low_charge = refl;
        every_set_full_by_sum_charge = refl;
        every_set_full_by_taper_charge = refl;
        every_set_discharging_charge = refl;
        every_set_stopping_charge = refl;
        every_set_at_edvf_charge = refl;
        every_set_above_edvf_charge = refl;
        every_set_at_e1_charge = refl;
        every_set_light_at_e1_charge = refl;
        every_set_cold_at_e1_charge = refl;
        every_set_above_e1_charge = refl;
        every_set_resting_charge = refl;
        every_set_wrtnac_charge = refl;
        every_set_done_charge = refl;
        every_set_prst_charge = refl;
        every_set_frst_charge = refl;
        every_set_wrtlmd_charge = refl;
        every_set_done_alone_charge = refl;
        every_set_not_carried_charge = refl;
        none_set_idle_charge = refl;
        none_set_idle_low_charge = refl;
        none_set_charging_charge = refl;
        none_set_charging_low_charge = refl;
        none_set_full_by_sum_charge = refl;
        none_set_full_by_taper_charge = refl;
        none_set_discharging_charge = refl;
        none_set_stopping_charge = refl;
        none_set_at_edvf_charge = refl;
        none_set_above_edvf_charge = refl;
        none_set_at_e1_charge = refl;
        none_set_light_at_e1_charge = refl;
        none_set_cold_at_e1_charge = refl;
        none_set_above_e1_charge = refl;
        none_set_resting_charge = refl;
        none_set_wrtnac_charge = refl;
        none_set_done_charge = refl;
        none_set_prst_charge = refl;
        none_set_frst_charge = refl;
        none_set_wrtlmd_charge = refl;
        none_set_done_alone_charge = refl;
        none_set_not_carried_charge = refl;
        every_set_stopping_at_e1_charge = refl;
        longest_run_at_e1 = refl;
        longest_run_at_e1_charge = refl;
        longest_run_discharging_charge = refl;
        longest_run_resting = refl;
        longest_run_resting_charge = refl;
        kept_charging_wrtnac_charge = refl;
        kept_charging_wrtlmd_charge = refl;
        kept_discharging_wrtnac_charge = refl;
        kept_discharging_wrtlmd_charge = refl;
        every_set_idle_history = refl;
        every_set_idle_low_history = refl;
        every_set_charging_history = refl;
        every_set_charging_low_history = refl;
        every_set_full_by_sum_history = refl;
        every_set_full_by_taper_history = refl;
        every_set_discharging_history = refl;
        every_set_stopping_history = refl;
        every_set_at_edvf_history = refl;
        every_set_above_edvf_history = refl;
        every_set_at_e1_history = refl;
        every_set_light_at_e1_history = refl;
        every_set_cold_at_e1_history = refl;
        every_set_above_e1_history = refl;
        every_set_resting_history = refl;
        every_set_wrtnac_history = refl;
        every_set_done_history = refl;
        every_set_prst_history = refl;
        every_set_frst_history = refl;
        every_set_wrtlmd_history = refl;
        every_set_done_alone_history = refl;
        every_set_not_carried_history = refl;
        every_set_stopping_at_e1_history = refl;
        none_set_idle_history = refl;
        none_set_charging_history = refl;
        none_set_full_by_sum_history = refl;
        none_set_at_e1_history = refl;
        none_set_stopping_history = refl;
        longest_run_at_e1_history = refl;
        longest_run_resting_history = refl;
        kept_charging_wrtnac_history = refl;
        kept_charging_wrtlmd_history = refl;
        kept_discharging_wrtnac_history = refl;
        kept_discharging_wrtlmd_history = refl;
        one_charged_lem = refl;
        one_charged_charge = refl;
        one_charged_history = refl;
        one_drawn_lem = refl;
        one_drawn_charge = refl;
        one_drawn_history = refl;
        one_at_taper_lem = refl;
        one_at_taper_charge = refl;
        one_at_taper_history = refl;
        one_at_edvf_lem = refl;
        one_at_edvf_charge = refl;
        one_at_edvf_history = refl;
        one_at_e1_lem = refl;
        one_at_e1_charge = refl;
        one_at_e1_history = refl;
      };
      calls = record {
        windows_gauge = refl;
        windows_history = refl;
        windows_called = refl;
        windows_saved = refl;
        windows_kept = refl;
        rests_gauge = refl;
        rests_history = refl;
        rests_called = refl;
        rests_saved = refl;
        rests_kept = refl;
        writes_gauge = refl;
        writes_history = refl;
        writes_called = refl;
        writes_saved = refl;
        writes_kept = refl;
        reads_gauge = refl;
        reads_history = refl;
        reads_called = refl;
        previews_gauge = refl;
        previews_history = refl;
        previews_called = refl;
        previews_saved = refl;
        estimates_gauge = refl;
        estimates_history = refl;
        estimates_called = refl;
        estimates_saved = refl;
        estimates_kept = refl;
      };
      texts = record {
        paper_printed = refl;
        paper_fed = refl;
        paper_parts = refl;
        odd_printed = refl;
        odd_fed = refl;
        odd_parts = refl;
        empty_printed = refl;
        empty_fed = refl;
        empty_parts = refl;
        names_printed = refl;
        names_fed_lem = refl;
        names_parts = refl;
        names_line_printed = refl;
        names_line_fed = refl;
        names_line_parts = refl;
        empty_line_printed = refl;
        empty_line_fed = refl;
        empty_line_parts = refl;
        longer_printed = refl;
        longer_fed = refl;
        longer_parts = refl;
        shorter_printed = refl;
        shorter_fed = refl;
        shorter_parts = refl;
        differing_printed = refl;
        differing_fed = refl;
        differing_parts = refl;
        beside_printed = refl;
        beside_fed = refl;
        beside_parts = refl;
        tabbed_printed = refl;
        tabbed_fed = refl;
        tabbed_parts = refl;
        cut_printed = refl;
        cut_fed = refl;
        cut_parts = refl;
      };
      rules = record {
        number_past = refl;
        bytes_past = refl;
        bytes_none = refl;
        bench_bytes = refl;
        taken = refl;
        taken_high = refl;
        current_0 = refl;
        current_1 = refl;
        drawn_1 = refl;
        below_zero = refl;
        voltage_out = refl;
        temperature_out = refl;
        current_out = refl;
        sum_most = refl;
        sum_stops = refl;
        difference_stops = refl;
        leak_0 = refl;
        leak_22 = refl;
        at_once = refl;
        at_once_passed = refl;
        stop_at = refl;
        stop_above = refl;
        stop_none = refl;
        stop_charging = refl;
        unaged = refl;
        unaged_cold = refl;
        unaged_greatest = refl;
        pair_temp = refl;
        pair_lmd = refl;
        pair_first = refl;
        pair_last = refl;
        pair_bytes_lem = refl;
        pair_high = refl;
        pair_no_third = refl;
        pair_of_none = refl;
        pair_put = refl;
        all_mode = refl;
        all_tcomp = refl;
        stored_discharging = refl;
        stored_charging = refl;
        table = refl;
        table_last = refl;
        table_out = refl;
        rule_3399 = refl;
        rule_past = refl;
        fitting = refl;
        fitting_charging = refl;
        edv1_alone = refl;
        taught_alone = refl;
        prst_alone = refl;
        store_mode = refl;
        store_low = refl;
        store_high = refl;
        no_bit_lem = refl;
        no_command_lem = refl;
        key_0 = refl;
        key_held = refl;
        key_mode = refl;
        key_11 = refl;
        key_9 = refl;
        key_kept = refl;
        window_first_14 = refl;
        rest_first_14 = refl;
        write_first_14 = refl;
        read_first_14 = refl;
      };
      saved = record {
        save_14 = refl;
        save_54 = refl;
        save_56 = refl;
        save_0 = refl;
        buffer_full = refl;
        buffer_54 = refl;
        buffer_14 = refl;
        put_54 = refl;
        put_55 = refl;
        reload_0 = refl;
        reload_14 = refl;
        put_head = refl;
        put_parts = refl;
        put_parts_charging = refl;
        put_standby = refl;
        put_flags = refl;
        put_charge_54 = refl;
        put_standby_56 = refl;
        put_sample_54 = refl;
        put_host_56 = refl;
        put_flags_54 = refl;
        put_counters_56 = refl;
        forms_as = refl;
        expected_1 = refl;
        expected_2 = refl;
        expected_3 = refl;
        expected_4 = refl;
        expected_5 = refl;
        expected_0 = refl;
        told_none = refl;
        form_1_621 = refl;
        form_1_620 = refl;
        carried_0 = refl;
        carried_1 = refl;
        carried_2 = refl;
        decoded_55 = refl;
        decoded_54 = refl;
        newest_4 = refl;
        newest_6 = refl;
        pair_1 = refl;
        pair_32767 = refl;
        pair_32768 = refl;
        pair_65535 = refl;
        rejected_ten = refl;
        rejected_14 = refl;
        rejected_bytes = refl;
        names_in_order = refl;
        names_apart = refl;
        place_none = refl;
        width_none = refl;
        in_newest_lem = refl;
        places_apart = refl;
      };
      handed = record {
        open_1 = refl;
        open_2 = refl;
        open_13 = refl;
        open_0 = refl;
        open_kept = refl;
        open_refused = refl;
        convert_14 = refl;
        convert_13 = refl;
        convert_0 = refl;
        convert_kept = refl;
        convert_14_kept = refl;
        window_14 = refl;
        window_4 = refl;
        call_14 = refl;
        look_14 = refl;
        window_14_kept = refl;
        window_4_kept = refl;
        kept_13 = refl;
        kept_4 = refl;
        kept_4_bytes = refl;
        kept_0_bytes = refl;
        place_mode = refl;
        place_ar_low = refl;
        place_ar_high = refl;
        key_0 = refl;
        key_8 = refl;
        key_10 = refl;
        key_9 = refl;
        key_done = refl;
        key_kept = refl;
        key_reset = refl;
        charging_5 = refl;
        discharging_5 = refl;
        key_11 = refl;
        read_0 = refl;
        read_12 = refl;
        read_13 = refl;
        read_14 = refl;
        read_reply_lem = refl;
        read_kept = refl;
        read_14_kept = refl;
        preview_0 = refl;
        preview_13 = refl;
        preview_14 = refl;
        preview_command_lem = refl;
        preview_command_kept = refl;
        preview_command_14 = refl;
        preview_mode = refl;
        preview_nac = refl;
        preview_kept = refl;
        preview_14_kept = refl;
        estimate_0 = refl;
        estimate_15 = refl;
        estimate_16 = refl;
        estimate_14 = refl;
        estimate_counts_lem = refl;
        estimate_kept = refl;
        estimate_14_kept = refl;
        distance = refl;
        distance_kept = refl;
        distance_14 = refl;
        steps_calls = refl;
        steps_count = refl;
        steps_rejected = refl;
        steps_older = refl;
      };
      history = record {
        store_mode_history = refl;
        store_low_history = refl;
        store_high_history = refl;
        store_low_history_high = refl;
        full_taper = refl;
        full_low = refl;
        full_heavy = refl;
        full_sum = refl;
        full_short = refl;
        empty_at = refl;
        empty_above = refl;
        empty_idle = refl;
        qualifies_1112 = refl;
        qualifies_1111 = refl;
        run_longest = refl;
        run_passed = refl;
        run_charged = refl;
        rests_counted = refl;
        rests_stop = refl;
        cycles_counted = refl;
        cycles_stop = refl;
        run_of_lem = refl;
        run_of_none = refl;
        run_at_lem = refl;
        run_at_none = refl;
        part_of_learned_lem = refl;
        counts_held_lem = refl;
      };
      bench = record {
        shown_14 = refl;
        shown_22 = refl;
        refused_0 = refl;
        refused_17 = refl;
        put_last = refl;
        put_past = refl;
        place_last = refl;
        place_past = refl;
        grown_past = refl;
        names_first = refl;
        names_more = refl;
        names_zero = refl;
        ended_start = refl;
        ended_listed = refl;
        ended_other = refl;
      };
    }
