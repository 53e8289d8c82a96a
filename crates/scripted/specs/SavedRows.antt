-- What saving and loading are put together from: the parts of the bytes, the form that a first byte tells, older bytes in the places of the
-- newest. Each number by hand, from the papers and from the bytes of `Packs`. Definitions only; assumes nothing.
use Rattle.std.specs.Prelude.{Bool, true, false, ◌&&◌, List, [], ◌∷◌, ◌++◌, ◌≡◌, ℕ, zero, suc, ◌+◌, ◌*◌, eqb, map, replicate, set, take}
use Rattle.configuration.specs.Settings.{opened_settings}
use Rattle.drive.specs.OlderForms.{counters_of, gauge_of41}
use Rattle.every_form.specs.EveryForm.{expected_by, form_as, load_answer}
use Rattle.every_form.specs.declared.every_form.SavedForm.TheVariants.{One, Two, Three, Four, Newest}
use Rattle.form.specs.Form.{Dcr, Field, Held, Rests, form1, form4, form_of, name_number, newest, of_number, place_of, same_name, width_of}
use Rattle.form.specs.InNewest.{in_newest}
use Rattle.form.specs.Signed as Pair
use Rattle.gauge.specs.declared.state.Gauge.{Gauge}
use Rattle.load.specs.Load.{answer_in, carried_standby, decoded_gauge, rejected_answer}
use Rattle.round_trip.specs.RoundTrip.{reloaded_answer}
use Rattle.saved.specs.Put.{charge_put, counters_put, flags_put, headed, host_put, parts_put, sample_put, standby_put}
use Rattle.saved.specs.Save.{buffer_after, put_after, save_refusal, saved_bytes}
use Rattle.scripted.specs.KeptRows.{form4_saved}
use Rattle.scripted.specs.Packs.{bench, every_set, kept_charging, kept_discharging, kept_form1, kept_form4}
use Rattle.scripted.specs.Script.{started}

-- a gauge value that 14 refuses: the opened one of ten bytes 0
abbrev refused : Gauge
refused = rejected_answer.gauge

-- the parts of a gauge put among zeros, in the order of the code
abbrev put_together : Gauge → List ℕ
put_together g = parts_put g (headed g.settings)

-- whether fields have their names' numbers from one on
abbrev in_order : ℕ → List Field → Bool
in_order k [] = true
in_order k (f ∷ fs) = eqb (name_number f.name) k && in_order (suc k) fs

-- so many bytes, each three more than the one before it
abbrev spread : ℕ → List ℕ
spread zero = []
spread (suc k) = spread k ++ (3 * k + 1) ∷ []

pub record SavedRows : Type 0 where
  -- saving: 14, then 13
  pub save_14 : save_refusal refused 54 ≡ 14
  pub save_54 : save_refusal (started every_set) 54 ≡ 13
  pub save_56 : save_refusal (started every_set) 56 ≡ 13
  pub save_0 : save_refusal (started every_set) 55 ≡ 0
  pub buffer_full : buffer_after (started every_set) (replicate 55 7) ≡ every_set
  pub buffer_54 : buffer_after (started every_set) (replicate 54 7) ≡ replicate 54 7
  pub buffer_14 : buffer_after refused (replicate 55 7) ≡ replicate 55 7
  pub put_54 : put_after (started every_set) (replicate 54 7) ≡ replicate 54 7
  pub put_55 : put_after (started every_set) (replicate 55 7) ≡ every_set
  pub reload_0 : (reloaded_answer (started every_set)).number ≡ 0
  pub reload_14 : (reloaded_answer refused).number ≡ 14
  pub put_head : headed (opened_settings bench) ≡ 5 ∷ (bench ++ replicate 44 0)
  pub put_parts : put_together (started kept_discharging) ≡ kept_discharging
  pub put_parts_charging : put_together (started kept_charging) ≡ kept_charging
  -- a part put where it stands, over bytes that keep; SI at 29, FLAGS at 40
  pub put_standby : standby_put 0x1234 kept_charging ≡ set (set kept_charging 29 0x34) 30 0x12
  pub put_flags : flags_put false true (started kept_charging).flags kept_charging ≡ set kept_charging 40 0x15
  pub put_charge_54 : charge_put (started kept_charging).charge (replicate 54 7) ≡ replicate 54 7
  pub put_standby_56 : standby_put 0x1234 (replicate 56 7) ≡ replicate 56 7
  pub put_sample_54 : sample_put (started kept_charging).sample (replicate 54 7) ≡ replicate 54 7
  pub put_host_56 : host_put (started kept_charging).host (replicate 56 7) ≡ replicate 56 7
  pub put_flags_54 : flags_put false true (started kept_charging).flags (replicate 54 7) ≡ replicate 54 7
  pub put_counters_56 : counters_put (started kept_charging).counters (replicate 56 7) ≡ replicate 56 7
  -- loading: the form that a first byte tells, SI of form 1 with S0 310, bytes of another length
  pub forms_as : map (λ f. (form_as f).number) (One ∷ Two ∷ Three ∷ Four ∷ Newest ∷ []) ≡ 1 ∷ 2 ∷ 3 ∷ 4 ∷ 5 ∷ []
  pub expected_1 : expected_by 1 ≡ record { number = 1; length = 41 }
  pub expected_2 : expected_by 2 ≡ record { number = 2; length = 41 }
  pub expected_3 : expected_by 3 ≡ record { number = 3; length = 43 }
  pub expected_4 : expected_by 4 ≡ record { number = 4; length = 53 }
  pub expected_5 : expected_by 5 ≡ record { number = 5; length = 55 }
  pub expected_0 : expected_by 0 ≡ record { number = 5; length = 55 }
  pub told_none : (form_of []).number ≡ 5
  pub form_1_621 : (load_answer (set (set kept_form1 29 0x6D) 30 0x02)).number ≡ 14
  pub form_1_620 : (load_answer (set (set kept_form1 29 0x6C) 30 0x02)).number ≡ 0
  pub carried_0 : carried_standby 0 620 ≡ 620
  pub carried_1 : carried_standby 1 620 ≡ 9_920
  pub carried_2 : carried_standby 2 620 ≡ 620
  pub decoded_55 : saved_bytes (decoded_gauge kept_discharging) ≡ kept_discharging
  pub decoded_54 : saved_bytes (decoded_gauge (take 54 kept_discharging)) ≡ 5 ∷ replicate 54 0
  -- 55 bytes that say form 4 or form 6
  pub newest_4 : (answer_in newest (set every_set 0 4)).number ≡ 14
  pub newest_6 : (answer_in newest (set every_set 0 6)).number ≡ 14
  -- two bytes as a current: 1, the greatest, the least and −1
  pub pair_1 : Pair.current_of 1 ≡ record { charging = true; magnitude = 1 }
  pub pair_32767 : Pair.current_of 32_767 ≡ record { charging = true; magnitude = 32_767 }
  pub pair_32768 : Pair.current_of 32_768 ≡ record { charging = false; magnitude = 32_768 }
  pub pair_65535 : Pair.current_of 65_535 ≡ record { charging = false; magnitude = 1 }
  pub rejected_ten : refused.settings.bytes ≡ replicate 10 0
  pub rejected_14 : rejected_answer.number ≡ 14
  pub rejected_bytes : saved_bytes refused ≡ 5 ∷ (replicate 38 0 ++ (0x44 ∷ 0x10 ∷ replicate 14 0))
  -- names are numbered in the order of the newest form
  pub names_in_order : in_order 0 newest.fields ≡ true
  pub names_apart : same_name (of_number Held) (of_number Dcr) ≡ false
  -- a field that the form has not stands behind all others, without a byte
  pub place_none : place_of (of_number Rests) form1.fields ≡ 41
  pub width_none : width_of (of_number Rests) form1.fields ≡ 0
  -- form 4 in the places of form 5: two bytes 0 behind its count
  pub in_newest_lem : in_newest form4 kept_form4 ≡ set form4_saved 0 4
  -- the places of the first 41 bytes, of bytes that differ at each place: 3 × place + 1
  pub places_apart : gauge_of41 (spread 55) 7 (counters_of 8 9 10)
      ≡ record {
        settings = opened_settings (4 ∷ 7 ∷ 10 ∷ 13 ∷ 16 ∷ 19 ∷ 22 ∷ 25 ∷ 28 ∷ 31 ∷ []);
        charge = record { held = 0x3734_312E_2B28_2522; lmd = 0x5552; run = record { vdq = false; dcr = 0x4F4C_4946_4340_3D3A } };
        sample = record { current = record { charging = true; magnitude = 0x615E }; voltage = 0x6764; temperature = 0x6D6A };
        standby = 7;
        flags = record { ci = true; edv1 = false; edvf = true };
        host = record { mode = 0x76; ar = 0x7370 };
        counters = record { rests = 8; cycles = record { cyct = 9; drain = 10 } };
      }
