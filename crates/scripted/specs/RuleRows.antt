-- Rules where no drive shows them: bytes past the end of a list, values that no gauge has, and limits of rules that only a part of the gauge
-- sees. Each number by hand, from the papers and from the bytes of `Packs`. Definitions only; assumes nothing.
use Rattle.std.specs.Prelude.{Bool, true, false, cond, List, [], ◌∷◌, ◌++◌, ◌≡◌, ℕ, zero, suc, ◌+◌, ◌-◌, ◌*◌, pos, negsuc, drop, replicate, set, take}
use Rattle.charge.specs.Charge.{empty_stop}
use Rattle.charge.specs.Step.{leaked_at_once}
use Rattle.charge.specs.declared.charge.Charge.{Charge}
use Rattle.command.specs.Command.{command_of, highest_command_bit}
use Rattle.command.specs.declared.command.Command.TheVariants.{Reset}
use Rattle.refusals.specs.declared.Refusal.TheVariants.{NoCommandBit}
use Rattle.std.specs.Prelude.{Err}
use Rattle.command.specs.declared.command.Reset.TheVariants.{Prst}
use Rattle.compensation.specs.Unaged.{dcmp_unaged}
use Rattle.configuration.specs.Settings.{opened_settings}
use Rattle.configuration.specs.declared.settings.Settings.{Settings}
use Rattle.configuration.specs.BenchPack.{bench_pack}
use Rattle.configuration.specs.Configuration.{dcomp, dcomp_taken, dmfsd, id3, ilmd, islc, pkcfg, sedv1, sedvf, taper, tcomp}
use Rattle.flags.specs.Byte.{flags_fit}
use Rattle.flags.specs.Flags.{at_edv1, at_taught, flags_obeyed}
use Rattle.gauge.specs.Calls.{key_answer, rest_answer, window_answer, write_answer}
use Rattle.gauge.specs.declared.state.Gauge.{Gauge}
use Rattle.grains.specs.Grains.{saturating_difference, saturating_sum}
use Rattle.grains.specs.Rest.{rest_leak}
use Rattle.host.specs.Host.{stored}
use Rattle.load.specs.Load.{rejected_answer}
use Rattle.looks.specs.Put.{computed, configured, copied}
use Rattle.numbers.specs.Little.{bytes_at, number_at}
use Rattle.numbers.specs.Signed.{at_least_zero}
use Rattle.permille.specs.Rule.{rule}
use Rattle.permille.specs.Table.{entries, entry_voltage, permille}
use Rattle.registers.specs.Map.{configuration_pair, pair_at}
use Rattle.registers.specs.Reading.{pair_bytes, read_refusal}
use Rattle.registers.specs.Whole.{whole_map, with_pair}
use Rattle.sample.specs.Current.{no_current}
use Rattle.sample.specs.Range.{current, current_of, temperature, voltage}
use Rattle.saved.specs.Save.{saved_bytes}
use Rattle.scripted.specs.Packs.{bench, every_set, kept_charging, kept_discharging, none_set}
use Rattle.scripted.specs.Script.{started}

-- the ten getters, of any bytes
abbrev ten_of : Settings → List ℕ
ten_of s = ilmd s ∷ sedvf s ∷ sedv1 s ∷ islc s ∷ dmfsd s ∷ taper s ∷ pkcfg s ∷ id3 s ∷ dcomp s ∷ tcomp s ∷ []

-- the DCOMP that is taken of a pack with DCOMP 0x55
abbrev taken_with : ℕ → ℕ
taken_with pkcfg = dcomp_taken (opened_settings (set (set bench_pack 6 pkcfg) 8 0x55))

-- 3 counts and 17 grains, in a run
abbrev three_counts : Charge
three_counts = record { held = 405_000_017; lmd = 1_024; run = record { vdq = true; dcr = 5 } }

-- the whole map as it is stored, in three parts over zeros
abbrev stored_map : Gauge → List ℕ
stored_map g = configured g.settings (copied g (computed g (replicate 128 0)))

-- a gauge value that 14 refuses: the opened one of ten bytes 0
abbrev refused : Gauge
refused = rejected_answer.gauge

-- the bytes below a number that pass a test, in order
abbrev passing : (ℕ → Bool) → ℕ → List ℕ
passing test zero = []
passing test (suc k) = passing test k ++ cond (test k) (k ∷ []) []

-- the entries below a number, each times its place counted from 1
abbrev entries_sum : ℕ → ℕ
entries_sum zero = 0
entries_sum (suc k) = entries_sum k + suc k * permille (pos (entry_voltage k))

pub record RuleRows : Type 0 where
  -- "a byte past the list's end is 0"
  pub number_past : number_at 2 1 (7 ∷ 8 ∷ []) ≡ 8
  pub bytes_past : bytes_at 3 1 (7 ∷ 8 ∷ []) ≡ 8 ∷ 0 ∷ 0 ∷ []
  pub bytes_none : ten_of (opened_settings []) ≡ replicate 10 0
  pub bench_bytes : bench_pack ≡ bench
  -- 0x6C is taken with bit 1 of PKCFG alone: 0x01, 0x02, 0x04 and so on to 0x80
  pub taken : taken_with 0x01 ∷ taken_with 0x02 ∷ taken_with 0x04 ∷ taken_with 0x08 ∷ [] ≡ 0x55 ∷ 0x6C ∷ 0x55 ∷ 0x55 ∷ []
  pub taken_high : taken_with 0x10 ∷ taken_with 0x20 ∷ taken_with 0x40 ∷ taken_with 0x80 ∷ [] ≡ 0x55 ∷ 0x55 ∷ 0x55 ∷ 0x55 ∷ []
  -- 0, 1 and −1 by direction and magnitude
  pub current_0 : current_of (pos 0) ≡ record { charging = false; magnitude = 0 }
  pub current_1 : current_of (pos 1) ≡ record { charging = true; magnitude = 1 }
  pub drawn_1 : current_of (negsuc 0) ≡ record { charging = false; magnitude = 1 }
  -- below 0; out of range
  pub below_zero : at_least_zero (negsuc 4) ≡ 0
  pub voltage_out : voltage (pos 4_501) ≡ 0
  pub temperature_out : temperature (pos 1_011) ≡ 0
  pub current_out : current (pos 28_012) ≡ no_current
  -- 2^64 − 1 = 18,446,744,073,709,551,615, where a sum stops; a difference stops at 0
  pub sum_most : saturating_sum 18_446_744_073_709_551_614 1 ≡ 18_446_744_073_709_551_615
  pub sum_stops : saturating_sum 18_446_744_073_709_551_615 1 ≡ 18_446_744_073_709_551_615
  pub difference_stops : saturating_difference 3 5 ≡ 0
  -- 3 counts and 17 grains at rate 2: 6, 6, 6, and 4 of the 2 counts that are left
  pub leak_0 : rest_leak 0 2 405_000_017 ≡ 0
  pub leak_22 : rest_leak 4 2 405_000_017 ≡ 22
  pub at_once : leaked_at_once 18 three_counts ≡ record { held = 404_999_999; lmd = 1_024; run = record { vdq = true; dcr = 23 } }
  pub at_once_passed : leaked_at_once 8_847_225_000_000 three_counts ≡ record { held = 0; lmd = 1_024; run = record { vdq = false; dcr = 0 } }
  -- an empty stop: a unit draws 192,000 grains; no current and a charging one never stop
  pub stop_at : empty_stop (current_of (negsuc 0)) 192_000 ≡ true
  pub stop_above : empty_stop (current_of (negsuc 0)) 192_001 ≡ false
  pub stop_none : empty_stop no_current 0 ≡ false
  pub stop_charging : empty_stop (current_of (pos 1)) 0 ≡ false
  -- paper 01's compensation, at 1,192 and in the cold at 1,012
  pub unaged : dcmp_unaged (opened_settings bench_pack) 3_000 1_192 ≡ 127
  pub unaged_cold : dcmp_unaged (opened_settings bench_pack) 3_000 1_012 ≡ 365
  -- the greatest current, DCGN, DCOFF, ILMD and TCGN, TOFF 7, at 1,012: 65,535 × 31 × (128 + 31 × 108) = 7,061,789,460, less 4,096 × 31 × 7 × 255 =
  -- 226,652,160, is 208,591.8 × 32,768
  pub unaged_greatest : dcmp_unaged (opened_settings (set (set (set bench_pack 0 0xFF) 8 0xFF) 9 0xFF)) 65_535 1_012 ≡ 208_592
  -- the registers in pairs: TEMP 1,101, LMD 0xA12D; 0x76 and 0x77, 0x7E and 0x7F
  pub pair_temp : pair_at (started kept_discharging) 3 ≡ 1_101
  pub pair_lmd : pair_at (started kept_discharging) 7 ≡ 0xA12D
  pub pair_first : configuration_pair (opened_settings bench_pack) 0 ≡ 0x5E04
  pub pair_last : configuration_pair (opened_settings bench_pack) 4 ≡ 0x156C
  pub pair_bytes_lem : pair_bytes 0x1234 0 2 ≡ 0x34 ∷ 0x12 ∷ []
  pub pair_high : pair_bytes 0x1234 1 1 ≡ 0x12 ∷ []
  pub pair_no_third : pair_bytes 0x1234 0 3 ≡ 0x34 ∷ 0x12 ∷ []
  pub pair_of_none : configuration_pair (opened_settings []) 0 ≡ 0
  pub pair_put : with_pair 1 0x1234 (replicate 4 7) ≡ 7 ∷ 0x34 ∷ 0x12 ∷ 7 ∷ []
  pub all_mode : take 2 (whole_map (started kept_discharging)) ≡ 0x00 ∷ 0xDA ∷ []
  pub all_tcomp : drop 127 (whole_map (started kept_charging)) ≡ 0x15 ∷ []
  -- stored part by part it is the map whose 128 numbers `KeptRows` has
  pub stored_discharging : stored_map (started kept_discharging) ≡ whole_map (started kept_discharging)
  pub stored_charging : stored_map (started kept_charging) ≡ whole_map (started kept_charging)
  -- the 301 entries, worked out in whole numbers from the nine points; the rule beside an entry and past the table
  pub table : entries_sum 301 ≡ 24_732_285
  pub table_last : entry_voltage (entries - 1) ≡ 4_200
  pub table_out : permille (pos 4_201) ≡ 0
  pub rule_3399 : rule 3_399 ≡ 39
  pub rule_past : rule 4_300 ≡ 1_000
  -- the FLAGS that fit c ≤ 0 and c > 0: bits 4, 2, 1 and 0 in any way, bit 7 with c > 0 alone
  pub fitting : passing (λ b. flags_fit b false) 256 ≡ 0 ∷ 1 ∷ 2 ∷ 3 ∷ 4 ∷ 5 ∷ 6 ∷ 7 ∷ 16 ∷ 17 ∷ 18 ∷ 19 ∷ 20 ∷ 21 ∷ 22 ∷ 23 ∷ []
  pub fitting_charging : passing (λ b. flags_fit b true) 256
      ≡ 128 ∷ 129 ∷ 130 ∷ 131 ∷ 132 ∷ 133 ∷ 134 ∷ 135 ∷ 144 ∷ 145 ∷ 146 ∷ 147 ∷ 148 ∷ 149 ∷ 150 ∷ 151 ∷ []
  -- from CI alone
  pub edv1_alone : at_edv1 (record { ci = true; edv1 = false; edvf = false }) ≡ record { ci = true; edv1 = true; edvf = false }
  pub taught_alone : at_taught (record { ci = true; edv1 = false; edvf = false }) ≡ record { ci = false; edv1 = true; edvf = false }
  pub prst_alone : flags_obeyed (Reset Prst) (record { ci = true; edv1 = false; edvf = false }) ≡ record { ci = true; edv1 = false; edvf = false }
  -- MODE, AR's low byte and its high one, each beside the others
  pub store_mode : stored 1 0x55 (record { mode = 0xDA; ar = 0x1278 }) ≡ record { mode = 0x55; ar = 0x1278 }
  pub store_low : stored 2 0x34 (record { mode = 0xDA; ar = 0x1278 }) ≡ record { mode = 0xDA; ar = 0x1234 }
  pub store_high : stored 3 0x56 (record { mode = 0xDA; ar = 0x1278 }) ≡ record { mode = 0xDA; ar = 0x5678 }
  -- no command bit, and no command
  pub no_bit_lem : highest_command_bit 0xC4 ≡ 8
  pub no_command_lem : command_of (Err NoCommandBit) ≡ 0
  -- a key at CTRL of an accepted gauge: MODE 0xFF obeys WRTNAC of AR 700; MODE 0x00 is 9
  pub key_0 : (key_answer (started every_set) 0xA9).number ≡ 0
  pub key_held : (key_answer (started every_set) 0xA9).gauge.charge.held ≡ 94_500_000_000
  -- MODE 0x6B obeys WRTNAC, which ends a run; AR's low byte 0xD7 would be DONE
  pub key_mode : (key_answer (started kept_charging) 0xA9).gauge.charge.run.vdq ≡ false
  -- WRTLMD with AR 0
  pub key_11 : (key_answer (started (set (set (set every_set 37 0) 38 0) 39 0x01)) 0x56).number ≡ 11
  pub key_9 : (key_answer (started none_set) 0xA9).number ≡ 9
  pub key_kept : saved_bytes (key_answer (started none_set) 0xA9).gauge ≡ none_set
  -- of a gauge value: 14 before 3, 6, 7 and 12
  pub window_first_14 : (window_answer refused (pos 28_012) (pos 2_599) (pos 1_011)).number ≡ 14
  pub rest_first_14 : (rest_answer refused 0 (pos 1_011)).number ≡ 14
  pub write_first_14 : (write_answer refused 0x04 0xA9).number ≡ 14
  pub read_first_14 : read_refusal refused 0x7F 2 7 8 ≡ 14
