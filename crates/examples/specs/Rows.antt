-- Rules of paper 01 that none of its own examples pins, each row worked out by hand from the paper. Definitions only; assumes nothing.
use Rattle.std.specs.Prelude.{true, false, ◌≡◌, ℕ, pos, set}
use Rattle.command.specs.Command.{decide, decision_number}
use Rattle.command.specs.declared.command.Command.TheVariants.{Setting, Reset}
use Rattle.std.specs.Prelude.{Ok}
use Rattle.command.specs.declared.command.Reset.TheVariants.{Prst, Frst}
use Rattle.command.specs.declared.command.Setting.TheVariants.{Done, Wrtlmd}
use Rattle.compensation.specs.Compensation.{dcmp, dt, minutes}
use Rattle.configuration.specs.Settings.{opened_settings}
use Rattle.configuration.specs.Configuration.{dcgn, dcoff, e1, opened_mode}
use Rattle.configuration.specs.BenchPack.{bench_pack}
use Rattle.grains.specs.Grains.{grains_of_counts}
use Rattle.grains.specs.Leak.{leak, weight}
use Rattle.grains.specs.Learning.{learned}
use Rattle.grains.specs.Run.{no_run, unless_passed}
use Rattle.host.specs.Host.{commands_cleared, init_cleared}
use Rattle.reached.specs.Ending.{ending_of}
use Rattle.reached.specs.Full.{is_full}
use Rattle.reached.specs.declared.ending.Ending.TheVariants.{Above, Edvf, Edv1, Qualified}
use Rattle.registers.specs.Values.{fcac, flags}
use Rattle.registers.specs.Times.{artte, stte, tte, ttf}
use Rattle.standby.specs.Standby.{averaged}
use Rattle.sample.specs.declared.current.Current.{Current}
use Rattle.examples.specs.Bench.{after_sample, bench_terms, line_two, line_three, with_ar}

abbrev charging : ℕ → Current
charging n = record { charging = true; magnitude = n }

pub record Rows : Type 0 where
  -- E1: SEDV1 0x60 gives 8 × (96 + 256) = 2,816, and EDVF + 32 is 2,832
  pub e1_margin : e1 (opened_settings (set bench_pack 2 0x60)) ≡ 2_832
  -- 0x6C taken with PKCFG 0x02: 108 is 13 × 8 + 4; not taken, 0xFF is 31 × 8 + 7
  pub dcgn_taken : dcgn (opened_settings (set (set bench_pack 6 0x02) 8 0xFF)) ≡ 13
  pub dcoff_taken : dcoff (opened_settings (set (set bench_pack 6 0x02) 8 0xFF)) ≡ 4
  pub dcgn_own : dcgn (opened_settings (set bench_pack 8 0xFF)) ≡ 31
  pub dcoff_own : dcoff (opened_settings (set bench_pack 8 0xFF)) ≡ 7
  -- dt: TCOMP 0x15 is TCGN 2, TOFF 5, so the threshold is 4 × 278 = 1,112
  pub dt_cold : dt (opened_settings bench_pack) 1_012 ≡ 100
  pub dt_warm : dt (opened_settings bench_pack) 1_112 ≡ 0
  pub dt_unmeasured : dt (opened_settings bench_pack) 0 ≡ 0
  -- DCMP(3,000) at 1,012: 3,000 × 13 × (128 + 2 × 100) = 12,792,000, less 4,096 × 13 × 4 × 4 = 851,968, is 364.4 × 32,768
  pub dcmp_cold : dcmp (opened_settings bench_pack) 3_000 1_012 0 ≡ 365
  -- a run one quarter kelvin below the threshold does not qualify
  pub cold_1111 : ending_of bench_terms true 21 3_000 1_111 ≡ Edv1
  pub cold_1112 : ending_of bench_terms true 21 3_000 1_112 ≡ Qualified
  -- EDVF is 2,800: at it, and one above
  pub edvf_2800 : ending_of bench_terms true 21 2_800 1_192 ≡ Edvf
  pub edvf_2801 : ending_of bench_terms false 21 2_801 1_192 ≡ Edv1
  pub no_discharge : ending_of bench_terms true 0 2_600 1_192 ≡ Above
  -- passing: 65,535 × 135,000,000 = 8,847,225,000,000 stays, one more ends the run
  pub drain_most : unless_passed (record { vdq = true; dcr = 8_847_225_000_000 }) ≡ record { vdq = true; dcr = 8_847_225_000_000 }
  pub drain_passed : unless_passed (record { vdq = true; dcr = 8_847_225_000_001 }) ≡ no_run
  -- step 5 with S0 10: floor(15 × 20 / 16) + 4 = 22, floor(15 × 4 / 16) + 20 = 23; a load of 20 counts, one of 21 does not, no load does not
  pub average_4 : averaged 10 20 4 ≡ 22
  pub average_20 : averaged 10 4 20 ≡ 23
  pub average_21 : averaged 10 4 21 ≡ 4
  pub average_0 : averaged 10 4 0 ≡ 4
  -- the leak of 3 counts and a grain at a rate of 8
  pub leak_24 : leak 405_000_001 8 ≡ 24
  -- each band, at its edges
  pub band_1091 : weight 1_091 ≡ 1
  pub band_1092 : weight 1_092 ≡ 2
  pub band_1131 : weight 1_131 ≡ 2
  pub band_1132 : weight 1_132 ≡ 4
  pub band_1211 : weight 1_211 ≡ 8
  pub band_1212 : weight 1_212 ≡ 16
  pub band_1251 : weight 1_251 ≡ 16
  pub band_1252 : weight 1_252 ≡ 32
  pub band_1291 : weight 1_291 ≡ 32
  pub band_1292 : weight 1_292 ≡ 64
  pub band_1331 : weight 1_331 ≡ 64
  pub band_1332 : weight 1_332 ≡ 128
  -- the learn limit: 16 × 65,535 / 15 = 69,904 stops at 65,535; 800 − 100 is the least that 800 becomes
  pub learned_most : learned 60_000 (grains_of_counts 65_535) ≡ 65_535
  pub learned_least : learned 800 0 ≡ 700
  -- 1,023 − floor(1,023 / 8) = 1,023 − 127; a drain of 840 counts is 896 counts of capacity, one grain less 895, and 841 counts are 897
  pub learned_896 : learned 1_023 0 ≡ 896
  pub learned_at : learned 1_023 (grains_of_counts 840) ≡ 896
  pub learned_above : learned 1_023 (grains_of_counts 841) ≡ 897
  pub learned_floor : learned 1_000 113_399_999_999 ≡ 895
  -- full by the sum: 1,024 × 135,000,000 = 138,240,000,000, with a current above taper
  pub full_short : is_full bench_terms (charging 33) 4_100 138_239_999_999 1_024 ≡ false
  pub full_sum : is_full bench_terms (charging 33) 3_700 138_240_000_000 1_024 ≡ true
  -- full by taper: TAPER 0x10, so up to 32 units from 4,100 mV on
  pub full_taper : is_full bench_terms (charging 32) 4_100 0 1_024 ≡ true
  pub full_low : is_full bench_terms (charging 32) 4_099 0 1_024 ≡ false
  pub full_drawn : is_full bench_terms (record { charging = false; magnitude = 0 }) 4_100 138_240_000_000 1_024 ≡ false
  -- after line three 28,011 units charge 5,378,112,000 grains, past LMD × G: full, with CHGS, CI and VDQ
  pub full_held : (after_sample line_three (pos 28_011) (pos 3_700) (pos 1_192)).charge.held ≡ 138_240_000_000
  pub full_flags : flags (after_sample line_three (pos 28_011) (pos 3_700) (pos 1_192)) ≡ 148
  -- FCAC after line three: 1,024 − 127
  pub fcac_897 : fcac line_three ≡ 897
  -- TTF, 100 units charging at NAC 1,019: 90 × 5 / 100; with the wrong sign 65,535
  pub ttf_4 : ttf (after_sample line_three (pos 100) (pos 3_700) (pos 1_192)) ≡ 4
  pub ttf_drawn : ttf line_three ≡ 65_535
  pub tte_charging : tte line_two ≡ 65_535
  -- STTE after line three: 60 × 1,019 / 10
  pub stte_6114 : stte line_three ≡ 6_114
  -- ARTTE: AR 3,000 as 0xB8, 0x0B: 60 × (1,019 − 127) / 3,000; AR 300 compensates 0: 60 × 1,019 / 300; AR 0: 65,535
  pub artte_3000 : artte (with_ar 0xB8 0x0B line_three) ≡ 17
  pub artte_300 : artte (with_ar 0x2C 0x01 line_three) ≡ 203
  pub artte_0 : artte line_three ≡ 65_535
  -- a time of 65,535 minutes, of more and of less
  pub minutes_65535 : minutes 131_070 2 ≡ 65_535
  pub minutes_65536 : minutes 131_072 2 ≡ 65_535
  pub minutes_65534 : minutes 131_069 2 ≡ 65_534
  -- keys: 0x56 obeys WRTLMD with bit 0 alone; 0xA9 obeys the highest of 4, 3 and 1
  pub key_56 : decide 0x56 0x01 1 ≡ Ok (Setting Wrtlmd)
  pub key_56_higher : decision_number (decide 0x56 0x03 1) ≡ 10
  pub key_56_none : decision_number (decide 0x56 0x44 1) ≡ 9
  pub key_done : decide 0xA9 0x1B 0 ≡ Ok (Setting Done)
  pub key_prst : decide 0xA9 0x0B 0 ≡ Ok (Reset Prst)
  pub key_frst : decide 0xA9 0x03 0 ≡ Ok (Reset Frst)
  -- MODE's bits: PKCFG bit 7 and bits 6 and 2 as opened; the command bits 5, 4, 3, 1, 0 cleared; INIT, bit 2, cleared
  pub mode_opened : opened_mode (opened_settings (set bench_pack 6 0xFF)) ≡ 0xC4
  pub mode_opened_0 : opened_mode (opened_settings bench_pack) ≡ 0x44
  pub mode_commands : commands_cleared 0xFF ≡ 0xC4
  pub mode_init : init_cleared 0xFF ≡ 0xFB
