-- A5 of paper 02, "Cells grow old": each row worked out by hand from the papers. Definitions only; assumes nothing.
use Rattle.std.specs.Prelude.{List, ◌≡◌, ℕ, zero, suc, pos, negsuc, set}
use Rattle.compensation.specs.Compensation.{ceiling_of, dcmp, offset_term, rate_term}
use Rattle.configuration.specs.Settings.{opened_settings}
use Rattle.configuration.specs.BenchPack.{bench_pack}
use Rattle.counters.specs.Cycles.{cycles_moved, no_cycles}
use Rattle.counters.specs.declared.cycles.Cycles.{Cycles}
use Rattle.gauge.specs.Opening.{open_answer}
use Rattle.gauge.specs.declared.state.Gauge.{Gauge}
use Rattle.registers.specs.Map.{register}
use Rattle.registers.specs.Times.{artte, tte}
use Rattle.registers.specs.Values.{cac, fcac}
use Rattle.sample.specs.Range.{current_of}
use Rattle.examples.specs.Bench.{after_sample, line_three, opened_pack, with_ar}
use Rattle.examples.specs.EstimateRows.{command_of, rest_of}
use Rattle.examples.specs.RestRows.{bench_full}

-- ---- cycles on the bench pack

-- windows of −28,011, 5,378,112,000 grains each
abbrev drawn : ℕ → Gauge → Gauge
drawn zero g = g
drawn (suc n) g = drawn n (after_sample g (negsuc 28_010) (pos 3_700) (pos 1_192))

-- a window of current 0
abbrev idle : Gauge → Gauge
idle g = after_sample g (pos 0) (pos 3_700) (pos 1_192)

-- WRTLMD of a low and a high byte
abbrev with_lmd : ℕ → ℕ → Gauge → Gauge
with_lmd low high g = command_of 0x01 0x56 (with_ar low high g)

-- DONE at LMD 1,024, 20 windows, then LMD 100
abbrev shrunk : Gauge
shrunk = with_lmd 100 0 (drawn 20 bench_full)

-- 2 windows while empty, DONE, 22 windows, and one at E1 that teaches: the run drained 916 counts, so LMD becomes 977, 16/15 of it
abbrev teaching : Gauge
teaching = after_sample (drawn 22 (command_of 0x10 0xA9 (drawn 2 opened_pack))) (negsuc 28_010) (pos 3_000) (pos 1_192)

-- 100 counts, less a grain
abbrev nearly_whole : ℕ → Cycles
nearly_whole cyct = record { cyct = cyct; drain = 13_499_999_999 }

-- ---- ageing

-- the bench pack with GAF 3, and with the same two bits at the other end of ID3
abbrev aged_pack : List ℕ
aged_pack = set bench_pack 7 0x03

abbrev high_bits : List ℕ
high_bits = set bench_pack 7 0xC0

-- GAF 3, DCOMP 0, and PKCFG bit 1, with which 0x6C is taken
abbrev taken_pack : List ℕ
taken_pack = set (set aged_pack 6 0x02) 8 0x00

-- the greatest ILMD, GAF, DCGN and TCGN, and TOFF 7, by which 1,012 is 108 below the threshold
abbrev greatest_pack : List ℕ
greatest_pack = set (set (set aged_pack 0 0xFF) 8 0xF8) 9 0xFF

-- CYCT 79 by two windows at LMD 1, then LMD 1,024, DONE and a window of −3,000
abbrev old_cell : Gauge
old_cell =
    after_sample (command_of 0x10 0xA9 (with_lmd 0x00 0x04 (drawn 2 (with_lmd 1 0 (open_answer aged_pack).gauge)))) (negsuc 2_999) (pos 3_600) (pos 1_192)

pub record CycleRows : Type 0 where
  -- 20 × 5,378,112,000 grains are 796 counts and more: no cycle at LMD 1,024, and none where a rest or WRTLMD comes after
  pub drain_796 : (drawn 20 bench_full).counters.cycles ≡ record { cyct = 0; drain = 107_562_240_000 }
  pub wrtlmd_keeps : shrunk.counters.cycles ≡ record { cyct = 0; drain = 107_562_240_000 }
  pub rest_keeps : (rest_of 422 shrunk).counters.cycles ≡ record { cyct = 0; drain = 107_562_240_000 }
  -- at LMD 100 a window of current 0 counts seven; 96 counts and more are left
  pub seven : (idle shrunk).counters.cycles ≡ record { cyct = 7; drain = 13_062_240_000 }
  pub shown_7 : register (idle shrunk) 0x2A ≡ 7
  pub high_0 : register (idle shrunk) 0x2B ≡ 0
  pub charging_counts : (after_sample shrunk (pos 20) (pos 3_700) (pos 1_192)).counters.cycles.cyct ≡ 7
  -- PRST keeps both, FRST clears both
  pub prst_keeps : (command_of 0x08 0xA9 (idle shrunk)).counters.cycles ≡ record { cyct = 7; drain = 13_062_240_000 }
  pub frst_clears : (command_of 0x02 0xA9 (idle shrunk)).counters.cycles ≡ no_cycles
  -- 25 windows, two of them below empty, are 995 counts and more: less than the LMD of 1,024 before the window that teaches 977, and one cycle in
  -- the window after it
  pub taught : teaching.charge.lmd ≡ 977
  pub before_taught : teaching.counters.cycles ≡ record { cyct = 0; drain = 134_452_800_000 }
  pub after_taught : (idle teaching).counters.cycles ≡ record { cyct = 1; drain = 2_557_800_000 }
  -- CYCT stops at 65,535, and the drain goes on as a remainder of LMD × G, 13,500,000,000 at LMD 100
  pub stays : cycles_moved 100 (current_of (negsuc 28_010)) (nearly_whole 65_535) ≡ record { cyct = 65_535; drain = 5_378_111_999 }
  pub stops : cycles_moved 100 (current_of (pos 0)) (record { cyct = 65_530; drain = 107_562_240_000 }) ≡ record { cyct = 65_535; drain = 13_062_240_000 }
  -- a grain short of LMD × G is no cycle
  pub not_whole : cycles_moved 100 (current_of (pos 28_011)) (nearly_whole 7) ≡ nearly_whole 7
  pub whole : cycles_moved 100 (current_of (pos 0)) (record { cyct = 7; drain = 13_500_000_000 }) ≡ record { cyct = 8; drain = 0 }
  -- DCMP(3,000) at 1,192 without ageing: GAF 0 at every CYCT, and any GAF up to CYCT 15
  pub without_gaf : dcmp (opened_settings bench_pack) 3_000 1_192 65_535 ≡ 127
  pub first_quotient : dcmp (opened_settings aged_pack) 3_000 1_192 15 ≡ 127
  pub gaf_low_bits : dcmp (opened_settings high_bits) 3_000 1_192 85 ≡ 127
  -- CYCT 85, GAF 3: quotient 5, 32 + 2 × 5 × 3 = 62; 3,000 × 13 × 62 × 128 = 309,504,000, less 131,072 × 13 × 4 × 4 = 27,262,976, is 269.2 × 2^20. An
  -- ADCGN of 25 or 26 would give 267 or 279, an aged DCOFF 245
  pub quotient_5 : dcmp (opened_settings aged_pack) 3_000 1_192 85 ≡ 270
  pub taken_6C : dcmp (opened_settings taken_pack) 3_000 1_192 85 ≡ 270
  -- at 1,012: 3,000 × 13 × 62 × (128 + 2 × 100) = 793,104,000, less the same, is 730.4 × 2^20
  pub quotient_5_cold : dcmp (opened_settings aged_pack) 3_000 1_012 85 ≡ 731
  -- GAF 1 and 2: 32 + 10 = 42 and 52; 182,403,072 and 232,321,024 are 173.95 and 221.6 × 2^20
  pub gaf_1 : dcmp (opened_settings (set bench_pack 7 0x01)) 3_000 1_192 85 ≡ 174
  pub gaf_2 : dcmp (opened_settings (set bench_pack 7 0xFE)) 3_000 1_192 85 ≡ 222
  -- the greatest first term
  pub greatest : rate_term (opened_settings greatest_pack) 65_535 1_012 65_535 ≡ 2_689_602_566_261_820
  -- no offset, DCOFF being 0: 2,565,004,888.8 × 2^20
  pub greatest_dcmp : dcmp (opened_settings greatest_pack) 65_535 1_012 65_535 ≡ 2_565_004_889
  -- 131,072 × 13 × 4 × 4
  pub offset : offset_term (opened_settings bench_pack) ≡ 27_262_976
  -- a ceiling, of a fraction that is whole, of one 2^20th more and less
  pub ceiling_whole : ceiling_of 1_048_576 1_048_576 ≡ 1
  pub ceiling_more : ceiling_of 1_048_577 1_048_576 ≡ 2
  pub ceiling_least : ceiling_of 1 1_048_576 ≡ 1
  pub ceiling_0 : ceiling_of 0 1_048_576 ≡ 0
  -- CYCT 79 gives quotient 4, 32 + 24 = 56: 279,552,000 less 27,262,976 is 240.6 × 2^20. NAC is 1,019 in both; the new cell has DCMP 127
  pub old_cyct : old_cell.counters.cycles.cyct ≡ 79
  pub old_cac : cac old_cell ≡ 778
  pub new_cac : cac line_three ≡ 892
  pub old_fcac : fcac old_cell ≡ 783
  pub old_tte : tte old_cell ≡ 15
  pub new_tte : tte line_three ≡ 17
  pub old_artte : artte (with_ar 0xB8 0x0B old_cell) ≡ 15
  pub new_artte : artte (with_ar 0xB8 0x0B line_three) ≡ 17
