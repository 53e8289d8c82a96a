-- A4 of paper 02, "Charge from a rested cell", on the bench pack: each row worked out by hand from the papers. Definitions only; assumes nothing.
use Rattle.std.specs.Prelude.{Some, None, true, false, ◌≡◌, ℕ, ℤ, pos, negsuc}
use Rattle.counters.specs.Counters.{counters_rested}
use Rattle.counters.specs.Cycles.{no_cycles}
use Rattle.estimate.specs.Estimate.{distance_after, estimate_after, estimate_refusal}
use Rattle.gauge.specs.Calls.{rest_answer, write_answer}
use Rattle.gauge.specs.declared.state.Gauge.{Gauge}
use Rattle.permille.specs.Table.{in_table, permille, permille_in}
use Rattle.registers.specs.Values.{nac}
use Rattle.examples.specs.Bench.{after_sample, opened_pack, with_ar}
use Rattle.examples.specs.PreviewRows.{rejected}
use Rattle.examples.specs.RestRows.{bench_full}

abbrev pub rest_of : ℕ → Gauge → Gauge
rest_of n g = (rest_answer g n (pos 1_192)).gauge

-- a command, by its bit of MODE and its key
abbrev pub command_of : ℕ → ℕ → Gauge → Gauge
command_of mode key g = (write_answer (write_answer g 1 mode).gauge 0 key).gauge

-- 422 windows of rest while empty, then WRTLMD of 65,535, and DONE: settings keep the count
abbrev large_empty : Gauge
large_empty = command_of 0x01 0x56 (with_ar 0xFF 0xFF (rest_of 422 opened_pack))

abbrev large_full : Gauge
large_full = command_of 0x10 0xA9 large_empty

-- what is handed out where 9 and −9 stood before
abbrev estimate_at : ℤ → Gauge → ℕ
estimate_at v g = estimate_after g v 9

abbrev distance_at : ℤ → Gauge → ℤ
distance_at v g = distance_after g v (negsuc 8)

pub record EstimateRows : Type 0 where
  -- a voltage in the table has a permille, and others have none
  pub in_3600 : permille_in (pos 3_600) ≡ Some 140
  pub in_2999 : permille_in (pos 2_999) ≡ None
  pub in_4201 : permille_in (pos 4_201) ≡ None
  -- the points of the rule
  pub at_3000 : permille (pos 3_000) ≡ 0
  pub at_3400 : permille (pos 3_400) ≡ 40
  pub at_3600 : permille (pos 3_600) ≡ 140
  pub at_3700 : permille (pos 3_700) ≡ 350
  pub at_3800 : permille (pos 3_800) ≡ 560
  pub at_3900 : permille (pos 3_900) ≡ 700
  pub at_4000 : permille (pos 4_000) ≡ 830
  pub at_4100 : permille (pos 4_100) ≡ 930
  pub at_4200 : permille (pos 4_200) ≡ 1_000
  -- 3,396: 396 × 40 / 400 = 39.6; 3,704: 350 + 4 × 210 / 100 = 358.4; 4,196: 930 + 96 × 70 / 100 = 997.2
  pub at_3399 : permille (pos 3_399) ≡ 39
  pub at_3704 : permille (pos 3_704) ≡ 358
  pub at_3703 : permille (pos 3_703) ≡ 350
  pub at_4197 : permille (pos 4_197) ≡ 997
  pub at_4199 : permille (pos 4_199) ≡ 997
  -- the table's ends
  pub from_3000 : in_table (pos 3_000) ≡ true
  pub above_2999 : in_table (pos 2_999) ≡ false
  pub to_4200 : in_table (pos 4_200) ≡ true
  pub below_4201 : in_table (pos 4_201) ≡ false
  pub below_0 : in_table (negsuc 3_699) ≡ false
  -- 421 windows are 15, also with a voltage outside the table; 422 are enough
  pub after_421 : estimate_refusal (rest_of 421 bench_full) (pos 3_700) ≡ 15
  pub first_15 : estimate_refusal (rest_of 421 bench_full) (pos 4_201) ≡ 15
  pub after_422 : estimate_refusal (rest_of 422 bench_full) (pos 3_700) ≡ 0
  pub then_16 : estimate_refusal (rest_of 422 bench_full) (pos 4_201) ≡ 16
  pub first_14 : estimate_refusal rejected (pos 4_201) ≡ 14
  -- a window of 2 units, at most DMF, neither counts nor clears; one of 3 units clears
  pub window_of_2 : (rest_of 1 (after_sample (rest_of 421 bench_full) (pos 2) (pos 3_700) (pos 1_192))).counters.rests ≡ 422
  pub window_of_3 : (rest_of 1 (after_sample (rest_of 421 bench_full) (negsuc 2) (pos 3_700) (pos 1_192))).counters.rests ≡ 1
  -- 350 × 1,024 / 1,000 = 358.4, and the NAC is 1,023 since the first window
  pub nac_rested : nac (rest_of 422 bench_full) ≡ 1_023
  pub estimate_358 : estimate_at (pos 3_700) (rest_of 422 bench_full) ≡ 358
  pub distance_358 : distance_at (pos 3_700) (rest_of 422 bench_full) ≡ negsuc 664
  pub distance_1024 : distance_at (pos 4_200) (rest_of 422 bench_full) ≡ pos 1
  -- the greatest distances
  pub greatest : estimate_at (pos 4_200) large_empty ≡ 65_535
  pub greatest_above : distance_at (pos 4_200) large_empty ≡ pos 65_535
  pub greatest_below : distance_at (pos 3_000) large_full ≡ negsuc 65_534
  -- a refusal hands nothing out
  pub estimate_kept : estimate_at (pos 3_700) (rest_of 421 bench_full) ≡ 9
  pub distance_kept : distance_at (pos 4_201) (rest_of 422 bench_full) ≡ negsuc 8
  -- the count is kept by WRTNAC, cleared by PRST and FRST
  pub wrtnac_keeps : (command_of 0x20 0xA9 (rest_of 422 bench_full)).counters.rests ≡ 422
  pub prst_clears : (command_of 0x08 0xA9 (rest_of 422 bench_full)).counters.rests ≡ 0
  pub frst_clears : (command_of 0x02 0xA9 (rest_of 422 bench_full)).counters.rests ≡ 0
  -- it goes on past 65,535, where it stopped before A6, and stops at 4,294,967,295
  pub goes_on : (counters_rested 1 (record { rests = 65_535; cycles = no_cycles })).rests ≡ 65_536
  pub stops : (counters_rested 2 (record { rests = 4_294_967_294; cycles = no_cycles })).rests ≡ 4_294_967_295
  pub stays : (counters_rested 506_250 (record { rests = 4_294_967_295; cycles = no_cycles })).rests ≡ 4_294_967_295
