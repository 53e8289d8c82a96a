-- "Cheaper rests", A3 of paper 02: the windows of a step, and rests worked out window by window. Definitions only; assumes nothing.
use Rattle.std.specs.Prelude.{true, ◌≡◌, ℕ, ◌+◌, ◌-◌, pos, set}
use Rattle.charge.specs.Rest.{rested}
use Rattle.charge.specs.declared.charge.Charge.{Charge}
use Rattle.configuration.specs.BenchPack.{bench_pack}
use Rattle.gauge.specs.Calls.{rest_answer, write_answer}
use Rattle.gauge.specs.Opening.{open_answer}
use Rattle.gauge.specs.declared.state.Gauge.{Gauge}
use Rattle.grains.specs.Grains.{grains_of_counts, most_drain}
use Rattle.grains.specs.Rest.{step_windows}
use Rattle.grains.specs.Run.{no_run}
use Rattle.registers.specs.Values.{nac}

-- 3 counts and some grains, in a run whose drain is the given number below the greatest
abbrev three_counts : ℕ → ℕ → Charge
three_counts over below = record { held = grains_of_counts 3 + over; lmd = 1_024; run = record { vdq = true; dcr = most_drain - below } }

-- a pack opened and set full by DONE
abbrev full : Gauge → Gauge
full g = (write_answer (write_answer g 1 0x10).gauge 0 0xA9).gauge

abbrev pub bench_full : Gauge
bench_full = full (open_answer bench_pack).gauge

-- ILMD 255, and SD 15 in the low four bits of DMFSD
abbrev leaky_full : Gauge
leaky_full = full (open_answer (set (set bench_pack 0 255) 4 0x2F)).gauge

abbrev day_at : ℕ → Gauge → Gauge
day_at t g = (rest_answer g 16_875 (pos t)).gauge

pub record RestRows : Type 0 where
  -- the windows of a step, a leak of 6: 5 grains above the counts, 6, 17; with 2 windows left; and without a leak
  pub first_loses : step_windows (grains_of_counts 3 + 5) 6 100 ≡ 1
  pub two : step_windows (grains_of_counts 3 + 6) 6 100 ≡ 2
  pub three : step_windows (grains_of_counts 3 + 17) 6 100 ≡ 3
  pub two_left : step_windows (grains_of_counts 3 + 17) 6 2 ≡ 2
  pub no_leak : step_windows (grains_of_counts 3 + 17) 0 100 ≡ 100
  -- 17 above 3 counts at rate 2: 6, 6 and 6, which leave 2 counts and 134,999,999 grains, then 4
  pub held_3 : (rested 3 2 (three_counts 17 100)).held ≡ grains_of_counts 3 - 1
  pub held_4 : (rested 4 2 (three_counts 17 100)).held ≡ grains_of_counts 3 - 5
  pub drain_4 : (rested 4 2 (three_counts 17 100)).run.dcr ≡ most_drain - 78
  -- a drain that ends at 65,535 × G goes on; one that passes in the second window of a step is gone after the third
  pub drain_greatest : (rested 3 2 (three_counts 17 18)).run ≡ record { vdq = true; dcr = most_drain }
  pub drain_passes : (rested 3 2 (three_counts 17 11)).run ≡ no_run
  -- a day of 16,875 windows from full: 2, 972 and 13,929 counts are lost
  pub bench_full_lem : nac bench_full ≡ 1_024
  pub bench_day : nac (day_at 1_192 bench_full) ≡ 1_022
  pub leaky_full_lem : nac leaky_full ≡ 65_280
  pub leaky_day : nac (day_at 1_192 leaky_full) ≡ 64_308
  pub hot_day : nac (day_at 1_372 leaky_full) ≡ 51_351
