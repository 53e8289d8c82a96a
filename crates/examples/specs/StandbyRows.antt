-- "Standby current that settles", A1 of paper 02: its own example and the rules beside it, each row worked out by hand. Definitions only;
-- assumes nothing.
use Rattle.std.specs.Prelude.{◌≡◌, ℕ, zero, suc, pos, negsuc, set}
use Rattle.configuration.specs.BenchPack.{bench_pack}
use Rattle.gauge.specs.Calls.{write_answer}
use Rattle.gauge.specs.Opening.{open_answer}
use Rattle.gauge.specs.declared.state.Gauge.{Gauge}
use Rattle.registers.specs.Times.{stte}
use Rattle.registers.specs.Values.{nac, si}
use Rattle.standby.specs.Standby.{averaged, shown}
use Rattle.examples.specs.Bench.{after_sample, with_ar}

-- the bench pack with another ISLC, opened
abbrev pack_of : ℕ → Gauge
pack_of islc = (open_answer (set bench_pack 3 islc)).gauge

-- n windows of a steady load of 40 units
unfoldable pub after_loads : ℕ → Gauge → Gauge
after_loads zero g = g
after_loads (suc n) g = after_loads n (after_sample g (negsuc 39) (pos 3_700) (pos 1_192))

-- a command: its bit to MODE, 0xA9 to CTRL
abbrev keyed : ℕ → Gauge → Gauge
keyed bit g = (write_answer (write_answer g 1 bit).gauge 0 0xA9).gauge

-- ISLC 15 with AR 512 written to NAC, then 45 such windows
abbrev half : Gauge
half = after_loads 45 (keyed 0x20 (with_ar 0x00 0x02 (pack_of 15)))

pub record StandbyRows : Type 0 where
  -- ISLC 15: S0 30, kept as 480 sixteenths, shown as 30
  pub opened_480 : (pack_of 15).standby ≡ 480
  pub opened_30 : si (pack_of 15) ≡ 30
  -- "A handset on steady load 40 that starts from SI 30": floor(15 × 480 / 16) + 40 = 490, shown as 31
  pub load_490 : (after_loads 1 (pack_of 15)).standby ≡ 490
  pub load_31 : si (after_loads 1 (pack_of 15)) ≡ 31
  -- the 45th window brings 625, shown as 40; floor(15 × 625 / 16) + 40 = 625 again
  pub load_39 : si (after_loads 44 (pack_of 15)) ≡ 39
  pub settled_625 : (after_loads 45 (pack_of 15)).standby ≡ 625
  pub settled_40 : si (after_loads 45 (pack_of 15)) ≡ 40
  pub stays_625 : (after_loads 100 (pack_of 15)).standby ≡ 625
  -- from above: 15 × 640 / 16 + 40 = 640, shown as 40
  pub above_640 : averaged 30 640 40 ≡ 640
  pub above_40 : shown 640 ≡ 40
  pub above_41 : shown 641 ≡ 41
  -- STTE divides by the SI shown: NAC 512 less 45 × 40 units is 509; 60 × 509 / 40
  pub half_nac : nac half ≡ 509
  pub half_stte : stte half ≡ 763
  -- S0 0: SI 0, no load is light, STTE 65,535 with a full charge too
  pub none_0 : (pack_of 0).standby ≡ 0
  pub none_stays : (after_loads 1 (pack_of 0)).standby ≡ 0
  pub none_shown : si (pack_of 0) ≡ 0
  pub none_stte : stte (keyed 0x10 (pack_of 0)) ≡ 65_535
  -- PRST and FRST: as opened
  pub prst_480 : (keyed 0x08 half).standby ≡ 480
  pub frst_480 : (keyed 0x02 half).standby ≡ 480
