-- "The fourteen numbers" of paper 01: the example of each row of its table, 14 excepted, which the saved form's own contract tests. Definitions
-- only; assumes nothing.
use Rattle.std.specs.Prelude.{true, ◌≡◌, ℕ, ◌+◌, Result, Ok, Err, Some, None, [], ◌∷◌, map, pos, negsuc, replicate, set}
use Rattle.configuration.specs.BenchPack.{bench_pack}
use Rattle.gauge.specs.Calls.{rest_refusal, sample_refusal, write_refusal}
use Rattle.gauge.specs.Opening.{open_refusal}
use Rattle.gauge.specs.Window.{measured}
use Rattle.refusals.specs.Refusal.{left_by, number}
use Rattle.refusals.specs.declared.Refusal.{Refusal}
use Rattle.refusals.specs.declared.Refusal.TheVariants.{ConfigurationLength, IlmdZero, CurrentRange, VoltageRange, TemperatureRange, RestLength, NotWritable}
use Rattle.refusals.specs.declared.Refusal.TheVariants.{UnknownKey, NoCommandBit, NotCarried, WrtlmdZero, RegisterRange, BufferLength, Rejected, NotRested, OutsideTable}
use Rattle.registers.specs.Reading.{place_refusal}
use Rattle.sample.specs.Range.{read_between}

-- a call that hands out a number, and one that is refused
abbrev handed : Result ℕ Refusal
handed = Ok 5

abbrev not_handed : Result ℕ Refusal
not_handed = Err NotRested

pub record Numbers : Type 0 where
  -- the refusals in the order of the table, and those of paper 02 behind them
  pub first_eight : map number (ConfigurationLength ∷ IlmdZero ∷ CurrentRange ∷ VoltageRange ∷ TemperatureRange ∷ RestLength ∷ NotWritable ∷ UnknownKey ∷ [])
      ≡ 1 ∷ 2 ∷ 3 ∷ 4 ∷ 5 ∷ 6 ∷ 7 ∷ 8 ∷ []
  pub last_eight : map number (NoCommandBit ∷ NotCarried ∷ WrtlmdZero ∷ RegisterRange ∷ BufferLength ∷ Rejected ∷ NotRested ∷ OutsideTable ∷ [])
      ≡ 9 ∷ 10 ∷ 11 ∷ 12 ∷ 13 ∷ 14 ∷ 15 ∷ 16 ∷ []
  -- a lent number that held 7
  pub left_handed : left_by handed (λ n. n + 1) 7 ≡ 6
  pub left_refused : left_by not_handed (λ n. n + 1) 7 ≡ 7
  -- "9 bytes"
  pub number_1 : open_refusal (replicate 9 1) ≡ 1
  -- "first byte 0x00"
  pub number_2 : open_refusal (set bench_pack 0 0x00) ≡ 2
  pub opens : open_refusal bench_pack ≡ 0
  -- the numbers of a window, each in its place
  pub three_measured : measured (pos 20) (pos 4_150) (pos 1_192) ≡ record { current = record { charging = true; magnitude = 20 }; voltage = 4_150; temperature = 1_192 }
  -- "28,012", and the same drawn; 28,011 is in range
  pub number_3 : sample_refusal (pos 28_012) (pos 3_600) (pos 1_192) ≡ 3
  pub number_3_drawn : sample_refusal (negsuc 28_011) (pos 3_600) (pos 1_192) ≡ 3
  pub most_drawn : sample_refusal (negsuc 28_010) (pos 3_600) (pos 1_192) ≡ 0
  -- "2,599"; from 2,600 to 4,500 is in range
  pub number_4 : sample_refusal (pos 0) (pos 2_599) (pos 1_192) ≡ 4
  pub least_voltage_lem : sample_refusal (pos 0) (pos 2_600) (pos 1_192) ≡ 0
  pub below_least : read_between 2_600 4_500 (pos 2_599) ≡ None
  pub at_least : read_between 2_600 4_500 (pos 2_600) ≡ Some 2_600
  pub at_most : read_between 2_600 4_500 (pos 4_500) ≡ Some 4_500
  pub above_most : read_between 2_600 4_500 (pos 4_501) ≡ None
  pub most_voltage_lem : sample_refusal (pos 0) (pos 4_500) (pos 1_192) ≡ 0
  -- "1,373"; from 1,012 to 1,372 is in range
  pub number_5 : sample_refusal (pos 0) (pos 3_600) (pos 1_373) ≡ 5
  pub least_temperature_lem : sample_refusal (pos 0) (pos 3_600) (pos 1_012) ≡ 0
  pub most_temperature_lem : sample_refusal (pos 0) (pos 3_600) (pos 1_372) ≡ 0
  -- "0", before the temperature; from 1 to 506,250 is in range (A6 of paper 02), and so are a day and one window
  pub number_6 : rest_refusal 0 (pos 1_373) ≡ 6
  pub longer_than_a_day : rest_refusal 16_876 (pos 1_192) ≡ 0
  pub longest_rest_lem : rest_refusal 506_250 (pos 1_192) ≡ 0
  pub too_long : rest_refusal 506_251 (pos 1_192) ≡ 6
  -- "0x04"
  pub number_7 : write_refusal 0x44 0 0x04 0xA9 ≡ 7
  -- "0x57"
  pub number_8 : write_refusal 0x44 0 0x00 0x57 ≡ 8
  -- "MODE 0x44, key 0xA9"
  pub number_9 : write_refusal 0x44 0 0x00 0xA9 ≡ 9
  -- "MODE 0x01, key 0xA9"
  pub number_10 : write_refusal 0x01 0 0x00 0xA9 ≡ 10
  -- "AR 0, MODE 0x01, key 0x56"
  pub number_11 : write_refusal 0x01 0 0x00 0x56 ≡ 11
  -- "0x7F, 2"
  pub number_12 : place_refusal 0x7F 2 0 4 ≡ 12
  -- "place 3, count 2, reply 4"
  pub number_13 : place_refusal 0x00 2 3 4 ≡ 13
