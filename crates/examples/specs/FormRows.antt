-- The forms of the saved bytes at their limits, A1, A4, A5 and A6 of paper 02: each row worked out by hand. Definitions only; assumes nothing.
use Rattle.std.specs.Prelude.{List, [], ◌∷◌, ◌++◌, ◌≡◌, ℕ, length, replicate, set}
use Rattle.configuration.specs.BenchPack.{bench_pack}
use Rattle.counters.specs.Cycles.{no_cycles}
use Rattle.every_form.specs.EveryForm.{load_answer}
use Rattle.form.specs.Form.{newest}
use Rattle.load.specs.Load.{answer_in}
use Rattle.numbers.specs.Little.{little}
use Rattle.registers.specs.Map.{register}
use Rattle.saved.specs.Save.{saved_bytes}

-- the 41 bytes of the bench pack with another ISLC, as opened but for SI: form; configuration; h, DCR 0; LMD 1,024; SI; c, VOLT, TEMP, AR 0; MODE
-- 0x44; FLAGS 0x10
abbrev pub saved_as : ℕ → ℕ → ℕ → List ℕ
saved_as form islc standby =
    form ∷ (set bench_pack 3 islc ++ (replicate 16 0 ++ (0x00 ∷ 0x04 ∷ (little 2 standby ++ (replicate 8 0 ++ (0x44 ∷ 0x10 ∷ []))))))

-- the same with the count of rest windows, form 3
abbrev pub saved_counting : ℕ → ℕ → List ℕ
saved_counting form rests = saved_as form 5 160 ++ little 2 rests

-- and with CYCT and its drain, form 4
abbrev pub saved_cycling : ℕ → ℕ → ℕ → ℕ → List ℕ
saved_cycling form rests cyct drain = saved_counting form rests ++ (little 2 cyct ++ little 8 drain)

-- the count in four bytes, form 5
abbrev pub saved_wider : ℕ → ℕ → ℕ → ℕ → List ℕ
saved_wider form rests cyct drain = saved_as form 5 160 ++ (little 4 rests ++ (little 2 cyct ++ little 8 drain))

pub record FormRows : Type 0 where
  pub length_41 : length (saved_as 1 5 10) ≡ 41
  -- form 1 with SI 2 × S0 = 20 is read as 320, 32 × S0; 21 is 14
  pub form_1_most : (load_answer (saved_as 1 5 20)).gauge.standby ≡ 320
  pub form_1_read : (load_answer (saved_as 1 5 20)).number ≡ 0
  pub form_1_above : (load_answer (saved_as 1 5 21)).number ≡ 14
  -- the greatest S0 is 510; 16 × 4,096 would be 0 in two bytes, 16 × 4,097 would be 16
  pub form_1_1020 : (load_answer (saved_as 1 255 1_020)).gauge.standby ≡ 16_320
  pub form_1_1021 : (load_answer (saved_as 1 255 1_021)).number ≡ 14
  pub form_1_4096 : (load_answer (saved_as 1 255 4_096)).number ≡ 14
  pub form_1_4097 : (load_answer (saved_as 1 255 4_097)).number ≡ 14
  pub form_1_65535 : (load_answer (saved_as 1 255 65_535)).number ≡ 14
  -- form 2 holds sixteenths: 320 is read as it is, 321 is 14
  pub form_2_most : (load_answer (saved_as 2 5 320)).gauge.standby ≡ 320
  pub form_2_above : (load_answer (saved_as 2 5 321)).number ≡ 14
  -- form 3 has 43 bytes, and every count is accepted
  pub length_43 : length (saved_counting 3 422) ≡ 43
  pub form_3_read : (load_answer (saved_counting 3 422)).gauge.counters.rests ≡ 422
  pub form_3_most : (load_answer (saved_counting 3 65_535)).gauge.counters.rests ≡ 65_535
  pub form_3_taken : (load_answer (saved_counting 3 65_535)).number ≡ 0
  pub form_3_short : (load_answer (saved_as 3 5 160)).number ≡ 14
  -- forms 1 and 2 have no count and read as 0; with two bytes more they are 14
  pub form_1_rests : (load_answer (saved_as 1 5 10)).gauge.counters.rests ≡ 0
  pub form_2_rests : (load_answer (saved_as 2 5 160)).gauge.counters.rests ≡ 0
  pub form_2_long : (load_answer (saved_counting 2 422)).number ≡ 14
  -- form 4 has 53 bytes; its drain must be below 65,535 × G = 8,847,225,000,000, and may be above LMD × G, 138,240,000,000
  pub length_53 : length (saved_cycling 4 422 7 0) ≡ 53
  pub form_4_cyct : (load_answer (saved_cycling 4 422 0x1234 0)).gauge.counters.cycles.cyct ≡ 0x1234
  pub form_4_low : register (load_answer (saved_cycling 4 422 0x1234 0)).gauge 0x2A ≡ 0x34
  pub form_4_high : register (load_answer (saved_cycling 4 422 0x1234 0)).gauge 0x2B ≡ 0x12
  pub form_4_drain : (load_answer (saved_cycling 4 422 7 8_847_224_999_999)).gauge.counters.cycles.drain ≡ 8_847_224_999_999
  pub form_4_below : (load_answer (saved_cycling 4 422 65_535 8_847_224_999_999)).number ≡ 0
  pub form_4_at : (load_answer (saved_cycling 4 422 0 8_847_225_000_000)).number ≡ 14
  pub form_4_short : (load_answer (saved_counting 4 422)).number ≡ 14
  -- form 3 has no cycles and reads as 0 in both; with ten bytes more it is 14
  pub form_3_cycles : (load_answer (saved_counting 3 422)).gauge.counters.cycles ≡ no_cycles
  pub form_3_long : (load_answer (saved_cycling 3 422 7 0)).number ≡ 14
  -- form 4's count has two bytes, and a stored 65,535 is that number, whatever stands behind it
  pub form_4_count : (load_answer (saved_cycling 4 65_535 65_535 0)).gauge.counters.rests ≡ 65_535
  -- form 5 has 55 bytes, and every count of four bytes is accepted
  pub length_55 : length (saved_wider 5 422 7 0) ≡ 55
  pub form_5_most : (load_answer (saved_wider 5 4_294_967_295 7 9)).gauge.counters ≡ record { rests = 4_294_967_295; cycles = record { cyct = 7; drain = 9 } }
  pub form_5_taken : (load_answer (saved_wider 5 4_294_967_295 7 9)).number ≡ 0
  pub form_5_short : (load_answer (saved_cycling 5 422 7 0)).number ≡ 14
  pub form_4_long : (load_answer (saved_wider 4 422 7 0)).number ≡ 14
  -- there is no form 0 and no form 6
  pub form_0 : (load_answer (saved_as 0 5 10)).number ≡ 14
  pub form_6 : (load_answer (saved_wider 6 422 7 0)).number ≡ 14
  -- the newest form alone is taken by the calls from C
  pub taken_5 : (answer_in newest (saved_wider 5 422 7 0)).number ≡ 0
  pub taken_4 : (answer_in newest (saved_cycling 4 422 7 0)).number ≡ 14
  pub taken_3 : (answer_in newest (saved_counting 3 422)).number ≡ 14
  pub taken_2 : (answer_in newest (saved_as 2 5 160)).number ≡ 14
  pub taken_1 : (answer_in newest (saved_as 1 5 10)).number ≡ 14
  -- what older forms are read as is saved as form 5
  pub saved_1 : saved_bytes (load_answer (saved_as 1 5 10)).gauge ≡ saved_wider 5 0 0 0
  pub saved_2 : saved_bytes (load_answer (saved_as 2 5 160)).gauge ≡ saved_wider 5 0 0 0
  pub saved_3 : saved_bytes (load_answer (saved_counting 3 422)).gauge ≡ saved_wider 5 422 0 0
  pub saved_4 : saved_bytes (load_answer (saved_cycling 4 65_535 0x1234 9)).gauge ≡ saved_wider 5 65_535 0x1234 9
