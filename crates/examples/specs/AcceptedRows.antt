-- 14, condition by condition of "Saved gauge" in paper 01 and of the fields that paper 02 adds: saved bytes that meet each exactly, and those bytes with
-- one condition broken by the least amount. The places are the papers', the sums stand beside the rows. Definitions only; assumes nothing.
use Rattle.std.specs.Prelude.{true, false, List, [], ◌∷◌, ◌++◌, ◌≡◌, ℕ, take}
use Rattle.std.proofs.lemmas.List.Edits.{sets}
use Rattle.configuration.specs.BenchPack.{bench_pack}
use Rattle.every_form.specs.EveryForm.{load_answer}
use Rattle.gauge.specs.Accepted.{accepted}
use Rattle.gauge.specs.declared.state.Gauge.{Gauge}
use Rattle.numbers.specs.Little.{little}
use Rattle.sample.specs.declared.current.Current.{Current}
use Rattle.examples.specs.Bench.{opened_pack}

-- form 5 of the bench pack, from the given c, VOLT, TEMP and FLAGS: h 1,024 × 135,000,000 and LMD 1,024; DCR 65,535 × 135,000,000; SI 32 × S0, S0
-- being 10; AR, MODE, the count of rest windows and CYCT the greatest; the cycle drain one grain below 65,535 × 135,000,000
abbrev saved_with : ℕ → ℕ → ℕ → ℕ → List ℕ
saved_with c volt temp flags =
    5 ∷ (bench_pack ++ (little 8 138_240_000_000 ++ (little 8 8_847_225_000_000 ++ (little 2 1_024 ++ (little 2 320 ++ (little 2 c ++ (little 2 volt
    ++ (little 2 temp ++ (little 2 65_535 ++ (0xFF ∷ flags ∷ (little 4 4_294_967_295 ++ (little 2 65_535 ++ little 8 8_847_224_999_999))))))))))))

-- the lower ends: c −3, one beyond DMF, 2,600 mV, 1,012 quarter kelvins; CI, VDQ, EDV1 and EDVF
abbrev lower : List ℕ
lower = saved_with 65_533 2_600 1_012 0x17

-- the upper ends: c 28,011, 4,500 mV, 1,372 quarter kelvins; CHGS and VDQ
abbrev upper : List ℕ
upper = saved_with 28_011 4_500 1_372 0x84

-- bytes with a number of some width at a place
abbrev with_number : ℕ → ℕ → ℕ → List ℕ → List ℕ
with_number place width value bytes = sets bytes place (little width value)

abbrev number : List ℕ → ℕ
number bytes = (load_answer bytes).number

-- with another c, and with FLAGS, which have to fit it
abbrev with_current : ℕ → ℕ → List ℕ
with_current c flags = with_number 31 2 c (with_number 40 1 flags lower)

-- an opened gauge value with another current
abbrev carrying : Current → Gauge
carrying c =
    record {
      settings = opened_pack.settings;
      charge = opened_pack.charge;
      sample = record { current = c; voltage = 0; temperature = 0 };
      standby = opened_pack.standby;
      flags = opened_pack.flags;
      host = opened_pack.host;
      counters = opened_pack.counters;
    }

pub record AcceptedRows : Type 0 where
  pub lower_met : number lower ≡ 0
  pub upper_met : number upper ≡ 0
  -- "length": 54 and 56 bytes
  pub shorter : number (take 54 lower) ≡ 14
  pub longer : number (lower ++ (0 ∷ [])) ≡ 14
  -- "form"
  pub form_4 : number (with_number 0 1 4 lower) ≡ 14
  pub form_6 : number (with_number 0 1 6 lower) ≡ 14
  -- "ILMD > 0"
  pub ilmd_0 : number (with_number 1 1 0 lower) ≡ 14
  pub ilmd_1 : number (with_number 1 1 1 lower) ≡ 0
  -- "LMD > 0", with nothing held
  pub lmd_0 : number (with_number 27 2 0 (with_number 11 8 0 lower)) ≡ 14
  pub lmd_1 : number (with_number 27 2 1 (with_number 11 8 0 lower)) ≡ 0
  -- "h ≤ LMD × G"
  pub held_above : number (with_number 11 8 138_240_000_001 lower) ≡ 14
  pub lmd_below : number (with_number 27 2 1_023 lower) ≡ 14
  -- "DCR ≤ 65,535 × G and 0 without VDQ"
  pub drain_above : number (with_number 19 8 8_847_225_000_001 lower) ≡ 14
  pub drain_without_run : number (with_number 19 8 1 (with_number 40 1 0x13 lower)) ≡ 14
  pub no_drain : number (with_number 19 8 0 (with_number 40 1 0x13 lower)) ≡ 0
  pub no_drain_yet : number (with_number 19 8 0 lower) ≡ 0
  -- "the sixteenths, at most 32 × S0"
  pub standby_321 : number (with_number 29 2 321 lower) ≡ 14
  pub standby_0 : number (with_number 29 2 0 lower) ≡ 0
  -- "c in range and 0 or beyond DMF": −2, −28,011 and −28,012; 2, 3 and 28,012; −32,768
  pub drawn_2 : number (with_current 65_534 0x17) ≡ 14
  pub drawn_28011 : number (with_current 37_525 0x17) ≡ 0
  pub drawn_28012 : number (with_current 37_524 0x17) ≡ 14
  pub charged_2 : number (with_current 2 0x97) ≡ 14
  pub charged_3 : number (with_current 3 0x97) ≡ 0
  pub charged_28012 : number (with_current 28_012 0x97) ≡ 14
  pub most_negative : number (with_current 32_768 0x17) ≡ 14
  pub current_0 : number (with_current 0 0x17) ≡ 0
  -- "VOLT and TEMP 0 or in range"
  pub volt_0 : number (with_number 33 2 0 lower) ≡ 0
  pub volt_1 : number (with_number 33 2 1 lower) ≡ 14
  pub volt_2599 : number (with_number 33 2 2_599 lower) ≡ 14
  pub volt_4501 : number (with_number 33 2 4_501 upper) ≡ 14
  pub temp_0 : number (with_number 35 2 0 lower) ≡ 0
  pub temp_1 : number (with_number 35 2 1 lower) ≡ 14
  pub temp_1011 : number (with_number 35 2 1_011 lower) ≡ 14
  pub temp_1373 : number (with_number 35 2 1_373 upper) ≡ 14
  -- "CHGS exactly if c > 0": set below 0 and at 0, clear above
  pub chgs_drawn : number (with_current 65_533 0x97) ≡ 14
  pub chgs_0 : number (with_current 0 0x97) ≡ 14
  pub chgs_clear : number (with_current 28_011 0x17) ≡ 14
  -- "other flag bits 0": 3, 5 and 6
  pub bit_3 : number (with_number 40 1 0x1F lower) ≡ 14
  pub bit_5 : number (with_number 40 1 0x37 lower) ≡ 14
  pub bit_6 : number (with_number 40 1 0x57 lower) ≡ 14
  -- the cycle drain "must be below 65,535 × G"
  pub cycle_drain : number (with_number 47 8 8_847_225_000_000 lower) ≡ 14
  -- a gauge value that no bytes hold: CHGS with c 0
  pub charging_0 : accepted (carrying (record { charging = true; magnitude = 0 })) ≡ false
  pub none_0 : accepted (carrying (record { charging = false; magnitude = 0 })) ≡ true
