-- A2 of paper 02, "Look before writing", on the bench pack after its three windows: the preview of each command and of each refusal, worked out by
-- hand from the papers. Definitions only; assumes nothing.
use Rattle.std.specs.Prelude.{◌≡◌, ℕ, get_or, replicate}
use Rattle.gauge.specs.Calls.{write_answer}
use Rattle.gauge.specs.declared.state.Gauge.{Gauge}
use Rattle.preview.specs.Preview.{command_after, preview_refusal, reply_after}
use Rattle.registers.specs.Values.{nac, rsoc}
use Rattle.examples.specs.Bench.{line_three, with_ar}

-- AR 500, and MODE written
abbrev service : ℕ → Gauge
service mode = (write_answer (with_ar 0xF4 0x01 line_three) 1 mode).gauge

-- AR 0
abbrev without_ar : ℕ → Gauge
without_ar mode = (write_answer line_three 1 mode).gauge

-- SI above 32 × S0, which 14 refuses
abbrev pub rejected : Gauge
rejected =
    record {
      settings = line_three.settings;
      charge = line_three.charge;
      sample = line_three.sample;
      standby = 65_535;
      flags = line_three.flags;
      host = line_three.host;
      counters = line_three.counters;
    }

-- the command's number where 99 stood before
abbrev command_for : ℕ → Gauge → ℕ
command_for key g = command_after g key 128 99

-- one byte of the reply, where zeros stood before
abbrev shown : ℕ → Gauge → ℕ → ℕ
shown key g address = get_or (reply_after g key (replicate 128 0)) address 0

pub record PreviewRows : Type 0 where
  -- 1 WRTNAC, 2 DONE, 3 PRST, 4 FRST, 5 WRTLMD; the highest bit is obeyed
  pub wrtnac : command_for 0xA9 (service 0x3B) ≡ 1
  pub done : command_for 0xA9 (service 0x1B) ≡ 2
  pub prst : command_for 0xA9 (service 0x0B) ≡ 3
  pub frst : command_for 0xA9 (service 0x03) ≡ 4
  pub wrtlmd : command_for 0x56 (service 0x01) ≡ 5
  -- WRTNAC of 500 where NAC was 1,019: 500 is 0x01F4, 500 × 100 / 1,024 = 48; MODE 0x64 without its bit is 0x44, CTRL 0, AR 500 still
  pub nac_before : nac (service 0x64) ≡ 1_019
  pub rsoc_before : rsoc (service 0x64) ≡ 99
  pub nac_low : shown 0xA9 (service 0x64) 0x0C ≡ 0xF4
  pub nac_high : shown 0xA9 (service 0x64) 0x0D ≡ 0x01
  pub rsoc_after : shown 0xA9 (service 0x64) 0x0B ≡ 48
  pub mode_cleared : shown 0xA9 (service 0x64) 0x01 ≡ 0x44
  pub ctrl_zero : shown 0xA9 (service 0x64) 0x00 ≡ 0
  pub ar_kept : shown 0xA9 (service 0x64) 0x02 ≡ 0xF4
  -- WRTLMD of 500: LMD 500, and 1,019 counts are cut to 500, which is 100 percent
  pub lmd_low : shown 0x56 (service 0x01) 0x0E ≡ 0xF4
  pub lmd_rsoc : shown 0x56 (service 0x01) 0x0B ≡ 100
  -- 14, then 8 to 11, each before 13
  pub number_14 : preview_refusal rejected 0x57 127 ≡ 14
  pub number_8 : preview_refusal (service 0x64) 0x57 127 ≡ 8
  pub number_9 : preview_refusal (service 0x44) 0xA9 127 ≡ 9
  pub number_10 : preview_refusal (service 0x01) 0xA9 127 ≡ 10
  pub number_11 : preview_refusal (without_ar 0x01) 0x56 127 ≡ 11
  -- 13 for one byte less and for one more
  pub number_13 : preview_refusal (service 0x64) 0xA9 127 ≡ 13
  pub number_13_above : preview_refusal (service 0x64) 0xA9 129 ≡ 13
  pub number_0 : preview_refusal (service 0x64) 0xA9 128 ≡ 0
  -- a refusal leaves the reply and the number
  pub command_kept : command_after (service 0x64) 0xA9 127 99 ≡ 99
  pub reply_kept : reply_after (service 0x64) 0xA9 (replicate 129 7) ≡ replicate 129 7
