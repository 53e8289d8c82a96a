-- The calls from C: their numbers in order, what they hand out, and what they leave where they are refused. Each number by hand, from the papers
-- and from the bytes of `Packs`. Definitions only; assumes nothing.
use Rattle.std.specs.Prelude.{List, [], ◌∷◌, ◌++◌, ◌≡◌, ℕ, pos, negsuc, drop, length, replicate, set, take}
use Rattle.drive.specs.Update.{Step, bytes_after_steps, calls_of, make, start}
use Rattle.gauge.specs.Calls.{window_answer}
use Rattle.gauge.specs.Opening.{open_answer}
use Rattle.gauge.specs.Answer.{Answer}
use Rattle.gauge.specs.declared.state.Gauge.{Gauge}
use Rattle.handset.specs.Calls.{convert_bytes, convert_number, estimate_counts, estimate_distance, estimate_number, open_bytes, open_number}
use Rattle.saved.specs.Call.{call_bytes, call_number}
use Rattle.handset.specs.Calls.{preview_command, preview_number, preview_reply, read_number, read_reply, window_call}
use Rattle.load.specs.Look.{look_number}
use Rattle.handset.specs.Keep.{kept_bytes, kept_number}
use Rattle.history.specs.Call.{rest}
use Rattle.moves.specs.Direction.{charging, discharging}
use Rattle.moves.specs.Key.{key_bytes, key_number}
use Rattle.moves.specs.Place.{host_place}
use Rattle.round_trip.specs.RoundTrip.{reloaded_answer}
use Rattle.sample.specs.Range.{current_of}
use Rattle.scripted.specs.Packs.{bench, every_set, kept_charging, kept_discharging, kept_form4}
use Rattle.scripted.specs.Script.{started}

-- a window on the bytes: 14 comes first, and a refusal leaves them
abbrev called : ℕ → ℕ → Gauge → Answer
called v t g = window_call (pos 0) (pos v) (pos t) g

-- two calls of one window of rest, with a start of the handset between them
abbrev steps : List Step
steps = make (rest 1 (pos 1_192)) ∷ start ∷ make (rest 1 (pos 1_192)) ∷ []

pub record HandedRows : Type 0 where
  -- the calls from C: opening 1, 2, 13
  pub open_1 : open_number (take 9 bench) 54 ≡ 1
  pub open_2 : open_number (set bench 0 0) 54 ≡ 2
  pub open_13 : open_number bench 54 ≡ 13
  pub open_0 : open_number bench 55 ≡ 0
  pub open_kept : open_bytes bench (replicate 54 7) ≡ replicate 54 7
  pub open_refused : (open_answer (take 9 bench)).gauge.settings.bytes ≡ replicate 10 0
  -- a conversion 14, 13
  pub convert_14 : convert_number (take 52 kept_form4) 54 ≡ 14
  pub convert_13 : convert_number kept_form4 54 ≡ 13
  pub convert_0 : convert_number kept_form4 55 ≡ 0
  pub convert_kept : convert_bytes kept_form4 (replicate 54 7) ≡ replicate 54 7
  pub convert_14_kept : convert_bytes (take 52 kept_form4) (replicate 55 7) ≡ replicate 55 7
  -- a window on an older form is 14, also with a voltage that is 4; on the newest it is 4
  pub window_14 : call_number kept_form4 (called 2_599 1_192) ≡ 14
  pub window_4 : call_number every_set (called 2_599 1_192) ≡ 4
  -- whatever a call would answer for the gauge of rejected bytes
  pub call_14 : call_number kept_form4 (λ g. record { number = 3; gauge = g }) ≡ 14
  pub look_14 : look_number kept_form4 (λ g. 3) ≡ 14
  pub window_14_kept : call_bytes kept_form4 (called 3_600 1_192) ≡ kept_form4
  pub window_4_kept : call_bytes every_set (called 2_599 1_192) ≡ every_set
  -- what is kept of an answer: its number, then 13; MODE, AR low and AR high stand at 39, 37 and 38
  pub kept_13 : kept_number (window_answer (started every_set) (pos 0) (pos 3_600) (pos 1_192)) 54 ≡ 13
  pub kept_4 : kept_number (window_answer (started every_set) (pos 0) (pos 2_599) (pos 1_192)) 54 ≡ 4
  pub kept_4_bytes : kept_bytes (window_answer (started kept_charging) (pos 0) (pos 2_599) (pos 1_192)) every_set ≡ every_set
  pub kept_0_bytes : kept_bytes (reloaded_answer (started kept_charging)) every_set ≡ kept_charging
  pub place_mode : host_place 1 ≡ 39
  pub place_ar_low : host_place 2 ≡ 37
  pub place_ar_high : host_place 3 ≡ 38
  -- a key on the bytes. MODE 0x6B obeys WRTNAC, and AR 3,287 is above LMD 2,003: h is 2,003 × G, DCR 0, MODE 0x40, FLAGS without VDQ. Bytes of another length
  -- have no command bit
  pub key_0 : key_number kept_charging 0xA9 ≡ 0
  pub key_8 : key_number kept_charging 0x57 ≡ 8
  pub key_10 : key_number kept_charging 0x56 ≡ 10
  pub key_9 : key_number (replicate 54 7) 0xA9 ≡ 9
  pub key_11 : key_number (set (set (set kept_charging 37 0x00) 38 0x00) 39 0x01) 0x56 ≡ 11
  pub key_done : key_bytes kept_charging 0xA9
      ≡ take 11 kept_charging
      ++ (0x40 ∷ 0xDB ∷ 0x64 ∷ 0xF5 ∷ 0x3E ∷ 0x00 ∷ 0x00 ∷ 0x00
      ∷ 0x00 ∷ 0x00 ∷ 0x00 ∷ 0x00 ∷ 0x00 ∷ 0x00 ∷ 0x00 ∷ 0x00 ∷ set (set (drop 27 kept_charging) 12 0x40) 13 0x91)
  pub key_kept : key_bytes kept_charging 0x57 ≡ kept_charging
  -- MODE 0x48 obeys PRST: h, LMD, CI and the cycles stay; DCR, c, VOLT, TEMP, AR and the count are 0, SI is 160, MODE 0x44
  pub key_reset : key_bytes (set kept_charging 39 0x48) 0xA9
      ≡ take 19 kept_charging
      ++ (replicate 8 0 ++ (0xD3 ∷ 0x07 ∷ 0xA0 ∷ 0x00 ∷ (replicate 8 0 ++ (0x44 ∷ 0x10 ∷ (replicate 4 0 ++ drop 45 kept_charging)))))
  -- a current by its direction
  pub charging_5 : charging 5 ≡ current_of (pos 5)
  pub discharging_5 : discharging 5 ≡ current_of (negsuc 4)
  -- a read of TEMP 0x044D and VOLT 0x0D81 into the middle of a reply; 12, 13 and, of an older form, 14 leave it
  pub read_0 : read_number kept_discharging 0x06 4 2 8 ≡ 0
  pub read_12 : read_number kept_discharging 0x7F 2 7 8 ≡ 12
  pub read_13 : read_number kept_discharging 0x06 4 5 8 ≡ 13
  pub read_14 : read_number kept_form4 0x7F 2 7 8 ≡ 14
  pub read_reply_lem : read_reply kept_discharging 0x06 4 2 (replicate 8 7) ≡ 7 ∷ 7 ∷ 0x4D ∷ 0x04 ∷ 0x81 ∷ 0x0D ∷ 7 ∷ 7 ∷ []
  pub read_kept : read_reply kept_discharging 0x06 4 5 (replicate 8 7) ≡ replicate 8 7
  pub read_14_kept : read_reply kept_form4 0x06 4 2 (replicate 8 7) ≡ replicate 8 7
  -- a preview with MODE 0xFF: WRTNAC is 1, MODE 0xC4 after it, NAC AR's 700, 0x02BC
  pub preview_0 : preview_number every_set 0xA9 128 ≡ 0
  pub preview_13 : preview_number every_set 0xA9 127 ≡ 13
  pub preview_14 : preview_number kept_form4 0xA9 127 ≡ 14
  pub preview_command_lem : preview_command every_set 0xA9 128 99 ≡ 1
  pub preview_command_kept : preview_command every_set 0xA9 127 99 ≡ 99
  pub preview_command_14 : preview_command kept_form4 0xA9 128 99 ≡ 99
  pub preview_mode : take 2 (preview_reply every_set 0xA9 (replicate 128 7)) ≡ 0x00 ∷ 0xC4 ∷ []
  pub preview_nac : take 2 (drop 0x0C (preview_reply every_set 0xA9 (replicate 128 7))) ≡ 0xBC ∷ 0x02 ∷ []
  pub preview_kept : preview_reply every_set 0xA9 (replicate 127 7) ≡ replicate 127 7
  pub preview_14_kept : preview_reply kept_form4 0xA9 (replicate 128 7) ≡ replicate 128 7
  -- an estimate at 3,700 mV: 350 × 41,261 / 1,000 = 14,441.35; NAC is 1,250,999,896,491 / 135,000,000 = 9,266.7
  pub estimate_0 : estimate_number kept_discharging (pos 3_700) ≡ 0
  pub estimate_15 : estimate_number every_set (pos 4_201) ≡ 15
  pub estimate_16 : estimate_number kept_discharging (pos 4_201) ≡ 16
  pub estimate_14 : estimate_number kept_form4 (pos 4_201) ≡ 14
  pub estimate_counts_lem : estimate_counts kept_discharging (pos 3_700) 9 ≡ 14_441
  pub estimate_kept : estimate_counts kept_discharging (pos 4_201) 9 ≡ 9
  pub estimate_14_kept : estimate_counts kept_form4 (pos 3_700) 9 ≡ 9
  pub distance : estimate_distance kept_discharging (pos 3_700) (negsuc 8) ≡ pos 5_175
  pub distance_kept : estimate_distance kept_discharging (pos 4_201) (negsuc 8) ≡ negsuc 8
  pub distance_14 : estimate_distance kept_form4 (pos 3_700) (negsuc 8) ≡ negsuc 8
  -- two windows of rest and a start between them: the count is two more, 0x04 and 0x03 0x02 0x01 behind it; c is 0, CHGS clear
  pub steps_calls : length (calls_of steps) ≡ 2
  pub steps_count : take 4 (drop 41 (bytes_after_steps steps kept_charging)) ≡ 0x06 ∷ 0x03 ∷ 0x02 ∷ 0x01 ∷ []
  -- bytes that are rejected are not converted, and the handset's new buffer stays zeros
  pub steps_rejected : bytes_after_steps (start ∷ []) (take 54 every_set) ≡ replicate 55 0
  pub steps_older : take 4 (drop 41 (bytes_after_steps (start ∷ steps) kept_form4)) ≡ 0xF1 ∷ 0xCD ∷ 0x00 ∷ 0x00 ∷ []
