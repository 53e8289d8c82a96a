-- What each thing that touches the flags leaves: FLAGS and MODE, h, LMD and DCR, and the history. The numbers are the second implementation's
-- (`reference/tests/scripted.rs`). Definitions only; assumes nothing.
use Rattle.std.specs.Prelude.{List, [], ◌∷◌, ◌≡◌, negsuc, pos}
use Rattle.history.specs.Call.{rest, window, write}
use Rattle.scripted.specs.Packs.{every_set, kept_charging, kept_discharging, longest_run, none_set, unfiltered}
use Rattle.scripted.specs.Script.{Repeated, byte, charge_of, drawn, flags_and_mode, history_of, ◌of◌}

-- c = 0, at any voltage
abbrev idle : List Repeated
idle = 1 of window (pos 0) (pos 3_700) (pos 1_192) ∷ []

abbrev idle_low : List Repeated
idle_low = 1 of window (pos 0) (pos 2_600) (pos 1_192) ∷ []

-- c above 0, short of full, also at a voltage below EDVF
abbrev charging : List Repeated
charging = 1 of window (pos 100) (pos 3_700) (pos 1_192) ∷ []

abbrev charging_low : List Repeated
charging_low = 1 of window (pos 100) (pos 2_600) (pos 1_192) ∷ []

-- full by the sum: 11 windows of 39.8 counts
abbrev full_by_sum : List Repeated
full_by_sum = 11 of window (pos 28_011) (pos 3_700) (pos 1_192) ∷ []

-- full by taper: 32 units, twice TAPER, at 4,100 mV
abbrev full_by_taper : List Repeated
full_by_taper = 1 of window (pos 32) (pos 4_100) (pos 1_192) ∷ []

-- c below 0, above E1
abbrev discharging : List Repeated
discharging = 1 of window (drawn 3_000) (pos 3_600) (pos 1_192) ∷ []

-- an empty stop: 16 windows of 39.8 counts
abbrev stopping : List Repeated
stopping = 16 of window (drawn 28_011) (pos 3_600) (pos 1_192) ∷ []

-- at EDVF, 2,800 mV, and one above
abbrev at_edvf : List Repeated
at_edvf = 1 of window (drawn 21) (pos 2_800) (pos 1_192) ∷ []

abbrev above_edvf : List Repeated
above_edvf = 1 of window (drawn 21) (pos 2_801) (pos 1_192) ∷ []

-- at E1, 3,000 mV: with 21 units at 1,192 a run qualifies, with 20 units or at 1,111 not; and one above
abbrev at_e1 : List Repeated
at_e1 = 1 of window (drawn 21) (pos 3_000) (pos 1_192) ∷ []

abbrev light_at_e1 : List Repeated
light_at_e1 = 1 of window (drawn 20) (pos 3_000) (pos 1_192) ∷ []

abbrev cold_at_e1 : List Repeated
cold_at_e1 = 1 of window (drawn 21) (pos 3_000) (pos 1_111) ∷ []

abbrev above_e1 : List Repeated
above_e1 = 1 of window (drawn 21) (pos 3_001) (pos 1_192) ∷ []

-- in one window an empty stop and a run that qualifies
abbrev stopping_at_e1 : List Repeated
stopping_at_e1 =
    15 of window (drawn 28_011) (pos 3_600) (pos 1_192) ∷ 1 of window (drawn 28_011) (pos 3_000) (pos 1_192) ∷ []

-- a rest
abbrev resting : List Repeated
resting = 1 of rest 5 (pos 1_192) ∷ []

-- each command, with every other bit of MODE that it may have beside its own
abbrev wrtnac : List Repeated
wrtnac = 1 of write 0x01 (byte 0xFF) ∷ 1 of write 0x00 (byte 0xA9) ∷ []

abbrev done : List Repeated
done = 1 of write 0x01 (byte 0xDF) ∷ 1 of write 0x00 (byte 0xA9) ∷ []

abbrev prst : List Repeated
prst = 1 of write 0x01 (byte 0xCF) ∷ 1 of write 0x00 (byte 0xA9) ∷ []

abbrev frst : List Repeated
frst = 1 of write 0x01 (byte 0xC7) ∷ 1 of write 0x00 (byte 0xA9) ∷ []

abbrev wrtlmd : List Repeated
wrtlmd = 1 of write 0x01 (byte 0xC5) ∷ 1 of write 0x00 (byte 0x56) ∷ []

abbrev done_alone : List Repeated
done_alone = 1 of write 0x01 (byte 0x10) ∷ 1 of write 0x00 (byte 0xA9) ∷ []

-- a key that is refused
abbrev not_carried : List Repeated
not_carried = 1 of write 0x01 (byte 0xFF) ∷ 1 of write 0x00 (byte 0x56) ∷ []

-- DONE, and one unit with DMF 0, either way
abbrev one_charged : List Repeated
one_charged = 1 of write 0x01 (byte 0x10) ∷ 1 of write 0x00 (byte 0xA9) ∷ 1 of window (pos 1) (pos 3_700) (pos 1_192) ∷ []

abbrev one_drawn : List Repeated
one_drawn = 1 of write 0x01 (byte 0x10) ∷ 1 of write 0x00 (byte 0xA9) ∷ 1 of window (drawn 1) (pos 3_700) (pos 1_192) ∷ []

-- that unit at the voltages of full by taper, EDVF and E1, without DONE
abbrev one_at_taper : List Repeated
one_at_taper = 1 of window (pos 1) (pos 4_100) (pos 1_192) ∷ []

abbrev one_at_edvf : List Repeated
one_at_edvf = 1 of window (drawn 1) (pos 2_800) (pos 1_192) ∷ []

abbrev one_at_e1 : List Repeated
one_at_e1 = 1 of window (drawn 1) (pos 3_000) (pos 1_192) ∷ []

pub record EventRows : Type 0 where
  -- from CI, VDQ, EDV1, EDVF and MODE 0xFF
  pub every_set_idle : flags_and_mode every_set idle ≡ 0x17 ∷ 0xFF ∷ []
  pub every_set_idle_low : flags_and_mode every_set idle_low ≡ 0x17 ∷ 0xFF ∷ []
  pub every_set_charging : flags_and_mode every_set charging ≡ 0x90 ∷ 0xFF ∷ []
  pub every_set_charging_low : flags_and_mode every_set charging_low ≡ 0x90 ∷ 0xFF ∷ []
  pub every_set_full_by_sum : flags_and_mode every_set full_by_sum ≡ 0x94 ∷ 0xFB ∷ []
  pub every_set_full_by_taper : flags_and_mode every_set full_by_taper ≡ 0x94 ∷ 0xFB ∷ []
  pub every_set_discharging : flags_and_mode every_set discharging ≡ 0x17 ∷ 0xFF ∷ []
  pub every_set_stopping : flags_and_mode every_set stopping ≡ 0x17 ∷ 0xFF ∷ []
  pub every_set_at_edvf : flags_and_mode every_set at_edvf ≡ 0x13 ∷ 0xFF ∷ []
  pub every_set_above_edvf : flags_and_mode every_set above_edvf ≡ 0x03 ∷ 0xFF ∷ []
  pub every_set_at_e1 : flags_and_mode every_set at_e1 ≡ 0x03 ∷ 0xFF ∷ []
  pub every_set_light_at_e1 : flags_and_mode every_set light_at_e1 ≡ 0x13 ∷ 0xFF ∷ []
  pub every_set_cold_at_e1 : flags_and_mode every_set cold_at_e1 ≡ 0x13 ∷ 0xFF ∷ []
  pub every_set_above_e1 : flags_and_mode every_set above_e1 ≡ 0x17 ∷ 0xFF ∷ []
  pub every_set_resting : flags_and_mode every_set resting ≡ 0x17 ∷ 0xFF ∷ []
  pub every_set_wrtnac : flags_and_mode every_set wrtnac ≡ 0x13 ∷ 0xC4 ∷ []
  pub every_set_done : flags_and_mode every_set done ≡ 0x14 ∷ 0xC0 ∷ []
  pub every_set_prst : flags_and_mode every_set prst ≡ 0x10 ∷ 0x44 ∷ []
  pub every_set_frst : flags_and_mode every_set frst ≡ 0x10 ∷ 0x44 ∷ []
  pub every_set_wrtlmd : flags_and_mode every_set wrtlmd ≡ 0x13 ∷ 0xC4 ∷ []
  pub every_set_done_alone : flags_and_mode every_set done_alone ≡ 0x14 ∷ 0x00 ∷ []
  pub every_set_not_carried : flags_and_mode every_set not_carried ≡ 0x17 ∷ 0xFF ∷ []
  pub every_set_stopping_at_e1 : flags_and_mode every_set stopping_at_e1 ≡ 0x03 ∷ 0xFF ∷ []
  -- from no flag and MODE 0x00
  pub none_set_idle : flags_and_mode none_set idle ≡ 0x00 ∷ 0x00 ∷ []
  pub none_set_idle_low : flags_and_mode none_set idle_low ≡ 0x00 ∷ 0x00 ∷ []
  pub none_set_charging : flags_and_mode none_set charging ≡ 0x80 ∷ 0x00 ∷ []
  pub none_set_charging_low : flags_and_mode none_set charging_low ≡ 0x80 ∷ 0x00 ∷ []
  pub none_set_full_by_sum : flags_and_mode none_set full_by_sum ≡ 0x84 ∷ 0x00 ∷ []
  pub none_set_full_by_taper : flags_and_mode none_set full_by_taper ≡ 0x84 ∷ 0x00 ∷ []
  pub none_set_discharging : flags_and_mode none_set discharging ≡ 0x00 ∷ 0x00 ∷ []
  pub none_set_stopping : flags_and_mode none_set stopping ≡ 0x00 ∷ 0x00 ∷ []
  pub none_set_at_edvf : flags_and_mode none_set at_edvf ≡ 0x03 ∷ 0x00 ∷ []
  pub none_set_above_edvf : flags_and_mode none_set above_edvf ≡ 0x02 ∷ 0x00 ∷ []
  pub none_set_at_e1 : flags_and_mode none_set at_e1 ≡ 0x02 ∷ 0x00 ∷ []
  pub none_set_light_at_e1 : flags_and_mode none_set light_at_e1 ≡ 0x02 ∷ 0x00 ∷ []
  pub none_set_cold_at_e1 : flags_and_mode none_set cold_at_e1 ≡ 0x02 ∷ 0x00 ∷ []
  pub none_set_above_e1 : flags_and_mode none_set above_e1 ≡ 0x00 ∷ 0x00 ∷ []
  pub none_set_resting : flags_and_mode none_set resting ≡ 0x00 ∷ 0x00 ∷ []
  pub none_set_wrtnac : flags_and_mode none_set wrtnac ≡ 0x00 ∷ 0xC4 ∷ []
  pub none_set_done : flags_and_mode none_set done ≡ 0x04 ∷ 0xC0 ∷ []
  pub none_set_prst : flags_and_mode none_set prst ≡ 0x00 ∷ 0x44 ∷ []
  pub none_set_frst : flags_and_mode none_set frst ≡ 0x10 ∷ 0x44 ∷ []
  pub none_set_wrtlmd : flags_and_mode none_set wrtlmd ≡ 0x00 ∷ 0xC4 ∷ []
  pub none_set_done_alone : flags_and_mode none_set done_alone ≡ 0x04 ∷ 0x00 ∷ []
  pub none_set_not_carried : flags_and_mode none_set not_carried ≡ 0x00 ∷ 0xFF ∷ []
  -- from CHGS, CI, VDQ, EDVF and MODE 0x6B
  pub kept_charging_idle : flags_and_mode kept_charging idle ≡ 0x15 ∷ 0x6B ∷ []
  pub kept_charging_idle_low : flags_and_mode kept_charging idle_low ≡ 0x15 ∷ 0x6B ∷ []
  pub kept_charging_charging : flags_and_mode kept_charging charging ≡ 0x90 ∷ 0x6B ∷ []
  pub kept_charging_charging_low : flags_and_mode kept_charging charging_low ≡ 0x90 ∷ 0x6B ∷ []
  pub kept_charging_full_by_sum : flags_and_mode kept_charging full_by_sum ≡ 0x94 ∷ 0x6B ∷ []
  pub kept_charging_full_by_taper : flags_and_mode kept_charging full_by_taper ≡ 0x94 ∷ 0x6B ∷ []
  pub kept_charging_discharging : flags_and_mode kept_charging discharging ≡ 0x15 ∷ 0x6B ∷ []
  pub kept_charging_stopping : flags_and_mode kept_charging stopping ≡ 0x15 ∷ 0x6B ∷ []
  pub kept_charging_at_edvf : flags_and_mode kept_charging at_edvf ≡ 0x13 ∷ 0x6B ∷ []
  pub kept_charging_above_edvf : flags_and_mode kept_charging above_edvf ≡ 0x03 ∷ 0x6B ∷ []
  pub kept_charging_at_e1 : flags_and_mode kept_charging at_e1 ≡ 0x03 ∷ 0x6B ∷ []
  pub kept_charging_light_at_e1 : flags_and_mode kept_charging light_at_e1 ≡ 0x13 ∷ 0x6B ∷ []
  pub kept_charging_cold_at_e1 : flags_and_mode kept_charging cold_at_e1 ≡ 0x13 ∷ 0x6B ∷ []
  pub kept_charging_above_e1 : flags_and_mode kept_charging above_e1 ≡ 0x15 ∷ 0x6B ∷ []
  pub kept_charging_resting : flags_and_mode kept_charging resting ≡ 0x15 ∷ 0x6B ∷ []
  pub kept_charging_wrtnac : flags_and_mode kept_charging wrtnac ≡ 0x91 ∷ 0xC4 ∷ []
  pub kept_charging_done : flags_and_mode kept_charging done ≡ 0x94 ∷ 0xC0 ∷ []
  pub kept_charging_prst : flags_and_mode kept_charging prst ≡ 0x10 ∷ 0x44 ∷ []
  pub kept_charging_frst : flags_and_mode kept_charging frst ≡ 0x10 ∷ 0x44 ∷ []
  pub kept_charging_wrtlmd : flags_and_mode kept_charging wrtlmd ≡ 0x91 ∷ 0xC4 ∷ []
  pub kept_charging_done_alone : flags_and_mode kept_charging done_alone ≡ 0x94 ∷ 0x00 ∷ []
  pub kept_charging_not_carried : flags_and_mode kept_charging not_carried ≡ 0x95 ∷ 0xFF ∷ []
  -- h, LMD and DCR: from 600 counts and 5 grains of 1,024 and a drain of 900 counts, and without a run
  pub every_set_idle_charge : charge_of every_set idle ≡ 80_999_995_205 ∷ 1_024 ∷ 121_500_004_800 ∷ []
  pub every_set_idle_low_charge : charge_of every_set idle_low ≡ 80_999_995_205 ∷ 1_024 ∷ 121_500_004_800 ∷ []
  pub every_set_charging_charge : charge_of every_set charging ≡ 81_019_195_205 ∷ 1_024 ∷ 0 ∷ []
  pub every_set_charging_low_charge : charge_of every_set charging_low ≡ 81_019_195_205 ∷ 1_024 ∷ 0 ∷ []
  pub every_set_full_by_sum_charge : charge_of every_set full_by_sum ≡ 138_240_000_000 ∷ 1_024 ∷ 0 ∷ []
  pub every_set_full_by_taper_charge : charge_of every_set full_by_taper ≡ 138_240_000_000 ∷ 1_024 ∷ 0 ∷ []
  pub every_set_discharging_charge : charge_of every_set discharging ≡ 80_423_995_205 ∷ 1_024 ∷ 122_076_004_800 ∷ []
  pub every_set_stopping_charge : charge_of every_set stopping ≡ 0 ∷ 1_024 ∷ 207_549_830_496 ∷ []
  pub every_set_at_edvf_charge : charge_of every_set at_edvf ≡ 0 ∷ 1_024 ∷ 0 ∷ []
  pub every_set_above_edvf_charge : charge_of every_set above_edvf ≡ 8_100_000_000 ∷ 960 ∷ 0 ∷ []
  pub every_set_at_e1_charge : charge_of every_set at_e1 ≡ 8_100_000_000 ∷ 960 ∷ 0 ∷ []
  pub every_set_light_at_e1_charge : charge_of every_set light_at_e1 ≡ 80_996_155_205 ∷ 1_024 ∷ 0 ∷ []
  pub every_set_cold_at_e1_charge : charge_of every_set cold_at_e1 ≡ 80_995_966_805 ∷ 1_024 ∷ 0 ∷ []
  pub every_set_above_e1_charge : charge_of every_set above_e1 ≡ 80_995_963_205 ∷ 1_024 ∷ 121_504_036_800 ∷ []
  pub every_set_resting_charge : charge_of every_set resting ≡ 80_999_976_037 ∷ 1_024 ∷ 121_500_023_968 ∷ []
  pub every_set_wrtnac_charge : charge_of every_set wrtnac ≡ 94_500_000_000 ∷ 1_024 ∷ 0 ∷ []
  pub every_set_done_charge : charge_of every_set done ≡ 138_240_000_000 ∷ 1_024 ∷ 0 ∷ []
  pub every_set_prst_charge : charge_of every_set prst ≡ 81_000_000_005 ∷ 1_024 ∷ 0 ∷ []
  pub every_set_frst_charge : charge_of every_set frst ≡ 0 ∷ 1_024 ∷ 0 ∷ []
  pub every_set_wrtlmd_charge : charge_of every_set wrtlmd ≡ 81_000_000_005 ∷ 700 ∷ 0 ∷ []
  pub every_set_done_alone_charge : charge_of every_set done_alone ≡ 138_240_000_000 ∷ 1_024 ∷ 0 ∷ []
  pub every_set_not_carried_charge : charge_of every_set not_carried ≡ 81_000_000_005 ∷ 1_024 ∷ 121_500_000_000 ∷ []
  pub none_set_idle_charge : charge_of none_set idle ≡ 80_999_995_205 ∷ 1_024 ∷ 0 ∷ []
  pub none_set_idle_low_charge : charge_of none_set idle_low ≡ 80_999_995_205 ∷ 1_024 ∷ 0 ∷ []
  pub none_set_charging_charge : charge_of none_set charging ≡ 81_019_195_205 ∷ 1_024 ∷ 0 ∷ []
  pub none_set_charging_low_charge : charge_of none_set charging_low ≡ 81_019_195_205 ∷ 1_024 ∷ 0 ∷ []
  pub none_set_full_by_sum_charge : charge_of none_set full_by_sum ≡ 138_240_000_000 ∷ 1_024 ∷ 0 ∷ []
  pub none_set_full_by_taper_charge : charge_of none_set full_by_taper ≡ 138_240_000_000 ∷ 1_024 ∷ 0 ∷ []
  pub none_set_discharging_charge : charge_of none_set discharging ≡ 80_423_995_205 ∷ 1_024 ∷ 0 ∷ []
  pub none_set_stopping_charge : charge_of none_set stopping ≡ 0 ∷ 1_024 ∷ 0 ∷ []
  pub none_set_at_edvf_charge : charge_of none_set at_edvf ≡ 0 ∷ 1_024 ∷ 0 ∷ []
  pub none_set_above_edvf_charge : charge_of none_set above_edvf ≡ 80_995_963_205 ∷ 1_024 ∷ 0 ∷ []
  pub none_set_at_e1_charge : charge_of none_set at_e1 ≡ 80_995_963_205 ∷ 1_024 ∷ 0 ∷ []
  pub none_set_light_at_e1_charge : charge_of none_set light_at_e1 ≡ 80_996_155_205 ∷ 1_024 ∷ 0 ∷ []
  pub none_set_cold_at_e1_charge : charge_of none_set cold_at_e1 ≡ 80_995_966_805 ∷ 1_024 ∷ 0 ∷ []
  pub none_set_above_e1_charge : charge_of none_set above_e1 ≡ 80_995_963_205 ∷ 1_024 ∷ 0 ∷ []
  pub none_set_resting_charge : charge_of none_set resting ≡ 80_999_976_037 ∷ 1_024 ∷ 0 ∷ []
  pub none_set_wrtnac_charge : charge_of none_set wrtnac ≡ 94_500_000_000 ∷ 1_024 ∷ 0 ∷ []
  pub none_set_done_charge : charge_of none_set done ≡ 138_240_000_000 ∷ 1_024 ∷ 0 ∷ []
  pub none_set_prst_charge : charge_of none_set prst ≡ 81_000_000_005 ∷ 1_024 ∷ 0 ∷ []
  pub none_set_frst_charge : charge_of none_set frst ≡ 0 ∷ 1_024 ∷ 0 ∷ []
  pub none_set_wrtlmd_charge : charge_of none_set wrtlmd ≡ 81_000_000_005 ∷ 700 ∷ 0 ∷ []
  pub none_set_done_alone_charge : charge_of none_set done_alone ≡ 138_240_000_000 ∷ 1_024 ∷ 0 ∷ []
  pub none_set_not_carried_charge : charge_of none_set not_carried ≡ 81_000_000_005 ∷ 1_024 ∷ 0 ∷ []
  pub every_set_stopping_at_e1_charge : charge_of every_set stopping_at_e1 ≡ 13_770_000_000 ∷ 1_639 ∷ 0 ∷ []
  -- a run that passes 65,535 counts is over, and teaches nothing in the same window
  pub longest_run_at_e1 : flags_and_mode longest_run at_e1 ≡ 0x13 ∷ 0xFF ∷ []
  pub longest_run_at_e1_charge : charge_of longest_run at_e1 ≡ 80_995_963_205 ∷ 1_024 ∷ 0 ∷ []
  pub longest_run_discharging_charge : charge_of longest_run discharging ≡ 80_423_995_205 ∷ 1_024 ∷ 0 ∷ []
  pub longest_run_resting : flags_and_mode longest_run resting ≡ 0x13 ∷ 0xFF ∷ []
  pub longest_run_resting_charge : charge_of longest_run resting ≡ 80_999_976_037 ∷ 1_024 ∷ 0 ∷ []
  -- WRTNAC and WRTLMD where AR is above LMD, 3,287 and 2,003 counts, and where it is below NAC, 5,433 and 9,266
  pub kept_charging_wrtnac_charge : charge_of kept_charging wrtnac ≡ 270_405_000_000 ∷ 2_003 ∷ 0 ∷ []
  pub kept_charging_wrtlmd_charge : charge_of kept_charging wrtlmd ≡ 229_675_757_877 ∷ 3_287 ∷ 0 ∷ []
  pub kept_discharging_wrtnac_charge : charge_of kept_discharging wrtnac ≡ 733_455_000_000 ∷ 41_261 ∷ 0 ∷ []
  pub kept_discharging_wrtlmd_charge : charge_of kept_discharging wrtlmd ≡ 733_455_000_000 ∷ 5_433 ∷ 0 ∷ []
  -- the history begun there: P, Q, K, L, R or −1, MODE, AR, rest windows, cycles and their drain
  pub every_set_idle_history : history_of every_set idle
      ≡ pos 81_000_000_005 ∷ pos 0 ∷ pos 4_800 ∷ pos 1_024 ∷ pos 121_500_004_800 ∷ pos 255
      ∷ pos 700 ∷ pos 7 ∷ pos 5 ∷ pos 9 ∷ []
  pub every_set_idle_low_history : history_of every_set idle_low
      ≡ pos 81_000_000_005 ∷ pos 0 ∷ pos 4_800 ∷ pos 1_024 ∷ pos 121_500_004_800 ∷ pos 255
      ∷ pos 700 ∷ pos 7 ∷ pos 5 ∷ pos 9 ∷ []
  pub every_set_charging_history : history_of every_set charging
      ≡ pos 81_000_000_005 ∷ pos 100 ∷ pos 4_800 ∷ pos 1_024 ∷ negsuc 0 ∷ pos 255
      ∷ pos 700 ∷ pos 0 ∷ pos 5 ∷ pos 9 ∷ []
  pub every_set_charging_low_history : history_of every_set charging_low
      ≡ pos 81_000_000_005 ∷ pos 100 ∷ pos 4_800 ∷ pos 1_024 ∷ negsuc 0 ∷ pos 255
      ∷ pos 700 ∷ pos 0 ∷ pos 5 ∷ pos 9 ∷ []
  pub every_set_full_by_sum_history : history_of every_set full_by_sum
      ≡ pos 138_240_000_000 ∷ pos 0 ∷ pos 0 ∷ pos 1_024 ∷ pos 0 ∷ pos 255
      ∷ pos 700 ∷ pos 0 ∷ pos 5 ∷ pos 9 ∷ []
  pub every_set_full_by_taper_history : history_of every_set full_by_taper
      ≡ pos 138_240_000_000 ∷ pos 0 ∷ pos 0 ∷ pos 1_024 ∷ pos 0 ∷ pos 255
      ∷ pos 700 ∷ pos 0 ∷ pos 5 ∷ pos 9 ∷ []
  pub every_set_discharging_history : history_of every_set discharging
      ≡ pos 81_000_000_005 ∷ negsuc 2_999 ∷ pos 4_800 ∷ pos 1_024 ∷ pos 122_076_004_800 ∷ pos 255
      ∷ pos 700 ∷ pos 0 ∷ pos 5 ∷ pos 576_000_009 ∷ []
  pub every_set_stopping_history : history_of every_set stopping
      ≡ pos 0 ∷ pos 0 ∷ pos 0 ∷ pos 1_024 ∷ pos 207_549_830_496 ∷ pos 255
      ∷ pos 700 ∷ pos 0 ∷ pos 5 ∷ pos 86_049_792_009 ∷ []
  pub every_set_at_edvf_history : history_of every_set at_edvf
      ≡ pos 0 ∷ pos 0 ∷ pos 0 ∷ pos 1_024 ∷ negsuc 0 ∷ pos 255
      ∷ pos 700 ∷ pos 0 ∷ pos 5 ∷ pos 4_032_009 ∷ []
  pub every_set_above_edvf_history : history_of every_set above_edvf
      ≡ pos 8_100_000_000 ∷ pos 0 ∷ pos 0 ∷ pos 960 ∷ negsuc 0 ∷ pos 255
      ∷ pos 700 ∷ pos 0 ∷ pos 5 ∷ pos 4_032_009 ∷ []
  pub every_set_at_e1_history : history_of every_set at_e1
      ≡ pos 8_100_000_000 ∷ pos 0 ∷ pos 0 ∷ pos 960 ∷ negsuc 0 ∷ pos 255
      ∷ pos 700 ∷ pos 0 ∷ pos 5 ∷ pos 4_032_009 ∷ []
  pub every_set_light_at_e1_history : history_of every_set light_at_e1
      ≡ pos 81_000_000_005 ∷ negsuc 19 ∷ pos 4_800 ∷ pos 1_024 ∷ negsuc 0 ∷ pos 255
      ∷ pos 700 ∷ pos 0 ∷ pos 5 ∷ pos 3_840_009 ∷ []
  pub every_set_cold_at_e1_history : history_of every_set cold_at_e1
      ≡ pos 81_000_000_005 ∷ negsuc 20 ∷ pos 1_200 ∷ pos 1_024 ∷ negsuc 0 ∷ pos 255
      ∷ pos 700 ∷ pos 0 ∷ pos 5 ∷ pos 4_032_009 ∷ []
  pub every_set_above_e1_history : history_of every_set above_e1
      ≡ pos 81_000_000_005 ∷ negsuc 20 ∷ pos 4_800 ∷ pos 1_024 ∷ pos 121_504_036_800 ∷ pos 255
      ∷ pos 700 ∷ pos 0 ∷ pos 5 ∷ pos 4_032_009 ∷ []
  pub every_set_resting_history : history_of every_set resting
      ≡ pos 81_000_000_005 ∷ pos 0 ∷ pos 23_968 ∷ pos 1_024 ∷ pos 121_500_023_968 ∷ pos 255
      ∷ pos 700 ∷ pos 12 ∷ pos 5 ∷ pos 9 ∷ []
  pub every_set_wrtnac_history : history_of every_set wrtnac
      ≡ pos 94_500_000_000 ∷ pos 0 ∷ pos 0 ∷ pos 1_024 ∷ negsuc 0 ∷ pos 196
      ∷ pos 700 ∷ pos 7 ∷ pos 5 ∷ pos 9 ∷ []
  pub every_set_done_history : history_of every_set done
      ≡ pos 138_240_000_000 ∷ pos 0 ∷ pos 0 ∷ pos 1_024 ∷ pos 0 ∷ pos 196
      ∷ pos 700 ∷ pos 7 ∷ pos 5 ∷ pos 9 ∷ []
  pub every_set_prst_history : history_of every_set prst
      ≡ pos 81_000_000_005 ∷ pos 0 ∷ pos 0 ∷ pos 1_024 ∷ negsuc 0 ∷ pos 68
      ∷ pos 0 ∷ pos 0 ∷ pos 5 ∷ pos 9 ∷ []
  pub every_set_frst_history : history_of every_set frst
      ≡ pos 0 ∷ pos 0 ∷ pos 0 ∷ pos 1_024 ∷ negsuc 0 ∷ pos 68
      ∷ pos 0 ∷ pos 0 ∷ pos 0 ∷ pos 0 ∷ []
  pub every_set_wrtlmd_history : history_of every_set wrtlmd
      ≡ pos 81_000_000_005 ∷ pos 0 ∷ pos 0 ∷ pos 700 ∷ negsuc 0 ∷ pos 196
      ∷ pos 700 ∷ pos 7 ∷ pos 5 ∷ pos 9 ∷ []
  pub every_set_done_alone_history : history_of every_set done_alone
      ≡ pos 138_240_000_000 ∷ pos 0 ∷ pos 0 ∷ pos 1_024 ∷ pos 0 ∷ pos 0
      ∷ pos 700 ∷ pos 7 ∷ pos 5 ∷ pos 9 ∷ []
  pub every_set_not_carried_history : history_of every_set not_carried
      ≡ pos 81_000_000_005 ∷ pos 0 ∷ pos 0 ∷ pos 1_024 ∷ pos 121_500_000_000 ∷ pos 255
      ∷ pos 700 ∷ pos 7 ∷ pos 5 ∷ pos 9 ∷ []
  pub every_set_stopping_at_e1_history : history_of every_set stopping_at_e1
      ≡ pos 13_770_000_000 ∷ pos 0 ∷ pos 0 ∷ pos 1_639 ∷ negsuc 0 ∷ pos 255
      ∷ pos 700 ∷ pos 0 ∷ pos 5 ∷ pos 86_049_792_009 ∷ []
  pub none_set_idle_history : history_of none_set idle
      ≡ pos 81_000_000_005 ∷ pos 0 ∷ pos 4_800 ∷ pos 1_024 ∷ negsuc 0 ∷ pos 0
      ∷ pos 700 ∷ pos 7 ∷ pos 5 ∷ pos 9 ∷ []
  pub none_set_charging_history : history_of none_set charging
      ≡ pos 81_000_000_005 ∷ pos 100 ∷ pos 4_800 ∷ pos 1_024 ∷ negsuc 0 ∷ pos 0
      ∷ pos 700 ∷ pos 0 ∷ pos 5 ∷ pos 9 ∷ []
  pub none_set_full_by_sum_history : history_of none_set full_by_sum
      ≡ pos 138_240_000_000 ∷ pos 0 ∷ pos 0 ∷ pos 1_024 ∷ pos 0 ∷ pos 0
      ∷ pos 700 ∷ pos 0 ∷ pos 5 ∷ pos 9 ∷ []
  pub none_set_at_e1_history : history_of none_set at_e1
      ≡ pos 81_000_000_005 ∷ negsuc 20 ∷ pos 4_800 ∷ pos 1_024 ∷ negsuc 0 ∷ pos 0
      ∷ pos 700 ∷ pos 0 ∷ pos 5 ∷ pos 4_032_009 ∷ []
  pub none_set_stopping_history : history_of none_set stopping
      ≡ pos 0 ∷ pos 0 ∷ pos 0 ∷ pos 1_024 ∷ negsuc 0 ∷ pos 0
      ∷ pos 700 ∷ pos 0 ∷ pos 5 ∷ pos 86_049_792_009 ∷ []
  pub longest_run_at_e1_history : history_of longest_run at_e1
      ≡ pos 81_000_000_005 ∷ negsuc 20 ∷ pos 4_800 ∷ pos 1_024 ∷ negsuc 0 ∷ pos 255
      ∷ pos 700 ∷ pos 0 ∷ pos 5 ∷ pos 4_032_009 ∷ []
  pub longest_run_resting_history : history_of longest_run resting
      ≡ pos 81_000_000_005 ∷ pos 0 ∷ pos 23_968 ∷ pos 1_024 ∷ negsuc 0 ∷ pos 255
      ∷ pos 700 ∷ pos 12 ∷ pos 5 ∷ pos 9 ∷ []
  pub kept_charging_wrtnac_history : history_of kept_charging wrtnac
      ≡ pos 270_405_000_000 ∷ pos 0 ∷ pos 0 ∷ pos 2_003 ∷ negsuc 0 ∷ pos 196
      ∷ pos 3_287 ∷ pos 16_909_060 ∷ pos 2_829 ∷ pos 78_187_493_530 ∷ []
  pub kept_charging_wrtlmd_history : history_of kept_charging wrtlmd
      ≡ pos 229_675_757_877 ∷ pos 0 ∷ pos 0 ∷ pos 3_287 ∷ negsuc 0 ∷ pos 196
      ∷ pos 3_287 ∷ pos 16_909_060 ∷ pos 2_829 ∷ pos 78_187_493_530 ∷ []
  pub kept_discharging_wrtnac_history : history_of kept_discharging wrtnac
      ≡ pos 733_455_000_000 ∷ pos 0 ∷ pos 0 ∷ pos 41_261 ∷ negsuc 0 ∷ pos 196
      ∷ pos 5_433 ∷ pos 2_309_737_967 ∷ pos 339 ∷ pos 4_847_623_480_424 ∷ []
  pub kept_discharging_wrtlmd_history : history_of kept_discharging wrtlmd
      ≡ pos 733_455_000_000 ∷ pos 0 ∷ pos 0 ∷ pos 5_433 ∷ negsuc 0 ∷ pos 196
      ∷ pos 5_433 ∷ pos 2_309_737_967 ∷ pos 339 ∷ pos 4_847_623_480_424 ∷ []
  -- one unit with DMF 0
  pub one_charged_lem : flags_and_mode unfiltered one_charged ≡ 0x94 ∷ 0x00 ∷ []
  pub one_charged_charge : charge_of unfiltered one_charged ≡ 138_240_000_000 ∷ 1_024 ∷ 0 ∷ []
  pub one_charged_history : history_of unfiltered one_charged
      ≡ pos 138_240_000_000 ∷ pos 0 ∷ pos 0 ∷ pos 1_024 ∷ pos 0 ∷ pos 0
      ∷ pos 0 ∷ pos 0 ∷ pos 0 ∷ pos 0 ∷ []
  pub one_drawn_lem : flags_and_mode unfiltered one_drawn ≡ 0x14 ∷ 0x00 ∷ []
  pub one_drawn_charge : charge_of unfiltered one_drawn ≡ 138_239_799_808 ∷ 1_024 ∷ 200_192 ∷ []
  pub one_drawn_history : history_of unfiltered one_drawn
      ≡ pos 138_240_000_000 ∷ negsuc 0 ∷ pos 8_192 ∷ pos 1_024 ∷ pos 200_192 ∷ pos 0
      ∷ pos 0 ∷ pos 0 ∷ pos 0 ∷ pos 192_000 ∷ []
  pub one_at_taper_lem : flags_and_mode unfiltered one_at_taper ≡ 0x94 ∷ 0x40 ∷ []
  pub one_at_taper_charge : charge_of unfiltered one_at_taper ≡ 138_240_000_000 ∷ 1_024 ∷ 0 ∷ []
  pub one_at_taper_history : history_of unfiltered one_at_taper
      ≡ pos 138_240_000_000 ∷ pos 0 ∷ pos 0 ∷ pos 1_024 ∷ pos 0 ∷ pos 68
      ∷ pos 0 ∷ pos 0 ∷ pos 0 ∷ pos 0 ∷ []
  pub one_at_edvf_lem : flags_and_mode unfiltered one_at_edvf ≡ 0x13 ∷ 0x44 ∷ []
  pub one_at_edvf_charge : charge_of unfiltered one_at_edvf ≡ 0 ∷ 1_024 ∷ 0 ∷ []
  pub one_at_edvf_history : history_of unfiltered one_at_edvf
      ≡ pos 0 ∷ pos 0 ∷ pos 0 ∷ pos 1_024 ∷ negsuc 0 ∷ pos 68
      ∷ pos 0 ∷ pos 0 ∷ pos 0 ∷ pos 192_000 ∷ []
  pub one_at_e1_lem : flags_and_mode unfiltered one_at_e1 ≡ 0x12 ∷ 0x44 ∷ []
  pub one_at_e1_charge : charge_of unfiltered one_at_e1 ≡ 0 ∷ 1_024 ∷ 0 ∷ []
  pub one_at_e1_history : history_of unfiltered one_at_e1
      ≡ pos 0 ∷ pos 0 ∷ pos 0 ∷ pos 1_024 ∷ negsuc 0 ∷ pos 68
      ∷ pos 0 ∷ pos 0 ∷ pos 0 ∷ pos 192_000 ∷ []
