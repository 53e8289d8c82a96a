-- The number of each call at its limits, by the gauge, by the history and by the calls from C, and what the list of them leaves. The numbers are the
-- second implementation's (`reference/tests/scripted.rs`). Definitions only; assumes nothing.
use Rattle.std.specs.Prelude.{List, [], ◌∷◌, ◌≡◌, ℕ, negsuc, pos}
use Rattle.history.specs.Call.{estimate, preview, read, rest, window, write}
use Rattle.scripted.specs.Packs.{bench}
use Rattle.scripted.specs.Script.{Repeated, byte, bytes_of, called_of, drawn, history_of, numbers_of, refusals_of, ◌of◌}

-- windows at each limit and one past it; 3 before 4 before 5
abbrev windows : List Repeated
windows =
    1 of window (pos 28_011) (pos 3_600) (pos 1_192)
    ∷ 1 of window (pos 28_012) (pos 3_600) (pos 1_192)
    ∷ 1 of window (drawn 28_011) (pos 3_600) (pos 1_192)
    ∷ 1 of window (drawn 28_012) (pos 3_600) (pos 1_192)
    ∷ 1 of window (pos 0) (pos 2_599) (pos 1_192)
    ∷ 1 of window (pos 0) (pos 2_600) (pos 1_192)
    ∷ 1 of window (pos 0) (pos 4_500) (pos 1_192)
    ∷ 1 of window (pos 0) (pos 4_501) (pos 1_192)
    ∷ 1 of window (pos 0) (drawn 3_600) (pos 1_192)
    ∷ 1 of window (pos 0) (pos 3_600) (pos 1_011)
    ∷ 1 of window (pos 0) (pos 3_600) (pos 1_012)
    ∷ 1 of window (pos 0) (pos 3_600) (pos 1_372)
    ∷ 1 of window (pos 0) (pos 3_600) (pos 1_373)
    ∷ 1 of window (pos 0) (pos 3_600) (drawn 1_192)
    ∷ 1 of window (pos 28_012) (pos 2_599) (pos 1_011)
    ∷ 1 of window (pos 0) (pos 2_599) (pos 1_011)
    ∷ []

abbrev window_numbers : List ℕ
window_numbers =
    0 ∷ 3 ∷ 0 ∷ 3 ∷ 4 ∷ 0 ∷ 0 ∷ 4 ∷ 4 ∷ 5 ∷ 0 ∷ 0 ∷ 5 ∷ 5 ∷ 3 ∷ 4 ∷ []

-- rests; 6 before 5
abbrev rests : List Repeated
rests =
    1 of rest 0 (pos 1_192)
    ∷ 1 of rest 1 (pos 1_192)
    ∷ 1 of rest 506_251 (pos 1_192)
    ∷ 1 of rest 1 (pos 1_011)
    ∷ 1 of rest 1 (pos 1_012)
    ∷ 1 of rest 1 (pos 1_372)
    ∷ 1 of rest 1 (pos 1_373)
    ∷ 1 of rest 1 (drawn 1_192)
    ∷ 1 of rest 0 (pos 1_011)
    ∷ 1 of rest 506_251 (pos 1_373)
    ∷ []

abbrev rest_numbers : List ℕ
rest_numbers =
    6 ∷ 0 ∷ 6 ∷ 5 ∷ 0 ∷ 0 ∷ 5 ∷ 5 ∷ 6 ∷ 6 ∷ []

-- addresses past 0x03, keys beside 0xA9 and 0x56, every command bit under each key; 11 for AR 0 alone
abbrev writes : List Repeated
writes =
    1 of write 0x04 (byte 0xA9)
    ∷ 1 of write 0x7F (byte 0x01)
    ∷ 1 of write 0x00 (byte 0xA8)
    ∷ 1 of write 0x00 (byte 0xAA)
    ∷ 1 of write 0x00 (byte 0x55)
    ∷ 1 of write 0x00 (byte 0x57)
    ∷ 1 of write 0x00 (byte 0xA9)
    ∷ 1 of write 0x00 (byte 0x56)
    ∷ 1 of write 0x01 (byte 0x20)
    ∷ 1 of write 0x00 (byte 0x56)
    ∷ 1 of write 0x01 (byte 0x10)
    ∷ 1 of write 0x00 (byte 0x56)
    ∷ 1 of write 0x01 (byte 0x08)
    ∷ 1 of write 0x00 (byte 0x56)
    ∷ 1 of write 0x01 (byte 0x02)
    ∷ 1 of write 0x00 (byte 0x56)
    ∷ 1 of write 0x01 (byte 0x01)
    ∷ 1 of write 0x00 (byte 0x56)
    ∷ 1 of write 0x00 (byte 0xA9)
    ∷ 1 of write 0x02 (byte 0x01)
    ∷ 1 of write 0x00 (byte 0x56)
    ∷ 1 of write 0x00 (byte 0x56)
    ∷ 1 of write 0x01 (byte 0x01)
    ∷ 1 of write 0x02 (byte 0x00)
    ∷ 1 of write 0x03 (byte 0x01)
    ∷ 1 of write 0x00 (byte 0x56)
    ∷ 1 of write 0x01 (byte 0x20)
    ∷ 1 of write 0x00 (byte 0xA9)
    ∷ 1 of write 0x01 (byte 0x10)
    ∷ 1 of write 0x00 (byte 0xA9)
    ∷ 1 of write 0x01 (byte 0x08)
    ∷ 1 of write 0x00 (byte 0xA9)
    ∷ 1 of write 0x01 (byte 0x02)
    ∷ 1 of write 0x00 (byte 0xA9)
    ∷ 1 of write 0x01 (byte 0x01)
    ∷ 1 of write 0x00 (byte 0xA9)
    ∷ 1 of write 0x01 (byte 0x23)
    ∷ 1 of write 0x00 (byte 0xA9)
    ∷ 1 of write 0x01 (byte 0x1B)
    ∷ 1 of write 0x00 (byte 0xA9)
    ∷ 1 of write 0x01 (byte 0x0B)
    ∷ 1 of write 0x00 (byte 0xA9)
    ∷ 1 of write 0x01 (byte 0x03)
    ∷ 1 of write 0x00 (byte 0xA9)
    ∷ 1 of write 0x01 (byte 0xC4)
    ∷ 1 of write 0x00 (byte 0xA9)
    ∷ []

abbrev write_numbers : List ℕ
write_numbers =
    7 ∷ 7 ∷ 8 ∷ 8 ∷ 8 ∷ 8 ∷ 9 ∷ 9 ∷ 0 ∷ 10 ∷ 0 ∷ 10 ∷ 0 ∷ 10 ∷ 0 ∷ 10 ∷ 0 ∷ 11 ∷ 10 ∷ 0 ∷ 0 ∷ 9 ∷ 0 ∷ 0 ∷ 0 ∷ 0 ∷ 0 ∷ 0 ∷ 0 ∷ 0
    ∷ 0 ∷ 0 ∷ 0 ∷ 0 ∷ 0 ∷ 10 ∷ 0 ∷ 0 ∷ 0 ∷ 0 ∷ 0 ∷ 0 ∷ 0 ∷ 0 ∷ 0 ∷ 9 ∷ []

-- reads; 12 before 13
abbrev reads : List Repeated
reads =
    1 of read 0x00 0 0 128
    ∷ 1 of read 0x00 1 0 128
    ∷ 1 of read 0x7F 1 0 1
    ∷ 1 of read 0x7F 2 0 4
    ∷ 1 of read 0x80 1 0 4
    ∷ 1 of read 0x00 128 0 128
    ∷ 1 of read 0x00 129 0 200
    ∷ 1 of read 0x0C 2 2 4
    ∷ 1 of read 0x0C 2 3 4
    ∷ 1 of read 0x0C 2 0 1
    ∷ 1 of read 0x7F 2 4 4
    ∷ 1 of read 0x7F 0 5 4
    ∷ []

abbrev read_numbers : List ℕ
read_numbers =
    12 ∷ 0 ∷ 0 ∷ 12 ∷ 12 ∷ 0 ∷ 12 ∷ 0 ∷ 13 ∷ 13 ∷ 12 ∷ 12 ∷ []

-- previews of 127, 128 and 129 bytes; 8 to 11 before 13
abbrev previews : List Repeated
previews =
    1 of write 0x01 (byte 0x30)
    ∷ 1 of preview (byte 0xA9) 128
    ∷ 1 of preview (byte 0xA9) 127
    ∷ 1 of preview (byte 0xA9) 129
    ∷ 1 of preview (byte 0xAA) 127
    ∷ 1 of preview (byte 0x56) 127
    ∷ 1 of write 0x01 (byte 0x44)
    ∷ 1 of preview (byte 0xA9) 127
    ∷ 1 of write 0x02 (byte 0x00)
    ∷ 1 of write 0x03 (byte 0x00)
    ∷ 1 of write 0x01 (byte 0x01)
    ∷ 1 of preview (byte 0x56) 127
    ∷ 1 of preview (byte 0xA9) 128
    ∷ []

abbrev preview_numbers : List ℕ
preview_numbers =
    0 ∷ 0 ∷ 13 ∷ 13 ∷ 8 ∷ 10 ∷ 0 ∷ 9 ∷ 0 ∷ 0 ∷ 0 ∷ 11 ∷ 10 ∷ []

-- estimates after 421 and 422 windows; 15 before 16
abbrev estimates : List Repeated
estimates =
    1 of rest 421 (pos 1_192)
    ∷ 1 of estimate (pos 3_700)
    ∷ 1 of estimate (pos 2_999)
    ∷ 1 of rest 1 (pos 1_192)
    ∷ 1 of estimate (pos 2_999)
    ∷ 1 of estimate (pos 3_000)
    ∷ 1 of estimate (pos 4_200)
    ∷ 1 of estimate (pos 4_201)
    ∷ 1 of estimate (drawn 3_700)
    ∷ 1 of window (pos 2) (pos 3_700) (pos 1_192)
    ∷ 1 of estimate (pos 3_700)
    ∷ 1 of window (pos 3) (pos 3_700) (pos 1_192)
    ∷ 1 of estimate (pos 3_700)
    ∷ []

abbrev estimate_numbers : List ℕ
estimate_numbers =
    0 ∷ 15 ∷ 15 ∷ 0 ∷ 16 ∷ 0 ∷ 0 ∷ 16 ∷ 16 ∷ 0 ∷ 0 ∷ 0 ∷ 15 ∷ []

pub record CallRows : Type 0 where
  pub windows_gauge : numbers_of bench windows ≡ window_numbers
  pub windows_history : refusals_of bench windows ≡ window_numbers
  pub windows_called : called_of bench windows ≡ window_numbers
  pub windows_saved : bytes_of bench windows
      ≡ 0x05 ∷ 0x04 ∷ 0x5E ∷ 0x77 ∷ 0x05 ∷ 0x21 ∷ 0x10 ∷ 0x00 ∷ 0x00 ∷ 0x6C ∷ 0x15 ∷ 0x00 ∷ 0x00 ∷ 0x00 ∷ 0x00 ∷ 0x00
      ∷ 0x00 ∷ 0x00 ∷ 0x00 ∷ 0x00 ∷ 0x00 ∷ 0x00 ∷ 0x00 ∷ 0x00 ∷ 0x00 ∷ 0x00 ∷ 0x00 ∷ 0x00 ∷ 0x04 ∷ 0xA0 ∷ 0x00 ∷ 0x00
      ∷ 0x00 ∷ 0x10 ∷ 0x0E ∷ 0x5C ∷ 0x05 ∷ 0x00 ∷ 0x00 ∷ 0x44 ∷ 0x10 ∷ 0x00 ∷ 0x00 ∷ 0x00 ∷ 0x00 ∷ 0x00 ∷ 0x00 ∷ 0x00
      ∷ 0x7A ∷ 0x8F ∷ 0x40 ∷ 0x01 ∷ 0x00 ∷ 0x00 ∷ 0x00 ∷ []
  pub windows_kept : history_of bench windows
      ≡ pos 0 ∷ pos 0 ∷ pos 0 ∷ pos 1_024 ∷ negsuc 0 ∷ pos 68
      ∷ pos 0 ∷ pos 0 ∷ pos 0 ∷ pos 5_378_112_000 ∷ []
  pub rests_gauge : numbers_of bench rests ≡ rest_numbers
  pub rests_history : refusals_of bench rests ≡ rest_numbers
  pub rests_called : called_of bench rests ≡ rest_numbers
  pub rests_saved : bytes_of bench rests
      ≡ 0x05 ∷ 0x04 ∷ 0x5E ∷ 0x77 ∷ 0x05 ∷ 0x21 ∷ 0x10 ∷ 0x00 ∷ 0x00 ∷ 0x6C ∷ 0x15 ∷ 0x00 ∷ 0x00 ∷ 0x00 ∷ 0x00 ∷ 0x00
      ∷ 0x00 ∷ 0x00 ∷ 0x00 ∷ 0x00 ∷ 0x00 ∷ 0x00 ∷ 0x00 ∷ 0x00 ∷ 0x00 ∷ 0x00 ∷ 0x00 ∷ 0x00 ∷ 0x04 ∷ 0xA0 ∷ 0x00 ∷ 0x00
      ∷ 0x00 ∷ 0x00 ∷ 0x00 ∷ 0x5C ∷ 0x05 ∷ 0x00 ∷ 0x00 ∷ 0x44 ∷ 0x10 ∷ 0x03 ∷ 0x00 ∷ 0x00 ∷ 0x00 ∷ 0x00 ∷ 0x00 ∷ 0x00
      ∷ 0x00 ∷ 0x00 ∷ 0x00 ∷ 0x00 ∷ 0x00 ∷ 0x00 ∷ 0x00 ∷ []
  pub rests_kept : history_of bench rests
      ≡ pos 0 ∷ pos 0 ∷ pos 0 ∷ pos 1_024 ∷ negsuc 0 ∷ pos 68
      ∷ pos 0 ∷ pos 3 ∷ pos 0 ∷ pos 0 ∷ []
  pub writes_gauge : numbers_of bench writes ≡ write_numbers
  pub writes_history : refusals_of bench writes ≡ write_numbers
  pub writes_called : called_of bench writes ≡ write_numbers
  pub writes_saved : bytes_of bench writes
      ≡ 0x05 ∷ 0x04 ∷ 0x5E ∷ 0x77 ∷ 0x05 ∷ 0x21 ∷ 0x10 ∷ 0x00 ∷ 0x00 ∷ 0x6C ∷ 0x15 ∷ 0x00 ∷ 0x00 ∷ 0x00 ∷ 0x00 ∷ 0x00
      ∷ 0x00 ∷ 0x00 ∷ 0x00 ∷ 0x00 ∷ 0x00 ∷ 0x00 ∷ 0x00 ∷ 0x00 ∷ 0x00 ∷ 0x00 ∷ 0x00 ∷ 0x00 ∷ 0x04 ∷ 0xA0 ∷ 0x00 ∷ 0x00
      ∷ 0x00 ∷ 0x00 ∷ 0x00 ∷ 0x00 ∷ 0x00 ∷ 0x00 ∷ 0x00 ∷ 0xC4 ∷ 0x10 ∷ 0x00 ∷ 0x00 ∷ 0x00 ∷ 0x00 ∷ 0x00 ∷ 0x00 ∷ 0x00
      ∷ 0x00 ∷ 0x00 ∷ 0x00 ∷ 0x00 ∷ 0x00 ∷ 0x00 ∷ 0x00 ∷ []
  pub writes_kept : history_of bench writes
      ≡ pos 0 ∷ pos 0 ∷ pos 0 ∷ pos 1_024 ∷ negsuc 0 ∷ pos 196
      ∷ pos 0 ∷ pos 0 ∷ pos 0 ∷ pos 0 ∷ []
  pub reads_gauge : numbers_of bench reads ≡ read_numbers
  pub reads_history : refusals_of bench reads ≡ read_numbers
  pub reads_called : called_of bench reads ≡ read_numbers
  pub previews_gauge : numbers_of bench previews ≡ preview_numbers
  pub previews_history : refusals_of bench previews ≡ preview_numbers
  pub previews_called : called_of bench previews ≡ preview_numbers
  pub previews_saved : bytes_of bench previews
      ≡ 0x05 ∷ 0x04 ∷ 0x5E ∷ 0x77 ∷ 0x05 ∷ 0x21 ∷ 0x10 ∷ 0x00 ∷ 0x00 ∷ 0x6C ∷ 0x15 ∷ 0x00 ∷ 0x00 ∷ 0x00 ∷ 0x00 ∷ 0x00
      ∷ 0x00 ∷ 0x00 ∷ 0x00 ∷ 0x00 ∷ 0x00 ∷ 0x00 ∷ 0x00 ∷ 0x00 ∷ 0x00 ∷ 0x00 ∷ 0x00 ∷ 0x00 ∷ 0x04 ∷ 0xA0 ∷ 0x00 ∷ 0x00
      ∷ 0x00 ∷ 0x00 ∷ 0x00 ∷ 0x00 ∷ 0x00 ∷ 0x00 ∷ 0x00 ∷ 0x01 ∷ 0x10 ∷ 0x00 ∷ 0x00 ∷ 0x00 ∷ 0x00 ∷ 0x00 ∷ 0x00 ∷ 0x00
      ∷ 0x00 ∷ 0x00 ∷ 0x00 ∷ 0x00 ∷ 0x00 ∷ 0x00 ∷ 0x00 ∷ []
  pub estimates_gauge : numbers_of bench estimates ≡ estimate_numbers
  pub estimates_history : refusals_of bench estimates ≡ estimate_numbers
  pub estimates_called : called_of bench estimates ≡ estimate_numbers
  pub estimates_saved : bytes_of bench estimates
      ≡ 0x05 ∷ 0x04 ∷ 0x5E ∷ 0x77 ∷ 0x05 ∷ 0x21 ∷ 0x10 ∷ 0x00 ∷ 0x00 ∷ 0x6C ∷ 0x15 ∷ 0x00 ∷ 0xCA ∷ 0x08 ∷ 0x00 ∷ 0x00
      ∷ 0x00 ∷ 0x00 ∷ 0x00 ∷ 0x00 ∷ 0x00 ∷ 0x00 ∷ 0x00 ∷ 0x00 ∷ 0x00 ∷ 0x00 ∷ 0x00 ∷ 0x00 ∷ 0x04 ∷ 0xA0 ∷ 0x00 ∷ 0x03
      ∷ 0x00 ∷ 0x74 ∷ 0x0E ∷ 0xA8 ∷ 0x04 ∷ 0x00 ∷ 0x00 ∷ 0x44 ∷ 0x90 ∷ 0x00 ∷ 0x00 ∷ 0x00 ∷ 0x00 ∷ 0x00 ∷ 0x00 ∷ 0x00
      ∷ 0x00 ∷ 0x00 ∷ 0x00 ∷ 0x00 ∷ 0x00 ∷ 0x00 ∷ 0x00 ∷ []
  pub estimates_kept : history_of bench estimates
      ≡ pos 0 ∷ pos 3 ∷ pos 0 ∷ pos 1_024 ∷ negsuc 0 ∷ pos 68
      ∷ pos 0 ∷ pos 0 ∷ pos 0 ∷ pos 0 ∷ []
