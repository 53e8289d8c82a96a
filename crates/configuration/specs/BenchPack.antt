-- "Bench pack" of paper 01. Definitions only; assumes nothing.
use Rattle.std.specs.Prelude.{List, [], ◌∷◌, ℕ}

-- "04 5E 77 05 21 10 00 00 6C 15 (hexadecimal)"
abbrev pub bench_pack : List ℕ
bench_pack = 0x04 ∷ 0x5E ∷ 0x77 ∷ 0x05 ∷ 0x21 ∷ 0x10 ∷ 0x00 ∷ 0x00 ∷ 0x6C ∷ 0x15 ∷ []
