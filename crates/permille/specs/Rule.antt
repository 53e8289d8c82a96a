-- A4 of paper 02, the rule of its table: "the floored straight line between 3000:0, 3400:40, 3600:140, 3700:350, 3800:560, 3900:700, 4000:830,
-- 4100:930, 4200:1000". Definitions only; assumes nothing.
use Rattle.std.specs.Prelude.{cond, List, [], ◌∷◌, ℕ, ◌+◌, ◌-◌, ◌*◌, ◌/◌, leb}

-- a voltage in mV and its permille of the capacity
pub record Point : Type 0 where
  pub voltage : ℕ
  pub permille : ℕ

infix 70 ◌has◌
abbrev pub ◌has◌ : ℕ → ℕ → Point
voltage has permille = record { voltage = voltage; permille = permille }

abbrev pub first_point : Point
first_point = 3_000 has 0

abbrev pub further_points : List Point
further_points =
    3_400 has 40 ∷ 3_600 has 140 ∷ 3_700 has 350 ∷ 3_800 has 560 ∷ 3_900 has 700 ∷ 4_000 has 830 ∷ 4_100 has 930 ∷ 4_200 has 1_000 ∷ []

-- "the floored straight line between" two points
abbrev pub line_between : Point → Point → ℕ → ℕ
line_between a b v = a.permille + (v - a.voltage) * (b.permille - a.permille) / (b.voltage - a.voltage)

-- from one point on: the line to the next one up to its voltage, then on from there
abbrev pub line_from : Point → List Point → ℕ → ℕ
line_from a [] v = a.permille
line_from a (b ∷ points) v = cond (leb v b.voltage) (line_between a b v) (line_from b points v)

-- "Its rule"
unfoldable pub rule : ℕ → ℕ
rule v = line_from first_point further_points v
