-- A4 of paper 02, "Charge from a rested cell": "After at least 422 rest windows, give an estimate from a voltage handed in: floor(permille × LMD /
-- 1,000), and its signed distance from NAC, estimate less NAC." Definitions only; assumes nothing.
use Rattle.std.specs.Prelude.{cond, ℕ, ◌*◌, ◌/◌, eqb, leb, ℤ, pos, ◌-ℤ◌}
use Rattle.gauge.specs.Answer.{unless_rejected}
use Rattle.gauge.specs.declared.state.Gauge.{Gauge}
use Rattle.grains.specs.Grains.{nac}
use Rattle.permille.specs.Table.{in_table, permille}
use Rattle.refusals.specs.Refusal as Refusal
use Rattle.refusals.specs.Refusal.{or_else}

-- ---- the numbers: 14, 15, 16

-- "at least 422 rest windows"
abbrev pub least_rests : ℕ
least_rests = 422

-- 15, "fewer than 422 rest windows"
abbrev pub rests_refusal : ℕ → ℕ
rests_refusal rests = cond (leb least_rests rests) Refusal.none Refusal.not_rested

-- "then 16 voltage outside the table"
abbrev pub table_refusal : ℤ → ℕ
table_refusal v = cond (in_table v) Refusal.none Refusal.outside_table

unfoldable pub estimate_refusal : Gauge → ℤ → ℕ
estimate_refusal g v = unless_rejected g (or_else (rests_refusal g.counters.rests) (table_refusal v))

-- ---- what is handed out

-- "floor(permille × LMD / 1,000)"
unfoldable pub estimated : ℕ → ℕ → ℕ
estimated perMille lmd = perMille * lmd / 1_000

-- "its signed distance from NAC, estimate less NAC"
unfoldable pub distance_from : ℕ → ℕ → ℤ
distance_from counts estimate = pos estimate -ℤ pos counts

abbrev pub estimate_of : Gauge → ℤ → ℕ
estimate_of g v = estimated (permille v) g.charge.lmd

abbrev pub distance_of : Gauge → ℤ → ℤ
distance_of g v = distance_from (nac g.charge.held) (estimate_of g v)

-- what a caller's number is afterwards: one that is handed out, or, on a refusal, the one that stood there
abbrev pub handed_out : {A : Type 0} → ℕ → A → A → A
handed_out number given before = cond (eqb number Refusal.none) given before

unfoldable pub estimate_after : Gauge → ℤ → ℕ → ℕ
estimate_after g v before = handed_out (estimate_refusal g v) (estimate_of g v) before

unfoldable pub distance_after : Gauge → ℤ → ℤ → ℤ
distance_after g v before = handed_out (estimate_refusal g v) (distance_of g v) before
