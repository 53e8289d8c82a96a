-- What every call on a gauge answers. Definitions only; assumes nothing.
use Rattle.std.specs.Prelude.{cond, ℕ, eqb}
use Rattle.refusals.specs.Refusal as Refusal
use Rattle.gauge.specs.Accepted.{accepted}
use Rattle.gauge.specs.declared.state.Gauge.{Gauge}

-- a number, 0 or that of a refusal, and the gauge that follows
pub record Answer : Type 0 where
  pub number : ℕ
  pub gauge : Gauge

-- the number alone and the gauge as it was, or 0 and the gauge that follows
abbrev pub answered : ℕ → Gauge → Gauge → Answer
answered number before after = record { number = number; gauge = cond (eqb number Refusal.none) after before }

-- 14, "saved bytes or gauge value rejected", before any other
abbrev pub unless_rejected : Gauge → ℕ → ℕ
unless_rejected g number = cond (accepted g) number Refusal.rejected
