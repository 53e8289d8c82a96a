-- A call that moves the gauge in the saved bytes: 14 is "tested first", then the call's own number; "On success window and write leave the new gauge
-- saved in the same bytes." Definitions only; assumes nothing.
use Rattle.std.specs.Prelude.{cond, List, ℕ, eqb}
use Rattle.form.specs.Form.{newest}
use Rattle.gauge.specs.Answer.{Answer}
use Rattle.gauge.specs.declared.state.Gauge.{Gauge}
use Rattle.load.specs.Load.{answer_in}
use Rattle.refusals.specs.Refusal as Refusal
use Rattle.refusals.specs.Refusal.{or_else}
use Rattle.saved.specs.Save.{saved_bytes}

unfoldable pub call_number : List ℕ → (Gauge → Answer) → ℕ
call_number saved call = or_else (answer_in newest saved).number (call (answer_in newest saved).gauge).number

unfoldable pub call_bytes : List ℕ → (Gauge → Answer) → List ℕ
call_bytes saved call = cond (eqb (call_number saved call) Refusal.none) (saved_bytes (call (answer_in newest saved).gauge).gauge) saved
