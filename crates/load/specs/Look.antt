-- A call that looks at the gauge in the saved bytes and leaves them: 14 is "tested first", then the call's own number. Definitions only; assumes nothing.
use Rattle.std.specs.Prelude.{cond, List, ℕ, eqb}
use Rattle.form.specs.Form.{newest}
use Rattle.gauge.specs.declared.state.Gauge.{Gauge}
use Rattle.refusals.specs.Refusal as Refusal
use Rattle.refusals.specs.Refusal.{or_else}
use Rattle.load.specs.Load.{answer_in}

unfoldable pub look_number : List ℕ → (Gauge → ℕ) → ℕ
look_number saved number = or_else (answer_in newest saved).number (number (answer_in newest saved).gauge)

-- what a lent reply or number holds afterwards
unfoldable pub look_leaves : {A : Type 0} → List ℕ → (Gauge → A) → A → A
look_leaves saved after before = cond (eqb (answer_in newest saved).number Refusal.none) (after (answer_in newest saved).gauge) before
