-- The ways of a call that moves the gauge: 14 is tested first, and what passes it is the gauge that the bytes hold. Assumes nothing.
use mathlib.Core.Bool.{true}
use mathlib.Core.List.{List}
use mathlib.Core.Path.{◌≡◌, sym, ap, ◌∙◌}
use Prim.Native.Nat.{ℕ}
use borrow.Author.Tests.{ne_eqb}
use Rattle.form.specs.Form.{newest}
use Rattle.gauge.specs.Accepted.{accepted}
use Rattle.gauge.specs.Answer.{Answer, unless_rejected}
use Rattle.gauge.specs.declared.state.Gauge.{Gauge}
use Rattle.load.specs.Load.{answer_in, decoded_gauge, form_fits}
use Rattle.load.proofs.LoadLaws.{decoded_is, gauge_loaded, loads}
use Rattle.refusals.specs.Refusal as Refusal
use Rattle.refusals.specs.declared.Refusal as Declared
use Rattle.refusals.proofs.OrElseLaws.{none_first, number_above, refused_first}
use Rattle.saved.specs.Call.{call_bytes, call_number}
use Rattle.saved.specs.Save.{saved_bytes}

-- ---- what passes

module _ (saved : List ℕ) (passed : Refusal.none ≡ (answer_in newest saved).number) where
  pub passed_fits : form_fits newest saved ≡ true
  passed_fits = (loads newest saved (sym passed)).fits

  pub passed_accepted : accepted (decoded_gauge saved) ≡ true
  passed_accepted = ap accepted (decoded_is saved passed_fits) ∙ (loads newest saved (sym passed)).accepted

  pub passed_unrejected : unless_rejected (decoded_gauge saved) Refusal.none ≡ Refusal.none
  passed_unrejected = simp passed_accepted

-- ---- the ways of a call

module _ (saved : List ℕ) (call : Gauge → Answer) where
  abbrev Is : ℕ → List ℕ → Type 0
  Is number after = (number ≡ call_number saved call) × (after ≡ call_bytes saved call)

  leaves : (refusal : Declared.Refusal) → call_number saved call ≡ Refusal.number refusal → Is (Refusal.number refusal) saved
  unfolding call_bytes
  leaves refusal e = (sym e, simp (ne_eqb (call_number saved call) Refusal.none (λ z. number_above refusal (sym e ∙ z))))

  -- 14
  pub untested : (refusal : Declared.Refusal) → Refusal.number refusal ≡ (answer_in newest saved).number → Is (Refusal.number refusal) saved
  unfolding call_number
  untested refusal e = leaves refusal (refused_first _ _ refusal (sym e))

  module _ (passed : Refusal.none ≡ (answer_in newest saved).number) where
    number_is : call_number saved call ≡ (call (decoded_gauge saved)).number
    unfolding call_number
    number_is =
        none_first _ _ (sym passed) ∙ ap (λ (g : Gauge). (call g).number) (sym (gauge_loaded saved (sym passed)))

    -- the call's own number
    pub refuses : (refusal : Declared.Refusal) → (call (decoded_gauge saved)).number ≡ Refusal.number refusal → Is (Refusal.number refusal) saved
    refuses refusal e = leaves refusal (number_is ∙ e)

    -- the work is done
    pub moves : {next : Gauge} {after : List ℕ} → (call (decoded_gauge saved)).number ≡ Refusal.none → next ≡ (call (decoded_gauge saved)).gauge
        → after ≡ saved_bytes next → Is Refusal.none after
    unfolding call_bytes
    moves z e p =
        let n = number_is ∙ z in
        (sym n, simp n (p ∙ ap saved_bytes e ∙ ap (λ (g : Gauge). saved_bytes (call g).gauge) (gauge_loaded saved (sym passed))))
