-- The test of 14 in a call that looks: bytes of another length do not pass it, and what passes is the gauge that the bytes hold. Assumes nothing.
use mathlib.Core.Bool.{Bool, true, false}
use mathlib.Core.List.{List}
use mathlib.Core.Path.{◌≡◌, refl, ap, ◌∙◌}
use Prim.Native.Nat.{ℕ}
use lib.ListN.{length}
use Rattle.form.specs.Form.{newest, saved_length}
use Rattle.gauge.specs.Accepted.{accepted}
use Rattle.gauge.specs.declared.state.Gauge.{Gauge}
use Rattle.load.specs.Load.{answer_in, decoded_gauge, form_fits, rejected_answer}
use Rattle.load.specs.Look.{look_leaves, look_number}
use Rattle.load.proofs.LoadLaws.{decoded_is, form_length, gauge_loaded, loads}
use Rattle.refusals.specs.Refusal as Refusal

-- bytes of another length hold no gauge
pub misfit_answer : (saved : List ℕ) → (length saved ≡ saved_length → ⊥) → (answer_in newest saved).number ≡ Refusal.rejected
unfolding answer_in rejected_answer
misfit_answer saved n = go (form_fits newest saved) refl
  where
    go : (t : Bool) → form_fits newest saved ≡ t → (answer_in newest saved).number ≡ Refusal.rejected
    go true f = absurd (n (form_length newest saved f))
    go false f = simp f

module _ (saved : List ℕ) (z : (answer_in newest saved).number ≡ Refusal.none) where
  pub held_accepted : accepted (decoded_gauge saved) ≡ true
  held_accepted = let w = loads newest saved z in ap accepted (decoded_is saved w.fits) ∙ w.accepted

  pub held_number : (f : Gauge → ℕ) → f (decoded_gauge saved) ≡ look_number saved f
  unfolding look_number
  held_number f = ap f (gauge_loaded saved z) ∙ simp z

  pub held_leaves : {A : Type 0} (after : Gauge → A) (before : A) → after (decoded_gauge saved) ≡ look_leaves saved after before
  unfolding look_leaves
  held_leaves after before = ap after (gauge_loaded saved z) ∙ simp z
