-- The ways through a call that looks at the saved bytes, for every such call alike: 14 for bytes that are not in the form, else the proved call on
-- the gauge value that they hold, which answers 14 and hands nothing out where that value is rejected. Assumes nothing.
use mathlib.Core.Bool.{Bool, true, false}
use mathlib.Core.List.{List}
use mathlib.Core.Path.{◌≡◌, refl, sym, ap, ◌∙◌}
use Prim.Native.Nat.{ℕ}
use Rattle.form.specs.Form.{newest}
use Rattle.gauge.specs.Accepted.{accepted}
use Rattle.gauge.specs.declared.state.Gauge.{Gauge}
use Rattle.load.specs.Load.{form_fits, loaded, rejected_answer}
use Rattle.load.proofs.LoadLaws.{accepted_loads, misfit_loads, rejected_loads}
use Rattle.refusals.specs.Refusal as Refusal
use Rattle.load.specs.Look.{look_leaves, look_number}

-- what a call on a gauge value yields for one that is rejected: 14 for the number, what stood there for what is lent
pub record ForRejected {A : Type 0} (yields : Gauge → A) (a : A) : Type 0 where
  pub is : (g : Gauge) → accepted g ≡ false → yields g ≡ a

module _ (saved : List ℕ) where
  -- ---- the bytes are not in the form

  module _ (f : form_fits newest saved ≡ false) where
    pub misfit_number : (number : Gauge → ℕ) → Refusal.rejected ≡ look_number saved number
    unfolding look_number rejected_answer
    misfit_number number = let l = sym (misfit_loads newest saved f refl) in simp l

    pub misfit_leaves : {A : Type 0} (after : Gauge → A) (before : A) → before ≡ look_leaves saved after before
    unfolding look_leaves rejected_answer
    misfit_leaves after before = let l = sym (misfit_loads newest saved f refl) in simp l

  -- ---- they are

  module _ (f : form_fits newest saved ≡ true) {g : Gauge} (e : g ≡ loaded newest saved) where
    pub look_number_lem : {number : Gauge → ℕ} → ForRejected number Refusal.rejected → {r : ℕ} → r ≡ number g → r ≡ look_number saved number
    unfolding look_number rejected_answer
    look_number_lem {number} rejects p = p ∙ ap number e ∙ go (accepted (loaded newest saved)) refl
      where
        go : (t : Bool) → accepted (loaded newest saved) ≡ t → number (loaded newest saved) ≡ look_number saved number
        go true a = let l = sym (accepted_loads newest saved f refl a) in simp l
        go false a = let l = sym (rejected_loads newest saved f a) in simp l (rejects.is (loaded newest saved) a)

    pub look_leaves_lem : {A : Type 0} {after : Gauge → A} {before : A} → ForRejected after before → {r : A} → r ≡ after g
        → r ≡ look_leaves saved after before
    unfolding look_leaves rejected_answer
    look_leaves_lem {after = after} {before} keeps p = p ∙ ap after e ∙ go (accepted (loaded newest saved)) refl
      where
        go : (t : Bool) → accepted (loaded newest saved) ≡ t → after (loaded newest saved) ≡ look_leaves saved after before
        go true a = let l = sym (accepted_loads newest saved f refl a) in simp l
        go false a = let l = sym (rejected_loads newest saved f a) in simp l (keeps.is (loaded newest saved) a)
