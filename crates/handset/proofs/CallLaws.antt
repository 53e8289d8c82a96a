-- The calls that move the gauge with their numbers as handed in, and what is kept of an opening's or a conversion's answer. Assumes nothing.
use mathlib.Core.Bool.{Bool, true, false, cond}
use mathlib.Core.List.{List}
use mathlib.Core.Path.{◌≡◌, refl, ap, ◌∙◌}
use Prim.Native.Nat.{ℕ}
use lib.Dec.{eqb}
use lib.IntN.{ℤ}
use lib.ListN.{length}
use Rattle.every_form.specs.EveryForm.{load_answer}
use Rattle.form.specs.Form.{saved_length}
use Rattle.gauge.specs.Answer.{Answer}
use Rattle.refusals.specs.Refusal as Refusal
use Rattle.saved.specs.Save.{put_after, saved_bytes}
use Rattle.handset.specs.Calls.{call_bytes, call_number, convert_bytes, convert_number, rest_call, window_call}
use Rattle.handset.specs.Keep.{kept_bytes, kept_number}

-- ---- equal arguments

module _ (saved : List ℕ) {t u : ℤ} {r : ℕ} {after : List ℕ} (z : t ≡ u) where
  pub windowed : {a b v w : ℤ} → a ≡ b → v ≡ w → r ≡ call_number saved (window_call a v t) → after ≡ call_bytes saved (window_call a v t)
      → (r ≡ call_number saved (window_call b w u)) × (after ≡ call_bytes saved (window_call b w u))
  windowed {a} {b} {v} {w} x y p q =
      let same = ap (λ (n : ℤ). window_call n v t) x ∙ ap (λ (n : ℤ). window_call b n t) y ∙ ap (window_call b w) z in
      (p ∙ ap (call_number saved) same, q ∙ ap (call_bytes saved) same)

  pub rested : (n : ℕ) → r ≡ call_number saved (rest_call n t) → after ≡ call_bytes saved (rest_call n t)
      → (r ≡ call_number saved (rest_call n u)) × (after ≡ call_bytes saved (rest_call n u))
  rested n p q = let same = ap (rest_call n) z in (p ∙ ap (call_number saved) same, q ∙ ap (call_bytes saved) same)

-- ---- opening and a conversion

-- what is kept of an answer, by its own number and 13
pub kept_is : (answer : Answer) (saved : List ℕ)
    → kept_bytes answer saved ≡ cond (eqb (kept_number answer (length saved)) Refusal.none) (saved_bytes answer.gauge) saved
unfolding kept_number kept_bytes put_after
kept_is answer saved = go (eqb answer.number 0) (eqb (length saved) saved_length) refl
  where
    go : (t u : Bool) → eqb answer.number 0 ≡ t
        → cond t (cond u (saved_bytes answer.gauge) saved) saved ≡ cond (eqb (cond t (cond u 0 13) answer.number) 0) (saved_bytes answer.gauge) saved
    go true true e = refl
    go true false e = refl
    go false u e = simp e

-- a conversion
pub converts : (old saved : List ℕ) {answer : Answer} {r : ℕ} {after : List ℕ} → answer ≡ load_answer old → r ≡ kept_number answer (length saved)
    → after ≡ kept_bytes answer saved → (r ≡ convert_number old (length saved)) × (after ≡ convert_bytes old saved)
unfolding kept_number convert_number convert_bytes
converts old saved a p q = (
  p ∙ ap (λ (x : Answer). kept_number x (length saved)) a,
  q ∙ ap (λ (x : Answer). kept_bytes x saved) a ∙ kept_is (load_answer old) saved,
)
