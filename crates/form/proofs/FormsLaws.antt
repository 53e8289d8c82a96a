-- What holds of the newest form and of every older one holds of the form of every number. Assumes nothing.
use mathlib.Core.Bool.{Bool, true, false, ◌&&◌, cond}
use mathlib.Core.List.{List, [], ◌∷◌}
use mathlib.Core.Path.{◌≡◌}
use Prim.Native.Nat.{ℕ}
use lib.Dec.{T, eqb}
use Rattle.numbers.proofs.BoolLaws.{and_left, and_right}
use Rattle.form.specs.Form.{Form, form_among, form_numbered, newest, older}

module _ (P : Form → Type 0) where
  abbrev pub EachForm : List Form → Type 0
  EachForm [] = T true
  EachForm (form ∷ forms) = P form × EachForm forms

  among : (n : ℕ) (forms : List Form) → P newest → EachForm forms → P (form_among n forms)
  among n [] p q = p
  among n (form ∷ forms) p q = go (eqb n form.number) q.0 (among n forms p q.1)
    where
      go : (t : Bool) → P form → P (form_among n forms) → P (cond t form (form_among n forms))
      go true a b = a
      go false a b = b

  pub every_form : P newest → EachForm older → (n : ℕ) → P (form_numbered n)
  every_form p q n = among n older p q

-- a test that each form of a list passes
module _ (test : Form → Bool) where
  abbrev pub all_pass : List Form → Bool
  all_pass [] = true
  all_pass (form ∷ forms) = test form && all_pass forms

  each_passes : (forms : List Form) → all_pass forms ≡ true → EachForm (λ (form : Form). test form ≡ true) forms
  each_passes [] e = tt
  each_passes (form ∷ forms) e = (and_left (test form) (all_pass forms) e, each_passes forms (and_right (test form) (all_pass forms) e))

  pub every_form_passes : test newest ≡ true → all_pass older ≡ true → (n : ℕ) → test (form_numbered n) ≡ true
  every_form_passes p q n = every_form (λ (form : Form). test form ≡ true) p (each_passes older q) n
