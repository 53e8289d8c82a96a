-- The names of fields: two with the same number are the same, what holds of each field of the newest form holds of every name, and a field of a name
-- is no wider than another form has it. Assumes nothing.
use mathlib.Core.Bool.{Bool, true, false, ◌&&◌, cond}
use mathlib.Core.List.{List, [], ◌∷◌}
use mathlib.Core.Path.{◌≡◌, refl, sym, ap, subst, ◌∙◌}
use Prim.Native.Nat.{ℕ, zero, suc, ◌≤◌}
use native.Mathlib.Omega.{arith}
use lib.Dec.{T, leb}
use lib.ListN.{get_or}
use borrow.Author.Tests.{eqb-true, leb-true}
use Rattle.numbers.proofs.BoolLaws.{and_left, and_right}
use Rattle.form.specs.Form.{Ar, Configuration, Current, CycleDrain, Cyct, Dcr, Flags, FormNumber, Held, Lmd, Mode, Rests, Standby, Temperature, Voltage}
use Rattle.form.specs.Form.{Field, Form, Name, name_number, newest, of_bytes, of_number, same_name, width_of, ◌takes◌}

-- the name of a number: names have the order of the newest form
name_of : ℕ → Name
name_of n = (get_or newest.fields n (FormNumber takes 1)).name

name_back : (n : Name) → name_of (name_number n) ≡ n
unfolding name_of
name_back (of_number FormNumber) = refl
name_back (of_bytes Configuration) = refl
name_back (of_number Held) = refl
name_back (of_number Dcr) = refl
name_back (of_number Lmd) = refl
name_back (of_number Standby) = refl
name_back (of_number Current) = refl
name_back (of_number Voltage) = refl
name_back (of_number Temperature) = refl
name_back (of_number Ar) = refl
name_back (of_number Mode) = refl
name_back (of_number Flags) = refl
name_back (of_number Rests) = refl
name_back (of_number Cyct) = refl
name_back (of_number CycleDrain) = refl

pub same_is : (m n : Name) → same_name m n ≡ true → m ≡ n
same_is m n e = sym (name_back m) ∙ ap name_of (eqb-true (name_number m) (name_number n) e) ∙ name_back n

-- ---- each name

module _ (P : Name → Type 0) where
  -- what is said of a name holds of each of some fields
  abbrev pub Each : List Field → Type 0
  Each [] = T true
  Each (f ∷ fs) = P f.name × Each fs

  pub each_of : ((n : Name) → P n) → (fs : List Field) → Each fs
  each_of p [] = tt
  each_of p (f ∷ fs) = (p f.name, each_of p fs)

  each_at : (default : Field) → P default.name → (fs : List Field) → Each fs → (k : ℕ) → P (get_or fs k default).name
  each_at default p [] e k = p
  each_at default p (f ∷ fs) e zero = e.0
  each_at default p (f ∷ fs) e (suc k) = each_at default p fs e.1 k

  pub every_name : Each newest.fields → (n : Name) → P n
  unfolding name_of
  every_name e n = subst P (name_back n) (each_at (FormNumber takes 1) e.0 newest.fields e (name_number n))

-- a test that each of the fields passes
module _ (test : Name → Bool) where
  abbrev pub all_pass : List Field → Bool
  all_pass [] = true
  all_pass (f ∷ fs) = test f.name && all_pass fs

  each_passes : (fs : List Field) → all_pass fs ≡ true → Each (λ (n : Name). T (test n)) fs
  each_passes [] e = tt
  each_passes (f ∷ fs) e =
      (subst T (sym (and_left (test f.name) (all_pass fs) e)) tt, each_passes fs (and_right (test f.name) (all_pass fs) e))

  pub each_true : (fs : List Field) → all_pass fs ≡ true → Each (λ (n : Name). test n ≡ true) fs
  each_true [] e = tt
  each_true (f ∷ fs) e = (and_left (test f.name) (all_pass fs) e, each_true fs (and_right (test f.name) (all_pass fs) e))

-- whether fields have a name
abbrev pub has : Name → List Field → Bool
has n [] = false
has n (f ∷ fs) = cond (same_name n f.name) true (has n fs)

-- the newest form has every name
pub newest_has : (n : Name) → T (has n newest.fields)
newest_has n =
    every_name (λ (m : Name). T (has m newest.fields)) (each_passes (λ (m : Name). has m newest.fields) newest.fields refl) n

-- ---- widths

module _ (form : Form) where
  -- what the form has of some fields is no wider
  abbrev pub no_wider : List Field → Bool
  no_wider [] = true
  no_wider (f ∷ fs) = leb (width_of f.name form.fields) f.width && no_wider fs

  pub width_within : (n : Name) (fs : List Field) → T (has n fs) → no_wider fs ≡ true → width_of n form.fields ≤ width_of n fs
  width_within n [] h e = absurd h
  width_within n (f ∷ fs) h e =
      let own = width_of f.name form.fields in
      let test = leb own f.width in
      go (same_name n f.name) refl h (leb-true own f.width (and_left test (no_wider fs) e)) (λ k. width_within n fs k (and_right test (no_wider fs) e))
    where
      go : (t : Bool) → same_name n f.name ≡ t → T (cond t true (has n fs)) → width_of f.name form.fields ≤ f.width
          → (T (has n fs) → width_of n form.fields ≤ width_of n fs) → width_of n form.fields ≤ cond t f.width (width_of n fs)
      go true s k bound within =
          let name : width_of n form.fields ≡ width_of f.name form.fields = ap (λ (m : Name). width_of m form.fields) (same_is n f.name s) in
          omega arith
      go false s k bound within = within k
