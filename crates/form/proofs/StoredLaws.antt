-- A field stored among bytes that fields are laid out in: it reads back, and every other field is as it was. By induction over the list of fields, so that
-- they serve every form. Assumes nothing.
use mathlib.Core.Bool.{Bool, true, false, cond, false≢true, true≢false}
use mathlib.Core.List.{List, [], ◌∷◌, ◌++◌}
use mathlib.Core.Path.{◌≡◌, refl, sym, ap, ◌∙◌}
use Prim.Native.Nat.{ℕ, suc, ◌+◌}
use native.Mathlib.Omega.{arith}
use lib.ListN.{length, set}
use lib.Seq.{sets}
use Rattle.form.specs.Form.{Field, Name, field_of, laid_out, newest, place_of, same_name, width_of}
use Rattle.form.proofs.LaidOutLaws.{laid_found}
use Rattle.form.proofs.NamesLaws.{each_true, every_name, has, newest_has}

-- ---- stores in a list of two parts

sets_behind : (x : ℕ) (l : List ℕ) (i : ℕ) (vs : List ℕ) → sets (x ∷ l) (suc i) vs ≡ x ∷ sets l i vs
sets_behind x l i [] = refl
sets_behind x l i (v ∷ vs) = sets_behind x (set l i v) (suc i) vs

-- over the whole of the first
sets_first : (xs rest vs : List ℕ) → length vs ≡ length xs → sets (xs ++ rest) 0 vs ≡ vs ++ rest
sets_first [] rest [] e = refl
sets_first [] rest (v ∷ vs) e = let no : ⊥ = omega arith in absurd no
sets_first (x ∷ xs) rest [] e = let no : ⊥ = omega arith in absurd no
sets_first (x ∷ xs) rest (v ∷ vs) e = sets_behind v (xs ++ rest) 0 vs ∙ ap (λ (l : List ℕ). v ∷ l) (sets_first xs rest vs (omega arith))

-- in the second
sets_second : (xs rest : List ℕ) (i : ℕ) (vs : List ℕ) → sets (xs ++ rest) (length xs + i) vs ≡ xs ++ sets rest i vs
sets_second [] rest i vs = let e : 0 + i ≡ i = omega arith in ap (λ (k : ℕ). sets rest k vs) e
sets_second (x ∷ xs) rest i vs =
    let e : suc (length xs) + i ≡ suc (length xs + i) = omega arith in
    ap (λ (k : ℕ). sets (x ∷ (xs ++ rest)) k vs) e ∙ sets_behind x (xs ++ rest) (length xs + i) vs
    ∙ ap (λ (l : List ℕ). x ∷ l) (sets_second xs rest i vs)

-- ---- a field

-- whether fields have a name, and have it once
abbrev pub once : Name → List Field → Bool
once n [] = false
once n (f ∷ fs) = cond (same_name n f.name) (cond (has n fs) false true) (once n fs)

-- what fields have with other bytes in that of the name
abbrev pub changed : Name → (ℕ → List ℕ) → (Name → ℕ → List ℕ) → Name → ℕ → List ℕ
changed n new field_bytes m width = cond (same_name n m) (new width) (field_bytes m width)

module _ (n : Name) (new : ℕ → List ℕ) (wide : (width : ℕ) → length (new width) ≡ width) (field_bytes : Name → ℕ → List ℕ)
    (long : (m : Name) (width : ℕ) → length (field_bytes m width) ≡ width) where
  pub changed_length : (m : Name) (width : ℕ) → length (changed n new field_bytes m width) ≡ width
  changed_length m width = go (same_name n m)
    where
      go : (t : Bool) → length (cond t (new width) (field_bytes m width)) ≡ width
      go true = wide width
      go false = long m width

  -- fields without the name are as they were
  absent : (fs : List Field) → has n fs ≡ false → laid_out (changed n new field_bytes) fs ≡ laid_out field_bytes fs
  unfolding laid_out
  absent [] e = refl
  absent (f ∷ fs) e = go (same_name n f.name) e (absent fs)
    where
      go : (t : Bool) → cond t true (has n fs) ≡ false → (has n fs ≡ false → laid_out (changed n new field_bytes) fs ≡ laid_out field_bytes fs)
          → cond t (new f.width) (field_bytes f.name f.width) ++ laid_out (changed n new field_bytes) fs
          ≡ field_bytes f.name f.width ++ laid_out field_bytes fs
      go true p ih = absurd (true≢false p)
      go false p ih = ap (λ (l : List ℕ). field_bytes f.name f.width ++ l) (ih p)

  pub laid_stored : (fs : List Field) → once n fs ≡ true → sets (laid_out field_bytes fs) (place_of n fs) (new (width_of n fs)) ≡ laid_out (changed n new field_bytes) fs
  unfolding laid_out
  laid_stored [] e = absurd (false≢true e)
  laid_stored (f ∷ fs) e = go (same_name n f.name) (has n fs) refl e (laid_stored fs)
    where
      go : (t u : Bool) → has n fs ≡ u → cond t (cond u false true) (once n fs) ≡ true
          → (once n fs ≡ true → sets (laid_out field_bytes fs) (place_of n fs) (new (width_of n fs)) ≡ laid_out (changed n new field_bytes) fs)
          → sets (field_bytes f.name f.width ++ laid_out field_bytes fs) (cond t 0 (f.width + place_of n fs)) (new (cond t f.width (width_of n fs)))
          ≡ cond t (new f.width) (field_bytes f.name f.width) ++ laid_out (changed n new field_bytes) fs
      go true true h p ih = absurd (false≢true p)
      go true false h p ih =
          sets_first (field_bytes f.name f.width) (laid_out field_bytes fs) (new f.width) (wide f.width ∙ sym (long f.name f.width))
          ∙ ap (λ (l : List ℕ). new f.width ++ l) (sym (absent fs h))
      go false u h p ih =
          ap (λ (k : ℕ). sets (field_bytes f.name f.width ++ laid_out field_bytes fs) (k + place_of n fs) (new (width_of n fs))) (sym (long f.name f.width))
          ∙ sets_second (field_bytes f.name f.width) (laid_out field_bytes fs) (place_of n fs) (new (width_of n fs))
          ∙ ap (λ (l : List ℕ). field_bytes f.name f.width ++ l) (ih p)

-- ---- the newest form

newest_once : (n : Name) → once n newest.fields ≡ true
newest_once n = every_name (λ (m : Name). once m newest.fields ≡ true) (each_true (λ (m : Name). once m newest.fields) newest.fields refl) n

module _ (n : Name) (new : ℕ → List ℕ) (wide : (width : ℕ) → length (new width) ≡ width) (field_bytes : Name → ℕ → List ℕ)
    (long : (m : Name) (width : ℕ) → length (field_bytes m width) ≡ width) where
  abbrev after : List ℕ
  after = sets (laid_out field_bytes newest.fields) (place_of n newest.fields) (new (width_of n newest.fields))

  pub newest_stored : after ≡ laid_out (changed n new field_bytes) newest.fields
  newest_stored = laid_stored n new wide field_bytes long newest.fields (newest_once n)

  -- the field reads back, every other one is as it was
  pub stored_found : (m : Name) → field_of m newest after ≡ changed n new field_bytes m (width_of m newest.fields)
  stored_found m =
      ap (field_of m newest) newest_stored
      ∙ laid_found (changed n new field_bytes) (changed_length n new wide field_bytes long) m newest.fields (newest_has m)
