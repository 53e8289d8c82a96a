-- Bytes copied over zeros stand in the places of the newest form: all that forms 1 to 3 have at the front, what form 4 has behind its count two bytes
-- further on. Assumes nothing.
use mathlib.Core.List.{List, [], ◌++◌}
use mathlib.Core.Logic.{◌⊎◌, inl, inr}
use mathlib.Core.Path.{◌≡◌, refl, sym, ap, ◌∙◌}
use Prim.Native.Nat.{ℕ, ◌≤◌}
use native.Mathlib.Omega.{arith}
use lib.ListN.{drop, length, replicate, take}
use Rattle.form.specs.Form.{form2, form3, form4, length_of, newest, saved_length}
use Rattle.form.specs.InNewest.{in_newest, widened}
use Rattle.form.specs.Form.{laid_out}
use Rattle.numbers.specs.Little.{bytes_at}
use Rattle.numbers.proofs.BytesLaws.{bytes_taken}
use Rattle.numbers.proofs.LittleLaws.{bytes_from}
use Rattle.every_form.specs.EveryForm.{form_as}
use Rattle.every_form.specs.declared.every_form.SavedForm.{SavedForm}
use Rattle.every_form.specs.declared.every_form.SavedForm.TheVariants.{One, Two, Three, Four, Newest}

-- ---- bytes in the newest form's places, one by one

module _ (bytes : List ℕ) where
  form_2_laid : bytes_at 41 0 bytes ++ drop 41 (replicate saved_length 0) ≡ in_newest form2 bytes
  unfolding in_newest widened laid_out
  form_2_laid = refl

  form_3_laid : bytes_at 43 0 bytes ++ drop 43 (replicate saved_length 0) ≡ in_newest form3 bytes
  unfolding in_newest widened laid_out
  form_3_laid = refl

  form_4_laid : bytes_at 43 0 bytes ++ (drop 53 (replicate saved_length 0) ++ bytes_at 10 43 bytes) ≡ in_newest form4 bytes
  unfolding in_newest widened laid_out
  form_4_laid = refl

  newest_laid : bytes_at 55 0 bytes ++ drop 55 (replicate saved_length 0) ≡ in_newest newest bytes
  unfolding in_newest widened laid_out
  newest_laid = refl

-- ---- copies

module _ (form : SavedForm) (bytes : List ℕ) (l : length bytes ≡ length_of (form_as form).fields) where
  -- as many as the form of that name has
  long : {name : SavedForm} → form ≡ name → length bytes ≡ length_of (form_as name).fields
  long e = l ∙ ap (λ (x : SavedForm). length_of (form_as x).fields) e

  placed : {name : SavedForm} {all : List ℕ} → form ≡ name → all ≡ in_newest (form_as name) bytes → all ≡ in_newest (form_as form) bytes
  placed e a = a ∙ sym (ap (λ (x : SavedForm). in_newest (form_as x) bytes) e)

  -- all of them to the front
  module _ {copied : List ℕ} where
    front : (n : ℕ) → length bytes ≡ n → copied ≡ take n bytes
        → copied ++ drop n (replicate saved_length 0) ≡ bytes_at n 0 bytes ++ drop n (replicate saved_length 0)
    front n k c =
        let enough : n ≤ length bytes = omega arith in
        ap (λ (b : List ℕ). b ++ drop n (replicate saved_length 0)) (c ∙ sym (bytes_taken n bytes enough))

    pub shortest_copied : (form ≡ One) ⊎ (form ≡ Two) → copied ≡ take 41 bytes
        → copied ++ drop 41 (replicate saved_length 0) ≡ in_newest (form_as form) bytes
    unfolding in_newest widened laid_out
    shortest_copied (inl e) c = placed e (front 41 (long e) c)
    shortest_copied (inr e) c = placed e (front 41 (long e) c)

    pub third_copied : form ≡ Three → copied ≡ take 43 bytes → copied ++ drop 43 (replicate saved_length 0) ≡ in_newest (form_as form) bytes
    unfolding in_newest widened laid_out
    third_copied e c = placed e (front 43 (long e) c)

    pub newest_copied : form ≡ Newest → copied ≡ take saved_length bytes → copied ≡ in_newest (form_as form) bytes
    unfolding in_newest widened laid_out
    newest_copied e c = let k = long e in placed e (c ∙ sym (bytes_taken saved_length bytes (omega arith)))

  -- the first bytes, over zeros
  abbrev over_zeros : List ℕ → List ℕ
  over_zeros first = first ++ drop 43 (replicate saved_length 0)

  -- two copies, the second of what stands behind the count
  pub fourth_copied : {first behind : List ℕ} → form ≡ Four → first ≡ take 43 bytes → behind ≡ take 10 (drop 43 bytes)
      → take 45 (over_zeros first) ++ (behind ++ drop 10 (drop 45 (over_zeros first))) ≡ in_newest (form_as form) bytes
  unfolding in_newest widened laid_out
  fourth_copied {first} {behind} e f b =
      let k = long e in
      let enough : 43 ≤ length bytes = omega arith in
      let start : first ≡ bytes_at 43 0 bytes = f ∙ sym (bytes_taken 43 bytes enough) in
      let end : behind ≡ bytes_at 10 43 bytes = b ∙ ap (take 10) (sym (bytes_from 10 43 bytes (sym k))) in
      placed e
      (ap (λ (x : List ℕ). take 45 (over_zeros x) ++ (behind ++ drop 10 (drop 45 (over_zeros x)))) start
      ∙ ap (λ (x : List ℕ). take 45 (over_zeros (bytes_at 43 0 bytes)) ++ (x ++ [])) end)
