-- The bytes of fields laid out one after the other: how many there are, and that each field is found at its place. By induction over the list of
-- fields, so that they serve every form. Assumes nothing.
use mathlib.Core.Bool.{Bool, true, false, cond}
use mathlib.Core.List.{List, [], ◌∷◌}
use mathlib.Core.Path.{◌≡◌, refl, sym, ap, ◌∙◌}
use Prim.Native.Nat.{ℕ, ◌+◌}
use lib.Dec.{T}
use lib.ListN.{length, length-append}
use Rattle.numbers.specs.Little.{bytes_at}
use Rattle.numbers.proofs.BytesLaws.{bytes_front, bytes_past}
use Rattle.form.specs.Form.{Field, Name, laid_out, length_of, place_of, same_name, width_of}
use Rattle.form.proofs.NamesLaws.{has, same_is}

module _ (field_bytes : Name → ℕ → List ℕ) (long : (n : Name) (width : ℕ) → length (field_bytes n width) ≡ width) where
  pub laid_length : (fs : List Field) → length (laid_out field_bytes fs) ≡ length_of fs
  unfolding laid_out
  laid_length [] = refl
  laid_length (f ∷ fs) =
      length-append (field_bytes f.name f.width) (laid_out field_bytes fs)
      ∙ ap (λ (k : ℕ). k + length (laid_out field_bytes fs)) (long f.name f.width)
      ∙ ap (λ (k : ℕ). f.width + k) (laid_length fs)

  pub laid_found : (n : Name) (fs : List Field) → T (has n fs)
      → bytes_at (width_of n fs) (place_of n fs) (laid_out field_bytes fs) ≡ field_bytes n (width_of n fs)
  unfolding laid_out
  laid_found n [] h = absurd h
  laid_found n (f ∷ fs) h = go (same_name n f.name) refl h (laid_found n fs)
    where
      go : (t : Bool) → same_name n f.name ≡ t → T (cond t true (has n fs))
          → (T (has n fs) → bytes_at (width_of n fs) (place_of n fs) (laid_out field_bytes fs) ≡ field_bytes n (width_of n fs))
          → bytes_at (cond t f.width (width_of n fs)) (cond t 0 (f.width + place_of n fs)) (laid_out field_bytes (f ∷ fs))
          ≡ field_bytes n (cond t f.width (width_of n fs))
      go true e k found =
          bytes_front f.width (field_bytes f.name f.width) (laid_out field_bytes fs) (long f.name f.width)
          ∙ ap (λ (m : Name). field_bytes m f.width) (sym (same_is n f.name e))
      go false e k found =
          bytes_past (width_of n fs) f.width (place_of n fs) (field_bytes f.name f.width) (laid_out field_bytes fs) (long f.name f.width)
          ∙ found k
