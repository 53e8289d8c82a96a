-- A gauge in the fields of a form: each is as long as its width, and put one after the other they are the whole. By induction over the list of fields,
-- so that they serve every form. Assumes nothing.
use mathlib.Core.List.{List, [], ◌∷◌}
use mathlib.Core.Path.{◌≡◌, refl, ◌∙◌}
use Prim.Native.Nat.{ℕ, ◌+◌}
use lib.ListN.{length}
use lib.Seq.{sets}
use Rattle.form.specs.Form.{Field, Name, laid_out, length_of, of_bytes, of_number}
use Rattle.form.proofs.LaidOutLaws.{laid_length}
use Rattle.gauge.specs.declared.state.Gauge.{Gauge}
use Rattle.load.specs.Fields.{bytes_in, number_in}
use Rattle.numbers.proofs.BytesLaws.{bytes_length}
use Rattle.saved.proofs.PutLaws.{little_length, sets_append}
use Rattle.saved.specs.Save.{field_bytes}

module _ (g : Gauge) where
  pub field_length : (n : Name) (width : ℕ) → length (field_bytes g n width) ≡ width
  unfolding field_bytes
  field_length (of_number n) width = little_length width (number_in g n)
  field_length (of_bytes b) width = bytes_length width 0 (bytes_in g b)

  pub fields_length : (fs : List Field) → length (laid_out (field_bytes g) fs) ≡ length_of fs
  fields_length fs = laid_length (field_bytes g) field_length fs

  -- the fields put into a buffer one after the other
  abbrev pub fields_put : List ℕ → ℕ → List Field → List ℕ
  fields_put buffer place [] = buffer
  fields_put buffer place (f ∷ fs) = fields_put (sets buffer place (field_bytes g f.name f.width)) (place + f.width) fs

  pub fields_put_lem : (buffer : List ℕ) (place : ℕ) (fs : List Field) → fields_put buffer place fs ≡ sets buffer place (laid_out (field_bytes g) fs)
  unfolding laid_out
  fields_put_lem buffer place [] = refl
  fields_put_lem buffer place (f ∷ fs) =
      fields_put_lem (sets buffer place (field_bytes g f.name f.width)) (place + f.width) fs
      ∙ sets_append buffer place f.width (field_bytes g f.name f.width) (laid_out (field_bytes g) fs) (field_length f.name f.width)
