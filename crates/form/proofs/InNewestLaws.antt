-- In the places of the newest form a field holds what it holds in its own, where it is no wider than there. Assumes nothing.
use mathlib.Core.Bool.{true}
use mathlib.Core.List.{List}
use mathlib.Core.Path.{◌≡◌, sym, ap, ◌∙◌}
use Prim.Native.Nat.{ℕ}
use native.Mathlib.Omega.{arith}
use lib.ListN.{length}
use Rattle.numbers.specs.Little.{bytes_at}
use Rattle.numbers.proofs.BytesLaws.{bytes_length, number_is, number_widened}
use Rattle.numbers.proofs.LittleLaws.{value_of, whole}
use Rattle.form.specs.Form.{Bytes, Form, Name, Number, bytes_of, field_of, newest, number_of, of_bytes, of_number, place_of, saved_length, width_of}
use Rattle.form.specs.InNewest.{in_newest, widened}
use Rattle.form.proofs.LaidOutLaws.{laid_found, laid_length}
use Rattle.form.proofs.NamesLaws.{newest_has, no_wider, width_within}

module _ (form : Form) (bytes : List ℕ) where
  widened_length : (n : Name) (width : ℕ) → length (widened form bytes n width) ≡ width
  unfolding widened
  widened_length n width = bytes_length width _ (field_of n form bytes)

  pub in_newest_length : length (in_newest form bytes) ≡ saved_length
  unfolding in_newest
  in_newest_length = laid_length (widened form bytes) widened_length newest.fields

  found : (n : Name) → field_of n newest (in_newest form bytes) ≡ bytes_at (width_of n newest.fields) 0 (field_of n form bytes)
  unfolding in_newest widened
  found n = laid_found (widened form bytes) widened_length n newest.fields (newest_has n)

  own_length : (n : Name) → length (field_of n form bytes) ≡ width_of n form.fields
  own_length n = bytes_length (width_of n form.fields) (place_of n form.fields) bytes

  pub number_carried : no_wider form newest.fields ≡ true → (n : Number) → number_of n newest (in_newest form bytes) ≡ number_of n form bytes
  number_carried e n =
      let name = of_number n in
      let wide = width_of name newest.fields in
      let bound = width_within form name newest.fields (newest_has name) e in
      let own = own_length name in
      number_is wide (place_of name newest.fields) (in_newest form bytes) ∙ ap value_of (found name) ∙ sym (number_is wide 0 (field_of name form bytes))
      ∙ number_widened wide (field_of name form bytes) (omega arith) ∙ sym (number_is (width_of name form.fields) (place_of name form.fields) bytes)

  pub bytes_carried : (b : Bytes) → bytes_of b newest (in_newest form bytes) ≡ bytes_of b form bytes
  bytes_carried b =
      let wide = width_of (of_bytes b) newest.fields in
      whole wide (field_of (of_bytes b) newest (in_newest form bytes)) (bytes_length wide (place_of (of_bytes b) newest.fields) (in_newest form bytes))
      ∙ found (of_bytes b)
