-- The values of a gauge and the gauge of values: saved, each is found at its field, and the gauge of what was found is the gauge; read, each is saved as
-- the bytes that it was read from. By the names of the fields, not by a list of them. Assumes nothing.
use mathlib.Core.Bool.{true}
use mathlib.Core.List.{List, [], ◌∷◌, ◌++◌}
use mathlib.Core.Path.{◌≡◌, refl, sym, ap, ap₂, fun_ext, ◌∙◌}
use Prim.Native.Nat.{ℕ, zero, suc, ◌+◌, ◌-◌, ◌*◌, ◌/◌, ◌%◌, ◌^◌, ◌<◌}
use native.Mathlib.Nat.{div-add-mod, mod-lt, pow-suc}
use native.Mathlib.Omega.{arith}
use lib.Dec.{T}
use lib.ListN.{get_or, length}
use Rattle.configuration.specs.Configuration.{dmf}
use Rattle.charge.proofs.ChargeLaws.{charge_alike}
use Rattle.flags.specs.Byte.{flags_fit}
use Rattle.flags.proofs.FlagsByteLaws.{byte_back, byte_fits, flags_back, vdq_back}
use Rattle.form.specs.Form.{Bytes, Current, Field, Flags, FormNumber, Name, Number, bytes_of, field_of, laid_out, length_of, newest, number_of, of_bytes, of_number}
use Rattle.form.specs.Form.{place_of, saved_length, width_of}
use Rattle.form.specs.Signed.{current_of}
use Rattle.form.proofs.LaidOutLaws.{laid_found}
use Rattle.form.proofs.NamesLaws.{Each, each_of, every_name, newest_has}
use Rattle.form.proofs.SignedLaws.{current_back, pair_back, pair_fits}
use Rattle.gauge.specs.Fits.{Fits}
use Rattle.gauge.specs.declared.state.Gauge.{Gauge}
use Rattle.gauge.proofs.GaugeLaws.{gauge_alike}
use Rattle.grains.proofs.RunLaws.{run_alike}
use Rattle.load.specs.Fields.{bytes_in, charge_from, counters_from, flags_of_gauge, gauge_from, host_from, number_in, sample_from}
use Rattle.load.specs.Load.{form_fits, read_in}
use Rattle.load.proofs.LoadLaws.{form_first, form_flags, form_length}
use Rattle.numbers.proofs.BytesLaws.{bytes_length, bytes_split, number_is}
use Rattle.numbers.proofs.LittleLaws.{number_fits, read_back, value_of, whole, write_back}
use Rattle.numbers.specs.Little.{bytes_at, little}
use Rattle.sample.specs.Sample.{current_accepted}
use Rattle.sample.proofs.SampleLaws.{sample_alike}
use Rattle.saved.specs.Save.{field_bytes, saved_bytes}
use Rattle.saved.proofs.FormLaws.{field_length}

-- ---- values that fit their fields

-- by how much a value of a gauge misses the width of its field
abbrev excess : Gauge → Name → ℕ
excess g (of_number n) = number_in g n / 256 ^ width_of (of_number n) newest.fields
excess g (of_bytes b) =
    (length (bytes_in g b) - width_of (of_bytes b) newest.fields) + (width_of (of_bytes b) newest.fields - length (bytes_in g b))

abbrev summed : (Name → ℕ) → List Field → ℕ
summed f [] = 0
summed f (x ∷ xs) = f x.name + summed f xs

-- all values fit: one sum, so that one call of `omega` proves it from the widths
abbrev pub FieldsFit : Gauge → Type 0
FieldsFit g = summed (excess g) newest.fields ≡ 0

none_missed : (f : Name → ℕ) (fs : List Field) → summed f fs ≡ 0 → Each (λ (n : Name). f n ≡ 0) fs
none_missed f [] e = tt
none_missed f (x ∷ xs) e = (omega arith, none_missed f xs (omega arith))

power_positive : (m : ℕ) → 0 < 256 ^ m
power_positive zero = omega arith
power_positive (suc m) = let h = power_positive m in rw (pow-suc 256 m) (omega arith)

no_quotient : (value width : ℕ) → value / 256 ^ width ≡ 0 → value < 256 ^ width
no_quotient value width e =
    let k = 256 ^ width in
    let sum : k * (value / k) + value % k ≡ value = div-add-mod value k in
    let none : k * (value / k) ≡ k * 0 = ap (λ (q : ℕ). k * q) e in
    let below : value % k < k = mod-lt value (power_positive width) in
    omega arith

pub fits_each : (g : Gauge) → Fits g → FieldsFit g
unfolding number_in bytes_in
fits_each g f =
    let flags = byte_fits g.sample.current.charging g.charge.run.vdq g.flags in
    let pair = pair_fits g.sample.current f.sample.magnitude in
    let ten = f.settings.ten in
    omega arith

-- ---- a gauge, saved and read

module _ (g : Gauge) where
  field_found : (n : Name) → field_of n newest (saved_bytes g) ≡ field_bytes g n (width_of n newest.fields)
  unfolding saved_bytes
  field_found n = laid_found (field_bytes g) (field_length g) n newest.fields (newest_has n)

  number_found : (n : Number) → number_in g n < 256 ^ width_of (of_number n) newest.fields → number_of n newest (saved_bytes g) ≡ number_in g n
  unfolding field_bytes
  number_found n fits =
      let wide = width_of (of_number n) newest.fields in
      number_is wide (place_of (of_number n) newest.fields) (saved_bytes g) ∙ ap value_of (field_found (of_number n)) ∙ read_back wide (number_in g n) fits

  -- the form's number and FLAGS fit whatever the gauge is
  pub form_found : number_of FormNumber newest (saved_bytes g) ≡ newest.number
  unfolding number_in
  form_found = number_found FormNumber (omega arith)

  pub flags_found : number_of Flags newest (saved_bytes g) ≡ flags_of_gauge g
  unfolding number_in
  flags_found = number_found Flags (byte_fits g.sample.current.charging g.charge.run.vdq g.flags)

  module _ (f : FieldsFit g) where
    fitting : (n : Name) → excess g n ≡ 0
    fitting n = every_name (λ (m : Name). excess g m ≡ 0) (none_missed (excess g) newest.fields f) n

    pub each_number : (n : Number) → number_of n newest (saved_bytes g) ≡ number_in g n
    each_number n = number_found n (no_quotient (number_in g n) (width_of (of_number n) newest.fields) (fitting (of_number n)))

    each_bytes : (b : Bytes) → bytes_of b newest (saved_bytes g) ≡ bytes_in g b
    unfolding field_bytes
    each_bytes b =
        let wide = width_of (of_bytes b) newest.fields in
        let e = fitting (of_bytes b) in
        let long : length (bytes_in g b) ≡ wide = omega arith in
        ap (bytes_at wide 0) (field_found (of_bytes b) ∙ whole wide (bytes_in g b) long) ∙ whole wide (bytes_in g b) long

    module _ (a : current_accepted (dmf g.settings) g.sample.current ≡ true) where
      -- the gauge of its own values
      gauge_back : gauge_from (number_in g) (bytes_in g) ≡ g
      unfolding gauge_from charge_from sample_from host_from counters_from number_in bytes_in
      gauge_back =
          let chgs = g.sample.current.charging in
          let vdq = g.charge.run.vdq in
          gauge_alike refl (charge_alike refl refl (run_alike (vdq_back chgs vdq g.flags) refl))
          (sample_alike (current_back (dmf g.settings) g.sample.current a) refl refl) refl (flags_back chgs vdq g.flags) refl refl

      -- reading what was saved gives the same gauge
      pub read_saved : read_in newest (saved_bytes g) ≡ g
      unfolding read_in
      read_saved = ap₂ gauge_from (fun_ext each_number) (fun_ext each_bytes) ∙ gauge_back

-- ---- bytes, read and saved

-- a value as a list, so that those of all names are one list
abbrev listed : (Number → ℕ) → (Bytes → List ℕ) → Name → List ℕ
listed number bytes (of_number n) = number n ∷ []
listed number bytes (of_bytes b) = bytes b

abbrev listing : (Name → List ℕ) → List Field → List (List ℕ)
listing f [] = []
listing f (x ∷ xs) = f x.name ∷ listing f xs

same_first : {x y : List ℕ} {xs ys : List (List ℕ)} → (x ∷ xs) ≡ (y ∷ ys) → x ≡ y
same_first e = cc

same_rest : {x y : List ℕ} {xs ys : List (List ℕ)} → (x ∷ xs) ≡ (y ∷ ys) → xs ≡ ys
same_rest e = cc

same_each : (f g : Name → List ℕ) (fs : List Field) → listing f fs ≡ listing g fs → Each (λ (n : Name). f n ≡ g n) fs
same_each f g [] e = tt
same_each f g (x ∷ xs) e = (same_first e, same_each f g xs (same_rest e))

-- the values of the gauge of given values are these, where the form's number is the newest's and c and FLAGS are their own
module _ (number : Number → ℕ) (bytes : Bytes → List ℕ) where
  values_back : number FormNumber ≡ newest.number → number Current < 65_536 → number Flags < 256
      → flags_fit (number Flags) (current_of (number Current)).charging ≡ true
      → (n : Name) → listed (number_in (gauge_from number bytes)) (bytes_in (gauge_from number bytes)) n ≡ listed number bytes n
  unfolding gauge_from charge_from sample_from host_from counters_from number_in bytes_in
  values_back form pair small fit n =
      let first = sym form in
      let current = pair_back (number Current) pair in
      let flags = byte_back (number Flags) (current_of (number Current)).charging small fit in
      every_name (λ (m : Name). listed (number_in (gauge_from number bytes)) (bytes_in (gauge_from number bytes)) m ≡ listed number bytes m)
      (same_each (listed (number_in (gauge_from number bytes)) (bytes_in (gauge_from number bytes))) (listed number bytes) newest.fields
      (all_listed first current flags))
      n
    where
      all_listed : newest.number ≡ number FormNumber → number_in (gauge_from number bytes) Current ≡ number Current
          → number_in (gauge_from number bytes) Flags ≡ number Flags
          → listing (listed (number_in (gauge_from number bytes)) (bytes_in (gauge_from number bytes))) newest.fields ≡ listing (listed number bytes) newest.fields
      all_listed p q r = simp (p, q, r)

-- bytes that hold every field, from a place on
module _ (g : Gauge) (bytes : List ℕ) where
  abbrev Holds : ℕ → List Field → Type 0
  Holds place [] = T true
  Holds place (f ∷ fs) = (field_bytes g f.name f.width ≡ bytes_at f.width place bytes) × Holds (place + f.width) fs

  fields_held : (place : ℕ) (fs : List Field) → Holds place fs → laid_out (field_bytes g) fs ≡ bytes_at (length_of fs) place bytes
  unfolding laid_out
  fields_held place [] h = refl
  fields_held place (f ∷ fs) h =
      ap (λ (l : List ℕ). l ++ laid_out (field_bytes g) fs) h.0
      ∙ ap (λ (l : List ℕ). bytes_at f.width place bytes ++ l) (fields_held (place + f.width) fs h.1)
      ∙ sym (bytes_split f.width (length_of fs) place bytes)

module _ (bytes : List ℕ) (small : (k : ℕ) → get_or bytes k 0 < 256) (f : form_fits newest bytes ≡ true) where
  value_back : (n : Name) → listed (number_in (read_in newest bytes)) (bytes_in (read_in newest bytes)) n ≡ listed (λ m. number_of m newest bytes) (λ b. bytes_of b newest bytes) n
  unfolding read_in
  value_back n =
      let byte = small (place_of (of_number Flags) newest.fields) in
      values_back (λ m. number_of m newest bytes) (λ b. bytes_of b newest bytes) (form_first newest bytes f)
      (number_fits (place_of (of_number Current) newest.fields) bytes small) (omega arith) (form_flags newest bytes f) n

  -- each field is saved as the bytes that it was read from
  field_back : (n : Name) → field_bytes (read_in newest bytes) n (width_of n newest.fields) ≡ field_of n newest bytes
  unfolding field_bytes
  field_back (of_number n) =
      let wide = width_of (of_number n) newest.fields in
      let e = value_back (of_number n) in
      let same : number_in (read_in newest bytes) n ≡ number_of n newest bytes = cc in
      ap (little wide) same ∙ write_back wide (place_of (of_number n) newest.fields) bytes small
  field_back (of_bytes b) =
      let wide = width_of (of_bytes b) newest.fields in
      let own = field_of (of_bytes b) newest bytes in
      let long = bytes_length wide (place_of (of_bytes b) newest.fields) bytes in
      ap (bytes_at wide 0) (value_back (of_bytes b) ∙ whole wide own long) ∙ whole wide own long

  -- saving what was read gives the same bytes
  pub saved_read : saved_bytes (read_in newest bytes) ≡ bytes
  unfolding saved_bytes
  saved_read =
      let held : Holds (read_in newest bytes) bytes 0 newest.fields =
      each_of (λ (n : Name). field_bytes (read_in newest bytes) n (width_of n newest.fields) ≡ field_of n newest bytes) field_back newest.fields in
      fields_held (read_in newest bytes) bytes 0 newest.fields held ∙ whole saved_length bytes (form_length newest bytes f)
