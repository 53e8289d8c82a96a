-- Accepted bytes of a form hold gauges of the widths that every gauge has, since no field of any form is wider. Assumes nothing.
use mathlib.Core.Bool.{true}
use mathlib.Core.List.{List}
use mathlib.Core.Path.{◌≡◌, refl}
use Prim.Native.Nat.{ℕ, zero, suc, ◌<◌, ◌^◌}
use native.Mathlib.Omega.{arith}
use lib.Dec.{T}
use lib.ListN.{get_or}
use Rattle.form.specs.Form.{Configuration, Form, Name, field_of, form_of, newest, number_of, of_bytes, of_number, place_of, width_of}
use Rattle.form.proofs.FormsLaws.{every_form_passes}
use Rattle.form.proofs.NamesLaws.{Each, each_of, newest_has, no_wider, width_within}
use Rattle.gauge.specs.Accepted.{accepted}
use Rattle.gauge.specs.Fits.{Taken}
use Rattle.gauge.proofs.AcceptedLaws.{sound}
use Rattle.gauge.proofs.TakenLaws.{gauge_taken}
use Rattle.numbers.specs.Little.{bytes_at}
use Rattle.numbers.proofs.BytesLaws.{bytes_length}
use Rattle.numbers.proofs.LittleLaws.{number_within}
use Rattle.load.specs.Fields.{charge_from, counters_from, gauge_from, host_from}
use Rattle.load.specs.Load.{loaded, read_in}

-- the newest form's fields are as wide as a gauge has them
form_narrow : (s : List ℕ) → no_wider (form_of s) newest.fields ≡ true
form_narrow s = every_form_passes (λ (form : Form). no_wider form newest.fields) refl refl (get_or s 0 0)

-- ---- bytes from a place on

at_small : (width place : ℕ) (s : List ℕ) → ((k : ℕ) → get_or s k 0 < 256) → (k : ℕ) → get_or (bytes_at width place s) k 0 < 256
at_small zero place s small k = omega arith
at_small (suc width) place s small zero = small place
at_small (suc width) place s small (suc k) = at_small width (suc place) s small k

-- ---- gauges

module _ (form : Form) (s : List ℕ) (small : (k : ℕ) → get_or s k 0 < 256) where
  -- a number that stands in the form has room in the newest
  abbrev HasRoom : Name → Type 0
  HasRoom (of_number n) = number_of n form s < 256 ^ width_of (of_number n) newest.fields
  HasRoom (of_bytes b) = T true

  has_room : no_wider form newest.fields ≡ true → (n : Name) → HasRoom n
  has_room e (of_number n) =
      let name = of_number n in
      number_within (width_of name newest.fields) (width_of name form.fields) (place_of name form.fields) s small
      (width_within form name newest.fields (newest_has name) e)
  has_room e (of_bytes b) = tt

  narrow_taken : no_wider form newest.fields ≡ true → accepted (loaded form s) ≡ true → Taken (loaded form s)
  unfolding loaded read_in gauge_from charge_from host_from counters_from
  narrow_taken e good =
      let field = field_of (of_bytes Configuration) form s in
      let rooms : Each HasRoom newest.fields = each_of HasRoom (has_room e) newest.fields in
      gauge_taken (loaded form s) (sound (loaded form s) good)
      (record {
        ten = bytes_length (width_of (of_bytes Configuration) newest.fields) 0 field;
        bytes =
            at_small (width_of (of_bytes Configuration) newest.fields) 0 field
            (at_small (width_of (of_bytes Configuration) form.fields) (place_of (of_bytes Configuration) form.fields) s small);
      })
      (record { held = omega arith; dcr = omega arith; lmd = omega arith })
      (record { mode = omega arith; ar = omega arith })
      (record { rests = omega arith; cyct = omega arith; drain = omega arith })

-- ---- bytes of any form

module _ (s : List ℕ) (small : (k : ℕ) → get_or s k 0 < 256) where
  pub form_taken : accepted (loaded (form_of s) s) ≡ true → Taken (loaded (form_of s) s)
  form_taken good = narrow_taken (form_of s) s small (form_narrow s) good

  pub newest_taken : accepted (loaded newest s) ≡ true → Taken (loaded newest s)
  newest_taken good = narrow_taken newest s small refl good
