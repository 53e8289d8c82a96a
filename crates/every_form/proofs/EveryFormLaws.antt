-- Bytes of every form: how those of an older form are read in the places of the newest and carried over, by the form that their first byte tells.
-- Assumes nothing.
use mathlib.Core.Bool.{Bool, true, false}
use mathlib.Core.List.{List}
use mathlib.Core.Path.{◌≡◌, refl, sym, ap, ap₂, fun_ext, ◌∙◌}
use Prim.Native.Nat.{ℕ}
use lib.ListN.{get_or}
use Rattle.configuration.specs.Terms.{terms_of}
use Rattle.form.specs.Form.{form_numbered, length_of, newest}
use Rattle.form.specs.InNewest.{in_newest}
use Rattle.form.proofs.InNewestLaws.{bytes_carried, in_newest_length, number_carried}
use Rattle.form.proofs.NamesLaws.{no_wider}
use Rattle.gauge.specs.Accepted.{accepted}
use Rattle.gauge.specs.Answer.{Answer, unless_rejected}
use Rattle.gauge.specs.declared.state.Gauge.{Gauge}
use Rattle.numbers.proofs.BoolLaws.{and_false}
use Rattle.refusals.specs.Refusal as Refusal
use Rattle.standby.specs.Standby.{standby_accepted}
use Rattle.load.specs.Fields.{gauge_from}
use Rattle.load.specs.Load.{answer_in, carried, carried_standby, decoded_gauge, fits_as, form_fits, loaded, read_in, rejected_answer}
use Rattle.load.proofs.LoadLaws.{accepted_loads, decoded_whole, misfit_loads, rejected_loads}
use Rattle.every_form.specs.EveryForm.{form_as, load_answer}
use Rattle.every_form.specs.declared.every_form.SavedForm.{SavedForm}
use Rattle.every_form.specs.declared.every_form.SavedForm.TheVariants.{One, Two, Three, Four, Newest}

-- ---- bytes in the places of the newest form

none_wider : (form : SavedForm) → no_wider (form_as form) newest.fields ≡ true
none_wider One = refl
none_wider Two = refl
none_wider Three = refl
none_wider Four = refl
none_wider Newest = refl

pub decoded_reads : (form : SavedForm) (bytes : List ℕ) {whole : List ℕ} {g : Gauge} → whole ≡ in_newest (form_as form) bytes → g ≡ decoded_gauge whole
    → g ≡ read_in (form_as form) bytes
unfolding read_in
decoded_reads form bytes w e =
    let own = form_as form in
    e ∙ ap decoded_gauge w ∙ decoded_whole (in_newest own bytes) (in_newest_length own bytes)
    ∙ ap₂ gauge_from (fun_ext (number_carried own bytes (none_wider form))) (fun_ext (bytes_carried own bytes))

-- what is tested first stands at the same places in every form
same_front : (form : SavedForm) (bytes : List ℕ)
    → fits_as (form_as form).number (length_of (form_as form).fields) newest bytes ≡ form_fits (form_as form) bytes
unfolding form_fits
same_front One bytes = refl
same_front Two bytes = refl
same_front Three bytes = refl
same_front Four bytes = refl
same_front Newest bytes = refl

-- ---- the ways of a load, by what each callee gives

-- the form that the first byte tells, and the test of its number and length
pub record Tested (bytes : List ℕ) (form : SavedForm) (fit : Bool) : Type 0 where
  pub told : form_as form ≡ form_numbered (get_or bytes 0 0)
  pub fits : fit ≡ fits_as (form_as form).number (length_of (form_as form).fields) newest bytes

module _ {bytes : List ℕ} {form : SavedForm} {fit : Bool} (k : Tested bytes form fit) where
  is_told : answer_in (form_as form) bytes ≡ load_answer bytes
  unfolding load_answer
  is_told = ap (λ x. answer_in x bytes) k.told

  is_fit : fit ≡ form_fits (form_as form) bytes
  is_fit = k.fits ∙ same_front form bytes

  pub misfit : fit ≡ false → (load_answer bytes).number ≡ Refusal.rejected
  unfolding rejected_answer
  misfit z = ap (λ (x : Answer). x.number) (sym (misfit_loads (form_as form) bytes (sym is_fit ∙ z) refl ∙ is_told))

  module _ (good : fit ≡ true) where
    module _ {g : Gauge} (p : g ≡ read_in (form_as form) bytes) where
      -- what was read, carried over
      is_loaded : carried (form_as form).number g ≡ loaded (form_as form) bytes
      unfolding loaded
      is_loaded = ap (carried (form_as form).number) p

      rejected_answer_is : accepted (carried (form_as form).number g) ≡ false → (load_answer bytes).number ≡ Refusal.rejected
      unfolding rejected_answer
      rejected_answer_is a =
          ap (λ (x : Answer). x.number) (sym (rejected_loads (form_as form) bytes (sym is_fit ∙ good) (sym (ap accepted is_loaded) ∙ a) ∙ is_told))

      pub units_misfit : standby_accepted (terms_of g.settings).s0 (carried_standby (form_as form).number g.standby) ≡ false
          → (load_answer bytes).number ≡ Refusal.rejected
      unfolding accepted
      units_misfit f = rejected_answer_is (simp (f, and_false))

      module _ {next : Gauge} (q : next ≡ carried (form_as form).number g) where
        accepted_answer_is : accepted next ≡ true → record { number = Refusal.none; gauge = next } ≡ load_answer bytes
        accepted_answer_is a = accepted_loads (form_as form) bytes (sym is_fit ∙ good) (q ∙ is_loaded) a ∙ is_told

        -- the number is that of the test of the gauge
        pub carried_number : (load_answer bytes).number ≡ unless_rejected next Refusal.none
        carried_number = go (accepted next) refl
          where
            go : (t : Bool) → accepted next ≡ t → (load_answer bytes).number ≡ unless_rejected next Refusal.none
            go true a = simp a (ap (λ (x : Answer). x.number) (sym (accepted_answer_is a)))
            go false a = simp a (rejected_answer_is (sym (ap accepted q) ∙ a))

        pub carried_gauge : accepted next ≡ true → next ≡ (load_answer bytes).gauge
        carried_gauge a = ap (λ (x : Answer). x.gauge) (accepted_answer_is a)
