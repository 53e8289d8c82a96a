-- A saved gauge reads back as itself, and what is read back saves as the same bytes. Assumes nothing.
use mathlib.Core.Bool.{Bool, true, false, cond}
use mathlib.Core.List.{List}
use mathlib.Core.Path.{◌≡◌, refl, sym, ap, ◌∙◌}
use Prim.Native.Nat.{ℕ, ◌<◌}
use native.Mathlib.Omega.{arith}
use lib.ListN.{get_or, length}
use borrow.Author.Tests.{eq-eqb}
use Rattle.configuration.specs.Configuration.{dmf}
use Rattle.every_form.specs.EveryForm.{load_answer}
use Rattle.flags.specs.Byte.{flags_fit}
use Rattle.flags.proofs.FlagsByteLaws.{byte_accepted}
use Rattle.form.specs.Form.{Current, FormNumber, laid_out, newest, number_of, saved_length}
use Rattle.form.specs.Signed.{current_of}
use Rattle.form.proofs.SignedLaws.{current_back}
use Rattle.gauge.specs.Accepted.{accepted}
use Rattle.gauge.specs.Fits.{Fits}
use Rattle.gauge.specs.Answer.{Answer}
use Rattle.gauge.specs.declared.state.Gauge.{Gauge}
use Rattle.gauge.proofs.AcceptedLaws.{sound}
use Rattle.load.specs.Fields.{flags_of_gauge, number_in}
use Rattle.load.specs.Load.{answer_in, form_fits, loaded}
use Rattle.load.proofs.LoadLaws.{accepted_loads, form_length, loads, newest_loaded}
use Rattle.refusals.specs.Refusal as Refusal
use Rattle.sample.specs.Sample.{current_accepted}
use Rattle.saved.proofs.SaveLaws.{saved_length_lem}
use Rattle.saved.specs.Save.{buffer_after, field_bytes, save_refusal, saved_bytes}
use Rattle.round_trip.proofs.FieldsLaws.{FieldsFit, each_number, fits_each, flags_found, form_found, read_saved, saved_read}
use Rattle.round_trip.specs.RoundTrip.{reloaded_answer}

-- what is saved is in the newest form
pub newest_loads : (g : Gauge) → load_answer (saved_bytes g) ≡ answer_in newest (saved_bytes g)
unfolding load_answer saved_bytes laid_out field_bytes number_in
newest_loads g = refl

abbrev answer : ℕ → Gauge → Answer
answer number gauge = record { number = number; gauge = gauge }

-- ---- a gauge, saved and loaded

module _ (g : Gauge) where
  module _ (f : FieldsFit g) (a : current_accepted (dmf g.settings) g.sample.current ≡ true) where
    current_found : current_of (number_of Current newest (saved_bytes g)) ≡ g.sample.current
    unfolding number_in
    current_found = ap current_of (each_number g f Current) ∙ current_back (dmf g.settings) g.sample.current a

    saved_fits : form_fits newest (saved_bytes g) ≡ true
    unfolding form_fits
    saved_fits =
        simp (
          eq-eqb (length (saved_bytes g)) saved_length (saved_length_lem g),
          eq-eqb (number_of FormNumber newest (saved_bytes g)) newest.number (form_found g),
        )
        (ap (λ (b : ℕ). flags_fit b (current_of (number_of Current newest (saved_bytes g))).charging) (flags_found g)
        ∙ ap (flags_fit (flags_of_gauge g)) (ap (λ c. c.charging) current_found)
        ∙ byte_accepted g.sample.current.charging g.charge.run.vdq g.flags)

  -- those bytes are accepted, as the same gauge
  pub load_back : FieldsFit g → accepted g ≡ true → answer_in newest (saved_bytes g) ≡ answer Refusal.none g
  load_back f e =
      let a = (sound g e).sample.current in
      sym (accepted_loads newest (saved_bytes g) (saved_fits f a) (sym (read_saved g f a) ∙ newest_loaded (saved_bytes g)) e)

  pub load_of_saved : Fits g → accepted g ≡ true → answer_in newest (saved_bytes g) ≡ record { number = Refusal.none; gauge = g }
  load_of_saved f e = load_back (fits_each g f) e

-- ---- bytes, loaded and saved

-- saving what was loaded gives the same bytes
pub saved_loaded : (bytes : List ℕ) → ((k : ℕ) → get_or bytes k 0 < 256) → form_fits newest bytes ≡ true → saved_bytes (loaded newest bytes) ≡ bytes
saved_loaded bytes small f = sym (ap saved_bytes (newest_loaded bytes)) ∙ saved_read bytes small f

-- ---- in the calls' terms

module _ (g : Gauge) (b : List ℕ) (l : length b ≡ saved_length) where
  -- a buffer of the form's length leaves the test of the gauge alone
  pub reloaded_refused : {n : ℕ} → n ≡ save_refusal g (length b) → answer n g ≡ reloaded_answer g
  unfolding save_refusal reloaded_answer
  reloaded_refused e = ap (λ (n : ℕ). answer n g) (e ∙ simp (eq-eqb (length b) saved_length l))

  pub reloaded_done : {after : List ℕ} → FieldsFit g → Refusal.none ≡ save_refusal g (length b) → after ≡ buffer_after g b
      → load_answer after ≡ reloaded_answer g
  unfolding save_refusal reloaded_answer buffer_after
  reloaded_done {after} f e p = go (accepted g) refl
    where
      go : (t : Bool) → accepted g ≡ t → load_answer after ≡ answer (cond t Refusal.none Refusal.rejected) g
      go true a =
          let s : after ≡ saved_bytes g = p ∙ simp (a, eq-eqb (length b) saved_length l) in
          ap load_answer s ∙ newest_loads g ∙ load_back g f a
      go false a =
          let r14 : ◌≡◌ {A = ℕ} 0 14 = e ∙ simp a in
          let no : ⊥ = omega arith in
          absurd no

pub resaved_done : (bytes : List ℕ) → ((k : ℕ) → get_or bytes k 0 < 256) → {gauge : Gauge} {n : ℕ} {after : List ℕ}
    → (answer_in newest bytes).number ≡ Refusal.none → gauge ≡ (answer_in newest bytes).gauge → n ≡ save_refusal gauge (length bytes)
    → after ≡ buffer_after gauge bytes → (n ≡ (answer_in newest bytes).number) × (after ≡ bytes)
unfolding save_refusal buffer_after
resaved_done bytes small zero e p q =
    let w = loads newest bytes zero in
    let g = e ∙ w.gauge in
    let a = ap accepted g ∙ w.accepted in
    let l = eq-eqb (length bytes) saved_length (form_length newest bytes w.fits) in
    (p ∙ simp (a, l, zero), q ∙ simp (a, l) (ap saved_bytes g ∙ saved_loaded bytes small w.fits))
