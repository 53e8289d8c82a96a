-- What bytes of the newest form are read as, and the tests that bytes of a form pass, in their order: stated of plain bytes. Assumes nothing.
use mathlib.Core.Bool.{Bool, true, false, ◌&&◌, cond}
use mathlib.Core.List.{List, []}
use mathlib.Core.Path.{◌≡◌, refl, sym, ap, ◌∙◌}
use Prim.Native.Nat.{ℕ}
use native.Mathlib.Omega.{arith}
use lib.Dec.{eqb}
use lib.ListN.{length, replicate}
use borrow.Author.Tests.{eq-eqb, eqb-true}
use Rattle.flags.specs.Byte.{flags_fit}
use Rattle.form.specs.Form.{Current, Flags, Form, FormNumber, length_of, newest, number_of, saved_length}
use Rattle.form.specs.Signed.{current_of}
use Rattle.gauge.specs.Accepted.{accepted}
use Rattle.gauge.specs.Answer.{Answer}
use Rattle.gauge.specs.Opening.{open_answer, open_refusal}
use Rattle.gauge.specs.declared.state.Gauge.{Gauge}
use Rattle.numbers.proofs.BoolLaws.{and_left, and_right}
use Rattle.refusals.specs.Refusal as Refusal
use Rattle.load.specs.Load.{accepted_answer, answer_in, carried_standby, decoded_gauge, form_fits, loaded, of_length, read_in, rejected_answer}

-- ---- bytes that are not tested yet

module _ (bytes : List ℕ) where
  own_length : (others : List ℕ) → length bytes ≡ saved_length → bytes ≡ of_length bytes others
  unfolding of_length
  own_length others l = simp (eq-eqb (length bytes) saved_length l)

  -- bytes of the form's length hold a gauge value
  pub decoded_whole : length bytes ≡ saved_length → decoded_gauge bytes ≡ read_in newest bytes
  unfolding decoded_gauge
  decoded_whole l = ap (read_in newest) (sym (own_length (replicate saved_length 0) l))

-- ---- the ways of a load, for every form

module _ (g : Gauge) where
  pub value_rejected : {r : Answer} → accepted g ≡ false → r ≡ rejected_answer → r ≡ accepted_answer g
  unfolding accepted_answer
  value_rejected a e = simp a e

  pub value_accepted : accepted g ≡ true → record { number = Refusal.none; gauge = g } ≡ accepted_answer g
  unfolding accepted_answer
  value_accepted a = simp a

  value_where_0 : (accepted_answer g).number ≡ 0 → (accepted g ≡ true) × ((accepted_answer g).gauge ≡ g)
  unfolding accepted_answer rejected_answer
  value_where_0 z = go (accepted g) refl z
    where
      go : (t : Bool) → accepted g ≡ t → (cond t (record { number = Refusal.none; gauge = g }) rejected_answer).number ≡ 0
          → (t ≡ true) × ((cond t (record { number = Refusal.none; gauge = g }) rejected_answer).gauge ≡ g)
      go true p q = (refl, refl)
      go false p q = let no : ⊥ = omega arith in absurd no

-- what an answer of 0 says of the bytes
pub record Loads (form : Form) (bytes : List ℕ) : Type 0 where
  pub fits : form_fits form bytes ≡ true
  pub accepted : accepted (loaded form bytes) ≡ true
  pub gauge : (answer_in form bytes).gauge ≡ loaded form bytes

module _ (form : Form) (bytes : List ℕ) where
  pub misfit_loads : {r : Answer} → form_fits form bytes ≡ false → r ≡ rejected_answer → r ≡ answer_in form bytes
  unfolding answer_in
  misfit_loads f e = simp f e

  pub value_loads : {r : Answer} {g : Gauge} → form_fits form bytes ≡ true → g ≡ loaded form bytes → r ≡ accepted_answer g → r ≡ answer_in form bytes
  unfolding answer_in
  value_loads f p e = simp f (e ∙ ap accepted_answer p)

  pub rejected_loads : form_fits form bytes ≡ true → accepted (loaded form bytes) ≡ false → rejected_answer ≡ answer_in form bytes
  rejected_loads f a = value_loads f refl (value_rejected (loaded form bytes) a refl)

  pub accepted_loads : {g : Gauge} → form_fits form bytes ≡ true → g ≡ loaded form bytes → accepted g ≡ true
      → record { number = Refusal.none; gauge = g } ≡ answer_in form bytes
  accepted_loads {g} f p a = value_loads f p (value_accepted g a)

  pub loads : (answer_in form bytes).number ≡ 0 → Loads form bytes
  unfolding answer_in rejected_answer
  loads z = go (form_fits form bytes) refl
    where
      go : (t : Bool) → form_fits form bytes ≡ t → Loads form bytes
      go true f =
          let is : answer_in form bytes ≡ accepted_answer (loaded form bytes) = simp f in
          let v = value_where_0 (loaded form bytes) (ap (λ (x : Answer). x.number) (sym is) ∙ z) in
          record { fits = f; accepted = v.0; gauge = ap (λ (x : Answer). x.gauge) is ∙ v.1 }
      go false f =
          let is : answer_in form bytes ≡ rejected_answer = simp f in
          let n : ◌≡◌ {A = ℕ} 14 0 = ap (λ (x : Answer). x.number) (sym is) ∙ z in
          let no : ⊥ = omega arith in
          absurd no

-- the gauge of an opening that was refused for its length
pub rejected_is : {a : Answer} → a ≡ open_answer [] → record { number = Refusal.rejected; gauge = a.gauge } ≡ rejected_answer
unfolding open_answer open_refusal rejected_answer
rejected_is e = ap (λ (x : Answer). record { number = Refusal.rejected; gauge = x.gauge }) e

-- ---- what bytes in a form are

module _ (form : Form) (bytes : List ℕ) (f : form_fits form bytes ≡ true) where
  long : Bool
  long = eqb (length bytes) (length_of form.fields)

  first : Bool
  first = eqb (number_of FormNumber form bytes) form.number

  fit : Bool
  fit = flags_fit (number_of Flags form bytes) (current_of (number_of Current form bytes)).charging

  pub form_length : length bytes ≡ length_of form.fields
  unfolding form_fits long first fit
  form_length = eqb-true (length bytes) (length_of form.fields) (and_left long (first && fit) f)

  pub form_first : number_of FormNumber form bytes ≡ form.number
  unfolding form_fits long first fit
  form_first = eqb-true (number_of FormNumber form bytes) form.number (and_left first fit (and_right long (first && fit) f))

  pub form_flags : flags_fit (number_of Flags form bytes) (current_of (number_of Current form bytes)).charging ≡ true
  unfolding form_fits long first fit
  form_flags = and_right first fit (and_right long (first && fit) f)

-- the newest form has nothing otherwise
pub newest_loaded : (bytes : List ℕ) → read_in newest bytes ≡ loaded newest bytes
unfolding loaded carried_standby
newest_loaded bytes = refl

-- bytes in the form hold a gauge value
pub decoded_is : (bytes : List ℕ) → form_fits newest bytes ≡ true → decoded_gauge bytes ≡ loaded newest bytes
decoded_is bytes f = decoded_whole bytes (form_length newest bytes f) ∙ newest_loaded bytes

-- ---- what is tested before any call

module _ (bytes : List ℕ) where
  pub unfit_answer : form_fits newest bytes ≡ false → (answer_in newest bytes).number ≡ Refusal.rejected
  unfolding rejected_answer
  unfit_answer f = sym (ap (λ (x : Answer). x.number) (misfit_loads newest bytes f refl))

  pub unaccepted_answer : form_fits newest bytes ≡ true → accepted (decoded_gauge bytes) ≡ false → (answer_in newest bytes).number ≡ Refusal.rejected
  unfolding rejected_answer
  unaccepted_answer f a = sym (ap (λ (x : Answer). x.number) (rejected_loads newest bytes f (sym (ap accepted (decoded_is bytes f)) ∙ a)))

  pub passed_answer : form_fits newest bytes ≡ true → accepted (decoded_gauge bytes) ≡ true → (answer_in newest bytes).number ≡ Refusal.none
  passed_answer f a = sym (ap (λ (x : Answer). x.number) (accepted_loads newest bytes f (decoded_is bytes f) a))

  -- what passes is the gauge of the answer
  pub gauge_loaded : (answer_in newest bytes).number ≡ Refusal.none → decoded_gauge bytes ≡ (answer_in newest bytes).gauge
  gauge_loaded z = let w = loads newest bytes z in decoded_is bytes w.fits ∙ sym w.gauge
