-- Laws of the read: each way answers what its tests pick, in the paper's order, with the reply afterwards; of a gauge value, of the saved bytes
-- that hold it, and of a gauge value that is saved first. Assumes nothing.
use mathlib.Core.Bool.{Bool, true, false, cond}
use mathlib.Core.List.{List, ◌++◌}
use mathlib.Core.Path.{◌≡◌, refl, sym, ap, ◌∙◌}
use Prim.Native.Nat.{ℕ, ◌+◌, ◌-◌, ◌≤◌, ◌<◌}
use native.Mathlib.Omega.{arith}
use lib.Dec.{eqb}
use lib.ListN.{drop, length, length-drop, length-take, take}
use lib.Seq.{drop-drop}
use borrow.Author.Tests.{eq-eqb, le-ltb, lt-ltb, ne_eqb}
use Rattle.form.specs.Form.{newest, saved_length}
use Rattle.gauge.specs.Accepted.{accepted}
use Rattle.gauge.specs.declared.state.Gauge.{Gauge}
use Rattle.load.specs.Load.{answer_in, decoded_gauge}
use Rattle.load.specs.Look.{look_leaves, look_number}
use Rattle.looks.proofs.TestedLaws.{held_leaves, held_number}
use Rattle.refusals.specs.Refusal as Refusal
use Rattle.registers.specs.Map.{register_count, registers_from}
use Rattle.registers.specs.Reading.{place_refusal, read_refusal, reply_after, reply_with}
use Rattle.round_trip.proofs.FieldsLaws.{FieldsFit}
use Rattle.round_trip.proofs.RoundTripLaws.{load_back}
use Rattle.saved.specs.Save.{buffer_after, save_refusal, saved_bytes}

-- ---- the part of the reply that is lent

lent_length : (p n : ℕ) (reply : List ℕ) → p + n ≤ length reply → length (take (p + n - p) (drop p reply)) ≡ n
lent_length p n reply h = simp (length-take, length-drop) (omega arith)

-- the registers copied into it stand between what stood before and what stood behind it
lent_back : (g : Gauge) (a p n : ℕ) (reply part : List ℕ) → p + n ≤ length reply
    → part ≡ registers_from g a (length (take (p + n - p) (drop p reply)))
    → take p reply ++ (part ++ drop (p + n - p) (drop p reply)) ≡ reply_with g a n p reply
lent_back g a p n reply part h e =
    let whole : part ≡ registers_from g a n = e ∙ ap (registers_from g a) (lent_length p n reply h) in
    let end : p + (p + n - p) ≡ p + n = omega arith in
    let behind : drop (p + n - p) (drop p reply) ≡ drop (p + n) reply =
    drop-drop (p + n - p) p reply ∙ ap (λ (k : ℕ). drop k reply) end in
    ap (λ (l : List ℕ). take p reply ++ (l ++ drop (p + n - p) (drop p reply))) whole
    ∙ ap (λ (l : List ℕ). take p reply ++ (registers_from g a n ++ l)) behind

-- ---- the ways of a read, by what was tested

module _ (g : Gauge) (address count place : ℕ) (reply : List ℕ) where
  -- the number, and every byte of the reply afterwards
  abbrev pub Answers : ℕ → List ℕ → Type 0
  Answers number after =
      (number ≡ read_refusal g address count place (length reply)) × (after ≡ reply_after g address count place reply)

  answers : (number : ℕ) → read_refusal g address count place (length reply) ≡ number
      → Answers number (cond (eqb number Refusal.none) (reply_with g address count place reply) reply)
  unfolding reply_after
  answers number e = (sym e, sym (ap (λ (k : ℕ). cond (eqb k Refusal.none) (reply_with g address count place reply) reply) e))

  pub read_rejected : accepted g ≡ false → Answers Refusal.rejected reply
  unfolding read_refusal
  read_rejected p = answers Refusal.rejected (simp p)

  module _ (p : accepted g ≡ true) where
    pub read_none : count ≡ 0 → Answers Refusal.register_range reply
    unfolding read_refusal place_refusal
    read_none e = answers Refusal.register_range (simp (p, eq-eqb count 0 e))

    module _ (some : count ≡ 0 → ⊥) where
      beyond : register_count < address + count → Answers Refusal.register_range reply
      unfolding read_refusal place_refusal
      beyond h = answers Refusal.register_range (simp (p, ne_eqb count 0 some, lt-ltb register_count (address + count) h))

      pub read_long : register_count < count → Answers Refusal.register_range reply
      read_long h = beyond (omega arith)

      pub read_beyond : register_count - count < address → Answers Refusal.register_range reply
      read_beyond h = beyond (omega arith)

      module _ (k : count ≤ register_count) (h : address ≤ register_count - count) where
        within : address + count ≤ register_count
        within = omega arith

        pub read_outside : length reply < place + count → Answers Refusal.buffer_length reply
        unfolding read_refusal place_refusal
        read_outside o =
            answers Refusal.buffer_length
            (simp (p, ne_eqb count 0 some, le-ltb register_count (address + count) within, lt-ltb (length reply) (place + count) o))

        module _ (i : place + count ≤ length reply) where
          pub read_done : {part : List ℕ} → part ≡ registers_from g address (length (take (place + count - place) (drop place reply)))
              → Answers Refusal.none (take place reply ++ (part ++ drop (place + count - place) (drop place reply)))
          unfolding read_refusal place_refusal
          read_done {part} e =
              let done = answers Refusal.none
              (simp (p, ne_eqb count 0 some, le-ltb register_count (address + count) within, le-ltb (length reply) (place + count) i)) in
              (done.0, lent_back g address place count reply part i e ∙ done.1)

-- ---- a read of the saved bytes

module _ (saved : List ℕ) (address count place : ℕ) (reply : List ℕ) where
  abbrev Looked : ℕ → List ℕ → Type 0
  Looked number after =
      (number ≡ look_number saved (λ g. read_refusal g address count place (length reply)))
      × (after ≡ look_leaves saved (λ g. reply_after g address count place reply) reply)

  pub looked : {number : ℕ} {after : List ℕ} → (answer_in newest saved).number ≡ Refusal.none
      → Answers (decoded_gauge saved) address count place reply number after → Looked number after
  looked z a = (a.0 ∙ held_number saved z _, a.1 ∙ held_leaves saved z _ _)

-- ---- a read of a gauge value, which is saved first into a buffer of the form's length

module _ (g : Gauge) (address count place : ℕ) (reply buffer : List ℕ) (l : length buffer ≡ saved_length) where
  pub read_unsaved : {number : ℕ} → number ≡ save_refusal g (length buffer) → (number ≡ Refusal.none → ⊥)
      → Answers g address count place reply number reply
  unfolding save_refusal
  read_unsaved {number} e h = go (accepted g) refl
    where
      go : (t : Bool) → accepted g ≡ t → Answers g address count place reply number reply
      go true a = absurd (h (e ∙ simp (a, eq-eqb (length buffer) saved_length l)))
      go false a =
          let refused : number ≡ Refusal.rejected = e ∙ simp a in
          let answer = read_rejected g address count place reply a in
          (refused ∙ answer.0, answer.1)

  pub read_saved : {number looked : ℕ} {saved after : List ℕ} → FieldsFit g → number ≡ save_refusal g (length buffer)
      → number ≡ Refusal.none → saved ≡ buffer_after g buffer → Looked saved address count place reply looked after
      → Answers g address count place reply looked after
  unfolding save_refusal buffer_after look_number look_leaves
  read_saved {number} {looked} {saved} {after} f e z p answer = go (accepted g) refl
    where
      go : (t : Bool) → accepted g ≡ t → Answers g address count place reply looked after
      go true a =
          let same : saved ≡ saved_bytes g = p ∙ simp (a, eq-eqb (length buffer) saved_length l) in
          let held = ap (answer_in newest) same ∙ load_back g f a in
          (answer.0 ∙ simp held, answer.1 ∙ simp held)
      go false a =
          let refused : number ≡ 14 = e ∙ simp a in
          let no : ⊥ = omega arith in
          absurd no
