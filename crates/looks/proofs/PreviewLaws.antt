-- A preview of the saved bytes: the key is written to a copy, whose bytes hold the gauge after the command, and what is shown of them are the registers of
-- that gauge. Assumes nothing.
use mathlib.Core.Bool.{true}
use mathlib.Core.List.{List, [], ◌++◌, append-nil}
use mathlib.Core.Path.{◌≡◌, sym, ap, subst, ◌∙◌}
use Prim.Native.Nat.{ℕ, ◌<◌}
use lib.ListN.{drop, get_or, length}
use lib.Seq.{drop-length}
use borrow.Author.Tests.{eq-eqb, ne_eqb}
use Rattle.command.specs.Command.{command_of, decide}
use Rattle.form.specs.Form.{newest}
use Rattle.gauge.specs.Accepted.{accepted}
use Rattle.gauge.specs.Calls.{write_answer}
use Rattle.gauge.specs.Fits.{Taken}
use Rattle.gauge.specs.Answer.{Answer}
use Rattle.gauge.specs.declared.state.Gauge.{Gauge}
use Rattle.gauge.proofs.ObeyedKept.{key_taken}
use Rattle.host.specs.declared.host.Host.{Host}
use Rattle.load.specs.Load.{answer_in, decoded_gauge, loaded}
use Rattle.load.specs.Look.{look_leaves, look_number}
use Rattle.load.proofs.LoadLaws.{decoded_is, loads}
use Rattle.load.proofs.TakenLaws.{newest_taken}
use Rattle.preview.specs.Preview as Preview
use Rattle.preview.specs.Preview.{command_after, on_copy, preview_refusal, whole_reply_refusal}
use Rattle.preview.proofs.PreviewLaws.{reads}
use Rattle.refusals.specs.Refusal as Refusal
use Rattle.refusals.proofs.OrElseLaws.{first_none, refusal_leaves, second_none, third_unasked}
use Rattle.registers.specs.Map.{register_count}
use Rattle.registers.specs.Reading as Reading
use Rattle.registers.specs.Reading.{reply_with}
use Rattle.registers.specs.Whole.{whole_map}
use Rattle.round_trip.proofs.RoundTripLaws.{load_of_saved}
use Rattle.saved.specs.Call.{call_bytes, call_number}
use Rattle.saved.specs.Save.{saved_bytes}

-- all registers fill a reply of their number
whole_reply : (g : Gauge) (reply : List ℕ) → length reply ≡ register_count → reply_with g 0x00 register_count 0 reply ≡ whole_map g
whole_reply g reply l =
    let none : drop register_count reply ≡ [] = ap (λ (n : ℕ). drop n reply) (sym l) ∙ drop-length reply in
    ap (λ (r : List ℕ). whole_map g ++ r) none ∙ append-nil (whole_map g)

module _ (saved : List ℕ) (key : ℕ) (reply : List ℕ) (before : ℕ) where
  -- the number, every byte of the reply and the command afterwards
  abbrev Answers : ℕ → List ℕ → ℕ → Type 0
  Answers number after command =
      (number ≡ look_number saved (λ g. preview_refusal g key (length reply)))
      × ((after ≡ look_leaves saved (λ g. Preview.reply_after g key reply) reply)
      × (command ≡ look_leaves saved (λ g. command_after g key (length reply) before) before))

  -- the key written to the gauge that the bytes hold
  abbrev keyed : Gauge → Answer
  keyed g = write_answer g 0x00 key

  -- the gauge that the bytes hold, and the copy after the key
  held : Gauge
  held = (answer_in newest saved).gauge

  copied : Answer
  copied = on_copy held key

  pub key_refused : {number : ℕ} → number ≡ call_number saved keyed → (number ≡ Refusal.none → ⊥) → Answers number reply before
  unfolding held copied call_number look_number look_leaves preview_refusal Preview.reply_after command_after
  key_refused p n =
      let r : call_number saved keyed ≡ Refusal.none → ⊥ = λ z. n (p ∙ z) in (
        p ∙ third_unasked (answer_in newest saved).number copied.number (whole_reply_refusal (length reply)) r,
        (
          refusal_leaves (answer_in newest saved).number copied.number (whole_reply_refusal (length reply)) r _ reply,
          refusal_leaves (answer_in newest saved).number copied.number (whole_reply_refusal (length reply)) r _ before,
        ),
      )

  module _ (w : call_number saved keyed ≡ Refusal.none) where
    loads_well : (answer_in newest saved).number ≡ Refusal.none
    unfolding call_number
    loads_well = first_none (answer_in newest saved).number _ w

    copy_written : copied.number ≡ Refusal.none
    unfolding call_number held copied
    copy_written = second_none (answer_in newest saved).number copied.number w

    number_is : look_number saved (λ g. preview_refusal g key (length reply)) ≡ whole_reply_refusal (length reply)
    unfolding look_number preview_refusal held copied
    number_is = simp (loads_well, copy_written)

    pub reply_refused : (length reply ≡ register_count → ⊥) → Answers Refusal.buffer_length reply before
    unfolding look_number look_leaves preview_refusal held copied Preview.reply_after command_after
    reply_refused n =
        let f = ne_eqb (length reply) register_count n in
        (sym (number_is ∙ simp f), (simp (loads_well, copy_written, f), simp (loads_well, copy_written, f)))

    module _ (small : (k : ℕ) → get_or saved k 0 < 256) {bytes : List ℕ} (b : bytes ≡ call_bytes saved keyed) where
      held_is : held ≡ loaded newest saved
      unfolding held
      held_is = (loads newest saved loads_well).gauge

      copy_taken : Taken copied.gauge
      unfolding copied
      copy_taken = key_taken held key copy_written (subst Taken (sym held_is) (newest_taken saved small (loads newest saved loads_well).accepted))

      copy_bytes : call_bytes saved keyed ≡ saved_bytes copied.gauge
      unfolding call_bytes held copied
      copy_bytes = simp w

      copy_loads : answer_in newest bytes ≡ record { number = Refusal.none; gauge = copied.gauge }
      copy_loads = ap (answer_in newest) (b ∙ copy_bytes) ∙ load_of_saved copied.gauge copy_taken.fits copy_taken.accepted

      copy_decoded : decoded_gauge bytes ≡ copied.gauge
      copy_decoded =
          let l = loads newest bytes (ap (λ (x : Answer). x.number) copy_loads) in
          decoded_is bytes l.fits ∙ sym l.gauge ∙ ap (λ (x : Answer). x.gauge) copy_loads

      -- what the map of the copy asks
      pub copy_accepted : accepted (decoded_gauge bytes) ≡ true
      copy_accepted = ap accepted copy_decoded ∙ copy_taken.accepted

      pub previewed : length reply ≡ register_count → {h : Host} → h ≡ (decoded_gauge saved).host → {command : ℕ} {after : List ℕ}
          → after ≡ whole_map (decoded_gauge bytes) → command ≡ command_of (decide key h.mode h.ar) → Answers Refusal.none after command
      unfolding look_leaves preview_refusal held copied Preview.reply_after Reading.reply_after command_after
      previewed l {h} d q r =
          let f = eq-eqb (length reply) register_count l in
          let room = reads held key reply copy_written l in
          let same : h ≡ held.host = d ∙ ap (λ (x : Gauge). x.host) (decoded_is saved (loads newest saved loads_well).fits ∙ sym held_is) in (
            sym (number_is ∙ simp f),
            (
              q ∙ ap whole_map copy_decoded ∙ sym (whole_reply copied.gauge reply l) ∙ simp (loads_well, copy_written, f, room),
              r ∙ ap (λ (x : Host). command_of (decide key x.mode x.ar)) same ∙ simp (loads_well, copy_written, f),
            ),
          )

      -- the reply of a read of all registers of the copy
      pub shown_again : length reply ≡ register_count
          → look_leaves saved (λ g. Preview.reply_after g key reply) reply ≡ look_leaves bytes (λ g. Reading.reply_after g 0x00 register_count 0 reply) reply
      unfolding look_leaves preview_refusal held copied Preview.reply_after
      shown_again l = let f = eq-eqb (length reply) register_count l in simp (loads_well, copy_written, f, copy_loads)
