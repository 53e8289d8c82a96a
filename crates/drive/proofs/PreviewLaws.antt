-- The preview of the saved bytes by the ways of its call. Assumes nothing.
use mathlib.Core.Bool.{Bool, true, false, cond}
use mathlib.Core.List.{List}
use mathlib.Core.Path.{◌≡◌, refl, sym, ap, ◌∙◌}
use Prim.Native.Nat.{ℕ, ◌<◌}
use lib.Dec.{eqb}
use lib.ListN.{get_or, length}
use borrow.Author.Tests.{eqb-false, eqb-true}
use Rattle.command.specs.Command.{command_of, decide}
use Rattle.form.specs.Form.{Ar, Mode, newest, number_of}
use Rattle.gauge.specs.declared.state.Gauge.{Gauge}
use Rattle.handset.specs.Calls.{preview_command, preview_number, preview_reply, read_reply, write_call}
use Rattle.saved.specs.Call.{call_bytes, call_number}
use Rattle.load.specs.Look.{look_number}
use Rattle.load.specs.Fields.{gauge_from, host_from}
use Rattle.load.specs.Load.{answer_in, decoded_gauge, loaded, read_in}
use Rattle.load.proofs.LoadLaws.{decoded_is, loads}
use Rattle.looks.proofs.PreviewLaws.{key_refused, previewed, reply_refused, shown_again}
use Rattle.preview.specs.Preview.{on_copy, preview_refusal, whole_reply_refusal}
use Rattle.refusals.specs.Refusal as Refusal
use Rattle.refusals.specs.Refusal.{or_else}
use Rattle.refusals.proofs.OrElseLaws.{first_none, in_a_row}
use Rattle.registers.specs.Map.{register_count}
use Rattle.drive.specs.Preview.{PreviewOfCopy}

number_is : (saved : List ℕ) (key : ℕ) (reply : List ℕ)
    → preview_number saved key (length reply) ≡ or_else (call_number saved (write_call 0 key)) (whole_reply_refusal (length reply))
unfolding look_number call_number preview_refusal
number_is saved key reply =
    in_a_row (answer_in newest saved).number (on_copy (answer_in newest saved).gauge key).number (whole_reply_refusal (length reply))

module _ (saved : List ℕ) (small : (k : ℕ) → get_or saved k 0 < 256) (key : ℕ) (reply : List ℕ) where
  abbrev read_back : List ℕ
  read_back = read_reply (call_bytes saved (write_call 0 key)) 0 register_count 0 reply

  abbrev obeys : ℕ
  obeys = command_of (decide key (number_of Mode newest saved) (number_of Ar newest saved))

  -- what is lent afterwards, by the preview's number
  abbrev Leaves : ℕ → Type 0
  Leaves before =
      (preview_reply saved key reply ≡ cond (eqb (preview_number saved key (length reply)) Refusal.none) read_back reply)
      × (preview_command saved key (length reply) before ≡ cond (eqb (preview_number saved key (length reply)) Refusal.none) obeys before)

  decoded_command : call_number saved (write_call 0 key) ≡ Refusal.none
      → command_of (decide key (decoded_gauge saved).host.mode (decoded_gauge saved).host.ar) ≡ obeys
  unfolding call_number loaded read_in gauge_from host_from
  decoded_command w =
      ap (λ (g : Gauge). command_of (decide key g.host.mode g.host.ar))
      (decoded_is saved (loads newest saved (first_none (answer_in newest saved).number _ w)).fits)

  leaves : (before : ℕ) → Leaves before
  leaves before = go (eqb (call_number saved (write_call 0 key)) 0) (eqb (length reply) register_count) refl refl
    where
      go : (t u : Bool) → eqb (call_number saved (write_call 0 key)) 0 ≡ t → eqb (length reply) register_count ≡ u → Leaves before
      go true true p q =
          let w = eqb-true (call_number saved (write_call 0 key)) 0 p in
          let l = eqb-true (length reply) register_count q in
          let a = previewed saved key reply before w small refl l refl refl refl in
          let n : preview_number saved key (length reply) ≡ Refusal.none = number_is saved key reply ∙ simp (p, q) in
          (shown_again saved key reply before w small refl l ∙ sym (simp n), sym a.1.1 ∙ decoded_command w ∙ sym (simp n))
      go true false p q =
          let w = eqb-true (call_number saved (write_call 0 key)) 0 p in
          let a = reply_refused saved key reply before w (eqb-false (length reply) register_count q) in
          let n : preview_number saved key (length reply) ≡ Refusal.buffer_length = number_is saved key reply ∙ simp (p, q) in
          (sym a.1.0 ∙ sym (simp n), sym a.1.1 ∙ sym (simp n))
      go false u p q =
          let a = key_refused saved key reply before refl (eqb-false (call_number saved (write_call 0 key)) 0 p) in
          let n : eqb (preview_number saved key (length reply)) Refusal.none ≡ false = simp (number_is saved key reply, p) in
          (sym a.1.0 ∙ sym (simp n), sym a.1.1 ∙ sym (simp n))

pub preview_of_copy : PreviewOfCopy
preview_of_copy saved small key reply =
    record {
      number = number_is saved key reply;
      registers = (leaves saved small key reply 0).0;
      command = λ before. (leaves saved small key reply before).1;
    }
