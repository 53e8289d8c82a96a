-- What a preview shows: the write of a key that is obeyed leaves the gauge after the command, and the read of 128 bytes is its whole map. Assumes
-- nothing.
use mathlib.Core.Bool.{true}
use mathlib.Core.List.{List, ◌++◌, append-nil}
use mathlib.Core.Path.{◌≡◌, ap, ◌∙◌}
use Prim.Native.Nat.{ℕ}
use native.Mathlib.Omega.{arith}
use lib.ListN.{drop_of_length-le, length}
use borrow.Author.Tests.{eq-eqb}
use Rattle.command.specs.Command.{command_of, decide}
use Rattle.command.specs.declared.command.Command.{Command}
use Rattle.std.specs.Prelude.{Ok}
use Rattle.gauge.specs.Accepted.{accepted}
use Rattle.gauge.specs.Calls.{write_answer, write_refusal, written}
use Rattle.gauge.specs.Obey.{decided, obeyed}
use Rattle.gauge.specs.Answer.{Answer}
use Rattle.gauge.specs.declared.state.Gauge.{Gauge}
use Rattle.refusals.specs.Refusal as Refusal
use Rattle.registers.specs.Map.{register_count, registers_from}
use Rattle.registers.specs.Reading as Reading
use Rattle.registers.specs.Reading.{read_refusal, reply_with}
use Rattle.registers.specs.Whole.{whole_map}
use Rattle.preview.specs.Claim.{Shows}
use Rattle.preview.specs.Preview.{command_after, on_copy, preview_refusal, reply_after}
use Rattle.preview.proofs.PreviewLaws.{reads}

-- the write on the copy
obeys : (g : Gauge) (key : ℕ) (command : Command) → accepted g ≡ true → decide key g.host.mode g.host.ar ≡ Ok command
    → on_copy g key ≡ record { number = Refusal.none; gauge = obeyed command g }
unfolding write_answer write_refusal written decided
obeys g key command e d = simp (e, d)

-- of a reply of 128 bytes nothing is left behind the registers
whole_reply : (g : Gauge) (reply : List ℕ) → length reply ≡ register_count → reply_with g 0x00 register_count 0 reply ≡ whole_map g
whole_reply g reply l =
    ap (λ (rest : List ℕ). registers_from g 0x00 register_count ++ rest) (drop_of_length-le reply {i = register_count} (omega arith))
    ∙ append-nil (registers_from g 0x00 register_count)

-- the read of it
whole_read : (g : Gauge) (reply : List ℕ) → length reply ≡ register_count → read_refusal g 0x00 register_count 0 (length reply) ≡ Refusal.none
    → Reading.reply_after g 0x00 register_count 0 reply ≡ whole_map g
unfolding Reading.reply_after
whole_read g reply l e = rw e (whole_reply g reply l)

pub shows : Shows
unfolding preview_refusal reply_after command_after command_of
shows g key command e d reply before l =
    let w = obeys g key command e d in
    let n = ap (λ (x : Answer). x.number) w in
    let next = ap (λ (x : Answer). x.gauge) w in
    let f = eq-eqb (length reply) register_count l in
    let r = reads g key reply n l in
    record {
      number = simp (n, f);
      handed = simp (n, f, d);
      registers = simp (n, f) (whole_read (on_copy g key).gauge reply l r ∙ ap whole_map next);
    }
