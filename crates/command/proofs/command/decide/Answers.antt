-- Each known key has its rows; any other is not in the list. Assumes nothing.
use mathlib.Core.Path.{ap, ◌∙◌}
use Rattle.std.specs.Prelude.{Option}
use Prim.Native.Nat.{ℕ}
use borrow.Author.Tests.{ne_eqb}
use Rattle.command.specs.Command.{commands, decide, decide_bit, decide_by}
use Rattle.command.proofs.command.decide.Goals as goal

pub returns-then-key-eq169 : goal.returns-then-key-eq169
unfolding decide decide_by
returns-then-key-eq169 c =
    let ar = c.args.ar in
    simp c.if-key-eq169.true (c.decide_a9.ensures ar ∙ ap (λ (bit : Option ℕ). decide_bit commands 0xA9 bit ar) c.highest_command_bit.ensures)

pub returns-then-key-eq86 : goal.returns-then-key-eq86
unfolding decide decide_by
returns-then-key-eq86 c =
    let ar = c.args.ar in
    simp c.if-key-eq86.true (c.decide_56.ensures ∙ ap (λ (bit : Option ℕ). decide_bit commands 0x56 bit ar) c.highest_command_bit-then-key-eq86.ensures)

pub returns : goal.returns
unfolding decide decide_by
returns c = simp (ne_eqb _ _ c.if-key-eq169.false, ne_eqb _ _ c.if-key-eq86.false)
