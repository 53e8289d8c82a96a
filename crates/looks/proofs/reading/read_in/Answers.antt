-- Bytes that are not in the form, or hold no gauge that is accepted, answer 14; each other way answers what its tests pick, in the paper's order.
-- Assumes nothing.
use mathlib.Core.List.{List}
use mathlib.Core.Path.{◌≡◌, ◌∙◌, ap, sym}
use Prim.Native.Nat.{ℕ, ◌+◌, ◌-◌}
use lib.ListN.{drop, length, take}
use Rattle.form.specs.Form.{newest}
use Rattle.load.specs.Load.{answer_in, decoded_gauge}
use Rattle.refusals.specs.Refusal as Refusal
use Rattle.registers.specs.Map.{registers_from}
use Rattle.looks.proofs.ReadingLaws.{Answers, looked, read_beyond, read_done, read_long, read_none, read_outside}
use Rattle.looks.proofs.TestedLaws.{held_accepted}
use Rattle.looks.proofs.reading.read_in.Goals as goal
use Rattle.looks.proofs.reading.read_in.Goals.{In_ok-tested, then-count-eq0-via-then-count-eq0}
use Rattle.looks.proofs.reading.read_in.Goals.{then-count-eq0-via-else-count-eq0+then-count-gt-ADDRESSES}
use Rattle.looks.proofs.reading.read_in.Goals.{then-count-eq0-via-else-count-eq0+else-count-gt-ADDRESSES+then-count-address}

-- the saved bytes hold a gauge that is accepted
passed : (c : In_ok-tested) → (answer_in newest c.args.saved.now).number ≡ Refusal.none
passed c = sym (c.in_ok-tested.ensures ∙ ap (λ (b : List ℕ). (answer_in newest b).number) c.in-Some.ensures.cases.same)

pub returns-then-count-eq0 : goal.returns-then-count-eq0
returns-then-count-eq0 c =
    let a = c.args in
    let g = decoded_gauge a.saved.now in
    let z = passed (goal.at.returns-then-count-eq0 c).In_ok-tested in
    let k = held_accepted a.saved.now z in
    let outside : Answers g a.address a.count a.place a.reply.now Refusal.register_range a.reply.now =
    elim c.then-count-eq0.branch [
      | then-count-eq0-via-then-count-eq0 w ↦ read_none g a.address a.count a.place a.reply.now k w.if-count-eq0.true
      | then-count-eq0-via-else-count-eq0+then-count-gt-ADDRESSES w ↦
          read_long g a.address a.count a.place a.reply.now k w.if-count-eq0.false w.if-count-gt-ADDRESSES.true
      | then-count-eq0-via-else-count-eq0+else-count-gt-ADDRESSES+then-count-address w ↦
          read_beyond g a.address a.count a.place a.reply.now k w.if-count-eq0.false w.if-count-address.true
    ] in
    let p = looked a.saved.now a.address a.count a.place a.reply.now z outside in
    record { number = p.0; bytes = p.1 }

pub returns-then-reply-end : goal.returns-then-reply-end
returns-then-reply-end c =
    let a = c.args in
    let z = passed (goal.at.returns-then-reply-end c).In_ok-tested in
    let p = looked a.saved.now a.address a.count a.place a.reply.now z
    (read_outside (decoded_gauge a.saved.now) a.address a.count a.place a.reply.now (held_accepted a.saved.now z)
    c.if-count-eq0.false c.if-count-gt-ADDRESSES.false c.if-count-address.false c.if-reply-end.true) in
    record { number = p.0; bytes = p.1 }

pub returns : goal.returns
returns c =
    let a = c.args in
    let z = passed (goal.at.returns c).In_ok-tested in
    let lent = length (take (a.place + a.count - a.place) (drop a.place a.reply.now)) in
    let same = ap (λ (b : List ℕ). registers_from (decoded_gauge b) a.address lent) c.in-Some.ensures.cases.same in
    let p = looked a.saved.now a.address a.count a.place a.reply.now z
    (read_done (decoded_gauge a.saved.now) a.address a.count a.place a.reply.now (held_accepted a.saved.now z)
    c.if-count-eq0.false c.if-count-gt-ADDRESSES.false c.if-count-address.false c.if-reply-end.false (c.copy_registers.ensures ∙ same)) in
    record { number = p.0; bytes = p.1 }
