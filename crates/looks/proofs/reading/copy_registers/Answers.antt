-- One pair, all registers, or the middle of the whole map. Assumes nothing.
use borrow.Author.Rules.{rules}
use mathlib.Core.Path.{◌∙◌, ap}
use Prim.Native.Nat.{◌/◌}
use Rattle.gauge.specs.declared.state.Gauge.{Gauge}
use Rattle.load.specs.Load.{decoded_gauge}
use Rattle.registers.specs.Map.{pair_at}
use Rattle.looks.proofs.CopyLaws.{copied_middle, pair_copied}
use Rattle.looks.proofs.reading.copy_registers.Goals as goal

pub returns-then-address-part-le2 : goal.returns-then-address-part-le2
returns-then-address-part-le2 c =
    let a = c.args in
    let pair = c.pair_at.ensures ∙ ap (λ (g : Gauge). pair_at g (a.address / 2)) c.decoded-gauge.ensures in
    c.copy_pair.ensures ∙ pair_copied (decoded_gauge a.saved.now) a.address _ pair _ c.requires.1 c.if-address-part-le2.true

pub returns : goal.returns
returns c =
    let a = c.args in
    copied_middle (decoded_gauge a.saved.now) a.address _ a.part.now _ c.put_registers-2.ensures c.requires.2 (c.put_front.ensures.fits (search rules))
