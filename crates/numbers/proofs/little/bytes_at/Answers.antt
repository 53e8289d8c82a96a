-- One byte more at each turn. Assumes nothing.
use native.Mathlib.Omega.{arith}
use Rattle.std.proofs.Common.{rules, ◌+◌, get_or}
use Rattle.std.proofs.lemmas.List.Edits.{fill_by_more}
use Rattle.numbers.proofs.BytesLaws.{bytes_are}
use Rattle.numbers.proofs.little.bytes_at.Goals as goal

pub loop-at-preserved : goal.loop-at-preserved
loop-at-preserved g c =
    let a = c.args in
    let more = fill_by_more (λ k. get_or a.bytes.now (a.place + k) 0) c.loop-at.found c.loop-at.at 0 (omega arith) c.loop-at.invariant.1 in
    (search rules, simp c.byte_at.ensures more)

pub returns : goal.returns
returns g c =
    let a = c.args in
    bytes_are g.row.N a.place a.bytes.now c.loop-at.found c.loop-at.invariant.0 (λ k h. c.loop-at.invariant.1 k (omega arith))
