-- The last output, put at the start of the buffer. Assumes nothing.
use mathlib.Core.List.{List}
use mathlib.Core.Path.{◌≡◌, sym, ap, ◌∙◌}
use Prim.Native.Nat.{ℕ, ◌≤◌}
use native.Mathlib.Omega.{arith}
use lib.ListN.{length, take}
use lib.Seq.{length-take-le}
use Rattle.bench_output.proofs.PutLaws.{IsOutput}
use Rattle.bench_output.specs.Output.{room, text_of}
use Rattle.std.specs.Prelude.{Option}
use Rattle.bench_output.specs.declared.output.Output.{Output}
use Rattle.lines.specs.Put.{place_after, put_at}

-- what `finish` promises of a text: the place behind it, the bytes afterwards, and that the place counts bytes of the buffer
pub last_put : (last output : Option Output) (out : List ℕ) (next : ℕ) (after : List ℕ) → output ≡ last → length after ≡ length out
    → IsOutput (text_of output) out 0 next after
    → (next ≡ place_after room (text_of last) out 0)
    × ((after ≡ put_at room (text_of last) out 0)
    × ((next ≤ length after) × (next ≡ length (take next after))))
last_put last output out next after e long p =
    let h = p.within (omega arith) in
    let few : next ≤ length after = omega arith in (
      p.place ∙ ap (λ (x : Option Output). place_after room (text_of x) out 0) e,
      (p.bytes ∙ ap (λ (x : Option Output). put_at room (text_of x) out 0) e, (few, sym (length-take-le next after few))),
    )
