-- The word, then the number behind it: eight bytes and at most eleven, for which there is room. Assumes nothing.
-- "refused "
use mathlib.Core.List.{List, [], ◌∷◌}
use mathlib.Core.Path.{refl}
use Prim.Native.Nat.{ℕ}
use native.Mathlib.Omega.{arith}
use Rattle.bench_output.specs.Output.{refused_text}
use Rattle.bench_output.proofs.PutLaws.{refused_put}
use Rattle.bench_output.proofs.put.put_refused.Goals as goal

abbrev refused : List ℕ
refused = 114 ∷ 101 ∷ 102 ∷ 117 ∷ 115 ∷ 101 ∷ 100 ∷ 32 ∷ []

pub returns : goal.returns
unfolding refused_text
returns c =
    refused_put refused _ refl (omega arith) c.ranges.number _ _ _ _ _ _ c.requires c.put_text-second.ensures c.put_number.ensures
