-- The invariant is that of the turns: what is written and what the bytes that are left of the input give are what all of it gives. Assumes
-- nothing.
use mathlib.Core.Bool.{true}
use mathlib.Core.List.{List}
use mathlib.Core.Path.{◌≡◌}
use Prim.Native.Nat.{ℕ}
use Rattle.std.specs.Prelude.{IfSome, Some, Ok}
use Rattle.bench.specs.Written.{Written}
use Rattle.bench.proofs.run.Given as goal

abbrev pub invariant-loop : goal.invariant-loop
invariant-loop g l =
    IfSome (g.R.Read.remaining l.initial.input) (λ all. (rest : List ℕ)
    × (g.R.Read.remaining l.input ≡ Some rest)
    × Written (g.W.Write.contents l.initial.output) (g.W.Write.contents l.output) l.initial.bench all
    (record { bench = l.bench; more = Ok true }) rest)
