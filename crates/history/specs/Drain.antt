-- "a run with its drain R or no run" of the history in paper 01. Definitions only; assumes nothing.
use Rattle.std.specs.Prelude.{cond, ℕ, ◌+◌, ◌*◌, ltb}
use Rattle.std.proofs.Math.Option.{Option, none, some}
use Rattle.history.specs.Sums.{grains_a_count}

-- "65,535 × G"
abbrev pub drain_limit : ℕ
drain_limit = 65_535 * grains_a_count

-- "a run's R gains" the grains
unfoldable pub gains : ℕ → Option ℕ → Option ℕ
gains grains none = none
gains grains (some r) = some (r + grains)

-- "the run ends if R is above 65,535 × G"
unfoldable pub unless_above : Option ℕ → Option ℕ
unless_above none = none
unless_above (some r) = cond (ltb drain_limit r) none (some r)
