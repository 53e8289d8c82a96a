-- Where nothing is whole the drain is kept, else it is divided. Assumes nothing.
use Prim.Native.Nat.{◌≤◌}
use mathlib.Core.Path.{◌≡◌}
use native.Mathlib.Omega.{arith}
use Rattle.counters.specs.Cycles.{drain_with, most_cycles}
use Rattle.counters.proofs.CyclesLaws.{drain_with_lem, not_whole, nothing_learned, whole_counted}
use Rattle.counters.proofs.cycles.Cycles.moved.Goals as goal
use Rattle.counters.proofs.cycles.Cycles.moved.Goals.{After-saturating_sum-drain, then-drain-whole, else-drain-whole}

module _ (c : After-saturating_sum-drain) where
  drain_is : let a = c.args in c.saturating_sum-drain.result ≡ drain_with a.current a.self.drain
  drain_is =
      let a = c.args in
      drain_with_lem a.current a.self.drain c.discharge_current.ensures c.grains_of_current.ensures c.saturating_sum-drain.ensures

  small : c.args.self.cyct ≤ most_cycles
  small = omega arith

pub returns-then-lmd-eq0 : goal.returns-then-lmd-eq0
returns-then-lmd-eq0 c =
    let a = c.args in
    let s = (goal.at.returns-then-lmd-eq0 c).After-saturating_sum-drain in
    elim c.if-drain-whole.branch [
      | then-drain-whole w ↦ not_whole a.lmd a.current a.self (small s) (drain_is s) c.grains_of_counts-whole.ensures (omega arith)
      | else-drain-whole w ↦ nothing_learned a.lmd a.current a.self (small s) (drain_is s) (omega arith)
    ]

pub returns-else-lmd-eq0 : goal.returns-else-lmd-eq0
returns-else-lmd-eq0 c =
    let a = c.args in
    let s = (goal.at.returns-else-lmd-eq0 c).After-saturating_sum-drain in
    whole_counted a.lmd a.current a.self (small s) (drain_is s) c.grains_of_counts-whole.ensures c.cyct_after.ensures
