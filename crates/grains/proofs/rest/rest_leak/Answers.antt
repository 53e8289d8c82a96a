-- The first window by itself; the others end where all end. Assumes nothing.
use mathlib.Core.Path.{◌∙◌}
use Prim.Native.Nat.{◌-◌}
use native.Mathlib.Omega.{arith}
use Rattle.grains.proofs.RestLaws.{ends_after_first, leak_none, leak_one, rest_leak_within}
use Rattle.grains.proofs.rest.rest_leak.Goals as goal

pub returns-then-windows-eq0-clause-value : goal.returns-then-windows-eq0-clause-value
returns-then-windows-eq0-clause-value c =
    let a = c.args in
    leak_none a.windows a.rate a.held c.if-windows-eq0.true

pub returns-then-windows-eq1-clause-value : goal.returns-then-windows-eq1-clause-value
returns-then-windows-eq1-clause-value c =
    let a = c.args in
    c.leak-first.ensures.value ∙ leak_one a.windows a.rate a.held c.if-windows-eq1.true

pub returns-then-in_range-clause-value : goal.returns-then-in_range-clause-value
returns-then-in_range-clause-value c =
    let a = c.args in
    let e = c.held_after.ensures ∙ ends_after_first (a.windows - 1) a.windows a.rate a.held (omega arith) c.leak-first.ensures.value in
    let w = rest_leak_within a.windows a.rate a.held (omega arith) in
    omega arith

pub returns-else-in_range-clause-value : goal.returns-else-in_range-clause-value
returns-else-in_range-clause-value c =
    let a = c.args in
    let e = c.held_after_each.ensures.value ∙ ends_after_first (a.windows - 1) a.windows a.rate a.held (omega arith) c.leak-first.ensures.value in
    let w = rest_leak_within a.windows a.rate a.held (omega arith) in
    omega arith
