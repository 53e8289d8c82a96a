-- The windows left end where all of them end; where one leaks nothing, none behind it does. Assumes nothing.
use mathlib.Core.Path.{sym, ◌∙◌}
use Prim.Native.Nat.{◌-◌, ◌+◌}
use native.Mathlib.Omega.{arith}
use Rattle.grains.proofs.RestLaws.{ends_after_first, leak_none, leaks_none}
use Rattle.grains.proofs.rest.held_after_each.Goals as goal

pub returns-then-grains-eq0-clause-value : goal.returns-then-grains-eq0-clause-value
returns-then-grains-eq0-clause-value c =
    let l = c.loop in
    let a = c.args in
    let i = l.invariant.0 in
    let n = leaks_none (a.windows - l.counter) a.rate l.rested (sym c.leak-grains.ensures.value ∙ c.if-grains-eq0.true) in
    omega arith

pub loop-preserved : goal.loop-preserved
loop-preserved c =
    let l = c.loop in
    let a = c.args in
    let i = l.invariant.1 in (
      ends_after_first (a.windows - (l.counter + 1)) (a.windows - l.counter) a.rate l.rested (omega arith) c.leak-grains.ensures.value ∙ l.invariant.0,
      omega arith,
    )

pub returns-clause-value : goal.returns-clause-value
returns-clause-value c =
    let l = c.loop in
    let a = c.args in
    let i = l.invariant.0 in
    let n = leak_none (a.windows - l.counter) a.rate l.rested (omega arith) in
    omega arith
