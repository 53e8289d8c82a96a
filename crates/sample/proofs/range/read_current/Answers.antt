-- Each way returns the case that its tests pick, told of the number itself by what `take_apart` ensures. Assumes nothing.
use Prim.Native.Nat.{◌<◌, ◌≤◌}
use mathlib.Core.Path.{◌≡◌, ap, sym, ◌∙◌}
use native.Mathlib.Omega.{arith}
use borrow.Author.Tests.{le-leb, lt-leb, not-false, not-true}
use Rattle.sample.specs.Limits.{most_current}
use Rattle.sample.specs.Range.{current_in_range}
use Rattle.numbers.specs.Signed.{magnitude, taken_apart}
use Rattle.numbers.specs.declared.signed.Signed.{Signed}
use Rattle.numbers.proofs.SignedLaws.{narrow}
use Rattle.sample.proofs.range.read_current.Goals as goal
use Rattle.sample.proofs.range.read_current.Goals.{After-take_apart-apart}

apart : (c : After-take_apart-apart) → c.take_apart-apart.result ≡ taken_apart c.args.a
apart c = c.take_apart-apart.ensures ∙ ap taken_apart (narrow _ c.ranges.a)

pub returns-then-apart : goal.returns-then-apart
unfolding current_in_range
returns-then-apart c =
    let m = ap (λ (s : Signed). s.magnitude) (apart (goal.at.returns-then-apart c).After-take_apart-apart) in
    let h : most_current < magnitude c.args.a = omega arith in
    simp (lt-leb _ _ h)

pub returns-then-not-apart : goal.returns-then-not-apart
unfolding current_in_range
returns-then-not-apart c =
    let same = apart (goal.at.returns-then-not-apart c).After-take_apart-apart in
    let m = ap (λ (s : Signed). s.magnitude) same in
    let n = sym (ap (λ (s : Signed). s.negative) same) ∙ not-true _ c.if-not-apart.true in
    let h : magnitude c.args.a ≤ most_current = omega arith in
    (simp (le-leb _ _ h), simp (le-leb _ _ h, n, m))

pub returns-else-not-apart : goal.returns-else-not-apart
unfolding current_in_range
returns-else-not-apart c =
    let same = apart (goal.at.returns-else-not-apart c).After-take_apart-apart in
    let m = ap (λ (s : Signed). s.magnitude) same in
    let n = sym (ap (λ (s : Signed). s.negative) same) ∙ not-false _ c.if-not-apart.false in
    let h : magnitude c.args.a ≤ most_current = omega arith in
    (simp (le-leb _ _ h), simp (le-leb _ _ h, c.if-not-apart.false, n, m))
