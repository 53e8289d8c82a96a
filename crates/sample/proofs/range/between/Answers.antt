-- Both tests speak of the number itself. Assumes nothing.
use mathlib.Core.Bool.{true, false}
use mathlib.Core.Path.{◌≡◌, sym, ap, ◌∙◌}
use native.Mathlib.Omega.{arith}
use lib.IntN.{pos, nat_abs}
use lib.Signed.{lt_z}
use mir.Facts.{to_z_pos}
use mir.Syntax.{w32}
use Rattle.numbers.proofs.SignedLaws.{narrow}
use Rattle.sample.proofs.RangeLaws.{above_most, below_least, within_both}
use Rattle.sample.proofs.range.between.Goals as goal

pub returns-then-number-least : goal.returns-then-number-least
returns-then-number-least c =
    let a = c.args in
    let l = to_z_pos w32 {n = a.least} (omega arith) in
    let e : lt_z a.number (pos a.least) ≡ true = rw (sym (narrow _ c.ranges.number), sym l) c.if-number-least.true in
    simp (below_least a.least a.most a.number e)

pub returns-then-most-number : goal.returns-then-most-number
returns-then-most-number c =
    let a = c.args in
    let m = to_z_pos w32 {n = a.most} (omega arith) in
    let e : lt_z (pos a.most) a.number ≡ true = rw (sym (narrow _ c.ranges.number), sym m) c.if-most-number.true in
    simp (above_most a.least a.most a.number e)

pub returns : goal.returns
returns c =
    let a = c.args in
    let l = to_z_pos w32 {n = a.least} (omega arith) in
    let m = to_z_pos w32 {n = a.most} (omega arith) in
    let e : lt_z a.number (pos a.least) ≡ false = rw (sym (narrow _ c.ranges.number), sym l) c.if-number-least.false in
    let f : lt_z (pos a.most) a.number ≡ false = rw (sym (narrow _ c.ranges.number), sym m) c.if-most-number.false in
    let p = within_both a.least a.most a.number e f in
    simp (p.0, ap nat_abs (narrow _ c.ranges.number) ∙ p.1)
