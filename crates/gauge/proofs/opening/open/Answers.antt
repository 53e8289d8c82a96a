-- Each way answers what its tests pick. Assumes nothing.
use mathlib.Core.Bool.{false, true}
use mathlib.Core.Path.{◌≡◌, ap, ◌∙◌, sym}
use borrow.Author.Tests.{eq-eqb, ne_eqb}
use Rattle.configuration.specs.Configuration.{ilmd}
use Rattle.configuration.specs.Settings.{opened_settings}
use Rattle.gauge.specs.Opening.{opened}
use Rattle.gauge.proofs.OpeningLaws.{open_capacity, open_done, open_length}
use Rattle.gauge.proofs.opening.open.Goals as goal

pub returns-in_default : goal.returns-in_default
returns-in_default c =
    open_length c.args.bytes.now (ne_eqb _ _ (λ e. let z : false ≡ true = c.in_default.ensures.0 e in let no : ⊥ = cc in no))

pub returns-then-ilmd-eq0 : goal.returns-then-ilmd-eq0
returns-then-ilmd-eq0 c =
    let whole = c.in-Ok.ensures.1 in
    let s = c.opened.ensures ∙ ap opened_settings whole.same in
    let z = eq-eqb _ _ (sym (c.ilmd.ensures ∙ ap ilmd s) ∙ c.if-ilmd-eq0.true) in
    open_capacity c.args.bytes.now (eq-eqb _ _ whole.long) z

pub returns : goal.returns
returns c =
    let b = c.args.bytes.now in
    let whole = c.in-Ok.ensures.1 in
    let s = c.opened.ensures ∙ ap opened_settings whole.same in
    let z = ne_eqb (ilmd (opened_settings b)) 0 (λ e. c.if-ilmd-eq0.false (c.ilmd.ensures ∙ ap ilmd s ∙ e)) in
    (open_done b (eq-eqb _ _ whole.long) z, c.opened-2.ensures ∙ ap opened whole.same)
