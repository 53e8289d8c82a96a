-- Each copy fills the front of the zeros. Assumes nothing.
use mathlib.Core.Path.{◌∙◌}
use Rattle.every_form.proofs.CopiedLaws.{fourth_copied, newest_copied, shortest_copied, third_copied}
use Rattle.every_form.proofs.every_form.in_newest.Goals as goal

pub returns-in-One : goal.returns-in-One
returns-in-One c = let a = c.args in shortest_copied a.form a.bytes.now c.requires c.in-One.is (c.copy_from_slice.ensures.after ∙ c.split_at.ensures.front)

pub returns-in-Three : goal.returns-in-Three
returns-in-Three c = let a = c.args in third_copied a.form a.bytes.now c.requires c.in-Three.is (c.copy_from_slice-in-Three.ensures.after ∙ c.split_at-in-Three.ensures.front)

pub returns-in-Four : goal.returns-in-Four
returns-in-Four c =
    let a = c.args in
    fourth_copied a.form a.bytes.now c.requires c.in-Four.is (c.copy_from_slice-in-Four.ensures.after ∙ c.split_at-in-Four.ensures.front)
    c.copy_from_slice-in-Four-2.ensures.after

pub returns-in-Newest : goal.returns-in-Newest
returns-in-Newest c = let a = c.args in newest_copied a.form a.bytes.now c.requires c.in-Newest.is (c.copy_from_slice-in-Newest.ensures.after ∙ c.split_at-in-Newest.ensures.front)
