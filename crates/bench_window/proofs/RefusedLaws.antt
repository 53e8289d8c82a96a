-- No number of a refusal is that of a window that ran, or of a read that is answered. Assumes nothing.
use mathlib.Core.Bool.{false}
use mathlib.Core.Path.{◌≡◌}
use lib.Dec.{eqb}
use borrow.Author.Tests.{ne_eqb}
use Rattle.refusals.proofs.OrElseLaws.{number_above}
use Rattle.refusals.specs.Refusal.{none, number}
use Rattle.refusals.specs.declared.Refusal.{Refusal}

pub number_is_none : (r : Refusal) → eqb (number r) none ≡ false
number_is_none r = ne_eqb _ _ (number_above r)
