-- The ten bytes behind the form's number, over zeros. Assumes nothing.
use mathlib.Core.List.{List, ◌∷◌, ◌++◌}
use mathlib.Core.Path.{◌≡◌, sym, ap, ◌∙◌}
use borrow.Author.Rules.{rules}
use Prim.Native.Nat.{ℕ}
use lib.ListN.{length, replicate}
use Rattle.numbers.proofs.LittleLaws.{whole}
use Rattle.saved.specs.Put.{headed}
use Rattle.saved.proofs.save.headed.Goals as goal

pub returns : goal.returns
unfolding headed
returns c =
    let bytes = c.args.settings.bytes in
    let ten : length bytes ≡ 10 = search rules in
    ap (λ (l : List ℕ). 5 ∷ (l ++ replicate 44 0)) (c.copy_from_slice.ensures.after ∙ sym (whole 10 bytes ten))
