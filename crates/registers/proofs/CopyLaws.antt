-- What a copy leaves in a part of the source's length. Assumes nothing.
use mathlib.Core.List.{List, ◌++◌, append-nil}
use mathlib.Core.Path.{◌≡◌, ap, ◌∙◌}
use Prim.Native.Nat.{ℕ}
use lib.ListN.{drop, length}
use lib.Seq.{drop-length}

pub copied_all : (source part after : List ℕ) → length source ≡ length part
    → after ≡ source ++ drop (length source) part → after ≡ source
copied_all source part after l e =
    e
    ∙ ap (λ (k : ℕ). source ++ drop k part) l
    ∙ ap (λ (s : List ℕ). source ++ s) (drop-length part)
    ∙ append-nil source
