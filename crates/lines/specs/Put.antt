-- A text put at a place of a lent buffer. Definitions only; assumes nothing.
use Rattle.std.specs.Prelude.{cond, List, ℕ, ◌+◌, leb, length}
use Rattle.std.proofs.lemmas.List.Edits.{sets}

-- every byte afterwards: the text from the place on, the other bytes as they were; with no room for so many bytes, all of them
unfoldable pub put_at : ℕ → List ℕ → List ℕ → ℕ → List ℕ
put_at room text out at = cond (leb (at + room) (length out)) (sets out at text) out

-- the place behind the text
unfoldable pub place_after : ℕ → List ℕ → List ℕ → ℕ → ℕ
place_after room text out at = cond (leb (at + room) (length out)) (at + length text) at
