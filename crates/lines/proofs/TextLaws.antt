-- The lines of a text of which some bytes, none of them a newline, have gone before. Assumes nothing.
use mathlib.Core.List.{List, [], ◌∷◌, ◌++◌, append_assoc, append-nil}
use mathlib.Core.Path.{◌≡◌, refl, ap}
use Prim.Native.Nat.{ℕ}
use Rattle.lines.specs.Line.{before}

-- bytes before the first of some lines; where there is none they are the first
abbrev pub attached : List ℕ → List (List ℕ) → List (List ℕ)
attached [] ls = ls
attached (x ∷ p) [] = (x ∷ p) ∷ []
attached (x ∷ p) (l ∷ ls) = ((x ∷ p) ++ l) ∷ ls

-- a newline ends them
pub attached_newline : (p : List ℕ) (ls : List (List ℕ)) → attached p ([] ∷ ls) ≡ p ∷ ls
attached_newline [] ls = refl
attached_newline (x ∷ p) ls = ap (λ (l : List ℕ). l ∷ ls) (append-nil (x ∷ p))

-- any other byte is one more of them
pub attached_byte : (p : List ℕ) (b : ℕ) (ls : List (List ℕ)) → attached (p ++ (b ∷ [])) ls ≡ attached p (before b ls)
attached_byte [] b [] = refl
attached_byte [] b (l ∷ ls) = refl
attached_byte (x ∷ p) b [] = refl
attached_byte (x ∷ p) b (l ∷ ls) = ap (λ (m : List ℕ). m ∷ ls) (append_assoc (x ∷ p) (b ∷ []) l)
