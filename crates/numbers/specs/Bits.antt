-- A number by its bits. Definitions only; assumes nothing.
use Rattle.std.specs.Prelude.{Bool, cond, List, [], ◌∷◌, ℕ, ◌+◌, ◌/◌, ◌%◌, ◌^◌, eqb}

-- bit k of a number is set
abbrev pub bit_set : ℕ → ℕ → Bool
bit_set k n = eqb (n / 2 ^ k % 2) 1

-- a number with the bits of the list as they are and all others cleared
abbrev pub keeping_bits : List ℕ → ℕ → ℕ
keeping_bits [] n = 0
keeping_bits (k ∷ ks) n = cond (bit_set k n) (2 ^ k) 0 + keeping_bits ks n
