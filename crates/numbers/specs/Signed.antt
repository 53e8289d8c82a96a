-- A signed number by direction and magnitude. Definitions only; assumes nothing.
use Rattle.std.specs.Prelude.{Bool, true, false, cond, ℕ, suc, ℤ, pos, negsuc}
use Rattle.numbers.specs.declared.signed.Signed.{Signed}

-- below 0
abbrev pub negative : ℤ → Bool
negative (pos n) = false
negative (negsuc n) = true

-- the absolute value
abbrev pub magnitude : ℤ → ℕ
magnitude (pos n) = n
magnitude (negsuc n) = suc n

abbrev pub taken_apart : ℤ → Signed
taken_apart x = record { negative = negative x; magnitude = magnitude x }

-- the number, or 0 where it is below
abbrev pub at_least_zero : ℤ → ℕ
at_least_zero x = cond (negative x) 0 (magnitude x)
