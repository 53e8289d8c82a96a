-- The mask and the leading-zero count find the bit that the bit-by-bit rule finds, for each of the 256 MODE bytes: one test
-- that is computed, and a law that turns it into the fact at each byte. Assumes nothing.
use mathlib.Core.Bool.{Bool, true, ◌&&◌, cond}
use mathlib.Core.Path.{◌≡◌}
use native.Mathlib.Omega.{arith}
use Prim.Native.Nat.{ℕ, ◌-◌, ◌≤◌, ◌<◌}
use lib.Bits.{bit_and}
use lib.Count.{count_leading_zeros}
use lib.Dec.{T, eqb, leb, ltb, eqb→eq, leb→le, ltb→lt}
use borrow.Author.Tests.{eq-eqb, ne_eqb}
use Rattle.numbers.proofs.EveryLaws.{at_each_below, first_passes, rest_passes}
use Rattle.std.specs.Prelude.{Some}
use Rattle.command.specs.Command.{command_bit, highest_command_bit, no_bit}

-- the command bits of MODE, masked
abbrev pub masked : ℕ → ℕ
masked mode = bit_and 0x3B mode

found : ℕ → Bool
found mode =
    cond (eqb (masked mode) 0)
    (eqb 8 (highest_command_bit mode))
    (eqb (31 - count_leading_zeros 32 (masked mode)) (highest_command_bit mode) && leb (count_leading_zeros 32 (masked mode)) 31)

found_below : (mode : ℕ) → mode < 256 → T (found mode)
unfolding found highest_command_bit count_leading_zeros
found_below mode h = at_each_below 256 found tt mode h

pub none_found : (mode : ℕ) → mode < 256 → masked mode ≡ 0 → 8 ≡ highest_command_bit mode
unfolding found
none_found mode h e = eqb→eq 8 (highest_command_bit mode) (rw (eq-eqb (masked mode) 0 e, cond) at (found_below mode h))

pub highest_found : (mode : ℕ) → mode < 256 → (masked mode ≡ 0 → ⊥)
    → (31 - count_leading_zeros 32 (masked mode) ≡ highest_command_bit mode) × (count_leading_zeros 32 (masked mode) ≤ 31)
unfolding found
highest_found mode h ne =
    let t : T (eqb (31 - count_leading_zeros 32 (masked mode)) (highest_command_bit mode) && leb (count_leading_zeros 32 (masked mode)) 31) =
    simp (ne_eqb (masked mode) 0 ne) at (found_below mode h) in (
      eqb→eq _ _ (first_passes (eqb (31 - count_leading_zeros 32 (masked mode)) (highest_command_bit mode)) _ t),
      leb→le _ _ (rest_passes (eqb (31 - count_leading_zeros 32 (masked mode)) (highest_command_bit mode)) (leb (count_leading_zeros 32 (masked mode)) 31) t),
    )

not_8 : ℕ → Bool
not_8 mode = cond (eqb (masked mode) 0) true (ltb (highest_command_bit mode) 8)

not_8_below : (mode : ℕ) → mode < 256 → T (not_8 mode)
unfolding not_8 highest_command_bit
not_8_below mode h = at_each_below 256 not_8 tt mode h

-- the count of leading zeros gives the bit, if one is set
pub bit_found : (mode : ℕ) → mode < 256 → (masked mode ≡ 0 → ⊥) → Some (31 - count_leading_zeros 32 (masked mode)) ≡ command_bit mode
unfolding not_8
bit_found mode h ne =
    let below : highest_command_bit mode < 8 = ltb→lt _ _ (simp (ne_eqb (masked mode) 0 ne) at (not_8_below mode h)) in
    let other : highest_command_bit mode ≡ no_bit → ⊥ = λ e. omega arith in
    simp ((highest_found mode h ne).0, ne_eqb (highest_command_bit mode) no_bit other)
