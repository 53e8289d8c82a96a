-- MODE's bits kept one by one are what the arithmetic on the byte gives, for each of the 256 bytes: one computed test, and the law that gives
-- it at each. A cleared INIT leaves the highest command bit, and cleared command bits leave none. Assumes nothing.
use mathlib.Core.Bool.{Bool, true, false, cond}
use mathlib.Core.Path.{◌≡◌, refl}
use Prim.Native.Nat.{ℕ, ◌+◌, ◌<◌}
use lib.Dec.{T, eqb, eqb→eq}
use Rattle.std.proofs.Common.{bit_and}
use Rattle.command.specs.Command.{highest_command_bit, no_bit}
use Rattle.numbers.specs.Bits.{bit_set}
use Rattle.numbers.proofs.BitLaws.{at_each_bool, every_bool}
use Rattle.numbers.proofs.EveryLaws.{at_each_below}
use Rattle.host.specs.Host.{commands_cleared, init_cleared}
use Rattle.host.specs.declared.host.Host.{Host}

abbrev pub host_with : ℕ → ℕ → Host
host_with mode ar = record { mode = mode; ar = ar }

pub host_alike : {m n a b : ℕ} → m ≡ n → a ≡ b → host_with m a ≡ host_with n b
host_alike p q = cc

-- ---- the code's arithmetic

commands_alike : ℕ → Bool
commands_alike m = eqb (bit_and m 0b1100_0100) (commands_cleared m)

pub commands_cleared_is : (m : ℕ) → m < 256 → bit_and m 0b1100_0100 ≡ commands_cleared m
unfolding commands_alike commands_cleared
commands_cleared_is m h = eqb→eq (bit_and m 0b1100_0100) (commands_cleared m) (at_each_below 256 commands_alike tt m h)

init_alike : ℕ → Bool
init_alike m = eqb (bit_and m 0b1111_1011) (init_cleared m)

pub init_cleared_is : (m : ℕ) → m < 256 → bit_and m 0b1111_1011 ≡ init_cleared m
unfolding init_alike init_cleared
init_cleared_is m h = eqb→eq (bit_and m 0b1111_1011) (init_cleared m) (at_each_below 256 init_alike tt m h)

-- ---- the highest command bit

pub commands_cleared_bit : (m : ℕ) → highest_command_bit (commands_cleared m) ≡ no_bit
unfolding commands_cleared highest_command_bit
commands_cleared_bit m = go (bit_set 7 m) (bit_set 6 m) (bit_set 2 m)
  where
    go : (b7 b6 b2 : Bool) → highest_command_bit (cond b7 128 0 + (cond b6 64 0 + (cond b2 4 0 + 0))) ≡ no_bit
    go true true true = refl
    go true true false = refl
    go true false true = refl
    go true false false = refl
    go false true true = refl
    go false true false = refl
    go false false true = refl
    go false false false = refl

-- MODE with these seven bits, INIT clear
abbrev seven : Bool → Bool → Bool → Bool → Bool → Bool → Bool → ℕ
seven b7 b6 b5 b4 b3 b1 b0 =
    cond b7 128 0 + (cond b6 64 0 + (cond b5 32 0 + (cond b4 16 0 + (cond b3 8 0 + (cond b1 2 0 + (cond b0 1 0 + 0))))))

abbrev highest_of : Bool → Bool → Bool → Bool → Bool → ℕ
highest_of b5 b4 b3 b1 b0 = cond b5 5 (cond b4 4 (cond b3 3 (cond b1 1 (cond b0 0 no_bit))))

alike : Bool → Bool → Bool → Bool → Bool → Bool → Bool → Bool
alike b7 b6 b5 b4 b3 b1 b0 = eqb (highest_command_bit (seven b7 b6 b5 b4 b3 b1 b0)) (highest_of b5 b4 b3 b1 b0)

with6 : Bool → Bool → Bool → Bool → Bool → Bool → Bool
with6 b7 b6 b5 b4 b3 b1 = every_bool (λ b0. alike b7 b6 b5 b4 b3 b1 b0)

with5 : Bool → Bool → Bool → Bool → Bool → Bool
with5 b7 b6 b5 b4 b3 = every_bool (λ b1. with6 b7 b6 b5 b4 b3 b1)

with4 : Bool → Bool → Bool → Bool → Bool
with4 b7 b6 b5 b4 = every_bool (λ b3. with5 b7 b6 b5 b4 b3)

with3 : Bool → Bool → Bool → Bool
with3 b7 b6 b5 = every_bool (λ b4. with4 b7 b6 b5 b4)

with2 : Bool → Bool → Bool
with2 b7 b6 = every_bool (λ b5. with3 b7 b6 b5)

with1 : Bool → Bool
with1 b7 = every_bool (λ b6. with2 b7 b6)

all_alike : (b7 b6 b5 b4 b3 b1 b0 : Bool) → T (alike b7 b6 b5 b4 b3 b1 b0)
unfolding with1 with2 with3 with4 with5 with6 alike highest_command_bit
all_alike b7 b6 b5 b4 b3 b1 b0 =
    at_each_bool (alike b7 b6 b5 b4 b3 b1)
    (at_each_bool (with6 b7 b6 b5 b4 b3)
    (at_each_bool (with5 b7 b6 b5 b4)
    (at_each_bool (with4 b7 b6 b5)
    (at_each_bool (with3 b7 b6) (at_each_bool (with2 b7) (at_each_bool with1 tt b7) b6) b5)
    b4)
    b3)
    b1)
    b0

pub init_cleared_bit : (m : ℕ) → highest_command_bit (init_cleared m) ≡ highest_command_bit m
unfolding init_cleared highest_command_bit alike
init_cleared_bit m =
    eqb→eq _ _ (all_alike (bit_set 7 m) (bit_set 6 m) (bit_set 5 m) (bit_set 4 m) (bit_set 3 m) (bit_set 1 m) (bit_set 0 m))
