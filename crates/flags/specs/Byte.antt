-- The FLAGS byte of "Registers" in paper 01, put together and taken apart. Definitions only; assumes nothing.
use Rattle.std.specs.Prelude.{Bool, ◌&&◌, cond, ℕ, ◌+◌, ◌/◌, ◌%◌, eqb}
use Rattle.numbers.specs.Bits.{bit_set}
use Rattle.flags.specs.declared.flags.Flags.{Flags}

-- a flag at its bit
abbrev pub flag_at : ℕ → Bool → ℕ
flag_at weight flag = cond flag weight 0

-- "FLAGS: 7 CHGS, 4 CI, 2 VDQ, 1 EDV1, 0 EDVF."
unfoldable pub flags_byte : Bool → Bool → Flags → ℕ
flags_byte chgs vdq f = flag_at 128 chgs + flag_at 16 f.ci + flag_at 4 vdq + flag_at 2 f.edv1 + flag_at 1 f.edvf

unfoldable pub flags_of : ℕ → Flags
flags_of byte = record { ci = bit_set 4 byte; edv1 = bit_set 1 byte; edvf = bit_set 0 byte }

abbrev pub vdq_of : ℕ → Bool
vdq_of byte = bit_set 2 byte

-- "CHGS exactly if c > 0, other flag bits 0": bits 6, 5 and 3 are 0, and bit 7 is the direction of c
unfoldable pub flags_fit : ℕ → Bool → Bool
flags_fit byte charging = eqb (byte / 32 % 4) 0 && (eqb (byte / 8 % 2) 0 && eqb (byte / 128) (flag_at 1 charging))
