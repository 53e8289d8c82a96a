-- The FLAGS byte of a gauge is taken apart into its flags, and a byte whose other bits are 0 is put together again. Assumes nothing.
use mathlib.Core.Bool.{Bool, true, false, ◌&&◌, cond}
use mathlib.Core.Path.{◌≡◌, refl}
use Prim.Native.Nat.{ℕ, ◌+◌, ◌*◌, ◌/◌, ◌%◌, ◌≤◌, ◌<◌}
use native.Mathlib.Omega.{arith}
use lib.Dec.{T, eqb, eqb→eq}
use borrow.Author.Tests.{eqb-true, eq-eqb}
use Rattle.flags.specs.Byte.{flag_at, flags_byte, flags_fit, flags_of, vdq_of}
use Rattle.flags.specs.declared.flags.Flags.{Flags}
use Rattle.numbers.proofs.BoolLaws.{and_left, and_right}
use Rattle.numbers.proofs.EveryLaws.{at_each_below}
use Rattle.numbers.specs.Bits.{bit_set}

digit_set : (t : Bool) → eqb (flag_at 1 t) 1 ≡ t
digit_set true = refl
digit_set false = refl

digit_low : (t : Bool) → flag_at 1 t ≤ 1
digit_low true = omega arith
digit_low false = omega arith

weighed : (w : ℕ) (t : Bool) → flag_at w t ≡ w * flag_at 1 t
weighed w true = omega arith
weighed w false = omega arith

digits : (a b c d e : ℕ) → a ≤ 1 → b ≤ 1 → c ≤ 1 → d ≤ 1 → e ≤ 1
    → ((128 * a + 16 * b + 4 * c + 2 * d + e) / 16 % 2 ≡ b) × ((128 * a + 16 * b + 4 * c + 2 * d + e) / 4 % 2 ≡ c)
    × ((128 * a + 16 * b + 4 * c + 2 * d + e) / 2 % 2 ≡ d) × ((128 * a + 16 * b + 4 * c + 2 * d + e) / 1 % 2 ≡ e)
    × ((128 * a + 16 * b + 4 * c + 2 * d + e) / 128 ≡ a) × ((128 * a + 16 * b + 4 * c + 2 * d + e) / 32 % 4 ≡ 0)
    × ((128 * a + 16 * b + 4 * c + 2 * d + e) / 8 % 2 ≡ 0)
digits a b c d e p q r s t = (omega arith, omega arith, omega arith, omega arith, omega arith, omega arith, omega arith)

abbrev flags_with : Bool → Bool → Bool → Flags
flags_with ci edv1 edvf = record { ci = ci; edv1 = edv1; edvf = edvf }

alike : {a b c x y z : Bool} → a ≡ x → b ≡ y → c ≡ z → flags_with a b c ≡ flags_with x y z
alike p q r = cc

module _ (chgs vdq : Bool) (f : Flags) where
  -- the byte as a sum of digits
  sum_is : flags_byte chgs vdq f ≡ 128 * flag_at 1 chgs + 16 * flag_at 1 f.ci + 4 * flag_at 1 vdq + 2 * flag_at 1 f.edv1 + flag_at 1 f.edvf
  unfolding flags_byte
  sum_is =
      let a = weighed 128 chgs in
      let b = weighed 16 f.ci in
      let c = weighed 4 vdq in
      let d = weighed 2 f.edv1 in
      omega arith

  pub byte_fits : flags_byte chgs vdq f < 256
  byte_fits =
      let e = sum_is in
      let a = digit_low chgs in
      let b = digit_low f.ci in
      let c = digit_low vdq in
      let d = digit_low f.edv1 in
      let z = digit_low f.edvf in
      omega arith

  each : ((flags_byte chgs vdq f / 16 % 2 ≡ flag_at 1 f.ci) × (flags_byte chgs vdq f / 4 % 2 ≡ flag_at 1 vdq)
      × (flags_byte chgs vdq f / 2 % 2 ≡ flag_at 1 f.edv1) × (flags_byte chgs vdq f / 1 % 2 ≡ flag_at 1 f.edvf)
      × (flags_byte chgs vdq f / 128 ≡ flag_at 1 chgs) × (flags_byte chgs vdq f / 32 % 4 ≡ 0) × (flags_byte chgs vdq f / 8 % 2 ≡ 0))
  each =
      rw sum_is
      (digits (flag_at 1 chgs) (flag_at 1 f.ci) (flag_at 1 vdq) (flag_at 1 f.edv1) (flag_at 1 f.edvf)
      (digit_low chgs) (digit_low f.ci) (digit_low vdq) (digit_low f.edv1) (digit_low f.edvf))

  pub vdq_back : vdq_of (flags_byte chgs vdq f) ≡ vdq
  vdq_back = rw each.1 (digit_set vdq)

  pub flags_back : flags_of (flags_byte chgs vdq f) ≡ f
  unfolding flags_of
  flags_back = alike (rw each.0 (digit_set f.ci)) (rw each.2 (digit_set f.edv1)) (rw each.3 (digit_set f.edvf))

  pub byte_accepted : flags_fit (flags_byte chgs vdq f) chgs ≡ true
  unfolding flags_fit
  byte_accepted = rw (each.5, each.6, each.4) (eq-eqb (flag_at 1 chgs) (flag_at 1 chgs) refl)

-- ---- a byte whose other bits are 0 is that of its flags, by one computed test of the 256 bytes

digits_of : ℕ → ℕ
digits_of byte = 128 * (byte / 128) + flag_at 16 (bit_set 4 byte) + flag_at 4 (bit_set 2 byte) + flag_at 2 (bit_set 1 byte) + flag_at 1 (bit_set 0 byte)

whole_byte : ℕ → Bool
whole_byte byte = cond (eqb (byte / 32 % 4) 0 && eqb (byte / 8 % 2) 0) (eqb (digits_of byte) byte) true

whole_byte_lem : (byte : ℕ) → byte < 256 → T (whole_byte byte)
unfolding whole_byte digits_of
whole_byte_lem byte h = at_each_below 256 whole_byte tt byte h

pub byte_back : (byte : ℕ) (charging : Bool) → byte < 256 → flags_fit byte charging ≡ true → flags_byte charging (vdq_of byte) (flags_of byte) ≡ byte
unfolding flags_fit flags_byte flags_of whole_byte digits_of
byte_back byte charging h e =
    let p = and_left (eqb (byte / 32 % 4) 0) (eqb (byte / 8 % 2) 0 && eqb (byte / 128) (flag_at 1 charging)) e in
    let q = and_right (eqb (byte / 32 % 4) 0) (eqb (byte / 8 % 2) 0 && eqb (byte / 128) (flag_at 1 charging)) e in
    let r = and_left (eqb (byte / 8 % 2) 0) (eqb (byte / 128) (flag_at 1 charging)) q in
    let d = eqb-true (byte / 128) (flag_at 1 charging) (and_right (eqb (byte / 8 % 2) 0) (eqb (byte / 128) (flag_at 1 charging)) q) in
    let w = weighed 128 charging in
    let t : T (eqb (digits_of byte) byte) = simp (p, r) at (whole_byte_lem byte h) in
    let f : digits_of byte ≡ byte = eqb→eq _ _ t in
    omega arith
