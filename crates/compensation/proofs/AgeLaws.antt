-- Without ageing the joined fraction is paper 01's, 32 times over; and the greatest rate's term. Assumes nothing.
use mathlib.Core.Bool.{Bool, true, false, cond}
use mathlib.Core.Path.{◌≡◌, refl, sym, ap, ◌∙◌}
use Prim.Native.Nat.{ℕ, ◌+◌, ◌-◌, ◌*◌, ◌/◌, ◌%◌, ◌≤◌, ◌<◌}
use native.Mathlib.Nat.{mul_assoc, mul_comm}
use native.Mathlib.Omega.{arith}
use lib.Dec.{eqb}
use lib.ListN.{get_or}
use borrow.Author.Tests.{eqb-false}
use Rattle.configuration.specs.Configuration.{cold_threshold, dcgn, dcoff, dcomp, dcomp_taken, gaf, ilmd, pkcfg, tcgn}
use Rattle.configuration.specs.declared.settings.Settings.{Settings}
use Rattle.numbers.proofs.ProductLaws.{product_within}
use Rattle.compensation.specs.Claim.{GreatestRateTerm, UnagedAsBefore}
use Rattle.compensation.specs.Compensation.{adcgn, ceiling_of, dcmp, dt, offset_term, rate_term}
use Rattle.compensation.specs.Unaged.{dcmp_unaged}

-- ---- without ageing

-- a fraction of which both parts are taken 32 times
joined : (a b : ℕ) → ceiling_of (32 * a - 32 * b) 1_048_576 ≡ ceiling_of (a - b) 32_768
joined a b = omega arith

unaged_gain : (s : Settings) (cyct : ℕ) → cyct / 16 * gaf s ≡ 0 → adcgn s cyct ≡ dcgn s * 32
unfolding adcgn
unaged_gain s cyct z =
    let e : tcgn s * (cyct / 16) * gaf s ≡ tcgn s * 0 = mul_assoc (tcgn s) (cyct / 16) (gaf s) ∙ ap (λ (n : ℕ). tcgn s * n) z in
    let unaged : 32 + tcgn s * (cyct / 16) * gaf s ≡ 32 = omega arith in
    ap (λ (n : ℕ). dcgn s * n) unaged

-- the factor 32 in front of the product
rate_in_front : (i g w : ℕ) → i * (g * 32) * w ≡ 32 * (i * g * w)
rate_in_front i g w =
    let e : i * (g * 32) ≡ 32 * (i * g) = ap (λ (n : ℕ). i * n) (mul_comm g 32) ∙ turned i 32 g in
    ap (λ (n : ℕ). n * w) e ∙ mul_assoc 32 (i * g) w
  where
    turned : (a b d : ℕ) → a * (b * d) ≡ b * (a * d)
    turned a b d = sym (mul_assoc a b d) ∙ ap (λ (n : ℕ). n * d) (mul_comm a b) ∙ mul_assoc b a d

offset_in_front : (g o m : ℕ) → 131_072 * g * o * m ≡ 32 * (4_096 * g * o * m)
offset_in_front g o m =
    let e : 131_072 * g ≡ 32 * (4_096 * g) = omega arith in
    ap (λ (n : ℕ). n * o * m) e ∙ ap (λ (n : ℕ). n * m) (mul_assoc 32 (4_096 * g) o) ∙ mul_assoc 32 (4_096 * g * o) m

pub unaged_as_before : UnagedAsBefore
unfolding dcmp dcmp_unaged rate_term offset_term
unaged_as_before s i temp cyct z =
    let w = 128 + tcgn s * dt s temp in
    let rate : i * adcgn s cyct * w ≡ 32 * (i * dcgn s * w) =
    ap (λ (n : ℕ). i * n * w) (unaged_gain s cyct z) ∙ rate_in_front i (dcgn s) w in
    ap (λ (n : ℕ). ceiling_of (n - 131_072 * dcgn s * dcoff s * ilmd s) 1_048_576) rate
    ∙ ap (λ (n : ℕ). ceiling_of (32 * (i * dcgn s * w) - n) 1_048_576) (offset_in_front (dcgn s) (dcoff s) (ilmd s))
    ∙ joined (i * dcgn s * w) (4_096 * dcgn s * dcoff s * ilmd s)

-- ---- the greatest term

-- the factors' bounds, multiplied; the greatest dt is given, since TEMP decides it
pub aged_within : {t q a : ℕ} → t ≤ 31 → q ≤ 4_095 → a ≤ 3 → 32 + t * q * a ≤ 380_867
aged_within h k l =
    let p = product_within 31 4_095 h k in
    let r = product_within (31 * 4_095) 3 p l in
    omega arith

module _ (s : Settings) (bytes : (k : ℕ) → get_or s.bytes k 0 < 256) where
  dcgn_within : dcgn s ≤ 31
  unfolding dcomp_taken
  dcgn_within = go (eqb (pkcfg s / 2 % 2) 1)
    where
      go : (t : Bool) → cond t 0x6C (dcomp s) / 8 ≤ 31
      go true = omega arith
      go false = let h = bytes 8 in omega arith

  dt_within : (temp : ℕ) → ((temp ≡ 0 → ⊥) → 1_012 ≤ temp) → dt s temp ≤ 108
  unfolding dt
  dt_within temp measured = go (eqb temp 0) refl
    where
      go : (t : Bool) → eqb temp 0 ≡ t → cond t 0 (cold_threshold s - temp) ≤ 108
      go true e = omega arith
      go false e = let h = measured (eqb-false temp 0 e) in let b = bytes 9 in omega arith

pub greatest_rate_term : GreatestRateTerm
unfolding rate_term adcgn
greatest_rate_term s bytes i temp cyct h measured k =
    let t = bytes 9 in
    let d : dcgn s ≤ 31 = dcgn_within s bytes in
    let age = aged_within {t = tcgn s} {q = cyct / 16} {a = gaf s} (omega arith) (omega arith) (omega arith) in
    let gain = product_within 31 380_867 d age in
    let rate = product_within 65_535 (31 * 380_867) h gain in
    let cold = product_within {x = tcgn s} 31 108 (omega arith) (dt_within s bytes temp measured) in
    product_within (65_535 * (31 * 380_867)) 3_476 rate (omega arith)
