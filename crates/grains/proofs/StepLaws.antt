-- A rest in whole counts and the part of a count. A step takes the windows that start with the same NAC; what it leaves to the others, and that it loses
-- a count unless it is the last. Assumes nothing.
use mathlib.Core.Path.{◌≡◌, sym, ap, subst, ◌∙◌}
use Prim.Native.Nat.{ℕ, zero, suc, ◌+◌, ◌-◌, ◌*◌, ◌/◌, ◌%◌, ◌≤◌, ◌<◌}
use native.Mathlib.Nat.{div-add-mod', div-mul-le_self, mod-lt, mul-le-mul_right, suc-mul}
use native.Mathlib.Omega.{arith}
use Rattle.numbers.proofs.ProductLaws.{product_within}
use Rattle.grains.specs.Grains.{grains_per_count, most_drain, nac}
use Rattle.grains.specs.Leak.{leak}
use Rattle.grains.specs.Rest.{grains_over, rest_leak}
use Rattle.grains.proofs.RestLaws.{leaks_none, leaks_same}

abbrev pub grains_of : ℕ → ℕ → ℕ
grains_of counts part = counts * grains_per_count + part

-- What is held, what a window leaks of it, and the windows left, which end at a number of grains
pub record Resting (end rate counts part grains left : ℕ) : Type 0 where
  pub low : rate ≤ 1_920
  pub most : counts ≤ 65_535
  pub within : part < grains_per_count
  pub leaks : grains ≡ counts * rate
  pub ends : grains_of counts part - rest_leak left rate (grains_of counts part) ≡ end

-- the counts still to be lost
abbrev pub to_lose : ℕ → ℕ → ℕ
to_lose end counts = counts - nac end

pub begins : {counts part grains : ℕ} (held rate left : ℕ) → held ≤ most_drain → rate ≤ 1_920 → counts ≡ nac held → part ≡ grains_over held
    → grains ≡ counts * rate → Resting (held - rest_leak left rate held) rate counts part grains left
begins held rate left fits low ec ep eg =
    let e : grains_of (nac held) (grains_over held) ≡ held = omega arith in
    record {
      low = low;
      most = omega arith;
      within = omega arith;
      leaks = eg;
      ends = rw (ec, ep, e);
    }

some_count : (counts rate : ℕ) → 0 < counts * rate → 0 < counts
some_count zero rate h = omega arith
some_count (suc n) rate h = omega arith

module _ {end rate counts part grains left : ℕ} (r : Resting end rate counts part grains left) where
  abbrev held : ℕ
  held = grains_of counts part

  -- 65,535 × 1,920
  pub leak_most : grains ≤ 125_829_120
  leak_most =
      let p = product_within 65_535 1_920 r.most r.low in
      let e = r.leaks in
      omega arith

  leak_is : leak held rate ≡ grains
  unfolding leak
  leak_is =
      let w = r.within in
      let e : nac held ≡ counts = omega arith in
      ap (λ (n : ℕ). n * rate) e ∙ sym r.leaks

  same : (k n : ℕ) → k * grains ≤ part → rest_leak (suc k + n) rate held ≡ suc k * grains + rest_leak n rate (held - suc k * grains)
  same k n h =
      let w = r.within in
      let o : k * grains ≤ grains_over held = omega arith in
      subst (λ (l : ℕ). k * l ≤ grains_over held → rest_leak (suc k + n) rate held ≡ suc k * l + rest_leak n rate (held - suc k * l)) leak_is
      (leaks_same k n rate held) o

  -- ---- no window leaks

  pub none_lost : grains ≡ 0 → grains_of counts part ≡ end
  none_lost z =
      let n = leaks_none left rate held (leak_is ∙ z) in
      let e = r.ends in
      omega arith

  -- ---- the last step

  alike : (n : ℕ) → n * grains ≤ part → rest_leak n rate held ≡ n * grains
  unfolding rest_leak
  alike zero h = omega arith
  alike (suc k) h =
      let m = suc-mul k grains in
      let e : suc k + 0 ≡ suc k = omega arith in
      let s = same k 0 (omega arith) in
      let t = ap (λ (n : ℕ). rest_leak n rate held) e in
      omega arith

  module _ (few : left ≤ part / grains) where
    pub last_within : left * grains ≤ part
    last_within =
        let a = mul-le-mul_right grains few in
        let b = div-mul-le_self part grains in
        omega arith

    pub last_ends : grains_of counts (part - left * grains) ≡ end
    last_ends =
        let w = last_within in
        let a = alike left w in
        let e = r.ends in
        omega arith

  -- ---- a step that loses a count

  module _ (some : 0 < grains) where
    pub counted : 0 < counts
    counted =
        let e = r.leaks in
        some_count counts rate (omega arith)

    less_a_count : counts * rate ≡ (counts - 1) * rate + rate
    less_a_count =
        let p = counted in
        let e : counts ≡ suc (counts - 1) = omega arith in
        ap (λ (n : ℕ). n * rate) e ∙ suc-mul (counts - 1) rate

    pub rate_within : rate ≤ grains
    rate_within =
        let e = r.leaks in
        let l = less_a_count in
        omega arith

    pub over_below : part % grains < grains
    over_below = mod-lt part some

    module _ (more : part / grains < left) where
      abbrev next : ℕ
      next = grains_of (counts - 1) (part % grains + (grains_per_count - grains))

      next_is : next ≡ held - suc (part / grains) * grains
      next_is =
          let a = div-add-mod' part grains in
          let m = suc-mul (part / grains) grains in
          let b = over_below in
          let l = leak_most in
          let p = counted in
          omega arith

      next_ends : next - rest_leak (left - (part / grains + 1)) rate next ≡ end
      next_ends =
          let q = part / grains in
          let i : left ≡ suc q + (left - (q + 1)) = omega arith in
          let s = ap (λ (n : ℕ). rest_leak n rate held) i ∙ same q (left - (q + 1)) (div-mul-le_self part grains) in
          let e = r.ends in
          rw next_is (omega arith)

      pub steps : Resting end rate (counts - 1) (part % grains + (grains_per_count - grains)) (grains - rate) (left - (part / grains + 1))
      steps =
          let m = r.most in
          let b = over_below in
          let l = leak_most in
          let e = r.leaks in
          let f = less_a_count in
          record {
            low = r.low;
            most = omega arith;
            within = omega arith;
            leaks = omega arith;
            ends = next_ends;
          }

      -- so a rest makes at most one step more than it loses counts
      pub loses : to_lose end (counts - 1) < to_lose end counts
      loses =
          let n = next_ends in
          let b = over_below in
          let l = leak_most in
          let p = counted in
          omega arith
