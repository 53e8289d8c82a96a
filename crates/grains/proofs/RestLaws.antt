-- The leak of windows one after the other: those that start with the same NAC lose the same. Assumes nothing.
use mathlib.Core.Path.{◌≡◌, sym, ap, ◌∙◌}
use Prim.Native.Nat.{ℕ, zero, suc, ◌+◌, ◌-◌, ◌*◌, ◌≤◌}
use native.Mathlib.Nat.{suc-mul}
use native.Mathlib.Omega.{arith}
use Rattle.grains.specs.Grains.{grains_per_count, nac}
use Rattle.grains.specs.Leak.{leak}
use Rattle.grains.specs.Rest.{grains_over, rest_leak}
use Rattle.grains.proofs.LeakLaws.{leak_within}

pub leak_none : (n rate held : ℕ) → n ≡ 0 → 0 ≡ rest_leak n rate held
unfolding rest_leak
leak_none n rate held e = ap (λ (k : ℕ). rest_leak k rate held) (sym e)

-- after the first window, the others end where all end
pub ends_after_first : {l : ℕ} (m n rate held : ℕ) → m + 1 ≡ n → l ≡ leak held rate → held - l - rest_leak m rate (held - l) ≡ held - rest_leak n rate held
unfolding rest_leak
ends_after_first m n rate held e el =
    let i : suc m ≡ n = omega arith in
    let r = leak held rate in
    let d : held - r - rest_leak m rate (held - r) ≡ held - (r + rest_leak m rate (held - r)) = omega arith in
    ap (λ (k : ℕ). held - k - rest_leak m rate (held - k)) el ∙ d ∙ ap (λ (k : ℕ). held - rest_leak k rate held) i

-- one window leaks what a window leaks
pub leak_one : (n rate held : ℕ) → n ≡ 1 → leak held rate ≡ rest_leak n rate held
unfolding rest_leak
leak_one n rate held e =
    let z : leak held rate ≡ leak held rate + 0 = omega arith in
    z ∙ ap (λ (k : ℕ). rest_leak k rate held) (sym e)

pub rest_leak_within : (n rate held : ℕ) → rate ≤ grains_per_count → rest_leak n rate held ≤ held
unfolding rest_leak
rest_leak_within zero rate held low = omega arith
rest_leak_within (suc n) rate held low =
    let l = leak_within held rate low in
    let h = rest_leak_within n rate (held - leak held rate) low in
    omega arith

-- where a window leaks nothing, none of those behind it does
pub leaks_none : (n rate held : ℕ) → leak held rate ≡ 0 → rest_leak n rate held ≡ 0
unfolding rest_leak
leaks_none zero rate held z = omega arith
leaks_none (suc n) rate held z =
    let e : held - leak held rate ≡ held = omega arith in
    let r = ap (rest_leak n rate) e ∙ leaks_none n rate held z in
    omega arith

-- while no count is lost, the leak stays
leak_same : (held rate : ℕ) → leak held rate ≤ grains_over held → leak (held - leak held rate) rate ≡ leak held rate
unfolding leak
leak_same held rate h =
    let l = nac held * rate in
    let e : nac (held - l) ≡ nac held = omega arith in
    ap (λ (n : ℕ). n * rate) e

-- so windows that start with the same NAC lose the same leak each
pub leaks_same : (k n rate held : ℕ) → k * leak held rate ≤ grains_over held
    → rest_leak (suc k + n) rate held ≡ suc k * leak held rate + rest_leak n rate (held - suc k * leak held rate)
unfolding rest_leak
leaks_same zero n rate held h =
    let l = leak held rate in
    let e : 1 + n ≡ suc n = omega arith in
    let i : l ≡ 1 * l = omega arith in
    rw e (ap (λ (m : ℕ). m + rest_leak n rate (held - m)) i)
leaks_same (suc k) n rate held h =
    let l = leak held rate in
    let m = suc-mul k l in
    let p = suc-mul (suc k) l in
    let s = leak_same held rate (omega arith) in
    let d : k * l ≤ grains_over (held - l) = omega arith in
    let e : suc (suc k) + n ≡ suc (suc k + n) = omega arith in
    let f : held - l - suc k * l ≡ held - suc (suc k) * l = omega arith in
    let r = leaks_same k n rate (held - l) (rw s d) ∙ ap (λ (x : ℕ). suc k * x + rest_leak n rate (held - l - suc k * x)) s in
    let t = ap (rest_leak n rate) f in
    rw e (omega arith)
