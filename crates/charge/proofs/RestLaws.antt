-- A rest is the leaks of its windows at once: what is held loses their sum, and the run gains it. Assumes nothing.
use mathlib.Core.Bool.{Bool, true, false}
use mathlib.Core.Path.{◌≡◌, refl, sym, ap, ◌∙◌}
use Prim.Native.Nat.{ℕ, zero, suc, ◌+◌, ◌-◌, ◌*◌, ◌<◌}
use native.Mathlib.Omega.{arith}
use borrow.Author.Tests.{ltb-true, ltb-false, lt-ltb}
use Rattle.grains.specs.Grains.{most_drain, passes, saturating_sum}
use Rattle.grains.specs.Leak.{leak}
use Rattle.grains.specs.Rest.{rest_leak}
use Rattle.grains.specs.Run.{drained, no_run, unless_passed}
use Rattle.grains.specs.declared.run.Run.{Run}
use Rattle.grains.proofs.RestLaws.{leak_none, leaks_same}
use Rattle.charge.specs.Charge.{leaked}
use Rattle.charge.specs.Rest.{rested_once, rested}
use Rattle.charge.specs.Step.{SameNac, leaked_at_once}
use Rattle.charge.specs.declared.charge.Charge.{Charge}
use Rattle.charge.proofs.ChargeLaws.{charge_alike, charge_with}

-- ---- the run

abbrev drain_of : ℕ → Run
drain_of dcr = record { vdq = true; dcr = dcr }

ends : (run : Run) → passes run.dcr ≡ true → unless_passed run ≡ no_run
unfolding unless_passed
ends run e = simp e

goes_on : (run : Run) → passes run.dcr ≡ false → unless_passed run ≡ run
unfolding unless_passed
goes_on run e = simp e

none_stays : (n : ℕ) → unless_passed (drained no_run n) ≡ no_run
unfolding unless_passed drained
none_stays n = refl

without : (run : Run) (n : ℕ) → run.vdq ≡ false → drained run n ≡ run
unfolding drained
without run n e = simp e

gains : (run : Run) (n : ℕ) → run.vdq ≡ true → drained run n ≡ drain_of (saturating_sum run.dcr n)
unfolding drained
gains run n e = simp e

-- "DCR gains it if VDQ is set, and the passing rule of step 2 applies": in two windows as by their sum
pub drained_twice : (run : Run) (a b : ℕ) → unless_passed (drained (unless_passed (drained run a)) b) ≡ unless_passed (drained run (a + b))
drained_twice run a b = go run.vdq refl
  where
    idle : run.vdq ≡ false → (t : Bool) → passes run.dcr ≡ t → unless_passed (drained (unless_passed run) b) ≡ unless_passed run
    idle e true p = rw (ends run p) (none_stays b)
    idle e false p = ap (λ (r : Run). unless_passed (drained r b)) (goes_on run p) ∙ ap unless_passed (without run b e)

    first : Run
    first = drain_of (saturating_sum run.dcr a)

    both : Run
    both = drain_of (saturating_sum run.dcr (a + b))

    active : (t : Bool) → passes first.dcr ≡ t → unless_passed (drained (unless_passed first) b) ≡ unless_passed both
    active true p =
        let h = ltb-true most_drain first.dcr p in
        let q : most_drain < both.dcr = omega arith in
        rw (ends first p) (none_stays b) ∙ sym (ends both (lt-ltb most_drain both.dcr q))
    active false p =
        let h = ltb-false most_drain first.dcr p in
        let q : saturating_sum first.dcr b ≡ saturating_sum run.dcr (a + b) = omega arith in
        ap (λ (r : Run). unless_passed (drained r b)) (goes_on first p) ∙ ap unless_passed (gains first b refl) ∙ ap (λ (n : ℕ). unless_passed (drain_of n)) q

    go : (t : Bool) → run.vdq ≡ t → unless_passed (drained (unless_passed (drained run a)) b) ≡ unless_passed (drained run (a + b))
    go true e = rw (gains run a e, gains run (a + b) e) (active (passes first.dcr) refl)
    go false e = rw (without run a e, without run (a + b) e) (idle e (passes run.dcr) refl)

-- ---- the charge

pub rested_none : (n rate : ℕ) (x : Charge) → n ≡ 0 → x ≡ rested n rate x
unfolding rested
rested_none n rate x e = ap (λ (k : ℕ). rested k rate x) (sym e)

-- a rest is its leaks at once
rested_whole : (n rate : ℕ) (x : Charge) → rested (suc n) rate x ≡ leaked_at_once (rest_leak (suc n) rate x.held) x
unfolding rested rested_once leaked rest_leak leaked_at_once
rested_whole zero rate x =
    let e : leak x.held rate ≡ leak x.held rate + 0 = omega arith in
    ap (λ (n : ℕ). leaked_at_once n x) e
rested_whole (suc n) rate x =
    let l = leak x.held rate in
    let r = rest_leak (suc n) rate (x.held - l) in
    let e : x.held - l - r ≡ x.held - (l + r) = omega arith in
    rested_whole n rate (rested_once rate x) ∙ charge_alike e refl (drained_twice x.run l r)

-- what each callee gives, in their order
pub rested_is : {l : ℕ} {r s : Run} (n rate : ℕ) (x : Charge) → 0 < n → l ≡ rest_leak n rate x.held → r ≡ drained x.run l → s ≡ unless_passed r
    → charge_with (x.held - l) x.lmd s ≡ rested n rate x
unfolding leaked_at_once
rested_is {l = l} {r = r} {s = s} zero rate x some el er es = elim some [ ]
rested_is (suc n) rate x some el er es =
    charge_alike refl refl (es ∙ ap unless_passed er) ∙ ap (λ (l : ℕ). leaked_at_once l x) el ∙ sym (rested_whole n rate x)

pub same_nac : SameNac
same_nac n rate x h =
    let l = suc n * leak x.held rate in
    let i : suc n ≡ suc n + 0 = omega arith in
    let s = ap (λ (k : ℕ). rest_leak k rate x.held) i ∙ leaks_same n 0 rate x.held h in
    let o = leak_none 0 rate (x.held - l) refl in
    let e : rest_leak (suc n) rate x.held ≡ l = omega arith in
    rested_whole n rate x ∙ ap (λ (k : ℕ). leaked_at_once k x) e
