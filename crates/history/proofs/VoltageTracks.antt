-- The end-of-discharge voltages move the gauge's charge and the history alike where c is below 0: an EDVF window fixes both at 0, and at E1 a
-- run ends and teaches both the same, as its drain is the history's. Assumes nothing.
use mathlib.Core.Bool.{Bool, true, false, ◌&&◌, cond}
use mathlib.Core.Option.{Option, none, some}
use mathlib.Core.Path.{◌≡◌, refl, sym, ap, ◌∙◌}
use Prim.Native.Nat.{ℕ, suc, ◌*◌, ◌/◌}
use native.Mathlib.Omega.{arith}
use lib.Dec.{eqb-suc-zero, leb, ltb}
use lib.IntN.{pos, negsuc}
use Rattle.charge.specs.Charge.{emptied, taught, without_run}
use Rattle.charge.specs.declared.charge.Charge.{Charge}
use Rattle.configuration.specs.Terms.{Terms}
use Rattle.grains.specs.Grains.{grains_of_counts}
use Rattle.grains.specs.Learning.{learned}
use Rattle.grains.specs.declared.run.Run.{Run}
use Rattle.reached.specs.Ending.{ending_of, may_teach}
use Rattle.reached.specs.Reached.{charge_ended}
use Rattle.reached.specs.declared.ending.Ending.TheVariants.{Above, Edvf, Edv1, Qualified}
use Rattle.history.specs.Account.{Account, after_run, after_voltage, fixing}
use Rattle.history.specs.Claim.{run_of}
use Rattle.history.specs.Sums.{grains_a_count}
use Rattle.history.specs.Tests.{qualifies, reaches_e1, reaches_edvf}
use Rattle.history.proofs.Tracking.{Tracks, fixed_is}

-- ---- a run ends at E1, and what it teaches

taught_alike : (y : Charge) (x : Account) (r : ℕ) → Tracks y x → x.run ≡ some r → learned y.lmd y.run.dcr ≡ learned x.learned r
taught_alike y x r k e =
    ap (λ (n : ℕ). learned n y.run.dcr) k.lmd
    ∙ ap (λ (n : ℕ). learned x.learned n) (ap (λ (q : Run). q.dcr) (k.run ∙ ap run_of e))

apart : {A : Type 0} → true ≡ false → A
apart e = let n : ◌≡◌ {A = ℕ} 0 1 = cc in absurd (omega arith)

run_tracks : (m : Bool) (y : Charge) (x : Account) → Tracks y x
    → Tracks (charge_ended (cond (y.run.vdq && m) Qualified Edv1) y) (after_run m x.run x)
unfolding charge_ended without_run taught after_run
run_tracks m y x k = go m y.run.vdq x.run refl refl
  where
    flag : (r : Option ℕ) → x.run ≡ r → y.run.vdq ≡ (run_of r).vdq
    flag r e = ap (λ (q : Run). q.vdq) (k.run ∙ ap run_of e)

    go : (m vdq : Bool) (r : Option ℕ) → y.run.vdq ≡ vdq → x.run ≡ r
        → Tracks (charge_ended (cond (vdq && m) Qualified Edv1) y) (after_run m r x)
    go m true none p q = apart (sym p ∙ flag none q)
    go m false none p q = record { held = k.held; lmd = k.lmd; run = refl }
    go true true (some r) p q =
        record {
          held =
              fixed_is (learned x.learned r / 16 * grains_a_count)
              ∙ ap (λ (n : ℕ). pos (grains_of_counts (n / 16))) (sym (taught_alike y x r k q));
          lmd = taught_alike y x r k q;
          run = refl;
        }
    go false true (some r) p q = record { held = k.held; lmd = k.lmd; run = refl }
    go m false (some r) p q = apart (sym (flag (some r) q) ∙ p)

-- ---- the end-of-discharge voltages

reached_tracks : (p q m : Bool) (y : Charge) (x : Account) → Tracks y x
    → Tracks (charge_ended (cond p Edvf (cond q (cond (y.run.vdq && m) Qualified Edv1) Above)) y)
    (cond p (fixing 0 x.learned none) (cond q (after_run m x.run x) x))
unfolding charge_ended emptied
reached_tracks true q m y x k = record { held = fixed_is 0; lmd = k.lmd; run = refl }
reached_tracks false true m y x k = run_tracks m y x k
reached_tracks false false m y x k = k

pub voltage_tracks : (terms : Terms) (n v t : ℕ) (y : Charge) (x : Account) → Tracks y x
    → Tracks (charge_ended (ending_of terms y.run.vdq (suc n) v t) y) (after_voltage terms (negsuc n) (pos v) (pos t) x)
unfolding ending_of may_teach after_voltage reaches_edvf reaches_e1 qualifies
voltage_tracks terms n v t y x k =
    rw (eqb-suc-zero n)
    (reached_tracks (leb v terms.edvf) (leb v terms.e1) (leb terms.cold t && ltb (2 * terms.s0) (suc n)) y x k)
