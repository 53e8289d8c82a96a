-- A charge put together from its parts; the empty stop is where the difference stops at 0; what acceptance says of a charge. Assumes
-- nothing.
use mathlib.Core.Bool.{Bool, true, false, cond, not, ◌&&◌, ◌||◌}
use mathlib.Core.Path.{◌≡◌, refl}
use Prim.Native.Nat.{ℕ, ◌-◌, ◌≤◌, ◌<◌}
use native.Mathlib.Omega.{arith}
use lib.Dec.{eqb, leb}
use borrow.Author.Tests.{leb-true, ltb-false, eqb-true, eqb-false, le-leb, le-ltb, eq-eqb, ne_eqb, not-true}
use Rattle.grains.specs.Grains.{grains_of_counts, most_drain, passes}
use Rattle.grains.specs.Run.{run_accepted}
use Rattle.grains.specs.declared.run.Run.{Run}
use Rattle.numbers.proofs.BoolLaws.{and_left, and_right, and_both, not_is_true}
use Rattle.charge.specs.Charge.{charge_accepted}
use Rattle.charge.specs.declared.charge.Charge.{Charge}

abbrev pub charge_with : ℕ → ℕ → Run → Charge
charge_with held lmd run = record { held = held; lmd = lmd; run = run }

pub charge_alike : {h i l m : ℕ} {r s : Run} → h ≡ i → l ≡ m → r ≡ s → charge_with h l r ≡ charge_with i m s
charge_alike p q e = cc

-- where a sum is at or below what is drawn, the difference is 0
pub stop_is_difference : (p : Bool) (a b : ℕ) → a - b ≡ cond (p && leb a b) 0 (a - b)
stop_is_difference p a b = go p (leb a b) refl
  where
    go : (p t : Bool) → leb a b ≡ t → a - b ≡ cond (p && t) 0 (a - b)
    go true true e = let h = leb-true a b e in omega arith
    go true false e = refl
    go false t e = refl

-- ---- the run

pub record RunSound (run : Run) : Type 0 where
  pub within : run.dcr ≤ most_drain
  pub none : run.vdq ≡ false → run.dcr ≡ 0

drained_only : (vdq test : Bool) → (vdq || test) ≡ true → vdq ≡ false → test ≡ true
drained_only true test e p = cc
drained_only false test e p = e

set_or : (vdq test : Bool) → (vdq ≡ false → test ≡ true) → (vdq || test) ≡ true
set_or true test f = refl
set_or false test f = f refl

module _ (run : Run) where
  low : Bool
  low = not (passes run.dcr)

  kept : Bool
  kept = run.vdq || eqb run.dcr 0

  pub run_sound : run_accepted run ≡ true → RunSound run
  unfolding run_accepted low kept
  run_sound e =
      record {
        within = ltb-false most_drain run.dcr (not-true (passes run.dcr) (and_left low kept e));
        none = λ p. eqb-true run.dcr 0 (drained_only run.vdq (eqb run.dcr 0) (and_right low kept e) p);
      }

  pub run_accepted_lem : RunSound run → run_accepted run ≡ true
  unfolding run_accepted low kept
  run_accepted_lem s =
      and_both low kept (not_is_true (passes run.dcr) (le-ltb most_drain run.dcr s.within))
      (set_or run.vdq (eqb run.dcr 0) (λ p. eq-eqb run.dcr 0 (s.none p)))

-- ---- the charge

pub record ChargeSound (x : Charge) : Type 0 where
  pub learned : 0 < x.lmd
  pub within : x.held ≤ grains_of_counts x.lmd
  pub run : RunSound x.run

module _ (x : Charge) where
  some : Bool
  some = not (eqb x.lmd 0)

  most : Bool
  most = leb x.held (grains_of_counts x.lmd)

  runs : Bool
  runs = run_accepted x.run

  pub charge_sound : charge_accepted x ≡ true → ChargeSound x
  unfolding charge_accepted some most runs
  charge_sound e =
      let rest = and_right some (most && runs) e in
      let ne : x.lmd ≡ 0 → ⊥ = eqb-false x.lmd 0 (not-true (eqb x.lmd 0) (and_left some (most && runs) e)) in
      record {
        learned = omega arith;
        within = leb-true x.held (grains_of_counts x.lmd) (and_left most runs rest);
        run = run_sound x.run (and_right most runs rest);
      }

  pub charge_accepted_lem : ChargeSound x → charge_accepted x ≡ true
  unfolding charge_accepted some most runs
  charge_accepted_lem s =
      let l = s.learned in
      and_both some (most && runs) (not_is_true (eqb x.lmd 0) (ne_eqb x.lmd 0 (λ e. omega arith)))
      (and_both most runs (le-leb x.held (grains_of_counts x.lmd) s.within) (run_accepted_lem x.run s.run))
