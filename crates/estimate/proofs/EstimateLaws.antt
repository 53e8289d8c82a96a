-- Each way of an estimate answers what its tests pick, and what lent numbers hold afterwards. Assumes nothing.
use mathlib.Core.Bool.{Bool, true, false, cond}
use mathlib.Core.Path.{◌≡◌, refl, sym, ap, ◌∙◌}
use Prim.Native.Nat.{ℕ, ◌≤◌}
use lib.Dec.{leb}
use lib.IntN.{ℤ}
use borrow.Author.Tests.{ne_eqb}
use Rattle.gauge.specs.Accepted.{accepted}
use Rattle.gauge.specs.declared.state.Gauge.{Gauge}
use Rattle.gauge.proofs.AcceptedLaws.{nac_within}
use Rattle.grains.specs.Grains.{nac}
use Rattle.std.specs.Prelude.{None, Some}
use Rattle.permille.specs.Table.{in_table, permille, permille_in}
use Rattle.refusals.specs.Refusal as Refusal
use Rattle.refusals.specs.declared.Refusal as Refused
use Rattle.refusals.proofs.OrElseLaws.{not_rejected, number_above}
use Rattle.estimate.specs.Estimate.{distance_after, distance_from, estimate_after, estimate_of, estimate_refusal, least_rests}

module _ (g : Gauge) (v : ℤ) where
  -- ---- the numbers, in their order

  pub rejects : accepted g ≡ false → Refusal.rejected ≡ estimate_refusal g v
  unfolding estimate_refusal
  rejects a = simp a

  module _ (a : accepted g ≡ true) where
    pub rested_too_short : leb least_rests g.counters.rests ≡ false → Refusal.not_rested ≡ estimate_refusal g v
    unfolding estimate_refusal
    rested_too_short r = simp (a, r)

    module _ (r : leb least_rests g.counters.rests ≡ true) where
      pub outside : permille_in v ≡ None → estimate_refusal g v ≡ Refusal.outside_table
      unfolding estimate_refusal permille_in
      outside e = by (in_table v) refl e
        where
          by : (t : Bool) → in_table v ≡ t → cond t (Some (permille v)) None ≡ None → estimate_refusal g v ≡ Refusal.outside_table
          by true p q = let z : ⊥ = cc in absurd z
          by false p q = simp (a, r, p)

      pub within : (value : ℕ) → permille_in v ≡ Some value → (estimate_refusal g v ≡ Refusal.none) × (value ≡ permille v)
      unfolding estimate_refusal permille_in
      within value e = by (in_table v) refl e
        where
          by : (t : Bool) → in_table v ≡ t → cond t (Some (permille v)) None ≡ Some value → (estimate_refusal g v ≡ Refusal.none) × (value ≡ permille v)
          by true p q = (simp (a, r, p), cc)
          by false p q = let z : ⊥ = cc in absurd z

  -- ---- what is handed out

  module _ (refusal : Refused.Refusal) (e : Refusal.number refusal ≡ estimate_refusal g v) where
    above : estimate_refusal g v ≡ Refusal.none → ⊥
    above z = number_above refusal (e ∙ z)

    pub counts_stand : (before : ℕ) → before ≡ estimate_after g v before
    unfolding estimate_after
    counts_stand before = simp (ne_eqb (estimate_refusal g v) 0 above)

    pub distance_stands : (before : ℤ) → before ≡ distance_after g v before
    unfolding distance_after
    distance_stands before = simp (ne_eqb (estimate_refusal g v) 0 above)

  module _ (z : Refusal.none ≡ estimate_refusal g v) where
    pub counts_handed : {estimate : ℕ} (before : ℕ) → estimate ≡ estimate_of g v → estimate ≡ estimate_after g v before
    unfolding estimate_after
    counts_handed before p = simp (sym z) p

    pub distance_handed : {estimate : ℕ} {distance : ℤ} (before : ℤ) → estimate ≡ estimate_of g v
        → distance ≡ distance_from (nac g.charge.held) estimate → distance ≡ distance_after g v before
    unfolding distance_after
    distance_handed before p q = simp (sym z) (q ∙ ap (distance_from (nac g.charge.held)) p)

    -- the NAC of a gauge that is not refused
    pub nac_low : nac g.charge.held ≤ g.charge.lmd
    unfolding estimate_refusal
    nac_low = nac_within g (not_rejected (accepted g) _ (sym z)).0
