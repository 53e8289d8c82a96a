-- What an estimate hands out from the bytes of an accepted gauge: a part of the history's L, and its distance from the history's charge. Assumes
-- nothing.
use mathlib.Core.Path.{◌≡◌, sym, ap, ◌∙◌}
use Prim.Native.Nat.{ℕ, ◌/◌}
use lib.IntN.{ℤ}
use Rattle.estimate.specs.Estimate.{distance_after, distance_from, estimate_after, estimate_of, estimate_refusal, estimated}
use Rattle.gauge.specs.Fits.{Taken}
use Rattle.gauge.specs.declared.state.Gauge.{Gauge}
use Rattle.grains.specs.Grains.{nac}
use Rattle.handset.specs.Calls.{estimate_counts, estimate_distance, estimate_number}
use Rattle.load.specs.Look.{look_leaves, look_number}
use Rattle.history.specs.Claim.{Agrees}
use Rattle.history.specs.Kept.{History}
use Rattle.history.specs.Sums.{grains_a_count}
use Rattle.numbers.specs.Signed.{at_least_zero}
use Rattle.permille.specs.Table.{permille}
use Rattle.refusals.specs.Refusal as Refusal
use Rattle.saved.specs.Save.{saved_bytes}
use Rattle.drive.specs.Claim.{counts_held, part_of_learned}
use Rattle.drive.proofs.DriveLaws.{loads}

module _ (g : Gauge) (x : History) (k : Taken g) (a : Agrees g x) (v : ℤ) (e : estimate_number (saved_bytes g) v ≡ Refusal.none) where
  accepts : estimate_refusal g v ≡ Refusal.none
  unfolding look_number
  accepts = sym (simp (loads g k)) ∙ e

  part_is : estimate_of g v ≡ part_of_learned v x
  part_is = ap (estimated (permille v)) a.lmd

  counts_are : nac g.charge.held ≡ counts_held x
  counts_are = ap (λ (h : ℤ). at_least_zero h / grains_a_count) a.held

  pub estimate_holds : (before : ℕ) → estimate_counts (saved_bytes g) v before ≡ part_of_learned v x
  unfolding look_leaves estimate_after
  estimate_holds before = simp (loads g k, accepts) part_is

  pub distance_holds : (before : ℤ) → estimate_distance (saved_bytes g) v before ≡ distance_from (counts_held x) (part_of_learned v x)
  unfolding look_leaves distance_after
  distance_holds before =
      simp (loads g k, accepts)
      (ap (λ (n : ℕ). distance_from n (estimate_of g v)) counts_are ∙ ap (distance_from (counts_held x)) part_is)
