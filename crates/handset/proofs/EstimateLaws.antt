-- An estimate on a gauge value that is rejected: 14, and both numbers keep. Assumes nothing.
use Prim.Native.Nat.{ℕ}
use lib.IntN.{ℤ}
use Rattle.estimate.specs.Estimate.{distance_after, estimate_after, estimate_refusal}
use Rattle.load.proofs.LookLaws.{ForRejected}
use Rattle.refusals.specs.Refusal as Refusal

module _ (v : ℤ) where
  pub estimate_rejects : ForRejected (λ g. estimate_refusal g v) Refusal.rejected
  unfolding estimate_refusal
  estimate_rejects = record { is = λ g e. simp e }

  pub estimate_keeps : (before : ℕ) → ForRejected (λ g. estimate_after g v before) before
  unfolding estimate_refusal estimate_after
  estimate_keeps before = record { is = λ g e. simp e }

  pub distance_keeps : (before : ℤ) → ForRejected (λ g. distance_after g v before) before
  unfolding estimate_refusal distance_after
  distance_keeps before = record { is = λ g e. simp e }
