-- The numbers of a window as handed in: those that are equal are read alike. Assumes nothing.
use mathlib.Core.Path.{◌≡◌}
use Prim.Native.Nat.{ℕ}
use lib.IntN.{ℤ}
use Rattle.sample.specs.Current.{counted}
use Rattle.sample.specs.declared.current.Current.{Current}
use Rattle.sample.specs.declared.sample.Sample.{Sample}
use Rattle.gauge.specs.Calls.{sample_refusal}
use Rattle.gauge.specs.Window.{measured, window}
use Rattle.gauge.specs.declared.state.Gauge.{Gauge}

module _ {a b v w t u : ℤ} (p : a ≡ b) (q : v ≡ w) (r : t ≡ u) where
  pub refused_alike : sample_refusal a v t ≡ sample_refusal b w u
  refused_alike = rw (p, q, r)

  pub measured_alike : measured a v t ≡ measured b w u
  measured_alike = rw (p, q, r)

-- what is counted of a sample, and the window of that
pub stepped_alike : (dmf : ℕ) (g : Gauge) {s u : Sample} {c : Current} → s ≡ u → c ≡ counted dmf s.current
    → window c s.voltage s.temperature g ≡ window (counted dmf u.current) u.voltage u.temperature g
stepped_alike dmf g p q = rw (q, p)
