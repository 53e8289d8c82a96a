-- A3 of paper 02: "An accepted rest of n windows ends as n rests of one at the same t". Definitions only; assumes nothing.
use Rattle.std.specs.Prelude.{true, List, ◌≡◌, ℕ, ◌<◌, ℤ, replicate}
use Rattle.sample.specs.Limits.{rest_in_range}
use Rattle.gauge.specs.Fits.{Fits}
use Rattle.gauge.specs.declared.state.Gauge.{Gauge}
use Rattle.history.specs.After.{after, gauge_after, number_of}
use Rattle.history.specs.Call.{Call, rest}

-- n calls with one window beside one call with n, for whatever calls move: a gauge, or from C the saved bytes
pub record OneByOne {S : Type 0} (all : List Call → S → S) (one : Call → S → S) (number : Call → S → ℕ) (n : ℕ) (t : ℤ) (s : S) : Type 0 where
  pub whole : all (replicate n (rest 1 t)) s ≡ one (rest n t) s
  -- each of them is accepted where the one call is, and else refused with its number
  pub numbers : (k : ℕ) → k < n → number (rest 1 t) (all (replicate k (rest 1 t)) s) ≡ number (rest n t) s

-- for every gauge value, every number of windows from 1 to the limit and every temperature
abbrev pub RestsOfOne : Type 0
RestsOfOne = (g : Gauge) → Fits g → (n : ℕ) → rest_in_range n ≡ true → (t : ℤ) → OneByOne after gauge_after number_of n t g
