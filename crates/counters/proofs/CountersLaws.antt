-- The count of rest windows: where it stops, and that n windows and then more are counted as all of them at once. Assumes nothing.
use mathlib.Core.Path.{◌≡◌, ap}
use Prim.Native.Nat.{ℕ, ◌+◌, min}
use native.Mathlib.Omega.{arith}
use Rattle.counters.specs.Counters.{counters_rested, most_rests}
use Rattle.counters.specs.declared.counters.Counters.{Counters}
use Rattle.counters.specs.declared.cycles.Cycles.{Cycles}

abbrev pub counters_of : ℕ → Cycles → Counters
counters_of rests cycles = record { rests = rests; cycles = cycles }

pub counters_alike : {m n : ℕ} {x y : Cycles} → m ≡ n → x ≡ y → counters_of m x ≡ counters_of n y
counters_alike p q = cc

-- ---- what callers use

-- counting n windows and then m stops where counting all of them does
pub rested_twice : (n m : ℕ) (x : Counters) → counters_rested m (counters_rested n x) ≡ counters_rested (n + m) x
unfolding counters_rested
rested_twice n m x =
    ap (λ (k : ℕ). counters_of k x.cycles)
    (let e : min (min (x.rests + n) most_rests + m) most_rests ≡ min (x.rests + (n + m)) most_rests = omega arith in e)
