-- The sample that a window, a rest or a command leaves is one that 14 does not refuse: its values are in range, and the counted current is 0 or beyond
-- DMF. Assumes nothing.
use mathlib.Core.Bool.{Bool, true, false, not, ◌&&◌, ◌||◌, cond}
use mathlib.Core.Path.{◌≡◌, refl}
use Prim.Native.Nat.{ℕ, ◌≤◌, ◌<◌}
use native.Mathlib.Omega.{arith}
use lib.Dec.{leb, ltb, eqb}
use lib.IntN.{ℤ}
use borrow.Author.Tests.{leb-true, leb-false, lt-ltb, ne_eqb, eqb-true}
use Rattle.numbers.specs.Signed.{magnitude, negative}
use Rattle.numbers.proofs.BoolLaws.{and_right}
use Rattle.command.specs.declared.command.Command.{Command}
use Rattle.command.specs.declared.command.Command.TheVariants.{Setting, Reset}
use Rattle.sample.specs.Current.{counted, no_current}
use Rattle.sample.specs.Limits.{least_temperature, least_voltage, most_current, most_temperature, most_voltage, within, zero_or_within}
use Rattle.sample.specs.Range.{between, current, current_in_range, current_of, temperature, temperature_in_range, value_between, voltage, voltage_in_range}
use Rattle.sample.specs.Sample.{current_accepted, no_sample, sample_obeyed, sample_rested}
use Rattle.sample.specs.declared.current.Current.{Current}
use Rattle.sample.specs.declared.sample.Sample.{Sample}
use Rattle.sample.proofs.SampleLaws.{SampleSound}

-- ---- what is handed in

or_right : (a b : Bool) → b ≡ true → (a || b) ≡ true
or_right true b e = refl
or_right false b e = e

value_kept : (least most : ℕ) (z : ℤ) → between least most z ≡ true → zero_or_within least most (value_between least most z) ≡ true
unfolding zero_or_within value_between between
value_kept least most z e =
    rw e (or_right (eqb (magnitude z) 0) (within least most (magnitude z)) (and_right (not (negative z)) (within least most (magnitude z)) e))

counted_kept : (limit : ℕ) (a : ℤ) → current_in_range a ≡ true → current_accepted limit (counted limit (current a)) ≡ true
unfolding current_in_range counted current_accepted
counted_kept limit a e = rw e (go (leb (magnitude a) limit) refl)
  where
    go : (t : Bool) → leb (magnitude a) limit ≡ t → current_accepted limit (cond t no_current (current_of a)) ≡ true
    go true p = refl
    go false p =
        let h = leb-false (magnitude a) limit p in
        let ne : magnitude a ≡ 0 → ⊥ = λ q. omega arith in
        simp (ne_eqb (magnitude a) 0 ne, lt-ltb limit (magnitude a) h) e

pub counted_within : (limit : ℕ) (a : ℤ) → current_in_range a ≡ true → (counted limit (current a)).magnitude ≤ 65_535
unfolding current_in_range counted
counted_within limit a e = rw e (go (leb (magnitude a) limit))
  where
    h : magnitude a ≤ most_current
    h = leb-true (magnitude a) most_current e

    go : (t : Bool) → (cond t no_current (current_of a)).magnitude ≤ 65_535
    go true = omega arith
    go false = let l = h in omega arith

-- ---- the sample

pub window_sample : (limit : ℕ) (a v t : ℤ) → current_in_range a ≡ true → voltage_in_range v ≡ true → temperature_in_range t ≡ true
    → SampleSound limit (record { current = counted limit (current a); voltage = voltage v; temperature = temperature t })
window_sample limit a v t p q r =
    record {
      current = counted_kept limit a p;
      voltage = value_kept least_voltage most_voltage v q;
      temperature = value_kept least_temperature most_temperature t r;
    }

pub rest_sample : (limit : ℕ) (s : Sample) (t : ℤ) → SampleSound limit s → temperature_in_range t ≡ true
    → SampleSound limit (sample_rested (temperature t) s)
unfolding sample_rested current_accepted
rest_sample limit s t k r =
    record { current = refl; voltage = k.voltage; temperature = value_kept least_temperature most_temperature t r }

pub no_sample_lem : (limit : ℕ) → SampleSound limit no_sample
unfolding no_sample current_accepted zero_or_within
no_sample_lem limit = record { current = refl; voltage = refl; temperature = refl }

pub command_sample : (command : Command) (limit : ℕ) (s : Sample) → SampleSound limit s → SampleSound limit (sample_obeyed command s)
unfolding sample_obeyed
command_sample (Setting setting) limit s k = k
command_sample (Reset reset) limit s k = no_sample_lem limit

-- ---- its widths

pub current_fits : (limit : ℕ) (c : Current) → current_accepted limit c ≡ true → c.magnitude < 65_536
unfolding current_accepted
current_fits limit c = go (eqb c.magnitude 0) refl
  where
    go : (t : Bool) → eqb c.magnitude 0 ≡ t
        → cond t (not c.charging) (ltb limit c.magnitude && leb c.magnitude most_current) ≡ true → c.magnitude < 65_536
    go true p e = let z = eqb-true c.magnitude 0 p in omega arith
    go false p e =
        let h = leb-true c.magnitude most_current (and_right (ltb limit c.magnitude) (leb c.magnitude most_current) e) in
        omega arith

pub value_fits : (least most n : ℕ) → most < 65_536 → zero_or_within least most n ≡ true → n < 65_536
unfolding zero_or_within
value_fits least most n h = go (eqb n 0) refl
  where
    go : (t : Bool) → eqb n 0 ≡ t → (t || within least most n) ≡ true → n < 65_536
    go true p e = let z = eqb-true n 0 p in omega arith
    go false p e = let m = leb-true n most (and_right (leb least n) (leb n most) e) in omega arith
