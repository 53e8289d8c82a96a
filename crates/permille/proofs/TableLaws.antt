-- A voltage in the table has an entry, and one between two entries has the lower. Assumes nothing.
use mathlib.Core.Bool.{Bool, true, false, ◌&&◌}
use mathlib.Core.Path.{◌≡◌, sym, ap, ◌∙◌}
use Prim.Native.Nat.{ℕ, ◌≤◌, ◌<◌}
use native.Mathlib.Omega.{arith}
use lib.Dec.{leb}
use lib.IntN.{ℤ, pos}
use borrow.Author.Tests.{le-leb, leb-true, lt-leb}
use Rattle.std.specs.Prelude.{None, Some}
use Rattle.numbers.proofs.BoolLaws.{and_left, and_right}
use Rattle.numbers.specs.Signed.{at_least_zero}
use Rattle.sample.proofs.RangeLaws.{between_is}
use Rattle.permille.specs.Claim.{TakesTheLower}
use Rattle.permille.specs.Rule.{rule}
use Rattle.permille.specs.Table.{entries, entry_of, entry_voltage, first_voltage, in_table, last_voltage, permille, permille_in}

module _ (v : ℤ) where
  in_table_is : (leb first_voltage (at_least_zero v) && leb (at_least_zero v) last_voltage) ≡ in_table v
  unfolding in_table
  in_table_is = between_is first_voltage last_voltage v (omega arith)

  pub too_low : at_least_zero v < first_voltage → false ≡ in_table v
  too_low h = sym (simp (lt-leb first_voltage (at_least_zero v) h)) ∙ in_table_is

  pub high_enough : {b : Bool} → first_voltage ≤ at_least_zero v → b ≡ leb (at_least_zero v) last_voltage → b ≡ in_table v
  high_enough h e = e ∙ sym (simp (le-leb first_voltage (at_least_zero v) h)) ∙ in_table_is

  module _ (e : in_table v ≡ true) where
    pub from_first : first_voltage ≤ at_least_zero v
    from_first =
        leb-true first_voltage (at_least_zero v) (and_left (leb first_voltage (at_least_zero v)) (leb (at_least_zero v) last_voltage) (in_table_is ∙ e))

    to_last : at_least_zero v ≤ last_voltage
    to_last =
        leb-true (at_least_zero v) last_voltage (and_right (leb first_voltage (at_least_zero v)) (leb (at_least_zero v) last_voltage) (in_table_is ∙ e))

    pub has_entry : entry_of (at_least_zero v) < entries
    has_entry = let h = to_last in omega arith

    pub permille_is : {n : ℕ} → n ≡ rule (entry_voltage (entry_of (at_least_zero v))) → n ≡ permille v
    unfolding permille
    permille_is p = simp e p

    pub permille_in_is : {n : ℕ} → n ≡ rule (entry_voltage (entry_of (at_least_zero v))) → Some n ≡ permille_in v
    unfolding permille_in
    permille_in_is p = ap Some (permille_is p) ∙ sym (simp e)

  pub no_permille_in : in_table v ≡ false → None ≡ permille_in v
  unfolding permille_in
  no_permille_in e = sym (simp e)

-- ---- a voltage between two entries

pub takes_the_lower : TakesTheLower
takes_the_lower k v low high most =
    let e : entry_of v ≡ k = omega arith in
    let first : first_voltage ≤ v = omega arith in
    sym (permille_is (pos v) (sym (high_enough (pos v) first (sym (le-leb v last_voltage most)))) (ap (λ (n : ℕ). rule (entry_voltage n)) (sym e)))
