-- Numbers tested one after the other. Assumes nothing.
use mathlib.Core.Bool.{Bool, true, false, cond}
use mathlib.Core.Path.{◌≡◌, refl, sym, ◌∙◌}
use Prim.Native.Nat.{ℕ}
use native.Mathlib.Omega.{arith}
use lib.Dec.{eqb}
use borrow.Author.Tests.{eqb-true}
use Rattle.refusals.specs.Refusal.{none, number, or_else, rejected}
use Rattle.refusals.specs.declared.Refusal.{Refusal}
use Rattle.refusals.specs.declared.Refusal.TheVariants.{ConfigurationLength, IlmdZero, CurrentRange, VoltageRange, TemperatureRange, RestLength, NotWritable}
use Rattle.refusals.specs.declared.Refusal.TheVariants.{UnknownKey, NoCommandBit, NotCarried, WrtlmdZero, RegisterRange, BufferLength, Rejected, NotRested, OutsideTable}

-- ---- neither refuses

pub first_none : (m n : ℕ) → or_else m n ≡ none → m ≡ none
first_none m n = go (eqb m none) refl
  where
    go : (t : Bool) → eqb m none ≡ t → cond t n m ≡ none → m ≡ none
    go true p q = eqb-true m none p
    go false p q = q

pub second_none : (m n : ℕ) → or_else m n ≡ none → n ≡ none
second_none m n e = sym (ends m (first_none m n e)) ∙ e
  where
    ends : (k : ℕ) → k ≡ none → or_else k n ≡ n
    ends k z = simp z

-- ---- 14 before any other number

pub not_rejected : (t : Bool) (n : ℕ) → cond t n rejected ≡ none → (t ≡ true) × (n ≡ none)
not_rejected true n e = (refl, e)
not_rejected false n e = let z : ⊥ = omega arith in absurd z

-- ---- three in a row

pub in_a_row : (l m n : ℕ) → or_else l (or_else m n) ≡ or_else (or_else l m) n
in_a_row l m n = go (eqb l none) refl
  where
    go : (t : Bool) → eqb l none ≡ t → cond t (or_else m n) l ≡ or_else (cond t m l) n
    go true p = refl
    go false p = simp p

-- ---- one of the first two refuses: a third is not asked, and what a refusal leaves stands

module _ (l m n : ℕ) (refused : or_else l m ≡ none → ⊥) where
  pub third_unasked : or_else l m ≡ or_else l (or_else m n)
  third_unasked = go (eqb l none) (eqb m none) refl refl
    where
      go : (t u : Bool) → eqb l none ≡ t → eqb m none ≡ u → cond t m l ≡ cond t (cond u n m) l
      go true true p q = absurd (refused (simp (p, eqb-true m none q)))
      go true false p q = refl
      go false u p q = refl

  pub refusal_leaves : {A : Type 0} (after before : A) → before ≡ cond (eqb l none) (cond (eqb (or_else m n) none) after before) before
  refusal_leaves after before = go (eqb l none) (eqb m none) refl refl
    where
      go : (t u : Bool) → eqb l none ≡ t → eqb m none ≡ u → before ≡ cond t (cond (eqb (cond u n m) none) after before) before
      go true true p q = absurd (refused (simp (p, eqb-true m none q)))
      go true false p q = simp q
      go false u p q = refl

-- ---- a refusal's number is not "success"

pub number_above : (refusal : Refusal) → number refusal ≡ none → ⊥
number_above ConfigurationLength e = omega arith
number_above IlmdZero e = omega arith
number_above CurrentRange e = omega arith
number_above VoltageRange e = omega arith
number_above TemperatureRange e = omega arith
number_above RestLength e = omega arith
number_above NotWritable e = omega arith
number_above UnknownKey e = omega arith
number_above NoCommandBit e = omega arith
number_above NotCarried e = omega arith
number_above WrtlmdZero e = omega arith
number_above RegisterRange e = omega arith
number_above BufferLength e = omega arith
number_above Rejected e = omega arith
number_above NotRested e = omega arith
number_above OutsideTable e = omega arith

-- what refuses first gives the number, and what does not leaves it to the next
pub refused_first : (l m : ℕ) (refusal : Refusal) → l ≡ number refusal → or_else l m ≡ number refusal
refused_first l m refusal e = go (eqb l none) refl
  where
    go : (t : Bool) → eqb l none ≡ t → cond t m l ≡ number refusal
    go true p = absurd (number_above refusal (sym e ∙ eqb-true l none p))
    go false p = e

pub none_first : (l m : ℕ) → l ≡ none → or_else l m ≡ m
none_first l m z = simp z
