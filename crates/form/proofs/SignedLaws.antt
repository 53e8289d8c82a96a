-- A current that is accepted reads back from its two bytes as itself, and every two bytes save as themselves. Assumes nothing.
use mathlib.Core.Bool.{Bool, true, false, not, ◌&&◌, cond}
use mathlib.Core.Path.{◌≡◌, refl}
use Prim.Native.Nat.{ℕ, zero, suc, ◌-◌, ◌%◌, ◌≤◌, ◌<◌}
use native.Mathlib.Omega.{arith}
use lib.Dec.{eqb, leb, ltb}
use borrow.Author.Tests.{eqb-true, eqb-false, lt-ltb, le-ltb, ltb-false, leb-true}
use Rattle.numbers.proofs.BoolLaws.{and_right, and_false}
use Rattle.sample.specs.Limits.{most_current}
use Rattle.sample.specs.Sample.{current_accepted}
use Rattle.sample.specs.declared.current.Current.{Current}
use Rattle.form.specs.Signed.{current_of, first_negative, pairs, signed_pair}

abbrev pub current_with : Bool → ℕ → Current
current_with charging magnitude = record { charging = charging; magnitude = magnitude }

-- ---- each way of the two functions

pub pair_of_charge : (c : Current) → c.charging ≡ true → c.magnitude ≡ signed_pair c
unfolding signed_pair
pair_of_charge c e = simp e

pub pair_of_discharge : (c : Current) → c.charging ≡ false → (pairs - c.magnitude) % pairs ≡ signed_pair c
unfolding signed_pair
pair_of_discharge c e = simp e

both : (a : Bool) → (a && true) ≡ a
both true = refl
both false = refl

pub upper_is : (p : ℕ) → p < first_negative → current_with (ltb 0 p) p ≡ current_of p
unfolding current_of
upper_is p h = simp (lt-ltb p first_negative h, both)

pub lower_is : (p : ℕ) → first_negative ≤ p → current_with false (pairs - p) ≡ current_of p
unfolding current_of
lower_is p h = simp (le-ltb p first_negative h, and_false)

-- ---- there and back

pub pair_fits : (c : Current) → c.magnitude < pairs → signed_pair c < pairs
unfolding signed_pair
pair_fits c h = go c.charging
  where
    go : (t : Bool) → cond t c.magnitude ((pairs - c.magnitude) % pairs) < pairs
    go true = h
    go false = omega arith

within_most : (charging : Bool) (m limit : ℕ) → cond (eqb m 0) (not charging) (ltb limit m && leb m most_current) ≡ true → m ≤ most_current
within_most charging m limit = go (eqb m 0) refl
  where
    go : (t : Bool) → eqb m 0 ≡ t → cond t (not charging) (ltb limit m && leb m most_current) ≡ true → m ≤ most_current
    go true p e = let z = eqb-true m 0 p in omega arith
    go false p e = leb-true m most_current (and_right (ltb limit m) (leb m most_current) e)

above_zero : (m limit : ℕ) → cond (eqb m 0) false (ltb limit m && leb m most_current) ≡ true → 0 < m
above_zero m limit = go (eqb m 0) refl
  where
    go : (t : Bool) → eqb m 0 ≡ t → cond t false (ltb limit m && leb m most_current) ≡ true → 0 < m
    go true p e = absurd_of e
      where
        absurd_of : false ≡ true → 0 < m
        absurd_of q = let z : ◌≡◌ {A = ℕ} 0 1 = cc in omega arith
    go false p e = let ne = eqb-false m 0 p in omega arith

back : (charging : Bool) (m limit : ℕ) → current_accepted limit (current_with charging m) ≡ true
    → current_of (signed_pair (current_with charging m)) ≡ current_with charging m
unfolding current_accepted signed_pair current_of
back true m limit e =
    let p = above_zero m limit e in
    let h = within_most true m limit e in
    let q : m < first_negative = omega arith in
    simp (lt-ltb 0 m p, lt-ltb m first_negative q)
back false zero limit e = refl
back false (suc n) limit e =
    let h = within_most false (suc n) limit e in
    let r : (pairs - suc n) % pairs ≡ pairs - suc n = omega arith in
    let big : first_negative ≤ pairs - suc n = omega arith in
    let m : pairs - (pairs - suc n) ≡ suc n = omega arith in
    simp (r, le-ltb (pairs - suc n) first_negative big, and_false, m)

-- an accepted current reads back as itself
pub current_back : (limit : ℕ) (c : Current) → current_accepted limit c ≡ true → current_of (signed_pair c) ≡ c
current_back limit c e = back c.charging c.magnitude limit e

-- a pair of bytes saves as itself
pub pair_back : (p : ℕ) → p < pairs → signed_pair (current_of p) ≡ p
unfolding signed_pair current_of
pair_back zero h = refl
pair_back (suc n) h = go (ltb (suc n) first_negative) refl
  where
    go : (t : Bool) → ltb (suc n) first_negative ≡ t
        → cond (ltb 0 (suc n) && t) (cond t (suc n) (pairs - suc n)) ((pairs - cond t (suc n) (pairs - suc n)) % pairs) ≡ suc n
    go true e = let p : 0 < suc n = omega arith in simp (lt-ltb 0 (suc n) p)
    go false e =
        let b = ltb-false (suc n) first_negative e in
        let r : (pairs - (pairs - suc n)) % pairs ≡ suc n = omega arith in
        simp (and_false, r)
