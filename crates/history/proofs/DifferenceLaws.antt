-- An integer as the difference of two naturals, so that arithmetic on naturals decides it: sums, differences and the product by 192,000
-- are those of the two naturals. Assumes nothing.
use mathlib.Core.Bool.{Bool, true, false, cond}
use mathlib.Core.Path.{◌≡◌, refl, ap}
use Prim.Native.Nat.{ℕ, zero, suc, ◌+◌, ◌-◌, ◌*◌, ◌≤◌, ◌<◌}
use native.Mathlib.Omega.{arith}
use lib.Dec.{ltb}
use lib.IntN.{ℤ, pos, negsuc, neg_ℤ, sub_ℕ, ◌+ℤ◌, ◌-ℤ◌, ◌*ℤ◌}
use lib.Signed.{le_z}
use borrow.Author.Tests.{ltb-true, ltb-false, le-leb, lt-leb}
use Rattle.history.specs.Sums.{grains_a_unit}

abbrev above : ℤ → ℕ
above (pos n) = n
above (negsuc n) = 0

abbrev below : ℤ → ℕ
below (pos n) = 0
below (negsuc n) = suc n

-- z is a − b
pub record Difference (z : ℤ) (a b : ℕ) : Type 0 where
  pub balance : above z + b ≡ below z + a

pub of_natural : (n : ℕ) → Difference (pos n) n 0
of_natural n = record { balance = omega arith }

pub of_parts : (z : ℤ) → Difference z (above z) (below z)
of_parts z = record { balance = omega arith }

negated : (z : ℤ) (a b : ℕ) → Difference z a b → Difference (neg_ℤ z) b a
negated (pos zero) a b d = let e = d.balance in record { balance = omega arith }
negated (pos (suc n)) a b d = let e = d.balance in record { balance = omega arith }
negated (negsuc n) a b d = let e = d.balance in record { balance = omega arith }

of_difference : (a b : ℕ) → Difference (sub_ℕ a b) a b
of_difference a b = go (ltb a b) refl
  where
    go : (t : Bool) → ltb a b ≡ t → Difference (cond t (negsuc (b - suc a)) (pos (a - b))) a b
    go true e = let h = ltb-true a b e in record { balance = omega arith }
    go false e = let h = ltb-false a b e in record { balance = omega arith }

sum_parts : (x y : ℤ) → above (x +ℤ y) + (below x + below y) ≡ below (x +ℤ y) + (above x + above y)
sum_parts (pos m) (pos n) = omega arith
sum_parts (pos m) (negsuc n) = let e = (of_difference m (suc n)).balance in omega arith
sum_parts (negsuc m) (pos n) = let e = (of_difference n (suc m)).balance in omega arith
sum_parts (negsuc m) (negsuc n) = omega arith

pub sum : (x y : ℤ) (a b c d : ℕ) → Difference x a b → Difference y c d → Difference (x +ℤ y) (a + c) (b + d)
sum x y a b c d p q =
    let e = p.balance in
    let f = q.balance in
    let g = sum_parts x y in
    record { balance = omega arith }

pub less : (x y : ℤ) (a b c d : ℕ) → Difference x a b → Difference y c d → Difference (x -ℤ y) (a + d) (b + c)
less x y a b c d p q = sum x (neg_ℤ y) a b d c p (negated y c d q)

pub scaled : (z : ℤ) (a b : ℕ) → Difference z a b → Difference (pos grains_a_unit *ℤ z) (grains_a_unit * a) (grains_a_unit * b)
scaled (pos n) a b d = let e = d.balance in record { balance = omega arith }
scaled (negsuc n) a b d =
    negated (pos (grains_a_unit * suc n)) (grains_a_unit * b) (grains_a_unit * a)
    (record { balance = let e = d.balance in omega arith })

pub is_natural : (z : ℤ) (a b : ℕ) → b ≤ a → Difference z a b → z ≡ pos (a - b)
is_natural (pos n) a b h d =
    let e = d.balance in
    let f : n ≡ a - b = omega arith in
    ap pos f
is_natural (negsuc n) a b h d =
    let e = d.balance in
    let f : ⊥ = omega arith in
    absurd f

pub at_most_zero : (z : ℤ) (a b : ℕ) → a ≤ b → Difference z a b → le_z z (pos 0) ≡ true
at_most_zero (pos n) a b h d =
    let e = d.balance in
    let f : n ≤ 0 = omega arith in
    le-leb n 0 f
at_most_zero (negsuc n) a b h d = refl

pub above_zero : (z : ℤ) (a b : ℕ) → b < a → Difference z a b → le_z z (pos 0) ≡ false
above_zero (pos n) a b h d =
    let e = d.balance in
    let f : 0 < n = omega arith in
    lt-leb n 0 f
above_zero (negsuc n) a b h d =
    let e = d.balance in
    let f : ⊥ = omega arith in
    absurd f
