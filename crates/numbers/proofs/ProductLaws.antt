-- The bound of a product from the bounds of its factors, which are written out so that numerals can be given. Assumes nothing.
use Prim.Native.Nat.{ℕ, ◌*◌, ◌≤◌}
use native.Mathlib.Nat.{mul-le-mul}

pub product_within : {x y : ℕ} (a b : ℕ) → x ≤ a → y ≤ b → x * y ≤ a * b
product_within a b h k = mul-le-mul h k
