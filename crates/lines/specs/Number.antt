-- What a whole number written in a text is: "an optional minus and digits .. from −2,147,483,648 to 2,147,483,647", and its value.
-- Definitions only; assumes nothing.
use Rattle.std.specs.Prelude.{Bool, true, false, ◌&&◌, cond, List, [], ◌∷◌, ℕ, ◌+◌, ◌-◌, ◌*◌, eqb, leb, Option, Some, None, ℤ, pos, neg_ℤ}

-- ---- digits

-- "0" to "9"
abbrev pub is_digit : ℕ → Bool
is_digit b = leb 48 b && leb b 57

unfoldable pub all_digits : List ℕ → Bool
all_digits [] = true
all_digits (b ∷ bs) = is_digit b && all_digits bs

-- one or more of them
abbrev pub are_digits : List ℕ → Bool
are_digits [] = false
are_digits (b ∷ bs) = all_digits (b ∷ bs)

-- the value of digits after digits of value v: each makes the value before it tenfold and adds its own
unfoldable pub value_from : ℕ → List ℕ → ℕ
value_from v [] = v
value_from v (b ∷ bs) = value_from (10 * v + (b - 48)) bs

-- however many they are, leading zeros among them
abbrev pub value : List ℕ → ℕ
value bs = value_from 0 bs

-- ---- a sign and a magnitude

-- the greatest magnitude: 2,147,483,648 below 0, else 2,147,483,647
abbrev pub greatest : Bool → ℕ
greatest negative = cond negative 2_147_483_648 2_147_483_647

abbrev pub signed : Bool → ℕ → ℤ
signed negative magnitude = cond negative (neg_ℤ (pos magnitude)) (pos magnitude)

unfoldable pub ranged : Bool → ℕ → Option ℤ
ranged negative magnitude = cond (leb magnitude (greatest negative)) (Some (signed negative magnitude)) None

-- ---- a number

-- the digits of a number whose sign is known
unfoldable pub unsigned : Bool → List ℕ → Option ℤ
unsigned negative bs = cond (are_digits bs) (ranged negative (value bs)) None

-- "an optional minus and digits"; 45 is the minus
unfoldable pub number : List ℕ → Option ℤ
number [] = None
number (b ∷ bs) = cond (eqb b 45) (unsigned true bs) (unsigned false (b ∷ bs))
