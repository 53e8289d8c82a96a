-- "c (signed)" of "Saved gauge" in paper 01: a current in two bytes, as two's complement. Definitions only; assumes nothing.
use Rattle.std.specs.Prelude.{◌&&◌, cond, ℕ, ◌-◌, ◌%◌, ◌^◌, ltb}
use Rattle.sample.specs.declared.current.Current.{Current}

abbrev pub pairs : ℕ
pairs = 256 ^ 2

-- the first pair that is below 0
abbrev pub first_negative : ℕ
first_negative = 2 ^ 15

unfoldable pub signed_pair : Current → ℕ
signed_pair c = cond c.charging c.magnitude ((pairs - c.magnitude) % pairs)

unfoldable pub current_of : ℕ → Current
current_of pair =
    record {
      charging = ltb 0 pair && ltb pair first_negative;
      magnitude = cond (ltb pair first_negative) pair (pairs - pair);
    }
