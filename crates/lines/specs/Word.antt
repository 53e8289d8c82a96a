-- How a word is read byte by byte. That this is `number` of its bytes together is proved. Definitions only; assumes nothing.
use Rattle.std.specs.Prelude.{Bool, true, false, cond, List, [], ◌∷◌, ℕ, ◌+◌, ◌-◌, ◌*◌, min, eqb, Option, None, ℤ}
use Rattle.lines.specs.Number.{is_digit, ranged}
use Rattle.lines.specs.declared.word.Word.{Word}
use Rattle.lines.specs.declared.word.Word.TheVariants.{Empty, Minus, Digits, Other}

-- one past the greatest magnitude of either sign: all that is known of a greater one
abbrev pub past : ℕ
past = 2_147_483_649

unfoldable pub grown : ℕ → ℕ → ℕ
grown magnitude digit = min (10 * magnitude + digit) past

unfoldable pub digit_fed : Bool → ℕ → ℕ → Word
digit_fed negative magnitude b = cond (is_digit b) (Digits negative (grown magnitude (b - 48))) Other

unfoldable pub first_fed : ℕ → Word
first_fed b = cond (eqb b 45) Minus (digit_fed false 0 b)

unfoldable pub word_fed : Word → ℕ → Word
word_fed Empty b = first_fed b
word_fed Minus b = digit_fed true 0 b
word_fed (Digits negative magnitude) b = digit_fed negative magnitude b
word_fed Other b = Other

unfoldable pub word_number : Word → Option ℤ
word_number Empty = None
word_number Minus = None
word_number (Digits negative magnitude) = ranged negative magnitude
word_number Other = None

-- the word after some further bytes
unfoldable pub word_fed_all : Word → List ℕ → Word
word_fed_all w [] = w
word_fed_all w (b ∷ bs) = word_fed_all (word_fed w b) bs
