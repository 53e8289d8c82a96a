-- How a line is read byte by byte. That this is `line` of its bytes together is proved, and stands in the contract of
-- `Reading::start`. Definitions only; assumes nothing.
use Rattle.std.specs.Prelude.{cond, List, [], ◌∷◌, ℕ, eqb, Option, None, ℤ}
use Rattle.lines.specs.Line.{joined}
use Rattle.lines.specs.Word.{word_fed, word_number}
use Rattle.lines.specs.declared.line.Reading.{Reading}
use Rattle.lines.specs.declared.line.Reading.TheVariants.{First, Second, Third, More}
use Rattle.lines.specs.declared.word.Word.TheVariants.{Empty}

abbrev pub start : Reading
start = First Empty

-- a space ends a word
unfoldable pub spaced : Reading → Reading
spaced (First a) = Second a Empty
spaced (Second a b) = Third a b Empty
spaced (Third a b c) = More
spaced More = More

-- any other byte is one of the word that goes on
unfoldable pub goes_on : Reading → ℕ → Reading
goes_on (First a) byte = First (word_fed a byte)
goes_on (Second a b) byte = Second a (word_fed b byte)
goes_on (Third a b c) byte = Third a b (word_fed c byte)
goes_on More byte = More

unfoldable pub fed : Reading → ℕ → Reading
fed r byte = cond (eqb byte 32) (spaced r) (goes_on r byte)

-- the reading after some further bytes
unfoldable pub fed_all : Reading → List ℕ → Reading
fed_all r [] = r
fed_all r (b ∷ bs) = fed_all (fed r b) bs

unfoldable pub read_as : Reading → Option (ℤ × ℤ × ℤ)
read_as (First a) = None
read_as (Second a b) = None
read_as (Third a b c) = joined (word_number a) (word_number b) (word_number c)
read_as More = None
