-- A line read byte by byte is the line of its bytes together. The reading over bytes is first a reading over words, and that one
-- ends at its third word or nowhere. Assumes nothing.
use mathlib.Core.Bool.{Bool, true, false, cond}
use mathlib.Core.List.{List, [], ◌∷◌, ◌++◌}
use mathlib.Core.Path.{◌≡◌, refl, ap, ◌∙◌}
use Prim.Native.Nat.{ℕ}
use lib.Dec.{eqb}
use Rattle.lines.specs.Line.{before, words, joined, three, line}
use Rattle.lines.specs.Number.{number}
use Rattle.lines.specs.Reading.{start, spaced, goes_on, fed, fed_all, read_as}
use Rattle.lines.specs.Word.{word_fed, word_fed_all, word_number}
use Rattle.lines.specs.declared.line.Reading.{Reading}
use Rattle.lines.specs.declared.line.Reading.TheVariants.{First, Second, Third, More}
use Rattle.std.specs.Prelude.{Option, ℤ}
use Rattle.lines.specs.declared.word.Word.{Word}
use Rattle.lines.specs.declared.word.Word.TheVariants.{Empty}
use Rattle.lines.proofs.NumberLaws.{number_read}

-- the bytes of one word
abbrev word_on : Reading → List ℕ → Reading
word_on r [] = r
word_on r (b ∷ bs) = word_on (goes_on r b) bs

-- words after the one that goes on
abbrev words_on : Reading → List (List ℕ) → Reading
words_on r [] = r
words_on r (w ∷ ws) = words_on (word_on (spaced r) w) ws

-- words of which the first is the rest of the one that goes on
abbrev line_on : Reading → List (List ℕ) → Reading
line_on r [] = r
line_on r (w ∷ ws) = words_on (word_on r w) ws

-- ---- bytes are words

-- a byte that is no space
byte_on : (r : Reading) (b : ℕ) (ws : List (List ℕ)) → line_on (goes_on r b) ws ≡ line_on r (before b ws)
byte_on r b [] = refl
byte_on r b (w ∷ ws) = refl

-- a space: there is always a word after it
space_on : (r : Reading) (bs : List ℕ) → line_on (spaced r) (words bs) ≡ line_on r ([] ∷ words bs)
unfolding words
space_on r [] = refl
space_on r (b ∷ bs) = go (eqb b 32) (words bs)
  where
    go : (t : Bool) (ws : List (List ℕ))
        → line_on (spaced r) (cond t ([] ∷ ws) (before b ws)) ≡ line_on r ([] ∷ cond t ([] ∷ ws) (before b ws))
    go true ws = refl
    go false [] = refl
    go false (w ∷ ws) = refl

bytes_are_words : (r : Reading) (bs : List ℕ) → fed_all r bs ≡ line_on r (words bs)
unfolding fed_all fed words
bytes_are_words r [] = refl
bytes_are_words r (b ∷ bs) = go (eqb b 32) (λ s. bytes_are_words s bs)
  where
    go : (t : Bool) → ((s : Reading) → fed_all s bs ≡ line_on s (words bs)) → fed_all (cond t (spaced r) (goes_on r b)) bs ≡ line_on r (cond t ([] ∷ words bs) (before b (words bs)))
    go true rest = rest (spaced r) ∙ space_on r bs
    go false rest = rest (goes_on r b) ∙ byte_on r b (words bs)

-- ---- words, each at its place

first_on : (w : Word) (bs : List ℕ) → word_on (First w) bs ≡ First (word_fed_all w bs)
unfolding goes_on word_fed_all
first_on w [] = refl
first_on w (b ∷ bs) = first_on (word_fed w b) bs

second_on : (a w : Word) (bs : List ℕ) → word_on (Second a w) bs ≡ Second a (word_fed_all w bs)
unfolding goes_on word_fed_all
second_on a w [] = refl
second_on a w (b ∷ bs) = second_on a (word_fed w b) bs

third_on : (a v w : Word) (bs : List ℕ) → word_on (Third a v w) bs ≡ Third a v (word_fed_all w bs)
unfolding goes_on word_fed_all
third_on a v w [] = refl
third_on a v w (b ∷ bs) = third_on a v (word_fed w b) bs

more_on : (bs : List ℕ) → word_on More bs ≡ More
unfolding goes_on
more_on [] = refl
more_on (b ∷ bs) = more_on bs

more_words_on : (ws : List (List ℕ)) → words_on More ws ≡ More
unfolding spaced
more_words_on [] = refl
more_words_on (w ∷ ws) = ap (λ (r : Reading). words_on r ws) (more_on w) ∙ more_words_on ws

abbrev whole : List ℕ → Word
whole w = word_fed_all Empty w

second_begun : (a b : List ℕ) → word_on (spaced (word_on start a)) b ≡ Second (whole a) (whole b)
unfolding spaced
second_begun a b = ap (λ (r : Reading). word_on (spaced r) b) (first_on Empty a) ∙ second_on (whole a) Empty b

third_begun : (a b c : List ℕ) → word_on (spaced (word_on (spaced (word_on start a)) b)) c ≡ Third (whole a) (whole b) (whole c)
unfolding spaced
third_begun a b c = ap (λ (r : Reading). word_on (spaced r) c) (second_begun a b) ∙ third_on (whole a) (whole b) Empty c

words_read : (ws : List (List ℕ)) → read_as (line_on start ws) ≡ three ws
unfolding read_as three spaced
words_read [] = refl
words_read (a ∷ []) = ap read_as (first_on Empty a)
words_read (a ∷ b ∷ []) = ap read_as (second_begun a b)
words_read (a ∷ b ∷ c ∷ []) =
    ap read_as (third_begun a b c)
    ∙ ap (λ (n : Option ℤ). joined n (word_number (whole b)) (word_number (whole c))) (number_read a)
    ∙ ap (λ (n : Option ℤ). joined (number a) n (word_number (whole c))) (number_read b)
    ∙ ap (λ (n : Option ℤ). joined (number a) (number b) n) (number_read c)
words_read (a ∷ b ∷ c ∷ d ∷ ws) =
    ap (λ (r : Reading). read_as (words_on (word_on (spaced r) d) ws)) (third_begun a b c)
    ∙ ap (λ (r : Reading). read_as (words_on r ws)) (more_on d)
    ∙ ap read_as (more_words_on ws)

pub line_read : (bs : List ℕ) → read_as (fed_all start bs) ≡ line bs
unfolding line
line_read bs = ap read_as (bytes_are_words start bs) ∙ words_read (words bs)

-- one byte more
pub fed_one : (r : Reading) (bs : List ℕ) (b : ℕ) → fed_all r (bs ++ (b ∷ [])) ≡ fed (fed_all r bs) b
unfolding fed_all
fed_one r [] b = refl
fed_one r (x ∷ bs) b = fed_one (fed r x) bs b
