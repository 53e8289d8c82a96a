-- An output put where there is room for it: what the calls of `put_number` and `put_text` give together. Each law takes the callees'
-- contracts over plain variables. Assumes nothing.
use mathlib.Core.List.{List, [], ◌∷◌, ◌++◌}
use mathlib.Core.Path.{◌≡◌, sym, subst}
use Prim.Native.Nat.{ℕ, ◌+◌, ◌≤◌, ◌<◌}
use native.Mathlib.Omega.{arith}
use lib.ListN.{length}
use lib.Seq.{sets}
use mir.Syntax.{w32}
use mir.Val.{Fits}
use Rattle.lines.proofs.DecimalLaws.{at_most_eleven}
use Rattle.lines.proofs.PutLaws.{Stored, stored, stored_length, stored_then}
use Rattle.lines.specs.Decimal.{decimal}
use Rattle.lines.specs.Put.{place_after, put_at}
use Rattle.bench_output.specs.Output.{room, refused_text, registers_text}

-- what a callee promises of a text: so many bytes of room are asked for, the next place, the bytes afterwards
abbrev pub Asked : ℕ → List ℕ → List ℕ → ℕ → ℕ → List ℕ → Type 0
Asked free text out at next after = record { place : next ≡ place_after free text out at; bytes : after ≡ put_at free text out at }

-- what is promised of a text with room: the place behind it, the bytes afterwards, and that it is no longer than the room
abbrev pub IsPut : List ℕ → List ℕ → ℕ → ℕ → List ℕ → Type 0
IsPut text out at next after = record { place : next ≡ at + length text; bytes : after ≡ sets out at text; within : next ≤ at + room }

put_of : (text out : List ℕ) (at next : ℕ) (after : List ℕ) → Stored text out at next after → next ≤ at + room → IsPut text out at next after
put_of text out at next after s h = record { place = s.place; bytes = s.bytes; within = h }

-- ---- numbers

abbrev pub number_text : ℕ → ℕ → List ℕ
number_text n b = decimal n ++ (b ∷ [])

-- a number of 32 bits put at a place, and how far it reaches
record Number (n b : ℕ) (out : List ℕ) (at next : ℕ) (after : List ℕ) : Type 0 where
  text : Stored (number_text n b) out at next after
  within : next ≤ at + 11
  long : length after ≡ length out

number_put : (n b : ℕ) (out : List ℕ) (at next : ℕ) (after : List ℕ) → n < 4_294_967_296 → at + 11 ≤ length out
    → Asked 11 (number_text n b) out at next after → Number n b out at next after
number_put n b out at next after small free p =
    let s = stored 11 (number_text n b) out at next after free p.place p.bytes in
    let few = at_most_eleven n b small in
    let here = s.place in
    record { text = s; within = omega arith; long = stored_length (number_text n b) out at next after s }

-- four numbers, each behind the one before it
pub registers_put : (nac lmd rsoc flags : ℕ) → nac < 4_294_967_296 → lmd < 4_294_967_296 → rsoc < 4_294_967_296 → flags < 4_294_967_296
    → (out one two three four : List ℕ) (at a b c d : ℕ) → at + room ≤ length out
    → Asked 11 (number_text nac 32) out at a one → Asked 11 (number_text lmd 32) one a b two
    → Asked 11 (number_text rsoc 32) two b c three → Asked 11 (number_text flags 10) three c d four
    → (n l r f : ℕ) → nac ≡ n → lmd ≡ l → rsoc ≡ r → flags ≡ f → IsPut (registers_text n l r f) out at d four
unfolding registers_text
registers_put nac lmd rsoc flags hn hl hr hf out one two three four at a b c d free p q r s n l m f en el er ef =
    let first = number_put nac 32 out at a one (omega arith) (omega arith) p in
    let second = number_put lmd 32 one a b two (omega arith) (omega arith) q in
    let third = number_put rsoc 32 two b c three (omega arith) (omega arith) r in
    let fourth = number_put flags 10 three c d four (omega arith) (omega arith) s in
    let last = stored_then (number_text rsoc 32) (number_text flags 10) two three four b c d third.text fourth.text in
    let later = stored_then (number_text lmd 32) _ one two four a b d second.text last in
    let all = put_of _ out at d four (stored_then (number_text nac 32) _ out one four at a d first.text later) (omega arith) in
    let same : registers_text nac lmd rsoc flags ≡ registers_text n l m f = cc in
    subst (λ (t : List ℕ). IsPut t out at d four) same all

-- a word, then a number behind it
pub refused_put : (word : List ℕ) (number : ℕ) → refused_text number ≡ word ++ number_text number 10 → length word ≤ 8 → Fits w32 number
    → (out one two : List ℕ) (at a b : ℕ) → at + room ≤ length out
    → Asked (length word) word out at a one → Asked 11 (number_text number 10) one a b two
    → IsPut (refused_text number) out at b two
refused_put word number e short small out one two at a b free p q =
    let first = stored (length word) word out at a one (omega arith) p.place p.bytes in
    let place = first.place in
    let long = stored_length word out at a one first in
    let second = number_put number 10 one a b two (omega arith) (omega arith) q in
    let both = stored_then word (number_text number 10) out one two at a b first second.text in
    subst (λ (t : List ℕ). IsPut t out at b two) (sym e) (put_of _ out at b two both (omega arith))

-- ---- with and without room

-- what `put_output` promises
abbrev pub IsOutput : List ℕ → List ℕ → ℕ → ℕ → List ℕ → Type 0
IsOutput text out at next after = record {
  place : next ≡ place_after room text out at;
  bytes : after ≡ put_at room text out at;
  within : at ≤ length out → next ≤ length out;
}
