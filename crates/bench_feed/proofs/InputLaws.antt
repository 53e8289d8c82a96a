-- Bytes fed one after the other: a part of an input and then the rest is the input, and so an input may be cut in any way. Assumes
-- nothing.
use mathlib.Core.List.{List, [], ◌∷◌, ◌++◌, append_assoc, append-nil, flatten}
use mathlib.Core.Path.{◌≡◌, refl, sym, ap, ◌∙◌}
use Prim.Native.Nat.{ℕ}
use Rattle.bench_output.specs.Output.{text_of}
use Rattle.gauge.specs.declared.state.Gauge.{Gauge}
use Rattle.bench_feed.specs.Feed.{fed, last_output}
use Rattle.bench_feed.specs.Input.{fed_all, printed_at, printed_from, printed_of}
use Rattle.bench_feed.specs.declared.state.Bench.{Bench}
use Rattle.bench_feed.specs.declared.state.Place.{Place}
use Rattle.bench_feed.specs.declared.state.Step.{Step}

pub fed_append : (s : Bench) (xs ys : List ℕ) → fed_all s (xs ++ ys) ≡ fed_all (fed_all s xs) ys
unfolding fed_all
fed_append s [] ys = refl
fed_append s (x ∷ xs) ys = fed_append (fed s x).bench xs ys

printed_append : (s : Bench) (xs ys : List ℕ) → printed_at s (xs ++ ys) ≡ printed_at s xs ++ printed_at (fed_all s xs) ys
unfolding fed_all printed_at
printed_append s [] ys = refl
printed_append s (x ∷ xs) ys =
    ap (λ (l : List ℕ). text_of (fed s x).output ++ l) (printed_append (fed s x).bench xs ys)
    ∙ sym (append_assoc (text_of (fed s x).output) (printed_at (fed s x).bench xs) (printed_at (fed_all (fed s x).bench xs) ys))

-- one byte more
pub fed_one_more : (s : Bench) (xs : List ℕ) (b : ℕ) → fed_all s (xs ++ (b ∷ [])) ≡ (fed (fed_all s xs) b).bench
unfolding fed_all
fed_one_more s xs b = fed_append s xs (b ∷ [])

pub printed_one_more : (s : Bench) (xs : List ℕ) (b : ℕ) → printed_at s (xs ++ (b ∷ [])) ≡ printed_at s xs ++ text_of (fed (fed_all s xs) b).output
unfolding printed_at
printed_one_more s xs b =
    printed_append s xs (b ∷ [])
    ∙ ap (λ (l : List ℕ). printed_at s xs ++ l) (append-nil (text_of (fed (fed_all s xs) b).output))

-- what a part prints, then what the rest prints
pub part_then_rest : (s : Bench) (xs ys : List ℕ) → printed_at s xs ++ printed_from (fed_all s xs) ys ≡ printed_from s (xs ++ ys)
unfolding printed_from
part_then_rest s xs ys =
    sym (append_assoc (printed_at s xs) (printed_at (fed_all s xs) ys) (text_of (last_output (fed_all (fed_all s xs) ys))))
    ∙ ap (λ (l : List ℕ). l ++ text_of (last_output (fed_all (fed_all s xs) ys))) (sym (printed_append s xs ys))
    ∙ ap (λ (q : Bench). printed_at s (xs ++ ys) ++ text_of (last_output q)) (sym (fed_append s xs ys))

-- however the input is cut
pub cut_any_way : (s : Bench) (parts : List (List ℕ)) → printed_of s parts ≡ printed_from s (flatten parts)
unfolding printed_of flatten printed_from printed_at fed_all
cut_any_way s [] = refl
cut_any_way s (part ∷ parts) =
    ap (λ (l : List ℕ). printed_at s part ++ l) (cut_any_way (fed_all s part) parts) ∙ part_then_rest s part (flatten parts)

-- a byte, then the rest
pub byte_then_rest : (s : Bench) (b : ℕ) (bs : List ℕ)
    → printed_from s (b ∷ bs) ≡ text_of (fed s b).output ++ printed_from (fed s b).bench bs
unfolding printed_from printed_at fed_all
byte_then_rest s b bs =
    append_assoc (text_of (fed s b).output) (printed_at (fed s b).bench bs) (text_of (last_output (fed_all (fed s b).bench bs)))

-- a step, then the rest
abbrev pub step_then : Step → List ℕ → List ℕ
step_then q bs = text_of q.output ++ printed_from q.bench bs

-- the program with this gauge at this place
abbrev pub at : Gauge → Place → Bench
at g place = record { gauge = g; place = place }
