-- The first line fed byte by byte, and the lines below it, print what they print as lines. Each law is stated over the bytes that the
-- first line has had so far. Assumes nothing.
use mathlib.Core.Bool.{Bool, true, false, cond}
use mathlib.Core.List.{List, [], ◌∷◌, ◌++◌}
use mathlib.Core.Path.{◌≡◌, refl, sym, ap, ◌∙◌}
use Rattle.std.specs.Prelude.{Option, Some, None}
use Prim.Native.Nat.{ℕ}
use lib.Dec.{eqb}
use Rattle.bench_output.specs.Output.{heading_text, names_text, text_of}
use Rattle.bench_output.specs.declared.output.Output.TheVariants.{Heading, Names}
use Rattle.gauge.specs.declared.state.Gauge.{Gauge}
use Rattle.lines.proofs.TextLaws.{attached, attached_newline, attached_byte}
use Rattle.lines.specs.Line.{before}
use Rattle.lines.specs.Reading.{fed_all as read_all}
use Rattle.lines.specs.Text.{lines_of}
use Rattle.bench_feed.specs.Feed.{fed, fed_at, last_output, last_output_at}
use Rattle.bench_feed.specs.First.{is_whole, names_fed, first_output, after_first, fed_first}
use Rattle.bench_feed.specs.Input.{fed_all, printed_at, printed_from}
use Rattle.bench_feed.specs.Listed.{step, fresh}
use Rattle.bench_feed.specs.Printed.{list_printed, lines_printed}
use Rattle.bench_feed.specs.declared.state.Bench.{Bench}
use Rattle.bench_feed.specs.declared.state.Place.TheVariants.{First, Ended}
use Rattle.bench_feed.proofs.EndedLaws.{ended_prints}
use Rattle.bench_feed.proofs.InputLaws.{at, step_then, byte_then_rest}
use Rattle.bench_feed.proofs.ListedLaws.{listed_prints}
use Rattle.bench_feed.proofs.NamesLaws.{matched_all, matched_one, names_matched}

-- in a first line that begins with these bytes
abbrev first : Gauge → List ℕ → Bench
first g p = at g (First (matched_all (Some 0) p))

first_ends : (g : Gauge) (p : List ℕ) → printed_from (first g p) [] ≡ lines_printed g (attached p [])
unfolding printed_from printed_at fed_all last_output last_output_at first_output text_of lines_printed list_printed
first_ends g [] = refl
first_ends g (x ∷ p) = go (is_whole (matched_all (Some 0) (x ∷ p))) ∙ ap (λ (t : Bool). cond t heading_text names_text) (names_matched (x ∷ p))
  where
    go : (t : Bool) → text_of (Some (cond t Heading Names)) ≡ cond t heading_text names_text
    go true = refl
    go false = refl

first_newline : (g : Gauge) (p bs : List ℕ)
    → step_then (step g (after_first (matched_all (Some 0) p)) (Some (first_output (matched_all (Some 0) p)))) bs ≡ lines_printed g (attached p ([] ∷ lines_of bs))
unfolding first_output after_first text_of lines_printed read_all
first_newline g p bs =
    go (is_whole (matched_all (Some 0) p))
    ∙ ap (λ (t : Bool). cond t (heading_text ++ list_printed g (lines_of bs)) names_text) (names_matched p)
    ∙ sym (ap (λ (ls : List (List ℕ)). lines_printed g ls) (attached_newline p (lines_of bs)))
  where
    go : (t : Bool) → step_then (step g (cond t fresh Ended) (Some (cond t Heading Names))) bs
        ≡ cond t (heading_text ++ list_printed g (lines_of bs)) names_text
    go true = ap (λ (l : List ℕ). heading_text ++ l) (listed_prints g [] bs)
    go false = ap (λ (l : List ℕ). names_text ++ l) (ended_prints g bs)

first_byte : (g : Gauge) (p : List ℕ) (b : ℕ) (bs : List ℕ)
    → printed_from (first g (p ++ (b ∷ []))) bs ≡ lines_printed g (attached (p ++ (b ∷ [])) (lines_of bs))
    → step_then (step g (First (names_fed (matched_all (Some 0) p) b)) None) bs ≡ lines_printed g (attached p (before b (lines_of bs)))
unfolding text_of
first_byte g p b bs rest =
    sym (ap (λ (m : Option ℕ). printed_from (at g (First m)) bs) (matched_one (Some 0) p b))
    ∙ rest
    ∙ ap (λ (ls : List (List ℕ)). lines_printed g ls) (attached_byte p b (lines_of bs))

pub first_prints : (g : Gauge) (p bs : List ℕ) → printed_from (first g p) bs ≡ lines_printed g (attached p (lines_of bs))
unfolding lines_of fed fed_at fed_first
first_prints g p [] = first_ends g p
first_prints g p (b ∷ bs) = byte_then_rest (first g p) b bs ∙ go (eqb b 10) (first_prints g (p ++ (b ∷ [])) bs)
  where
    go : (t : Bool) → printed_from (first g (p ++ (b ∷ []))) bs ≡ lines_printed g (attached (p ++ (b ∷ [])) (lines_of bs))
        → step_then (cond t (step g (after_first (matched_all (Some 0) p)) (Some (first_output (matched_all (Some 0) p)))) (step g (First (names_fed (matched_all (Some 0) p) b)) None)) bs
        ≡ lines_printed g (attached p (cond t ([] ∷ lines_of bs) (before b (lines_of bs))))
    go true rest = first_newline g p bs
    go false rest = first_byte g p b bs rest
