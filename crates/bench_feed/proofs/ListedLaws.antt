-- The lines of the list fed byte by byte print what they print as lines. Each law is stated over the bytes that the line has had so
-- far. Assumes nothing.
use mathlib.Core.Bool.{Bool, true, false, cond}
use Rattle.std.specs.Prelude.{Option, Some, None, ℤ}
use mathlib.Core.List.{List, [], ◌∷◌, ◌++◌, append-nil}
use mathlib.Core.Path.{◌≡◌, refl, sym, ap, ◌∙◌}
use Prim.Native.Nat.{ℕ}
use lib.Dec.{eqb}
use Rattle.bench_output.specs.Output.{text_of}
use Rattle.bench_window.specs.Answer.{line_answered}
use Rattle.gauge.specs.declared.state.Gauge.{Gauge}
use Rattle.lines.proofs.LineLaws.{line_read, fed_one}
use Rattle.lines.proofs.TextLaws.{attached, attached_newline, attached_byte}
use Rattle.lines.specs.Line.{before, line}
use Rattle.lines.specs.Reading.{read_as, start as empty_line, fed as read_on, fed_all as read_all}
use Rattle.lines.specs.Text.{lines_of}
use Rattle.lines.specs.declared.line.Reading.{Reading}
use Rattle.bench_feed.specs.Feed.{fed, fed_at, last_output, last_output_at}
use Rattle.bench_feed.specs.Input.{fed_all, printed_at, printed_from}
use Rattle.bench_feed.specs.Listed.{step, fresh, fed_listed, line_output}
use Rattle.bench_feed.specs.Printed.{list_printed}
use Rattle.bench_feed.specs.declared.state.Bench.{Bench}
use Rattle.bench_feed.specs.declared.state.Place.TheVariants.{Listed}
use Rattle.bench_feed.proofs.InputLaws.{at, step_then, byte_then_rest}

-- a byte has begun the line
abbrev begun : List ℕ → Bool
begun [] = false
begun (x ∷ p) = true

begun_one : (p : List ℕ) (b : ℕ) → begun (p ++ (b ∷ [])) ≡ true
begun_one [] b = refl
begun_one (x ∷ p) b = refl

abbrev reading : List ℕ → Reading
reading p = read_all empty_line p

-- in a line of the list that begins with these bytes
abbrev listed : Gauge → List ℕ → Bench
listed g p = at g (Listed (begun p) (reading p))

listed_ends : (g : Gauge) (p : List ℕ) → printed_from (listed g p) [] ≡ list_printed g (attached p [])
unfolding printed_from printed_at fed_all last_output last_output_at line_output text_of list_printed
listed_ends g [] = refl
listed_ends g (x ∷ p) =
    ap (λ (l : Option (ℤ × ℤ × ℤ)). text_of (Some (line_answered g l).output)) (line_read (x ∷ p))
    ∙ sym (append-nil (text_of (Some (line_answered g (line (x ∷ p))).output)))

listed_newline : (g : Gauge) (p bs : List ℕ) → ((h : Gauge) → printed_from (listed h []) bs ≡ list_printed h (lines_of bs))
    → step_then (step (line_answered g (read_as (reading p))).gauge fresh (Some (line_answered g (read_as (reading p))).output)) bs
    ≡ list_printed g (attached p ([] ∷ lines_of bs))
unfolding list_printed read_all
listed_newline g p bs rest =
    ap (λ (l : Option (ℤ × ℤ × ℤ)). step_then (step (line_answered g l).gauge fresh (Some (line_answered g l).output)) bs) (line_read p)
    ∙ ap (λ (l : List ℕ). text_of (Some (line_answered g (line p)).output) ++ l) (rest (line_answered g (line p)).gauge)
    ∙ sym (ap (λ (ls : List (List ℕ)). list_printed g ls) (attached_newline p (lines_of bs)))

listed_byte : (g : Gauge) (p : List ℕ) (b : ℕ) (bs : List ℕ)
    → printed_from (listed g (p ++ (b ∷ []))) bs ≡ list_printed g (attached (p ++ (b ∷ [])) (lines_of bs))
    → step_then (step g (Listed true (read_on (reading p) b)) None) bs ≡ list_printed g (attached p (before b (lines_of bs)))
unfolding text_of
listed_byte g p b bs rest =
    sym (ap (λ (t : Bool). printed_from (at g (Listed t (read_on (reading p) b))) bs) (begun_one p b))
    ∙ sym (ap (λ (r : Reading). printed_from (at g (Listed (begun (p ++ (b ∷ []))) r)) bs) (fed_one empty_line p b))
    ∙ rest
    ∙ ap (λ (ls : List (List ℕ)). list_printed g ls) (attached_byte p b (lines_of bs))

pub listed_prints : (g : Gauge) (p bs : List ℕ) → printed_from (listed g p) bs ≡ list_printed g (attached p (lines_of bs))
unfolding lines_of fed fed_at fed_listed
listed_prints g p [] = listed_ends g p
listed_prints g p (b ∷ bs) = byte_then_rest (listed g p) b bs ∙ go (eqb b 10) (λ h q. listed_prints h q bs)
  where
    go : (t : Bool) → ((h : Gauge) (q : List ℕ) → printed_from (listed h q) bs ≡ list_printed h (attached q (lines_of bs)))
        → step_then (cond t (step (line_answered g (read_as (reading p))).gauge fresh (Some (line_answered g (read_as (reading p))).output)) (step g (Listed true (read_on (reading p) b)) None)) bs
        ≡ list_printed g (attached p (cond t ([] ∷ lines_of bs) (before b (lines_of bs))))
    go true rest = listed_newline g p bs (λ h. rest h [])
    go false rest = listed_byte g p b bs (rest g (p ++ (b ∷ [])))
