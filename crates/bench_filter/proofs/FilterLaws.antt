-- The filter's turns: what holds after each, and what that gives where it stops. Assumes nothing.
use mathlib.Core.List.{List, [], ◌∷◌, ◌++◌, append_assoc}
use mathlib.Core.Path.{◌≡◌, refl, sym, ap, ◌∙◌, subst}
use Prim.Native.Nat.{ℕ, ◌+◌, ◌-◌, ◌≤◌, ◌<◌}
use native.Mathlib.Numerals.{add-one}
use native.Mathlib.Omega.{arith}
use lib.ListN.{drop, get_or, length, length-append, take, take-append-drop}
use lib.Seq.{length-take-le, sets, sets-eq, take_at, take-suc}
use Rattle.bench_feed.proofs.InputLaws.{fed_one_more, printed_one_more, part_then_rest}
use Rattle.bench_feed.specs.Feed.{fed}
use Rattle.bench_feed.specs.Input.{fed_all, printed_at, printed_from}
use Rattle.bench_feed.specs.declared.state.Bench.{Bench}
use Rattle.bench_feed.specs.declared.state.Step.{Step}
use Rattle.bench_output.proofs.PutLaws.{IsOutput}
use Rattle.bench_output.specs.Output.{room, text_of}
use Rattle.lines.proofs.PutLaws.{Stored, stored, stored_length, sets_append}
use Rattle.bench_filter.specs.Filter.{taken, IsFiltered}
use Rattle.bench_filter.proofs.TakenLaws.{taken_none, taken_full, taken_one}

-- before each turn: so many bytes are taken, and what they print stands at the start of the buffer
pub record Filtering (s : Bench) (part out₀ : List ℕ) (q : Bench) (used made : ℕ) (out : List ℕ) : Type 0 where
  pub inside : used ≤ length part
  pub within : made ≤ length out₀
  pub long : length out ≡ length out₀
  pub bench : q ≡ fed_all s (take used part)
  pub made_is : made ≡ length (printed_at s (take used part))
  pub bytes : out ≡ sets out₀ 0 (printed_at s (take used part))
  -- the bytes taken and those still to be taken are all that are taken
  pub left : used + taken (length out₀ - made) q (drop used part) ≡ taken (length out₀) s part

pub begins : (s : Bench) (part out : List ℕ) → Filtering s part out s 0 0 out
unfolding fed_all printed_at
begins s part out =
    let all : length out - 0 ≡ length out = omega arith in
    let none : 0 + taken (length out - 0) s part ≡ taken (length out - 0) s part = omega arith in
    record {
      inside = omega arith;
      within = omega arith;
      long = refl;
      bench = refl;
      made_is = refl;
      bytes = refl;
      left = none ∙ ap (λ (free : ℕ). taken free s part) all;
    }

module _ (s : Bench) (part out₀ : List ℕ) (q : Bench) (used made : ℕ) (out : List ℕ) (k : Filtering s part out₀ q used made out) where
  -- the bytes taken so far, and the next
  abbrev so_far : List ℕ
  so_far = take used part

  abbrev byte : ℕ
  byte = get_or part used 0

  one_more : used < length part → take (used + 1) part ≡ so_far ++ (byte ∷ [])
  one_more h = ap (λ (n : ℕ). take n part) (add-one used) ∙ take-suc part used 0 h

  bench_next : used < length part → (step : Step) → step ≡ fed q byte → step.bench ≡ fed_all s (take (used + 1) part)
  bench_next h step e =
      ap (λ (x : Step). x.bench) e
      ∙ ap (λ (x : Bench). (fed x byte).bench) k.bench
      ∙ sym (fed_one_more s so_far byte)
      ∙ sym (ap (λ (l : List ℕ). fed_all s l) (one_more h))

  printed_next : used < length part → (step : Step) → step ≡ fed q byte
      → printed_at s (take (used + 1) part) ≡ printed_at s so_far ++ text_of step.output
  printed_next h step e =
      ap (λ (l : List ℕ). printed_at s l) (one_more h)
      ∙ printed_one_more s so_far byte
      ∙ sym (ap (λ (x : Bench). printed_at s so_far ++ text_of (fed x byte).output) k.bench)
      ∙ sym (ap (λ (x : Step). printed_at s so_far ++ text_of x.output) e)

  bytes_next : (step : Step) (next : ℕ) (after : List ℕ) → Stored (text_of step.output) out made next after
      → after ≡ sets out₀ 0 (printed_at s so_far ++ text_of step.output)
  bytes_next step next after t =
      let m = k.made_is in
      let behind : made ≡ 0 + length (printed_at s so_far) = omega arith in
      t.bytes
      ∙ ap (λ (l : List ℕ). sets l made (text_of step.output)) k.bytes
      ∙ ap (λ (n : ℕ). sets (sets out₀ 0 (printed_at s so_far)) n (text_of step.output)) behind
      ∙ sets_append (printed_at s so_far) (text_of step.output) out₀ 0

  left_next : used < length part → room ≤ length out₀ - made → (step : Step) → step ≡ fed q byte
      → (next : ℕ) → next ≡ made + length (text_of step.output)
      → used + 1 + taken (length out₀ - next) step.bench (drop (used + 1) part) ≡ taken (length out₀) s part
  left_next h space step e next place =
      let one = taken_one (length out₀ - made) q part used h space in
      let free : length out₀ - next ≡ length out₀ - made - length (text_of step.output) = omega arith in
      let same =
      ap (λ (r : ℕ). taken r step.bench (drop (used + 1) part)) free
      ∙ ap (λ (x : Step). taken (length out₀ - made - length (text_of x.output)) x.bench (drop (used + 1) part)) e
      ∙ ap (λ (n : ℕ). taken (length out₀ - made - length (text_of (fed q byte).output)) (fed q byte).bench (drop n part)) (add-one used) in
      let l = k.left in
      omega arith

  pub goes_on : used < length part → made + room ≤ length out → (step : Step) → step ≡ fed q byte
      → (next : ℕ) (after : List ℕ) → IsOutput (text_of step.output) out made next after
      → Filtering s part out₀ step.bench (used + 1) next after
  goes_on h free step e next after p =
      let l = k.long in
      let i = k.within in
      let m = k.made_is in
      let x = p.within (omega arith) in
      let t = stored room (text_of step.output) out made next after (omega arith) p.place p.bytes in
      let place = t.place in
      let printed = printed_next h step e in
      let sum = ap length printed ∙ length-append (printed_at s so_far) (text_of step.output) in
      record {
        inside = omega arith;
        within = omega arith;
        long = stored_length (text_of step.output) out made next after t ∙ k.long;
        bench = bench_next h step e;
        made_is = omega arith;
        bytes = bytes_next step next after t ∙ sym (ap (λ (l : List ℕ). sets out₀ 0 l) printed);
        left = left_next h (omega arith) step e next place;
      }

  -- ---- where it stops

  placed : out ≡ printed_at s so_far ++ drop made out₀
  placed =
      let i = k.within in
      let m = k.made_is in
      let first : 0 + length (printed_at s so_far) ≡ made = omega arith in
      k.bytes ∙ sets-eq (printed_at s so_far) out₀ 0 (omega arith) ∙ ap (λ (n : ℕ). printed_at s so_far ++ drop n out₀) first

  counted : (made ≤ length out) × (made ≡ length (take made out))
  counted =
      let i = k.within in
      let l = k.long in
      (omega arith, sym (length-take-le made out (omega arith)))

  whole_input : (rest : List ℕ) → take made out ++ printed_from q (drop used part ++ rest) ≡ printed_from s (part ++ rest)
  whole_input rest =
      ap (λ (l : List ℕ). take made l ++ printed_from q (drop used part ++ rest)) placed
      ∙ ap (λ (l : List ℕ). l ++ printed_from q (drop used part ++ rest)) (take_at (printed_at s so_far) (drop made out₀) made (sym k.made_is))
      ∙ ap (λ (x : Bench). printed_at s so_far ++ printed_from x (drop used part ++ rest)) k.bench
      ∙ part_then_rest s so_far (drop used part ++ rest)
      ∙ sym (ap (λ (l : List ℕ). printed_from s l) (append_assoc so_far (drop used part) rest))
      ∙ ap (λ (l : List ℕ). printed_from s (l ++ rest)) (take-append-drop used part)

  stops : used ≡ taken (length out₀) s part → IsFiltered s part out₀ (record { bench = q; used = used; made = made }) out
  stops e =
      record {
        used = e;
        inside = k.inside;
        bench = k.bench;
        made = k.made_is;
        within = counted;
        bytes = placed;
        whole = whole_input;
        progress = λ free some. let one = taken_one (length out₀) s part 0 some free in omega arith;
      }

  -- the part has no further byte
  pub stops_done : length part ≤ used → IsFiltered s part out₀ (record { bench = q; used = length part; made = made }) out
  stops_done h =
      let none = taken_none (length out₀ - made) q part used h in
      let l = k.left in
      let i = k.inside in
      let all : used ≡ length part = omega arith in
      subst (λ (n : ℕ). IsFiltered s part out₀ (record { bench = q; used = n; made = made }) out) all (stops (omega arith))

  pub stops_full : used < length part → length out < made + room → IsFiltered s part out₀ (record { bench = q; used = used; made = made }) out
  stops_full h full =
      let long = k.long in
      let none = taken_full (length out₀ - made) q part used h (omega arith) in
      let l = k.left in
      stops (omega arith)
