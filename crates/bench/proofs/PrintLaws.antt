-- Which bytes of a part the program has been fed, pass by pass. Assumes nothing.
use mathlib.Core.Bool.{Bool, true, not}
use mathlib.Core.List.{List, [], ◌++◌, append_assoc, append-nil}
use mathlib.Core.Path.{◌≡◌, refl, sym, ap, ◌∙◌, subst}
use Prim.Native.Nat.{ℕ, ◌-◌, ◌≤◌}
use native.Mathlib.Omega.{arith}
use lib.Dec.{eqb}
use borrow.Author.Tests.{eqb-true, not-true}
use lib.ListN.{drop, length, length-append, length-drop, take, take-append-drop}
use lib.Seq.{take_all, take_at}
use Rattle.std.proofs.lemmas.List.{nil_from_length}
use Rattle.std.specs.Prelude.{Ok, Err}
use Rattle.bench_feed.proofs.InputLaws.{fed_append}
use Rattle.bench_feed.specs.Feed.{is_ended}
use Rattle.bench_feed.specs.Input.{fed_all}
use Rattle.bench_feed.specs.declared.state.Bench.{Bench}
use Rattle.bench.specs.Print.{IsPrinted, IsProgress}
use Rattle.bench.specs.declared.print.Failure.{Failure}
use Rattle.bench.specs.declared.print.Printed.{Printed}

-- before each pass: the bytes of the part that stand before the rest are fed
pub record Printing (s : Bench) (part : List ℕ) (q : Bench) (rest : List ℕ) : Type 0 where
  pub fed : List ℕ
  pub all : fed ++ rest ≡ part
  pub bench : q ≡ fed_all s fed

pub begins : (s : Bench) (part : List ℕ) → Printing s part s part
unfolding fed_all
begins s part = record { fed = []; all = refl; bench = refl }

-- no byte is left
pub left_none : (rest : List ℕ) (r : Bool) → r ≡ eqb (length rest) 0 → r ≡ true → rest ≡ []
left_none rest r e t = nil_from_length rest (eqb-true _ _ (sym e ∙ t))

-- what is left behind so many bytes, as the code names it
pub left_is : (rest : List ℕ) (used : ℕ) → take (length rest - used) (drop used rest) ≡ drop used rest
left_is rest used = let l = length-drop used rest in take_all (length rest - used) (drop used rest) (omega arith)

module _ (s : Bench) (part : List ℕ) (q : Bench) (rest : List ℕ) (k : Printing s part q rest) where
  pub passed : (r : Printed) → IsPrinted q rest r → Printing s part r.bench (take (length rest - r.used) (drop r.used rest))
  passed r p =
      subst (λ (x : List ℕ). Printing s part r.bench x) (sym (left_is rest r.used)) (record {
        fed = k.fed ++ take r.used rest;
        all =
            append_assoc k.fed (take r.used rest) (drop r.used rest)
            ∙ ap (λ (x : List ℕ). k.fed ++ x) (take-append-drop r.used rest)
            ∙ k.all;
        bench = p.bench ∙ ap (λ (x : Bench). fed_all x (take r.used rest)) k.bench ∙ sym (fed_append s k.fed (take r.used rest));
      })

  fed_first : take (length k.fed) part ≡ k.fed
  fed_first = sym (ap (λ (x : List ℕ). take (length k.fed) x) k.all) ∙ take_at k.fed rest (length k.fed) refl

  fed_inside : length k.fed ≤ length part
  fed_inside =
      let l = length-append k.fed rest in
      let e = ap length k.all in
      omega arith

  -- a write failed
  pub stopped : (failure : Failure) → IsProgress s part (record { bench = q; more = Err failure })
  stopped failure =
      record {
        used = length k.fed;
        inside = fed_inside;
        bench = k.bench ∙ sym (ap (λ (x : List ℕ). fed_all s x) fed_first);
        whole = λ e. cc;
        goes_on = λ e. cc;
      }

  -- every byte is fed
  pub finished : rest ≡ [] → (ended : Bool) → ended ≡ is_ended q → IsProgress s part (record { bench = q; more = Ok (not ended) })
  finished none ended e =
      let whole : k.fed ≡ part = sym (append-nil k.fed) ∙ sym (ap (λ (x : List ℕ). k.fed ++ x) none) ∙ k.all in
      record {
        used = length k.fed;
        inside = fed_inside;
        bench = k.bench ∙ sym (ap (λ (x : List ℕ). fed_all s x) fed_first);
        whole = λ g. k.bench ∙ ap (λ (x : List ℕ). fed_all s x) whole;
        goes_on = λ g. sym e ∙ not-true ended g;
      }
