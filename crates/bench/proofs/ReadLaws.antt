-- A read that gives no byte. Assumes nothing.
use mathlib.Core.Bool.{Bool, false}
use mathlib.Core.List.{List}
use mathlib.Core.Path.{◌≡◌, refl, ap, ◌∙◌}
use Prim.Native.Nat.{ℕ}
use native.Mathlib.Omega.{arith}
use Rattle.std.specs.Prelude.{Result, Ok, Err}
use Rattle.std.specs.Result.{result_and}
use Rattle.bench_feed.specs.Input.{fed_all}
use Rattle.bench_feed.specs.declared.state.Bench.{Bench}
use Rattle.bench.specs.Print.{IsRead, has_more}
use Rattle.bench.specs.declared.print.Failure.{Failure}

-- it failed, or the input has ended
pub none_read : {E : Type 0} (s : Bench) (got : Result ℕ E) (part : List ℕ) (more : Result Bool Failure)
    → has_more (record { bench = s; more = more }) ≡ false → IsRead s got part (record { bench = s; more = more })
unfolding fed_all
none_read s got part more e =
    record {
      printed = record {
        used = 0;
        inside = omega arith;
        bench = refl;
        whole = λ f. cc;
        goes_on = λ f. cc;
      };
      some = λ f. cc;
    }

-- no further part, where nothing failed
pub ended : (s : Bench) (o : Result Unit Failure) (m : Result Bool Failure) → m ≡ result_and o (Ok false) → has_more (record { bench = s; more = m }) ≡ false
ended s o m e = ap (λ (x : Result Bool Failure). has_more (record { bench = s; more = x })) e ∙ none o
  where
    none : (p : Result Unit Failure) → has_more (record { bench = s; more = result_and p (Ok false) }) ≡ false
    none (Ok u) = refl
    none (Err x) = refl
