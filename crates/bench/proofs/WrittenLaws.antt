-- Which bytes the program has written, pass by pass. Assumes nothing.
use mathlib.Core.Bool.{Bool, true, false, not, cond}
use mathlib.Core.List.{List, [], ◌++◌, append_assoc, append-nil}
use mathlib.Core.Path.{◌≡◌, refl, sym, ap, ◌∙◌, subst}
use Prim.Native.Nat.{ℕ, ◌+◌, ◌-◌, ◌≤◌}
use native.Mathlib.Omega.{arith}
use lib.ListN.{drop, length, take, take-append-drop}
use Rattle.std.proofs.lemmas.List.{take_at}
use Rattle.std.proofs.lemmas.Grind.{common_steps}
use Rattle.std.proofs.lemmas.List.Edits.{sets-eq}
use Rattle.std.specs.Prelude.{Option, None, Some, Result, Ok, Err, OnOk, IfSome, min}
use Rattle.std.specs.Result.{result_and}
use Rattle.std.specs.Io.KnownBytes.{Appends}
use Rattle.bench_feed.proofs.InputLaws.{part_then_rest}
use Rattle.bench_feed.specs.Feed.{last_output}
use Rattle.bench_feed.specs.Input.{fed_all, printed_at, printed_from}
use Rattle.bench_feed.specs.Printed.{printed}
use Rattle.bench_feed.specs.declared.state.Bench.{Bench}
use Rattle.bench_filter.specs.Filter.{IsFiltered}
use Rattle.bench_filter.specs.declared.filter.Filtered.{Filtered}
use Rattle.bench_output.specs.Output.{room, text_of}
use Rattle.lines.proofs.PutLaws.{stored, stored_length}
use Rattle.lines.specs.Put.{place_after, put_at}
use Rattle.bench.proofs.PrintLaws.{left_is}
use Rattle.bench.specs.Print.{IsPrinted, count, has_more}
use Rattle.bench.specs.Written.{Written, still_printed}
use Rattle.bench.specs.declared.print.Failure.{Failure}
use Rattle.bench.specs.declared.print.Printed.{Printed}
use Rattle.bench.specs.declared.print.Progress.{Progress}

-- ---- an output

appends_none : (a : Option (List ℕ)) → Appends a a []
appends_none None = tt
appends_none (Some x) = sym (append-nil x)

pub appends_both : (a b c : Option (List ℕ)) (x y : List ℕ) → Appends a b x → Appends b c y → Appends a c (x ++ y)
appends_both None b c x y p q = tt
appends_both (Some k) None c x y p q = absurd p
appends_both (Some k) (Some l) None x y p q = absurd q
appends_both (Some k) (Some l) (Some m) x y p q = q ∙ ap (λ (z : List ℕ). z ++ y) p ∙ append_assoc k x y

pub appends_is : (a b : Option (List ℕ)) (x y : List ℕ) → x ≡ y → Appends a b x → Appends a b y
appends_is a b x y e p = subst (λ (z : List ℕ). Appends a b z) e p

-- ---- pass by pass

-- what a pass of the filter made stands at the start of the buffer
pub pass_made : (s : Bench) (part out : List ℕ) (r : Filtered) (after : List ℕ) → IsFiltered s part out r after
    → take r.made after ≡ printed_at s (take r.used part)
pass_made s part out r after p =
    ap (λ (l : List ℕ). take r.made l) p.bytes ∙ take_at (printed_at s (take r.used part)) (drop r.made out) r.made (sym p.made)

-- before each pass: a text is written, and the text and what the bytes left and any further ones give are what all of them give
pub record Writing (a b : Option (List ℕ)) (s : Bench) (part : List ℕ) (q : Bench) (rest : List ℕ) : Type 0 where
  pub text : List ℕ
  pub appended : Appends a b text
  pub whole : (more : List ℕ) → text ++ printed_from q (rest ++ more) ≡ printed_from s (part ++ more)

pub begins : (a : Option (List ℕ)) (s : Bench) (part : List ℕ) → Writing a a s part s part
begins a s part = record { text = []; appended = appends_none a; whole = λ more. refl }

still : (q : Bench) (more : List ℕ) (ended : Bool) → (ended ≡ true → (input : List ℕ) → printed_from q input ≡ [])
    → still_printed (record { bench = q; more = Ok (not ended) }) more ≡ printed_from q more
still q more true n = sym (n refl more)
still q more false n = refl

module _ (a b : Option (List ℕ)) (s : Bench) (part : List ℕ) (q : Bench) (rest : List ℕ) (k : Writing a b s part q rest) where
  -- a pass
  pub written_on : (c : Option (List ℕ)) (r : Printed) → IsPrinted q rest r
      → Appends b c (printed_at q (take r.used rest)) → Writing a c s part r.bench (take (length rest - r.used) (drop r.used rest))
  written_on c r p w =
      let used : List ℕ = take r.used rest in
      let left : List ℕ = drop r.used rest in
      subst (λ (x : List ℕ). Writing a c s part r.bench x) (sym (left_is rest r.used)) (record {
        text = k.text ++ printed_at q used;
        appended = appends_both a b c k.text (printed_at q used) k.appended w;
        whole = λ more.
            append_assoc k.text (printed_at q used) (printed_from r.bench (left ++ more))
            ∙ ap (λ (x : Bench). k.text ++ (printed_at q used ++ printed_from x (left ++ more))) p.bench
            ∙ ap (λ (x : List ℕ). k.text ++ x) (part_then_rest q used (left ++ more))
            ∙ ap (λ (x : List ℕ). k.text ++ printed_from q x) (sym (append_assoc used left more))
            ∙ ap (λ (x : List ℕ). k.text ++ printed_from q (x ++ more)) (take-append-drop r.used rest)
            ∙ k.whole more;
      })

  -- every byte is printed
  pub all_written : rest ≡ [] → (ended : Bool) → (ended ≡ true → (input : List ℕ) → printed_from q input ≡ [])
      → (more : List ℕ) → Written a b s (part ++ more) (record { bench = q; more = Ok (not ended) }) more
  all_written none ended n more =
      record {
        text = k.text;
        appended = k.appended;
        whole =
            ap (λ (x : List ℕ). k.text ++ x) (still q more ended n)
            ∙ sym (ap (λ (x : List ℕ). k.text ++ printed_from q (x ++ more)) none)
            ∙ k.whole more;
      }

-- ---- the end of the input

-- what is put at the start of the buffer
pub last_put : (text out : List ℕ) (next : ℕ) (after : List ℕ) → next ≡ place_after room text out 0 → after ≡ put_at room text out 0
    → room ≤ length out → next ≤ length after → take next after ≡ text
last_put text out next after place bytes long within =
    let t = stored room text out 0 next after long place bytes in
    let p = t.place in
    let few : 0 + length text ≤ length out = let l = stored_length text out 0 next after t in omega arith in
    let count : length text ≡ next = omega arith in
    ap (λ (l : List ℕ). take next l) (t.bytes ∙ sets-eq text out 0 few)
    ∙ take_at text (drop (0 + length text) out) next count

last_written : (a b : Option (List ℕ)) (s : Bench) (part more : List ℕ) (m : Result Bool Failure) → has_more (record { bench = s; more = m }) ≡ false
    → part ≡ [] → more ≡ [] → Appends a b (text_of (last_output s)) → Written a b s (part ++ more) (record { bench = s; more = m }) more
unfolding printed_from printed_at fed_all
last_written a b s part more m e p n w =
    record {
      text = text_of (last_output s);
      appended = w;
      whole =
          ap (λ (t : Bool). text_of (last_output s) ++ cond t (printed_from s more) []) e
          ∙ append-nil (text_of (last_output s))
          ∙ sym (ap (λ (x : List ℕ). printed_from s (x ++ [])) p)
          ∙ sym (ap (λ (x : List ℕ). printed_from s (part ++ x)) n);
    }

pub end_written : {E : Type 0} (a b : Option (List ℕ)) (s : Bench) (got : Result ℕ E) (part : List ℕ) (o : Result Unit Failure) (m : Result Bool Failure)
    → count got ≡ 0 → OnOk o (Appends a b (text_of (last_output s))) → m ≡ result_and o (Ok false)
    → OnOk m ((more : List ℕ) → (count got ≡ 0 → more ≡ [])
    → Written a b s (take (count got) part ++ more) (record { bench = s; more = m }) more)
end_written a b s got part o m z w e =
    subst (λ (x : Result Bool Failure). OnOk x ((more : List ℕ) → (count got ≡ 0 → more ≡ [])
    → Written a b s (take (count got) part ++ more) (record { bench = s; more = x }) more)) (sym e) (ended o w)
  where
    ended : (p : Result Unit Failure) → OnOk p (Appends a b (text_of (last_output s)))
        → OnOk (result_and p (Ok false)) ((more : List ℕ) → (count got ≡ 0 → more ≡ [])
        → Written a b s (take (count got) part ++ more) (record { bench = s; more = result_and p (Ok false) }) more)
    ended (Err x) v = tt
    ended (Ok u) v = λ more none. last_written a b s (take (count got) part) more (Ok false) refl (ap (λ (k : ℕ). take k part) z) (none z) v

-- ---- nothing failed

pub more_is : (r : Progress) (more test : Bool) → r.more ≡ Ok more → more ≡ test → has_more r ≡ test
more_is r more test e f = ap (λ (x : Result Bool Failure). has_more (record { bench = r.bench; more = x })) e ∙ f

pub not_failed : {P E A : Type 0} (o : Result A E) (x : A) → o ≡ Ok x → OnOk o P → P
not_failed (Ok y) x e p = p
not_failed (Err y) x e p = cc

pub failed_is : {P Q E A : Type 0} (o : Result A E) → (P → Q) → OnOk o P → OnOk o Q
failed_is (Ok u) f p = f p
failed_is (Err x) f p = tt

-- ---- a read that gave bytes

clamped : (n : ℕ) (part : List ℕ) → take (min n (length part)) part ≡ take n part
clamped n part = grind (arith, common_steps)

pub read_written : {E : Type 0} (a b : Option (List ℕ)) (s : Bench) (got : Result ℕ E) (part : List ℕ) (n m : ℕ) (r : Progress) → got ≡ Ok n
    → m ≡ min n (length part) → OnOk r.more ((more : List ℕ) → Written a b s (take m part ++ more) r more)
    → OnOk r.more ((more : List ℕ) → (count got ≡ 0 → more ≡ []) → Written a b s (take (count got) part ++ more) r more)
read_written a b s got part n m r e f w =
    let bytes : take m part ≡ take (count got) part =
    ap (λ (k : ℕ). take k part) f ∙ clamped n part ∙ sym (ap (λ (k : ℕ). take k part) (ap count e)) in
    failed_is r.more (λ v more none. subst (λ (x : List ℕ). Written a b s (x ++ more) r more) bytes (v more)) w

-- ---- turn by turn

-- the program goes on
abbrev pub going : Bench → Progress
going q = record { bench = q; more = Ok true }

-- of an input before and after: where its bytes are known, what is written and what those that are left give are what all of them give
abbrev pub Turned : Option (List ℕ) → Option (List ℕ) → Option (List ℕ) → Option (List ℕ) → Bench → Progress → Type 0
Turned i j a b s r = IfSome i (λ all. (rest : List ℕ) × (j ≡ Some rest) × Written a b s all r rest)

after_written : (a b c : Option (List ℕ)) (s : Bench) (all : List ℕ) (q : Bench) (middle : List ℕ) (r : Progress) (last : List ℕ) → has_more r ≡ true
    → Written a b s all (going q) middle → Written b c q middle r last → Written a c s all (going r.bench) last
after_written a b c s all q middle r last e v w =
    record {
      text = v.text ++ w.text;
      appended = appends_both a b c v.text w.text v.appended w.appended;
      whole =
          append_assoc v.text w.text (printed_from r.bench last)
          ∙ sym (ap (λ (t : Bool). v.text ++ (w.text ++ cond t (printed_from r.bench last) [])) e)
          ∙ ap (λ (x : List ℕ). v.text ++ x) w.whole
          ∙ v.whole;
    }

pub after_turn : (i j k a b c : Option (List ℕ)) (s q : Bench) (r : Progress) → has_more r ≡ true
    → Turned i j a b s (going q) → Turned j k b c q r → Turned i k a c s (going r.bench)
after_turn None j k a b c s q r e p t = tt
after_turn (Some all) j k a b c s q r e p t =
    let u = subst (λ (x : Option (List ℕ)). Turned x k b c q r) p.1 t in
    (u.0, u.1, after_written a b c s all q p.0 r u.0 e p.2 u.2)

last_text : (a b c : Option (List ℕ)) (s : Bench) (all : List ℕ) (q : Bench) (middle : List ℕ) (r : Progress) (last : List ℕ) → has_more r ≡ false
    → Written a b s all (going q) middle → Written b c q middle r last → Appends a c (printed_from s all)
last_text a b c s all q middle r last e v w =
    let text : v.text ++ w.text ≡ printed_from s all =
    ap (λ (x : List ℕ). v.text ++ x) (sym (append-nil w.text))
    ∙ sym (ap (λ (t : Bool). v.text ++ (w.text ++ cond t (printed_from r.bench last) [])) e)
    ∙ ap (λ (x : List ℕ). v.text ++ x) w.whole
    ∙ v.whole in
    appends_is a c (v.text ++ w.text) (printed_from s all) text (appends_both a b c v.text w.text v.appended w.appended)

-- the program goes on no more, and the input is printed
pub last_turn : (i j k a b c : Option (List ℕ)) (s q : Bench) (r : Progress) → has_more r ≡ false
    → Turned i j a b s (going q) → Turned j k b c q r → ((input : List ℕ) → printed_from s input ≡ printed input)
    → IfSome i (λ all. Appends a c (printed all))
last_turn None j k a b c s q r e p t h = tt
last_turn (Some all) j k a b c s q r e p t h =
    let u = subst (λ (x : Option (List ℕ)). Turned x k b c q r) p.1 t in
    appends_is a c (printed_from s all) (printed all) (h all) (last_text a b c s all q p.0 r u.0 e p.2 u.2)
