-- The first line matched byte by byte is the names line exactly where all of its bytes together are. Assumes nothing.
use mathlib.Core.Bool.{Bool, true, false, ◌&&◌, cond}
use mathlib.Core.List.{List, [], ◌∷◌, ◌++◌}
use mathlib.Core.Path.{◌≡◌, refl, sym, ap, ◌∙◌}
use Rattle.std.specs.Prelude.{Option, Some, None}
use Prim.Native.Nat.{ℕ, zero, suc, ◌+◌, ◌≤◌, ◌<◌}
use native.Mathlib.Numerals.{add-one}
use native.Mathlib.Omega.{arith}
use lib.Dec.{eqb, ltb}
use lib.ListN.{drop, get_or}
use lib.Seq.{drop-cons}
use borrow.Author.Tests.{ltb-true, ltb-false}
use Rattle.bench_feed.specs.First.{is_whole, names_fed}
use Rattle.bench_feed.specs.Printed.{names_line, same_bytes}

-- how many bytes are as the names line has them, after some bytes
abbrev pub matched_all : Option ℕ → List ℕ → Option ℕ
matched_all matched [] = matched
matched_all matched (b ∷ bs) = matched_all (names_fed matched b) bs

-- one byte more
pub matched_one : (m : Option ℕ) (bs : List ℕ) (b : ℕ) → matched_all m (bs ++ (b ∷ [])) ≡ names_fed (matched_all m bs) b
matched_one m [] b = refl
matched_one m (x ∷ bs) b = matched_one (names_fed m x) bs b

-- another line stays another
other_stays : (bs : List ℕ) → matched_all None bs ≡ None
unfolding names_fed
other_stays [] = refl
other_stays (b ∷ bs) = other_stays bs

whole_line : (m : ℕ) → m ≤ 5 → eqb m 5 ≡ same_bytes [] (drop m names_line)
unfolding same_bytes
whole_line zero h = refl
whole_line (suc zero) h = refl
whole_line (suc (suc zero)) h = refl
whole_line (suc (suc (suc zero))) h = refl
whole_line (suc (suc (suc (suc zero)))) h = refl
whole_line (suc (suc (suc (suc (suc zero))))) h = refl
whole_line (suc (suc (suc (suc (suc (suc m)))))) h = absurd (none h)
  where
    none : suc (suc (suc (suc (suc (suc m))))) ≤ 5 → ⊥
    none p = omega arith

-- a byte as the names line has it, or another
byte_matched : (m : ℕ) (bs rest : List ℕ) (t : Bool) → is_whole (matched_all (Some (m + 1)) bs) ≡ same_bytes bs rest
    → is_whole (matched_all (cond t (Some (m + 1)) None) bs) ≡ (t && same_bytes bs rest)
byte_matched m bs rest true e = e
byte_matched m bs rest false e = ap is_whole (other_stays bs)

matched_from : (m : ℕ) (bs : List ℕ) → m ≤ 5 → is_whole (matched_all (Some m) bs) ≡ same_bytes bs (drop m names_line)
unfolding names_fed same_bytes
matched_from m [] h = whole_line m h
matched_from m (b ∷ bs) h = go (ltb m 5) refl (λ k. matched_from (m + 1) bs k)
  where
    go : (t : Bool) → ltb m 5 ≡ t → (m + 1 ≤ 5 → is_whole (matched_all (Some (m + 1)) bs) ≡ same_bytes bs (drop (m + 1) names_line))
        → is_whole (matched_all (cond (t && eqb b (get_or names_line m 0)) (Some (m + 1)) None) bs) ≡ same_bytes (b ∷ bs) (drop m names_line)
    go true e rest =
        let h : m < 5 = ltb-true m 5 e in
        byte_matched m bs (drop (suc m) names_line) (eqb b (get_or names_line m 0))
        (rest (omega arith) ∙ ap (λ (k : ℕ). same_bytes bs (drop k names_line)) (add-one m))
        ∙ sym (ap (λ (l : List ℕ). same_bytes (b ∷ bs) l) (drop-cons names_line m 0 h))
    go false e rest =
        let k = ltb-false m 5 e in
        let five : m ≡ 5 = omega arith in
        ap is_whole (other_stays bs) ∙ sym (ap (λ (k : ℕ). same_bytes (b ∷ bs) (drop k names_line)) five)

pub names_matched : (bs : List ℕ) → is_whole (matched_all (Some 0) bs) ≡ same_bytes bs names_line
names_matched bs = matched_from 0 bs (omega arith)
