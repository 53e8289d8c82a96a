-- Stores of a text one after the other, and the lent buffer with and without room. Assumes nothing.
use mathlib.Core.List.{List, [], ◌∷◌, ◌++◌, append_assoc}
use mathlib.Core.Path.{◌≡◌, sym, ap, ◌∙◌}
use Prim.Native.Nat.{ℕ, suc, ◌+◌, ◌≤◌}
use native.Mathlib.Nat.{add-zero, add-suc, suc-add}
use native.Mathlib.Omega.{arith}
use lib.ListN.{length, drop, set, take, length-append}
use lib.Seq.{sets, sets-eq, length-sets}
use borrow.Rule.Slice.PartMut.{put_mid}
use Rattle.std.proofs.lemmas.List.{drop-drop}
use borrow.Author.Tests.{le-leb}
use Rattle.lines.specs.Put.{put_at, place_after}

-- ---- stores

-- a text, then another behind it
pub sets_append : (xs ys l : List ℕ) (i : ℕ) → sets (sets l i xs) (i + length xs) ys ≡ sets l i (xs ++ ys)
sets_append [] ys l i = ap (λ (k : ℕ). sets l k ys) (add-zero i)
sets_append (x ∷ xs) ys l i =
    ap (λ (k : ℕ). sets (sets (set l i x) (suc i) xs) k ys) (add-suc i (length xs) ∙ sym (suc-add i (length xs)))
    ∙ sets_append xs ys (set l i x) (suc i)

-- a text, then one byte behind it
pub stored_behind : (text l out : List ℕ) (at n b : ℕ) → l ≡ sets out at text → n ≡ length text
    → set l (at + n) b ≡ sets out at (text ++ (b ∷ []))
stored_behind text l out at n b e f =
    ap (λ (m : List ℕ). set m (at + n) b) e
    ∙ ap (λ (k : ℕ). set (sets out at text) (at + k) b) f
    ∙ sets_append text (b ∷ []) out at

-- a part of the buffer that has become a text
pub mid_stored : (at k : ℕ) (out text : List ℕ) → k ≡ length text → at + k ≤ length out → put_mid at k out text ≡ sets out at text
mid_stored at k out text e h =
    ap (λ (n : ℕ). put_mid at n out text) e
    ∙ ap (λ (l : List ℕ). take at out ++ (text ++ l)) (drop-drop (length text) at out)
    ∙ sym (append_assoc (take at out) text (drop (at + length text) out))
    ∙ sym (sets-eq text out at (omega arith))

-- ---- the lent buffer

module _ (room : ℕ) (text out : List ℕ) (at : ℕ) where
  pub put_here : at + room ≤ length out → sets out at text ≡ put_at room text out at
  unfolding put_at
  put_here h = simp (le-leb (at + room) (length out) h)

  pub place_here : at + room ≤ length out → at + length text ≡ place_after room text out at
  unfolding place_after
  place_here h = simp (le-leb (at + room) (length out) h)

-- ---- what a caller with room knows: the text stands from the place on, and the next place is behind it

pub record Stored (text out : List ℕ) (at next : ℕ) (after : List ℕ) : Type 0 where
  pub place : next ≡ at + length text
  pub bytes : after ≡ sets out at text

pub stored : (room : ℕ) (text out : List ℕ) (at next : ℕ) (after : List ℕ) → at + room ≤ length out
    → next ≡ place_after room text out at → after ≡ put_at room text out at → Stored text out at next after
stored room text out at next after h p b =
    record { place = p ∙ sym (place_here room text out at h); bytes = b ∙ sym (put_here room text out at h) }

pub stored_length : (text out : List ℕ) (at next : ℕ) (after : List ℕ) → Stored text out at next after → length after ≡ length out
stored_length text out at next after s = ap length s.bytes ∙ length-sets out at text

-- a text behind a text
pub stored_then : (xs ys out middle after : List ℕ) (at next last : ℕ) → Stored xs out at next middle → Stored ys middle next last after
    → Stored (xs ++ ys) out at last after
stored_then xs ys out middle after at next last s t =
    let p = s.place in
    let q = t.place in
    let l = length-append xs ys in
    record {
      place = omega arith;
      bytes =
          t.bytes
          ∙ ap (λ (m : List ℕ). sets m next ys) s.bytes
          ∙ ap (λ (k : ℕ). sets (sets out at xs) k ys) p
          ∙ sets_append xs ys out at;
    }
