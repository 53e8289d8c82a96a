-- Each entry of the stored table is the rule's: one computed test over the whole table, and what it says of every entry. Assumes nothing.
use mathlib.Core.Bool.{Bool, true, ◌&&◌}
use mathlib.Core.List.{List, [], ◌∷◌}
use mathlib.Core.Path.{◌≡◌, refl, ap, ◌∙◌}
use Prim.Native.Nat.{ℕ, zero, suc, ◌+◌, ◌≤◌, ◌<◌}
use native.Mathlib.Nat.{not-suc-le-zero}
use native.Mathlib.Omega.{arith}
use lib.Dec.{eqb, leb}
use lib.ListN.{get_or, length}
use borrow.Author.Tests.{eqb-true, leb-true}
use Rattle.numbers.proofs.BoolLaws.{and_left, and_right}
use Rattle.permille.specs.Rule.{rule}
use Rattle.permille.specs.Table.{entries, entry_voltage}

-- the entries as the code has them
abbrev pub table : List ℕ
table =
    0 ∷ 0 ∷ 0 ∷ 1 ∷ 1 ∷ 2 ∷ 2 ∷ 2 ∷ 3 ∷ 3 ∷ 4 ∷ 4 ∷ 4 ∷ 5 ∷ 5 ∷ 6 ∷ 6 ∷ 6 ∷ 7 ∷ 7
    ∷ 8 ∷ 8 ∷ 8 ∷ 9 ∷ 9 ∷ 10 ∷ 10 ∷ 10 ∷ 11 ∷ 11 ∷ 12 ∷ 12 ∷ 12 ∷ 13 ∷ 13 ∷ 14 ∷ 14 ∷ 14 ∷ 15 ∷ 15
    ∷ 16 ∷ 16 ∷ 16 ∷ 17 ∷ 17 ∷ 18 ∷ 18 ∷ 18 ∷ 19 ∷ 19 ∷ 20 ∷ 20 ∷ 20 ∷ 21 ∷ 21 ∷ 22 ∷ 22 ∷ 22 ∷ 23 ∷ 23
    ∷ 24 ∷ 24 ∷ 24 ∷ 25 ∷ 25 ∷ 26 ∷ 26 ∷ 26 ∷ 27 ∷ 27 ∷ 28 ∷ 28 ∷ 28 ∷ 29 ∷ 29 ∷ 30 ∷ 30 ∷ 30 ∷ 31 ∷ 31
    ∷ 32 ∷ 32 ∷ 32 ∷ 33 ∷ 33 ∷ 34 ∷ 34 ∷ 34 ∷ 35 ∷ 35 ∷ 36 ∷ 36 ∷ 36 ∷ 37 ∷ 37 ∷ 38 ∷ 38 ∷ 38 ∷ 39 ∷ 39
    ∷ 40 ∷ 42 ∷ 44 ∷ 46 ∷ 48 ∷ 50 ∷ 52 ∷ 54 ∷ 56 ∷ 58 ∷ 60 ∷ 62 ∷ 64 ∷ 66 ∷ 68 ∷ 70 ∷ 72 ∷ 74 ∷ 76 ∷ 78
    ∷ 80 ∷ 82 ∷ 84 ∷ 86 ∷ 88 ∷ 90 ∷ 92 ∷ 94 ∷ 96 ∷ 98 ∷ 100 ∷ 102 ∷ 104 ∷ 106 ∷ 108 ∷ 110 ∷ 112 ∷ 114 ∷ 116 ∷ 118
    ∷ 120 ∷ 122 ∷ 124 ∷ 126 ∷ 128 ∷ 130 ∷ 132 ∷ 134 ∷ 136 ∷ 138 ∷ 140 ∷ 148 ∷ 156 ∷ 165 ∷ 173 ∷ 182 ∷ 190 ∷ 198 ∷ 207 ∷ 215
    ∷ 224 ∷ 232 ∷ 240 ∷ 249 ∷ 257 ∷ 266 ∷ 274 ∷ 282 ∷ 291 ∷ 299 ∷ 308 ∷ 316 ∷ 324 ∷ 333 ∷ 341 ∷ 350 ∷ 358 ∷ 366 ∷ 375 ∷ 383
    ∷ 392 ∷ 400 ∷ 408 ∷ 417 ∷ 425 ∷ 434 ∷ 442 ∷ 450 ∷ 459 ∷ 467 ∷ 476 ∷ 484 ∷ 492 ∷ 501 ∷ 509 ∷ 518 ∷ 526 ∷ 534 ∷ 543 ∷ 551
    ∷ 560 ∷ 565 ∷ 571 ∷ 576 ∷ 582 ∷ 588 ∷ 593 ∷ 599 ∷ 604 ∷ 610 ∷ 616 ∷ 621 ∷ 627 ∷ 632 ∷ 638 ∷ 644 ∷ 649 ∷ 655 ∷ 660 ∷ 666
    ∷ 672 ∷ 677 ∷ 683 ∷ 688 ∷ 694 ∷ 700 ∷ 705 ∷ 710 ∷ 715 ∷ 720 ∷ 726 ∷ 731 ∷ 736 ∷ 741 ∷ 746 ∷ 752 ∷ 757 ∷ 762 ∷ 767 ∷ 772
    ∷ 778 ∷ 783 ∷ 788 ∷ 793 ∷ 798 ∷ 804 ∷ 809 ∷ 814 ∷ 819 ∷ 824 ∷ 830 ∷ 834 ∷ 838 ∷ 842 ∷ 846 ∷ 850 ∷ 854 ∷ 858 ∷ 862 ∷ 866
    ∷ 870 ∷ 874 ∷ 878 ∷ 882 ∷ 886 ∷ 890 ∷ 894 ∷ 898 ∷ 902 ∷ 906 ∷ 910 ∷ 914 ∷ 918 ∷ 922 ∷ 926 ∷ 930 ∷ 932 ∷ 935 ∷ 938 ∷ 941
    ∷ 944 ∷ 946 ∷ 949 ∷ 952 ∷ 955 ∷ 958 ∷ 960 ∷ 963 ∷ 966 ∷ 969 ∷ 972 ∷ 974 ∷ 977 ∷ 980 ∷ 983 ∷ 986 ∷ 988 ∷ 991 ∷ 994 ∷ 997
    ∷ 1_000 ∷ []

-- ---- the test

-- an entry is the rule's, and at most 1,000
of_rule : ℕ → ℕ → Bool
of_rule k permille = eqb permille (rule (entry_voltage k)) && leb permille 1_000

-- each entry, the first of them being that of k
all_of_rule : ℕ → List ℕ → Bool
all_of_rule k [] = true
all_of_rule k (x ∷ xs) = of_rule k x && all_of_rule (suc k) xs

whole_table : all_of_rule 0 table ≡ true
unfolding all_of_rule of_rule rule
whole_table = refl

-- ---- what it says of every entry

at_each : (k n : ℕ) (xs : List ℕ) → all_of_rule k xs ≡ true → n < length xs → of_rule (k + n) (get_or xs n 0) ≡ true
unfolding all_of_rule
at_each k n [] e h = absurd (not-suc-le-zero h)
at_each k zero (x ∷ xs) e h =
    let s : k + 0 ≡ k = omega arith in
    ap (λ (m : ℕ). of_rule m x) s ∙ and_left (of_rule k x) (all_of_rule (suc k) xs) e
at_each k (suc n) (x ∷ xs) e h =
    let s : k + suc n ≡ suc k + n = omega arith in
    ap (λ (m : ℕ). of_rule m (get_or xs n 0)) s ∙ at_each (suc k) n xs (and_right (of_rule k x) (all_of_rule (suc k) xs) e) (omega arith)

module _ (n : ℕ) (h : n < entries) where
  tested : of_rule n (get_or table n 0) ≡ true
  tested = let s : n ≡ 0 + n = omega arith in ap (λ (m : ℕ). of_rule m (get_or table n 0)) s ∙ at_each 0 n table whole_table h

  pub entry_is : get_or table n 0 ≡ rule (entry_voltage n)
  unfolding of_rule
  entry_is = eqb-true (get_or table n 0) (rule (entry_voltage n)) (and_left (eqb (get_or table n 0) (rule (entry_voltage n))) (leb (get_or table n 0) 1_000) tested)

  pub entry_most : get_or table n 0 ≤ 1_000
  unfolding of_rule
  entry_most = leb-true (get_or table n 0) 1_000 (and_right (eqb (get_or table n 0) (rule (entry_voltage n))) (leb (get_or table n 0) 1_000) tested)
