-- A host write's byte, put where the saved bytes hold it, makes them those of the gauge that was written to. Assumes nothing.
use mathlib.Core.Bool.{true}
use mathlib.Core.List.{List}
use mathlib.Core.Path.{◌≡◌, refl, ap, ◌∙◌}
use Prim.Native.Nat.{ℕ, zero, suc, ◌+◌, ◌*◌, ◌/◌, ◌%◌, ◌≤◌, ◌<◌}
use native.Mathlib.Omega.{arith}
use lib.ListN.{get_or, set}
use Rattle.form.specs.Form.{laid_out, newest}
use Rattle.gauge.specs.Calls.{stored_at}
use Rattle.gauge.specs.declared.state.Gauge.{Gauge}
use Rattle.host.specs.Host.{stored}
use Rattle.load.specs.Fields.{bytes_in, number_in}
use Rattle.load.specs.Load.{decoded_gauge, form_fits}
use Rattle.saved.specs.Save.{field_bytes, saved_bytes}
use Rattle.moves.proofs.BytesLaws.{own_bytes}
use Rattle.moves.specs.Place.{host_place}

-- ---- one byte of a saved gauge

at_mode : (g : Gauge) (value : ℕ) → value < 256 → set (saved_bytes g) 39 value ≡ saved_bytes (stored_at 1 value g)
unfolding saved_bytes laid_out field_bytes number_in bytes_in stored_at stored
at_mode g value h = let e : value ≡ value % 256 = omega arith in ap (set (saved_bytes g) 39) e

-- the two bytes of a pair
first_digit : (low high : ℕ) → low < 256 → (low + 256 * high) % 256 ≡ low
first_digit low high h = omega arith

second_digit : (low high : ℕ) → low < 256 → high < 256 → (low + 256 * high) / 256 % 256 ≡ high
second_digit low high h k =
    let q : (low + 256 * high) / 256 ≡ high = omega arith in
    ap (λ (n : ℕ). n % 256) q ∙ small high k
  where
    small : (n : ℕ) → n < 256 → n % 256 ≡ n
    small n b = omega arith

at_ar_low : (g : Gauge) (value : ℕ) → value < 256 → set (saved_bytes g) 37 value ≡ saved_bytes (stored_at 2 value g)
unfolding saved_bytes laid_out field_bytes number_in bytes_in stored_at stored
at_ar_low g value h =
    let kept : g.host.ar / 256 % 256 < 256 = omega arith in
    let low = first_digit value (g.host.ar / 256 % 256) h in
    let high = second_digit value (g.host.ar / 256 % 256) h kept in
    cc

at_ar_high : (g : Gauge) (value : ℕ) → value < 256 → set (saved_bytes g) 38 value ≡ saved_bytes (stored_at 3 value g)
unfolding saved_bytes laid_out field_bytes number_in bytes_in stored_at stored
at_ar_high g value h =
    let same : g.host.ar / 1 % 256 ≡ g.host.ar % 256 = omega arith in
    let kept : g.host.ar / 1 % 256 < 256 = omega arith in
    let low = first_digit (g.host.ar / 1 % 256) value kept in
    let high = second_digit (g.host.ar / 1 % 256) value kept h in
    cc

stored_saved : (g : Gauge) (address value : ℕ) → 0 < address → address ≤ 3 → value < 256
    → set (saved_bytes g) (host_place address) value ≡ saved_bytes (stored_at address value g)
unfolding host_place
stored_saved g zero value p q h = let no : ⊥ = omega arith in absurd no
stored_saved g (suc zero) value p q h = at_mode g value h
stored_saved g (suc (suc zero)) value p q h = at_ar_low g value h
stored_saved g (suc (suc (suc zero))) value p q h = at_ar_high g value h
stored_saved g (suc (suc (suc (suc n)))) value p q h = let no : ⊥ = omega arith in absurd no

-- ---- bytes in the form

-- the bytes of the gauge that the write of a byte leads to
pub byte_written : (bytes : List ℕ) → ((k : ℕ) → get_or bytes k 0 < 256) → form_fits newest bytes ≡ true
    → (address value : ℕ) → (address ≡ 0 → ⊥) → address ≤ 3 → value < 256 → {place : ℕ} → place ≡ host_place address
    → set bytes place value ≡ saved_bytes (stored_at address value (decoded_gauge bytes))
byte_written bytes small f address value ne most h p =
    let above : 0 < address = above_zero address ne in
    ap (λ (k : ℕ). set bytes k value) p ∙ ap (λ (l : List ℕ). set l (host_place address) value) (own_bytes bytes small f)
    ∙ stored_saved (decoded_gauge bytes) address value above most h
  where
    above_zero : (k : ℕ) → (k ≡ 0 → ⊥) → 0 < k
    above_zero zero n = absurd (n refl)
    above_zero (suc k) n = omega arith
