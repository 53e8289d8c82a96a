-- Laws of the whole map: the parts stored over zeros are the map. At addresses that are numerals stores and map compute. Assumes nothing.
use mathlib.Core.List.{List}
use mathlib.Core.Path.{◌≡◌, refl, ap, ◌∙◌}
use Prim.Native.Nat.{ℕ, ◌+◌, ◌*◌}
use native.Mathlib.Omega.{arith}
use lib.ListN.{get_or, replicate, set}
use Rattle.configuration.specs.declared.settings.Settings.{Settings}
use Rattle.gauge.specs.declared.state.Gauge.{Gauge}
use Rattle.numbers.specs.Little.{byte_at}
use Rattle.registers.specs.Map.{look_up, register, register_count, registers_from, rows}
use Rattle.registers.specs.Whole.{whole_map, with_pair}
use Rattle.looks.specs.Put.{computed, configured, copied, with_byte}

-- two bytes as their rows show them
abbrev two_bytes : ℕ → ℕ → ℕ → List ℕ → List ℕ
two_bytes at low high bytes = with_byte (at + 1) high (with_byte at low bytes)

as_two : (at low high : ℕ) {b b' : List ℕ} → b ≡ b' → with_pair at (byte_at low 0 + 256 * byte_at high 0) b ≡ two_bytes at low high b'
as_two at low high {b} {b'} e =
    let l : byte_at (byte_at low 0 + 256 * byte_at high 0) 0 ≡ byte_at low 0 = omega arith in
    let h : byte_at (byte_at low 0 + 256 * byte_at high 0) 1 ≡ byte_at high 0 = omega arith in
    ap (with_pair at (byte_at low 0 + 256 * byte_at high 0)) e
    ∙ ap (λ (v : ℕ). set (set b' at v) (at + 1) (byte_at (byte_at low 0 + 256 * byte_at high 0) 1)) l
    ∙ ap (set (set b' at (byte_at low 0)) (at + 1)) h

abbrev zeros : List ℕ
zeros = replicate register_count 0

-- the byte k of the configuration
abbrev byte_of : Gauge → ℕ → ℕ
byte_of g k = get_or g.settings.bytes k 0

abbrev bytes_stored : Gauge → List ℕ
bytes_stored g =
    two_bytes 0x7E (byte_of g 8) (byte_of g 9)
    (two_bytes 0x7C (byte_of g 6) (byte_of g 7)
    (two_bytes 0x7A (byte_of g 4) (byte_of g 5)
    (two_bytes 0x78 (byte_of g 2) (byte_of g 3) (two_bytes 0x76 (byte_of g 0) (byte_of g 1) (copied g (computed g zeros))))))

stored_over : (g : Gauge) → bytes_stored g ≡ whole_map g
unfolding registers_from register look_up rows
stored_over g = refl

pub whole_stored : (g : Gauge) {s : Settings} {g₁ g₂ : Gauge} {b₁ b₂ b₃ : List ℕ} → g₁ ≡ g → b₁ ≡ computed g₁ zeros
    → g₂ ≡ g → b₂ ≡ copied g₂ b₁ → s ≡ g.settings → b₃ ≡ configured s b₂ → b₃ ≡ whole_map g
whole_stored g {s} {g₁} {g₂} {b₁} {b₂} p e₁ q e₂ r e₃ =
    let first : b₁ ≡ computed g zeros = e₁ ∙ ap (λ (x : Gauge). computed x zeros) p in
    let second : b₂ ≡ copied g (computed g zeros) = e₂ ∙ ap (λ (x : Gauge). copied x b₁) q ∙ ap (copied g) first in
    e₃
    ∙ ap (λ (x : Settings). configured x b₂) r
    ∙ as_two 0x7E (byte_of g 8) (byte_of g 9)
    (as_two 0x7C (byte_of g 6) (byte_of g 7)
    (as_two 0x7A (byte_of g 4) (byte_of g 5) (as_two 0x78 (byte_of g 2) (byte_of g 3) (as_two 0x76 (byte_of g 0) (byte_of g 1) second))))
    ∙ stored_over g
