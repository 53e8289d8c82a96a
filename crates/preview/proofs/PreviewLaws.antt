-- A law of the preview: the registers of the copy are read. Assumes nothing.
use mathlib.Core.List.{List}
use mathlib.Core.Path.{◌≡◌}
use Prim.Native.Nat.{ℕ}
use lib.ListN.{length}
use Rattle.gauge.specs.declared.state.Gauge.{Gauge}
use Rattle.gauge.proofs.ObeyedKept.{key_accepted}
use Rattle.refusals.specs.Refusal as Refusal
use Rattle.registers.specs.Map.{register_count}
use Rattle.registers.specs.Reading.{place_refusal, read_refusal}
use Rattle.preview.specs.Preview.{on_copy}

-- a copy of an accepted gauge is accepted after its key, and the reply has room for its registers
pub reads : (g : Gauge) (key : ℕ) (reply : List ℕ) → (on_copy g key).number ≡ Refusal.none → length reply ≡ register_count
    → read_refusal (on_copy g key).gauge 0x00 register_count 0 (length reply) ≡ Refusal.none
unfolding read_refusal place_refusal
reads g key reply e l = simp (key_accepted g key e, l)
