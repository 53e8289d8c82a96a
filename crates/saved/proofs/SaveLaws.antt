-- The fields put among the bytes in the order of the form are the bytes of the gauge. Assumes nothing.
use mathlib.Core.List.{List, ◌++◌, append-nil}
use mathlib.Core.Path.{◌≡◌, ap, ◌∙◌}
use Prim.Native.Nat.{ℕ, ◌+◌, ◌≤◌}
use native.Mathlib.Omega.{arith}
use lib.ListN.{drop, length, replicate}
use lib.Seq.{drop-length, sets, sets-eq}
use Rattle.form.specs.Form.{newest, saved_length}
use Rattle.gauge.specs.declared.state.Gauge.{Gauge}
use Rattle.load.specs.Fields.{bytes_in, number_in}
use Rattle.saved.proofs.FormLaws.{fields_length, fields_put_lem}
use Rattle.saved.specs.Put.{charge_put, counters_put, flags_put, headed, host_put, sample_put, standby_put}
use Rattle.saved.specs.Save.{field_bytes, saved_bytes}

-- a list put over a whole one
whole_put : (l vs : List ℕ) → length vs ≡ length l → sets l 0 vs ≡ vs
whole_put l vs e =
    let h : 0 + length vs ≤ length l = omega arith in
    let n : 0 + length vs ≡ length l = omega arith in
    sets-eq vs l 0 h ∙ ap (λ (k : ℕ). vs ++ drop k l) n ∙ ap (λ (r : List ℕ). vs ++ r) (drop-length l) ∙ append-nil vs

-- ---- the parts

module _ (g : Gauge) where
  pub saved_length_lem : length (saved_bytes g) ≡ saved_length
  unfolding saved_bytes
  saved_length_lem = fields_length g newest.fields

  -- the parts, one after the other, are the fields of the form
  parts_put_lem : counters_put g.counters (flags_put g.sample.current.charging g.charge.run.vdq g.flags (host_put g.host (sample_put g.sample
      (standby_put g.standby (charge_put g.charge (headed g.settings))))))
      ≡ sets (replicate saved_length 0) 0 (saved_bytes g)
  unfolding headed charge_put standby_put sample_put host_put flags_put counters_put saved_bytes field_bytes number_in bytes_in
  parts_put_lem = fields_put_lem g (replicate saved_length 0) 0 newest.fields

  pub encoded_is : {b1 b2 b3 b4 b5 b6 b7 : List ℕ} → b1 ≡ headed g.settings → b2 ≡ charge_put g.charge b1 → b3 ≡ standby_put g.standby b2
      → b4 ≡ sample_put g.sample b3 → b5 ≡ host_put g.host b4 → b6 ≡ flags_put g.sample.current.charging g.charge.run.vdq g.flags b5
      → b7 ≡ counters_put g.counters b6 → b7 ≡ saved_bytes g
  encoded_is e1 e2 e3 e4 e5 e6 e7 =
      e7
      ∙ ap (counters_put g.counters) (e6
      ∙ ap (flags_put g.sample.current.charging g.charge.run.vdq g.flags) (e5 ∙ ap (host_put g.host) (e4 ∙ ap (sample_put g.sample)
      (e3 ∙ ap (standby_put g.standby) (e2 ∙ ap (charge_put g.charge) e1)))))
      ∙ parts_put_lem ∙ whole_put (replicate saved_length 0) (saved_bytes g) saved_length_lem
