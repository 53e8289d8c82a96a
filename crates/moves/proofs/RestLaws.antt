-- A rest on bytes in the form: what each callee loads, gives and puts makes them the saved bytes of the rest's gauge. Assumes nothing.
use mathlib.Core.Bool.{true, false}
use mathlib.Core.List.{List}
use mathlib.Core.Path.{◌≡◌, ◌∙◌}
use Prim.Native.Nat.{ℕ, ◌<◌}
use lib.ListN.{get_or}
use Rattle.charge.specs.Rest.{rested}
use Rattle.charge.specs.declared.charge.Charge.{Charge}
use Rattle.configuration.specs.Configuration.{sd}
use Rattle.configuration.specs.declared.settings.Settings.{Settings}
use Rattle.counters.specs.Counters.{counters_rested}
use Rattle.counters.specs.declared.counters.Counters.{Counters}
use Rattle.flags.specs.declared.flags.Flags.{Flags}
use Rattle.form.specs.Form.{newest}
use Rattle.gauge.specs.Rest.{rest}
use Rattle.grains.specs.Leak.{leak_rate}
use Rattle.load.specs.Load.{decoded_gauge, form_fits}
use Rattle.sample.specs.Sample.{sample_rested}
use Rattle.sample.specs.declared.sample.Sample.{Sample}
use Rattle.saved.specs.Put.{charge_put, counters_put, flags_put, sample_put}
use Rattle.saved.specs.Save.{saved_bytes}
use Rattle.moves.proofs.BytesLaws.{own_bytes, rested_put}

module _ (bytes : List ℕ) (small : (k : ℕ) → get_or bytes k 0 < 256) (fits : form_fits newest bytes ≡ true) (n t : ℕ) where
  pub rested_moved : {settings : Settings} {d rate : ℕ} {x y : Charge} {s u : Sample} {f : Flags} {m k : Counters} {b1 b2 b3 b4 : List ℕ}
      → settings ≡ (decoded_gauge bytes).settings → d ≡ sd settings → rate ≡ leak_rate d t → x ≡ (decoded_gauge bytes).charge → y ≡ rested n rate x
      → s ≡ (decoded_gauge bytes).sample → u ≡ sample_rested t s → f ≡ (decoded_gauge bytes).flags → m ≡ (decoded_gauge bytes).counters
      → k ≡ counters_rested n m → b1 ≡ charge_put y bytes → b2 ≡ sample_put u b1 → b3 ≡ flags_put false y.run.vdq f b2 → b4 ≡ counters_put k b3
      → b4 ≡ saved_bytes (rest n t (decoded_gauge bytes))
  unfolding rest sample_rested
  rested_moved {b4 = b4} ps pd pr px py pm pu pf pc pk p1 p2 p3 p4 =
      let g = decoded_gauge bytes in
      let z = rested n (leak_rate (sd g.settings) t) g.charge in
      let own : bytes ≡ saved_bytes g = own_bytes bytes small fits in
      let chain : b4
      ≡ counters_put (counters_rested n g.counters) (flags_put false z.run.vdq g.flags (sample_put (sample_rested t g.sample) (charge_put z (saved_bytes g)))) = cc in
      chain ∙ rested_put g z (sample_rested t g.sample) g.flags (counters_rested n g.counters)
