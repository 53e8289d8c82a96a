-- A key on the saved bytes: what a command makes of each part is put among them; of bytes that are accepted that is the write of the key. Assumes nothing.
use mathlib.Core.List.{List}
use mathlib.Core.Path.{◌≡◌, refl, sym, ap, ◌∙◌}
use Prim.Native.Nat.{ℕ, ◌<◌}
use lib.ListN.{get_or}
use Rattle.std.specs.Prelude.{Ok, Err}
use Rattle.command.specs.Command.{Decision, decision_number}
use Rattle.command.specs.declared.command.Command.{Command}
use Rattle.command.specs.declared.command.Command.TheVariants.{Reset, Setting}
use Rattle.charge.specs.Obeyed.{charge_obeyed}
use Rattle.charge.specs.declared.charge.Charge.{Charge}
use Rattle.command.specs.declared.command.Reset as Other
use Rattle.command.specs.declared.command.Setting as Kind
use Rattle.configuration.specs.Configuration.{s0}
use Rattle.configuration.specs.Terms.{terms_of}
use Rattle.configuration.specs.declared.settings.Settings.{Settings}
use Rattle.counters.specs.Counters.{counters_obeyed}
use Rattle.counters.specs.declared.counters.Counters.{Counters}
use Rattle.flags.specs.Flags.{flags_obeyed}
use Rattle.flags.specs.declared.flags.Flags.{Flags}
use Rattle.form.specs.Form.{newest}
use Rattle.gauge.specs.Answer.{Answer}
use Rattle.gauge.specs.Calls.{write_answer}
use Rattle.gauge.specs.Obey.{obeyed}
use Rattle.gauge.proofs.CallLaws.{key_obeyed, key_refused, write_key}
use Rattle.host.specs.Host.{host_obeyed}
use Rattle.host.specs.declared.host.Host.{Host}
use Rattle.load.specs.Load.{answer_in, decoded_gauge}
use Rattle.refusals.specs.Refusal as Refusal
use Rattle.refusals.specs.declared.Refusal as Declared
use Rattle.sample.specs.Sample.{sample_obeyed}
use Rattle.sample.specs.declared.sample.Sample.{Sample}
use Rattle.saved.specs.Call.{call_bytes, call_number}
use Rattle.saved.specs.Save.{saved_bytes}
use Rattle.saved.specs.Put.{charge_put, counters_put, flags_put, host_put, parts_put, sample_put, standby_put}
use Rattle.standby.specs.Standby.{standby_obeyed}
use Rattle.moves.proofs.BytesLaws.{own_bytes, parts_put_lem, setting_put_lem}
use Rattle.moves.proofs.CallLaws.{moves, passed_accepted, passed_fits, refuses}
use Rattle.moves.specs.Key.{decided, decided_put, key_bytes, key_number, obeyed_put, setting_put}

-- ---- a command

module _ (bytes : List ℕ) where
  module _ (setting : Kind.Setting) where
    pub setting_obeyed : {settings : Settings} {h k : Host} {s : Sample} {x y : Charge} {f j : Flags} {b1 b2 b3 : List ℕ}
        → settings ≡ (decoded_gauge bytes).settings → h ≡ (decoded_gauge bytes).host → s ≡ (decoded_gauge bytes).sample → x ≡ (decoded_gauge bytes).charge
        → y ≡ charge_obeyed (Setting setting) (terms_of settings) h.ar x → f ≡ (decoded_gauge bytes).flags → j ≡ flags_obeyed (Setting setting) f
        → k ≡ host_obeyed (Setting setting) (terms_of settings) h → b1 ≡ charge_put y bytes → b2 ≡ host_put k b1
        → b3 ≡ flags_put s.current.charging y.run.vdq j b2 → b3 ≡ setting_put (obeyed (Setting setting) (decoded_gauge bytes)) bytes
    unfolding obeyed sample_obeyed
    setting_obeyed ps ph pm px py pf pj pk p1 p2 p3 = cc

  module _ (reset : Other.Reset) where
    pub reset_obeyed : {settings : Settings} {h k : Host} {x y : Charge} {s u : Sample} {i l : ℕ} {f j : Flags} {m o : Counters} {b1 b2 b3 b4 b5 b6 : List ℕ}
        → settings ≡ (decoded_gauge bytes).settings → h ≡ (decoded_gauge bytes).host → x ≡ (decoded_gauge bytes).charge
        → y ≡ charge_obeyed (Reset reset) (terms_of settings) h.ar x → s ≡ (decoded_gauge bytes).sample → u ≡ sample_obeyed (Reset reset) s
        → i ≡ (decoded_gauge bytes).standby → l ≡ standby_obeyed (Reset reset) (s0 settings) i → f ≡ (decoded_gauge bytes).flags
        → j ≡ flags_obeyed (Reset reset) f → k ≡ host_obeyed (Reset reset) (terms_of settings) h → m ≡ (decoded_gauge bytes).counters
        → o ≡ counters_obeyed (Reset reset) m → b1 ≡ charge_put y bytes → b2 ≡ standby_put l b1 → b3 ≡ sample_put u b2 → b4 ≡ host_put k b3
        → b5 ≡ flags_put u.current.charging y.run.vdq j b4 → b6 ≡ counters_put o b5 → b6 ≡ parts_put (obeyed (Reset reset) (decoded_gauge bytes)) bytes
    unfolding obeyed
    reset_obeyed ps ph px py pm pu pi pl pf pj pk pc po p1 p2 p3 p4 p5 p6 = cc

-- ---- a key

module _ (bytes : List ℕ) (small : (k : ℕ) → get_or bytes k 0 < 256) (passed : Refusal.none ≡ (answer_in newest bytes).number) (key : ℕ) where
  obeyed_saved : (command : Command) → obeyed_put command (obeyed command (decoded_gauge bytes)) bytes ≡ saved_bytes (obeyed command (decoded_gauge bytes))
  unfolding obeyed_put obeyed sample_obeyed standby_obeyed counters_obeyed
  obeyed_saved (Setting setting) =
      let g = decoded_gauge bytes in
      let o = obeyed (Setting setting) g in
      ap (setting_put o) (own_bytes bytes small (passed_fits bytes passed)) ∙ setting_put_lem g o.charge o.flags o.host
  obeyed_saved (Reset reset) =
      let g = decoded_gauge bytes in
      let o = obeyed (Reset reset) g in
      ap (parts_put o) (own_bytes bytes small (passed_fits bytes passed)) ∙ parts_put_lem g o.charge o.sample o.flags o.counters o.standby o.host

  abbrev Writes : ℕ → List ℕ → Type 0
  Writes number after = (number ≡ call_number bytes (λ g. write_answer g 0 key)) × (after ≡ call_bytes bytes (λ g. write_answer g 0 key))

  obeys : (command : Command) → decided key (decoded_gauge bytes) ≡ Ok command → Writes Refusal.none (obeyed_put command (obeyed command (decoded_gauge bytes)) bytes)
  obeys command e =
      let is = write_key (decoded_gauge bytes) 0 key (passed_accepted bytes passed) refl refl (key_obeyed (decoded_gauge bytes) key refl e refl) in
      moves bytes (λ g. write_answer g 0 key) passed (ap (λ (x : Answer). x.number) (sym is)) (ap (λ (x : Answer). x.gauge) is) (obeyed_saved command)

  refuses_key : (refusal : Declared.Refusal) → decided key (decoded_gauge bytes) ≡ Err refusal → Writes (Refusal.number refusal) bytes
  refuses_key refusal e =
      let is = write_key (decoded_gauge bytes) 0 key (passed_accepted bytes passed) refl refl (key_refused (decoded_gauge bytes) key refl e) in
      refuses bytes (λ g. write_answer g 0 key) passed refusal (ap (λ (x : Answer). x.number) (sym is))

  pub pressed : {number : ℕ} {after : List ℕ} → number ≡ key_number bytes key → after ≡ key_bytes bytes key → Writes number after
  unfolding key_number key_bytes decided_put
  pressed {number} {after} p q = go (decided key (decoded_gauge bytes)) refl
    where
      go : (d : Decision) → decided key (decoded_gauge bytes) ≡ d → Writes number after
      go (Ok command) e =
          let w = obeys command e in
          (p ∙ ap decision_number e ∙ w.0, q ∙ ap (λ (x : Decision). decided_put x (decoded_gauge bytes) bytes) e ∙ w.1)
      go (Err refusal) e =
          let w = refuses_key refusal e in
          (p ∙ ap decision_number e ∙ w.0, q ∙ ap (λ (x : Decision). decided_put x (decoded_gauge bytes) bytes) e ∙ w.1)

pub at_ctrl : (saved : List ℕ) (value : ℕ) {address number : ℕ} {after : List ℕ} → address ≡ 0
    → (number ≡ call_number saved (λ g. write_answer g 0 value)) × (after ≡ call_bytes saved (λ g. write_answer g 0 value))
    → (number ≡ call_number saved (λ g. write_answer g address value)) × (after ≡ call_bytes saved (λ g. write_answer g address value))
at_ctrl saved value e w = (
  w.0 ∙ ap (λ (a : ℕ). call_number saved (λ g. write_answer g a value)) (sym e),
  w.1 ∙ ap (λ (a : ℕ). call_bytes saved (λ g. write_answer g a value)) (sym e),
)
