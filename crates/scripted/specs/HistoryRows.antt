-- The history's own tests and counts on both sides of their limits, and what the claims take from bytes and from it. Each number by hand, from
-- the papers and from the bytes of `Packs`. Definitions only; assumes nothing.
use Rattle.std.specs.Prelude.{true, false, ◌≡◌, pos, negsuc}
use Rattle.std.proofs.Math.Option.{none, some}
use Rattle.configuration.specs.Settings.{opened_settings}
use Rattle.configuration.specs.BenchPack.{bench_pack}
use Rattle.configuration.specs.Terms.{Terms, terms_of}
use Rattle.drive.specs.Claim.{counts_held, part_of_learned, run_at}
use Rattle.form.specs.Form.{newest}
use Rattle.history.specs.Account.{after_sums, fixing}
use Rattle.history.specs.Claim.{begun, run_of}
use Rattle.history.specs.Counters.{cycle_count, rest_count}
use Rattle.history.specs.Drain.{unless_above}
use Rattle.history.specs.History.{host_after}
use Rattle.history.specs.Tests.{qualifies, reaches_full, stops_empty}
use Rattle.scripted.specs.Packs.{kept_discharging, none_set}
use Rattle.scripted.specs.Script.{started}

abbrev bench_terms : Terms
bench_terms = terms_of (opened_settings bench_pack)

pub record HistoryRows : Type 0 where
  -- MODE, AR's low byte and its high one, each beside the others
  pub store_mode_history : host_after 1 0x55 (record { mode = 0xDA; ar = 0x1278 }) ≡ record { mode = 0x55; ar = 0x1278 }
  pub store_low_history : host_after 2 0x34 (record { mode = 0xDA; ar = 0x1278 }) ≡ record { mode = 0xDA; ar = 0x1234 }
  pub store_high_history : host_after 3 0x56 (record { mode = 0xDA; ar = 0x1278 }) ≡ record { mode = 0xDA; ar = 0x5678 }
  pub store_low_history_high : host_after 2 0x34 (record { mode = 0xDA; ar = 0xFF01 }) ≡ record { mode = 0xDA; ar = 0xFF34 }
  -- on the bench pack: full by taper up to 32 units from 4,100 mV on, by the sum from 138,240,000,000 on
  pub full_taper : reaches_full bench_terms (pos 32) (pos 4_100) (pos 0) 1_024 ≡ true
  pub full_low : reaches_full bench_terms (pos 32) (pos 4_099) (pos 0) 1_024 ≡ false
  pub full_heavy : reaches_full bench_terms (pos 33) (pos 4_100) (pos 0) 1_024 ≡ false
  pub full_sum : reaches_full bench_terms (pos 33) (pos 3_700) (pos 138_240_000_000) 1_024 ≡ true
  pub full_short : reaches_full bench_terms (pos 33) (pos 3_700) (pos 138_239_999_999) 1_024 ≡ false
  -- empty at 0 and not at 1, with a discharge alone; a run qualifies from 1,112 on; a run goes on up to 65,535 counts, and ends with one unit charged
  pub empty_at : stops_empty (negsuc 0) (pos 0) ≡ true
  pub empty_above : stops_empty (negsuc 0) (pos 1) ≡ false
  pub empty_idle : stops_empty (pos 0) (pos 0) ≡ false
  pub qualifies_1112 : qualifies bench_terms (negsuc 20) (pos 1_112) ≡ true
  pub qualifies_1111 : qualifies bench_terms (negsuc 20) (pos 1_111) ≡ false
  pub run_longest : unless_above (some 8_847_225_000_000) ≡ some 8_847_225_000_000
  pub run_passed : unless_above (some 8_847_225_000_001) ≡ none
  pub run_charged : (after_sums bench_terms (pos 1) (pos 1_192) (fixing 5 7 (some 9))).run ≡ none
  -- the history's counts, and where they stop
  pub rests_counted : rest_count (record { rests = 5; cycles = 7; drain = 9 }) ≡ 5
  pub rests_stop : rest_count (record { rests = 4_294_967_296; cycles = 7; drain = 9 }) ≡ 4_294_967_295
  pub cycles_counted : cycle_count (record { rests = 5; cycles = 7; drain = 9 }) ≡ 7
  pub cycles_stop : cycle_count (record { rests = 5; cycles = 65_536; drain = 9 }) ≡ 65_535
  -- what the claims take from bytes and from the history
  -- VDQ and DCR of a run, and without one
  pub run_of_lem : run_of (some 9) ≡ record { vdq = true; dcr = 9 }
  pub run_of_none : run_of none ≡ record { vdq = false; dcr = 0 }
  pub run_at_lem : run_at newest kept_discharging ≡ record { vdq = true; dcr = 8_131_499_331_565 }
  pub run_at_none : run_at newest none_set ≡ record { vdq = false; dcr = 0 }
  pub part_of_learned_lem : part_of_learned (pos 3_700) (begun (started kept_discharging)) ≡ 14_441
  pub counts_held_lem : counts_held (begun (started kept_discharging)) ≡ 9_266
