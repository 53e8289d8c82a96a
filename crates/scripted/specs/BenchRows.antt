-- Parts of the bench program: what it prints of a gauge, where a text is put, and where it has ended. Each number by hand, from the papers and
-- from the bytes of `Packs`. Definitions only; assumes nothing.
use Rattle.std.specs.Prelude.{Some, None, true, false, [], ◌∷◌, ◌≡◌, replicate}
use Rattle.bench_feed.specs.Feed as Bench
use Rattle.bench_feed.specs.Feed.{is_ended}
use Rattle.bench_feed.specs.First.{names_fed}
use Rattle.bench_feed.specs.Input.{fed_all}
use Rattle.bench_output.specs.Output.{text_of}
use Rattle.bench_output.specs.declared.output.Output.TheVariants as Output
use Rattle.bench_window.specs.Shown.{registers_output}
use Rattle.gauge.specs.declared.state.Gauge.{Gauge}
use Rattle.lines.specs.Put.{place_after, put_at}
use Rattle.lines.specs.Word.{grown}
use Rattle.load.specs.Load.{rejected_answer}
use Rattle.scripted.specs.Packs.{kept_discharging}
use Rattle.scripted.specs.Script.{started}
use Rattle.scripted.specs.TextRows.{differing_input, paper_input}

-- a gauge value that 14 refuses: the opened one of ten bytes 0
abbrev refused : Gauge
refused = rejected_answer.gauge

pub record BenchRows : Type 0 where
  -- what the bench program prints of a rejected gauge, and of one with LMD 0xA12D: NAC 9,266, 100 × 9,266 / 41,261 = 22.5
  pub shown_14 : registers_output refused ≡ Output.Refused 14
  pub shown_22 : registers_output (started kept_discharging) ≡ Output.Registers 9_266 41_261 22 0x06
  -- the text of numbers that no refusal has: "refused 0" and "refused 17", each with a newline
  pub refused_0 : text_of (Some (Output.Refused 0)) ≡ 114 ∷ 101 ∷ 102 ∷ 117 ∷ 115 ∷ 101 ∷ 100 ∷ 32 ∷ 48 ∷ 10 ∷ []
  pub refused_17 : text_of (Some (Output.Refused 17)) ≡ 114 ∷ 101 ∷ 102 ∷ 117 ∷ 115 ∷ 101 ∷ 100 ∷ 32 ∷ 49 ∷ 55 ∷ 10 ∷ []
  -- a text of two bytes with room for three asked, at the last place that has it and one past it
  pub put_last : put_at 3 (1 ∷ 2 ∷ []) (replicate 5 7) 2 ≡ 7 ∷ 7 ∷ 1 ∷ 2 ∷ 7 ∷ []
  pub put_past : put_at 3 (1 ∷ 2 ∷ []) (replicate 5 7) 3 ≡ replicate 5 7
  pub place_last : place_after 3 (1 ∷ 2 ∷ []) (replicate 5 7) 2 ≡ 4
  pub place_past : place_after 3 (1 ∷ 2 ∷ []) (replicate 5 7) 3 ≡ 3
  -- a magnitude past both ends of the range, the bytes of the first line, and where the program has ended
  pub grown_past : grown 1_000_000_000 9 ≡ 2_147_483_649
  pub names_first : names_fed (Some 0) 99 ≡ Some 1
  pub names_more : names_fed (Some 5) 32 ≡ None
  pub names_zero : names_fed (Some 5) 0 ≡ None
  pub ended_start : is_ended Bench.start ≡ false
  pub ended_listed : is_ended (fed_all Bench.start paper_input) ≡ false
  pub ended_other : is_ended (fed_all Bench.start differing_input) ≡ true
