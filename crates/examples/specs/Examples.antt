-- "Proved examples (●)" of paper 01, all of them, as rows of a joint claim. Definitions only; assumes nothing.
use Rattle.std.specs.Prelude.{true, false, ◌≡◌, pos, negsuc}
use Rattle.command.specs.Command.{decide}
use Rattle.command.specs.declared.command.Command.TheVariants.{Setting}
use Rattle.std.specs.Prelude.{Ok}
use Rattle.command.specs.declared.command.Setting.TheVariants.{Wrtnac}
use Rattle.compensation.specs.Compensation.{dcmp}
use Rattle.configuration.specs.Settings.{opened_settings}
use Rattle.configuration.specs.BenchPack.{bench_pack}
use Rattle.grains.specs.Grains.{grains_of_counts}
use Rattle.grains.specs.Leak.{weight}
use Rattle.grains.specs.Learning.{learned}
use Rattle.reached.specs.Ending.{ending_of}
use Rattle.reached.specs.declared.ending.Ending.TheVariants.{Edv1, Qualified}
use Rattle.registers.specs.Values.{cac, flags, nac, rsoc}
use Rattle.registers.specs.Times.{tte}
use Rattle.sample.specs.Current.{counted, no_current}
use Rattle.sample.specs.Range.{current}
use Rattle.examples.specs.Bench.{after_sample, bench_terms, line_one, line_two, line_three}

pub record Examples : Type 0 where
  -- "So LMD 1,024, EDVF 2,800, E1 3,000, S0 10, DMF 2."
  pub bench_lmd : bench_terms.capacity ≡ 1_024
  pub bench_edvf : bench_terms.edvf ≡ 2_800
  pub bench_e1 : bench_terms.e1 ≡ 3_000
  pub bench_s0 : bench_terms.s0 ≡ 10
  pub bench_dmf : bench_terms.dmf ≡ 2
  -- "a 2 counts 0, 3 counts 3"
  pub current_2 : counted 2 (current (pos 2)) ≡ no_current
  pub current_3 : counted 2 (current (pos 3)) ≡ record { charging = true; magnitude = 3 }
  -- "t 1,171 gives W 4, 1,172 gives 8"
  pub weight_1171 : weight 1_171 ≡ 4
  pub weight_1172 : weight 1_172 ≡ 8
  -- "h after line three 137,663,991,808"
  pub held : line_three.charge.held ≡ 137_663_991_808
  -- "DCMP 127, CAC 892, TTE 17 there"
  pub dcmp_127 : dcmp (opened_settings bench_pack) 3_000 1_192 0 ≡ 127
  pub cac_892 : cac line_three ≡ 892
  pub tte_17 : tte line_three ≡ 17
  -- "drain 900 counts teaches 960", "100 teaches 896", "61,440 with LMD 65,535 teaches 65,535"
  pub drain_900 : learned 1_024 (grains_of_counts 900) ≡ 960
  pub drain_100 : learned 1_024 (grains_of_counts 100) ≡ 896
  pub drain_61440 : learned 65_535 (grains_of_counts 61_440) ≡ 65_535
  -- "IAV 20 disqualifies, 21 does not": a run, at E1 and 1,192
  pub iav_20 : ending_of bench_terms true 20 3_000 1_192 ≡ Edv1
  pub iav_21 : ending_of bench_terms true 21 3_000 1_192 ≡ Qualified
  -- "v 3,000 sets EDV1, 3,001 not": after line two, a discharge of 3,000
  pub v_3000 : (after_sample line_two (negsuc 2_999) (pos 3_000) (pos 1_192)).flags.edv1 ≡ true
  pub v_3001 : (after_sample line_two (negsuc 2_999) (pos 3_001) (pos 1_192)).flags.edv1 ≡ false
  -- "MODE 0x35 with 0xA9 is WRTNAC"
  pub mode_35 : decide 0xA9 0x35 0 ≡ Ok (Setting Wrtnac)
  -- the bench program's lines: NAC, LMD, RSOC and FLAGS
  pub nac_1 : nac line_one ≡ 0
  pub lmd_1 : line_one.charge.lmd ≡ 1_024
  pub rsoc_1 : rsoc line_one ≡ 0
  pub flags_1 : flags line_one ≡ 16
  pub nac_2 : nac line_two ≡ 1_024
  pub lmd_2 : line_two.charge.lmd ≡ 1_024
  pub rsoc_2 : rsoc line_two ≡ 100
  pub flags_2 : flags line_two ≡ 148
  pub nac_3 : nac line_three ≡ 1_019
  pub lmd_3 : line_three.charge.lmd ≡ 1_024
  pub rsoc_3 : rsoc line_three ≡ 99
  pub flags_3 : flags line_three ≡ 20
