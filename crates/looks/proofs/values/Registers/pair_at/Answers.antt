-- At each pair of addresses the map computes to the bytes of its row; the pairs between are 0. Assumes nothing.
use mathlib.Core.Path.{refl, ◌∙◌}
use native.Mathlib.Omega.{arith}
use Rattle.registers.specs.Map.{look_up, register, rows}
use Rattle.looks.proofs.MapLaws.{configuration_shown, shows_bytes, shows_nothing, shows_pair}
use Rattle.looks.proofs.values.Registers.pair_at.Goals as goal

pub returns-in-0 : goal.returns-in-0
unfolding register look_up rows
returns-in-0 c = c.pair_of.ensures ∙ shows_bytes c.args.self.gauge c.in-0.is refl refl (omega arith) (omega arith) refl

pub returns-in-5 : goal.returns-in-5
unfolding register look_up rows
returns-in-5 c =
    c.pair_of-in-5.ensures ∙ shows_bytes c.args.self.gauge c.in-5.is c.flags.ensures c.rsoc.ensures c.flags.type_inv c.rsoc.type_inv refl

pub returns-in-1 : goal.returns-in-1
unfolding register look_up rows
returns-in-1 c = shows_pair c.args.self.gauge c.in-1.is refl (omega arith) refl

pub returns-in-2 : goal.returns-in-2
unfolding register look_up rows
returns-in-2 c = shows_pair c.args.self.gauge c.in-2.is c.artte.ensures c.artte.type_inv refl

pub returns-in-3 : goal.returns-in-3
unfolding register look_up rows
returns-in-3 c = shows_pair c.args.self.gauge c.in-3.is refl (omega arith) refl

pub returns-in-4 : goal.returns-in-4
unfolding register look_up rows
returns-in-4 c = shows_pair c.args.self.gauge c.in-4.is refl (omega arith) refl

pub returns-in-6 : goal.returns-in-6
unfolding register look_up rows
returns-in-6 c = shows_pair c.args.self.gauge c.in-6.is c.nac.ensures.value c.nac.type_inv refl

pub returns-in-7 : goal.returns-in-7
unfolding register look_up rows
returns-in-7 c = shows_pair c.args.self.gauge c.in-7.is refl (omega arith) refl

pub returns-in-8 : goal.returns-in-8
unfolding register look_up rows
returns-in-8 c = shows_pair c.args.self.gauge c.in-8.is c.cac.ensures c.cac.type_inv refl

pub returns-in-9 : goal.returns-in-9
unfolding register look_up rows
returns-in-9 c = shows_pair c.args.self.gauge c.in-9.is c.fcac.ensures c.fcac.type_inv refl

pub returns-in-10 : goal.returns-in-10
unfolding register look_up rows
returns-in-10 c = shows_pair c.args.self.gauge c.in-10.is refl (omega arith) refl

pub returns-in-11 : goal.returns-in-11
unfolding register look_up rows
returns-in-11 c = shows_pair c.args.self.gauge c.in-11.is c.tte.ensures c.tte.type_inv refl

pub returns-in-12 : goal.returns-in-12
unfolding register look_up rows
returns-in-12 c = shows_pair c.args.self.gauge c.in-12.is c.ttf.ensures c.ttf.type_inv refl

pub returns-in-13 : goal.returns-in-13
unfolding register look_up rows
returns-in-13 c = shows_pair c.args.self.gauge c.in-13.is c.si.ensures c.si.type_inv refl

pub returns-in-14 : goal.returns-in-14
unfolding register look_up rows
returns-in-14 c = shows_pair c.args.self.gauge c.in-14.is c.stte.ensures c.stte.type_inv refl

pub returns-in-16 : goal.returns-in-16
unfolding register look_up rows
returns-in-16 c = shows_pair c.args.self.gauge c.in-16.is c.e1.ensures c.e1.type_inv refl

pub returns-in-21 : goal.returns-in-21
unfolding register look_up rows
returns-in-21 c = shows_pair c.args.self.gauge c.in-21.is refl (omega arith) refl

pub returns-in-59-to-63 : goal.returns-in-59-to-63
returns-in-59-to-63 c = configuration_shown c.args.self.gauge (omega arith) c.requires c.configuration_pair.ensures

pub returns-in_default : goal.returns-in_default
returns-in_default c = shows_nothing c.args.self.gauge c.args.pair (omega arith) (omega arith) (omega arith) (omega arith)
