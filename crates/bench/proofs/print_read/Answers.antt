-- A read that failed or found the end of the input feeds nothing. Otherwise the bytes that it gave are printed. Assumes nothing.
use mathlib.Core.Path.{◌≡◌, refl, sym, ap, ◌∙◌}
use Rattle.bench.specs.Print.{count}
use Rattle.bench.proofs.ReadLaws.{ended, none_read}
use Rattle.bench.proofs.WrittenLaws.{end_written, read_written}
use Rattle.bench.proofs.print_read.Goals as goal

pub returns-in-Err-clause-fed : goal.returns-in-Err-clause-fed
returns-in-Err-clause-fed g c = none_read _ _ _ _ refl

pub returns-in-Ok-eq0-clause-fed : goal.returns-in-Ok-eq0-clause-fed
returns-in-Ok-eq0-clause-fed g c = none_read _ _ _ _ (ended c.args.bench _ _ c.and.ensures)

pub returns-in-Ok-eq0-clause-written : goal.returns-in-Ok-eq0-clause-written
returns-in-Ok-eq0-clause-written g c =
    let none : count c.args.got ≡ 0 = ap count c.in-Ok-eq0.is ∙ sym c.in-Ok-eq0.field-0-is ∙ c.in-Ok-eq0.field-0-test in
    end_written _ _ _ c.args.got _ _ c.and.result none c.print_end.ensures c.and.ensures

pub returns-in-Ok-clause-written : goal.returns-in-Ok-clause-written
returns-in-Ok-clause-written g c = read_written _ _ _ _ _ c.in-Ok.n _ c.print_part.result c.in-Ok.is c.min.ensures c.print_part.ensures.written
