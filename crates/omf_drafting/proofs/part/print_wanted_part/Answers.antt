use Rattle.std.proofs.Common.{◌≡◌, ◌∙◌, ap, length, sym, subst, true, rules}
use Rattle.omf_check.specs.Module.{records_in}
use Rattle.omf_check.specs.WellFormed.{recs}
use Rattle.omf_layout.specs.Wants.{rooms}
use Rattle.omf_layout.proofs.TableLaws.{length-rooms}
use Rattle.omf_externals.specs.Names.{IsNameTable}
use Rattle.omf_drafting.proofs.part.print_wanted_part.Goals as goal

pub returns : goal.returns
returns c = λ among h e.
    let own : IsNameTable c.in_ok-own.own (among true) = subst (IsNameTable c.in_ok-own.own) (sym e) c.in_ok-own.ensures in
    c.print_wanted_lines.ensures among h own

pub print_wanted_lines-requires-clause-as_many : goal.print_wanted_lines-requires-clause-as_many
print_wanted_lines-requires-clause-as_many c =
    let m = recs (records_in c.args.«module».now.bytes) in
    let asked : c.deref.result.now ≡ rooms m = search rules in
    ap length asked ∙ length-rooms m
