use Rattle.std.proofs.Common.{◌∙◌, ap}
use Rattle.omf_check.specs.Module.{records_in}
use Rattle.omf_externals.specs.Names.{names_asked, IsNameTable}
use Rattle.omf_placement.proofs.Filling.{fill-start, fill-more, fill-end}
use Rattle.omf_externals.proofs.NameLaws.{listed_names, listed-names}
use Rattle.omf_externals.proofs.names.NameTable.add_module.Goals as goal

pub loop-rec-init : goal.loop-rec-init
loop-rec-init c =
    let local = c.args.local in
    fill-start IsNameTable c.args.self.now _ _ (ap (listed_names local) (c.into_iter-rec-iterator.ensures.into_iter_gives ∙ c.undecoded-rec-items.ensures.listed) ∙ listed-names local 0 0 (records_in c.args.«module».now.bytes))

pub loop-rec-preserved : goal.loop-rec-preserved
loop-rec-preserved c =
    let local = c.args.local in
    fill-more IsNameTable c.args.self.now c.loop-rec.self c.add_record.new.self (names_asked local c.in-Some.rec.kind c.in-Some.rec.contents) (listed_names local c.loop-rec.rec-iterator) _ _
    (ap (listed_names local) c.in-Some.ensures.steps) c.in_ok-add_record.ensures c.loop-rec.invariant

pub returns : goal.returns
returns c = fill-end IsNameTable c.args.self.now c.loop-rec.self _ _ (ap (listed_names c.args.local) c.in-None.ensures.steps.0) c.loop-rec.invariant
