use Rattle.std.proofs.Common.{◌∙◌, ap}
use Rattle.omf_check.specs.Module.{records_in}
use Rattle.omf_externals.specs.Names.{names_asked}
use Rattle.omf_externals.specs.Unresolved.{IsByName, rows_in}
use Rattle.omf_placement.proofs.Filling.{fill-start, fill-more, fill-end}
use Rattle.omf_externals.proofs.NameLaws.{listed_names, listed-names}
use Rattle.omf_externals.proofs.UnresolvedLaws.{rows-more}
use Rattle.omf_externals.proofs.by_name.ByName.add_module.Goals as goal

pub loop-rec-init : goal.loop-rec-init
loop-rec-init c =
    let local = c.args.local in
    fill-start IsByName c.args.self.now.spots _ _
    (ap (rows_in c.args.number) (ap (listed_names local) (c.into_iter-rec-iterator.ensures.into_iter_gives ∙ c.undecoded-rec-items.ensures.listed) ∙ listed-names local 0 0 (records_in c.args.«module».now.bytes)))

pub loop-rec-preserved : goal.loop-rec-preserved
loop-rec-preserved c =
    let local = c.args.local in
    let j = c.args.number in
    let here = names_asked local c.in-Some.rec.kind c.in-Some.rec.contents in
    fill-more IsByName c.args.self.now.spots c.loop-rec.self.spots c.add_record.new.self.spots (rows_in j here) (rows_in j (listed_names local c.loop-rec.rec-iterator)) _ _
    (ap (λ xs. rows_in j (listed_names local xs)) c.in-Some.ensures.steps ∙ rows-more j here _) c.in_ok-add_record.ensures c.loop-rec.invariant

pub returns : goal.returns
returns c =
    fill-end IsByName c.args.self.now.spots c.loop-rec.self.spots _ _ (ap (λ xs. rows_in c.args.number (listed_names c.args.local xs)) c.in-None.ensures.steps.0) c.loop-rec.invariant
