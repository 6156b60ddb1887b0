use Rattle.std.proofs.Common.{◌∙◌, sym, ap}
use Rattle.omf_check.specs.Module.{records_in}
use Rattle.omf_placement.specs.Derive.{record_publics}
use Rattle.omf_placement.specs.Inner.PublicTable.{found_over}
use Rattle.omf_placement.proofs.SearchLaws.{found-append}
use Rattle.omf_placement.proofs.TableLaws.{listed_publics, listed-publics}
use Rattle.omf_placement.proofs.several.search.after_module.Goals as goal

pub loop-rec-init : goal.loop-rec-init
loop-rec-init c =
    let pl = c.args.placement.now in
    let local = c.args.local in
    ap (found_over c.args.name.now c.args.before) (ap (listed_publics local pl) (c.into_iter-rec-iterator.ensures.into_iter_gives ∙ c.undecoded-rec-items.ensures.listed) ∙ listed-publics local pl 0 0 (records_in c.args.module.now.bytes))

pub loop-rec-preserved : goal.loop-rec-preserved
loop-rec-preserved c =
    let pl = c.args.placement.now in
    let local = c.args.local in
    let name = c.args.name.now in
    let rest = listed_publics local pl c.next.new.self in
    ap (λ f. found_over name f rest) c.after_record-found.ensures
    ∙ sym (found-append name c.loop-rec.found (record_publics local pl c.in-Some.rec.kind c.in-Some.rec.contents) rest)
    ∙ ap (λ xs. found_over name c.loop-rec.found (listed_publics local pl xs)) (sym c.in-Some.ensures.steps) ∙ c.loop-rec.invariant

pub returns : goal.returns
returns c = ap (λ xs. found_over c.args.name.now c.loop-rec.found (listed_publics c.args.local c.args.placement.now xs)) (sym c.in-None.ensures.steps.0) ∙ c.loop-rec.invariant
