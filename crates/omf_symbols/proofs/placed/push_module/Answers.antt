use Rattle.std.proofs.Common.{◌++◌, ap, ◌∙◌}
use Rattle.omf_check.specs.Module.{records_in}
use Rattle.omf_check.specs.WellFormed.{recs}
use Rattle.omf_placement.specs.Derive.{PlacedModule}
use Rattle.omf_symbols.specs.Placed.{contents_symbols}
use Rattle.omf_placement.proofs.StepLaws.{part_more, no_part_left}
use Rattle.omf_symbols.proofs.SymbolLaws.{listed_symbols, listed-symbols}
use Rattle.omf_symbols.proofs.placed.push_module.Goals as goal

pub loop-rec-init : goal.loop-rec-init
loop-rec-init c =
    let m : PlacedModule = (recs (records_in c.args.«module».now.bytes), c.args.placement.now) in
    let listed = c.into_iter-rec-iterator.ensures.into_iter_gives ∙ c.undecoded-rec-items.ensures.listed in
    ap (λ xs. c.args.symbols.now.items ++ xs)
    (ap (listed_symbols c.args.load m) listed ∙ listed-symbols c.args.load c.args.placement.now (records_in c.args.«module».now.bytes))

pub loop-rec-preserved : goal.loop-rec-preserved
loop-rec-preserved c =
    let m : PlacedModule = (recs (records_in c.args.«module».now.bytes), c.args.placement.now) in
    part_more _ _ (contents_symbols c.args.load m c.in-Some.rec.contents) _ _ _ c.in_ok-push_record.ensures
    (ap (listed_symbols c.args.load m) c.in-Some.ensures.steps) c.loop-rec.invariant

pub returns : goal.returns
returns c =
    let m : PlacedModule = (recs (records_in c.args.«module».now.bytes), c.args.placement.now) in
    no_part_left _ _ _ (ap (listed_symbols c.args.load m) c.in-None.ensures.steps.0) c.loop-rec.invariant
