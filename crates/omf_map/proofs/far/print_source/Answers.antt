use Rattle.std.proofs.Common.{◌++◌, ap, ◌∙◌, string_bytes}
use Rattle.omf_check.specs.Module.{records_in, recs_of}
use Rattle.omf_lowering.specs.Lines.{lines_of}
use Rattle.omf_placement.specs.Derive.{PlacedModule}
use Rattle.omf_map.specs.Far.{lines_at}
use Rattle.omf_placement.proofs.StepLaws.{part_more, no_part_left}
use Rattle.omf_map.proofs.SourceLaws.{listed_lines, listed-lines}
use Rattle.omf_map.proofs.far.print_source.Goals as goal

pub loop-rec-init : goal.loop-rec-init
loop-rec-init c =
    let m : PlacedModule = (recs_of c.args.of.own.now.bytes, c.args.of.placement.now) in
    let listed = c.into_iter-rec-iterator.ensures.into_iter_gives ∙ c.undecoded-rec-items.ensures.listed in
    ap (λ xs. string_bytes c.args.text.now ++ xs) (ap (listed_lines c.args.of.number m) listed ∙ listed-lines c.args.of.number c.args.of.placement.now (records_in c.args.of.own.now.bytes))

pub loop-rec-preserved : goal.loop-rec-preserved
loop-rec-preserved c =
    let m : PlacedModule = (recs_of c.args.of.own.now.bytes, c.args.of.placement.now) in
    part_more _ _ (lines_at c.args.of.number m (lines_of c.in-Some.rec.kind c.in-Some.rec.contents)) (listed_lines c.args.of.number m c.next.new.self) _ _ c.in_ok-print_linnum.ensures
    (ap (listed_lines c.args.of.number m) c.in-Some.ensures.steps) c.loop-rec.invariant

pub returns : goal.returns
returns c =
    let m : PlacedModule = (recs_of c.args.of.own.now.bytes, c.args.of.placement.now) in
    no_part_left _ _ _ (ap (listed_lines c.args.of.number m) c.in-None.ensures.steps.0) c.loop-rec.invariant
