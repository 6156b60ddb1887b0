use Rattle.std.proofs.Common.{◌∙◌, ◌++◌, List, ap}
use Rattle.std.specs.Prelude.{filter_map, Option}
use Rattle.std.proofs.lemmas.List.{take_all}
use Rattle.omf_check.specs.Module.{recs_of}
use Rattle.omf_finding.specs.Chain.{enough}
use Rattle.omf_finding.specs.Inner.Singling.{single_with}
use Rattle.omf_finding.specs.declared.shapes.Shape.{Shape}
use Rattle.omf_finding.specs.declared.singles.Single.{Single}
use Rattle.omf_finding.proofs.SingleLaws.{filter-more}
use Rattle.omf_finding.proofs.singles.add_all.Goals as goal

pub loop-shape-preserved : goal.loop-shape-preserved
loop-shape-preserved c =
    let own : Shape → Option Single = λ s. single_with c.args.owner (enough c.args.least (recs_of c.args.module.now.bytes) s.segment) s in
    filter-more own c.args.shapes.now c.loop-shape.shape-index c.shape-item.result c.args.all.now.items c.loop-shape.all.items c.push_single.new.all.items c.single_of.result c.shape-item.is c.loop-shape-test.true c.loop-shape.invariant c.single_of.ensures c.in_ok-push_single.ensures

pub returns : goal.returns
returns c =
    let own : Shape → Option Single = λ s. single_with c.args.owner (enough c.args.least (recs_of c.args.module.now.bytes) s.segment) s in
    c.loop-shape.invariant ∙ ap (λ (ss : List Shape). c.args.all.now.items ++ filter_map own ss) (take_all c.loop-shape.shape-index c.args.shapes.now c.loop-shape-test.false)
