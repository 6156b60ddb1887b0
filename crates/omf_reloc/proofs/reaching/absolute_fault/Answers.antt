use Rattle.std.proofs.Common.{◌∙◌, sym, arith}
use Rattle.omf_check.specs.Module.{records_in}
use Rattle.omf_check.specs.Tables.{segments}
use Rattle.omf_check.specs.WellFormed.{recs}
use Rattle.omf_reloc.proofs.ReachedLaws.{segments-stop, segments-go}
use Rattle.omf_reloc.proofs.reaching.absolute_fault.Goals as goal

pub returns-then-is_some : goal.returns-then-is_some
returns-then-is_some c =
    segments-stop c.args.placement.now (segments (recs (records_in c.args.module.now.bytes))) c.loop-index.index c.in-Some.info c.loop-index.invariant.start (sym c.segment.ensures ∙ c.in-Some.is)
    c.misplaced-fault.result _ c.misplaced-fault.ensures c.loop-index.invariant.same (sym c.is_some.ensures ∙ c.if-is_some.true)

pub loop-index-preserved : goal.loop-index-preserved
loop-index-preserved c = record {
  start = omega (arith, c.loop-index.invariant.start);
  end = c.loop-index.invariant.end;
  same = segments-go c.args.placement.now (segments (recs (records_in c.args.module.now.bytes))) c.loop-index.index c.in-Some.info c.loop-index.invariant.start (sym c.segment.ensures ∙ c.in-Some.is)
      c.misplaced-fault.result _ c.misplaced-fault.ensures c.loop-index.invariant.same (sym c.is_some.ensures ∙ c.if-is_some.false);
}
