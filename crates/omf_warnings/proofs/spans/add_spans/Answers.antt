use Rattle.std.proofs.Common.{◌≡◌, ◌+◌, ◌∙◌, ap, sym, arith}
use Rattle.omf_check.specs.Module.{records_in}
use Rattle.omf_check.specs.Tables.{attributes, segments}
use Rattle.omf_check.specs.WellFormed.{recs}
use Rattle.omf_placement.proofs.AttributeLaws.{attribute-there}
use Rattle.omf_placement.proofs.ListLaws.{entry-at, more-mapped, all-mapped}
use Rattle.omf_layout.proofs.SeveralLaws.PortionLaws.{next-numbered, none-numbered}
use Rattle.omf_warnings.specs.Lying.{lying, seen}
use Rattle.omf_warnings.proofs.spans.add_spans.Goals as goal

pub unreachable-requires-in_default-attribute : goal.unreachable-requires-in_default-attribute
unreachable-requires-in_default-attribute c =
    let m = recs (records_in c.args.«module».now.bytes) in
    attribute-there m (c.loop-before.before + 1) (omega arith) (omega (arith, c.loop-before-test.true, c.loop-before.invariant.end)) (sym c.attribute.ensures ∙ c.in_default-attribute.is)

pub loop-before-preserved : goal.loop-before-preserved
loop-before-preserved c =
    let m = recs (records_in c.args.«module».now.bytes) in
    let j = c.loop-before.before in
    let f = lying c.args.number (m, c.args.placement.now) in
    let s = c.in-Some.segment in
    let a = c.in-Some-attribute.attribute in
    let next = next-numbered 1 (segments m) (attributes m) j s a (sym (entry-at (segments m) j) ∙ sym c.segment.ensures ∙ c.in-Some.is) (sym (entry-at (attributes m) j) ∙ sym c.attribute.ensures ∙ c.in-Some-attribute.is) in
    let number : j + 1 ≡ 1 + j = omega arith in
    let same = c.span_of.ensures c.in_ok-raised.ensures ∙ ap (λ i. f (i, (s, a))) number in
    record {
      added = more-mapped seen f c.loop-before.spans.items c.push.new.self.items _ _ _ (1 + j, (s, a)) _ c.in_ok-push.ensures.items next same c.loop-before.invariant.added;
      end = c.loop-before.invariant.end;
    }

pub returns : goal.returns
returns c =
    let m = recs (records_in c.args.«module».now.bytes) in
    all-mapped seen (lying c.args.number (m, c.args.placement.now)) c.loop-before.spans.items _ _
    (none-numbered 1 (segments m) (attributes m) c.loop-before.before (omega (arith, c.loop-before-test.false, c.segments-before-end.ensures.count))) c.loop-before.invariant.added
