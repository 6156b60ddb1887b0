use Rattle.std.proofs.Common.{ap, sym, ◌∙◌, arith}
use Rattle.std.specs.Prelude.{slice_get, option_map}
use Rattle.omf_check.specs.Module.{records_in}
use Rattle.omf_check.specs.Tables.{segments}
use Rattle.omf_check.specs.WellFormed.{recs}
use Rattle.omf_layout.specs.Layout.{segment_laid, segments_laid}
use Rattle.omf_layout.specs.Inner.Spots.{segments_alone, spot_laid}
use Rattle.omf_layout.specs.Wants.{alignments}
use Rattle.omf_layout.proofs.LaidLaws.{next-laid, not-laid, are-laid}
use Rattle.omf_placement.proofs.ListLaws.{entry-at, next-pair, no-pair}
use Rattle.omf_layout.proofs.LaidLaws.{alone-same}
use Rattle.omf_layout.proofs.laying.lay_segments.Goals as goal

pub returns-in_default-segment_spot-clause-answer : goal.returns-in_default-segment_spot-clause-answer
returns-in_default-segment_spot-clause-answer c =
    let m = recs (records_in c.args.«module».now.bytes) in
    let j = c.loop-before.before in
    let next = next-pair (segments m) (alignments m) j c.in-Some.segment c.alignment_at-alignment.result (sym (entry-at (segments m) j) ∙ sym c.segment.ensures ∙ c.in-Some.is) (ap (λ xs. slice_get xs j) (sym c.requires.all) ∙ c.alignment_at-alignment.ensures) in
    ap (option_map segments_alone) (not-laid (segment_laid c.args.options.frames) c.loop-before.placement.segments c.loop-before.free _ _ _ (segments_laid c.args.options m) next (sym c.in_default-segment_spot.ensures.value) c.loop-before.invariant.laid)

pub loop-before-preserved : goal.loop-before-preserved
loop-before-preserved c =
    let m = recs (records_in c.args.«module».now.bytes) in
    let j = c.loop-before.before in
    let next = next-pair (segments m) (alignments m) j c.in-Some.segment c.alignment_at-alignment.result (sym (entry-at (segments m) j) ∙ sym c.segment.ensures ∙ c.in-Some.is) (ap (λ xs. slice_get xs j) (sym c.requires.all) ∙ c.alignment_at-alignment.ensures) in
    let pushed = c.in_ok-push_segment.ensures.ok in
    record {
      laid = next-laid (segment_laid c.args.options.frames) c.loop-before.placement.segments c.push_segment.new.self.segments c.loop-before.free _ _ _ (spot_laid c.in-Some-segment_spot.spot) (segments_laid c.args.options m) next
          (sym c.in-Some-segment_spot.ensures.value) (ap (λ p. p.segments) pushed) c.loop-before.invariant.laid;
      end = c.loop-before.invariant.end;
      groups = ap (λ p. p.groups) pushed ∙ c.loop-before.invariant.groups;
      externals = ap (λ p. p.externals) pushed ∙ c.loop-before.invariant.externals;
      low = c.in-Some-segment_spot.ensures.low;
      from = omega (arith, c.loop-before.invariant.from, c.in-Some-segment_spot.ensures.high);
    }

pub returns-clause-answer : goal.returns-clause-answer
returns-clause-answer c =
    let m = recs (records_in c.args.«module».now.bytes) in
    ap (option_map segments_alone) (are-laid (segment_laid c.args.options.frames) c.loop-before.placement.segments c.loop-before.free _ (segments_laid c.args.options m)
    (no-pair (segments m) (alignments m) c.loop-before.before (omega (arith, c.loop-before-test.false, c.segments-before-end.ensures.count))) c.loop-before.invariant.laid)
    ∙ alone-same c.loop-before.placement c.loop-before.free c.loop-before.invariant.groups c.loop-before.invariant.externals
