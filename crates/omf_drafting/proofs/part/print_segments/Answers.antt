use Rattle.std.proofs.Common.{◌≡◌, ◌+◌, ◌++◌, ◌∙◌, ap₂, refl, sym, arith, rules}
use Rattle.std.specs.Prelude.{Some, string_bytes}
use Rattle.std.specs.List.{zip}
use Rattle.omf_check.specs.Module.{records_in}
use Rattle.omf_check.specs.Tables.{segments, entry}
use Rattle.omf_check.specs.WellFormed.{recs}
use Rattle.omf_layout.specs.Reading.{IsShortPlace}
use Rattle.omf_layout.proofs.Printed.{more-printed, all-printed, none-so-far, more-hold, all-hold, entry-zip, zip-short}
use Rattle.omf_linking.specs.Locator.KeyForms.{key_form}
use Rattle.omf_linking.proofs.SharingLaws.{entry-mapped}
use Rattle.omf_reloc.specs.declared.fault.Kind.TheVariants as kinds
use Rattle.omf_drafting.specs.Text.{segment_line, segment_line_by}
use Rattle.omf_drafting.proofs.part.print_segments.Goals as goal

pub loop-before-init : goal.loop-before-init
loop-before-init c = record { end = c.segments-before-end.ensures.count; lines = λ shares e. record { whole = refl }; short = none-so-far IsShortPlace c.args.part.now.placement.now.segments }

pub loop-before-preserved : goal.loop-before-preserved
loop-before-preserved c =
    let m = recs (records_in c.args.«module».now.bytes) in
    let part = c.args.part.now in
    let ps = part.placement.now.segments in
    let items = part.shares.now.segments.items in
    let xs = c.args.alignments.now in
    let j = c.loop-before.before in
    let told : entry (segments m) (j + 1) ≡ Some c.in-Some.segment = sym c.in-Some.ensures in
    let aligned : entry xs (j + 1) ≡ Some c.in-Some-entry_of.alignment = search rules in
    let here : entry ps (j + 1) ≡ Some c.in-Some-segment.place = search rules in
    let said : entry items (j + 1) ≡ Some c.in-Some-entry_of-2.shared = search rules in
    let short : IsShortPlace c.in-Some-segment.place = c.in_ok-print_segment.ensures.short in
    let form : c.form-form.result ≡ key_form m kinds.Segment (j + 1)
    = c.form-form.ensures m kinds.Segment c.requires.keys (omega arith) (omega (arith, c.loop-before-test.true, c.loop-before.invariant.end)) in
    record {
      end = c.loop-before.invariant.end;
      lines = λ shares e. more-printed (segment_line part.frames shares m) (zip (zip (segments m) xs) ps) j _ _ _ _ (c.loop-before.invariant.lines shares e)
          (entry-zip (zip (segments m) xs) ps j _ _ (entry-zip (segments m) xs j _ _ told aligned) here)
          (c.in_ok-print_segment.ensures.line
          ∙ ap₂ (λ f b. string_bytes c.loop-before.text ++ segment_line_by part.frames m f b (j + 1, ((c.in-Some.segment, c.in-Some-entry_of.alignment), c.in-Some-segment.place))) form
          (entry-mapped (λ y. shares y.0 y.1.frame) ps items j c.in-Some-segment.place c.in-Some-entry_of-2.shared e here said));
      short = more-hold IsShortPlace ps j _ c.loop-before.invariant.short here short;
    }

pub returns-clause-few : goal.returns-clause-few
returns-clause-few c = omega (arith, c.segments-before-end.ensures.count, c.segments-before-end.ensures.bounded)

pub returns-clause-short : goal.returns-clause-short
returns-clause-short c =
    all-hold IsShortPlace c.args.part.now.placement.now.segments c.loop-before.before
    (omega (arith, c.loop-before-test.false, c.loop-before.invariant.end, c.requires.placed)) c.loop-before.invariant.short

pub returns-clause-lines : goal.returns-clause-lines
returns-clause-lines c = λ shares e.
    let m = recs (records_in c.args.«module».now.bytes) in
    let part = c.args.part.now in
    let ps = part.placement.now.segments in
    let xs = c.args.alignments.now in
    all-printed (segment_line part.frames shares m) (zip (zip (segments m) xs) ps) c.loop-before.before _ _
    (omega (arith, c.loop-before-test.false, c.loop-before.invariant.end, zip-short (zip (segments m) xs) ps, zip-short (segments m) xs)) (c.loop-before.invariant.lines shares e)
