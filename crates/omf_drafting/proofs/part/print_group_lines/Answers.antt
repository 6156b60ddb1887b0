use Rattle.std.proofs.Common.{◌≡◌, ◌+◌, ◌++◌, ◌∙◌, ap₂, refl, arith, rules}
use Rattle.std.specs.Prelude.{Some, string_bytes}
use Rattle.omf_check.specs.Module.{records_in}
use Rattle.omf_check.specs.Tables.{entry}
use Rattle.omf_check.specs.WellFormed.{recs}
use Rattle.omf_layout.specs.Reading.{IsShortFrame}
use Rattle.omf_layout.proofs.Printed.{more-printed, all-printed, none-so-far, more-hold, all-hold}
use Rattle.omf_linking.specs.Locator.KeyForms.{key_form}
use Rattle.omf_linking.proofs.SharingLaws.{entry-mapped}
use Rattle.omf_reloc.specs.declared.fault.Kind.TheVariants as kinds
use Rattle.omf_drafting.specs.Text.{group_line, group_line_by}
use Rattle.omf_drafting.proofs.part.print_group_lines.Goals as goal

pub loop-before-init : goal.loop-before-init
loop-before-init c = record { end = c.groups-before-end.ensures.count; lines = λ shares e. record { whole = refl }; short = none-so-far IsShortFrame c.args.part.now.placement.now.groups }

pub loop-before-preserved : goal.loop-before-preserved
loop-before-preserved c =
    let m = recs (records_in c.args.«module».now.bytes) in
    let fs = c.args.part.now.placement.now.groups in
    let items = c.args.part.now.shares.now.groups.items in
    let j = c.loop-before.before in
    let framed : entry fs (j + 1) ≡ Some c.in-Some.frame = search rules in
    let said : entry items (j + 1) ≡ Some c.in-Some-entry_of.shared = search rules in
    let short : IsShortFrame c.in-Some.frame = c.in_ok-print_group.ensures.short in
    let form : c.form.result ≡ key_form m kinds.Group (j + 1)
    = c.form.ensures m kinds.Group c.in_ok-keys.ensures (omega arith) (omega (arith, c.loop-before-test.true, c.loop-before.invariant.end)) in
    record {
      end = c.loop-before.invariant.end;
      lines = λ shares e. more-printed (group_line shares m) fs j _ _ _ _ (c.loop-before.invariant.lines shares e) framed
          (c.in_ok-print_group.ensures.line
          ∙ ap₂ (λ f b. string_bytes c.loop-before.text ++ group_line_by m f b (j + 1) c.in-Some.frame) form
          (entry-mapped (λ y. shares y.0 y.1) fs items j c.in-Some.frame c.in-Some-entry_of.shared e framed said));
      short = more-hold IsShortFrame fs j _ c.loop-before.invariant.short framed short;
    }

pub returns-clause-few : goal.returns-clause-few
returns-clause-few c = omega (arith, c.groups-before-end.ensures.count, c.groups-before-end.ensures.bounded)

pub returns-clause-short : goal.returns-clause-short
returns-clause-short c =
    all-hold IsShortFrame c.args.part.now.placement.now.groups c.loop-before.before
    (omega (arith, c.loop-before-test.false, c.loop-before.invariant.end, c.requires.placed)) c.loop-before.invariant.short

pub returns-clause-lines : goal.returns-clause-lines
returns-clause-lines c = λ shares e.
    let m = recs (records_in c.args.«module».now.bytes) in
    all-printed (group_line shares m) c.args.part.now.placement.now.groups c.loop-before.before _ _
    (omega (arith, c.loop-before-test.false, c.loop-before.invariant.end, c.requires.placed)) (c.loop-before.invariant.lines shares e)
