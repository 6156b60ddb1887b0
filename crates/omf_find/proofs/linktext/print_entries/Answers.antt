use Rattle.std.proofs.Common.{◌≡◌, ℕ, ◌+◌, ◌-◌, ◌<◌, ◌++◌, ◌∙◌, ap, arith}
use Rattle.std.specs.Prelude.{flat_map, string_bytes}
use Rattle.std.specs.List.{range_with_len}
use Rattle.omf_check.specs.Module.{records_in}
use Rattle.omf_check.specs.WellFormed.{recs}
use Rattle.omf_linking.specs.Locator.KeyForms.{key_form}
use Rattle.omf_reloc.specs.Reach.{entries}
use Rattle.omf_find.specs.LinkText.{entry_line, entry_lines, line_by}
use Rattle.omf_find.proofs.PartLaws.{more_lines, all_lines}
use Rattle.omf_find.proofs.linktext.print_entries.Goals as goal

pub loop-before-init : goal.loop-before-init
loop-before-init c =
    let m = recs (records_in c.args.«module».now.bytes) in
    let n = entries m c.args.kind in
    let all : n - 0 ≡ n = omega arith in
    record {
      end = c.entry_count-before-end.ensures.count;
      lines = ap (λ (k : ℕ). string_bytes c.args.text.now ++ flat_map (entry_line m c.args.placement.now c.args.kind) (range_with_len 1 k)) all;
    }

pub loop-before-preserved : goal.loop-before-preserved
loop-before-preserved c =
    let m = recs (records_in c.args.«module».now.bytes) in
    let kind = c.args.kind in
    let pl = c.args.placement.now in
    let j = c.loop-before.before in
    let low : j < entries m kind = omega (arith, c.loop-before-test.true, c.loop-before.invariant.end) in
    let form : c.form.result ≡ key_form m kind (j + 1) = c.form.ensures m kind c.requires (omega arith) (omega (arith, low)) in
    record {
      end = c.loop-before.invariant.end;
      lines = more_lines (entry_line m pl kind) (string_bytes c.args.text.now ++ entry_lines m pl kind) _ _ j (entries m kind) low
          (c.in_ok-print_entry.ensures ∙ ap (λ f. string_bytes c.loop-before.text ++ line_by m pl kind f (j + 1)) form) c.loop-before.invariant.lines;
    }

pub returns : goal.returns
returns c =
    let m = recs (records_in c.args.«module».now.bytes) in
    let kind = c.args.kind in
    let pl = c.args.placement.now in
    all_lines (entry_line m pl kind) (string_bytes c.args.text.now ++ entry_lines m pl kind) _ c.loop-before.before (entries m kind)
    (omega (arith, c.loop-before-test.false, c.loop-before.invariant.end)) c.loop-before.invariant.lines
