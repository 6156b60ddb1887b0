use Rattle.std.proofs.Common.{◌≡◌, ◌+◌, ◌≤◌, ◌∙◌, ap, sym, arith}
use Rattle.std.specs.Prelude.{option_map}
use Rattle.omf_check.specs.Module.{records_in}
use Rattle.omf_check.specs.WellFormed.{recs}
use Rattle.omf_reloc.specs.Reach.{entries}
use Rattle.omf_linking.specs.Inner.KeyTables.{name_text, written}
use Rattle.omf_linking.specs.Locator.Keys.{count_from}
use Rattle.omf_linking.proofs.KeyTableLaws.{all-numbers, next-number, none-yet}
use Rattle.omf_linking.proofs.locator.tables.KeyTable.of_names.Goals as goal

pub loop-before-init : goal.loop-before-init
loop-before-init c =
    let m = recs (records_in c.args.«module».now.bytes) in
    record { end = c.entry_count-before-end.ensures.count; low = omega arith; table = none-yet (name_text m c.args.kind) c.new.result c.new.ensures.empty }

pub loop-before-preserved : goal.loop-before-preserved
loop-before-preserved c =
    let m = recs (records_in c.args.«module».now.bytes) in
    let k = c.loop-before.before in
    let texts = name_text m c.args.kind in
    let own : texts (c.from.result + 1) ≡ option_map (λ t. t.items) c.in_ok-text.text = ap (λ i. texts (i + 1)) c.from.ensures ∙ sym (c.in_ok-text.ensures ∙ ap written c.entry_name.ensures) in
    record {
      end = c.loop-before.invariant.end;
      low = omega (arith, c.loop-before-test.true);
      table = next-number texts 1 k (c.from.result + 1) c.add.new.self.by_text (omega (arith, c.from.ensures)) (c.in_ok-add.ensures texts (count_from 1 k) own c.loop-before.invariant.table);
    }

pub returns : goal.returns
returns c =
    let m = recs (records_in c.args.«module».now.bytes) in
    let n = c.loop-before.before in
    let inv = c.loop-before.invariant in
    let low : n ≤ entries m c.args.kind = omega (arith, inv.low, inv.end) in
    let high : entries m c.args.kind ≤ n = omega (arith, c.loop-before-test.false, inv.end) in
    all-numbers (name_text m c.args.kind) 1 n (entries m c.args.kind) c.loop-before.table.by_text low high inv.table
