use Rattle.std.proofs.Common.{◌+◌, ◌≤◌, ◌∙◌, ap, refl, arith}
use Rattle.omf_check.specs.Module.{records_in}
use Rattle.omf_check.specs.WellFormed.{recs}
use Rattle.omf_reloc.specs.Reach.{entries}
use Rattle.omf_reloc.specs.declared.fault.Kind.TheVariants.{Group}
use Rattle.omf_linking.specs.Locator.Keys.{entry_name, is_written}
use Rattle.omf_linking.proofs.PartLaws.{all-groups, next-group, no-groups}
use Rattle.omf_linking.proofs.locator.parts.add_groups.Goals as goal

pub loop-before-init : goal.loop-before-init
loop-before-init c = record { end = c.entry_count-before-end.ensures.count; low = omega arith; here = no-groups c.args.groups.now.items c.args.number }

pub loop-before-preserved : goal.loop-before-preserved
loop-before-preserved c =
    let m = recs (records_in c.args.«module».now.bytes) in
    let k = c.loop-before.before in
    record {
      end = c.loop-before.invariant.end;
      low = omega (arith, c.loop-before-test.true);
      here = next-group c.args.groups.now.items c.loop-before.groups.items c.add_if.new.groups.items c.args.number k (k + 1) (λ i. is_written c.args.name.now (entry_name m Group i)) c.in_ok-named.named
          c.loop-before.invariant.here c.in_ok-add_if.ensures (c.in_ok-named.ensures ∙ ap (is_written c.args.name.now) c.entry_name.ensures) refl;
    }

pub returns : goal.returns
returns c =
    let m = recs (records_in c.args.«module».now.bytes) in
    let n = c.loop-before.before in
    let inv = c.loop-before.invariant in
    let low : n ≤ entries m Group = omega (arith, inv.low, inv.end) in
    let high : entries m Group ≤ n = omega (arith, c.loop-before-test.false, inv.end) in
    all-groups c.args.groups.now.items c.loop-before.groups.items c.args.number n (entries m Group) (λ i. is_written c.args.name.now (entry_name m Group i)) low high inv.here
