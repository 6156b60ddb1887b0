use Rattle.std.proofs.Common.{append-nil, arith, map, sym}
use Rattle.std.specs.Prelude.{string_bytes}
use Rattle.omf_linker.proofs.LabelLaws.{all_labels, label_more}
use Rattle.omf_linker.proofs.link.labels.add_labels.Goals as goal

pub loop-before-init : goal.loop-before-init
loop-before-init c = record { low = omega arith; held = sym (append-nil (map string_bytes c.args.labels.now.items)) }

pub loop-before-preserved : goal.loop-before-preserved
loop-before-preserved c = record {
  low = omega (arith, c.loop-before-test.true);
  held = label_more c.loop-before.labels.items c.push.new.self.items (map string_bytes c.args.labels.now.items) c.args.name.now c.loop-before.before _ c.loop-before.invariant.held c.in_ok-push.ensures.items c.in_ok-module_label.ensures;
}

pub returns : goal.returns
returns c =
    all_labels (map string_bytes c.loop-before.labels.items) (map string_bytes c.args.labels.now.items) c.args.name.now c.loop-before.before c.args.count c.loop-before.invariant.low c.loop-before-test.false c.loop-before.invariant.held
