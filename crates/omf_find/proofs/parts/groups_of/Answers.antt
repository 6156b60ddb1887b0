use Rattle.std.proofs.Common.{◌≡◌, ◌+◌, ◌++◌, ◌∷◌, [], ◌∙◌, sym, ap, arith, rules}
use Rattle.std.specs.Prelude.{Some}
use Rattle.omf_check.specs.Tables.{entry}
use Rattle.omf_find.proofs.PartLaws.{one_more_entry, all_entries}
use Rattle.omf_find.proofs.parts.groups_of.Goals as goal

pub loop-before-init : goal.loop-before-init
loop-before-init c = record { end = c.group_count-before-end.ensures; made = search rules }

pub loop-before-preserved : goal.loop-before-preserved
loop-before-preserved c =
    let xs = c.args.placement.now.groups in
    let here : entry xs (c.loop-before.before + 1) ≡ Some c.in-Some.frame = search rules in
    record {
      end = c.loop-before.invariant.end;
      made = c.in_ok-push.ensures.items ∙ ap (λ t. t ++ c.in-Some.frame ∷ []) c.loop-before.invariant.made ∙ sym (one_more_entry xs c.loop-before.before c.in-Some.frame here);
    }

pub returns : goal.returns
returns c = c.loop-before.invariant.made ∙ all_entries c.args.placement.now.groups c.loop-before.before (omega (arith, c.loop-before-test.false, c.loop-before.invariant.end))
