use Rattle.std.proofs.Common.{◌≡◌, ◌∷◌, ◌∙◌, ap, arith, length, sym}
use Rattle.std.proofs.lemmas.List.{nil_from_length}
use Rattle.std.specs.Vec.Iter.{into_iter_items}
use Rattle.omf_exe.specs.Lowered.{IsTakenOf}
use Rattle.omf_exe.proofs.MemberFolds.{paired-end, paired-more}
use Rattle.omf_exe.proofs.lowered.taken_members.Goals as goal

pub loop-member-preserved : goal.loop-member-preserved
loop-member-preserved c =
    let steps : into_iter_items c.loop-member.member-iterator ≡ c.in-Some.member ∷ into_iter_items c.next.new.self = c.in-Some.ensures.steps.0 in
    let gone = c.in-Some.ensures.steps.1 in
    record {
      size = omega (arith, ap length steps, gone, c.loop-member.invariant.size);
      held = paired-more (IsTakenOf c.args.bytes.now) c.args.members.items _ _ c.loop-member.all.items c.push.new.self.items c.in-Some.member c.in_ok-taken_member.field-0 c.loop-member.invariant.held steps c.in_ok-taken_member.ensures
          c.in_ok-push.ensures.items;
    }

pub returns : goal.returns
returns c =
    let left = into_iter_items c.loop-member.member-iterator in
    paired-end (IsTakenOf c.args.bytes.now) c.args.members.items left c.loop-member.all.items c.loop-member.invariant.held (nil_from_length left (sym c.loop-member.invariant.size ∙ c.in-None.ensures.steps.0))
