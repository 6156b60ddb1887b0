use Rattle.std.proofs.Common.{◌≡◌, ◌+◌, ◌∷◌, ◌∙◌, ap, drop, map, max, sym}
use Rattle.std.specs.Prelude.{fold}
use Rattle.omf_output.specs.Exe.Members.{all_moving}
use Rattle.omf_output.specs.Exe.Memory.{all_chunks, chunk_end}
use Rattle.omf_placement.proofs.StepLaws.{next_item, none_left}
use Rattle.omf_output.proofs.Steps.{all-taken, end-more, take-more}
use Rattle.omf_output.proofs.exe.laying.data_end.Goals as goal

pub loop-member-preserved : goal.loop-member-preserved
loop-member-preserved c =
    let ms = c.args.members.now in
    let i = c.loop-member.member-index in
    let m = c.member-item.result in
    let next : drop i ms ≡ m ∷ drop (i + 1) ms = next_item ms i m c.member-item.is c.loop-member-test.true in
    record {
      same = end-more m (drop (i + 1) ms) (drop i ms) c.loop-member.end c.with_member-end.result _ next c.with_member-end.ensures.holds c.with_member-end.ensures.end c.loop-member.invariant.same;
      hold = take-more ms i m next c.loop-member.invariant.hold c.with_member-end.ensures.holds;
    }

pub returns-clause-end : goal.returns-clause-end
returns-clause-end c =
    let ms = c.args.members.now in
    sym (ap (λ l. fold max c.loop-member.end (map chunk_end (all_chunks (all_moving l)))) (none_left ms c.loop-member.member-index c.loop-member-test.false)) ∙ c.loop-member.invariant.same

pub returns-clause-hold : goal.returns-clause-hold
returns-clause-hold c = all-taken c.args.members.now c.loop-member.member-index c.loop-member-test.false c.loop-member.invariant.hold
