use Rattle.std.proofs.Common.{◌≡◌, ◌+◌, ◌∷◌, [], ap, drop, subst}
use Rattle.omf_output.specs.Exe.Linked.{words_from}
use Rattle.omf_output.specs.Exe.Members.{all_moving}
use Rattle.omf_output.specs.Exe.Overlaps.{AddInTurn}
use Rattle.omf_placement.proofs.StepLaws.{next_item}
use Rattle.omf_output.proofs.Steps.{turn-more, words-more}
use Rattle.omf_output.proofs.exe.link.words_of.Goals as goal

pub loop-member-init : goal.loop-member-init
loop-member-init c = record { found = ap (words_from c.args.members.now) c.new-words.ensures; adds = λ out h. subst (λ ws. AddInTurn (all_moving c.args.members.now) ws out) c.new-words.ensures h }

pub loop-member-preserved : goal.loop-member-preserved
loop-member-preserved c =
    let ms = c.args.members.now in
    let i = c.loop-member.member-index in
    let m = c.member-item.result in
    let next : drop i ms ≡ m ∷ drop (i + 1) ms = next_item ms i m c.member-item.is c.loop-member-test.true in
    record {
      found = words-more m (drop (i + 1) ms) (drop i ms) c.loop-member.words c.in_ok-words.words _ next c.in_ok-words.ensures.found c.loop-member.invariant.found;
      adds = turn-more m (drop (i + 1) ms) (drop i ms) c.loop-member.words c.in_ok-words.words (AddInTurn (all_moving ms) []) next c.in_ok-words.ensures.adds c.loop-member.invariant.adds;
    }
