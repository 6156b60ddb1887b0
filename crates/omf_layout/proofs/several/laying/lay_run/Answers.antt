use Rattle.std.proofs.Common.{◌≡◌, ap, sym, subst, ◌∙◌, rules}
use Rattle.omf_records.specs.Inner.Seen.{map_ok}
use Rattle.omf_layout.specs.Layout.{IsAnswer, and_then_more, all_laid}
use Rattle.omf_layout.specs.Several.Laying.{laid, and_then_after, joined_laid, common_laid, alone_laid, run_laid}
use Rattle.omf_layout.specs.Several.Order.{combined_by}
use Rattle.omf_layout.specs.declared.several.portion.Combination.TheVariants.{Joined, Common, Alone}
use Rattle.omf_layout.proofs.SeveralLaws.LayingLaws.{then-after}
use Rattle.omf_layout.proofs.several.laying.lay_run.Goals as goal

pub returns-clause-answer : goal.returns-clause-answer
returns-clause-answer c =
    let frames = c.args.options.frames in
    let run = c.args.run.now in
    let before = c.args.lying.now.items in
    let joined : c.deref.result.now ≡ combined_by Joined run = search rules in
    let common : c.deref-2.result.now ≡ combined_by Common run = search rules in
    let alone : c.deref-3.result.now ≡ combined_by Alone run = search rules in
    let first = ap (λ ps. and_then_more before (joined_laid frames c.args.free ps)) (sym joined) ∙ c.in_ok-free.ensures.answer in
    let second = ap (λ ps. and_then_more c.lay_joined.new.lying.items (common_laid frames c.in_ok-free.free ps)) (sym common) ∙ c.in_ok-free-2.ensures.answer in
    let whole : and_then_more before (run_laid frames c.args.free run) ≡ and_then_more c.lay_common.new.lying.items (all_laid (alone_laid frames) c.in_ok-free-2.free c.deref-3.result.now) =
    then-after before _ _ (joined_laid frames c.args.free (combined_by Joined run)) (λ after. and_then_after (common_laid frames after (combined_by Common run)) (λ last. all_laid (alone_laid frames) last (combined_by Alone run))) first
    ∙ then-after c.lay_joined.new.lying.items _ _ (common_laid frames c.in_ok-free.free (combined_by Common run)) (λ last. all_laid (alone_laid frames) last (combined_by Alone run)) second
    ∙ ap (λ ps. and_then_more c.lay_common.new.lying.items (all_laid (alone_laid frames) c.in_ok-free-2.free ps)) (sym alone) in
    subst (λ o. IsAnswer o (map_ok (laid c.lay_alone.new.lying.items) c.lay_alone.result)) (sym whole) c.lay_alone.ensures.answer
