use Rattle.std.proofs.Common.{ap, sym, subst, ◌∙◌}
use Rattle.omf_records.specs.Inner.Seen.{map_ok}
use Rattle.omf_layout.specs.Layout.{IsAnswer, and_then_more, all_laid}
use Rattle.omf_layout.specs.Several.Laying.{laid, joined_in}
use Rattle.omf_layout.proofs.SeveralLaws.LayingLaws.{joined-from}
use Rattle.omf_layout.proofs.several.laying.lay_joined.Goals as goal

pub returns-in-Some-clause-answer : goal.returns-in-Some-clause-answer
returns-in-Some-clause-answer c =
    let frames = c.args.options.frames in
    let same = joined-from frames c.args.free c.args.portions.now _ _ c.in-Some.address c.in-len1-up.len_at_least c.bytes-alignment.ensures.value c.in-Some.ensures.value in
    let framed = ap (λ f. all_laid (joined_in frames f) c.args.free c.args.portions.now) (sym c.frame_at-frame.ensures) in
    subst (λ o. IsAnswer (and_then_more c.args.lying.now.items o) (map_ok (laid c.lay_in_frame.new.lying.items) c.lay_in_frame.result)) (sym (same ∙ framed)) c.lay_in_frame.ensures.answer
