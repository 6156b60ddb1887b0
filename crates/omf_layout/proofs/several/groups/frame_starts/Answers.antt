use Rattle.std.proofs.Common.{◌++◌, ◌∙◌, ap, append-nil, sym}
use Rattle.std.specs.Prelude.{map}
use Rattle.std.proofs.lemmas.Option.{slice_get-get_or}
use Rattle.std.proofs.lemmas.List.{drop_all}
use Rattle.omf_placement.proofs.ListLaws.{next-at}
use Rattle.omf_layout.specs.Several.Placing.{at_frame}
use Rattle.omf_layout.proofs.SeveralLaws.LowLaws.{more-of}
use Rattle.omf_layout.proofs.several.groups.frame_starts.Goals as goal

pub loop-place-preserved : goal.loop-place-preserved
loop-place-preserved c =
    let xs = c.args.places.now in
    let j = c.loop-place.place-index in
    more-of at_frame c.loop-place.starts.items c.push.new.self.items c.at_frame.result _ _ _ _ c.in_ok-push.ensures.items c.at_frame.ensures
    (next-at xs j _ (slice_get-get_or xs j _ c.loop-place-test.true)) c.loop-place.invariant

pub returns : goal.returns
returns c =
    sym (append-nil c.loop-place.starts.items)
    ∙ ap (λ ys. c.loop-place.starts.items ++ map at_frame ys) (sym (drop_all c.loop-place.place-index c.args.places.now c.loop-place-test.false))
    ∙ c.loop-place.invariant
