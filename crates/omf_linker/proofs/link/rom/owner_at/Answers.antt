use Rattle.std.proofs.Common.{◌∙◌, List, ap}
use Rattle.std.specs.Prelude.{zip}
use Rattle.omf_check.specs.Module.{typed_modules}
use Rattle.omf_linking.proofs.SegmentsLaws.{images_stored}
use Rattle.omf_linking.specs.Segments.{all_segments, with_images}
use Rattle.omf_linking.specs.Space.Segments.{SegmentAt, segments_at}
use Rattle.omf_linker.specs.Link.Rom.{first_owner}
use Rattle.omf_linker.proofs.link.rom.owner_at.Goals as goal

pub returns : goal.returns
returns c =
    let ms = typed_modules c.args.modules.now in
    let at = c.args.stored.now in
    let own = λ (ss : List SegmentAt). first_owner ss c.args.address in
    c.first_owner.ensures ∙ ap (λ v. own (segments_at v)) c.deref-2.ensures.value ∙ ap own c.in_ok-segments.ensures ∙ ap (λ rs. own (all_segments (with_images (zip ms at) rs))) c.deref.ensures.value
    ∙ ap (λ xs. own (all_segments xs)) (images_stored ms c.args.placements.now at c.in_ok-relocated.relocated.items c.in_ok-relocated.ensures.relocated)
