use Rattle.std.proofs.Common.{◌≡◌, refl, sym, subst, rules}
use Rattle.std.specs.Prelude.{Ok, Err, zip}
use Rattle.omf_check.specs.Module.{typed_modules}
use Rattle.omf_linking.specs.Faults.{of_memory}
use Rattle.omf_linking.specs.LinkedMemory.{IsLinkedMemory}
use Rattle.omf_linking.specs.Segments.{all_segments, stored_images, with_images}
use Rattle.omf_linking.proofs.SegmentsLaws.{linked_fault, stored_memory}
use Rattle.omf_linking.proofs.memory.memory_image.Goals as goal

pub returns-in_err-image-clause-stored : goal.returns-in_err-image-clause-stored
returns-in_err-image-clause-stored c pls h =
    let ms = typed_modules c.args.modules.now in
    let at = c.args.placements.now in
    let all = all_segments (with_images (zip ms at) c.args.relocated.now) in
    let f = c.in_err-image.field-0.0 in
    let same : c.from_residual.result ≡ Err (of_memory f) = search rules in
    subst (IsLinkedMemory (all_segments (stored_images (zip ms pls) at))) (sym same) (stored_memory ms pls at c.args.relocated.now (Err (of_memory f)) (linked_fault all all f refl c.in_err-image.ensures) h)

pub returns-clause-stored : goal.returns-clause-stored
returns-clause-stored c pls h = stored_memory (typed_modules c.args.modules.now) pls c.args.placements.now c.args.relocated.now (Ok c.in_ok-image.image) c.in_ok-image.ensures h
