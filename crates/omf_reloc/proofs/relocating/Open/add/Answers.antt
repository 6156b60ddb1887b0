use Rattle.std.proofs.Common.{◌∙◌, ap, length}
use Rattle.omf_image.specs.Overlay.{Laid}
use Rattle.omf_records.specs.Values.{location_offset}
use Rattle.omf_reloc.specs.Offsets.{outcome_at}
use Rattle.omf_reloc.specs.Inner.Widths.{fixupp_type}
use Rattle.omf_reloc.specs.Plain.{PlainFixup}
use Rattle.omf_reloc.proofs.PatchLaws.{room-for}
use Rattle.omf_reloc.proofs.relocating.Open.add.Goals as goal

pub add_to-requires : goal.add_to-requires
add_to-requires c =
    let l : Laid = c.args.self.now in
    let pl = c.args.placement.now in
    let kind = fixupp_type c.args.width in
    let f : PlainFixup = c.args.fixup.now in
    room-for pl l.segment l.offset (length l.bytes) (kind, f) c.in-Ok.additions c.from-position.result (length c.deref_mut.result.now)
    (c.in-Ok.ensures ∙ ap (λ (x : Laid). outcome_at pl x.segment x.offset (kind, f)) c.self.view_is) c.requires
    (c.from-position.ensures ∙ c.offset.ensures ∙ ap (λ (x : PlainFixup). location_offset x.locat) c.fixup.view_is)
    (ap length c.deref_mut.ensures.value ∙ ap (λ (x : Laid). length x.bytes) c.self.view_is)
