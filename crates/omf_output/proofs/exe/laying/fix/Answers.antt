use Rattle.std.proofs.Common.{◌+◌, ◌∙◌, ℕ, ap, length}
use Rattle.omf_records.specs.Values.{location_offset}
use Rattle.omf_reloc.specs.Inner.Widths.{fixupp_type}
use Rattle.omf_reloc.specs.Plain.{PlainFixup}
use Rattle.omf_output.specs.Exe.Memory.{segment_address}
use Rattle.omf_output.proofs.LayingLaws.{room-in}
use Rattle.omf_output.proofs.exe.laying.fix.Goals as goal

pub add_to-requires : goal.add_to-requires
add_to-requires c =
    let pl = c.args.placement.now in
    let f : ℕ × PlainFixup = (fixupp_type c.args.width, c.args.fixup.now) in
    let place = c.from.ensures ∙ c.offset.ensures ∙ ap (λ (x : PlainFixup). location_offset x.locat) c.fixup.view_is in
    room-in pl c.args.source.0 c.args.source.1 f c.in-Ok.additions (c.segment_address.result + c.args.source.1 + c.from.result) (length c.args.image.now) c.in-Ok.ensures
    (ap (λ (n : ℕ). n + c.args.source.1 + c.from.result) c.segment_address.ensures.value ∙ ap (λ (n : ℕ). segment_address pl c.args.source.0 + c.args.source.1 + n) place) c.requires
