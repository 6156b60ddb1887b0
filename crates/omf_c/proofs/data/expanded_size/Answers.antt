use Rattle.std.proofs.Common.{◌∙◌, sym, ap, subst, length}
use Rattle.std.specs.Prelude.{IsOk}
use Rattle.omf_records.specs.Inner.Seen.{odd_if}
use Rattle.omf_records.specs.Values.{width}
use Rattle.omf_frame.specs.Types.{width_bytes}
use Rattle.omf_image.specs.Inner.Expanding.{expanded, expanded_length}
use Rattle.omf_image.specs.Limits.{profile_limits}
use Rattle.omf_reloc.proofs.MeasureLaws.{by-width, never-err, length-is}
use Rattle.omf_c.proofs.data.expanded_size.Goals as goal

pub unreachable-requires : goal.unreachable-requires
unreachable-requires c =
    let b = c.args.blocks in
    never-err (expanded_length (width_bytes b.width) c.profile.result b.bytes.now) _ c.in-Err.ensures.length
    (subst (λ w. IsOk (expanded_length w c.profile.result b.bytes.now)) (by-width b.width)
    (subst (λ l. IsOk (expanded_length (width (odd_if b.width 0xA2)) l b.bytes.now)) (sym c.profile.ensures) c.requires.fits))

pub returns : goal.returns
returns c =
    let b = c.args.blocks in
    c.from.ensures ∙ length-is (width_bytes b.width) c.in-Ok.len c.profile.result b.bytes.now c.in-Ok.ensures.length
    ∙ ap (λ l. length (expanded (width_bytes b.width) l b.bytes.now)) c.profile.ensures
    ∙ ap (λ w. length (expanded w profile_limits b.bytes.now)) (sym (by-width b.width))
