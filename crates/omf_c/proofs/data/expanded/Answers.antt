use Rattle.std.proofs.Common.{◌∙◌, sym, ap, subst}
use Rattle.std.specs.Prelude.{IsOk}
use Rattle.omf_records.specs.Inner.Seen.{odd_if}
use Rattle.omf_records.specs.Values.{width}
use Rattle.omf_frame.specs.Types.{width_bytes}
use Rattle.omf_image.specs.Inner.Expanding.{expanded, expanded_length}
use Rattle.omf_image.specs.Limits.{profile_limits}
use Rattle.omf_reloc.proofs.MeasureLaws.{by-width}
use Rattle.omf_c.proofs.data.expanded.Goals as goal

pub expand-requires-clause-fits : goal.expand-requires-clause-fits
expand-requires-clause-fits c =
    let b = c.args.blocks in
    subst (λ w. IsOk (expanded_length w c.profile.result b.bytes.now)) (by-width b.width)
    (subst (λ l. IsOk (expanded_length (width (odd_if b.width 0xA2)) l b.bytes.now)) (sym c.profile.ensures) c.requires.fits)

pub returns : goal.returns
returns c =
    let b = c.args.blocks in
    c.in_ok-bytes.ensures.bytes ∙ ap (λ l. expanded (width_bytes b.width) l b.bytes.now) c.profile.ensures ∙ ap (λ w. expanded w profile_limits b.bytes.now) (sym (by-width b.width))
