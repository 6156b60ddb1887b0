use Rattle.std.proofs.Common.{◌≡◌, ◌∙◌, ◌+◌, refl, sym, ap}
use Rattle.omf_records.specs.Inner.Seen.{contents_seen, kind_seen, odd_if}
use Rattle.omf_records.specs.Values.{DataItem, Iterated}
use Rattle.omf_frame.specs.Types.{width_bytes}
use Rattle.omf_frame.specs.declared.kinds.Width.{Width}
use Rattle.omf_frame.specs.declared.kinds.Width.TheVariants.{Bits16, Bits32}
use Rattle.omf_image.specs.Inner.Expanding.{expanded_length}
use Rattle.omf_image.specs.Limits.{profile_limits}
use Rattle.omf_check.specs.Inner.Judging.{fault_moved, data_size}
use Rattle.omf_check.proofs.table.rules.data_size.Goals as goal

by_width : (w : Width) (d : DataItem) → fault_moved (d.offset.within + width_bytes w) (expanded_length (width_bytes w) profile_limits d.bytes) ≡ data_size profile_limits (odd_if w 0xA2) (Iterated d)
by_width Bits16 d = refl
by_width Bits32 d = refl

pub returns-in-Iterated : goal.returns-in-Iterated
returns-in-Iterated c =
    let b = c.in-Iterated.blocks in
    c.blocks_size.ensures ∙ ap (λ o. fault_moved (o.within + width_bytes b.width) (expanded_length (width_bytes b.width) profile_limits b.bytes.now)) c.offset.view_is
    ∙ by_width b.width (record { segment = c.in-Iterated.segment; offset = c.in-Iterated.offset; bytes = b.bytes.now })
    ∙ ap (λ r. data_size profile_limits (kind_seen r) (contents_seen r)) (sym c.in-Iterated.is)
