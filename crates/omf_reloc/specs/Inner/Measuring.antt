-- The extents of data records. Only private functions use these definitions; the contracts of public functions use the definition of the
-- image.
use Rattle.std.specs.Prelude.{⊤, ℕ, List, [], ◌∷◌, length}
use Rattle.omf_records.specs.Values.{Rec, Contents, Plain, Iterated, width}
use Rattle.omf_image.specs.Inner.Expanding.{expanded}
use Rattle.omf_image.specs.Limits.{profile_limits}
use Rattle.omf_image.specs.declared.painting.Extent.{Extent}
use Rattle.omf_reloc.specs.Inner.Walking.{Expands}

-- The extent of a data record: that of its data, or of the expanded bytes of its blocks.
abbrev pub measured_contents : ℕ → Contents → List Extent
measured_contents kind (Plain d) = record { segment = d.segment.item; first = d.offset.item; len = length d.bytes } ∷ []
measured_contents kind (Iterated d) = record { segment = d.segment.item; first = d.offset.item; len = length (expanded (width kind) profile_limits d.bytes) } ∷ []
measured_contents kind _ = []

abbrev pub measured : Rec → List Extent
measured r = measured_contents r.kind r.contents

-- A record has an extent: the blocks of an LIDATA expand.
abbrev pub HasMeasure : ℕ → Contents → Type 0
HasMeasure kind (Iterated d) = Expands kind d.bytes
HasMeasure kind _ = ⊤

abbrev pub CanMeasure : Rec → Type 0
CanMeasure r = HasMeasure r.kind r.contents
