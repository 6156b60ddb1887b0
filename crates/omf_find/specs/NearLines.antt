-- The lines of segments that are nearly in a program (this profile's rule): one of the segment, then one for each byte that differs and one for each
-- reference that goes elsewhere, each with the public before it (TIS OMF 1.1, "PUBDEF": an offset in a segment).
use Rattle.std.specs.Prelude.{◌≡◌, ℕ, ◌+◌, ◌-◌, List, [], ◌++◌, codes, flat_map, length, Option, Some, None, slice_get}
use Rattle.std.specs.List.{AllZip}
use Rattle.omf_check.specs.Module.{Module, recs_of}
use Rattle.omf_check.specs.Tables.{entry, externals, segments}
use Rattle.omf_check.specs.declared.segment.SegInfo.{SegInfo}
use Rattle.omf_finding.specs.declared.nearing.Difference.{Difference}
use Rattle.omf_finding.specs.declared.nearing.Near.{Near}
use Rattle.omf_finding.specs.declared.straying.Stray.{Stray}
use Rattle.omf_find.specs.Fields.{Address, Byte, Name, Number, closed, field_text, head_text}
use Rattle.omf_find.specs.Nearly.{IsBefore, publics_of}
use Rattle.omf_find.specs.Origin.{class_text, origin_text, segment_text}
use Rattle.omf_find.specs.declared.fields.Format.{Format}
use Rattle.omf_find.specs.declared.near.Nearly.{Nearly}
use Rattle.omf_find.specs.declared.reading.Gathered.{Gathered}

-- ---- a segment

abbrev pub length_text : Format → Option SegInfo → List ℕ
length_text f None = []
length_text f (Some s) = field_text f (codes "length") (Address s.length)

abbrev pub length_in : Format → Option Module → ℕ → List ℕ
length_in f None index = []
length_in f (Some m) index = length_text f (entry (segments (recs_of m.bytes)) index)

abbrev pub near_line : Format → List (List ℕ) → Gathered → Nearly → List ℕ
near_line f files g y =
    head_text f (codes "near") y.near.address ++ (length_in f (slice_get g.modules.items y.«module») y.near.segment ++ (field_text f (codes "differs") (Number (length y.near.differences.items)) ++ (origin_text f files g y.«module»
    ++ (segment_text f g y.«module» y.near.segment ++ closed f))))

-- ---- a place in a segment

-- The public before a place of a segment of a module.
abbrev pub IsBeforeIn : Option Module → ℕ → ℕ → Option (ℕ × List ℕ) → Type 0
IsBeforeIn None segment offset b = b ≡ None
IsBeforeIn (Some m) segment offset b = IsBefore offset (publics_of segment (recs_of m.bytes)) b

-- Its name, and how far the place is after it.
abbrev pub public_text : Format → ℕ → Option (ℕ × List ℕ) → List ℕ
public_text f offset None = []
public_text f offset (Some b) = field_text f (codes "public") (Name b.1) ++ field_text f (codes "after") (Address (offset - b.0))

abbrev pub offset_text : Format → ℕ → ℕ → Option (ℕ × List ℕ) → List ℕ
offset_text f segment offset b = field_text f (codes "index") (Number segment) ++ (field_text f (codes "offset") (Address offset) ++ public_text f offset b)

-- ---- a byte that differs

abbrev pub byte_line : Format → Near → Difference → Option (ℕ × List ℕ) → List ℕ
byte_line f n d b = head_text f (codes "byte") (n.address + d.offset) ++ (offset_text f n.segment d.offset b ++ (field_text f (codes "own") (Byte (Some d.own)) ++ (field_text f (codes "program") (Byte d.there) ++ closed f)))

abbrev pub IsByteLine : Format → Option Module → Near → Difference → List ℕ → Type 0
IsByteLine f m n d line = (b : Option (ℕ × List ℕ)) × IsBeforeIn m n.segment d.offset b × (line ≡ byte_line f n d b)

-- ---- a reference that goes elsewhere

abbrev pub external_text : Format → Option Module → ℕ → List ℕ
external_text f None external = []
external_text f (Some m) external = class_text f (codes "name") (entry (externals (recs_of m.bytes)) external)

abbrev pub reference_line : Format → Option Module → Near → Stray → Option (ℕ × List ℕ) → List ℕ
reference_line f m n s b =
    head_text f (codes "reference") (n.address + s.offset) ++ (offset_text f n.segment s.offset b ++ (external_text f m s.external ++ (field_text f (codes "own") (Address s.wanted) ++ (field_text f (codes "program") (Address s.there) ++ closed f))))

abbrev pub IsReferenceLine : Format → Option Module → Near → Stray → List ℕ → Type 0
IsReferenceLine f m n s line = (b : Option (ℕ × List ℕ)) × IsBeforeIn m n.segment s.offset b × (line ≡ reference_line f m n s b)

-- ---- all lines

-- One text for each of these, one after another.
abbrev pub AreTexts : {A : Type 0} → (A → List ℕ → Type 0) → List A → List ℕ → Type 0
AreTexts IsOne xs text = (each : List (List ℕ)) × AllZip IsOne xs each × (text ≡ flat_map (λ t. t) each)

pub record IsNearText (f : Format) (files : List (List ℕ)) (g : Gathered) (y : Nearly) (text : List ℕ) : Type 0 where
  pub bytes : List ℕ
  pub are_bytes : AreTexts (IsByteLine f (slice_get g.modules.items y.«module») y.near) y.near.differences.items bytes
  pub references : List ℕ
  pub are_references : AreTexts (IsReferenceLine f (slice_get g.modules.items y.«module») y.near) y.strays.items references
  pub text_is : text ≡ near_line f files g y ++ (bytes ++ references)

-- A text has the lines of these segments, and others before and after them.
pub record HasNearLines (f : Format) (files : List (List ℕ)) (g : Gathered) (ys : List Nearly) (text : List ℕ) : Type 0 where
  pub before : List ℕ
  pub near : List ℕ
  pub are_near : AreTexts (IsNearText f files g) ys near
  pub after : List ℕ
  pub text_is : text ≡ before ++ (near ++ after)
