-- Laws of the definitions, each the contract of a function of the same name.
use Rattle.std.specs.Prelude.{◌≡◌, ℕ, ◌+◌, ◌-◌, ◌≤◌, List, length, take, drop, All, Some, true, slice_get}
use Rattle.omf_frame.specs.Bytes.{AreBytes, is_one_of}
use Rattle.omf_frame.specs.Types.{ledata}
use Rattle.omf_frame.specs.Framing.{Raw}
use Rattle.omf_frame.specs.declared.fault.Place.{Place}
use Rattle.omf_frame.specs.declared.fault.Reason.{Reason}
use Rattle.omf_image.specs.Blocks.{Blocks, blocks, blocks_bytes}
use Rattle.omf_image.specs.declared.limits.Limits.{Limits}
use Rattle.omf_image.specs.Parts.{add_part}
-- computed: readings_meet_layouts and contents_are_typed_once of omf_records.
use Rattle.omf_records.specs.Inner.Reading.{typed}
use Rattle.omf_records.specs.Layout.{Meets}
use Rattle.omf_records.specs.Values.{DataItem, Plain}
use Rattle.omf_check.specs.WellFormed.{IsAccepted}
use Rattle.omf_check.specs.declared.profile.Profile.{Profile}
use Rattle.omf_lowering.specs.Layouts.{cextdef, bakpat, comdat, linnum, linsym, nbkpat}
-- computed: readings_meet_layouts of omf_lowering.
use Rattle.omf_lowering.specs.Inner.Readers.{cextdef_whole, bakpat_whole, comdat_whole, linnum_whole, linsym_whole, nbkpat_whole}
use Rattle.std.specs.Prelude.{Bool}
use Rattle.omf_lowering.specs.Lowering.{IsLowered, IsRefused, patches, replaced}
use Rattle.omf_lowering.specs.Patches.{with_value, size_of}
-- computed: copies_are_copies of omf_lowering.
use Rattle.omf_lowering.specs.Inner.Spreading.{contents_in}
use Rattle.omf_lowering.specs.Unrolled.{copies_of}
use Rattle.omf_lowering.specs.declared.location.Location.{Location}
use Rattle.omf_lowering.specs.declared.values.Patch.{Patch}

-- Reading the contents of a CEXTDEF, a BAKPAT, a COMDAT, an NBKPAT, a LINSYM or a LINNUM gives the one value that they encode, or else the least of their faults.
pub record ReadingsMeetLayouts : Type 0 where
  pub cextdef : (body : List ℕ) → AreBytes body → Meets cextdef 3 body (cextdef_whole.read 3 body)
  pub bakpat : (wide : Bool) (body : List ℕ) → AreBytes body → Meets (bakpat wide) 3 body ((bakpat_whole wide).read 3 body)
  pub comdat : (wide : Bool) (body : List ℕ) → AreBytes body → Meets (comdat wide) 3 body ((comdat_whole wide).read 3 body)
  pub nbkpat : (wide : Bool) (body : List ℕ) → AreBytes body → Meets (nbkpat wide) 3 body ((nbkpat_whole wide).read 3 body)
  pub linsym : (body : List ℕ) → AreBytes body → Meets linsym 3 body (linsym_whole.read 3 body)
  pub linnum : (wide : Bool) (body : List ℕ) → AreBytes body → Meets (linnum wide) 3 body ((linnum_whole wide).read 3 body)

-- An input has at most one lowering, with one rest after the module; it is refused for at most one reason, at one place; and it is not both lowered and refused.
pub record AnswersAreUnique : Type 0 where
  pub lowered : (input a b rest other : List ℕ) → IsLowered input a rest → IsLowered input b other → (a ≡ b) × (rest ≡ other)
  pub refused : (input : List ℕ) (why other : Reason) (at there : Place) → IsRefused input why at → IsRefused input other there → (why ≡ other) × (at ≡ there)
  pub both : (input out rest : List ℕ) (why : Reason) (at : Place) → IsLowered input out rest → IsRefused input why at → ⊥

-- A module that is accepted is its own lowering.
abbrev pub AcceptedStay : Type 0
AcceptedStay = (profile : Profile) (limits : Limits) (input : List ℕ) (records : List Raw) (a : IsAccepted profile limits input records) → IsLowered input a.bytes a.rest

-- A value is for an LEDATA among these records, and its location is in the data of it.
pub record Fits (rs : List Raw) (p : Patch) : Type 0 where
  pub holder : Raw
  pub data_item : DataItem
  pub there : slice_get rs p.number ≡ Some holder
  pub plain : (typed holder).contents ≡ Plain data_item
  pub from : length holder.body - length data_item.bytes ≤ p.at
  pub to : p.at + size_of p.part ≤ length holder.body - length data_item.bytes + length data_item.bytes

-- No value of a BAKPAT or an NBKPAT is lost: each is for an LEDATA, with all bytes of its location in the data.
abbrev pub ValuesFit : Type 0
ValuesFit = (rs : List Raw) → All (Fits (replaced rs)) (patches rs)

-- An LEDATA with a value added has the same segment and the same offset in it, and the value is added to the data at the location's place in them.
abbrev pub DataAreAdded : Type 0
DataAreAdded = (r : Raw) (d : DataItem) (p : Patch) → AreBytes r.body → (typed r).contents ≡ Plain d → is_one_of ledata r.kind ≡ true
    → length r.body - length d.bytes ≤ p.at → p.at + size_of p.part ≤ length r.body
    → (typed (with_value p r)).contents ≡ Plain (record d { bytes = add_part d.bytes (p.at - (length r.body - length d.bytes)) (size_of p.part) p.value })

-- The expanded data of blocks have, at each copy of a location, the bytes that the blocks have at the location.
abbrev pub CopiesAreCopies : Type 0
CopiesAreCopies = (width : ℕ) (limits : Limits) (bytes : List ℕ) (trees : Blocks) → (blocks width limits.nesting).Spells 0 bytes trees → (l : Location) (copies : List ℕ) → copies_of (contents_in width limits.nesting bytes) l ≡ Some copies
    → All (λ x. (x + l.size ≤ length (blocks_bytes trees)) × (take l.size (drop x (blocks_bytes trees)) ≡ take l.size (drop l.offset bytes))) copies
