-- What is shown of an input: modules one after another, or a library, whose members follow one another, each under its name (TIS OMF 1.1,
-- appendix 2; the text is this profile's rule).
use Rattle.std.specs.Prelude.{◌≡◌, ℕ, zero, suc, ◌+◌, ◌-◌, ◌/◌, List, [], ◌∷◌, ◌++◌, length, drop, flat_map, Bool, true, false, not, ◌==◌, ◌||◌, codes, decimal, Option, if◌then◌else◌}
use Rattle.std.specs.Io.KnownBytes.{Appends}
use Rattle.std.specs.List.{list_any}
use Rattle.omf_frame.specs.Framing.{Raw, after_front, front_record, is_end, is_header, record_len}
use Rattle.omf_frame.specs.declared.fault.Place.{Place}
use Rattle.omf_frame.specs.declared.fault.Reason.{Reason}
use Rattle.omf_frame.specs.declared.kinds.Width.TheVariants.{Bits32}
use Rattle.omf_image.specs.Limits.{profile_limits}
use Rattle.omf_check.specs.Refusal.{IsRefused}
use Rattle.omf_check.specs.WellFormed.{IsAccepted, recs}
use Rattle.omf_library.specs.Library.{HasHeader, header_of, library_end, next_page, page_size}
use Rattle.omf_library.specs.declared.header.Header.{Header}
use Rattle.omf_dump.specs.Comments.{counted, name_before}
use Rattle.omf_dump.specs.Dump.{dump_text}
use Rattle.omf_dump.specs.Fields.{Number, Hex, Field, field}
use Rattle.omf_dump.specs.Later.{front_kind}
use Rattle.omf_dump.specs.Refused.{refusal_text}
use Rattle.omf_dump.specs.Render.{digits, fields_text, line_end, record_end}
use Rattle.omf_dump.specs.declared.format.Format.{Format}
use Rattle.omf_dump.specs.declared.format.Format.TheVariants as format
use Rattle.omf_dump.specs.declared.format.Mode.{Mode}
use Rattle.omf_dump.specs.declared.spot.Spot.{Spot}

-- The text of bytes as a module, by whether they are refused: that of the module that they begin with; or that of the records before the fault,
-- and then of the record at fault and those after it.
abbrev pub IsModuleText : Mode → List ℕ → Bool → List ℕ → Type 0
IsModuleText m input false text = (records : List Raw) × IsAccepted m.profile profile_limits input records × (text ≡ dump_text m.style records)
IsModuleText m input true text = (why : Reason) × (at : Place) × (r : IsRefused m.profile profile_limits input why at)
    × (text ≡ dump_text m.style r.before ++ refusal_text m.style (recs r.before) at why (drop at.start input))

-- The bytes after the member at the front, which ends at its first MODEND, by the lengths of its records alone. The first `skipped` bytes are
-- those of the record before.
abbrev pub after_member : ℕ → List ℕ → List ℕ
after_member skipped [] = []
after_member (suc skipped) (b ∷ bytes) = after_member skipped bytes
after_member zero (kind ∷ bytes) = if is_end kind then after_front (kind ∷ bytes) else after_member (record_len (kind ∷ bytes) - 1) bytes

-- Bytes without those of one value at their front.
abbrev pub without : ℕ → List ℕ → List ℕ
without v [] = []
without v (b ∷ bytes) = if b == v then without v bytes else b ∷ bytes

-- Bytes without the padding at their front: bytes of one value, 00H or 1AH. omf-link takes the same for padding.
abbrev pub unpadded : List ℕ → List ℕ
unpadded [] = []
unpadded (b ∷ bytes) = if b == 0x00 then without 0x00 (b ∷ bytes) else if b == 0x1A then without 0x1A (b ∷ bytes) else b ∷ bytes

-- The bytes after the module at the front and its padding; none if no module begins there.
abbrev pub after_module : List ℕ → List ℕ
after_module bytes = if is_header (front_kind bytes) then unpadded (after_member 0 bytes) else []

-- The title of a member: its number from 0, its page, its offset in the library; and its name, that of its THEADR or LHEADR, if it is all there.
abbrev pub module_name : List ℕ → List Field
module_name bytes = name_before (codes "name") (λ rest. []) (counted (front_record bytes).body)

abbrev pub spot_fields : ℕ → ℕ → List Field
spot_fields page offset = field (codes "page") (Number page) ∷ field (codes "offset") (Hex (digits Bits32) offset) ∷ []

abbrev pub title_head : Format → ℕ → List ℕ
title_head format.Text number = codes "member " ++ decimal number
title_head format.Json number = codes "{\"member\":" ++ decimal number

abbrev pub title_text : Format → Spot → List ℕ → List ℕ
title_text f s bytes = title_head f s.number ++ (fields_text f (spot_fields s.page s.offset) ++ (fields_text f (module_name bytes) ++ (line_end f ++ record_end f)))

-- What is there in place of a member: the F1H; the end of the bytes; or what begins no module.
abbrev pub fault_head : Format → List ℕ → List ℕ
fault_head format.Text name = codes "fault " ++ name
fault_head format.Json name = codes "{\"fault\":\"" ++ (name ++ 34 ∷ [])

abbrev pub fault_fields : ℕ → ℕ → List Field
fault_fields number offset = field (codes "member") (Number number) ∷ field (codes "offset") (Hex (digits Bits32) offset) ∷ []

abbrev pub fault_text : Format → List ℕ → ℕ → ℕ → List ℕ
fault_text f name number offset = fault_head f name ++ (fields_text f (fault_fields number offset) ++ (line_end f ++ record_end f))

abbrev pub end_text : Format → ℕ → ℕ → List ℕ → List ℕ
end_text f number offset [] = fault_text f (codes "NoEnd") number offset
end_text f number offset (kind ∷ _) = if kind == library_end then [] else fault_text f (codes "NoMember") number offset

abbrev pub is_fault : List ℕ → Bool
is_fault bytes = not (front_kind bytes == library_end)

abbrev pub IsEndShown : Mode → Spot → List ℕ → Bool → List ℕ → Type 0
IsEndShown mode s bytes is_faulty text = (is_faulty ≡ is_fault bytes) × (text ≡ end_text mode.style.format s.number s.offset bytes)

-- A member: its text with its title, and whether it is refused.
pub record Member : Type 0 where
  pub is_refused : Bool
  pub text : List ℕ

abbrev pub IsMemberShown : Mode → Spot → List ℕ → Bool → List ℕ → Type 0
IsMemberShown mode s bytes is_refused text = (own : List ℕ) × IsModuleText mode bytes is_refused own × (text ≡ title_text mode.style.format s bytes ++ own)

-- Members one after another: the first at the offset `at`, with this number, each next at the first page after the one before, while a page begins
-- with a THEADR or an LHEADR; and the first page after the last of them is at `to`.
abbrev pub AreMembers : Mode → List ℕ → ℕ → ℕ → List Member → ℕ → Type 0
AreMembers mode bytes number at [] to = at ≡ to
AreMembers mode bytes number at (m ∷ ms) to = (is_header (front_kind (drop at bytes)) ≡ true)
    × IsMemberShown mode (record { number = number; page = at / page_size bytes; offset = at }) (drop at bytes) m.is_refused m.text
    × AreMembers mode bytes (number + 1) (next_page (page_size bytes) (length bytes - length (after_member 0 (drop at bytes)))) ms to

-- The line of the header of a library: its page size, the offset of its dictionary, the number of the dictionary's blocks, and the flags.
abbrev pub header_head : Format → List ℕ
header_head format.Text = codes "library"
header_head format.Json = codes "{\"library\":\"header\""

abbrev pub header_fields : Header → List Field
header_fields h = field (codes "page") (Number h.page) ∷ field (codes "dictionary") (Hex (digits Bits32) h.dictionary)
    ∷ field (codes "blocks") (Number h.blocks) ∷ field (codes "flags") (Hex 2 h.flags) ∷ []

abbrev pub header_text : Format → Header → List ℕ
header_text f h = header_head f ++ (fields_text f (header_fields h) ++ (line_end f ++ record_end f))

-- The text of the pages of a library: its members from the second page on, and what is there after the last of them. It is refused if a member is, or
-- if no F1H is there.
pub record ArePagesText (mode : Mode) (bytes : List ℕ) (is_refused : Bool) (text : List ℕ) : Type 0 where
  pub members : List Member
  pub to : ℕ
  pub members_are : AreMembers mode bytes 0 (page_size bytes) members to
  pub ended : is_header (front_kind (drop to bytes)) ≡ false
  pub refused : is_refused ≡ (list_any (λ m. m.is_refused) members || is_fault (drop to bytes))
  pub whole : text ≡ flat_map (λ m. m.text) members ++ end_text mode.style.format (length members) to (drop to bytes)

-- The text of a library: the line of its header, and then its pages.
abbrev pub IsLibraryText : Mode → List ℕ → Bool → List ℕ → Type 0
IsLibraryText mode bytes is_refused text = (pages : List ℕ) × ArePagesText mode bytes is_refused pages × (text ≡ header_text mode.style.format (header_of bytes) ++ pages)

-- What follows a module and its padding in its file: other modules, each after a line that names it by its number from 1, its offset and its name; or
-- a line for the bytes that are left.
abbrev pub module_head : Format → ℕ → List ℕ
module_head format.Text number = codes "module " ++ decimal number
module_head format.Json number = codes "{\"module\":" ++ decimal number

abbrev pub offset_field : ℕ → List Field
offset_field offset = field (codes "offset") (Hex (digits Bits32) offset) ∷ []

abbrev pub module_title : Format → ℕ → ℕ → List ℕ → List ℕ
module_title f number offset bytes = module_head f number ++ (fields_text f (offset_field offset) ++ (fields_text f (module_name bytes) ++ (line_end f ++ record_end f)))

abbrev pub left_head : Format → List ℕ
left_head format.Text = codes "left"
left_head format.Json = codes "{\"left\":true"

abbrev pub left_fields : ℕ → ℕ → List Field
left_fields offset size = field (codes "offset") (Hex (digits Bits32) offset) ∷ field (codes "length") (Hex (digits Bits32) size) ∷ []

abbrev pub left_text : Format → ℕ → List ℕ → List ℕ
left_text f offset [] = []
left_text f offset (b ∷ bytes) = left_head f ++ (fields_text f (left_fields offset (length (b ∷ bytes))) ++ (line_end f ++ record_end f))

abbrev pub IsLeftShown : Mode → ℕ → List ℕ → List ℕ → Type 0
IsLeftShown mode offset bytes text = text ≡ left_text mode.style.format offset bytes

abbrev pub IsNextShown : Mode → ℕ → ℕ → List ℕ → Bool → List ℕ → Type 0
IsNextShown mode number offset bytes is_refused text = (own : List ℕ) × IsModuleText mode bytes is_refused own × (text ≡ module_title mode.style.format number offset bytes ++ own)

-- Where the module at an offset and its padding end, and where those of the first one do; a file that begins with no module has no others.
abbrev pub end_at : List ℕ → ℕ → ℕ
end_at bytes at = length bytes - length (after_module (drop at bytes))

abbrev pub first_end : List ℕ → ℕ
first_end bytes = length bytes - length (after_module bytes)

-- Modules one after another: the first at the offset `at`, with this number, each next where the one before and its padding end, while a THEADR or
-- an LHEADR is there; the last of them and its padding end at `to`.
abbrev pub AreNext : Mode → List ℕ → ℕ → ℕ → List Member → ℕ → Type 0
AreNext mode bytes number at [] to = at ≡ to
AreNext mode bytes number at (m ∷ ms) to = (is_header (front_kind (drop at bytes)) ≡ true) × IsNextShown mode number at (drop at bytes) m.is_refused m.text
    × AreNext mode bytes (number + 1) (end_at bytes at) ms to

-- The text of a file that is no library: what it is as a module, the modules that follow, the bytes that are left. It is refused if a module is.
pub record IsFileText (mode : Mode) (bytes : List ℕ) (is_refused : Bool) (text : List ℕ) : Type 0 where
  pub first : Member
  pub first_is : IsModuleText mode bytes first.is_refused first.text
  pub others : List Member
  pub to : ℕ
  pub others_are : AreNext mode bytes 1 (first_end bytes) others to
  pub ended : is_header (front_kind (drop to bytes)) ≡ false
  pub refused : is_refused ≡ list_any (λ m. m.is_refused) (first ∷ others)
  pub whole : text ≡ flat_map (λ m. m.text) (first ∷ others) ++ left_text mode.style.format to (drop to bytes)

-- What is written for an input, by whether it is refused: a library if it has the header of one, else modules. `old` and `new` are the bytes that
-- the writer holds before and after, if they are known.
abbrev pub Shows : Option (List ℕ) → Option (List ℕ) → (List ℕ → Type 0) → Type 0
Shows old new IsText = (text : List ℕ) × IsText text × Appends old new text

pub record IsShown (mode : Mode) (input : List ℕ) (is_refused : Bool) (old new : Option (List ℕ)) : Type 0 where
  pub library : HasHeader input → Shows old new (IsLibraryText mode input is_refused)
  pub others : (HasHeader input → ⊥) → Shows old new (IsFileText mode input is_refused)
