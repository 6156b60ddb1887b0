-- What is shown of the text of comments of some classes (TIS OMF 1.1, "COMENT", the classes A0H, A3H, A8H and A9H). A text that is cut short is
-- shown as far as it goes.
use Rattle.std.specs.Prelude.{ℕ, ◌+◌, ◌-◌, ◌*◌, ◌%◌, List, [], ◌∷◌, ◌++◌, length, take, drop, Bool, true, false, not, ◌==◌, ◌||◌, nat_le, nat_lt, Option, Some, None, codes, if◌then◌else◌}
use Rattle.omf_frame.specs.Bytes.{has_bit}
use Rattle.omf_dump.specs.Fields.{Number, Signed, Word, Characters, Named, Flag, Field, field, Item, item}
use Rattle.omf_dump.specs.Known.{Tables, external_entry}
use Rattle.omf_dump.specs.Words.{subtype_word}

-- A name after its length byte, and the bytes after it.
abbrev pub counted : List ℕ → Option (List ℕ × List ℕ)
counted [] = None
counted (n ∷ bytes) = if nat_le n (length bytes) then Some (take n bytes, drop n bytes) else None

-- A field that is such a name, and those of the bytes after it.
abbrev pub name_before : List ℕ → (List ℕ → List Field) → Option (List ℕ × List ℕ) → List Field
name_before name next None = []
name_before name next (Some p) = field name (Characters p.0) ∷ next p.1

-- A 2-byte number, little-endian.
abbrev pub ordinal_fields : List ℕ → List Field
ordinal_fields (low ∷ high ∷ _) = field (codes "ordinal") (Number (low + 256 * high)) ∷ []
ordinal_fields _ = []

-- IMPDEF: a byte that is 0 if the entry is given by its name; the name in the module, the name of the library it is in, the entry's name or ordinal there.
abbrev pub import_end : ℕ → List ℕ → List Field
import_end flag bytes = if flag == 0 then name_before (codes "entry") (λ rest. []) (counted bytes) else ordinal_fields bytes

abbrev pub import_module : ℕ → List ℕ → List Field
import_module flag bytes = name_before (codes "module") (import_end flag) (counted bytes)

abbrev pub import_fields : List ℕ → List Field
import_fields [] = []
import_fields (flag ∷ bytes) = name_before (codes "internal") (import_module flag) (counted bytes)

-- EXPDEF: a byte of flags and the number of parameters; the exported name, the name in the module, the ordinal if bit 7 is set.
abbrev pub export_marks : ℕ → List Field
export_marks flags = field (codes "resident-name") (Flag (has_bit flags 6)) ∷ field (codes "no-data") (Flag (has_bit flags 5)) ∷ []

abbrev pub export_flags : ℕ → List Field
export_flags flags = export_marks flags ++ field (codes "parameters") (Number (flags % 32)) ∷ []

abbrev pub export_end : ℕ → List ℕ → List Field
export_end flags bytes = if has_bit flags 7 then ordinal_fields bytes else []

abbrev pub export_internal : ℕ → List ℕ → List Field
export_internal flags bytes = name_before (codes "internal") (export_end flags) (counted bytes)

abbrev pub export_fields : List ℕ → List Field
export_fields [] = []
export_fields (flags ∷ bytes) = export_flags flags ++ name_before (codes "exported") (export_internal flags) (counted bytes)

-- INCDEF: what is added to the counts of externals and of line numbers.
abbrev pub line_fields : List ℕ → List Field
line_fields (low ∷ high ∷ _) = field (codes "line-delta") (Signed (low + 256 * high)) ∷ []
line_fields _ = []

abbrev pub delta_fields : List ℕ → List Field
delta_fields (low ∷ high ∷ bytes) = field (codes "external-delta") (Signed (low + 256 * high)) ∷ line_fields bytes
delta_fields _ = []

-- LNKDIR: flags, the versions of the pseudocode and of the CodeView information.
abbrev pub directive_flags : ℕ → List Field
directive_flags flags = field (codes "new-EXE") (Flag (has_bit flags 0)) ∷ field (codes "omit-publics") (Flag (has_bit flags 1)) ∷ field (codes "run-MPC") (Flag (has_bit flags 2)) ∷ []

abbrev pub codeview_fields : List ℕ → List Field
codeview_fields [] = []
codeview_fields (codeview ∷ _) = field (codes "CodeView") (Number codeview) ∷ []

abbrev pub version_fields : List ℕ → List Field
version_fields [] = []
version_fields (pseudocode ∷ bytes) = field (codes "pseudocode") (Number pseudocode) ∷ codeview_fields bytes

abbrev pub directive_fields : List ℕ → List Field
directive_fields [] = []
directive_fields (flags ∷ bytes) = directive_flags flags ++ version_fields bytes

-- The class A0H: its subtype, which is the first byte of the text, and the fields of the subtype.
abbrev pub subtype_fields : ℕ → List ℕ → List Field
subtype_fields subtype bytes =
    if subtype == 1 then import_fields bytes
    else if subtype == 2 then export_fields bytes
    else if subtype == 3 then delta_fields bytes
    else if subtype == 5 then directive_fields bytes
    else []

abbrev pub extension_fields : List ℕ → List Field
extension_fields [] = []
extension_fields (subtype ∷ bytes) = field (codes "subtype") (Word (subtype_word subtype)) ∷ subtype_fields subtype bytes

-- The class A3H, LIBMOD: the module's name in its library.
abbrev pub class_fields : ℕ → List ℕ → List Field
class_fields class text = if class == 0xA0 then extension_fields text else if class == 0xA3 then name_before (codes "module") (λ rest. []) (counted text) else []

-- The classes A8H and A9H, WKEXT and LZEXT: pairs of indices, of an external, and of the default that it becomes where nothing else defines it.
abbrev pub has_pairs : ℕ → Bool
has_pairs class = class == 0xA8 || class == 0xA9

abbrev pub role : Bool → List ℕ
role true = codes "default"
role false = codes "external"

-- The index at the front, and its size in bytes: one byte, or two, big-endian, if bit 7 of the first is set; that bit does not count.
abbrev pub front_index : List ℕ → Option (ℕ × ℕ)
front_index [] = None
front_index (a ∷ []) = if nat_lt a 128 then Some (a, 1) else None
front_index (a ∷ b ∷ _) = if nat_lt a 128 then Some (a, 1) else Some ((a - 128) * 256 + b, 2)

abbrev pub pair_item : Tables → ℕ → Bool → ℕ → Item
pair_item t within is_default index = item within (field (role is_default) (Named (external_entry t index)) ∷ [])

-- Such indices from an offset in the record on.
abbrev pub pair_items : Tables → ℕ → Bool → List ℕ → List Item
pair_items t within is_default [] = []
pair_items t within is_default (a ∷ []) = if nat_lt a 128 then pair_item t within is_default a ∷ [] else []
pair_items t within is_default (a ∷ b ∷ bytes) =
    if nat_lt a 128 then pair_item t within is_default a ∷ pair_items t (within + 1) (not is_default) (b ∷ bytes)
    else pair_item t within is_default ((a - 128) * 256 + b) ∷ pair_items t (within + 2) (not is_default) bytes

abbrev pub class_items : Tables → ℕ → List ℕ → Option (List Item)
class_items t class text = if has_pairs class then Some (pair_items t 5 false text) else None
