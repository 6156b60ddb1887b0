-- Where modules come from, and the names of their segments, in a line of a map (this profile's rule).
use Rattle.std.specs.Prelude.{ℕ, List, [], ◌∷◌, ◌++◌, codes, take, Option, Some, None, slice_get}
use Rattle.omf_check.specs.Module.{Module, recs_of}
use Rattle.omf_check.specs.Tables.{entry, names, segments}
use Rattle.omf_check.specs.declared.segment.SegInfo.{SegInfo}
use Rattle.omf_records.specs.Values.{Rec}
use Rattle.omf_find.specs.Fields.{Name, Number, field_text}
use Rattle.omf_find.specs.declared.fields.Format.{Format}
use Rattle.omf_find.specs.declared.reading.Gathered.{Gathered}
use Rattle.omf_find.specs.declared.reading.Origin.{Origin}

-- The name of a module is that in its first record, a THEADR or an LHEADR, which is a length byte and characters after the type and the length of the record.
abbrev pub name_of : List ℕ → List ℕ
name_of (t ∷ low ∷ high ∷ n ∷ rest) = take n rest
name_of _ = []

-- The file, and the number of the module in it.
abbrev pub member_text : Format → Option (List ℕ) → ℕ → List ℕ
member_text f None member = []
member_text f (Some file) member = field_text f (codes "file") (Name file) ++ field_text f (codes "member") (Number member)

abbrev pub file_text : Format → List (List ℕ) → Option Origin → List ℕ
file_text f files None = []
file_text f files (Some o) = member_text f (slice_get files o.file) o.member

abbrev pub text_of_module : Format → Option Module → List ℕ
text_of_module f None = []
text_of_module f (Some m) = field_text f (codes "module") (Name (name_of m.bytes))

abbrev pub origin_text : Format → List (List ℕ) → Gathered → ℕ → List ℕ
origin_text f files g n = file_text f files (slice_get g.origins.items n) ++ text_of_module f (slice_get g.modules.items n)

-- The index of a segment, and its name and class, if it has these.
abbrev pub class_text : Format → List ℕ → Option (List ℕ) → List ℕ
class_text f key None = []
class_text f key (Some name) = field_text f key (Name name)

abbrev pub names_text : Format → List Rec → Option SegInfo → List ℕ
names_text f m None = []
names_text f m (Some s) = class_text f (codes "name") (entry (names m) s.name) ++ class_text f (codes "class") (entry (names m) s.class)

abbrev pub names_in : Format → Option Module → ℕ → List ℕ
names_in f None index = []
names_in f (Some m) index = let rs = recs_of m.bytes in names_text f rs (entry (segments rs) index)

abbrev pub segment_text : Format → Gathered → ℕ → ℕ → List ℕ
segment_text f g n index = field_text f (codes "index") (Number index) ++ names_in f (slice_get g.modules.items n) index
