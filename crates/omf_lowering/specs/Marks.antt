-- The mark of a COMDAT that `lowered` replaces: a COMENT with the type byte 80H, which is not to be removed, the class DCH, the letters COMDAT and the selection
-- (TIS OMF 1.1, "COMENT": the classes C0H to FFH are for users; this profile's rule).
use Rattle.std.specs.Prelude.{ℕ, List, [], ◌∷◌, ◌++◌, length, take, codes, bytes_eq, slice_index, Bool, ◌==◌, ◌&&◌, Option, Some, None, if◌then◌else◌}
use Rattle.omf_records.specs.Values.{Comment, Contents}

-- The text of a mark, and the contents of its COMENT.
abbrev pub mark_text : ℕ → List ℕ
mark_text selection = codes "COMDAT" ++ selection ∷ []

abbrev pub mark_contents : ℕ → List ℕ
mark_contents selection = 0x80 ∷ 0xDC ∷ mark_text selection

-- The selection in a mark. Other records have none.
abbrev pub is_mark : ℕ → ℕ → List ℕ → Bool
is_mark type_byte class text = (type_byte == 0x80) && ((class == 0xDC) && ((length text == 7) && bytes_eq (take 6 text) (codes "COMDAT")))

abbrev pub selection_by : Contents → Option ℕ
selection_by (Comment type_byte class text) = if is_mark type_byte class text then Some (slice_index text 6) else None
selection_by _ = None
