-- The words for packed fields and classes (TIS OMF 1.1, SEGDEF's ACBP, FIXUPP's LOCATION and methods, COMENT's classes; their spelling here is
-- this profile's rule).
use Rattle.std.specs.Prelude.{ℕ, List, [], ◌∷◌, find, unwrap_or, option_map, ◌==◌, codes}
use Rattle.omf_frame.specs.Types.{type_name}

-- The word of a number in a table, or another one if the table has none.
abbrev pub word_in : List (ℕ × List ℕ) → List ℕ → ℕ → List ℕ
word_in rows other n = unwrap_or (option_map (λ r. r.1) (find (λ r. r.0 == n) rows)) other

-- ACBP, A: alignment. C: combination. 4 and 7 are combined as 2 is, and keep their numbers here.
abbrev pub alignments : List (ℕ × List ℕ)
alignments = (0, codes "absolute") ∷ (1, codes "byte") ∷ (2, codes "word") ∷ (3, codes "paragraph") ∷ (4, codes "page") ∷ (5, codes "dword") ∷ []

abbrev pub combinations : List (ℕ × List ℕ)
combinations = (0, codes "private") ∷ (1, codes "reserved1") ∷ (2, codes "public") ∷ (3, codes "reserved3") ∷ (4, codes "public4") ∷ (5, codes "stack")
    ∷ (6, codes "common") ∷ []

abbrev pub alignment_word : ℕ → List ℕ
alignment_word n = word_in alignments (codes "undefined") n

abbrev pub combination_word : ℕ → List ℕ
combination_word n = word_in combinations (codes "public7") n

-- Location types: 5 and 13 are offsets that a loader resolves.
abbrev pub locations : List (ℕ × List ℕ)
locations = (0, codes "low-byte") ∷ (1, codes "offset16") ∷ (2, codes "base") ∷ (3, codes "pointer16:16") ∷ (4, codes "high-byte") ∷ (5, codes "loader-offset16")
    ∷ (9, codes "offset32") ∷ (11, codes "pointer16:32") ∷ (13, codes "loader-offset32") ∷ []

abbrev pub location_word : ℕ → List ℕ
location_word n = word_in locations (codes "undefined") n

-- Comment classes.
abbrev pub classes : List (ℕ × List ℕ)
classes = (0x00, codes "translator") ∷ (0x01, codes "copyright") ∷ (0x81, codes "old-default-library") ∷ (0x9C, codes "DOS-version") ∷ (0x9D, codes "memory-model")
    ∷ (0x9E, codes "DOSSEG") ∷ (0x9F, codes "default-library") ∷ (0xA0, codes "OMF-extension") ∷ (0xA1, codes "new-OMF-extension") ∷ (0xA2, codes "link-pass-separator")
    ∷ (0xA3, codes "LIBMOD") ∷ (0xA4, codes "EXESTR") ∷ (0xA6, codes "INCERR") ∷ (0xA7, codes "NOPAD") ∷ (0xA8, codes "WKEXT") ∷ (0xA9, codes "LZEXT")
    ∷ (0xDA, codes "comment") ∷ (0xDB, codes "compiler") ∷ (0xDC, codes "date") ∷ (0xDD, codes "time") ∷ (0xDF, codes "user") ∷ (0xE9, codes "dependency")
    ∷ (0xFF, codes "command-line") ∷ []

abbrev pub class_word : ℕ → List ℕ
class_word n = word_in classes (codes "other") n

-- Subtypes of comments of the class A0H.
abbrev pub subtypes : List (ℕ × List ℕ)
subtypes = (1, codes "IMPDEF") ∷ (2, codes "EXPDEF") ∷ (3, codes "INCDEF") ∷ (4, codes "protected-memory-library") ∷ (5, codes "LNKDIR") ∷ (6, codes "big-endian")
    ∷ (7, codes "PRECOMP") ∷ []

abbrev pub subtype_word : ℕ → List ℕ
subtype_word n = word_in subtypes (codes "reserved") n

-- The name of a record's type. F1H, the end of a library, has a name of its own; so have the obsolete types, which are not known here (TIS OMF 1.1, "Obsolete
-- records").
abbrev pub library_end : ℕ
library_end = 0xF1

abbrev pub other_types : List (ℕ × List ℕ)
other_types = (0x6E, codes "RHEADR") ∷ (0x70, codes "REGINT") ∷ (0x72, codes "REDATA") ∷ (0x74, codes "RIDATA") ∷ (0x76, codes "OVLDEF") ∷ (0x78, codes "ENDREC")
    ∷ (0x7A, codes "BLKDEF") ∷ (0x7C, codes "BLKEND") ∷ (0x7E, codes "DEBSYM") ∷ (0x84, codes "PEDATA") ∷ (0x86, codes "PIDATA") ∷ (0x92, codes "LOCSYM")
    ∷ (0xA4, codes "LIBHED") ∷ (0xA6, codes "LIBNAM") ∷ (0xA8, codes "LIBLOC") ∷ (0xAA, codes "LIBDIC") ∷ (library_end, codes "library-end") ∷ []

abbrev pub type_word : ℕ → List ℕ
type_word kind = word_in other_types (type_name kind) kind
