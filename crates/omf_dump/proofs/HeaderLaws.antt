-- Why a header is none of a library.
use Rattle.std.proofs.Common.{◌≡◌, ℕ, List, [], Bool, true, false, cond, length, refl, sym, ap, ◌∙◌}
use Rattle.std.specs.Prelude.{Result, Ok, Err, slice_index}
use Rattle.std.proofs.lemmas.Bool.{eq-eqb, ne_eqb, le-leb, lt-leb}
use Rattle.omf_library.specs.Library.{IsHeaderRead, library_header, page_size}
use Rattle.omf_library.specs.declared.fault.LibraryFault.{LibraryFault}
use Rattle.omf_library.specs.declared.fault.LibraryFault.TheVariants as fault
use Rattle.omf_library.specs.declared.header.Header.{Header}
use Rattle.omf_dump.specs.Fields.{Field}
use Rattle.omf_dump.specs.Refused.{cut_fields, library_fields, size_fields}

by_true : {A : Type 0} (b : Bool) (x y : A) → b ≡ true → cond b x y ≡ x
by_true true x y e = refl
by_true false x y e = absurd cc

by_false : {A : Type 0} (b : Bool) (x y : A) → b ≡ false → cond b x y ≡ y
by_false true x y e = absurd cc
by_false false x y e = refl

-- what is shown of the answer of a reading
abbrev pub fields_of : Result Header LibraryFault → List Field
fields_of (Err fault.HeaderCut) = cut_fields
fields_of (Err (fault.PageSize size)) = size_fields size
fields_of _ = []

pub header_read : (bytes : List ℕ) (r : Result Header LibraryFault) → IsHeaderRead bytes r → library_fields bytes ≡ fields_of r
header_read bytes (Ok h) i =
    by_true _ _ [] (eq-eqb (slice_index bytes 0) library_header i.0.begun)
    ∙ by_true _ _ cut_fields (le-leb (page_size bytes) (length bytes) i.0.whole)
    ∙ by_true _ [] (size_fields (page_size bytes)) i.0.paged
header_read bytes (Err fault.NoHeader) i = by_false _ _ [] (ne_eqb (slice_index bytes 0) library_header i)
header_read bytes (Err fault.HeaderCut) i =
    by_true _ _ [] (eq-eqb (slice_index bytes 0) library_header i.0) ∙ by_false _ _ cut_fields (lt-leb (page_size bytes) (length bytes) i.1)
header_read bytes (Err (fault.PageSize size)) i =
    by_true _ _ [] (eq-eqb (slice_index bytes 0) library_header i.0)
    ∙ by_true _ _ cut_fields (le-leb (page_size bytes) (length bytes) i.1)
    ∙ by_false _ [] (size_fields (page_size bytes)) i.3
    ∙ ap size_fields (sym i.2)
header_read bytes (Err fault.Memory) i = absurd i
header_read bytes (Err (fault.Refused member offset why place)) i = absurd i
header_read bytes (Err (fault.NoEnd member offset)) i = absurd i
