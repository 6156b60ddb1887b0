-- Modules have the same chunks, the same portions of memory, and the same start.
use Rattle.std.proofs.Common.{◌≡◌, ℕ, ◌+◌, List, [], ◌∷◌, ◌++◌, refl, sym, ◌∙◌, ap, ap₂}
use Rattle.std.specs.Prelude.{map, flat_map, filter_map, zip, Option, Some, None}
use Rattle.std.specs.List.{cons_option}
use Rattle.std.proofs.lemmas.List.{map-append}
use Rattle.omf_records.specs.Values.{Rec, Contents, Plain, Iterated, Segment, SegmentItem, width, contents_alone, unplaced}
use Rattle.omf_image.specs.Inner.Expanding.{expanded}
use Rattle.omf_image.specs.Limits.{profile_limits}
use Rattle.omf_placement.specs.declared.frame.Placed.{Placed}
use Rattle.omf_placement.specs.Placement.{Places}
use Rattle.omf_reloc.specs.Image.{patched}
use Rattle.omf_reloc.specs.Plain.{Piece, Kept, Fixed, End, PlainFixup, fixups_of_data}
use Rattle.omf_output.specs.Exe.Filled.{has_any, only_if}
use Rattle.omf_output.specs.Exe.Members.{Portion, portion, portion_of, segdefs_in, segdefs}
use Rattle.omf_output.specs.Exe.Memory.{Chunk, segment_address, contents_chunks, piece_chunks, chunks}
use Rattle.omf_output.specs.Exe.Moved.{Movers}
use Rattle.omf_output.specs.Exe.Relocations.{sites}
use Rattle.omf_canon.specs.Skeleton.{normal}
use Rattle.omf_keys.specs.Keys.{AreAlike}
use Rattle.omf_keys.proofs.ChunkLaws.{after-alike}
use Rattle.omf_keys.proofs.KeptLaws.{IsKeptTable, same-records}

-- ---- chunks

module _ (mv : Movers) (pl : Places) where
  abbrev laid_by : ℕ → Contents → List (ℕ × PlainFixup) → List Chunk
  laid_by kind (Plain d) fs =
      only_if (has_any (patched pl d fs))
      (record { address = segment_address pl d.segment.item + d.offset.item; bytes = patched pl d fs; words = sites mv d.segment.item fs })
  laid_by kind (Iterated d) fs =
      only_if (has_any (expanded (width kind) profile_limits d.bytes))
      (record { address = segment_address pl d.segment.item + d.offset.item; bytes = expanded (width kind) profile_limits d.bytes; words = [] })
  laid_by kind _ fs = []

  abbrev chunks_by : Piece → List (ℕ × PlainFixup) → List Chunk
  chunks_by (Kept r) fs = laid_by r.kind r.contents fs
  chunks_by _ fs = []

  laid-sees : (kind : ℕ) (c : Contents) (after : List Piece) → contents_chunks mv pl kind c after ≡ laid_by kind c (fixups_of_data after)
  laid-sees kind (Plain d) after = refl
  laid-sees kind (Iterated d) after = refl
  laid-sees kind _ after = refl

  laid-bare : (kind : ℕ) (c : Contents) (fs : List (ℕ × PlainFixup)) → laid_by kind (contents_alone c) fs ≡ laid_by kind c fs
  laid-bare kind (Plain d) fs = refl
  laid-bare kind (Iterated d) fs = refl
  laid-bare kind _ fs = refl

  piece-sees : (p : Piece) (after : List Piece) → piece_chunks mv pl p after ≡ chunks_by p (fixups_of_data after)
  piece-sees (Kept r) after = laid-sees r.kind r.contents after
  piece-sees (Fixed kind fs) after = refl
  piece-sees (End kind byte start) after = refl

  piece-bare : (p : Piece) (fs : List (ℕ × PlainFixup)) → chunks_by (normal p) fs ≡ chunks_by p fs
  piece-bare (Kept r) fs = laid-bare r.kind r.contents fs
  piece-bare (Fixed kind gs) fs = refl
  piece-bare (End kind byte start) fs = refl

  pub same-chunks : (m n : List Rec) → AreAlike m n → chunks mv pl m ≡ chunks mv pl n
  same-chunks = after-alike (piece_chunks mv pl) chunks_by (record { sees = piece-sees; none = λ kind fs fixups. refl; bare = piece-bare })

-- ---- portions

abbrev bare_def : ℕ × SegmentItem → ℕ × SegmentItem
bare_def x = (x.0, record x.1 { name = unplaced x.1.name; class = unplaced x.1.class })

bare-defs : (kind : ℕ) (c : Contents) → map bare_def (segdefs_in kind c) ≡ map bare_def (segdefs_in kind (contents_alone c))
bare-defs kind (Segment s) = refl
bare-defs kind _ = refl

defs-kept : IsKeptTable (λ kind c. map bare_def (segdefs_in kind c))
defs-kept = record { bare = bare-defs; fixups = λ kind subs. refl; end = λ kind byte start. refl }

map-flat : {A B C : Type 0} (h : B → C) (f : A → List B) (xs : List A) → map h (flat_map f xs) ≡ flat_map (λ x. map h (f x)) xs
map-flat h f [] = refl
map-flat h f (x ∷ xs) = map-append h (f x) (flat_map f xs) ∙ ap (λ ys. map h (f x) ++ ys) (map-flat h f xs)

same-defs : (m n : List Rec) → AreAlike m n → map bare_def (segdefs m) ≡ map bare_def (segdefs n)
same-defs m n h =
    map-flat bare_def (λ (r : Rec). segdefs_in r.kind r.contents) m
    ∙ same-records (λ kind c. map bare_def (segdefs_in kind c)) defs-kept m n h
    ∙ sym (map-flat bare_def (λ (r : Rec). segdefs_in r.kind r.contents) n)

portion-bare : (p : Placed) (x : ℕ × SegmentItem) → portion (p, x) ≡ portion (p, bare_def x)
portion-bare p x = by x.1.absolute
  where
    by : (o : Option (ℕ × ℕ)) → portion_of o (p, x) ≡ portion_of o (p, bare_def x)
    by None = refl
    by (Some frame) = refl

zipped-bare : (ps : List Placed) (xs : List (ℕ × SegmentItem)) → filter_map portion (zip ps xs) ≡ filter_map portion (zip ps (map bare_def xs))
zipped-bare [] xs = refl
zipped-bare (p ∷ ps) [] = refl
zipped-bare (p ∷ ps) (x ∷ xs) = ap₂ (λ (o : Option Portion) (os : List Portion). cons_option o os) (portion-bare p x) (zipped-bare ps xs)

pub same-portions : (ps : List Placed) (m n : List Rec) → AreAlike m n → filter_map portion (zip ps (segdefs m)) ≡ filter_map portion (zip ps (segdefs n))
same-portions ps m n h = zipped-bare ps (segdefs m) ∙ ap (λ (xs : List (ℕ × SegmentItem)). filter_map portion (zip ps xs)) (same-defs m n h) ∙ sym (zipped-bare ps (segdefs n))
