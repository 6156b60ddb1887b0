-- What is known of the pieces of a well-formed module: each fixup follows an LEDATA and is inside its data, each index is in its table,
-- each data record is inside its segment, and the end is the last piece.
use Rattle.std.proofs.Common.{◌≡◌, ◌≢◌, ℕ, ◌+◌, ◌≤◌, List, [], ◌∷◌, ◌++◌, length, true, refl, ◌∙◌, ap, subst}
use Rattle.std.specs.Prelude.{flat_map, Option, Some, None, IsOk, ⊤}
use Rattle.std.proofs.lemmas.List.{append-nil}
use Rattle.omf_frame.specs.Bytes.{last}
use Rattle.omf_image.specs.Inner.Expanding.{expanded, expanded_length}
use Rattle.omf_image.specs.declared.limits.Limits.{Limits}
use Rattle.omf_records.specs.Inner.Names.{location_size}
use Rattle.omf_records.specs.Values.{At, Rec, Contents, Names, Plain, Iterated, Fixups, ModEnd, DataItem, Subrecord, Thread, Fixup, Reference, width, location_type, location_offset}
use Rattle.omf_check.specs.Sound.{FrameIsDefined, TargetIsDefined, ReferenceHolds, FixupHolds, SubrecordHolds, DataHolds, ContentsHold, is_module_end, ModuleHolds}
use Rattle.omf_check.specs.Tables.{subrecords, data_in, last_data, entries, is_defined}
use Rattle.omf_check.specs.Threads.{PlainReference, plain}
use Rattle.omf_check.specs.declared.method.TargetMethod.{TargetMethod}
use Rattle.omf_check.specs.declared.method.FrameMethod.{FrameMethod}
use Rattle.omf_check.specs.declared.method.FrameMethod.TheVariants.{Of, Location as F4, Target as F5}
use Rattle.omf_records.specs.declared.method.Kind.{Kind}
use Rattle.omf_records.specs.declared.method.Kind.TheVariants as kinds
use Rattle.omf_reloc.specs.Inner.Names.{plain_fixups}
use Rattle.omf_reloc.specs.Inner.Pieces.{one_by_one, single_pieces}
use Rattle.omf_reloc.specs.Plain.{Piece, Kept, Fixed, End, PlainFixup, piece_of}
use Rattle.omf_reloc.proofs.EarlierLaws.{HoldFrom, hold-first, hold-rest, ends-here}
use Rattle.omf_reloc.proofs.GatherLaws.{pieces_from}
use Rattle.omf_reloc.proofs.SingleLaws.{singles}
use Rattle.omf_reloc.proofs.WalkLaws.{defined-after, lies-in, last-more, last-end, next-split}
use Rattle.omf_reloc.specs.Laws.{LiesInSegment}

-- The entries of a frame and a target are in the module's tables.
pub record PlainHolds (m : List Rec) (r : PlainReference) : Type 0 where
  pub frame : FrameIsDefined m r.frame
  pub target : TargetIsDefined m r.target

-- A fixup after the last data record.
pub record PlainFixupHolds (m : List Rec) (last_one : Option Contents) (f : PlainFixup) : Type 0 where
  pub data_record : DataItem
  pub is_last : last_one ≡ Some (Plain data_record)
  pub inside : location_offset f.locat + location_size (location_type f.locat) ≤ length data_record.bytes
  pub reference : PlainHolds m f.reference

-- A data record.
pub record PlacedDataHolds (m : List Rec) (d : DataItem) (size : ℕ) : Type 0 where
  pub lies : LiesInSegment m d.segment.item d.offset.item size
  pub short : length d.bytes ≤ 65534

pub record RepeatedHolds (limits : Limits) (m : List Rec) (kind : ℕ) (d : DataItem) : Type 0 where
  pub expands : IsOk (expanded_length (width kind) limits d.bytes)
  pub data_holds : PlacedDataHolds m d (length (expanded (width kind) limits d.bytes))

abbrev pub KeptHolds : Limits → List Rec → ℕ → Contents → Type 0
KeptHolds limits m kind (Plain d) = PlacedDataHolds m d (length d.bytes)
KeptHolds limits m kind (Iterated d) = RepeatedHolds limits m kind d
KeptHolds limits m kind _ = ⊤

-- A piece, with the last data record before it and the pieces after it. A FIXUPP is of one fixup.
abbrev pub PieceHolds : Limits → List Rec → Option Contents → Piece → List Piece → Type 0
PieceHolds limits m last_one (Kept r) after = KeptHolds limits m r.kind r.contents
PieceHolds limits m last_one (Fixed kind []) after = ⊥
PieceHolds limits m last_one (Fixed kind (f ∷ [])) after = PlainFixupHolds m last_one f
PieceHolds limits m last_one (Fixed kind (f ∷ g ∷ fs)) after = ⊥
PieceHolds limits m last_one (End kind byte None) after = after ≡ []
PieceHolds limits m last_one (End kind byte (Some r)) after = PlainHolds m r × (r.frame ≢ F4) × (after ≡ [])

-- The last data record after one more piece.
abbrev pub data_kept : Contents → Option Contents → Option Contents
data_kept (Plain d) last_one = Some (Plain d)
data_kept (Iterated d) last_one = Some (Iterated d)
data_kept _ last_one = last_one

abbrev pub data_after : Piece → Option Contents → Option Contents
data_after (Kept r) last_one = data_kept r.contents last_one
data_after (Fixed kind fs) last_one = last_one
data_after (End kind byte s) last_one = last_one

abbrev pub PiecesHold : Limits → List Rec → Option Contents → List Piece → Type 0
PiecesHold limits m last_one [] = ⊤
PiecesHold limits m last_one (p ∷ ps) = PieceHolds limits m last_one p ps × PiecesHold limits m (data_after p last_one) ps

module _ (limits : Limits) (m : List Rec) (holds : ModuleHolds limits m) where
  module _ (before rest : List Rec) (e : m ≡ before ++ rest) where
    entry-defined : (k : Kind) (i : ℕ) → is_defined (entries before k) i ≡ true → is_defined (entries m k) i ≡ true
    entry-defined kinds.Segment i h = (defined-after m before rest e).0 i h
    entry-defined kinds.Group i h = (defined-after m before rest e).1 i h
    entry-defined kinds.External i h = (defined-after m before rest e).2 i h

    target-defined : (t : TargetMethod) → TargetIsDefined before t → TargetIsDefined m t
    target-defined t h = entry-defined t.kind t.index h

    frame-defined : (f : FrameMethod) → FrameIsDefined before f → FrameIsDefined m f
    frame-defined (Of t) h = target-defined t h
    frame-defined F4 h = tt
    frame-defined F5 h = tt

    plain-holds : (earlier : List Subrecord) (r : Reference) → ReferenceHolds before earlier r → PlainHolds m (plain earlier r)
    plain-holds earlier r h = record { frame = frame-defined (plain earlier r).frame h.frame; target = target-defined (plain earlier r).target h.target }

    data-holds : (d : DataItem) (size : ℕ) → DataHolds before d size → PlacedDataHolds m d size
    data-holds d size h = record { lies = lies-in m before rest d size e h; short = h.short }

    -- The fixups of a FIXUPP.
    module _ (kind : ℕ) (last_one : Option Contents) (l : last_one ≡ last_data before) (qs : List Piece) (behind : PiecesHold limits m last_one qs) where
      fixup-holds : (earlier : List Subrecord) (locat : ℕ) (r : Reference) → FixupHolds before earlier locat r → PlainFixupHolds m last_one (record { locat = locat; reference = plain earlier r })
      fixup-holds earlier locat r h = record {
        data_record = h.data_record;
        is_last = l ∙ h.last;
        inside = h.inside;
        reference = plain-holds earlier r h.reference;
      }

      fixups-hold : (earlier : List Subrecord) (subs : List (At Subrecord)) → HoldFrom before earlier subs → PiecesHold limits m last_one (singles kind (plain_fixups earlier subs) ++ qs)
      fixups-hold earlier [] h = behind
      fixups-hold earlier (s ∷ subs) h = by s.within s.item (hold-first before earlier s subs h) (fixups-hold (earlier ++ s.item ∷ []) subs (hold-rest before earlier s subs h))
        where
          by : (within : ℕ) (x : Subrecord) → SubrecordHolds before earlier x → PiecesHold limits m last_one (singles kind (plain_fixups (earlier ++ x ∷ []) subs) ++ qs)
              → PiecesHold limits m last_one (singles kind (plain_fixups earlier (record { within = within; item = x } ∷ subs)) ++ qs)
          by within (Thread byte datum) g k = k
          by within (Fixup locat r) g k = (fixup-holds earlier locat r g, k)

    -- One record.
    record-holds : (kind : ℕ) (c : Contents) (last_one next : Option Contents) (qs : List Piece) → last_one ≡ last_data before → next ≡ data_kept c last_one
        → ContentsHold limits before kind c → (is_module_end c ≡ true → qs ≡ []) → PiecesHold limits m next qs → PiecesHold limits m last_one (one_by_one (piece_of (subrecords before) kind c) ++ qs)
    record-holds kind (Plain d) last_one next qs l n h ended k = (data-holds d (length d.bytes) h, subst (λ x. PiecesHold limits m x qs) n k)
    record-holds kind (Iterated d) last_one next qs l n h ended k = (
      record { expands = h.expands; data_holds = data-holds d (length (expanded (width kind) limits d.bytes)) h.lies },
      subst (λ x. PiecesHold limits m x qs) n k,
    )
    record-holds kind (Fixups subs) last_one next qs l n h ended k = fixups-hold kind last_one l qs (subst (λ x. PiecesHold limits m x qs) n k) (subrecords before) subs h
    record-holds kind (ModEnd byte None) last_one next qs l n h ended k = (ended refl, subst (λ x. PiecesHold limits m x qs) n k)
    record-holds kind (ModEnd byte (Some r)) last_one next qs l n h ended k =
        ((plain-holds (subrecords before) r h.reference, h.frame, ended refl), subst (λ x. PiecesHold limits m x qs) n k)
    record-holds kind (Names items) last_one next qs l n h ended k = (tt, subst (λ x. PiecesHold limits m x qs) n k)
    record-holds kind _ last_one next qs l n h ended k = (tt, subst (λ x. PiecesHold limits m x qs) n k)

  abbrev data_of : List Rec → List Contents
  data_of before = flat_map (λ x. data_in x.contents) before

  last-by : (xs : List Contents) (c : Contents) → last (xs ++ data_in c) ≡ data_kept c (last xs)
  last-by xs (Plain d) = last-end None xs (Plain d)
  last-by xs (Iterated d) = last-end None xs (Iterated d)
  last-by xs (Names items) = ap last (append-nil xs)
  last-by xs _ = ap last (append-nil xs)

  hold-from : (before rest : List Rec) → m ≡ before ++ rest → PiecesHold limits m (last_data before) (flat_map one_by_one (pieces_from before rest))
  hold-from before [] e = tt
  hold-from before (r ∷ rest) e =
      record-holds before (r ∷ rest) e r.kind r.contents (last_data before) (last_data (before ++ r ∷ []))
      (flat_map one_by_one (pieces_from (before ++ r ∷ []) rest)) refl
      (last-more before r ∙ last-by (data_of before) r.contents)
      (holds.each before rest r e) (λ t. ap (λ xs. flat_map one_by_one (pieces_from (before ++ r ∷ []) xs)) (ends-here limits m holds before rest r e t))
      (hold-from (before ++ r ∷ []) rest (next-split m before rest r e))

  pub pieces-hold : PiecesHold limits m None (single_pieces m)
  pieces-hold = hold-from [] m refl
