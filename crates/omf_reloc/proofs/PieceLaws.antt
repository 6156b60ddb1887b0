-- The pieces that records give by the threads in force are those of the definition, each at its place.
use Rattle.std.proofs.Common.{◌≡◌, ℕ, ◌+◌, List, [], ◌∷◌, ◌++◌, refl, sym, ◌∙◌, ap, ap₂, length}
use Rattle.std.specs.Prelude.{map, flat_map, filter_map, Option, Some, None}
use Rattle.std.specs.List.{enumerate_from}
use Rattle.std.proofs.lemmas.Grind.{flat_map-append}
use Rattle.std.proofs.lemmas.List.{map-append}
use Rattle.std.proofs.lemmas.List.Elements.{filter_map-append}
use Rattle.omf_frame.specs.Framing.{Raw, raw_bytes}
use Rattle.omf_frame.specs.declared.fault.Place.{Place}
use Rattle.omf_image.specs.declared.limits.Limits.{Limits}
use Rattle.omf_records.specs.Inner.Reading.{typed}
use Rattle.omf_records.specs.Values.{At, Rec, Contents, Names, Fixups, ModEnd, Subrecord, Thread, Fixup, Reference}
use Rattle.omf_check.proofs.ThreadLaws.{threads_kept}
use Rattle.omf_check.specs.Inner.Kept.{HasThreads, no_threads, set_thread, threads_after}
use Rattle.omf_check.specs.Listed.{placed_from}
use Rattle.omf_check.specs.Sound.{ReferenceHolds, SubrecordHolds, ContentsHold, ModuleHolds}
use Rattle.omf_check.specs.Tables.{subrecords}
use Rattle.omf_check.specs.WellFormed.{recs}
use Rattle.omf_check.specs.declared.threads.Threads.{Threads}
use Rattle.omf_reloc.specs.Inner.Names.{plain_fixups}
use Rattle.omf_reloc.specs.Inner.Pieces.{one_by_one, single_pieces, references_at, reference_places, subrecord_steps, contents_steps, steps_from, given, placed_pieces, IsSet, SubrecordIsSet, SubrecordsAreSet, ContentsAreSet, RecordsAreSet}
use Rattle.omf_reloc.specs.Plain.{Piece, Fixed, End, PlainFixup, piece_of}
use Rattle.omf_reloc.specs.Reach.{fixup_place, reference_places as stood, all_reference_places}
use Rattle.omf_check.proofs.KeptLaws.{threads_next}
use Rattle.omf_reloc.proofs.EarlierLaws.{plain-by, HoldFrom, hold-first, hold-rest, frame-there, target-there}
use Rattle.omf_reloc.proofs.GatherLaws.{pieces_from}
use Rattle.omf_reloc.proofs.WalkLaws.{next-split}

abbrev Placed : Type 0
Placed = Place × Piece

abbrev without_places : List Placed → List Piece
without_places ps = map (λ p. p.1) ps

abbrev singles : ℕ → List PlainFixup → List Piece
singles kind fs = map (λ f. Fixed kind (f ∷ [])) fs

-- The subrecords of a FIXUPP give its fixups.
subs-listed : (at : Place) (kind : ℕ) (threads : Threads) (earlier : List Subrecord) (subs : List (At Subrecord)) → HasThreads threads earlier
    → without_places (given (subrecord_steps threads at kind subs)) ≡ singles kind (plain_fixups earlier subs)
subs-listed at kind threads earlier [] h = refl
subs-listed at kind threads earlier (s ∷ subs) h = by s.within s.item (subs-listed at kind (set_thread threads s.item) (earlier ++ s.item ∷ []) subs (threads_kept.one threads earlier s.item h))
  where
    by : (within : ℕ) (x : Subrecord) → without_places (given (subrecord_steps (set_thread threads x) at kind subs)) ≡ singles kind (plain_fixups (earlier ++ x ∷ []) subs)
        → without_places (given (subrecord_steps threads at kind (record { within = within; item = x } ∷ subs))) ≡ singles kind (plain_fixups earlier (record { within = within; item = x } ∷ subs))
    by within (Thread byte datum) rest = rest
    by within (Fixup locat r) rest = ap₂ (λ y ys. Fixed kind (record { locat = locat; reference = y } ∷ []) ∷ ys) (sym (plain-by threads earlier r h)) rest

-- So does each record give its piece.
contents-listed : (at : Place) (kind : ℕ) (threads : Threads) (earlier : List Subrecord) (c : Contents) → HasThreads threads earlier
    → without_places (given (contents_steps threads at kind c)) ≡ one_by_one (piece_of earlier kind c)
contents-listed at kind threads earlier (Fixups subs) h = subs-listed at kind threads earlier subs h
contents-listed at kind threads earlier (ModEnd byte None) h = refl
contents-listed at kind threads earlier (ModEnd byte (Some r)) h = ap (λ y. End kind byte (Some y) ∷ []) (sym (plain-by threads earlier r h))
contents-listed at kind threads earlier (Names items) h = refl
contents-listed at kind threads earlier _ h = refl

given-more : (xs ys : List (Option Placed)) → without_places (given (xs ++ ys)) ≡ without_places (given xs) ++ without_places (given ys)
given-more xs ys = ap without_places (filter_map-append (λ s. s) xs ys) ∙ map-append (λ p. p.1) (given xs) (given ys)

listed-from : (before : List Rec) (threads : Threads) (xs : List (Place × Rec)) → HasThreads threads (subrecords before)
    → without_places (given (steps_from threads xs)) ≡ flat_map one_by_one (pieces_from before (map (λ x. x.1) xs))
listed-from before threads [] h = refl
listed-from before threads (x ∷ xs) h =
    let r = x.1 in
    given-more (contents_steps threads x.0 r.kind r.contents) (steps_from (threads_after threads r.contents) xs)
    ∙ ap₂ (λ ys zs. ys ++ zs) (contents-listed x.0 r.kind threads (subrecords before) r.contents h)
    (listed-from (before ++ r ∷ []) (threads_after threads r.contents) xs (threads_next threads before r h))

pub pieces-listed : (m : List Rec) (xs : List (Place × Rec)) → map (λ x. x.1) xs ≡ m → without_places (placed_pieces xs) ≡ single_pieces m
pieces-listed m xs e = listed-from [] no_threads xs threads_kept.none ∙ ap (λ rs. flat_map one_by_one (pieces_from [] rs)) e

-- Their references are at the places of the records' references.
abbrev at_number : ℕ → List ℕ → List (ℕ × ℕ)
at_number number ps = map (λ within. (number, within)) ps

abbrev fixup_places : List (At Subrecord) → List ℕ
fixup_places subs = filter_map (λ s. fixup_place s.within s.item) subs

subs-places : (at : Place) (kind : ℕ) (threads : Threads) (subs : List (At Subrecord)) → reference_places (given (subrecord_steps threads at kind subs)) ≡ at_number at.number (fixup_places subs)
subs-places at kind threads [] = refl
subs-places at kind threads (s ∷ subs) = by s.within s.item (subs-places at kind (set_thread threads s.item) subs)
  where
    by : (within : ℕ) (x : Subrecord) → reference_places (given (subrecord_steps (set_thread threads x) at kind subs)) ≡ at_number at.number (fixup_places subs)
        → reference_places (given (subrecord_steps threads at kind (record { within = within; item = x } ∷ subs))) ≡ at_number at.number (fixup_places (record { within = within; item = x } ∷ subs))
    by within (Thread byte datum) rest = rest
    by within (Fixup locat r) rest = ap (λ ys. (at.number, within) ∷ ys) rest

contents-places : (at : Place) (kind : ℕ) (threads : Threads) (c : Contents) → reference_places (given (contents_steps threads at kind c)) ≡ at_number at.number (stood c)
contents-places at kind threads (Fixups subs) = subs-places at kind threads subs
contents-places at kind threads (ModEnd byte None) = refl
contents-places at kind threads (ModEnd byte (Some r)) = refl
contents-places at kind threads (Names items) = refl
contents-places at kind threads _ = refl

places-more : (xs ys : List (Option Placed)) → reference_places (given (xs ++ ys)) ≡ reference_places (given xs) ++ reference_places (given ys)
places-more xs ys = ap reference_places (filter_map-append (λ s. s) xs ys) ∙ flat_map-append (λ p. references_at p.0 p.1) (given xs) (given ys)

places-from : (threads : Threads) (xs : List (Place × Rec)) → reference_places (given (steps_from threads xs)) ≡ flat_map (λ x. at_number x.0.number (stood x.1.contents)) xs
places-from threads [] = refl
places-from threads (x ∷ xs) =
    places-more (contents_steps threads x.0 x.1.kind x.1.contents) (steps_from (threads_after threads x.1.contents) xs)
    ∙ ap₂ (λ ys zs. ys ++ zs) (contents-places x.0 x.1.kind threads x.1.contents) (places-from (threads_after threads x.1.contents) xs)

abbrev record_places : List (Place × Rec) → List (ℕ × ℕ)
record_places xs = flat_map (λ x. at_number x.0.number (stood x.1.contents)) xs

abbrev number_places : List (ℕ × Rec) → List (ℕ × ℕ)
number_places xs = flat_map (λ x. at_number x.0 (stood x.1.contents)) xs

raws-placed : (number start : ℕ) (rs : List Raw) → record_places (placed_from number start rs) ≡ number_places (enumerate_from number (recs rs))
raws-placed number start [] = refl
raws-placed number start (r ∷ rs) = ap (λ ps. at_number number (stood (typed r).contents) ++ ps) (raws-placed (number + 1) (start + length (raw_bytes r)) rs)

pub pieces-placed : (rs : List Raw) → reference_places (placed_pieces (placed_from 0 0 rs)) ≡ all_reference_places (recs rs)
pieces-placed rs = places-from no_threads (placed_from 0 0 rs) ∙ raws-placed 0 0 rs

-- The records of a module, numbered.
abbrev at_start : ℕ → Place
at_start number = record { number = number; start = 0; within = 0 }

abbrev numbered_from : ℕ → List Rec → List (Place × Rec)
numbered_from number rs = map (λ x. (at_start x.0, x.1)) (enumerate_from number rs)

abbrev pub numbered_records : List Rec → List (Place × Rec)
numbered_records m = numbered_from 0 m

pub numbered-listed : (number : ℕ) (rs : List Rec) → map (λ x. x.1) (numbered_from number rs) ≡ rs
numbered-listed number [] = refl
numbered-listed number (r ∷ rs) = ap (λ xs. r ∷ xs) (numbered-listed (number + 1) rs)

numbered-same : (number : ℕ) (rs : List Rec) → record_places (numbered_from number rs) ≡ number_places (enumerate_from number rs)
numbered-same number [] = refl
numbered-same number (r ∷ rs) = ap (λ ps. at_number number (stood r.contents) ++ ps) (numbered-same (number + 1) rs)

pub numbered-placed : (m : List Rec) → reference_places (placed_pieces (numbered_records m)) ≡ all_reference_places m
numbered-placed m = places-from no_threads (numbered_records m) ∙ numbered-same 0 m

-- Each thread that is named is set.
reference-set : (before : List Rec) (threads : Threads) (earlier : List Subrecord) (r : Reference) → HasThreads threads earlier → ReferenceHolds before earlier r → IsSet threads r
reference-set before threads earlier r h holds = record {
  frame = frame-there threads earlier r h holds.frame_set;
  target = target-there threads earlier r h holds.target_set;
}

subrecord-set : (before : List Rec) (threads : Threads) (earlier : List Subrecord) (s : Subrecord) → HasThreads threads earlier → SubrecordHolds before earlier s → SubrecordIsSet threads s
subrecord-set before threads earlier (Thread byte datum) h holds = tt
subrecord-set before threads earlier (Fixup locat r) h holds = reference-set before threads earlier r h holds.reference

subrecords-set : (before : List Rec) (threads : Threads) (earlier : List Subrecord) (subs : List (At Subrecord)) → HasThreads threads earlier → HoldFrom before earlier subs → SubrecordsAreSet threads subs
subrecords-set before threads earlier [] h holds = tt
subrecords-set before threads earlier (s ∷ subs) h holds = (
  subrecord-set before threads earlier s.item h (hold-first before earlier s subs holds),
  subrecords-set before (set_thread threads s.item) (earlier ++ s.item ∷ []) subs (threads_kept.one threads earlier s.item h) (hold-rest before earlier s subs holds),
)

contents-set : (limits : Limits) (before : List Rec) (kind : ℕ) (threads : Threads) (c : Contents) → HasThreads threads (subrecords before) → ContentsHold limits before kind c → ContentsAreSet threads c
contents-set limits before kind threads (Fixups subs) h holds = subrecords-set before threads (subrecords before) subs h holds
contents-set limits before kind threads (ModEnd byte None) h holds = tt
contents-set limits before kind threads (ModEnd byte (Some r)) h holds = reference-set before threads (subrecords before) r h holds.reference
contents-set limits before kind threads (Names items) h holds = tt
contents-set limits before kind threads _ h holds = tt

set-from : (limits : Limits) (m before : List Rec) (threads : Threads) (xs : List (Place × Rec)) → ModuleHolds limits m → m ≡ before ++ map (λ x. x.1) xs → HasThreads threads (subrecords before)
    → RecordsAreSet threads xs
set-from limits m before threads [] holds e h = tt
set-from limits m before threads (x ∷ xs) holds e h = (
  contents-set limits before x.1.kind threads x.1.contents h (holds.each before (map (λ x. x.1) xs) x.1 e),
  set-from limits m (before ++ x.1 ∷ []) (threads_after threads x.1.contents) xs holds (next-split m before (map (λ x. x.1) xs) x.1 e) (threads_next threads before x.1 h),
)

pub records-set : (limits : Limits) (m : List Rec) (xs : List (Place × Rec)) → ModuleHolds limits m → map (λ x. x.1) xs ≡ m → RecordsAreSet no_threads xs
records-set limits m xs holds e = set-from limits m [] no_threads xs holds (sym e) threads_kept.none
