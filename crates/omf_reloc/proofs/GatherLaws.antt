-- The data records of a module with their fixups, gathered from left to right, as a walk over the records has them.
use Rattle.std.proofs.Common.{◌≡◌, ℕ, List, [], ◌∷◌, ◌++◌, append_assoc, refl, sym, ap, ap₂, ◌∙◌}
use Rattle.std.specs.Prelude.{All, map, Option, Some, None, option_map, option_to_list, IsOk}
use Rattle.std.proofs.lemmas.List.{append-nil, map-append}
use Rattle.std.proofs.lemmas.List.Elements.{All-nil, All-cons, All-append}
use Rattle.std.proofs.lemmas.Grind.{flat_map-append}
use Rattle.omf_frame.specs.Bytes.{with_before, with_after}
use Rattle.omf_image.specs.Inner.Expanding.{expanded}
use Rattle.omf_image.specs.Overlay.{Laid}
use Rattle.omf_image.specs.declared.limits.Limits.{Limits}
use Rattle.omf_records.specs.Values.{Rec, Contents, Plain, Iterated, Fixups, ModEnd, DataItem, Subrecord, width}
use Rattle.omf_check.specs.Tables.{subrecords, subrecords_in}
use Rattle.omf_reloc.specs.Inner.Names.{plain_fixups}
use Rattle.omf_reloc.specs.Image.{laid, laid_contents, patched}
use Rattle.omf_reloc.specs.Offsets.{outcome}
use Rattle.omf_placement.specs.Placement.{Places}
use Rattle.omf_reloc.specs.Plain.{Piece, Kept, Fixed, End, PlainFixup, piece_of, pieces, fixups_of_data}
use Rattle.omf_reloc.specs.Reach.{causes, piece_causes}
use Rattle.omf_reloc.proofs.AddedLaws.{IsFine, left, right, fine-all}

-- An LEDATA, or an LIDATA of some type, with fixups.
pub data Gathered : Type 0 where
  Once : DataItem → List (ℕ × PlainFixup) → Gathered
  Repeated : ℕ → DataItem → List (ℕ × PlainFixup) → Gathered

abbrev pub item_of : Gathered → DataItem
item_of (Once d fs) = d
item_of (Repeated kind d fs) = d

abbrev pub fixups_of : Gathered → List (ℕ × PlainFixup)
fixups_of (Once d fs) = fs
fixups_of (Repeated kind d fs) = fs

-- with more fixups after its own
abbrev pub more : List (ℕ × PlainFixup) → Gathered → Gathered
more fs (Once d gs) = Once d (gs ++ fs)
more fs (Repeated kind d gs) = Repeated kind d (gs ++ fs)

pub more-none : (g : Gathered) → more [] g ≡ g
more-none (Once d gs) = ap (Once d) (append-nil gs)
more-none (Repeated kind d gs) = ap (Repeated kind d) (append-nil gs)

pub more-more : (fs gs : List (ℕ × PlainFixup)) (g : Gathered) → more gs (more fs g) ≡ more (fs ++ gs) g
more-more fs gs (Once d hs) = ap (Once d) (append_assoc hs fs gs)
more-more fs gs (Repeated kind d hs) = ap (Repeated kind d) (append_assoc hs fs gs)

-- All of a module's, each with the fixups up to the next data record.
abbrev pub gathered_contents : ℕ → Contents → List (ℕ × PlainFixup) → List Gathered
gathered_contents kind (Plain d) fs = Once d fs ∷ []
gathered_contents kind (Iterated d) fs = Repeated kind d fs ∷ []
gathered_contents kind _ fs = []

abbrev pub gathered_piece : Piece → List Piece → List Gathered
gathered_piece (Kept r) after = gathered_contents r.kind r.contents (fixups_of_data after)
gathered_piece (Fixed kind fs) after = []
gathered_piece (End kind byte s) after = []

abbrev pub gathered : List Piece → List Gathered
gathered ps = with_after gathered_piece ps

-- From left to right: a data record closes the open one and is open itself; fixups belong to the open one.
abbrev pub tagged : ℕ → List PlainFixup → List (ℕ × PlainFixup)
tagged kind fs = map (λ f. (kind, f)) fs

abbrev pub closed_by : Contents → Option Gathered → List Gathered
closed_by (Plain d) open_one = option_to_list open_one
closed_by (Iterated d) open_one = option_to_list open_one
closed_by _ open_one = []

abbrev pub opened_by : List Subrecord → ℕ → Contents → Option Gathered → Option Gathered
opened_by earlier kind (Plain d) open_one = Some (Once d [])
opened_by earlier kind (Iterated d) open_one = Some (Repeated kind d [])
opened_by earlier kind (Fixups subs) open_one = option_map (more (tagged kind (plain_fixups earlier subs))) open_one
opened_by earlier kind _ open_one = open_one

abbrev pub gathered_from : List Subrecord → Option Gathered → List Rec → List Gathered
gathered_from earlier open_one [] = option_to_list open_one
gathered_from earlier open_one (r ∷ rs) = closed_by r.contents open_one ++ gathered_from (earlier ++ subrecords_in r.contents) (opened_by earlier r.kind r.contents open_one) rs

-- Both are the same.
abbrev pub piece_at : List Rec → Rec → List Piece
piece_at before r = piece_of (subrecords before) r.kind r.contents ∷ []

abbrev pub pieces_from : List Rec → List Rec → List Piece
pieces_from before rs = with_before piece_at before rs

pub subrecords-more : (before : List Rec) (r : Rec) → subrecords (before ++ r ∷ []) ≡ subrecords before ++ subrecords_in r.contents
subrecords-more before r = flat_map-append (λ x. subrecords_in x.contents) before (r ∷ []) ∙ ap (λ t. subrecords before ++ t) (append-nil (subrecords_in r.contents))

abbrev pub with_open : Option Gathered → List Piece → List Gathered
with_open open_one ps = option_to_list (option_map (more (fixups_of_data ps)) open_one) ++ gathered ps

pub open-none : (open_one : Option Gathered) → option_to_list (option_map (more []) open_one) ≡ option_to_list open_one
open-none None = refl
open-none (Some g) = ap (λ x. x ∷ []) (more-none g)

pub open-more : (fs gs : List (ℕ × PlainFixup)) (open_one : Option Gathered) → option_map (more (fs ++ gs)) open_one ≡ option_map (more gs) (option_map (more fs) open_one)
open-more fs gs None = refl
open-more fs gs (Some g) = ap Some (sym (more-more fs gs g))

-- one record more, where those after it are gathered so
step : (before : List Rec) (kind : ℕ) (c : Contents) (open_one : Option Gathered) (ps : List Piece)
    → with_open open_one (piece_of (subrecords before) kind c ∷ ps) ≡ closed_by c open_one ++ with_open (opened_by (subrecords before) kind c open_one) ps
step before kind (Plain d) open_one ps = ap (λ t. t ++ gathered (piece_of (subrecords before) kind (Plain d) ∷ ps)) (open-none open_one)
step before kind (Iterated d) open_one ps = ap (λ t. t ++ gathered (piece_of (subrecords before) kind (Iterated d) ∷ ps)) (open-none open_one)
step before kind (Fixups subs) open_one ps = ap (λ t. option_to_list t ++ gathered ps) (open-more (tagged kind (plain_fixups (subrecords before) subs)) (fixups_of_data ps) open_one)
step before kind (ModEnd byte s) open_one ps = refl
step before kind _ open_one ps = refl

pub gather-from : (before rs : List Rec) (open_one : Option Gathered) → with_open open_one (pieces_from before rs) ≡ gathered_from (subrecords before) open_one rs
gather-from before [] open_one = append-nil (option_to_list (option_map (more []) open_one)) ∙ open-none open_one
gather-from before (r ∷ rs) open_one =
    let next = opened_by (subrecords before) r.kind r.contents open_one in
    step before r.kind r.contents open_one (pieces_from (before ++ r ∷ []) rs)
    ∙ ap (λ t. closed_by r.contents open_one ++ t) (gather-from (before ++ r ∷ []) rs next ∙ ap (λ s. gathered_from s next rs) (subrecords-more before r))

pub gathered-all : (m : List Rec) → gathered (pieces m) ≡ gathered_from [] None m
gathered-all m = gather-from [] m None

-- The bytes that each lays.
module _ (limits : Limits) (pl : Places) where
  abbrev pub laid_of : Gathered → Laid
  laid_of (Once d fs) = record { segment = d.segment.item; offset = d.offset.item; bytes = patched pl d fs }
  laid_of (Repeated kind d fs) = record { segment = d.segment.item; offset = d.offset.item; bytes = expanded (width kind) limits d.bytes }

  laid-contents : (kind : ℕ) (c : Contents) (after : List Piece) → laid_contents limits pl kind c after ≡ map laid_of (gathered_contents kind c (fixups_of_data after))
  laid-contents kind (Plain d) after = refl
  laid-contents kind (Iterated d) after = refl
  laid-contents kind _ after = refl

  pub laid-gathered : (ps : List Piece) → laid limits pl ps ≡ map laid_of (gathered ps)
  laid-gathered [] = refl
  laid-gathered (Kept r ∷ ps) =
      ap₂ (λ x y. x ++ y) (laid-contents r.kind r.contents ps) (laid-gathered ps)
      ∙ sym (map-append laid_of (gathered_contents r.kind r.contents (fixups_of_data ps)) (gathered ps))
  laid-gathered (Fixed kind fs ∷ ps) = laid-gathered ps
  laid-gathered (End kind byte s ∷ ps) = laid-gathered ps

-- Where a placement reaches, so do all of theirs.
module _ (pl : Places) where
  abbrev pub Reach : Gathered → Type 0
  Reach g = All (λ f. IsOk (outcome pl (item_of g) f)) (fixups_of g)

  reach-contents : (r : Rec) (after : List Piece) → All IsFine (piece_causes pl (Kept r) after) → All Reach (gathered_contents r.kind r.contents (fixups_of_data after))
  reach-contents r after h = by r.kind r.contents h
    where
      by : (kind : ℕ) (c : Contents) → All IsFine (piece_causes pl (Kept (record { kind = kind; contents = c })) after) → All Reach (gathered_contents kind c (fixups_of_data after))
      by kind (Plain d) h = All-cons Reach (Once d (fixups_of_data after)) [] (fine-all pl d (fixups_of_data after) h) (All-nil Reach)
      by kind (Iterated d) h = All-cons Reach (Repeated kind d (fixups_of_data after)) [] (fine-all pl d (fixups_of_data after) h) (All-nil Reach)
      by kind _ h = All-nil Reach

  pub reach-gathered : (ps : List Piece) → All IsFine (causes pl ps) → All Reach (gathered ps)
  reach-gathered [] h = All-nil Reach
  reach-gathered (Kept r ∷ ps) h =
      All-append Reach (gathered_contents r.kind r.contents (fixups_of_data ps)) (gathered ps)
      (reach-contents r ps (left (piece_causes pl (Kept r) ps) (causes pl ps) h)) (reach-gathered ps (right (piece_causes pl (Kept r) ps) (causes pl ps) h))
  reach-gathered (Fixed kind fs ∷ ps) h = reach-gathered ps h
  reach-gathered (End kind byte s ∷ ps) h = reach-gathered ps (right (piece_causes pl (End kind byte s) ps) (causes pl ps) h)
