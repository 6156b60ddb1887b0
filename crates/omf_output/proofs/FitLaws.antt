-- The data of a module end where its extents do; each of its pieces can be laid in as many bytes.
use Rattle.std.proofs.Common.{◌≡◌, ℕ, ◌+◌, ◌<◌, ◌≤◌, List, [], ◌∷◌, ◌++◌, length, map, max, refl, sym, ◌∙◌, ap, ap₂, subst, arith}
use Rattle.std.specs.Prelude.{All, Option, Some, None, flat_map, fold, nat_lt, ⊤}
use Rattle.std.proofs.lemmas.Grind.{flat_map-append}
use Rattle.std.proofs.lemmas.Bool.{lt-ltb}
use Rattle.std.proofs.lemmas.List.{map-append}
use Rattle.std.proofs.lemmas.List.Sums.{fold-append}
use Rattle.std.proofs.lemmas.List.Elements.{All-nil, All-cons, All-head, All-tail, All-append}
use Rattle.omf_frame.specs.declared.fault.Place.{Place}
use Rattle.omf_records.specs.Values.{Contents, Names, Plain, Iterated, Fixups, ModEnd, Rec, Subrecord, width}
use Rattle.omf_image.specs.Limits.{profile_limits}
use Rattle.omf_image.specs.Painting.{Fits, extent}
use Rattle.omf_check.specs.Sound.{ModuleHolds}
use Rattle.omf_check.specs.Tables.{subrecords}
use Rattle.omf_placement.specs.Placement.{Places}
use Rattle.omf_reloc.specs.Inner.Names.{plain_fixups}
use Rattle.omf_image.specs.Inner.Expanding.{expanded}
use Rattle.omf_image.specs.Overlay.{Laid}
use Rattle.omf_reloc.specs.Image.{laid}
use Rattle.omf_reloc.specs.Inner.Measuring.{CanMeasure, measured, measured_contents}
use Rattle.omf_reloc.specs.Inner.Pieces.{one_by_one, single_pieces}
use Rattle.omf_reloc.specs.Plain.{Piece, Kept, Fixed, End, PlainFixup, piece_of, pieces}
use Rattle.omf_reloc.proofs.GatherLaws.{pieces_from}
use Rattle.omf_reloc.proofs.HoldLaws.{KeptHolds, PieceHolds, PiecesHold, PlainFixupHolds, data_after, data_kept, pieces-hold}
use Rattle.omf_reloc.proofs.MeasureLaws.{places-are}
use Rattle.omf_reloc.proofs.SingleLaws.{singles}
use Rattle.omf_reloc.proofs.WalkLaws.{all-left as part-left, all-right as part-right}
use Rattle.omf_output.specs.Inner.Laying.{AllCanLay, CanEnd, CanLay, DataFit, FixupFits, Source, address_at, all_laid, end_of, laid_by, record_ends, source_after, source_in}
use Rattle.omf_output.specs.Exe.Memory.{Chunk, chunk_end, chunks, lying, with_bytes}
use Rattle.omf_output.specs.Exe.Filled.{has_any}
use Rattle.omf_output.specs.Exe.Moved.{Movers}
use Rattle.omf_output.proofs.ChunkMoves.{are-laid}
use Rattle.omf_output.proofs.FilledLaws.{end-above, map-only, only-all}
use Rattle.omf_output.proofs.OverlapLaws.{unmapped}

-- ---- ends of chunks and of extents

pub map-both : {A B C : Type 0} (f : B → C) (g : A → B) (xs : List A) → map f (map g xs) ≡ map (λ x. f (g x)) xs
map-both f g [] = refl
map-both f g (x ∷ xs) = ap (λ ys. f (g x) ∷ ys) (map-both f g xs)

abbrev pair_end : ℕ × List ℕ → ℕ
pair_end x = x.0 + length x.1

flat-flat : {A B C : Type 0} (f : B → List C) (g : A → List B) (xs : List A) → flat_map f (flat_map g xs) ≡ flat_map (λ x. flat_map f (g x)) xs
flat-flat f g [] = refl
flat-flat f g (x ∷ xs) = flat_map-append f (g x) (flat_map g xs) ∙ ap (λ ys. flat_map f (g x) ++ ys) (flat-flat f g xs)

-- The bytes that there are end where the extents that are not empty do.
bytes-end : (pl : Places) (ls : List Laid) → map pair_end (flat_map with_bytes (map (lying pl) ls)) ≡ flat_map (end_of pl) (map extent ls)
bytes-end pl [] = refl
bytes-end pl (l ∷ ls) =
    map-append pair_end (with_bytes (lying pl l)) (flat_map with_bytes (map (lying pl) ls))
    ∙ ap₂ (λ xs ys. xs ++ ys) (map-only pair_end (has_any l.bytes) (lying pl l)) (bytes-end pl ls)

pub chunks-end : (mv : Movers) (pl : Places) (m : List Rec) → ModuleHolds profile_limits m → map chunk_end (chunks mv pl m) ≡ flat_map (record_ends pl) m
chunks-end mv pl m holds =
    sym (map-both pair_end (λ (c : Chunk). (c.address, c.bytes)) (chunks mv pl m))
    ∙ ap (map pair_end) (are-laid mv pl m)
    ∙ bytes-end pl (laid profile_limits pl (pieces m))
    ∙ ap (flat_map (end_of pl)) (places-are pl m holds)
    ∙ flat-flat (end_of pl) measured m

pub all-end : (mv : Movers) (pl : Places) (n : ℕ) (m : List Rec) → ModuleHolds profile_limits m → All (λ x. x ≤ n) (flat_map (record_ends pl) m) → All (λ c. chunk_end c ≤ n) (chunks mv pl m)
all-end mv pl n m holds h = unmapped (λ x. x ≤ n) chunk_end (chunks mv pl m) (subst (All (λ x. x ≤ n)) (sym (chunks-end mv pl m holds)) h)

-- ---- the pieces

module _ (pl : Places) (n : ℕ) where
  abbrev Below : ℕ → Type 0
  Below x = x ≤ n

  abbrev KeptEnds : Piece → Type 0
  KeptEnds (Kept r) = All Below (record_ends pl r)
  KeptEnds (Fixed kind fs) = ⊤
  KeptEnds (End kind byte start) = ⊤

  singles-end : (kind : ℕ) (fs : List PlainFixup) → All KeptEnds (singles kind fs)
  singles-end kind [] = All-nil KeptEnds
  singles-end kind (f ∷ fs) = All-cons KeptEnds (Fixed kind (f ∷ [])) (singles kind fs) tt (singles-end kind fs)

  record-ends : (earlier : List Subrecord) (kind : ℕ) (c : Contents) → All Below (flat_map (end_of pl) (measured_contents kind c)) → All KeptEnds (one_by_one (piece_of earlier kind c))
  record-ends earlier kind (Fixups subs) h = singles-end kind (plain_fixups earlier subs)
  record-ends earlier kind (ModEnd byte start) h = All-cons KeptEnds _ [] tt (All-nil KeptEnds)
  record-ends earlier kind (Names items) h = All-cons KeptEnds _ [] h (All-nil KeptEnds)
  record-ends earlier kind _ h = All-cons KeptEnds _ [] h (All-nil KeptEnds)

  all-left : (xs ys : List ℕ) → All Below (xs ++ ys) → All Below xs
  all-left [] ys h = All-nil Below
  all-left (x ∷ xs) ys h = All-cons Below x xs (All-head Below x (xs ++ ys) h) (all-left xs ys (All-tail Below x (xs ++ ys) h))

  all-right : (xs ys : List ℕ) → All Below (xs ++ ys) → All Below ys
  all-right [] ys h = h
  all-right (x ∷ xs) ys h = all-right xs ys (All-tail Below x (xs ++ ys) h)

  ends-from : (before rest : List Rec) → All Below (flat_map (record_ends pl) rest) → All KeptEnds (flat_map one_by_one (pieces_from before rest))
  ends-from before [] h = All-nil KeptEnds
  ends-from before (r ∷ rest) h =
      All-append KeptEnds (one_by_one (piece_of (subrecords before) r.kind r.contents)) (flat_map one_by_one (pieces_from (before ++ r ∷ []) rest))
      (record-ends (subrecords before) r.kind r.contents (all-left (record_ends pl r) (flat_map (record_ends pl) rest) h))
      (ends-from (before ++ r ∷ []) rest (all-right (record_ends pl r) (flat_map (record_ends pl) rest) h))

  -- The last data record as a source of fixups; its data end by n.
  abbrev source_of : Option Contents → Source
  source_of None = None
  source_of (Some c) = source_in c None

  abbrev LastFits : Option Contents → Type 0
  LastFits None = ⊤
  LastFits (Some (Plain d)) = 0 < length d.bytes → address_at pl d.segment.item d.offset.item + length d.bytes ≤ n
  LastFits (Some _) = ⊤

  source-kept : (c : Contents) (last_one : Option Contents) → source_in c (source_of last_one) ≡ source_of (data_kept c last_one)
  source-kept (Plain d) last_one = refl
  source-kept (Iterated d) last_one = refl
  source-kept (Names items) last_one = refl
  source-kept _ last_one = refl

  source-next : (p : Piece) (last_one : Option Contents) → source_after p (source_of last_one) ≡ source_of (data_after p last_one)
  source-next (Kept r) last_one = source-kept r.contents last_one
  source-next (Fixed kind fs) last_one = refl
  source-next (End kind byte start) last_one = refl

  kept-fits : (kind : ℕ) (c : Contents) (last_one : Option Contents) → LastFits last_one → All Below (flat_map (end_of pl) (measured_contents kind c)) → LastFits (data_kept c last_one)
  kept-fits kind (Plain d) last_one l h = λ some. only-all Below (nat_lt 0 (length d.bytes)) _ [] (lt-ltb 0 (length d.bytes) some) h
  kept-fits kind (Iterated d) last_one l h = tt
  kept-fits kind (Names items) last_one l h = l
  kept-fits kind _ last_one l h = l

  last-fits : (p : Piece) (last_one : Option Contents) → LastFits last_one → KeptEnds p → LastFits (data_after p last_one)
  last-fits (Kept r) last_one l h = kept-fits r.kind r.contents last_one l h
  last-fits (Fixed kind fs) last_one l h = l
  last-fits (End kind byte start) last_one l h = l

  kept-can : (m : List Rec) (kind : ℕ) (c : Contents) → KeptHolds profile_limits m kind c → All Below (flat_map (end_of pl) (measured_contents kind c)) → DataFit pl n kind c
  kept-can m kind (Plain d) k h = λ some. only-all Below (nat_lt 0 (length d.bytes)) _ [] (lt-ltb 0 (length d.bytes) some) h
  kept-can m kind (Iterated d) k h =
      let n = length (expanded (width kind) profile_limits d.bytes) in
      (record { short = k.data_holds.short; fits = k.expands }, λ some. only-all Below (nat_lt 0 n) _ [] (lt-ltb 0 n some) h)
  kept-can m kind (Names items) k h = tt
  kept-can m kind _ k h = tt

  fixup-can : (m : List Rec) (kind : ℕ) (f : PlainFixup) (last_one : Option Contents) → PlainFixupHolds m last_one f → LastFits last_one → FixupFits pl n (source_of last_one) (kind, f)
  fixup-can m kind f last_one h l =
      let d = h.data_record in
      let i = h.inside in
      let above = end-above (kind, f) in
      let some : 0 < length d.bytes = omega (arith, i, above) in
      let fits : LastFits (Some (Plain d)) = subst LastFits h.is_last l in
      let low = fits some in
      let here : FixupFits pl n (source_of (Some (Plain d))) (kind, f) = omega (arith, low, i) in
      subst (λ (o : Option Contents). FixupFits pl n (source_of o) (kind, f)) (sym h.is_last) here

  piece-can : (m : List Rec) (p : Piece) (ps : List Piece) (last_one : Option Contents) → PieceHolds profile_limits m last_one p ps → LastFits last_one → KeptEnds p → CanLay pl n (source_of last_one) p
  piece-can m (Kept r) ps last_one k l h = kept-can m r.kind r.contents k h
  piece-can m (Fixed kind []) ps last_one k l h = absurd k
  piece-can m (Fixed kind (f ∷ [])) ps last_one k l h = All-cons (FixupFits pl n (source_of last_one)) (kind, f) [] (fixup-can m kind f last_one k l) (All-nil (FixupFits pl n (source_of last_one)))
  piece-can m (Fixed kind (f ∷ g ∷ fs)) ps last_one k l h = absurd k
  piece-can m (End kind byte start) ps last_one k l h = tt

  pieces-can : (m : List Rec) (ps : List Piece) (last_one : Option Contents) → PiecesHold profile_limits m last_one ps → LastFits last_one → All KeptEnds ps → AllCanLay pl n (source_of last_one) ps
  pieces-can m [] last_one k l h = tt
  pieces-can m (p ∷ ps) last_one k l h =
      let here = All-head KeptEnds p ps h in (
        piece-can m p ps last_one k.0 l here,
        subst (λ s. AllCanLay pl n s ps) (sym (source-next p last_one))
            (pieces-can m ps (data_after p last_one) k.1 (last-fits p last_one l here) (All-tail KeptEnds p ps h)),
      )

  pub module-can : (m : List Rec) → ModuleHolds profile_limits m → All Below (flat_map (record_ends pl) m) → AllCanLay pl n None (single_pieces m)
  module-can m holds h = pieces-can m (single_pieces m) None (pieces-hold profile_limits m holds) tt (ends-from [] m h)

-- ---- steps of the walk

abbrev pub without_places : List (Place × Piece) → List Piece
without_places xs = map (λ x. x.1) xs

pub step-same : (pl : Places) (last next : Source) (x : Place × Piece) (xs rest : List (Place × Piece)) (bytes more whole : List ℕ) → xs ≡ x ∷ rest
    → more ≡ laid_by pl last x.1 bytes → next ≡ source_after x.1 last → all_laid pl last (without_places xs) bytes ≡ whole → all_laid pl next (without_places rest) more ≡ whole
step-same pl last next x xs rest bytes more whole e h f g =
    ap₂ (λ s b. all_laid pl s (without_places rest) b) f h ∙ sym (ap (λ l. all_laid pl last (without_places l) bytes) e) ∙ g

pub step-can : (pl : Places) (n : ℕ) (last : Source) (x : Place × Piece) (xs rest : List (Place × Piece)) → xs ≡ x ∷ rest → AllCanLay pl n last (without_places xs)
    → CanLay pl n last x.1 × AllCanLay pl n (source_after x.1 last) (without_places rest)
step-can pl n last x xs rest e h = subst (λ l. AllCanLay pl n last (without_places l)) e h

-- ---- steps over records

abbrev pub without_places_of : List (Place × Rec) → List Rec
without_places_of xs = map (λ x. x.1) xs

max-fold : (a n : ℕ) (xs : List ℕ) → max a (fold max n xs) ≡ fold max (max a n) xs
max-fold a n [] = refl
max-fold a n (x ∷ xs) = let same : max a (max n x) ≡ max (max a n) x = omega arith in max-fold a (max n x) xs ∙ ap (λ b. fold max b xs) same

pub max-record : (pl : Places) (r : Rec) (rest : List Rec) (end own more : ℕ) → own ≡ fold max 0 (record_ends pl r) → more ≡ max end own
    → fold max more (flat_map (record_ends pl) rest) ≡ fold max end (flat_map (record_ends pl) (r ∷ rest))
max-record pl r rest end own more e f =
    let zero_last : max end 0 ≡ end = omega arith in
    ap (λ b. fold max b (flat_map (record_ends pl) rest)) (f ∙ ap (max end) e ∙ max-fold end 0 (record_ends pl r) ∙ ap (λ b. fold max b (record_ends pl r)) zero_last)
    ∙ sym (fold-append max end (record_ends pl r) (flat_map (record_ends pl) rest))

pub all-can-end : (m : List Rec) → All CanMeasure m → All Fits (flat_map measured m) → All CanEnd m
all-can-end [] h g = All-nil CanEnd
all-can-end (r ∷ rs) h g =
    All-cons CanEnd r rs (All-head CanMeasure r rs h, part-left Fits (measured r) (flat_map measured rs) g)
    (all-can-end rs (All-tail CanMeasure r rs h) (part-right Fits (measured r) (flat_map measured rs) g))
