-- The data records that are not placed: they are the same where each fixup is a piece of its own, and the locations of their fixups are
-- inside their data.
use Rattle.std.proofs.Common.{◌≡◌, ℕ, ◌≤◌, List, [], ◌∷◌, ◌++◌, length, refl, sym, ap, ap₂, subst, ◌∙◌, arith}
use Rattle.std.specs.Prelude.{All, flat_map, Option, Some, None}
use Rattle.std.proofs.lemmas.List.Elements.{All-nil, All-cons, All-head, All-tail, All-append}
use Rattle.omf_records.specs.Values.{Rec, Contents, Names, Plain, Iterated, DataItem, width}
use Rattle.omf_image.specs.Inner.Expanding.{expanded}
use Rattle.omf_image.specs.Limits.{profile_limits}
use Rattle.omf_image.specs.declared.limits.Limits.{Limits}
use Rattle.omf_check.specs.Sound.{ModuleHolds}
use Rattle.omf_reloc.specs.Inner.Pieces.{one_by_one, single_pieces}
use Rattle.omf_reloc.specs.Laws.{location_end, AreInside}
use Rattle.omf_reloc.specs.Plain.{Piece, Kept, Fixed, End, PlainFixup, pieces, fixups_of_data}
use Rattle.omf_reloc.proofs.HoldLaws.{PiecesHold, data_after, data_kept, pieces-hold}
use Rattle.omf_reloc.proofs.SingleLaws.{singles, fixups-same}
use Rattle.omf_finding.specs.Pattern.{Unplaced, unplaced, unplaced_contents}

contents-same : (limits : Limits) (kind : ℕ) (c : Contents) (ps qs : List Piece) → fixups_of_data ps ≡ fixups_of_data qs → unplaced_contents limits kind c ps ≡ unplaced_contents limits kind c qs
contents-same limits kind (Plain d) ps qs e =
    ap (λ fs. let u : Unplaced = record { laid = record { segment = d.segment.item; offset = d.offset.item; bytes = d.bytes }; fixups = fs } in u ∷ []) e
contents-same limits kind (Iterated d) ps qs e =
    ap (λ fs. let u : Unplaced = record { laid = record { segment = d.segment.item; offset = d.offset.item; bytes = expanded (width kind) limits d.bytes }; fixups = fs } in u ∷ []) e
contents-same limits kind _ ps qs e = refl

of-singles : (limits : Limits) (kind : ℕ) (fs : List PlainFixup) (ps : List Piece) → unplaced limits (singles kind fs ++ ps) ≡ unplaced limits ps
of-singles limits kind [] ps = refl
of-singles limits kind (f ∷ fs) ps = of-singles limits kind fs ps

pub unplaced-same : (limits : Limits) (ps : List Piece) → unplaced limits (flat_map one_by_one ps) ≡ unplaced limits ps
unplaced-same limits [] = refl
unplaced-same limits (Kept r ∷ ps) = ap₂ (λ xs ys. xs ++ ys) (contents-same limits r.kind r.contents (flat_map one_by_one ps) ps (fixups-same ps)) (unplaced-same limits ps)
unplaced-same limits (Fixed kind fs ∷ ps) = of-singles limits kind fs (flat_map one_by_one ps) ∙ unplaced-same limits ps
unplaced-same limits (End kind byte s ∷ ps) = unplaced-same limits ps

-- The fixups before the next data record follow an LEDATA, and are inside its data.
pub record FollowsData (l : Option Contents) (f : ℕ × PlainFixup) : Type 0 where
  pub data_record : DataItem
  pub is_last : l ≡ Some (Plain data_record)
  pub inside : location_end f ≤ length data_record.bytes

abbrev pub Inside : Unplaced → Type 0
Inside u = AreInside (length u.laid.bytes) u.fixups

module _ (m : List Rec) where
  follow-kept : (r : Rec) (c : Contents) (l : Option Contents) (ps : List Piece) → All (FollowsData (data_kept c l)) (fixups_of_data ps) → All (FollowsData l) (fixups_of_data (Kept (record r { contents = c }) ∷ ps))
  follow-kept r (Plain d) l ps h = All-nil (FollowsData l)
  follow-kept r (Iterated d) l ps h = All-nil (FollowsData l)
  follow-kept r (Names ns) l ps h = h
  follow-kept r _ l ps h = h

  pub follow : (l : Option Contents) (ps : List Piece) → PiecesHold profile_limits m l ps → All (FollowsData l) (fixups_of_data ps)
  follow l [] h = All-nil (FollowsData l)
  follow l (Kept r ∷ ps) h = follow-kept r r.contents l ps (follow (data_after (Kept r) l) ps h.1)
  follow l (Fixed kind [] ∷ ps) h = absurd h.0
  follow l (Fixed kind (f ∷ []) ∷ ps) h =
      let at = h.0.inside in
      All-cons (FollowsData l) (kind, f) (fixups_of_data ps) (record { data_record = h.0.data_record; is_last = h.0.is_last; inside = omega (arith, at) }) (follow l ps h.1)
  follow l (Fixed kind (f ∷ g ∷ fs) ∷ ps) h = absurd h.0
  follow l (End kind byte s ∷ ps) h = follow l ps h.1

  of-plain : (d : DataItem) (fs : List (ℕ × PlainFixup)) → All (FollowsData (Some (Plain d))) fs → AreInside (length d.bytes) fs
  of-plain d [] h = All-nil (λ f. location_end f ≤ length d.bytes)
  of-plain d (f ∷ fs) h =
      let one = All-head (FollowsData (Some (Plain d))) f fs h in
      let p : Some (Plain d) ≡ Some (Plain one.data_record) = one.is_last in
      let same : d ≡ one.data_record = cc in
      All-cons (λ g. location_end g ≤ length d.bytes) f fs (subst (λ (e : DataItem). location_end f ≤ length e.bytes) (sym same) one.inside)
      (of-plain d fs (All-tail (FollowsData (Some (Plain d))) f fs h))

  of-iterated : (d : DataItem) (n : ℕ) (fs : List (ℕ × PlainFixup)) → All (FollowsData (Some (Iterated d))) fs → AreInside n fs
  of-iterated d n [] h = All-nil (λ f. location_end f ≤ n)
  of-iterated d n (f ∷ fs) h =
      let one = All-head (FollowsData (Some (Iterated d))) f fs h in
      let p : Some (Iterated d) ≡ Some (Plain one.data_record) = one.is_last in
      absurd cc

  inside-contents : (kind : ℕ) (c : Contents) (l : Option Contents) (ps : List Piece) → All (FollowsData (data_kept c l)) (fixups_of_data ps) → All Inside (unplaced_contents profile_limits kind c ps)
  inside-contents kind (Plain d) l ps h = All-cons Inside _ [] (of-plain d (fixups_of_data ps) h) (All-nil Inside)
  inside-contents kind (Iterated d) l ps h = All-cons Inside _ [] (of-iterated d (length (expanded (width kind) profile_limits d.bytes)) (fixups_of_data ps) h) (All-nil Inside)
  inside-contents kind _ l ps h = All-nil Inside

  pub inside-from : (l : Option Contents) (ps : List Piece) → PiecesHold profile_limits m l ps → All Inside (unplaced profile_limits ps)
  inside-from l [] h = All-nil Inside
  inside-from l (Kept r ∷ ps) h =
      All-append Inside (unplaced_contents profile_limits r.kind r.contents ps) (unplaced profile_limits ps)
      (inside-contents r.kind r.contents l ps (follow (data_after (Kept r) l) ps h.1)) (inside-from (data_after (Kept r) l) ps h.1)
  inside-from l (Fixed kind fs ∷ ps) h = inside-from l ps h.1
  inside-from l (End kind byte s ∷ ps) h = inside-from l ps h.1

  pub all-inside : ModuleHolds profile_limits m → All Inside (unplaced profile_limits (pieces m))
  all-inside holds = subst (All Inside) (unplaced-same profile_limits (pieces m)) (inside-from None (single_pieces m) (pieces-hold profile_limits m holds))
