-- The references of a module, one piece after another, and by segments.
use Rattle.std.proofs.Common.{◌≡◌, ◌≢◌, ℕ, ◌+◌, ◌<◌, List, [], ◌∷◌, ◌++◌, length, get_or, refl, sym, ap, ◌∙◌, subst, append_assoc, append-nil, inl, inr}
use Rattle.std.specs.Prelude.{flat_map, filter, map, replicate, slice_get, Option, Some, None, ◌==◌}
use Rattle.std.specs.List.{last_or}
use Rattle.std.proofs.lemmas.Bool.{cases_Bool, cond-true, cond-false, eqb-true, eqb-false}
use Rattle.std.proofs.lemmas.List.{get_or-set_other, get_or-set_same, get_or-replicate, length-set, length-replicate}
use Rattle.std.proofs.lemmas.Option.{slice_get-get_or}
use Rattle.omf_frame.specs.Bytes.{with_before}
use Rattle.omf_records.specs.Values.{Contents, Fixups, Iterated, ModEnd, Plain, Rec, Subrecord}
use Rattle.omf_check.specs.Tables.{data_in, last_data, segments, subrecords}
use Rattle.omf_check.specs.declared.method.TargetMethod.{TargetMethod}
use Rattle.omf_reloc.specs.Inner.Pieces.{one_by_one}
use Rattle.omf_reloc.specs.Plain.{End, Fixed, Kept, Piece, PlainFixup, piece_of}
use Rattle.omf_trimming.specs.Reaching.{piece_uses, record_uses, segment_of, targets_of, uses}
use Rattle.omf_trimming.specs.Inner.Uses.{Buckets, bucket_with, filled, module_uses, piece_after, uses_from, with_use}
use Rattle.omf_trimming.proofs.LeftLaws.{data-more}

-- One piece, with each of its fixups a piece of its own.
fixups-one : (last kind : ℕ) (fs : List PlainFixup) (ps : List Piece) → uses_from last (map (λ f. Fixed kind (f ∷ [])) fs ++ ps) ≡ piece_uses last (Fixed kind fs) ++ uses_from last ps
fixups-one last kind [] ps = refl
fixups-one last kind (f ∷ fs) ps = ap (λ us. (last, f.reference.target) ∷ us) (fixups-one last kind fs ps)

one : (last : ℕ) (p : Piece) (ps : List Piece) → uses_from last (one_by_one p ++ ps) ≡ piece_uses last p ++ uses_from (piece_after last p) ps
one last (Kept r) ps = refl
one last (Fixed kind fs) ps = fixups-one last kind fs ps
one last (End kind byte start) ps = refl

-- The last data after a record.
segment-is : (o : Option Contents) (subs : List Subrecord) (kind : ℕ) (c : Contents) → piece_after (segment_of o) (piece_of subs kind c) ≡ segment_of (last_or o (data_in c))
segment-is o subs kind (Plain d) = refl
segment-is o subs kind (Iterated d) = refl
segment-is o subs kind (Fixups fs) = refl
segment-is o subs kind (ModEnd byte start) = refl
segment-is o subs kind _ = refl

abbrev pieces-from : List Rec → List Rec → List Piece
pieces-from before rs = with_before (λ b r. piece_of (subrecords b) r.kind r.contents ∷ []) before rs

uses-are : (before rs : List Rec) → uses_from (segment_of (last_data before)) (flat_map one_by_one (pieces-from before rs)) ≡ with_before record_uses before rs
uses-are before [] = refl
uses-are before (r ∷ rs) =
    let last = segment_of (last_data before) in
    let p = piece_of (subrecords before) r.kind r.contents in
    let rest = flat_map one_by_one (pieces-from (before ++ r ∷ []) rs) in
    one last p rest
    ∙ ap (λ n. piece_uses last p ++ uses_from n rest) (segment-is (last_data before) (subrecords before) r.kind r.contents ∙ ap segment_of (sym (data-more before r)))
    ∙ ap (λ us. piece_uses last p ++ us) (uses-are (before ++ r ∷ []) rs)

pub all-uses : (m : List Rec) (ps : List Piece) → ps ≡ flat_map one_by_one (pieces-from [] m) → uses_from 0 ps ≡ uses m
all-uses m ps e = ap (uses_from 0) e ∙ uses-are [] m

-- References after references.
pub filled-more : (bs : Buckets) (us vs : List (ℕ × TargetMethod)) → filled (filled bs us) vs ≡ filled bs (us ++ vs)
filled-more bs [] vs = refl
filled-more bs (u ∷ us) vs = filled-more (with_use u.0 u.1 bs) us vs

-- The targets of one segment.
same-size : (s : ℕ) (t : TargetMethod) (bs : Buckets) (o : Option (List TargetMethod)) → length (bucket_with s t bs o) ≡ length bs
same-size s t bs None = refl
same-size s t bs (Some b) = length-set bs s (b ++ t ∷ [])

here : (s : ℕ) (t : TargetMethod) (bs : Buckets) → s < length bs → get_or (with_use s t bs) s [] ≡ get_or bs s [] ++ t ∷ []
here s t bs low =
    ap (λ o. get_or (bucket_with s t bs o) s []) (slice_get-get_or bs s [] low)
    ∙ get_or-set_same bs s (get_or bs s [] ++ t ∷ []) [] low

elsewhere : (i s : ℕ) (t : TargetMethod) (bs : Buckets) (o : Option (List TargetMethod)) → s ≢ i → get_or (bucket_with i t bs o) s [] ≡ get_or bs s []
elsewhere i s t bs None e = refl
elsewhere i s t bs (Some b) e = get_or-set_other bs i s (b ++ t ∷ []) [] e

bucket-is : (us : List (ℕ × TargetMethod)) (bs : Buckets) (s : ℕ) → s < length bs → get_or (filled bs us) s [] ≡ get_or bs s [] ++ targets_of s us
bucket-is [] bs s low = sym (append-nil (get_or bs s []))
bucket-is (u ∷ us) bs s low =
    let size = same-size u.0 u.1 bs (slice_get bs u.0) in
    let step = bucket-is us (with_use u.0 u.1 bs) s (subst (λ n. s < n) (sym size) low) in
    elim (cases_Bool (u.0 == s)) [
      | inl b ↦
          let same : u.0 ≡ s = eqb-true u.0 s b in
          let own : get_or (with_use u.0 u.1 bs) s [] ≡ get_or bs s [] ++ u.1 ∷ [] = ap (λ i. get_or (with_use i u.1 bs) s []) same ∙ here s u.1 bs low in
          step ∙ ap (λ ts. ts ++ targets_of s us) own ∙ append_assoc (get_or bs s []) (u.1 ∷ []) (targets_of s us)
          ∙ ap (λ xs. get_or bs s [] ++ map (λ v. v.1) xs) (sym (cond-true (u.0 == s) (u ∷ filter (λ v. v.0 == s) us) (filter (λ v. v.0 == s) us) b))
      | inr b ↦
          let other : s ≢ u.0 = λ e. eqb-false u.0 s b (sym e) in
          step ∙ ap (λ ts. ts ++ targets_of s us) (elsewhere u.0 s u.1 bs (slice_get bs u.0) other)
          ∙ ap (λ xs. get_or bs s [] ++ map (λ v. v.1) xs) (sym (cond-false (u.0 == s) (u ∷ filter (λ v. v.0 == s) us) (filter (λ v. v.0 == s) us) b))
    ]

pub module-bucket : (m : List Rec) (s : ℕ) → s < length (segments m) + 1 → get_or (module_uses m) s [] ≡ targets_of s (uses m)
module-bucket m s low =
    let n = length (segments m) + 1 in
    let empty : Buckets = replicate n [] in
    bucket-is (uses m) empty s (subst (λ k. s < k) (sym (length-replicate n (let e : List TargetMethod = [] in e))) low)
    ∙ ap (λ ts. ts ++ targets_of s (uses m)) (get_or-replicate n s (let e : List TargetMethod = [] in e) [] low)
