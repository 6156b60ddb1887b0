-- Each value of a BAKPAT is for an LEDATA that has its location.
use Rattle.std.proofs.Common.{◌≡◌, ℕ, zero, suc, ◌+◌, ◌-◌, ◌≤◌, Bool, true, false, cond, List, [], ◌∷◌, ◌++◌, refl, sym, ap, subst, ◌∙◌, length, append_assoc, append-nil, arith, Option, Some, None, Result, Ok, Err}
use Rattle.std.specs.Prelude.{All, slice_get, nat_le, ◌&&◌}
use Rattle.std.specs.List.{filter, last_or}
use Rattle.std.proofs.lemmas.Bool.{leb-true}
use Rattle.std.proofs.lemmas.List.Elements.{All-head, All-tail, All-append, All-cons, All-nil}
use Rattle.omf_frame.specs.Fault.{Fault}
use Rattle.omf_frame.specs.Framing.{Raw, is_taken}
use Rattle.omf_image.specs.declared.part.Part.{Part}
use Rattle.omf_records.specs.Inner.Reading.{typed}
use Rattle.omf_records.specs.Inner.Reads.{and_then, or_none}
use Rattle.omf_records.specs.Inner.Steps.{and_then_ok}
use Rattle.omf_records.specs.Values.{At, Contents, DataItem, Header, Comment, Names, Segment, Group, Externs, Publics, Communals, Plain, Iterated, Fixups, ModEnd, Carried, is_wide}
use Rattle.omf_lowering.specs.Externals.{all_of}
use Rattle.omf_lowering.specs.Comdats.{backpatches_by, named_patches, named_patches_by}
use Rattle.omf_lowering.specs.Inner.Readers.{bakpat_whole, nbkpat_whole}
use Rattle.omf_lowering.specs.Laws.{Fits, ValuesFit}
use Rattle.omf_lowering.specs.Lowering.{Before, is_bakpat, is_nbkpat, patches, patches_in, pieces, replaced, replacement, so_far}
use Rattle.omf_lowering.specs.Patches.{has_all, has_byte_of, holder, patch_at, patch_by, patches_by, piece_in, piece_of, pieces_from, placed, size_of}
use Rattle.omf_lowering.specs.declared.values.Backpatch.{Backpatch}
use Rattle.omf_lowering.specs.declared.values.Patch.{Patch}
use Rattle.omf_lowering.specs.declared.values.Piece.{Piece}
use Rattle.omf_lowering.proofs.StateLaws.{replaced-more, with_before-more}

-- Data of an LEDATA are those of its record.
record Holds (rs : List Raw) (first : ℕ) (q : Piece) : Type 0 where
  index : ℕ
  is : q.number ≡ first + index
  holder : Raw
  data_item : DataItem
  there : slice_get rs index ≡ Some holder
  plain : (typed holder).contents ≡ Plain data_item
  at : q.at ≡ length holder.body - length data_item.bytes
  size : q.size ≡ length data_item.bytes

IfPlain : List Raw → ℕ → Piece → Type 0
IfPlain rs first q = q.is_plain ≡ true → Holds rs first q

one_piece : (r : Raw) (rs : List Raw) (number : ℕ) (c : Contents) → (typed r).contents ≡ c → All (IfPlain (r ∷ rs) number) (piece_of number r.kind (length r.body) c)
unfolding IfPlain
one_piece r rs number (Plain d) e =
    All-cons (IfPlain (r ∷ rs) number) _ [] (λ plain. record { index = 0; is = omega arith; holder = r; data_item = d; there = refl; plain = e; at = refl; size = refl }) (All-nil (IfPlain (r ∷ rs) number))
one_piece r rs number (Iterated d) e = All-cons (IfPlain (r ∷ rs) number) _ [] (λ plain. absurd cc) (All-nil (IfPlain (r ∷ rs) number))
one_piece r rs number (Header x) e = All-nil (IfPlain (r ∷ rs) number)
one_piece r rs number (Comment x y z) e = All-nil (IfPlain (r ∷ rs) number)
one_piece r rs number (Names x) e = All-nil (IfPlain (r ∷ rs) number)
one_piece r rs number (Segment x) e = All-nil (IfPlain (r ∷ rs) number)
one_piece r rs number (Group x) e = All-nil (IfPlain (r ∷ rs) number)
one_piece r rs number (Externs x) e = All-nil (IfPlain (r ∷ rs) number)
one_piece r rs number (Publics x) e = All-nil (IfPlain (r ∷ rs) number)
one_piece r rs number (Communals x) e = All-nil (IfPlain (r ∷ rs) number)
one_piece r rs number (Fixups x) e = All-nil (IfPlain (r ∷ rs) number)
one_piece r rs number (ModEnd x y) e = All-nil (IfPlain (r ∷ rs) number)
one_piece r rs number (Carried x) e = All-nil (IfPlain (r ∷ rs) number)

if_taken : {A : Type 0} (P : A → Type 0) (b : Bool) (xs : List A) → All P xs → All P (cond b xs [])
if_taken P true xs h = h
if_taken P false xs h = All-nil P

shift : (r : Raw) (rs : List Raw) (first : ℕ) (q : Piece) → IfPlain rs (first + 1) q → IfPlain (r ∷ rs) first q
unfolding IfPlain
shift r rs first q h plain =
    let k = h plain in
    record { index = suc k.index; is = omega (arith, k.is); holder = k.holder; data_item = k.data_item; there = k.there; plain = k.plain; at = k.at; size = k.size }

shift_all : (r : Raw) (rs : List Raw) (first : ℕ) (qs : List Piece) → All (IfPlain rs (first + 1)) qs → All (IfPlain (r ∷ rs) first) qs
shift_all r rs first [] h = All-nil (IfPlain (r ∷ rs) first)
shift_all r rs first (q ∷ qs) h =
    All-cons (IfPlain (r ∷ rs) first) q qs (shift r rs first q (All-head (IfPlain rs (first + 1)) q qs h)) (shift_all r rs first qs (All-tail (IfPlain rs (first + 1)) q qs h))

all_pieces : (first : ℕ) (rs : List Raw) → All (IfPlain rs first) (pieces_from first rs)
all_pieces first [] = All-nil (IfPlain [] first)
all_pieces first (r ∷ rs) =
    All-append (IfPlain (r ∷ rs) first) (piece_in first r) (pieces_from (first + 1) rs)
    (if_taken (IfPlain (r ∷ rs) first) (is_taken r.kind) _ (one_piece r rs first (typed r).contents refl))
    (shift_all r rs first (pieces_from (first + 1) rs) (all_pieces (first + 1) rs))

-- what is last of those that pass a test is one of them
last_holds : {A : Type 0} (P : A → Type 0) (o : Option A) (xs : List A) (x : A) → ((y : A) → o ≡ Some y → P y) → All P xs → last_or o xs ≡ Some x → P x
last_holds P o [] x first h e = first x e
last_holds P o (y ∷ xs) x first h e = last_holds P (Some y) xs x (λ z is. let same : y ≡ z = cc in subst P same (All-head P y xs h)) (All-tail P y xs h) e

kept_if : {A : Type 0} (P : A → Type 0) (b : Bool) (x : A) (xs : List A) → P x → All P xs → All P (cond b (x ∷ xs) xs)
kept_if P true x xs h k = All-cons P x xs h k
kept_if P false x xs h k = k

filtered : {A : Type 0} (P : A → Type 0) (test : A → Bool) (xs : List A) → All P xs → All P (filter test xs)
filtered P test [] h = All-nil P
filtered P test (x ∷ xs) h = kept_if P (test x) x (filter test xs) (All-head P x xs h) (filtered P test xs (All-tail P x xs h))

holder_holds : (first : ℕ) (rs : List Raw) (segment offset size : ℕ) (q : Piece) → holder (pieces_from first rs) segment offset size ≡ Some q → IfPlain rs first q
holder_holds first rs segment offset size q e =
    last_holds (IfPlain rs first) None (filter (has_byte_of segment offset size) (pieces_from first rs)) q (λ y none. absurd cc)
    (filtered (IfPlain rs first) (has_byte_of segment offset size) (pieces_from first rs) (all_pieces first rs)) e

-- a backpatch with a value to add has data that hold it
record Found (size : Part) (b : At Backpatch) (o : Option Piece) (p : Patch) : Type 0 where
  piece : Piece
  is : o ≡ Some piece
  plain : piece.is_plain ≡ true
  inside : has_all b.item.offset (size_of size) piece ≡ true
  patch : p ≡ record { number = piece.number; at = piece.at + (b.item.offset - piece.offset); part = size; value = b.item.value }

chosen_patch : (plain inside : Bool) (good p : Patch) (outside iterated : Fault) → cond {A = Result Patch Fault} plain (cond {A = Result Patch Fault} inside (Ok good) (Err outside)) (Err iterated) ≡ Ok p → (plain ≡ true) × (inside ≡ true) × (p ≡ good)
chosen_patch true true good p outside iterated e = let same : good ≡ p = cc in (refl, refl, sym same)
chosen_patch true false good p outside iterated e = absurd cc
chosen_patch false inside good p outside iterated e = absurd cc

found : (size : Part) (b : At Backpatch) (o : Option Piece) (p : Patch) → patch_by size b o ≡ Ok p → Found size b o p
found size b None p e = absurd cc
found size b (Some q) p e =
    let good : Patch = record { number = q.number; at = q.at + (b.item.offset - q.offset); part = size; value = b.item.value } in
    let c = chosen_patch q.is_plain (has_all b.item.offset (size_of size) q) good p _ _ e in
    record { piece = q; is = refl; plain = c.0; inside = c.1; patch = c.2 }

both_le : (a b c d : ℕ) → (nat_le a b && nat_le c d) ≡ true → (a ≤ b) × (c ≤ d)
both_le a b c d e = let h = split (nat_le a b) (nat_le c d) e in (leb-true a b h.0, leb-true c d h.1)
  where
    split : (x y : Bool) → (x && y) ≡ true → (x ≡ true) × (y ≡ true)
    split true y e = (refl, e)
    split false y e = absurd cc

fits_one : (rs : List Raw) (segment : ℕ) (size : Part) (b : At Backpatch) (p : Patch) → patch_at (pieces_from 0 rs) segment size b ≡ Ok p → Fits rs p
unfolding IfPlain
fits_one rs segment size b p e =
    let f = found size b (holder (pieces_from 0 rs) segment b.item.offset (size_of size)) p e in
    let q = f.piece in
    let h = holder_holds 0 rs segment b.item.offset (size_of size) q f.is f.plain in
    let inside = both_le q.offset b.item.offset (b.item.offset + size_of size) (q.offset + q.size) f.inside in
    let index : q.number ≡ h.index = omega (arith, h.is) in
    subst (Fits rs) (sym f.patch) (record {
      holder = h.holder;
      data_item = h.data_item;
      there = ap (slice_get rs) index ∙ h.there;
      plain = h.plain;
      from = omega (arith, h.at);
      to = omega (arith, h.at, h.size, inside.0, inside.1);
    })

fits_items : (rs : List Raw) (segment : ℕ) (size : Part) (items : List (At Backpatch)) (ps : List Patch) → all_of (patch_at (pieces_from 0 rs) segment size) items ≡ Ok ps → All (Fits rs) ps
fits_items rs segment size [] ps e = let none : [] ≡ ps = cc in subst (All (Fits rs)) none (All-nil (Fits rs))
fits_items rs segment size (b ∷ items) ps e =
    let f = patch_at (pieces_from 0 rs) segment size in
    let one = and_then_ok (f b) (λ y. and_then (all_of f items) (λ ys. Ok (y ∷ ys))) ps e in
    let others = and_then_ok (all_of f items) (λ ys. Ok (one.0 ∷ ys)) ps one.2 in
    let all : one.0 ∷ others.0 ≡ ps = let e2 = others.2 in cc in
    subst (All (Fits rs)) all (All-cons (Fits rs) one.0 others.0 (fits_one rs segment size b one.0 one.1) (fits_items rs segment size items others.0 others.1))

fits_record : (rs : List Raw) (kind : ℕ) (body : List ℕ) (r : Result (List Patch) Fault) → patches_by (pieces_from 0 rs) kind body ≡ r → All (Fits rs) (or_none r)
fits_record rs kind body (Err f) e = All-nil (Fits rs)
fits_record rs kind body (Ok ps) e =
    let read = and_then_ok ((bakpat_whole (is_wide kind)).read 3 body) (placed (pieces_from 0 rs)) ps e in
    fits_items rs read.0.segment.item read.0.part read.0.items ps read.2

fits_named : (b : Before) (rs : List Raw) (kind : ℕ) (body : List ℕ) (r : Result (List Patch) Fault) → named_patches_by b.tables b.instances (pieces_from 0 rs) kind body ≡ r → All (Fits rs) (or_none r)
fits_named b rs kind body (Err f) e = All-nil (Fits rs)
fits_named b rs kind body (Ok ps) e =
    let read = and_then_ok ((nbkpat_whole (is_wide kind)).read 3 body) (named_patches b.tables b.instances (pieces_from 0 rs)) ps e in
    let given = and_then_ok (backpatches_by b.tables b.instances read.0) (placed (pieces_from 0 rs)) ps read.2 in
    fits_items rs given.0.segment.item given.0.part given.0.items ps given.2

if_either : {A : Type 0} (P : A → Type 0) (b c : Bool) (xs ys : List A) → All P xs → All P ys → All P (cond b xs (cond c ys []))
if_either P true c xs ys h k = h
if_either P false true xs ys h k = k
if_either P false false xs ys h k = All-nil P

-- more records after them
there_still : (rs more : List Raw) (i : ℕ) (r : Raw) → slice_get rs i ≡ Some r → slice_get (rs ++ more) i ≡ Some r
there_still [] more i r e = absurd cc
there_still (x ∷ rs) more zero r e = e
there_still (x ∷ rs) more (suc i) r e = there_still rs more i r e

fits_still : (rs more : List Raw) (p : Patch) → Fits rs p → Fits (rs ++ more) p
fits_still rs more p f = record { holder = f.holder; data_item = f.data_item; there = there_still rs more p.number f.holder f.there; plain = f.plain; from = f.from; to = f.to }

fits_all_still : (rs more : List Raw) (ps : List Patch) → All (Fits rs) ps → All (Fits (rs ++ more)) ps
fits_all_still rs more [] h = All-nil (Fits (rs ++ more))
fits_all_still rs more (p ∷ ps) h = All-cons (Fits (rs ++ more)) p ps (fits_still rs more p (All-head (Fits rs) p ps h)) (fits_all_still rs more ps (All-tail (Fits rs) p ps h))

-- the values of records, one record after another
fits_from : (before xs : List Raw) → All (Fits (replaced before)) (patches before) → All (Fits (replaced (before ++ xs))) (patches (before ++ xs))
fits_from before [] h = subst (λ rs. All (Fits (replaced rs)) (patches rs)) (sym (append-nil before)) h
fits_from before (x ∷ xs) h =
    let more : replaced (before ++ x ∷ []) ≡ replaced before ++ replacement (so_far before) x = replaced-more before x in
    let values : patches (before ++ x ∷ []) ≡ patches before ++ patches_in (so_far before) (pieces before) x = with_before-more (λ b r. patches_in (so_far b) (pieces b) r) [] before x in
    let own : All (Fits (replaced before)) (patches_in (so_far before) (pieces before) x) =
    if_either (Fits (replaced before)) (is_bakpat x.kind) (is_nbkpat x.kind) _ _ (fits_record (replaced before) x.kind x.body _ refl) (fits_named (so_far before) (replaced before) x.kind x.body _ refl) in
    let all : All (Fits (replaced before)) (patches (before ++ x ∷ [])) = subst (All (Fits (replaced before))) (sym values) (All-append (Fits (replaced before)) (patches before) (patches_in (so_far before) (pieces before) x) h own) in
    let now : All (Fits (replaced (before ++ x ∷ []))) (patches (before ++ x ∷ [])) =
    subst (λ rs. All (Fits rs) (patches (before ++ x ∷ []))) (sym more) (fits_all_still (replaced before) (replacement (so_far before) x) (patches (before ++ x ∷ [])) all) in
    subst (λ rs. All (Fits (replaced rs)) (patches rs)) (append_assoc before (x ∷ []) xs) (fits_from (before ++ x ∷ []) xs now)

pub values_fit : ValuesFit
values_fit rs = fits_from [] rs (All-nil (Fits (replaced [])))
