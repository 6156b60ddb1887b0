-- What a module's skeleton is cut into has no more items than the module.
use Rattle.std.proofs.Common.{◌≡◌, ℕ, ◌+◌, ◌<◌, ◌≤◌, List, [], ◌∷◌, ◌++◌, refl, ◌∙◌, ap, Bool, true, false, cond, length, arith, length-append}
use Rattle.std.specs.Prelude.{map, flat_map, All, ◌==◌, max, sum_by}
use Rattle.std.proofs.lemmas.List.{length-map}
use Rattle.std.proofs.lemmas.List.Elements.{All-head, All-tail}
use Rattle.std.proofs.lemmas.List.Sums.{sum_by-cons}
use Rattle.omf_frame.specs.Bytes.{with_before}
use Rattle.omf_records.specs.Values.{Rec, Contents, Fixups, Subrecord, Thread, Fixup}
use Rattle.omf_check.specs.Tables.{items_in, item_count, subrecords}
use Rattle.omf_reloc.specs.Plain.{Piece, Kept, Fixed, End, PlainFixup, plain_fixup, pieces}
use Rattle.omf_canon.specs.Cut.{cut}
use Rattle.omf_canon.specs.Joined.{cut_piece, cut_pieces, piece_items}
use Rattle.omf_canon.proofs.NormalLaws.{normal_of, normal_at, normal-pieces}
use Rattle.omf_canon.specs.Skeleton.{normal, join_front, skeleton_of, skeleton}
use Rattle.omf_canon.proofs.CutLaws.{cut-greedy}

-- by recursion
abbrev pub items : List Piece → ℕ
items [] = 0
items (p ∷ ps) = piece_items p + items ps

pub items-sum : (ps : List Piece) → sum_by piece_items ps ≡ items ps
items-sum [] = refl
items-sum (p ∷ ps) = sum_by-cons piece_items p ps ∙ ap (λ n. piece_items p + n) (items-sum ps)

items-append : (ps qs : List Piece) → items (ps ++ qs) ≡ items ps + items qs
items-append [] qs = omega arith
items-append (p ∷ ps) qs = ap (λ n. piece_items p + n) (items-append ps qs) ∙ sum_assoc (piece_items p) (items ps) (items qs)
  where
    sum_assoc : (a b c : ℕ) → a + (b + c) ≡ a + b + c
    sum_assoc a b c = omega arith

add-both : (a b c d : ℕ) → a ≤ b → c ≤ d → a + c ≤ b + d
add-both a b c d h k = omega (arith, h, k)

-- The groups of a cut count the fixups.
abbrev IsNonempty : List PlainFixup → Type 0
IsNonempty g = 0 < length g

items-groups : (kind : ℕ) (gs : List (List PlainFixup)) → All IsNonempty gs → items (map (λ g. Fixed kind g) gs) ≡ length (flat_map (λ g. g) gs)
items-groups kind [] full = refl
items-groups kind (g ∷ gs) full = counted (length g) (items (map (λ k. Fixed kind k) gs)) (length (flat_map (λ k. k) gs)) (length (g ++ flat_map (λ k. k) gs))
    (All-head IsNonempty g gs full) (items-groups kind gs (All-tail IsNonempty g gs full)) (length-append g (flat_map (λ k. k) gs))
  where
    counted : (n a b c : ℕ) → 0 < n → a ≡ b → c ≡ n + b → max 1 n + a ≡ c
    counted n a b c h e k = omega (arith, h, e, k)

itself : (n : ℕ) → n ≤ n
itself n = omega arith

items-cut_piece : (p : Piece) → items (cut_piece p) ≤ piece_items p
items-cut_piece (Kept r) = itself 1
items-cut_piece (End kind byte s) = itself 1
items-cut_piece (Fixed kind fs) =
    let c = cut-greedy kind fs in
    let whole : length fs ≡ length (flat_map (λ g. g) (cut kind fs)) = ap length c.whole in
    counted (items (map (λ g. Fixed kind g) (cut kind fs))) (length (flat_map (λ g. g) (cut kind fs))) (length fs) (items-groups kind (cut kind fs) c.full) whole
  where
    counted : (a b n : ℕ) → a ≡ b → n ≡ b → a ≤ max 1 n
    counted a b n e k = omega (arith, e, k)

items-cut : (ps : List Piece) → items (cut_pieces ps) ≤ items ps
items-cut [] = itself 0
items-cut (p ∷ ps) = joined_le (items-append (cut_piece p) (cut_pieces ps)) (add-both _ _ _ _ (items-cut_piece p) (items-cut ps))
  where
    joined_le : {a b c : ℕ} → a ≡ b → b ≤ c → a ≤ c
    joined_le e h = omega (arith, e, h)

-- To join FIXUPPs adds no item.
items_two : (b : Bool) (kind other : ℕ) (fs gs : List PlainFixup) (ps : List Piece)
    → items (cond b (Fixed kind (fs ++ gs) ∷ ps) (Fixed kind fs ∷ Fixed other gs ∷ ps)) ≤ piece_items (Fixed kind fs) + items (Fixed other gs ∷ ps)
items_two true kind other fs gs ps = fewer (length fs) (length gs) (length (fs ++ gs)) (items ps) (length-append fs gs)
  where
    fewer : (n m k a : ℕ) → k ≡ n + m → max 1 k + a ≤ max 1 n + (max 1 m + a)
    fewer n m k a e = omega (arith, e)
items_two false kind other fs gs ps = itself (piece_items (Fixed kind fs) + items (Fixed other gs ∷ ps))

items-join : (kind : ℕ) (fs : List PlainFixup) (ps : List Piece) → items (join_front (Fixed kind fs) ps) ≤ piece_items (Fixed kind fs) + items ps
items-join kind fs [] = itself (piece_items (Fixed kind fs) + 0)
items-join kind fs (Kept r ∷ ps) = itself (piece_items (Fixed kind fs) + items (Kept r ∷ ps))
items-join kind fs (End other byte s ∷ ps) = itself (piece_items (Fixed kind fs) + items (End other byte s ∷ ps))
items-join kind fs (Fixed other gs ∷ ps) = items_two (kind == other) kind other fs gs ps

through : {a b c : ℕ} → a ≤ b → b ≤ c → a ≤ c
through h k = omega (arith, h, k)

more : {a b : ℕ} (n : ℕ) → a ≤ b → a ≤ n + b
more n h = omega (arith, h)

items-skeleton : (ps : List Piece) → items (skeleton_of ps) ≤ items ps
items-skeleton [] = itself 0
items-skeleton (Kept r ∷ ps) = add-both 1 1 _ _ (itself 1) (items-skeleton ps)
items-skeleton (Fixed kind [] ∷ ps) = more 1 (items-skeleton ps)
items-skeleton (Fixed kind (f ∷ fs) ∷ ps) = through (items-join kind (f ∷ fs) (skeleton_of ps)) (add-both _ _ _ _ (itself (piece_items (Fixed kind (f ∷ fs)))) (items-skeleton ps))
items-skeleton (End kind byte s ∷ ps) = add-both 1 1 _ _ (itself 1) (items-skeleton ps)

-- The pieces of a module count its fixups, and no thread.
length-plain_fixup : (earlier : List Subrecord) (s : Subrecord) → length (plain_fixup earlier s) ≤ 1
length-plain_fixup earlier (Thread byte datum) = omega arith
length-plain_fixup earlier (Fixup locat r) = omega arith

length-plain_fixups : (earlier subs : List Subrecord) → length (with_before plain_fixup earlier subs) ≤ length subs
length-plain_fixups earlier [] = omega arith
length-plain_fixups earlier (s ∷ subs) = omega (
  arith,
  length-plain_fixup earlier s,
  length-plain_fixups (earlier ++ s ∷ []) subs,
  length-append (plain_fixup earlier s) (with_before plain_fixup (earlier ++ s ∷ []) subs),
)

items-piece : (earlier : List Subrecord) (kind : ℕ) (c : Contents) → piece_items (normal_of earlier kind c) ≤ items_in c
items-piece earlier kind (Fixups subs) = omega (arith, length-plain_fixups earlier (map (λ s. s.item) subs), length-map {B = Subrecord} subs (λ s. s.item))
items-piece earlier kind _ = itself 1

abbrev counted_items : List Rec → ℕ
counted_items [] = 0
counted_items (r ∷ m) = items_in r.contents + counted_items m

counted-sum : (m : List Rec) → item_count m ≡ counted_items m
counted-sum [] = refl
counted-sum (r ∷ m) = sum_by-cons (λ (q : Rec). items_in q.contents) r m ∙ ap (λ n. items_in r.contents + n) (counted-sum m)

items-from : (before m : List Rec) → items (with_before normal_at before m) ≤ counted_items m
items-from before [] = itself 0
items-from before (r ∷ m) = add-both _ _ _ _ (items-piece (subrecords before) r.kind r.contents) (items-from (before ++ r ∷ []) m)

pub canonical-items : (m : List Rec) → sum_by piece_items (cut_pieces (skeleton m)) ≤ item_count m
canonical-items m = rw (items-sum (cut_pieces (skeleton m)), counted-sum m) (through (items-cut (skeleton m)) (through (items-skeleton (map normal (pieces m))) (rw (normal-pieces m) (items-from [] m))))
