-- Skeletons are joined, and joined pieces are the skeleton of their cut.
use Rattle.std.proofs.Common.{◌≡◌, ◌≢◌, ℕ, ◌<◌, List, [], ◌∷◌, ◌++◌, refl, sym, ◌∙◌, ap, subst, Bool, true, false, cond, length, arith, append-nil, append_assoc, true≢false}
use Rattle.std.specs.Prelude.{map, flat_map, All, ◌==◌, ⊤}
use Rattle.std.proofs.lemmas.Bool.{cond_both, eqb-true, eq-eqb, false≢true}
use Rattle.std.proofs.lemmas.List.{map-append}
use Rattle.std.proofs.lemmas.List.Elements.{All-nil, All-cons, All-head, All-tail}
use Rattle.omf_reloc.specs.Plain.{Piece, Kept, Fixed, End, PlainFixup}
use Rattle.omf_canon.specs.Cut.{cut}
use Rattle.omf_canon.specs.Joined.{IsJoined, parts, cut_pieces}
use Rattle.omf_canon.specs.Skeleton.{is_kept, join_front, skeleton_of}
use Rattle.omf_canon.proofs.CutLaws.{cut-greedy}

-- The same by recursion: what comes before the next piece.
abbrev Behind : ℕ → List Piece → Type 0
Behind kind (Fixed other gs ∷ ps) = kind ≢ other
Behind kind _ = ⊤

abbrev Parted : List Piece → Type 0
Parted [] = ⊤
Parted (Fixed kind fs ∷ ps) = (is_kept (Fixed kind fs) ≡ true) × Behind kind ps × Parted ps
Parted (Kept r ∷ ps) = Parted ps
Parted (End kind byte s ∷ ps) = Parted ps

parted-join : (kind : ℕ) (f : PlainFixup) (fs : List PlainFixup) (ps : List Piece) → Parted ps → Parted (join_front (Fixed kind (f ∷ fs)) ps)
parted-join kind f fs [] h = (refl, tt, tt)
parted-join kind f fs (Kept r ∷ ps) h = (refl, tt, h)
parted-join kind f fs (End other byte s ∷ ps) h = (refl, tt, h)
parted-join kind f fs (Fixed other gs ∷ ps) h = cond_both (kind == other) _ _ Parted
    (λ e. (refl, subst (λ k. Behind k ps) (sym (eqb-true kind other e)) h.1, h.2))
    (λ e. (refl, differ kind other e, h))
  where
    differ : (m n : ℕ) → (m == n) ≡ false → m ≢ n
    differ m n e same = true≢false (sym (eq-eqb m n same) ∙ e)

parted-skeleton : (ps : List Piece) → Parted (skeleton_of ps)
parted-skeleton [] = tt
parted-skeleton (Kept r ∷ ps) = parted-skeleton ps
parted-skeleton (Fixed kind [] ∷ ps) = parted-skeleton ps
parted-skeleton (Fixed kind (f ∷ fs) ∷ ps) = parted-join kind f fs (skeleton_of ps) (parted-skeleton ps)
parted-skeleton (End kind byte s ∷ ps) = parted-skeleton ps

-- in the words of the definition, and back
abbrev IsFull : Piece → Type 0
IsFull p = is_kept p ≡ true

full-parted : (ps : List Piece) → Parted ps → All IsFull ps
full-parted [] h = All-nil IsFull
full-parted (Kept r ∷ ps) h = All-cons IsFull (Kept r) ps refl (full-parted ps h)
full-parted (End kind byte s ∷ ps) h = All-cons IsFull (End kind byte s) ps refl (full-parted ps h)
full-parted (Fixed kind fs ∷ ps) h = All-cons IsFull (Fixed kind fs) ps h.0 (full-parted ps h.2)

parted-tail : (p : Piece) (ps : List Piece) → Parted (p ∷ ps) → Parted ps
parted-tail (Kept r) ps h = h
parted-tail (End kind byte s) ps h = h
parted-tail (Fixed kind fs) ps h = h.2

parted-back : (front ps : List Piece) → Parted (front ++ ps) → Parted ps
parted-back [] ps h = h
parted-back (p ∷ front) ps h = parted-back front ps (parted-tail p (front ++ ps) h)

joined-parted : (ps : List Piece) → Parted ps → IsJoined ps
joined-parted ps h = record {
  full = full-parted ps h;
  apart = λ front back kind other fs gs e. (parted-back front (Fixed kind fs ∷ Fixed other gs ∷ back) (subst Parted e h)).1;
}

pub skeleton-joined : (ps : List Piece) → IsJoined (skeleton_of ps)
skeleton-joined ps = joined-parted (skeleton_of ps) (parted-skeleton ps)

joined-tail : (p : Piece) (ps : List Piece) → IsJoined (p ∷ ps) → IsJoined ps
joined-tail p ps h = record {
  full = All-tail IsFull p ps h.full;
  apart = λ front back kind other fs gs e. h.apart (p ∷ front) back kind other fs gs (ap (λ t. p ∷ t) e);
}

behind-joined : (kind : ℕ) (fs : List PlainFixup) (ps : List Piece) → IsJoined (Fixed kind fs ∷ ps) → Behind kind ps
behind-joined kind fs [] h = tt
behind-joined kind fs (Kept r ∷ ps) h = tt
behind-joined kind fs (End other byte s ∷ ps) h = tt
behind-joined kind fs (Fixed other gs ∷ ps) h = h.apart [] ps kind other fs gs refl

-- Groups of one type, in front of pieces that begin with no such FIXUPP, are joined again.
abbrev all_of : List (List PlainFixup) → List PlainFixup
all_of gs = flat_map (λ g. g) gs

join-apart : (kind : ℕ) (fs : List PlainFixup) (ps : List Piece) → Behind kind ps → join_front (Fixed kind fs) ps ≡ Fixed kind fs ∷ ps
join-apart kind fs [] h = refl
join-apart kind fs (Kept r ∷ ps) h = refl
join-apart kind fs (End other byte s ∷ ps) h = refl
join-apart kind fs (Fixed other gs ∷ ps) h = cond_both (kind == other) _ _ (λ t. t ≡ Fixed kind fs ∷ Fixed other gs ∷ ps)
    (λ e. absurd (h (eqb-true kind other e)))
    (λ e. refl)

join-same : (kind : ℕ) (fs gs : List PlainFixup) (ps : List Piece) → join_front (Fixed kind fs) (Fixed kind gs ∷ ps) ≡ Fixed kind (fs ++ gs) ∷ ps
join-same kind fs gs ps = cond_both (kind == kind) _ _ (λ t. t ≡ Fixed kind (fs ++ gs) ∷ ps)
    (λ e. refl)
    (λ e. absurd (true≢false (sym (eq-eqb kind kind refl) ∙ e)))

abbrev IsNonempty : List PlainFixup → Type 0
IsNonempty g = 0 < length g

skeleton-group : (kind : ℕ) (g : List PlainFixup) (ps : List Piece) → IsNonempty g → skeleton_of (Fixed kind g ∷ ps) ≡ join_front (Fixed kind g) (skeleton_of ps)
skeleton-group kind [] ps h = absurd (omega (arith, h))
skeleton-group kind (f ∷ fs) ps h = refl

skeleton-groups : (kind : ℕ) (g : List PlainFixup) (gs : List (List PlainFixup)) (ps : List Piece) → All IsNonempty (g ∷ gs) → Behind kind (skeleton_of ps)
    → skeleton_of (map (λ k. Fixed kind k) (g ∷ gs) ++ ps) ≡ Fixed kind (all_of (g ∷ gs)) ∷ skeleton_of ps
skeleton-groups kind g [] ps full h =
    skeleton-group kind g ps (All-head IsNonempty g [] full)
    ∙ join-apart kind g (skeleton_of ps) h
    ∙ ap (λ k. Fixed kind k ∷ skeleton_of ps) (sym (append-nil g))
skeleton-groups kind g (k ∷ gs) ps full h =
    skeleton-group kind g (map (λ k. Fixed kind k) (k ∷ gs) ++ ps) (All-head IsNonempty g (k ∷ gs) full)
    ∙ ap (join_front (Fixed kind g)) (skeleton-groups kind k gs ps (All-tail IsNonempty g (k ∷ gs) full) h)
    ∙ join-same kind g (all_of (k ∷ gs)) (skeleton_of ps)

skeleton-some : (kind : ℕ) (f : PlainFixup) (fs : List PlainFixup) (gs : List (List PlainFixup)) (ps : List Piece) → f ∷ fs ≡ all_of gs → All IsNonempty gs → Behind kind (skeleton_of ps)
    → skeleton_of (map (λ k. Fixed kind k) gs ++ ps) ≡ Fixed kind (f ∷ fs) ∷ skeleton_of ps
skeleton-some kind f fs [] ps whole full h = absurd cc
skeleton-some kind f fs (g ∷ gs) ps whole full h = skeleton-groups kind g gs ps full h ∙ ap (λ k. Fixed kind k ∷ skeleton_of ps) (sym whole)

pub cut-joined : (ps : List Piece) → IsJoined ps → skeleton_of (cut_pieces ps) ≡ ps
cut-joined [] h = refl
cut-joined (Kept r ∷ ps) h = ap (λ t. Kept r ∷ t) (cut-joined ps (joined-tail (Kept r) ps h))
cut-joined (End kind byte s ∷ ps) h = ap (λ t. End kind byte s ∷ t) (cut-joined ps (joined-tail (End kind byte s) ps h))
cut-joined (Fixed kind [] ∷ ps) h = absurd (false≢true (All-head IsFull (Fixed kind []) ps h.full))
cut-joined (Fixed kind (f ∷ fs) ∷ ps) h =
    let ih = cut-joined ps (joined-tail (Fixed kind (f ∷ fs)) ps h) in
    let c = cut-greedy kind (f ∷ fs) in
    skeleton-some kind f fs (cut kind (f ∷ fs)) (cut_pieces ps) c.whole c.full (subst (Behind kind) (sym ih) (behind-joined kind (f ∷ fs) ps h))
    ∙ ap (λ t. Fixed kind (f ∷ fs) ∷ t) ih

-- ---- one joined list has the same fixups in their order

join-twice : (kind : ℕ) (fs gs : List PlainFixup) (ps : List Piece) → join_front (Fixed kind fs) (join_front (Fixed kind gs) ps) ≡ join_front (Fixed kind (fs ++ gs)) ps
join-twice kind fs gs [] = join-same kind fs gs []
join-twice kind fs gs (Kept r ∷ ps) = join-same kind fs gs (Kept r ∷ ps)
join-twice kind fs gs (End other byte s ∷ ps) = join-same kind fs gs (End other byte s ∷ ps)
join-twice kind fs gs (Fixed other hs ∷ ps) = choose (kind == other) refl
  where
    choose : (t : Bool) → (kind == other) ≡ t
        → join_front (Fixed kind fs) (cond t (Fixed kind (gs ++ hs) ∷ ps) (Fixed kind gs ∷ Fixed other hs ∷ ps)) ≡ cond t (Fixed kind ((fs ++ gs) ++ hs) ∷ ps) (Fixed kind (fs ++ gs) ∷ Fixed other hs ∷ ps)
    choose true e = join-same kind fs (gs ++ hs) ps ∙ ap (λ x. Fixed kind x ∷ ps) (sym (append_assoc fs gs hs))
    choose false e = join-same kind fs gs (Fixed other hs ∷ ps)

skeleton-singles : (kind : ℕ) (f : PlainFixup) (fs : List PlainFixup) (ps : List Piece) → skeleton_of (map (λ g. Fixed kind (g ∷ [])) (f ∷ fs) ++ ps) ≡ join_front (Fixed kind (f ∷ fs)) (skeleton_of ps)
skeleton-singles kind f [] ps = refl
skeleton-singles kind f (g ∷ fs) ps = ap (join_front (Fixed kind (f ∷ []))) (skeleton-singles kind g fs ps) ∙ join-twice kind (f ∷ []) (g ∷ fs) (skeleton_of ps)

skeleton-parts : (ps : List Piece) → skeleton_of (parts ps) ≡ skeleton_of ps
skeleton-parts [] = refl
skeleton-parts (Kept r ∷ ps) = ap (λ t. Kept r ∷ t) (skeleton-parts ps)
skeleton-parts (End kind byte s ∷ ps) = ap (λ t. End kind byte s ∷ t) (skeleton-parts ps)
skeleton-parts (Fixed kind [] ∷ ps) = skeleton-parts ps
skeleton-parts (Fixed kind (f ∷ fs) ∷ ps) = skeleton-singles kind f fs (parts ps) ∙ ap (join_front (Fixed kind (f ∷ fs))) (skeleton-parts ps)

skeleton-itself : (ps : List Piece) → IsJoined ps → skeleton_of ps ≡ ps
skeleton-itself [] h = refl
skeleton-itself (Kept r ∷ ps) h = ap (λ t. Kept r ∷ t) (skeleton-itself ps (joined-tail (Kept r) ps h))
skeleton-itself (End kind byte s ∷ ps) h = ap (λ t. End kind byte s ∷ t) (skeleton-itself ps (joined-tail (End kind byte s) ps h))
skeleton-itself (Fixed kind [] ∷ ps) h = absurd (false≢true (All-head IsFull (Fixed kind []) ps h.full))
skeleton-itself (Fixed kind (f ∷ fs) ∷ ps) h =
    ap (join_front (Fixed kind (f ∷ fs))) (skeleton-itself ps (joined-tail (Fixed kind (f ∷ fs)) ps h))
    ∙ join-apart kind (f ∷ fs) ps (behind-joined kind (f ∷ fs) ps h)

singles-append : (kind : ℕ) (fs gs : List PlainFixup) (ps : List Piece) → parts (Fixed kind (fs ++ gs) ∷ ps) ≡ parts (Fixed kind fs ∷ Fixed kind gs ∷ ps)
singles-append kind fs gs ps = ap (λ x. x ++ parts ps) (map-append (λ g. Fixed kind (g ∷ [])) fs gs) ∙ append_assoc (map (λ g. Fixed kind (g ∷ [])) fs) (map (λ g. Fixed kind (g ∷ [])) gs) (parts ps)

parts-join : (kind : ℕ) (fs : List PlainFixup) (ps : List Piece) → parts (join_front (Fixed kind fs) ps) ≡ parts (Fixed kind fs ∷ ps)
parts-join kind fs [] = refl
parts-join kind fs (Kept r ∷ ps) = refl
parts-join kind fs (End other byte s ∷ ps) = refl
parts-join kind fs (Fixed other gs ∷ ps) = cond_both (kind == other) _ _ (λ x. parts x ≡ parts (Fixed kind fs ∷ Fixed other gs ∷ ps))
    (λ e. singles-append kind fs gs ps ∙ ap (λ k. parts (Fixed kind fs ∷ Fixed k gs ∷ ps)) (eqb-true kind other e))
    (λ e. refl)

parts-skeleton : (ps : List Piece) → parts (skeleton_of ps) ≡ parts ps
parts-skeleton [] = refl
parts-skeleton (Kept r ∷ ps) = ap (λ t. Kept r ∷ t) (parts-skeleton ps)
parts-skeleton (End kind byte s ∷ ps) = ap (λ t. End kind byte s ∷ t) (parts-skeleton ps)
parts-skeleton (Fixed kind [] ∷ ps) = parts-skeleton ps
parts-skeleton (Fixed kind (f ∷ fs) ∷ ps) = parts-join kind (f ∷ fs) (skeleton_of ps) ∙ ap (λ t. map (λ g. Fixed kind (g ∷ [])) (f ∷ fs) ++ t) (parts-skeleton ps)

pub joined-once : (ps qs : List Piece) → IsJoined qs → parts qs ≡ parts ps → qs ≡ skeleton_of ps
joined-once ps qs h e = sym (skeleton-itself qs h) ∙ sym (skeleton-parts qs) ∙ ap skeleton_of e ∙ skeleton-parts ps

pub skeleton-from : (ps qs : List Piece) → qs ≡ skeleton_of ps → IsJoined qs × (parts qs ≡ parts ps)
skeleton-from ps qs e = (subst IsJoined (sym e) (skeleton-joined ps), ap parts e ∙ parts-skeleton ps)
