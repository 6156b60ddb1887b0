-- The walk gives the canonical records of the skeleton.
use Rattle.std.proofs.Common.{◌≡◌, ℕ, List, [], ◌∷◌, ◌++◌, refl, sym, ◌∙◌, ap, subst, Bool, true, false, cond, Some, None, true≢false}
use Rattle.std.specs.Prelude.{map, ◌==◌, nat_le}
use Rattle.std.proofs.lemmas.Bool.{cond-true, cond-false, eqb-true, eq-eqb}
use Rattle.omf_frame.specs.Framing.{Raw}
use Rattle.omf_reloc.specs.Plain.{Piece, Kept, Fixed, End, PlainFixup}
use Rattle.omf_canon.specs.Canonical.{piece_raws, canonical_raws}
use Rattle.omf_canon.specs.Cut.{body_limit, fixups_size, cut_from}
use Rattle.omf_canon.specs.Skeleton.{join_front, skeleton_of}
use Rattle.omf_canon.specs.Inner.Streaming.{group_raw, Open, open_after, closed_all, streamed}

same-kind : (kind : ℕ) → (kind == kind) ≡ true
same-kind kind = eq-eqb kind kind refl

abbrev raws : ℕ → List (List PlainFixup) → List Raw
raws kind gs = map (λ g. group_raw kind g) gs

abbrev fits : ℕ → List PlainFixup → PlainFixup → Bool
fits kind g f = nat_le (fixups_size kind (g ++ f ∷ [])) body_limit

-- an open group, and then these fixups of its type, in front of joined pieces
abbrev opened : ℕ → List PlainFixup → List PlainFixup → List Piece → List Raw
opened kind g fs (Fixed other hs ∷ ps) = cond (kind == other) (raws kind (cut_from kind g (fs ++ hs)) ++ canonical_raws ps) (raws kind (cut_from kind g fs) ++ canonical_raws (Fixed other hs ∷ ps))
opened kind g fs ps = raws kind (cut_from kind g fs) ++ canonical_raws ps

cut-step : (kind : ℕ) (g : List PlainFixup) (f : PlainFixup) (fs : List PlainFixup) (t : Bool) → fits kind g f ≡ t → (more : List Raw)
    → raws kind (cut_from kind g (f ∷ fs)) ++ more ≡ cond t (raws kind (cut_from kind (g ++ f ∷ []) fs) ++ more) (group_raw kind g ∷ (raws kind (cut_from kind (f ∷ []) fs) ++ more))
cut-step kind g f fs true e more = ap (λ x. raws kind x ++ more) (cond-true (fits kind g f) (cut_from kind (g ++ f ∷ []) fs) (g ∷ cut_from kind (f ∷ []) fs) e)
cut-step kind g f fs false e more = ap (λ x. raws kind x ++ more) (cond-false (fits kind g f) (cut_from kind (g ++ f ∷ []) fs) (g ∷ cut_from kind (f ∷ []) fs) e)

both : (t s : Bool) (a b c d : List Raw) (r : Raw) → cond s (cond t a (r ∷ b)) (cond t c (r ∷ d)) ≡ cond t (cond s a c) (r ∷ cond s b d)
both true s a b c d r = refl
both false true a b c d r = refl
both false false a b c d r = refl

opened-step : (kind : ℕ) (g : List PlainFixup) (f : PlainFixup) (fs : List PlainFixup) (t : Bool) → fits kind g f ≡ t → (S : List Piece)
    → opened kind g (f ∷ fs) S ≡ cond t (opened kind (g ++ f ∷ []) fs S) (group_raw kind g ∷ opened kind (f ∷ []) fs S)
opened-step kind g f fs t e [] = cut-step kind g f fs t e []
opened-step kind g f fs t e (Kept r ∷ ps) = cut-step kind g f fs t e (canonical_raws (Kept r ∷ ps))
opened-step kind g f fs t e (End other byte s ∷ ps) = cut-step kind g f fs t e (canonical_raws (End other byte s ∷ ps))
opened-step kind g f fs t e (Fixed other hs ∷ ps) =
    let P = Fixed other hs ∷ ps in
    ap (λ x. cond (kind == other) x (raws kind (cut_from kind g (f ∷ fs)) ++ canonical_raws P)) (cut-step kind g f (fs ++ hs) t e (canonical_raws ps))
    ∙ ap (λ x. cond (kind == other) (cond t (raws kind (cut_from kind (g ++ f ∷ []) (fs ++ hs)) ++ canonical_raws ps) (group_raw kind g ∷ (raws kind (cut_from kind (f ∷ []) (fs ++ hs)) ++ canonical_raws ps))) x) (cut-step kind g f fs t e (canonical_raws P))
    ∙ both t (kind == other) _ _ _ _ (group_raw kind g)

-- no group open before a FIXUPP, and one of its type, and one of another
front-none : (kind : ℕ) (f : PlainFixup) (fs : List PlainFixup) (S : List Piece) → opened kind (f ∷ []) fs S ≡ canonical_raws (join_front (Fixed kind (f ∷ fs)) S)
front-none kind f fs [] = refl
front-none kind f fs (Kept r ∷ ps) = refl
front-none kind f fs (End other byte s ∷ ps) = refl
front-none kind f fs (Fixed other hs ∷ ps) = choose (kind == other)
  where
    choose : (t : Bool) → cond t (raws kind (cut_from kind (f ∷ []) (fs ++ hs)) ++ canonical_raws ps) (raws kind (cut_from kind (f ∷ []) fs) ++ canonical_raws (Fixed other hs ∷ ps))
        ≡ canonical_raws (cond t (Fixed kind ((f ∷ fs) ++ hs) ∷ ps) (Fixed kind (f ∷ fs) ∷ Fixed other hs ∷ ps))
    choose true = refl
    choose false = refl

front-same : (kind : ℕ) (g fs : List PlainFixup) (S : List Piece) → opened kind g fs S ≡ opened kind g [] (join_front (Fixed kind fs) S)
front-same kind g fs [] = sym (cond-true (kind == kind) _ _ (same-kind kind))
front-same kind g fs (Kept r ∷ ps) = sym (cond-true (kind == kind) _ _ (same-kind kind))
front-same kind g fs (End other byte s ∷ ps) = sym (cond-true (kind == kind) _ _ (same-kind kind))
front-same kind g fs (Fixed other hs ∷ ps) = choose (kind == other)
  where
    choose : (t : Bool) → cond t (raws kind (cut_from kind g (fs ++ hs)) ++ canonical_raws ps) (raws kind (cut_from kind g fs) ++ canonical_raws (Fixed other hs ∷ ps))
        ≡ opened kind g [] (cond t (Fixed kind (fs ++ hs) ∷ ps) (Fixed kind fs ∷ Fixed other hs ∷ ps))
    choose true = sym (cond-true (kind == kind) _ _ (same-kind kind))
    choose false = sym (cond-true (kind == kind) _ _ (same-kind kind))

front-other : (k kind : ℕ) (g fs : List PlainFixup) (S : List Piece) → (k == kind) ≡ false → group_raw k g ∷ canonical_raws (join_front (Fixed kind fs) S) ≡ opened k g [] (join_front (Fixed kind fs) S)
front-other k kind g fs [] n = sym (cond-false (k == kind) _ _ n)
front-other k kind g fs (Kept r ∷ ps) n = sym (cond-false (k == kind) _ _ n)
front-other k kind g fs (End other byte s ∷ ps) n = sym (cond-false (k == kind) _ _ n)
front-other k kind g fs (Fixed other hs ∷ ps) n = choose (kind == other)
  where
    choose : (t : Bool) → group_raw k g ∷ canonical_raws (cond t (Fixed kind (fs ++ hs) ∷ ps) (Fixed kind fs ∷ Fixed other hs ∷ ps)) ≡ opened k g [] (cond t (Fixed kind (fs ++ hs) ∷ ps) (Fixed kind fs ∷ Fixed other hs ∷ ps))
    choose true = sym (cond-false (k == kind) _ _ n)
    choose false = sym (cond-false (k == kind) _ _ n)

-- ---- the walk

abbrev all_from : ℕ → Open → List PlainFixup → List Piece → List Raw
all_from kind o fs ps = closed_all kind o fs ++ streamed (open_after kind o fs) ps

one-from : (kind : ℕ) (g : List PlainFixup) (f : PlainFixup) (fs : List PlainFixup) (ps : List Piece) (t : Bool) → fits kind g f ≡ t
    → all_from kind (Some (kind, g)) (f ∷ fs) ps ≡ cond t (all_from kind (Some (kind, g ++ f ∷ [])) fs ps) (group_raw kind g ∷ all_from kind (Some (kind, f ∷ [])) fs ps)
one-from kind g f fs ps t e = chosen (kind == kind) (fits kind g f) t (same-kind kind) e
  where
    chosen : (s u t : Bool) → s ≡ true → u ≡ t
        → (cond s (cond u [] (group_raw kind g ∷ [])) (group_raw kind g ∷ []) ++ closed_all kind (cond s (cond u (Some (kind, g ++ f ∷ [])) (Some (kind, f ∷ []))) (Some (kind, f ∷ []))) fs)
        ++ streamed (open_after kind (cond s (cond u (Some (kind, g ++ f ∷ [])) (Some (kind, f ∷ []))) (Some (kind, f ∷ []))) fs) ps
        ≡ cond t (all_from kind (Some (kind, g ++ f ∷ [])) fs ps) (group_raw kind g ∷ all_from kind (Some (kind, f ∷ [])) fs ps)
    chosen false u t s e = absurd (true≢false (sym s))
    chosen true true true s e = refl
    chosen true false false s e = refl
    chosen true true false s e = absurd (true≢false e)
    chosen true false true s e = absurd (true≢false (sym e))

fixups-from : (kind : ℕ) (g fs : List PlainFixup) (ps : List Piece) (S : List Piece) → ((h : List PlainFixup) → streamed (Some (kind, h)) ps ≡ opened kind h [] S) → all_from kind (Some (kind, g)) fs ps ≡ opened kind g fs S
fixups-from kind g [] ps S ih = ih g
fixups-from kind g (f ∷ fs) ps S ih =
    one-from kind g f fs ps (fits kind g f) refl
    ∙ branch (fits kind g f) (group_raw kind g) (fixups-from kind (g ++ f ∷ []) fs ps S ih) (fixups-from kind (f ∷ []) fs ps S ih)
    ∙ sym (opened-step kind g f fs (fits kind g f) refl S)
  where
    branch : {a b c d : List Raw} (t : Bool) (r : Raw) → a ≡ b → c ≡ d → cond t a (r ∷ c) ≡ cond t b (r ∷ d)
    branch true r e h = e
    branch false r e h = ap (λ x. r ∷ x) h

other-from : (k kind : ℕ) (g : List PlainFixup) (f : PlainFixup) (fs : List PlainFixup) (ps : List Piece) → (k == kind) ≡ false → all_from kind (Some (k, g)) (f ∷ fs) ps ≡ group_raw k g ∷ all_from kind (Some (kind, f ∷ [])) fs ps
other-from k kind g f fs ps n = chosen (k == kind) (fits k g f) n
  where
    chosen : (s u : Bool) → s ≡ false
        → (cond s (cond u [] (group_raw k g ∷ [])) (group_raw k g ∷ []) ++ closed_all kind (cond s (cond u (Some (k, g ++ f ∷ [])) (Some (kind, f ∷ []))) (Some (kind, f ∷ []))) fs)
        ++ streamed (open_after kind (cond s (cond u (Some (k, g ++ f ∷ [])) (Some (kind, f ∷ []))) (Some (kind, f ∷ []))) fs) ps
        ≡ group_raw k g ∷ all_from kind (Some (kind, f ∷ [])) fs ps
    chosen true u s = absurd (true≢false s)
    chosen false u s = refl

mutual
  streamed-none : (ps : List Piece) → streamed None ps ≡ canonical_raws (skeleton_of ps)
  streamed-none [] = refl
  streamed-none (Kept r ∷ ps) = ap (λ x. piece_raws (Kept r) ++ x) (streamed-none ps)
  streamed-none (End kind byte s ∷ ps) = ap (λ x. piece_raws (End kind byte s) ++ x) (streamed-none ps)
  streamed-none (Fixed kind [] ∷ ps) = streamed-none ps
  streamed-none (Fixed kind (f ∷ fs) ∷ ps) = fixups-from kind (f ∷ []) fs ps (skeleton_of ps) (λ h. streamed-some kind h ps) ∙ front-none kind f fs (skeleton_of ps)

  streamed-some : (k : ℕ) (g : List PlainFixup) (ps : List Piece) → streamed (Some (k, g)) ps ≡ opened k g [] (skeleton_of ps)
  streamed-some k g [] = refl
  streamed-some k g (Kept r ∷ ps) = ap (λ x. group_raw k g ∷ (piece_raws (Kept r) ++ x)) (streamed-none ps)
  streamed-some k g (End kind byte s ∷ ps) = ap (λ x. group_raw k g ∷ (piece_raws (End kind byte s) ++ x)) (streamed-none ps)
  streamed-some k g (Fixed kind [] ∷ ps) = streamed-some k g ps
  streamed-some k g (Fixed kind (f ∷ fs) ∷ ps) = choose (k == kind) refl (λ h. streamed-some kind h ps)
    where
      choose : (t : Bool) → (k == kind) ≡ t → ((h : List PlainFixup) → streamed (Some (kind, h)) ps ≡ opened kind h [] (skeleton_of ps)) → all_from kind (Some (k, g)) (f ∷ fs) ps ≡ opened k g [] (join_front (Fixed kind (f ∷ fs)) (skeleton_of ps))
      choose true e ih = subst (λ x. all_from kind (Some (x, g)) (f ∷ fs) ps ≡ opened x g [] (join_front (Fixed kind (f ∷ fs)) (skeleton_of ps))) (sym (eqb-true k kind e))
          (fixups-from kind g (f ∷ fs) ps (skeleton_of ps) ih ∙ front-same kind g (f ∷ fs) (skeleton_of ps))
      choose false e ih = other-from k kind g f fs ps e
          ∙ ap (λ x. group_raw k g ∷ x) (fixups-from kind (f ∷ []) fs ps (skeleton_of ps) ih ∙ front-none kind f fs (skeleton_of ps))
          ∙ front-other k kind g (f ∷ fs) (skeleton_of ps) e

pub streamed-canonical : (ps : List Piece) → streamed None ps ≡ canonical_raws (skeleton_of ps)
streamed-canonical ps = streamed-none ps
