-- Segments laid one after another.
use Rattle.std.proofs.Common.{◌≡◌, ℕ, zero, suc, ◌+◌, ◌<◌, ◌≤◌, List, [], ◌∷◌, ◌++◌, length, drop, get_or, refl, sym, ap, ◌∙◌, arith, append_assoc, add-one, Vec, Global}
use Rattle.std.proofs.Math.Seq.{drop-cons}
use Rattle.std.specs.Prelude.{map, max, Option, Some, None, option_and_then}
use Rattle.std.proofs.lemmas.Option.{none-some, same_Some}
use Rattle.omf_layout.specs.Layout.{Laid, and_then_more, all_laid}
use Rattle.omf_layout.specs.Room.{address_from, frame_at}
use Rattle.omf_layout.specs.Wants.{bytes_aligned}
use Rattle.omf_layout.specs.declared.options.Frames.{Frames}
use Rattle.omf_layout.specs.Several.Laying.{laid, and_then_after, joined_in, joined_laid, strictest}
use Rattle.omf_layout.specs.declared.several.portion.Portion.{Portion}

module _ {A : Type 0} where
  more-more : (before next : List A) (rest : Option (Laid (List A))) → and_then_more before (and_then_more next rest) ≡ and_then_more (before ++ next) rest
  more-more before next None = refl
  more-more before next (Some l) = ap (λ xs. Some (laid xs l.free)) (sym (append_assoc before next l.what))

  -- What is laid after something else.
  pub then-after : (before mid : List A) (free : ℕ) (first : Option (Laid (List A))) (rest : ℕ → Option (Laid (List A))) → and_then_more before first ≡ Some (laid mid free)
      → and_then_more before (and_then_after first rest) ≡ and_then_more mid (rest free)
  then-after before mid free None rest h = absurd (none-some _ h)
  then-after before mid free (Some l) rest h =
      let e = same_Some _ (laid mid free) h in
      more-more before l.what (rest l.free) ∙ ap (λ (k : Laid (List A)). and_then_more k.what (rest k.free)) e

-- One more segment is laid after those before; or it has no room.
module _ {B : Type 0} (lay : ℕ → Portion → Option (Laid B)) (free i : ℕ) (ps : List Portion) (d : Portion) (inside : i < length ps) (old : List B) (whole : Option (Laid (List B)))
    (h : and_then_more old (all_laid lay free (drop i ps)) ≡ whole) where
  there : (o : Option (Laid B)) → lay free (get_or ps i d) ≡ o → and_then_more old (option_and_then (λ l. and_then_more (l.what ∷ []) (all_laid lay l.free (drop (i + 1) ps))) o) ≡ whole
  there o e =
      let next : drop i ps ≡ get_or ps i d ∷ drop (i + 1) ps = rw (add-one, drop-cons ps i d inside) refl in
      sym (ap (λ p. and_then_more old (option_and_then (λ l. and_then_more (l.what ∷ []) (all_laid lay l.free (drop (i + 1) ps))) p)) e) ∙ sym (ap (λ xs. and_then_more old (all_laid lay free xs)) next) ∙ h

  pub next-laid : (b : B) (after : ℕ) (new : List B) → lay free (get_or ps i d) ≡ Some (laid b after) → new ≡ old ++ b ∷ [] → and_then_more new (all_laid lay after (drop (i + 1) ps)) ≡ whole
  next-laid b after new e n =
      ap (λ xs. and_then_more xs (all_laid lay after (drop (i + 1) ps))) n ∙ sym (more-more old (b ∷ []) (all_laid lay after (drop (i + 1) ps))) ∙ there (Some (laid b after)) e

  pub no-room : lay free (get_or ps i d) ≡ None → whole ≡ None
  no-room e = sym (there None e)

-- The strictest alignment of segments is no lower than that of none.
pub some-strictest : (ps : List Portion) → max 1 (strictest ps) ≡ strictest ps
some-strictest [] = refl
some-strictest (p ∷ ps) = omega (arith, some-strictest ps)

-- Joined segments have the frame of the first.
pub joined-from : (frames : Frames) (free : ℕ) (ps : List Portion) (d : Portion) (alignment a : ℕ) → 1 ≤ length ps → alignment ≡ bytes_aligned (get_or ps 0 d).alignment
    → Some a ≡ address_from frames alignment free (get_or ps 0 d).segment.length → joined_laid frames free ps ≡ all_laid (joined_in frames (frame_at frames a)) free ps
joined-from frames free [] d alignment a h e g = absurd (omega (arith, h))
joined-from frames free (q ∷ ps) d alignment a h e g =
    ap (λ o. option_and_then (λ b. all_laid (joined_in frames (frame_at frames b)) free (q ∷ ps)) o) (ap (λ n. address_from frames n free q.segment.length) (sym e) ∙ sym g)

-- The next run.
pub next-run : (rs : List (Vec Portion Global)) (i : ℕ) (r : Vec Portion Global) → r ≡ get_or rs i r → i < length rs → map (λ v. v.items) (drop i rs) ≡ r.items ∷ map (λ v. v.items) (drop (i + 1) rs)
next-run [] i r e h = absurd (omega (arith, h))
next-run (s ∷ rs) zero r e h = ap (λ (v : Vec Portion Global). v.items ∷ map (λ v. v.items) rs) (sym e)
next-run (s ∷ rs) (suc i) r e h =
    let same : suc (i + 1) ≡ suc i + 1 = omega arith in
    next-run rs i r e (omega (arith, h)) ∙ ap (λ n. r.items ∷ map (λ v. v.items) (drop n (s ∷ rs))) same
