-- What fits without the module for DOS order fits with it.
use Rattle.std.proofs.Common.{◌≡◌, ℕ, ◌+◌, ◌<◌, List, [], ◌∷◌, ◌++◌, true, false, refl, sym, ap, ap₂, ◌∙◌, subst, inl, inr, arith}
use Rattle.std.specs.Prelude.{map, nat_le, nat_lt, ◌&&◌, Option, Some, None, is_some, option_map, option_and_then}
use Rattle.std.specs.List.{filter}
use Rattle.std.proofs.lemmas.Bool.{and_from, and_parts, cases_Bool, cond-true, false≢true, le-leb, lt-ltb, ltb-true, true≢false}
use Rattle.std.proofs.lemmas.Option.{none-some, same_Some, cond_some, option_and_then_some}
use Rattle.omf_records.specs.Values.{Rec}
use Rattle.omf_placement.specs.declared.frame.Frame.{Frame}
use Rattle.omf_layout.specs.Layout.{Laid, and_then_more, all_laid, segment_at, segment_laid}
use Rattle.omf_layout.specs.Room.{limit, next_multiple, address_from, frame_at}
use Rattle.omf_layout.specs.Wants.{bytes_aligned}
use Rattle.omf_layout.specs.declared.alignment.Alignment.{Alignment}
use Rattle.omf_layout.specs.declared.alignment.Alignment.TheVariants.{Byte}
use Rattle.omf_layout.specs.declared.options.Frames.{Frames}
use Rattle.omf_layout.specs.declared.several.portion.Combination.{Combination}
use Rattle.omf_layout.specs.declared.several.portion.Combination.TheVariants.{Joined, Common, Alone}
use Rattle.omf_layout.specs.declared.several.portion.Portion.{Portion}
use Rattle.omf_layout.specs.Several.Laying.{Lying, laid, and_then_after, address_of, lying_at, joined_in, joined_laid, strictest, longest, common_at, common_laid, lying_there, alone_laid, run_laid, runs_laid}
use Rattle.omf_layout.specs.Several.Order.{combined_by, is_same_combination}
use Rattle.omf_layout.specs.Several.Portions.{portions_in}
use Rattle.omf_layout.specs.Own.Order.{first_of, order_records}
use Rattle.omf_layout.specs.Own.Ordered.{HasSegmentsOf, HaveNoEnds, IsOrderFitting, in_next_module}
use Rattle.omf_layout.proofs.FitLaws.{map_some, first-of}
use Rattle.omf_layout.proofs.SeveralLaws.ApartLaws.{Each, runs-well}
use Rattle.omf_layout.proofs.DosLaws.DosOrder.{keys-parted, later, runs-all, runs-parted}
use Rattle.omf_layout.proofs.DosLaws.EmptyLaws.{IsLike}
use Rattle.omf_layout.proofs.DosLaws.KeyLaws.{Key, each-filtered, left-out, sorted, taken}
use Rattle.omf_layout.proofs.DosLaws.OrderAlone.{first-is, fore, keeps-good, keeps-other, likes, run, whole, whole-is}
use Rattle.omf_layout.proofs.DosLaws.PartLaws.{good, ps}
use Rattle.omf_layout.proofs.DosLaws.PlaceLaws.{IsAbsolute, IsEmptyOne, Keeps, Settled, absolutes, address-is, alone-empty, alone-same, common-part, first-alone, first-by, first-seen, front-in, front-out, is_by, joined-empty, joined-part, joined-same, longest-same, none-by, strictest-same}
use Rattle.omf_layout.proofs.DosLaws.RunLaws.{key, run_of}

-- Something is laid.
pub record Fits {A : Type 0} (o : Option (Laid A)) : Type 0 where
  pub what : Laid A
  pub is : o ≡ Some what

fits : {A : Type 0} (o : Option (Laid A)) (l : Laid A) → o ≡ Some l → Fits o
fits o l e = record { what = l; is = e }

fits-some : {A : Type 0} (o : Option (Laid A)) → Fits o → is_some o ≡ true
fits-some o f = ap is_some f.is

fits-after : (f : Option (Laid (List Lying))) (r : ℕ → Option (Laid (List Lying))) (k : Laid (List Lying)) → f ≡ Some k → Fits (r k.free) → Fits (and_then_after f r)
fits-after f r k e q = record {
  what = laid (k.what ++ q.what.what) q.what.free;
  is = ap (λ o. option_and_then (λ (c : Laid (List Lying)). and_then_more c.what (r c.free)) o) e ∙ ap (and_then_more k.what) q.is;
}

fits-first : (lay : ℕ → Portion → Option (Laid Lying)) (n : ℕ) (x : Portion) (xs : List Portion) (one : Laid Lying) → lay n x ≡ Some one → Fits (all_laid lay one.free xs) → Fits (all_laid lay n (x ∷ xs))
fits-first lay n x xs one e q = record {
  what = laid (one.what ∷ q.what.what) q.what.free;
  is = ap (λ o. option_and_then (λ (l : Laid Lying). and_then_more (l.what ∷ []) (all_laid lay l.free xs)) o) e ∙ ap (and_then_more (one.what ∷ [])) q.is;
}

fits-map : {A B : Type 0} (f : Laid A → Laid B) (o : Option (Laid A)) → Fits o → Fits (option_map f o)
fits-map f o q = record { what = f q.what; is = ap (option_map f) q.is }

module _ (frames : Frames) where
  -- The first address of an alignment is below the limit.
  abbrev IsLow : Alignment → ℕ → Type 0
  IsLow x n = next_multiple (bytes_aligned x) n < limit frames

  low-of : (x : Alignment) (n size a : ℕ) → address_from frames (bytes_aligned x) n size ≡ Some a → IsLow x n
  low-of x n size a e =
      let low = next_multiple (bytes_aligned x) n in
      ltb-true low (limit frames) (and_parts (nat_lt low (limit frames)) (nat_le (low + size) (limit frames)) (cond_some (nat_lt low (limit frames) && nat_le (low + size) (limit frames)) low a e).0).0

  room-for : (x : Alignment) (c : Combination) (e : Portion) (n : ℕ) → IsLike x c e → IsLow x n → address_of frames n e ≡ Some (next_multiple (bytes_aligned x) n)
  room-for x c e n q h =
      let low = next_multiple (bytes_aligned x) n in
      ap₂ (λ y s. address_from frames (bytes_aligned y) n s) q.aligned q.empty
      ∙ cond-true (nat_lt low (limit frames) && nat_le (low + 0) (limit frames)) (Some low) None
      (and_from (nat_lt low (limit frames)) (nat_le (low + 0) (limit frames)) (lt-ltb low (limit frames) h) (le-leb (low + 0) (limit frames) (omega (arith, h))))

  low-kept : (x : Alignment) (n m : ℕ) → Settled x n m → IsLow x n → IsLow x m
  low-kept x n m s h = subst (λ a. a < limit frames) (sym s) h

  -- Empty segments before others.
  empties-fit : (x : Alignment) (c : Combination) (lay : ℕ → Portion → Option (Laid Lying)) → ((n : ℕ) (e : Portion) (one : Laid Lying) → IsLike x c e → lay n e ≡ Some one → IsEmptyOne frames x n one)
      → ((n : ℕ) (e : Portion) → IsLike x c e → IsLow x n → Fits (lay n e)) → (es : List Portion) → Each (IsLike x c) es → (n : ℕ) → IsLow x n → (ys : List Portion) → ((m : ℕ) → Settled x n m → Fits (all_laid lay m ys))
      → Fits (all_laid lay n (es ++ ys))
  empties-fit x c lay w room [] q n h ys rest = rest n refl
  empties-fit x c lay w room (e ∷ es) q n h ys rest =
      let one = room n e q.0 h in
      let s = w n e one.what q.0 one.is in
      fits-first lay n e (es ++ ys) one.what one.is
      (empties-fit x c lay w room es q.1 one.what.free (low-kept x n one.what.free s.settled h) ys (λ m t. rest m (t ∙ s.settled)))

  joined-room : (x : Alignment) (c : Combination) (frame : Frame) (n : ℕ) (e : Portion) → IsLike x c e → IsLow x n → Fits (joined_in frames frame n e)
  joined-room x c frame n e q h = record { what = lying_at frame e (next_multiple (bytes_aligned x) n); is = ap (option_map (lying_at frame e)) (room-for x c e n q h) }

  alone-at : (x : Alignment) (c : Combination) (n : ℕ) (e : Portion) → IsLike x c e → IsLow x n → (o : Option (ℕ × ℕ)) → o ≡ None → Fits (segment_at frames (bytes_aligned e.alignment) n e.segment.length o)
  alone-at x c n e q h (Some place) a = absurd (none-some place (sym a))
  alone-at x c n e q h None a = record { what = _; is = ap (option_map _) (room-for x c e n q h) }

  alone-room : (x : Alignment) (c : Combination) (n : ℕ) (e : Portion) → IsLike x c e → IsLow x n → Fits (alone_laid frames n e)
  alone-room x c n e q h = fits-map (lying_there e) (segment_laid frames n (e.segment, e.alignment)) (alone-at x c n e q h e.segment.absolute q.relative)

  -- ---- Joined ones, common ones, and those that are alone

  joined-fits : (c : Combination) (p : Portion) (rest es : List Portion) → Each (IsLike p.alignment c) es → (n : ℕ) (k : Laid (List Lying)) → joined_laid frames n (p ∷ rest) ≡ Some k → Fits (joined_laid frames n (es ++ p ∷ rest))
  joined-fits c p rest [] q n k h = fits (joined_laid frames n (p ∷ rest)) k h
  joined-fits c p rest (e ∷ es) q n k h = option_and_then_some (λ a. all_laid (joined_in frames (frame_at frames a)) n (p ∷ rest)) (address_of frames n p) k h (λ a d g.
      let frame = frame_at frames a in
      let low = low-of p.alignment n p.segment.length a d in
      let is = address-is frames p.alignment n p.segment.length a d in
      let more = empties-fit p.alignment c (joined_in frames frame) (joined-empty frames p.alignment c frame) (joined-room p.alignment c frame) (e ∷ es) q n low (p ∷ rest)
      (λ m s. fits (all_laid (joined_in frames frame) m (p ∷ rest)) k (joined-same frames frame p rest n m s ∙ g)) in
      record {
        what = more.what;
        is = ap (option_and_then (λ b. all_laid (joined_in frames (frame_at frames b)) n (e ∷ (es ++ p ∷ rest)))) (room-for p.alignment c e n q.0 low ∙ ap Some is) ∙ more.is;
      })

  common-fits : (c : Combination) (p : Portion) (rest es : List Portion) → Each (IsLike p.alignment c) es → (n : ℕ) (k : Laid (List Lying)) → common_laid frames n (p ∷ rest) ≡ Some k → Fits (common_laid frames n (es ++ p ∷ rest))
  common-fits c p rest [] q n k h = fits (common_laid frames n (p ∷ rest)) k h
  common-fits c p rest (e ∷ es) q n k h =
      let all = e ∷ (es ++ p ∷ rest) in
      map_some (common_at frames (p ∷ rest)) (address_from frames (strictest (p ∷ rest)) n (longest (p ∷ rest))) k h (λ a d g. record {
        what = common_at frames all a;
        is = ap (option_map (common_at frames all))
            (ap₂ (λ s r. address_from frames s n r) (strictest-same frames p.alignment c p rest (e ∷ es) refl q) (longest-same frames p.alignment c (p ∷ rest) (e ∷ es) q) ∙ d);
      })

  alone-low : (xs : List Portion) (f : Portion) → first_of xs ≡ Some f → (n : ℕ) (k : Laid (List Lying)) → all_laid (alone_laid frames) n xs ≡ Some k → IsLow f.alignment n
  alone-low [] f e n k h = absurd (none-some f e)
  alone-low (p ∷ xs) f e n k h =
      let one = first-of (alone_laid frames) n p xs k h in
      map_some (lying_there p) (segment_laid frames n (p.segment, p.alignment)) one.one one.one_is (λ s d g.
      by p.segment.absolute refl s d (λ a t. alone-low xs f a n one.rest (ap (λ m. all_laid (alone_laid frames) m xs) (sym t ∙ ap (λ (z : Laid Lying). z.free) g) ∙ one.rest_is))) where
        by : (o : Option (ℕ × ℕ)) → p.segment.absolute ≡ o → (s : Laid _) → segment_at frames (bytes_aligned p.alignment) n p.segment.length o ≡ Some s → (first_of xs ≡ Some f → s.free ≡ n → IsLow f.alignment n) → IsLow f.alignment n
        by None a s d later = map_some _ (address_from frames (bytes_aligned p.alignment) n p.segment.length) s d (λ b w g.
            subst (λ q. IsLow q.alignment n) (same_Some p f (sym (first-seen frames p xs None a) ∙ e)) (low-of p.alignment n p.segment.length b w))
        by (Some place) a s d later = later (sym (first-seen frames p xs (Some place) a) ∙ e) (ap (λ l. l.free) (sym (same_Some _ s d)))

  alone-fits : (c : Combination) (f : Portion) (xs es : List Portion) → first_of xs ≡ Some f → Each (IsLike f.alignment c) es → (n : ℕ) (k : Laid (List Lying)) → all_laid (alone_laid frames) n xs ≡ Some k
      → Fits (all_laid (alone_laid frames) n (es ++ xs))
  alone-fits c f xs es e q n k h =
      empties-fit f.alignment c (alone_laid frames) (alone-empty frames f.alignment c) (alone-room f.alignment c) es q n (alone-low xs f e n k h) xs
      (λ m s. fits (all_laid (alone_laid frames) m xs) k (alone-same frames xs f n m e s ∙ h))

  -- ---- A run

  module _ (f : Portion) (xs es : List Portion) (e : first_of xs ≡ Some f) where
    joined-room-of : (c : Combination) → f.combination ≡ c → Each (IsLike f.alignment c) es → (n : ℕ) (k : Laid (List Lying)) → joined_laid frames n (combined_by Joined xs) ≡ Some k
        → Fits (joined_laid frames n (combined_by Joined (es ++ xs)))
    joined-room-of Joined t q n k h =
        let r = first-by frames Joined refl xs f e (ap (is_same_combination Joined) t) in
        subst (λ zs. Fits (joined_laid frames n zs)) (ap (λ ys. es ++ ys) (sym r.1) ∙ sym (front-in frames f.alignment Joined Joined es xs q refl))
        (joined-fits Joined f r.0 es q n k (ap (joined_laid frames n) (sym r.1) ∙ h))
    joined-room-of Common t q n k h = fits _ k (ap (joined_laid frames n) (front-out frames f.alignment Joined Common es xs q refl) ∙ h)
    joined-room-of Alone t q n k h = fits _ k (ap (joined_laid frames n) (front-out frames f.alignment Joined Alone es xs q refl) ∙ h)

    common-room-of : (c : Combination) → f.combination ≡ c → Each (IsLike f.alignment c) es → (n : ℕ) (k : Laid (List Lying)) → common_laid frames n (combined_by Common xs) ≡ Some k
        → Fits (common_laid frames n (combined_by Common (es ++ xs)))
    common-room-of Joined t q n k h = fits _ k (ap (common_laid frames n) (front-out frames f.alignment Common Joined es xs q refl) ∙ h)
    common-room-of Common t q n k h =
        let r = first-by frames Common refl xs f e (ap (is_same_combination Common) t) in
        subst (λ zs. Fits (common_laid frames n zs)) (ap (λ ys. es ++ ys) (sym r.1) ∙ sym (front-in frames f.alignment Common Common es xs q refl))
        (common-fits Common f r.0 es q n k (ap (common_laid frames n) (sym r.1) ∙ h))
    common-room-of Alone t q n k h = fits _ k (ap (common_laid frames n) (front-out frames f.alignment Common Alone es xs q refl) ∙ h)

    alone-room-of : (c : Combination) → f.combination ≡ c → Each (IsLike f.alignment c) es → (n : ℕ) (k : Laid (List Lying)) → all_laid (alone_laid frames) n (combined_by Alone xs) ≡ Some k
        → Fits (all_laid (alone_laid frames) n (combined_by Alone (es ++ xs)))
    alone-room-of Joined t q n k h = fits _ k (ap (all_laid (alone_laid frames) n) (front-out frames f.alignment Alone Joined es xs q refl) ∙ h)
    alone-room-of Common t q n k h = fits _ k (ap (all_laid (alone_laid frames) n) (front-out frames f.alignment Alone Common es xs q refl) ∙ h)
    alone-room-of Alone t q n k h =
        subst (λ zs. Fits (all_laid (alone_laid frames) n zs)) (sym (front-in frames f.alignment Alone Alone es xs q refl))
        (alone-fits Alone f (combined_by Alone xs) es (first-alone frames xs f e t) q n k h)

    same-end : (o : Option (Laid (List Lying))) (k l : Laid (List Lying)) → o ≡ Some k → Keeps o l → k.free ≡ l.free
    same-end o k l h s = ap (λ (z : Laid (List Lying)). z.free) (same_Some k s.alone (sym h ∙ s.laid)) ∙ sym s.free

    run-fits : Each (IsLike f.alignment f.combination) es → (n : ℕ) (k : Laid (List Lying)) → run_laid frames n xs ≡ Some k → Fits (run_laid frames n (es ++ xs))
    run-fits q n k h = option_and_then_some _ (joined_laid frames n (combined_by Joined xs)) k h (λ a d g.
        let first = joined-room-of f.combination refl q n a d in
        let end = same-end (joined_laid frames n (combined_by Joined xs)) a first.what d (joined-part frames f xs es e f.combination refl q n first.what first.is) in
        map_some _ (and_then_after (common_laid frames a.free (combined_by Common xs)) (λ last. all_laid (alone_laid frames) last (combined_by Alone xs))) k g (λ r s t.
        option_and_then_some _ (common_laid frames a.free (combined_by Common xs)) r s (λ b d2 g2.
        let second = common-room-of f.combination refl q a.free b d2 in
        let end2 = same-end (common_laid frames a.free (combined_by Common xs)) b second.what d2 (common-part frames f xs es e f.combination refl q a.free second.what second.is) in
        map_some _ (all_laid (alone_laid frames) b.free (combined_by Alone xs)) r g2 (λ z d3 g3.
        let third = alone-room-of f.combination refl q b.free z d3 in
        fits-after (joined_laid frames n (combined_by Joined (es ++ xs))) _ first.what first.is
        (subst (λ i. Fits (and_then_after (common_laid frames i (combined_by Common (es ++ xs))) (λ last. all_laid (alone_laid frames) last (combined_by Alone (es ++ xs))))) end
        (fits-after (common_laid frames a.free (combined_by Common (es ++ xs))) _ second.what second.is
        (subst (λ i. Fits (all_laid (alone_laid frames) i (combined_by Alone (es ++ xs)))) end2 third)))))))

  -- ---- A run of absolute segments

  absolute-fits : (xs : List Portion) → Each (IsAbsolute frames) xs → (n : ℕ) → Fits (all_laid (alone_laid frames) n xs)
  absolute-fits [] q n = fits _ (laid [] n) refl
  absolute-fits (p ∷ xs) q n =
      let one = fits-map (lying_there p) (segment_laid frames n (p.segment, p.alignment)) (by p.segment.absolute q.0) in
      fits-first (alone_laid frames) n p xs one.what one.is (absolute-fits xs q.1 one.what.free) where
        by : (o : Option (ℕ × ℕ)) → is_some o ≡ true → Fits (segment_at frames (bytes_aligned p.alignment) n p.segment.length o)
        by None a = absurd (false≢true a)
        by (Some place) a = record { what = _; is = refl }

  empty-fits : (es : List Portion) → Each (IsLike Byte Joined) es → (n : ℕ) → n < limit frames → Fits (joined_laid frames n (es ++ []))
  empty-fits [] q n h = fits _ (laid [] n) refl
  empty-fits (e ∷ es) q n h =
      let a = next_multiple 1 n in
      let frame = frame_at frames a in
      let same : a ≡ n = omega arith in
      let low : a < limit frames = subst (λ i. i < limit frames) (sym same) h in
      let more = empties-fit Byte Joined (joined_in frames frame) (joined-empty frames Byte Joined frame) (joined-room Byte Joined frame) (e ∷ es) q n low [] (λ m s. fits _ (laid [] m) refl) in
      record { what = more.what; is = ap (option_and_then (λ b. all_laid (joined_in frames (frame_at frames b)) n (e ∷ (es ++ [])))) (room-for Byte Joined e n q.0 low) ∙ more.is }

  run-empty-fits : (xs es : List Portion) → first_of xs ≡ None → Each (IsLike Byte Joined) es → (n : ℕ) → n < limit frames → Fits (run_laid frames n (es ++ xs))
  run-empty-fits xs es e q n h =
      let a = absolutes frames xs e in
      let first = subst (λ zs. Fits (joined_laid frames n zs)) (ap (λ ys. es ++ ys) (sym (none-by frames Joined refl xs a)) ∙ sym (front-in frames Byte Joined Joined es xs q refl)) (empty-fits es q n h) in
      fits-after (joined_laid frames n (combined_by Joined (es ++ xs))) _ first.what first.is
      (fits-after (common_laid frames first.what.free (combined_by Common (es ++ xs))) _ (laid [] first.what.free)
      (ap (common_laid frames first.what.free) (front-out frames Byte Common Joined es xs q refl ∙ none-by frames Common refl xs a))
      (subst (λ zs. Fits (all_laid (alone_laid frames) first.what.free zs)) (sym (front-out frames Byte Alone Joined es xs q refl))
      (absolute-fits (combined_by Alone xs) (each-filtered (IsAbsolute frames) (is_by frames Alone) xs a) first.what.free)))

-- ---- All runs

module _ (frames : Frames) (ms : List (List Rec)) (m : List Rec) (h : HasSegmentsOf (order_records ms) m) (none : HaveNoEnds ms) where
  good-fits : (k : Key) (o : Option Portion) → first_of (run_of (ps ms) k) ≡ o → is_some o ≡ true → (n : ℕ) (l : Laid (List Lying)) → run_laid frames n (run ms k) ≡ Some l → Fits (run_laid frames n (whole ms m k))
  good-fits k None e g n l d = absurd (false≢true g)
  good-fits k (Some p) e g n l d = subst (λ zs. Fits (run_laid frames n zs)) (sym (whole-is frames ms m h none k))
      (run-fits frames (in_next_module p) (run ms k) (fore m k) (first-is frames ms m h none k (Some p) e) (likes frames ms m h none k (Some p) e) n l d)

  other-fits : (k : Key) (o : Option Portion) → first_of (run_of (ps ms) k) ≡ o → is_some o ≡ false → (n : ℕ) → n < limit frames → Fits (run_laid frames n (whole ms m k))
  other-fits k (Some p) e g n d = absurd (true≢false g)
  other-fits k None e g n d = subst (λ zs. Fits (run_laid frames n zs)) (sym (whole-is frames ms m h none k))
      (run-empty-fits frames (run ms k) (fore m k) (first-is frames ms m h none k None e) (likes frames ms m h none k None e) n d)

  all-fit : (ks : List Key) (n : ℕ) (a : Laid (List Lying)) → runs_laid frames n (map (run ms) (filter (good ms) ks)) ≡ Some a → a.free < limit frames → Fits (runs_laid frames n (map (whole ms m) ks))
  all-fit [] n a e low = fits _ (laid [] n) refl
  all-fit (k ∷ ks) n a e low = elim (cases_Bool (good ms k)) [
    | inl y ↦ option_and_then_some _ (run_laid frames n (run ms k)) a (ap (λ zs. runs_laid frames n (map (run ms) zs)) (sym (taken (good ms) k ks y)) ∙ e) (λ j d g.
        map_some (λ (q : Laid (List Lying)). laid (j.what ++ q.what) q.free) (runs_laid frames j.free (map (run ms) (filter (good ms) ks))) a g (λ q w t.
        let first = good-fits k (first_of (run_of (ps ms) k)) refl y n j d in
        let keeps = keeps-good frames ms m h none k (first_of (run_of (ps ms) k)) refl y n first.what first.is in
        let end : j.free ≡ first.what.free = ap (λ (z : Laid (List Lying)). z.free) (same_Some j keeps.alone (sym d ∙ keeps.laid)) ∙ sym keeps.free in
        let last : q.free ≡ a.free = ap (λ (z : Laid (List Lying)). z.free) t in
        fits-after (run_laid frames n (whole ms m k)) (λ b. runs_laid frames b (map (whole ms m) ks)) first.what first.is
        (subst (λ b. Fits (runs_laid frames b (map (whole ms m) ks))) end (all-fit ks j.free q w (omega (arith, last, low))))))
    | inr f ↦
        let rest : runs_laid frames n (map (run ms) (filter (good ms) ks)) ≡ Some a = ap (λ zs. runs_laid frames n (map (run ms) zs)) (sym (left-out (good ms) k ks f)) ∙ e in
        let up = (runs-well frames n (map (run ms) (filter (good ms) ks)) a rest).up in
        let first = other-fits k (first_of (run_of (ps ms) k)) refl f n (omega (arith, up, low)) in
        let keeps = keeps-other frames ms m h none k (first_of (run_of (ps ms) k)) refl f n first.what first.is in
        let end : n ≡ first.what.free = ap (λ (z : Laid (List Lying)). z.free) (same_Some (laid [] n) keeps.alone keeps.laid) ∙ sym keeps.free in
        fits-after (run_laid frames n (whole ms m k)) (λ b. runs_laid frames b (map (whole ms m) ks)) first.what first.is
        (subst (λ b. Fits (runs_laid frames b (map (whole ms m) ks))) end (all-fit ks n a rest low))
  ]

pub order-fits : IsOrderFitting
order-fits o ms m a h none e low =
    let ks = sorted (map key (portions_in (0, m) ++ map later (ps ms))) in
    let same = ap (map (run ms)) (keys-parted ms m h) ∙ runs-parted ms in
    let f = all-fit o.frames ms m h none ks o.base a (ap (runs_laid o.frames o.base) same ∙ e) low in
    ap is_some (ap (runs_laid o.frames o.base) (runs-all ms m h) ∙ f.is)
