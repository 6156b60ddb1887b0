-- Empty segments in front of a run change no place.
use Rattle.std.proofs.Common.{◌≡◌, ℕ, ◌+◌, ◌≤◌, List, [], ◌∷◌, ◌++◌, Bool, true, false, refl, sym, ap, ap₂, ◌∙◌, subst, inl, inr, arith}
use Rattle.std.specs.Prelude.{map, not, cond, max, nat_le, nat_lt, ◌&&◌, ◌==◌, Option, Some, None, is_some, option_map, option_and_then}
use Rattle.std.specs.List.{filter}
use Rattle.std.proofs.lemmas.Bool.{cases_Bool, cond-true, cond-false, false≢true}
use Rattle.std.proofs.lemmas.List.Elements.{filter-append}
use Rattle.std.proofs.lemmas.Option.{none-some, same_Some, cond_some, option_and_then_some}
use Rattle.omf_placement.specs.declared.frame.Frame.{Frame}
use Rattle.omf_placement.specs.declared.frame.Placed.{Placed}
use Rattle.omf_placement.specs.Placement.{absolute_place}
use Rattle.omf_layout.specs.Layout.{Laid, and_then_more, all_laid, segment_at, segment_laid}
use Rattle.omf_layout.specs.Room.{limit, next_multiple, address_from, frame_at}
use Rattle.omf_layout.specs.Wants.{bytes_aligned}
use Rattle.omf_layout.specs.declared.alignment.Alignment.{Alignment}
use Rattle.omf_layout.specs.declared.alignment.Alignment.TheVariants.{Byte, Word, Paragraph, Page, Dword, Block}
use Rattle.omf_layout.specs.declared.options.Frames.{Frames}
use Rattle.omf_layout.specs.declared.several.portion.Combination.{Combination}
use Rattle.omf_layout.specs.declared.several.portion.Combination.TheVariants.{Joined, Common, Alone}
use Rattle.omf_layout.specs.declared.several.portion.Portion.{Portion}
use Rattle.omf_layout.specs.Several.Laying.{Lying, laid, and_then_after, address_of, lying_at, joined_in, joined_laid, strictest, longest, all_at, common_at, common_laid, lying_there, alone_laid, run_laid, runs_laid}
use Rattle.omf_layout.specs.Several.Order.{combined_by, is_same_combination, lies_by}
use Rattle.omf_layout.specs.Own.Order.{first_of}
use Rattle.omf_layout.specs.Own.Ordered.{is_moved}
use Rattle.omf_layout.proofs.FitLaws.{map_some, first-of}
use Rattle.omf_layout.proofs.SeveralLaws.ApartLaws.{Each, each-weaker}
use Rattle.omf_layout.proofs.DosLaws.EmptyLaws.{IsLike}
use Rattle.omf_layout.proofs.DosLaws.KeyLaws.{each-filtered, filter-all, filter-none, left-out, taken}

-- What is laid has the same places of segments of later modules as something else that is laid, and the same end.
pub record Keeps (other : Option (Laid (List Lying))) (l : Laid (List Lying)) : Type 0 where
  pub alone : Laid (List Lying)
  pub laid : other ≡ Some alone
  pub places : filter is_moved l.what ≡ filter is_moved alone.what
  pub free : l.free ≡ alone.free

pub keeps-itself : (o : Option (Laid (List Lying))) (l : Laid (List Lying)) → o ≡ Some l → Keeps o l
keeps-itself o l e = record { alone = l; laid = e; places = refl; free = refl }

-- One thing after another.
pub keeps-after : (f g : Option (Laid (List Lying))) (r s : ℕ → Option (Laid (List Lying))) (l : Laid (List Lying)) → and_then_after f r ≡ Some l
    → ((k : Laid (List Lying)) → f ≡ Some k → Keeps g k) → ((n : ℕ) (k : Laid (List Lying)) → r n ≡ Some k → Keeps (s n) k) → Keeps (and_then_after g s) l
keeps-after f g r s l h a b = option_and_then_some (λ k. and_then_more k.what (r k.free)) f l h (λ k e d.
    map_some (λ (q : Laid (List Lying)). laid (k.what ++ q.what) q.free) (r k.free) l d (λ q w t.
    let x = a k e in
    let y = b k.free q w in
    record {
      alone = laid (x.alone.what ++ y.alone.what) y.alone.free;
      laid =
          ap (λ o. option_and_then (λ (c : Laid (List Lying)). and_then_more c.what (s c.free)) o) x.laid
          ∙ ap (λ o. and_then_more x.alone.what o) (ap s (sym x.free) ∙ y.laid);
      places =
          ap (λ (c : Laid (List Lying)). filter is_moved c.what) (sym t) ∙ filter-append is_moved k.what q.what
          ∙ ap₂ (λ us vs. us ++ vs) x.places y.places ∙ sym (filter-append is_moved x.alone.what y.alone.what);
      free = ap (λ (c : Laid (List Lying)). c.free) (sym t) ∙ y.free;
    }))

-- ---- Addresses

-- A free address after which the first of an alignment is the same.
abbrev pub Settled : Alignment → ℕ → ℕ → Type 0
Settled x n m = next_multiple (bytes_aligned x) m ≡ next_multiple (bytes_aligned x) n

again : (x : Alignment) (n : ℕ) → Settled x n (next_multiple (bytes_aligned x) n)
again Byte n = omega arith
again Word n = omega arith
again Paragraph n = omega arith
again Page n = omega arith
again Dword n = omega arith
again Block n = omega arith

byte-settled : (n m : ℕ) → Settled Byte n m → m ≡ n
byte-settled n m e = omega (arith, e)

module _ (frames : Frames) where
  pub address-same : (x : Alignment) (n m size : ℕ) → Settled x n m → address_from frames (bytes_aligned x) m size ≡ address_from frames (bytes_aligned x) n size
  address-same x n m size e = ap (λ low. cond (nat_lt low (limit frames) && nat_le (low + size) (limit frames)) (Some low) None) e

  pub address-is : (x : Alignment) (n size a : ℕ) → address_from frames (bytes_aligned x) n size ≡ Some a → next_multiple (bytes_aligned x) n ≡ a
  address-is x n size a e =
      let low = next_multiple (bytes_aligned x) n in
      (cond_some (nat_lt low (limit frames) && nat_le (low + size) (limit frames)) low a e).1

  -- An empty segment that is laid leaves the next free address of its alignment.
  settled-at : (x : Alignment) (e : Portion) (n a : ℕ) → e.alignment ≡ x → e.segment.length ≡ 0 → address_of frames n e ≡ Some a → Settled x n (a + e.segment.length)
  settled-at x e n a same empty h =
      let is : next_multiple (bytes_aligned x) n ≡ a = address-is x n e.segment.length a (ap (λ y. address_from frames (bytes_aligned y) n e.segment.length) (sym same) ∙ h) in
      let end : a + e.segment.length ≡ next_multiple (bytes_aligned x) n = let low = next_multiple (bytes_aligned x) n in omega (arith, is, empty) in
      ap (next_multiple (bytes_aligned x)) end ∙ again x n

  not-moved : (e : Portion) (place : Placed) → e.«module» ≡ 0 → is_moved (e, place) ≡ false
  not-moved e place h = ap (λ n. not (n == 0) && not (is_some e.segment.absolute)) h

  pub record IsEmptyOne (x : Alignment) (n : ℕ) (one : Laid Lying) : Type 0 where
    pub settled : Settled x n one.free
    pub still : is_moved one.what ≡ false

  pub joined-empty : (x : Alignment) (c : Combination) (frame : Frame) (n : ℕ) (e : Portion) (one : Laid Lying) → IsLike x c e → joined_in frames frame n e ≡ Some one → IsEmptyOne x n one
  joined-empty x c frame n e one q h = map_some (lying_at frame e) (address_of frames n e) one h (λ a d g.
      subst (IsEmptyOne x n) g (record {
        settled = settled-at x e n a q.aligned q.empty d;
        still = not-moved e (record { address = a; frame = frame }) q.is_first;
      }))

  alone-at : (x : Alignment) (e : Portion) (n : ℕ) (o : Option (ℕ × ℕ)) (one : Laid Placed) → o ≡ None → e.alignment ≡ x → e.segment.length ≡ 0
      → segment_at frames (bytes_aligned e.alignment) n e.segment.length o ≡ Some one → Settled x n one.free
  alone-at x e n (Some place) one r same empty h = absurd (none-some place (sym r))
  alone-at x e n None one r same empty h = map_some _ (address_of frames n e) one h (λ a d g. subst (λ (k : Laid Placed). Settled x n k.free) g (settled-at x e n a same empty d))

  pub alone-empty : (x : Alignment) (c : Combination) (n : ℕ) (e : Portion) (one : Laid Lying) → IsLike x c e → alone_laid frames n e ≡ Some one → IsEmptyOne x n one
  alone-empty x c n e one q h = map_some (lying_there e) (segment_laid frames n (e.segment, e.alignment)) one h (λ k d g.
      subst (IsEmptyOne x n) g (record {
        settled = alone-at x e n e.segment.absolute k q.relative q.aligned q.empty d;
        still = not-moved e k.what q.is_first;
      }))

-- Empty segments before others.
record Settles (x : Alignment) (lay : ℕ → Portion → Option (Laid Lying)) (n : ℕ) (ys : List Portion) (l : Laid (List Lying)) : Type 0 where
  pub middle : ℕ
  pub settled : Settled x n middle
  pub rest : Laid (List Lying)
  pub rest_is : all_laid lay middle ys ≡ Some rest
  pub places : filter is_moved l.what ≡ filter is_moved rest.what
  pub free : l.free ≡ rest.free

settles : (frames : Frames) (x : Alignment) (c : Combination) (lay : ℕ → Portion → Option (Laid Lying)) → ((n : ℕ) (e : Portion) (one : Laid Lying) → IsLike x c e → lay n e ≡ Some one → IsEmptyOne frames x n one)
    → (es : List Portion) → Each (IsLike x c) es → (n : ℕ) (ys : List Portion) (l : Laid (List Lying)) → all_laid lay n (es ++ ys) ≡ Some l → Settles x lay n ys l
settles frames x c lay w [] q n ys l h = record { middle = n; settled = refl; rest = l; rest_is = h; places = refl; free = refl }
settles frames x c lay w (e ∷ es) q n ys l h =
    let f = first-of lay n e (es ++ ys) l h in
    let one = w n e f.one q.0 f.one_is in
    let s = settles frames x c lay w es q.1 f.one.free ys f.rest f.rest_is in
    record {
      middle = s.middle;
      settled = s.settled ∙ one.settled;
      rest = s.rest;
      rest_is = s.rest_is;
      places = ap (filter is_moved) (sym f.what) ∙ left-out is_moved f.one.what f.rest.what one.still ∙ s.places;
      free = sym f.end ∙ s.free;
    }

module _ (frames : Frames) where
  -- ---- Joined ones

  pub joined-same : (frame : Frame) (p : Portion) (ps : List Portion) (n m : ℕ) → Settled p.alignment n m → all_laid (joined_in frames frame) m (p ∷ ps) ≡ all_laid (joined_in frames frame) n (p ∷ ps)
  joined-same frame p ps n m e =
      ap (λ o. option_and_then (λ (l : Laid Lying). and_then_more (l.what ∷ []) (all_laid (joined_in frames frame) l.free ps)) (option_map (lying_at frame p) o)) (address-same frames p.alignment n m p.segment.length e)

  joined-keeps : (c : Combination) (p : Portion) (ps es : List Portion) → Each (IsLike p.alignment c) es → (n : ℕ) (l : Laid (List Lying)) → joined_laid frames n (es ++ p ∷ ps) ≡ Some l → Keeps (joined_laid frames n (p ∷ ps)) l
  joined-keeps c p ps [] q n l h = keeps-itself (joined_laid frames n (p ∷ ps)) l h
  joined-keeps c p ps (e ∷ es) q n l h = option_and_then_some (λ a. all_laid (joined_in frames (frame_at frames a)) n (e ∷ (es ++ p ∷ ps))) (address_of frames n e) l h (λ a d g.
      let frame = frame_at frames a in
      let s = settles frames p.alignment c (joined_in frames frame) (joined-empty frames p.alignment c frame) (e ∷ es) q n (p ∷ ps) l g in
      let there : all_laid (joined_in frames frame) n (p ∷ ps) ≡ Some s.rest = sym (joined-same frame p ps n s.middle s.settled) ∙ s.rest_is in
      let is : next_multiple (bytes_aligned p.alignment) n ≡ a = address-is frames p.alignment n e.segment.length a (ap (λ y. address_from frames (bytes_aligned y) n e.segment.length) (sym q.0.aligned) ∙ d) in
      let f = first-of (joined_in frames frame) n p ps s.rest there in
      map_some (lying_at frame p) (address_of frames n p) f.one f.one_is (λ b d2 g2.
      let same : b ≡ a = sym (address-is frames p.alignment n p.segment.length b d2) ∙ is in
      record {
        alone = s.rest;
        laid =
            ap (option_and_then (λ k. all_laid (joined_in frames (frame_at frames k)) n (p ∷ ps))) (d2 ∙ ap Some same)
            ∙ there;
        places = s.places;
        free = s.free;
      }))

  -- ---- Common ones

  pub strictest-same : (x : Alignment) (c : Combination) (p : Portion) (ps es : List Portion) → p.alignment ≡ x → Each (IsLike x c) es → strictest (es ++ p ∷ ps) ≡ strictest (p ∷ ps)
  strictest-same x c p ps [] e q = refl
  strictest-same x c p ps (r ∷ es) e q =
      let rest = strictest-same x c p ps es e q.1 in
      let same : bytes_aligned r.alignment ≡ bytes_aligned p.alignment = ap bytes_aligned (q.0.aligned ∙ sym e) in
      let low : bytes_aligned p.alignment ≤ strictest (p ∷ ps) = omega arith in
      let all : max (bytes_aligned r.alignment) (strictest (es ++ p ∷ ps)) ≡ strictest (p ∷ ps) = omega (arith, rest, same, low) in
      all

  pub longest-same : (x : Alignment) (c : Combination) (ps es : List Portion) → Each (IsLike x c) es → longest (es ++ ps) ≡ longest ps
  longest-same x c ps [] q = refl
  longest-same x c ps (r ∷ es) q = ap₂ (λ a b. max a b) q.0.empty (longest-same x c ps es q.1) ∙ zero-max (longest ps) where
    zero-max : (n : ℕ) → max 0 n ≡ n
    zero-max n = omega arith

  places-of : (x : Alignment) (c : Combination) (ps es : List Portion) (place : Placed) → Each (IsLike x c) es → filter is_moved (all_at (es ++ ps) place) ≡ filter is_moved (all_at ps place)
  places-of x c ps [] place q = refl
  places-of x c ps (r ∷ es) place q = left-out is_moved (r, place) (all_at (es ++ ps) place) (not-moved frames r place q.0.is_first) ∙ places-of x c ps es place q.1

  common-keeps : (c : Combination) (p : Portion) (ps es : List Portion) → Each (IsLike p.alignment c) es → (n : ℕ) (l : Laid (List Lying)) → common_laid frames n (es ++ p ∷ ps) ≡ Some l → Keeps (common_laid frames n (p ∷ ps)) l
  common-keeps c p ps [] q n l h = keeps-itself (common_laid frames n (p ∷ ps)) l h
  common-keeps c p ps (e ∷ es) q n l h =
      let all = e ∷ (es ++ p ∷ ps) in
      let room : longest all ≡ longest (p ∷ ps) = longest-same p.alignment c (p ∷ ps) (e ∷ es) q in
      map_some (common_at frames all) (address_from frames (strictest all) n (longest all)) l h (λ a d g.
      let place : Placed = record { address = a; frame = frame_at frames a } in
      record {
        alone = common_at frames (p ∷ ps) a;
        laid = ap (option_map (common_at frames (p ∷ ps))) (ap₂ (λ s r. address_from frames s n r) (sym (strictest-same p.alignment c p ps (e ∷ es) refl q)) (sym room) ∙ d);
        places = ap (λ (k : Laid (List Lying)). filter is_moved k.what) (sym g) ∙ places-of p.alignment c (p ∷ ps) (e ∷ es) place q;
        free = ap (λ (k : Laid (List Lying)). k.free) (sym g) ∙ ap (λ r. a + r) room;
      })

  -- ---- Those that are alone

  abbrev is_relative : Portion → Bool
  is_relative p = not (is_some p.segment.absolute)

  alone-next : (p : Portion) (rest : ℕ → Option (Laid (List Lying))) (o : Option (ℕ × ℕ)) (n m : ℕ) → ((k : ℕ × ℕ) → o ≡ Some k → rest m ≡ rest n) → (o ≡ None → Settled p.alignment n m)
      → option_and_then (λ (l : Laid Lying). and_then_more (l.what ∷ []) (rest l.free)) (option_map (lying_there p) (segment_at frames (bytes_aligned p.alignment) m p.segment.length o))
      ≡ option_and_then (λ (l : Laid Lying). and_then_more (l.what ∷ []) (rest l.free)) (option_map (lying_there p) (segment_at frames (bytes_aligned p.alignment) n p.segment.length o))
  alone-next p rest (Some k) n m later now = ap (and_then_more ((p, absolute_place k.0 k.1) ∷ [])) (later k refl)
  alone-next p rest None n m later now =
      ap (λ o. option_and_then (λ (l : Laid Lying). and_then_more (l.what ∷ []) (rest l.free)) (option_map (lying_there p)
      (option_map (λ a. record { what = record { address = a; frame = frame_at frames a }; free = a + p.segment.length }) o)))
      (address-same frames p.alignment n m p.segment.length (now refl))

  pub alone-same : (ps : List Portion) (f : Portion) (n m : ℕ) → first_of ps ≡ Some f → Settled f.alignment n m → all_laid (alone_laid frames) m ps ≡ all_laid (alone_laid frames) n ps
  alone-same [] f n m e s = absurd (none-some f e)
  alone-same (p ∷ ps) f n m e s = alone-next p (λ k. all_laid (alone_laid frames) k ps) p.segment.absolute n m
      (λ k a. alone-same ps f n m (sym (cond-false (is_relative p) (Some p) (first_of ps) (ap (λ o. not (is_some o)) a)) ∙ e) s)
      (λ a. subst (λ q. Settled q.alignment n m) (sym (same_Some p f (sym (cond-true (is_relative p) (Some p) (first_of ps) (ap (λ o. not (is_some o)) a)) ∙ e))) s)

  alone-keeps : (c : Combination) (f : Portion) (ps es : List Portion) → first_of ps ≡ Some f → Each (IsLike f.alignment c) es → (n : ℕ) (l : Laid (List Lying)) → all_laid (alone_laid frames) n (es ++ ps) ≡ Some l
      → Keeps (all_laid (alone_laid frames) n ps) l
  alone-keeps c f ps es e q n l h =
      let s = settles frames f.alignment c (alone_laid frames) (alone-empty frames f.alignment c) es q n ps l h in
      record { alone = s.rest; laid = sym (alone-same ps f n s.middle e s.settled) ∙ s.rest_is; places = s.places; free = s.free }

  -- ---- A run

  abbrev pub is_by : Combination → Portion → Bool
  is_by c p = is_same_combination c (lies_by p.segment.absolute p.combination)

  like-by : (x : Alignment) (c d : Combination) (e : Portion) → IsLike x d e → is_by c e ≡ is_same_combination c d
  like-by x c d e q = ap₂ (λ o b. is_same_combination c (lies_by o b)) q.relative q.combined

  pub front-in : (x : Alignment) (c d : Combination) (es ps : List Portion) → Each (IsLike x d) es → is_same_combination c d ≡ true → combined_by c (es ++ ps) ≡ es ++ combined_by c ps
  front-in x c d es ps q t =
      filter-append (is_by c) es ps ∙ ap (λ zs. zs ++ combined_by c ps) (filter-all (is_by c) es (each-weaker (IsLike x d) (λ e. is_by c e ≡ true) (λ e l. like-by x c d e l ∙ t) es q))

  pub front-out : (x : Alignment) (c d : Combination) (es ps : List Portion) → Each (IsLike x d) es → is_same_combination c d ≡ false → combined_by c (es ++ ps) ≡ combined_by c ps
  front-out x c d es ps q t =
      filter-append (is_by c) es ps ∙ ap (λ zs. zs ++ combined_by c ps) (filter-none (is_by c) es (each-weaker (IsLike x d) (λ e. is_by c e ≡ false) (λ e l. like-by x c d e l ∙ t) es q))

  -- The first segment that is not absolute is the first of its combination.
  abbrev pub first-with : Option (ℕ × ℕ) → Portion → Option Portion → Option Portion
  first-with None p o = Some p
  first-with (Some k) p o = o

  pub first-seen : (p : Portion) (ps : List Portion) (o : Option (ℕ × ℕ)) → p.segment.absolute ≡ o → first_of (p ∷ ps) ≡ first-with o p (first_of ps)
  first-seen p ps None e = cond-true (is_relative p) (Some p) (first_of ps) (ap (λ o. not (is_some o)) e)
  first-seen p ps (Some k) e = cond-false (is_relative p) (Some p) (first_of ps) (ap (λ o. not (is_some o)) e)

  pub first-by : (c : Combination) → is_same_combination c Alone ≡ false → (ps : List Portion) (f : Portion) → first_of ps ≡ Some f → is_same_combination c f.combination ≡ true → (rest : List Portion) × (combined_by c ps ≡ f ∷ rest)
  first-by c n [] f e t = absurd (none-some f e)
  first-by c n (p ∷ ps) f e t = by p.segment.absolute refl (first-by c n ps f) where
    by : (o : Option (ℕ × ℕ)) → p.segment.absolute ≡ o → (first_of ps ≡ Some f → is_same_combination c f.combination ≡ true → (rest : List Portion) × (combined_by c ps ≡ f ∷ rest))
        → (rest : List Portion) × (combined_by c (p ∷ ps) ≡ f ∷ rest)
    by None a later =
        let same : p ≡ f = same_Some p f (sym (first-seen p ps None a) ∙ e) in
        (combined_by c ps, taken (is_by c) p ps (ap (λ o. is_same_combination c (lies_by o p.combination)) a ∙ ap (λ q. is_same_combination c q.combination) same ∙ t) ∙ ap (λ q. q ∷ combined_by c ps) same)
    by (Some k) a later =
        let r = later (sym (first-seen p ps (Some k) a) ∙ e) t in
        (r.0, left-out (is_by c) p ps (ap (λ o. is_same_combination c (lies_by o p.combination)) a ∙ n) ∙ r.1)

  pub first-alone : (ps : List Portion) (f : Portion) → first_of ps ≡ Some f → f.combination ≡ Alone → first_of (combined_by Alone ps) ≡ Some f
  first-alone [] f e t = absurd (none-some f e)
  first-alone (p ∷ ps) f e t = by p.segment.absolute refl (first-alone ps f) where
    by : (o : Option (ℕ × ℕ)) → p.segment.absolute ≡ o → (first_of ps ≡ Some f → f.combination ≡ Alone → first_of (combined_by Alone ps) ≡ Some f) → first_of (combined_by Alone (p ∷ ps)) ≡ Some f
    by None a later =
        let same : p ≡ f = same_Some p f (sym (first-seen p ps None a) ∙ e) in
        ap first_of (taken (is_by Alone) p ps (ap (λ o. is_same_combination Alone (lies_by o p.combination)) a ∙ ap (is_same_combination Alone) (ap (λ q. q.combination) same ∙ t)))
        ∙ first-seen p (combined_by Alone ps) None a ∙ ap Some same
    by (Some k) a later =
        ap first_of (taken (is_by Alone) p ps (ap (λ o. is_same_combination Alone (lies_by o p.combination)) a))
        ∙ first-seen p (combined_by Alone ps) (Some k) a ∙ later (sym (first-seen p ps (Some k) a) ∙ e) t

  module _ (f : Portion) (ps es : List Portion) (e : first_of ps ≡ Some f) where
    pub joined-part : (c : Combination) → f.combination ≡ c → Each (IsLike f.alignment c) es → (n : ℕ) (l : Laid (List Lying)) → joined_laid frames n (combined_by Joined (es ++ ps)) ≡ Some l → Keeps (joined_laid frames n (combined_by Joined ps)) l
    joined-part Joined t q n l h =
        let r = first-by Joined refl ps f e (ap (is_same_combination Joined) t) in
        subst (λ xs. Keeps (joined_laid frames n xs) l) (sym r.1)
        (joined-keeps Joined f r.0 es q n l (ap (joined_laid frames n) (ap (λ xs. es ++ xs) (sym r.1) ∙ sym (front-in f.alignment Joined Joined es ps q refl)) ∙ h))
    joined-part Common t q n l h = keeps-itself (joined_laid frames n (combined_by Joined ps)) l (ap (joined_laid frames n) (sym (front-out f.alignment Joined Common es ps q refl)) ∙ h)
    joined-part Alone t q n l h = keeps-itself (joined_laid frames n (combined_by Joined ps)) l (ap (joined_laid frames n) (sym (front-out f.alignment Joined Alone es ps q refl)) ∙ h)

    pub common-part : (c : Combination) → f.combination ≡ c → Each (IsLike f.alignment c) es → (n : ℕ) (l : Laid (List Lying)) → common_laid frames n (combined_by Common (es ++ ps)) ≡ Some l → Keeps (common_laid frames n (combined_by Common ps)) l
    common-part Joined t q n l h = keeps-itself (common_laid frames n (combined_by Common ps)) l (ap (common_laid frames n) (sym (front-out f.alignment Common Joined es ps q refl)) ∙ h)
    common-part Common t q n l h =
        let r = first-by Common refl ps f e (ap (is_same_combination Common) t) in
        subst (λ xs. Keeps (common_laid frames n xs) l) (sym r.1)
        (common-keeps Common f r.0 es q n l (ap (common_laid frames n) (ap (λ xs. es ++ xs) (sym r.1) ∙ sym (front-in f.alignment Common Common es ps q refl)) ∙ h))
    common-part Alone t q n l h = keeps-itself (common_laid frames n (combined_by Common ps)) l (ap (common_laid frames n) (sym (front-out f.alignment Common Alone es ps q refl)) ∙ h)

    pub alone-part : (c : Combination) → f.combination ≡ c → Each (IsLike f.alignment c) es → (n : ℕ) (l : Laid (List Lying)) → all_laid (alone_laid frames) n (combined_by Alone (es ++ ps)) ≡ Some l
        → Keeps (all_laid (alone_laid frames) n (combined_by Alone ps)) l
    alone-part Joined t q n l h =
        keeps-itself (all_laid (alone_laid frames) n (combined_by Alone ps)) l (ap (all_laid (alone_laid frames) n) (sym (front-out f.alignment Alone Joined es ps q refl)) ∙ h)
    alone-part Common t q n l h =
        keeps-itself (all_laid (alone_laid frames) n (combined_by Alone ps)) l (ap (all_laid (alone_laid frames) n) (sym (front-out f.alignment Alone Common es ps q refl)) ∙ h)
    alone-part Alone t q n l h =
        alone-keeps Alone f (combined_by Alone ps) es (first-alone ps f e t) q n l (ap (all_laid (alone_laid frames) n) (sym (front-in f.alignment Alone Alone es ps q refl)) ∙ h)

    pub run-keeps : Each (IsLike f.alignment f.combination) es → (n : ℕ) (l : Laid (List Lying)) → run_laid frames n (es ++ ps) ≡ Some l → Keeps (run_laid frames n ps) l
    run-keeps q n l h =
        keeps-after (joined_laid frames n (combined_by Joined (es ++ ps))) (joined_laid frames n (combined_by Joined ps)) _ _ l h (joined-part f.combination refl q n)
        (λ b k g. keeps-after (common_laid frames b (combined_by Common (es ++ ps))) (common_laid frames b (combined_by Common ps)) _ _ k g (common-part f.combination refl q b) (alone-part f.combination refl q))

  -- ---- A run of absolute segments

  abbrev pub IsAbsolute : Portion → Type 0
  IsAbsolute p = is_some p.segment.absolute ≡ true

  pub absolutes : (ps : List Portion) → first_of ps ≡ None → Each IsAbsolute ps
  absolutes [] e = tt
  absolutes (p ∷ ps) e = elim (cases_Bool (is_some p.segment.absolute)) [
    | inl y ↦ (y, absolutes ps (sym (cond-false (is_relative p) (Some p) (first_of ps) (ap not y)) ∙ e))
    | inr n ↦ absurd (none-some p (sym e ∙ cond-true (is_relative p) (Some p) (first_of ps) (ap not n)))
  ]

  pub none-by : (c : Combination) → is_same_combination c Alone ≡ false → (ps : List Portion) → Each IsAbsolute ps → combined_by c ps ≡ []
  none-by c n ps q = filter-none (is_by c) ps (each-weaker IsAbsolute (λ p. is_by c p ≡ false) (λ p a. by p p.segment.absolute a) ps q) where
    by : (p : Portion) (o : Option (ℕ × ℕ)) → is_some o ≡ true → is_same_combination c (lies_by o p.combination) ≡ false
    by p None a = absurd (false≢true a)
    by p (Some k) a = n

  still-at : (p : Portion) (n : ℕ) (o : Option (ℕ × ℕ)) (one : Laid Placed) → is_some o ≡ true → segment_at frames (bytes_aligned p.alignment) n p.segment.length o ≡ Some one → one.free ≡ n
  still-at p n None one a h = absurd (false≢true a)
  still-at p n (Some k) one a h = ap (λ (l : Laid Placed). l.free) (sym (same_Some _ one h))

  absolute-still : (p : Portion) (place : Placed) → is_some p.segment.absolute ≡ true → is_moved (p, place) ≡ false
  absolute-still p place a = ap (λ b. not (p.«module» == 0) && not b) a ∙ and-false (not (p.«module» == 0)) where
    and-false : (b : Bool) → (b && false) ≡ false
    and-false true = refl
    and-false false = refl

  absolute-keeps : (ps : List Portion) → Each IsAbsolute ps → (n : ℕ) (l : Laid (List Lying)) → all_laid (alone_laid frames) n ps ≡ Some l → Keeps (Some (laid [] n)) l
  absolute-keeps [] q n l h = keeps-itself (Some (laid [] n)) l h
  absolute-keeps (p ∷ ps) q n l h =
      let f = first-of (alone_laid frames) n p ps l h in
      let k = absolute-keeps ps q.1 f.one.free f.rest f.rest_is in
      map_some (lying_there p) (segment_laid frames n (p.segment, p.alignment)) f.one f.one_is (λ (s : Laid Placed) d g.
      let free : f.one.free ≡ n = ap (λ (z : Laid Lying). z.free) (sym g) ∙ still-at p n p.segment.absolute s q.0 d in
      let still : is_moved f.one.what ≡ false = ap (λ (z : Laid Lying). is_moved z.what) (sym g) ∙ absolute-still p s.what q.0 in
      record {
        alone = k.alone;
        laid = ap (λ b. Some (laid [] b)) (sym free) ∙ k.laid;
        places = ap (filter is_moved) (sym f.what) ∙ left-out is_moved f.one.what f.rest.what still ∙ k.places;
        free = sym f.end ∙ k.free;
      })

  empty-joined : (es : List Portion) → Each (IsLike Byte Joined) es → (n : ℕ) (l : Laid (List Lying)) → joined_laid frames n (es ++ []) ≡ Some l → Keeps (Some (laid [] n)) l
  empty-joined [] q n l h = keeps-itself (Some (laid [] n)) l h
  empty-joined (e ∷ es) q n l h = option_and_then_some (λ a. all_laid (joined_in frames (frame_at frames a)) n (e ∷ (es ++ []))) (address_of frames n e) l h (λ a d g.
      let frame = frame_at frames a in
      let s = settles frames Byte Joined (joined_in frames frame) (joined-empty frames Byte Joined frame) (e ∷ es) q n [] l g in
      record {
        alone = s.rest;
        laid = ap (λ b. Some (laid [] b)) (sym (byte-settled n s.middle s.settled)) ∙ s.rest_is;
        places = s.places;
        free = s.free;
      })

  pub run-empty : (ps es : List Portion) → first_of ps ≡ None → Each (IsLike Byte Joined) es → (n : ℕ) (l : Laid (List Lying)) → run_laid frames n (es ++ ps) ≡ Some l → Keeps (Some (laid [] n)) l
  run-empty ps es e q n l h =
      let a = absolutes ps e in
      keeps-after (joined_laid frames n (combined_by Joined (es ++ ps))) (Some (laid [] n)) _ (λ b. and_then_after (Some (laid [] b)) (λ c. Some (laid [] c))) l h
      (λ k d. empty-joined es q n k (ap (joined_laid frames n) (ap (λ xs. es ++ xs) (sym (none-by Joined refl ps a)) ∙ sym (front-in Byte Joined Joined es ps q refl)) ∙ d))
      (λ b k d. keeps-after (common_laid frames b (combined_by Common (es ++ ps))) (Some (laid [] b)) _ (λ c. Some (laid [] c)) k d
      (λ j g. keeps-itself (Some (laid [] b)) j (ap (common_laid frames b) (sym (front-out Byte Common Joined es ps q refl ∙ none-by Common refl ps a)) ∙ g))
      (λ c j g. absolute-keeps (combined_by Alone ps) (each-filtered IsAbsolute (is_by Alone) ps a) c j (ap (all_laid (alone_laid frames) c) (sym (front-out Byte Alone Joined es ps q refl)) ∙ g)))

  -- ---- All runs

  none-more : (o : Option (Laid (List Lying))) → and_then_more [] o ≡ o
  none-more None = refl
  none-more (Some l) = refl

  pub runs-keep : {K : Type 0} (r s : K → List Portion) (t : K → Bool)
      → ((k : K) → t k ≡ true → (n : ℕ) (l : Laid (List Lying)) → run_laid frames n (r k) ≡ Some l → Keeps (run_laid frames n (s k)) l)
      → ((k : K) → t k ≡ false → (n : ℕ) (l : Laid (List Lying)) → run_laid frames n (r k) ≡ Some l → Keeps (Some (laid [] n)) l)
      → (ks : List K) (n : ℕ) (l : Laid (List Lying)) → runs_laid frames n (map r ks) ≡ Some l → Keeps (runs_laid frames n (map s (filter t ks))) l
  runs-keep r s t a b [] n l h = keeps-itself (Some (laid [] n)) l h
  runs-keep r s t a b (k ∷ ks) n l h =
      let rest = runs-keep r s t a b ks in
      let more = λ (m : ℕ). runs_laid frames m (map s (filter t ks)) in
      elim (cases_Bool (t k)) [
        | inl y ↦ subst (λ zs. Keeps (runs_laid frames n (map s zs)) l) (sym (taken t k ks y))
            (keeps-after (run_laid frames n (r k)) (run_laid frames n (s k)) (λ m. runs_laid frames m (map r ks)) more l h (a k y n) rest)
        | inr f ↦ subst (λ zs. Keeps (runs_laid frames n (map s zs)) l) (sym (left-out t k ks f))
            (subst (λ o. Keeps o l) (none-more (more n)) (keeps-after (run_laid frames n (r k)) (Some (laid [] n)) (λ m. runs_laid frames m (map r ks)) more l h (b k f n) rest))
      ]
