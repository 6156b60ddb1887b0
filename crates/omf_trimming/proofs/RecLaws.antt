-- What the typed records define that are left of a module.
use Rattle.std.proofs.Common.{◌≡◌, inl, inr, ℕ, ◌+◌, ◌*◌, ◌/◌, ◌%◌, ◌^◌, ◌<◌, List, [], ◌∷◌, ◌++◌, length, refl, sym, ap, ap₂, ◌∙◌, Bool, true, false, cond, arith, append-nil, length-append}
use Rattle.std.specs.Prelude.{◌==◌, filter, flat_map, map, not, None}
use Rattle.std.specs.List.{enumerate_from}
use Rattle.std.proofs.lemmas.Bool.{cases_Bool, cond-true, cond-false, eqb-true, true≢false}
use Rattle.std.proofs.lemmas.Grind.{flat_map-append}
use Rattle.std.proofs.lemmas.List.Elements.{filter-append}
use Rattle.omf_frame.specs.Bytes.{is_one_of, with_before}
use Rattle.omf_frame.specs.Types.{is_local}
use Rattle.omf_records.specs.Values.{At, Carried, Comment, Communals, Contents, DataItem, Externs, Fixups, Group, Header, Iterated, ModEnd, Names, Plain, PublicItems, Publics, Rec, Segment, SegmentItem, Subrecord, combination, is_big, width}
use Rattle.omf_check.specs.Tables.{defined_externals, defined_groups, defined_names, defined_segments, last_data, segment_length, segments}
use Rattle.omf_check.specs.declared.segment.SegInfo.{SegInfo}
use Rattle.omf_trimming.specs.Choice.{data_by, data_if, data_of}
use Rattle.omf_trimming.specs.Without.{Left, Whole, Nothing, Anew, are_of, emptied, left_after, left_field, left_publics, recs_left, started, threads_alone}
use Rattle.omf_trimming.specs.WithoutLaws.{PublicsAreLeftOut, RestsHaveTheRest, left_segment, public_records, publics_by}
use Rattle.omf_trimming.specs.declared.without.LeftPublics.{LeftPublics}
use Rattle.omf_trimming.specs.declared.without.LeftPublics.TheVariants.{AtStart, Gone, Nameless}

abbrev T : ℕ → Contents → Rec
T kind c = record { kind = kind; contents = c }

module _ (p : LeftPublics) (gone : List ℕ) where
  abbrev left_of : List Rec → Rec → List Rec
  left_of before t = recs_left t (left_after p gone before t.contents)

  -- What each record gives is what it gives to the whole.
  pub all-left : {A : Type 0} (f g : Rec → List A) → ((before : List Rec) (t : Rec) → flat_map f (left_of before t) ≡ g t) → (before m : List Rec) → flat_map f (with_before left_of before m) ≡ flat_map g m
  all-left f g h before [] = refl
  all-left f g h before (t ∷ m) =
      flat_map-append f (left_of before t) (with_before left_of (before ++ t ∷ []) m) ∙ ap₂ (λ xs ys. xs ++ ys) (h before t) (all-left f g h (before ++ t ∷ []) m)

  -- What no SEGDEF, PUBDEF, data or FIXUPP gives is the same.
  pub record IsElsewhere {A : Type 0} (f : ℕ → Contents → List A) : Type 0 where
    pub none_segment : (kind : ℕ) (s : SegmentItem) → f kind (Segment s) ≡ []
    pub none_publics : (kind : ℕ) (q : PublicItems) → f kind (Publics q) ≡ []
    pub none_plain : (kind : ℕ) (d : DataItem) → f kind (Plain d) ≡ []
    pub none_iterated : (kind : ℕ) (d : DataItem) → f kind (Iterated d) ≡ []
    pub none_fixups : (kind : ℕ) (subs : List (At Subrecord)) → f kind (Fixups subs) ≡ []

  module _ {A : Type 0} (f : ℕ → Contents → List A) (n : IsElsewhere f) where
    abbrev given : Rec → List A
    given t = f t.kind t.contents

    whole : (t : Rec) → flat_map given (t ∷ []) ≡ given t
    whole t = append-nil (given t)

    -- nothing, either way
    either : (b : Bool) (kind : ℕ) (c : Contents) (l k : Left) → f kind c ≡ [] → flat_map given (recs_left (T kind c) l) ≡ [] → flat_map given (recs_left (T kind c) k) ≡ [] → flat_map given (recs_left (T kind c) (cond b l k)) ≡ f kind c
    either true kind c l k e h g = h ∙ sym e
    either false kind c l k e h g = g ∙ sym e

    none-whole : (kind : ℕ) (c : Contents) → f kind c ≡ [] → flat_map given (T kind c ∷ []) ≡ []
    none-whole kind c e = whole (T kind c) ∙ e

    none-publics : (o : LeftPublics) (kind : ℕ) (q : PublicItems) → flat_map given (recs_left (T kind (Publics q)) (left_publics o q)) ≡ []
    none-publics Gone kind q = refl
    none-publics Nameless kind q = refl
    none-publics AtStart kind q = none-whole kind (Publics (started q)) (n.none_publics kind (started q))

    same-by : (before : List Rec) (kind : ℕ) (c : Contents) → flat_map given (recs_left (T kind c) (left_after p gone before c)) ≡ f kind c
    same-by before kind (Segment s) = either (is_one_of gone (length (segments before) + 1)) kind (Segment s) (Anew (Segment (emptied p s))) Whole (n.none_segment kind s)
        (none-whole kind (Segment (emptied p s)) (n.none_segment kind (emptied p s))) (none-whole kind (Segment s) (n.none_segment kind s))
    same-by before kind (Publics q) = either (is_one_of gone q.segment.item) kind (Publics q) (left_publics p q) Whole (n.none_publics kind q) (none-publics p kind q) (none-whole kind (Publics q) (n.none_publics kind q))
    same-by before kind (Plain d) = either (is_one_of gone d.segment.item) kind (Plain d) Nothing Whole (n.none_plain kind d) refl (none-whole kind (Plain d) (n.none_plain kind d))
    same-by before kind (Iterated d) = either (is_one_of gone d.segment.item) kind (Iterated d) Nothing Whole (n.none_iterated kind d) refl (none-whole kind (Iterated d) (n.none_iterated kind d))
    same-by before kind (Fixups subs) = either (are_of gone (last_data before)) kind (Fixups subs) (Anew (Fixups (threads_alone subs))) Whole (n.none_fixups kind subs)
        (none-whole kind (Fixups (threads_alone subs)) (n.none_fixups kind (threads_alone subs))) (none-whole kind (Fixups subs) (n.none_fixups kind subs))
    same-by before kind (Header x) = whole (T kind (Header x))
    same-by before kind (Comment x y z) = whole (T kind (Comment x y z))
    same-by before kind (Names x) = whole (T kind (Names x))
    same-by before kind (Group x) = whole (T kind (Group x))
    same-by before kind (Externs x) = whole (T kind (Externs x))
    same-by before kind (Communals x) = whole (T kind (Communals x))
    same-by before kind (ModEnd x y) = whole (T kind (ModEnd x y))
    same-by before kind (Carried x) = whole (T kind (Carried x))

    pub same-all : (m : List Rec) → flat_map given (with_before left_of [] m) ≡ flat_map given m
    same-all m = all-left given given (λ before t. same-by before t.kind t.contents) [] m

  -- ---- data

  data-none : (s : ℕ) (kind : ℕ) (d : DataItem) → (d.segment.item == s) ≡ false → data_if (d.segment.item == s) kind d ≡ []
  data-none s kind d e = cond-false (d.segment.item == s) _ _ e

  other-segment : (a s : ℕ) (x : Bool) → is_one_of gone a ≡ x → is_one_of gone s ≡ not x → (a == s) ≡ false
  other-segment a s true e h = elim (cases_Bool (a == s)) [
    | inl q ↦ absurd (true≢false (sym e ∙ ap (is_one_of gone) (eqb-true a s q) ∙ h))
    | inr q ↦ q
  ]
  other-segment a s false e h = elim (cases_Bool (a == s)) [
    | inl q ↦ absurd (true≢false (sym h ∙ sym (ap (is_one_of gone) (eqb-true a s q)) ∙ e))
    | inr q ↦ q
  ]

  abbrev own_data : ℕ → Rec → List (List ℕ)
  own_data s t = data_by s t.kind t.contents

  abbrev kept_data : ℕ → Rec → List (List ℕ)
  kept_data s t = cond (is_one_of gone s) [] (own_data s t)

  data-piece : (s kind : ℕ) (d : DataItem) (x y : Bool) → is_one_of gone d.segment.item ≡ x → is_one_of gone s ≡ y → (xs : List (List ℕ)) → xs ≡ data_if (d.segment.item == s) kind d
      → cond x [] (xs ++ []) ≡ cond y [] xs
  data-piece s kind d true true e h xs is = refl
  data-piece s kind d true false e h xs is = sym (is ∙ data-none s kind d (other-segment d.segment.item s true e h))
  data-piece s kind d false true e h xs is = append-nil xs ∙ is ∙ data-none s kind d (other-segment d.segment.item s false e h)
  data-piece s kind d false false e h xs is = append-nil xs

  nothing-kept : (b : Bool) → ◌≡◌ {A = List (List ℕ)} [] (cond b [] [])
  nothing-kept true = refl
  nothing-kept false = refl

  left-cond : (s : ℕ) (t : Rec) (b : Bool) (l k : Left) (xs ys : List (List ℕ)) → flat_map (own_data s) (recs_left t l) ≡ xs → flat_map (own_data s) (recs_left t k) ≡ ys → flat_map (own_data s) (recs_left t (cond b l k)) ≡ cond b xs ys
  left-cond s t true l k xs ys e h = e
  left-cond s t false l k xs ys e h = h

  same-cond : (b : Bool) (xs : List (List ℕ)) → cond b xs xs ≡ xs
  same-cond true xs = refl
  same-cond false xs = refl

  publics-data : (s kind : ℕ) (q : PublicItems) (o : LeftPublics) → flat_map (own_data s) (recs_left (T kind (Publics q)) (left_publics o q)) ≡ []
  publics-data s kind q Gone = refl
  publics-data s kind q Nameless = refl
  publics-data s kind q AtStart = refl

  data-by : (s : ℕ) (before : List Rec) (kind : ℕ) (c : Contents) → flat_map (own_data s) (recs_left (T kind c) (left_after p gone before c)) ≡ kept_data s (T kind c)
  data-by s before kind (Segment x) = left-cond s (T kind (Segment x)) (is_one_of gone (length (segments before) + 1)) (Anew (Segment (emptied p x))) Whole [] [] refl refl ∙ same-cond (is_one_of gone (length (segments before) + 1)) [] ∙ nothing-kept (is_one_of gone s)
  data-by s before kind (Publics q) = left-cond s (T kind (Publics q)) (is_one_of gone q.segment.item) (left_publics p q) Whole [] [] (publics-data s kind q p) refl ∙ same-cond (is_one_of gone q.segment.item) [] ∙ nothing-kept (is_one_of gone s)
  data-by s before kind (Plain d) =
      left-cond s (T kind (Plain d)) (is_one_of gone d.segment.item) Nothing Whole [] (own_data s (T kind (Plain d)) ++ []) refl refl
      ∙ data-piece s kind d (is_one_of gone d.segment.item) (is_one_of gone s) refl refl (own_data s (T kind (Plain d))) refl
  data-by s before kind (Iterated d) =
      left-cond s (T kind (Iterated d)) (is_one_of gone d.segment.item) Nothing Whole [] (own_data s (T kind (Iterated d)) ++ []) refl refl
      ∙ data-piece s kind d (is_one_of gone d.segment.item) (is_one_of gone s) refl refl (own_data s (T kind (Iterated d))) refl
  data-by s before kind (Fixups subs) = left-cond s (T kind (Fixups subs)) (are_of gone (last_data before)) (Anew (Fixups (threads_alone subs))) Whole [] [] refl refl ∙ same-cond (are_of gone (last_data before)) [] ∙ nothing-kept (is_one_of gone s)
  data-by s before kind (Header x) = nothing-kept (is_one_of gone s)
  data-by s before kind (Comment x y z) = nothing-kept (is_one_of gone s)
  data-by s before kind (Names x) = nothing-kept (is_one_of gone s)
  data-by s before kind (Group x) = nothing-kept (is_one_of gone s)
  data-by s before kind (Externs x) = nothing-kept (is_one_of gone s)
  data-by s before kind (Communals x) = nothing-kept (is_one_of gone s)
  data-by s before kind (ModEnd x y) = nothing-kept (is_one_of gone s)
  data-by s before kind (Carried x) = nothing-kept (is_one_of gone s)

  all-kept-data : (s : ℕ) (m : List Rec) (b : Bool) → flat_map (λ t. cond b [] (own_data s t)) m ≡ cond b [] (data_of s m)
  all-kept-data s [] true = refl
  all-kept-data s [] false = refl
  all-kept-data s (t ∷ m) true = all-kept-data s m true
  all-kept-data s (t ∷ m) false = ap (λ xs. own_data s t ++ xs) (all-kept-data s m false)

  data-all : (s : ℕ) (m : List Rec) → data_of s (with_before left_of [] m) ≡ cond (is_one_of gone s) [] (data_of s m)
  data-all s m = all-left (own_data s) (kept_data s) (λ before t. data-by s before t.kind t.contents) [] m ∙ all-kept-data s m (is_one_of gone s)

  -- ---- segments

  small-left : (o : LeftPublics) (c : ℕ) → c < 8 → left_field o c < 8
  small-left Nameless c h = omega arith
  small-left Gone c h = h
  small-left AtStart c h = h

  no-big : (o : LeftPublics) (a : ℕ) → is_big (0x20 + left_field o (combination a) * 4 + a % 2) ≡ false
  no-big o a = ap (λ n. n == 1) (bit (left_field o (combination a)) (a % 2) (small-left o (combination a) (omega arith)) (omega arith))
    where
      bit : (c l : ℕ) → c < 8 → l < 2 → (0x20 + c * 4 + l) / 2 ^ 1 % 2 ^ 1 ≡ 0
      bit c l h k = omega (arith, h, k)

  empty-length : (kind : ℕ) (s : SegmentItem) → segment_length kind (emptied p s) ≡ 0
  empty-length kind s = cond-false (is_big (emptied p s).attribute) (2 ^ (8 * width kind)) 0 (no-big p s.attribute)

  abbrev own_segments : Rec → List SegInfo
  own_segments t = defined_segments t.kind t.contents

  abbrev left_from : ℕ → List SegInfo → List SegInfo
  left_from n xs = map (left_segment p gone) (enumerate_from n xs)

  left-append : (n : ℕ) (xs ys : List SegInfo) → left_from n (xs ++ ys) ≡ left_from n xs ++ left_from (n + length xs) ys
  left-append n [] ys = let e : n ≡ n + 0 = omega arith in ap (λ k. left_from k ys) e
  left-append n (x ∷ xs) ys =
      let e : n + 1 + length xs ≡ n + length (x ∷ xs) = omega arith in
      ap (λ zs. left_segment p gone (n, x) ∷ zs) (left-append (n + 1) xs ys ∙ ap (λ k. left_from (n + 1) xs ++ left_from k ys) e)

  abbrev without-bytes : SegInfo → SegInfo
  without-bytes i = record { length = 0; absolute = None; name = left_field p i.name; class = left_field p i.class }

  segment-left : (before : List Rec) (kind : ℕ) (s : SegmentItem) (b : Bool) → is_one_of gone (length (segments before) + 1) ≡ b
      → flat_map own_segments (recs_left (T kind (Segment s)) (cond b (Anew (Segment (emptied p s))) Whole)) ≡ left_from (length (segments before) + 1) (own_segments (T kind (Segment s)))
  segment-left before kind s true e =
      let info : SegInfo = record { length = segment_length kind s; absolute = s.absolute; name = s.name.item; class = s.class.item } in
      ap (λ (n : ℕ). (let i : SegInfo = record { length = n; absolute = None; name = left_field p s.name.item; class = left_field p s.class.item } in i) ∷ []) (empty-length kind s)
      ∙ sym (ap (λ (i : SegInfo). i ∷ []) (cond-true (is_one_of gone (length (segments before) + 1)) (without-bytes info) info e))
  segment-left before kind s false e =
      let info : SegInfo = record { length = segment_length kind s; absolute = s.absolute; name = s.name.item; class = s.class.item } in
      sym (ap (λ (i : SegInfo). i ∷ []) (cond-false (is_one_of gone (length (segments before) + 1)) (without-bytes info) info e))

  none-cond : (t : Rec) (b : Bool) (l k : Left) → flat_map own_segments (recs_left t l) ≡ [] → flat_map own_segments (recs_left t k) ≡ [] → flat_map own_segments (recs_left t (cond b l k)) ≡ []
  none-cond t true l k e h = e
  none-cond t false l k e h = h

  publics-segments : (kind : ℕ) (q : PublicItems) (o : LeftPublics) → flat_map own_segments (recs_left (T kind (Publics q)) (left_publics o q)) ≡ []
  publics-segments kind q Gone = refl
  publics-segments kind q Nameless = refl
  publics-segments kind q AtStart = refl

  segments-by : (before : List Rec) (kind : ℕ) (c : Contents) → flat_map own_segments (recs_left (T kind c) (left_after p gone before c)) ≡ left_from (length (segments before) + 1) (own_segments (T kind c))
  segments-by before kind (Segment s) = segment-left before kind s (is_one_of gone (length (segments before) + 1)) refl
  segments-by before kind (Publics q) = none-cond (T kind (Publics q)) (is_one_of gone q.segment.item) (left_publics p q) Whole (publics-segments kind q p) refl
  segments-by before kind (Plain d) = none-cond (T kind (Plain d)) (is_one_of gone d.segment.item) Nothing Whole refl refl
  segments-by before kind (Iterated d) = none-cond (T kind (Iterated d)) (is_one_of gone d.segment.item) Nothing Whole refl refl
  segments-by before kind (Fixups subs) = none-cond (T kind (Fixups subs)) (are_of gone (last_data before)) (Anew (Fixups (threads_alone subs))) Whole refl refl
  segments-by before kind (Header x) = refl
  segments-by before kind (Comment x y z) = refl
  segments-by before kind (Names x) = refl
  segments-by before kind (Group x) = refl
  segments-by before kind (Externs x) = refl
  segments-by before kind (Communals x) = refl
  segments-by before kind (ModEnd x y) = refl
  segments-by before kind (Carried x) = refl

  segments-more : (before : List Rec) (t : Rec) → length (segments (before ++ t ∷ [])) ≡ length (segments before) + length (own_segments t)
  segments-more before t =
      ap (λ (xs : List SegInfo). length xs) (flat_map-append own_segments before (t ∷ [])) ∙ length-append (segments before) (own_segments t ++ []) ∙ ap (λ (xs : List SegInfo). length (segments before) + length xs) (append-nil (own_segments t))

  segments-all : (before m : List Rec) → segments (with_before left_of before m) ≡ left_from (length (segments before) + 1) (segments m)
  segments-all before [] = refl
  segments-all before (t ∷ m) =
      let n = segments-more before t in
      let e : length (segments (before ++ t ∷ [])) + 1 ≡ length (segments before) + 1 + length (own_segments t) = omega (arith, n) in
      flat_map-append own_segments (left_of before t) (with_before left_of (before ++ t ∷ []) m)
      ∙ ap₂ (λ (xs ys : List SegInfo). xs ++ ys) (segments-by before t.kind t.contents) (segments-all (before ++ t ∷ []) m ∙ ap (λ (k : ℕ). left_from k (segments m)) e)
      ∙ sym (left-append (length (segments before) + 1) (own_segments t) (segments m))

pub has-the-rest : RestsHaveTheRest
has-the-rest p gone m = record {
  same_names = same-all p gone (λ (kind : ℕ) (c : Contents). defined_names c) (record { none_segment = λ kind s. refl; none_publics = λ kind q. refl; none_plain = λ kind d. refl; none_iterated = λ kind d. refl; none_fixups = λ kind subs. refl }) m;
  same_groups = same-all p gone (λ (kind : ℕ) (c : Contents). defined_groups c) (record { none_segment = λ kind s. refl; none_publics = λ kind q. refl; none_plain = λ kind d. refl; none_iterated = λ kind d. refl; none_fixups = λ kind subs. refl }) m;
  same_externals = same-all p gone (λ (kind : ℕ) (c : Contents). defined_externals c) (record { none_segment = λ kind s. refl; none_publics = λ kind q. refl; none_plain = λ kind d. refl; none_iterated = λ kind d. refl; none_fixups = λ kind subs. refl }) m;
  same_locals = same-all p gone (λ (kind : ℕ) (c : Contents). map (λ e. is_local kind) (defined_externals c)) (record { none_segment = λ kind s. refl; none_publics = λ kind q. refl; none_plain = λ kind d. refl; none_iterated = λ kind d. refl; none_fixups = λ kind subs. refl }) m;
  left_segments = segments-all p gone [] m;
  left_data = λ s. data-all p gone s m;
}

-- ---- publics

module _ (gone : List ℕ) where
  abbrev is_left : PublicItems → Bool
  is_left q = not (is_one_of gone q.segment.item)

  abbrev own_publics : Rec → List PublicItems
  own_publics t = publics_by t.contents

  abbrev left_publics_of : Rec → List PublicItems
  left_publics_of t = filter is_left (own_publics t)

  none-either : (t : Rec) (b : Bool) (l k : Left) → flat_map own_publics (recs_left t l) ≡ [] → flat_map own_publics (recs_left t k) ≡ [] → flat_map own_publics (recs_left t (cond b l k)) ≡ []
  none-either t true l k e h = e
  none-either t false l k e h = h

  one-left : (kind : ℕ) (q : PublicItems) (b : Bool) → is_one_of gone q.segment.item ≡ b → flat_map own_publics (recs_left (T kind (Publics q)) (cond b Nothing Whole)) ≡ filter is_left (q ∷ [])
  one-left kind q true e = sym (cond-false (is_left q) (q ∷ []) [] (ap not e))
  one-left kind q false e = sym (cond-true (is_left q) (q ∷ []) [] (ap not e))

  publics-by : (before : List Rec) (kind : ℕ) (c : Contents) → flat_map own_publics (recs_left (T kind c) (left_after Gone gone before c)) ≡ left_publics_of (T kind c)
  publics-by before kind (Segment s) = none-either (T kind (Segment s)) (is_one_of gone (length (segments before) + 1)) (Anew (Segment (emptied Gone s))) Whole refl refl
  publics-by before kind (Publics q) = one-left kind q (is_one_of gone q.segment.item) refl
  publics-by before kind (Plain d) = none-either (T kind (Plain d)) (is_one_of gone d.segment.item) Nothing Whole refl refl
  publics-by before kind (Iterated d) = none-either (T kind (Iterated d)) (is_one_of gone d.segment.item) Nothing Whole refl refl
  publics-by before kind (Fixups subs) = none-either (T kind (Fixups subs)) (are_of gone (last_data before)) (Anew (Fixups (threads_alone subs))) Whole refl refl
  publics-by before kind (Header x) = refl
  publics-by before kind (Comment x y z) = refl
  publics-by before kind (Names x) = refl
  publics-by before kind (Group x) = refl
  publics-by before kind (Externs x) = refl
  publics-by before kind (Communals x) = refl
  publics-by before kind (ModEnd x y) = refl
  publics-by before kind (Carried x) = refl

  all-filtered : (m : List Rec) → flat_map left_publics_of m ≡ filter is_left (public_records m)
  all-filtered [] = refl
  all-filtered (t ∷ m) = ap (λ xs. left_publics_of t ++ xs) (all-filtered m) ∙ sym (filter-append is_left (own_publics t) (public_records m))

pub publics-left : PublicsAreLeftOut
publics-left gone m = all-left Gone gone (own_publics gone) (left_publics_of gone) (λ before t. publics-by gone before t.kind t.contents) [] m ∙ all-filtered gone m
