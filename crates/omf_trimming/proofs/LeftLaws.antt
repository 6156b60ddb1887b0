-- What the rules of a record ask of the records before it is the same after those that are left.
use Rattle.std.proofs.Common.{◌≡◌, ℕ, zero, suc, ◌+◌, ◌-◌, ◌≤◌, List, [], ◌∷◌, ◌++◌, length, refl, sym, ◌∙◌, ap, ap₂, subst, Bool, true, false, cond, arith, Option, Some, None, append-nil, length-append}
use Rattle.std.specs.Prelude.{⊤, not, map, flat_map, filter_map, option_map, unwrap_or, nat_le, nat_lt, slice_get, IsTrue}
use Rattle.std.specs.List.{AllByRecursion as Each, enumerate_from, last_or}
use Rattle.std.proofs.lemmas.Bool.{cond-true, lt-ltb, ltb-true, le-leb, true≢false}
use Rattle.std.proofs.lemmas.Grind.{flat_map-append}
use Rattle.std.proofs.lemmas.List.{length-map}
use Rattle.std.proofs.lemmas.List.Elements.{All-nil, All-cons, All-head, All-tail, filter_map-append}
use Rattle.std.proofs.lemmas.List.Sums.{sum_by_push}
use Rattle.omf_frame.specs.Bytes.{bits, is_one_of, last, with_before}
use Rattle.omf_frame.specs.Fault.{Rule, rule}
use Rattle.omf_frame.specs.Inner.Names.{AreKept}
use Rattle.omf_frame.specs.declared.fault.Reason.TheVariants as reason
use Rattle.omf_image.specs.Blocks.{blocks_size}
use Rattle.omf_image.specs.Inner.Expanding.{blocks_of}
use Rattle.omf_image.specs.declared.limits.Limits.{Limits}
use Rattle.omf_records.specs.Values.{At, Communals, Contents, DataItem, Externs, Fixup, Fixups, Group, Iterated, ModEnd, Names, Plain, PublicItems, Publics, Rec, Reference, Segment, SegmentItem, Subrecord, Thread, frame_bits, frame_by_thread, nowhere, target_bits, target_by_thread, width}
use Rattle.omf_records.specs.declared.method.Kind.{Kind}
use Rattle.omf_records.specs.declared.method.Kind.TheVariants as kinds
use Rattle.omf_check.specs.Inner.Names.{frame_from, target_from}
use Rattle.omf_check.specs.Rules.{contents_rules, frame_rules, is_location_frame, item_places, judged_at, length_of_segment, location_rule, names_entry, names_entry_or_none, places, reference_rules, room, start_rules, subrecord_rules_at, table_limit, target_rules, undefined}
use Rattle.omf_check.specs.Tables.{data_in, defined_externals, defined_groups, defined_names, defined_segments, entries, entry, externals, groups, is_defined, is_none_or_defined, item_count, items_in, last_data, names, segments, subrecords, subrecords_in}
use Rattle.omf_check.specs.Threads.{Setting, frame_of, setting, setting_of, target_of, thread}
use Rattle.omf_check.specs.declared.method.FrameMethod.{FrameMethod}
use Rattle.omf_check.specs.declared.method.FrameMethod.TheVariants.{Of, Location as F4, Target as F5}
use Rattle.omf_check.specs.declared.method.TargetMethod.{TargetMethod}
use Rattle.omf_check.specs.declared.profile.Profile.{Profile}
use Rattle.omf_check.specs.declared.segment.SegInfo.{SegInfo}
use Rattle.omf_trimming.specs.Without.{are_of, left_field}
use Rattle.omf_trimming.specs.declared.without.LeftPublics.{LeftPublics}
use Rattle.omf_trimming.specs.declared.without.LeftPublics.TheVariants.{AtStart, Gone, Nameless}

-- ---- rules that hold

abbrev pub holds : List Rule → List Bool
holds rs = map (λ r. r.holds) rs

abbrev pub AreTrue : List Bool → Type 0
AreTrue bs = Each (λ b. b ≡ true) bs

pub true-kept : (rs : List Rule) → AreTrue (holds rs) → AreKept rs
true-kept [] h = All-nil (λ (r : Rule). IsTrue r.holds)
true-kept (r ∷ rs) h = All-cons (λ (r : Rule). IsTrue r.holds) r rs h.0 (true-kept rs h.1)

pub kept-true : (rs : List Rule) → AreKept rs → AreTrue (holds rs)
kept-true [] h = tt
kept-true (r ∷ rs) h = (All-head (λ (r : Rule). IsTrue r.holds) r rs h, kept-true rs (All-tail (λ (r : Rule). IsTrue r.holds) r rs h))

pub kept-front : (rs more : List Rule) → AreTrue (holds (rs ++ more)) → AreTrue (holds rs)
kept-front [] more h = tt
kept-front (r ∷ rs) more h = (h.0, kept-front rs more h.1)

pub kept-back : (rs more : List Rule) → AreTrue (holds (rs ++ more)) → AreTrue (holds more)
kept-back [] more h = h
kept-back (r ∷ rs) more h = kept-back rs more h.1

pub kept-both : (rs more : List Rule) → AreTrue (holds rs) → AreTrue (holds more) → AreTrue (holds (rs ++ more))
kept-both [] more h k = k
kept-both (r ∷ rs) more h k = (h.0, kept-both rs more h.1 k)

abbrev room_from : ℕ → ℕ → ℕ → List ℕ → List Rule
room_from limit taken k ps = map (λ p. rule (nat_lt (taken + p.0) limit) p.1 reason.TooMany) (enumerate_from k ps)

room-true : (limit taken k : ℕ) (ps : List ℕ) → taken + k + length ps ≤ limit → AreTrue (holds (room_from limit taken k ps))
room-true limit taken k [] h = tt
room-true limit taken k (p ∷ ps) h = (lt-ltb (taken + k) limit (omega (arith, h)), room-true limit taken (k + 1) ps (omega (arith, h)))

room-bound : (limit taken k : ℕ) (p : ℕ) (ps : List ℕ) → AreTrue (holds (room_from limit taken k (p ∷ ps))) → taken + k + length (p ∷ ps) ≤ limit
room-bound limit taken k p [] h = let l = ltb-true (taken + k) limit h.0 in omega (arith, l)
room-bound limit taken k p (q ∷ ps) h = let l = room-bound limit taken (k + 1) q ps h.1 in omega (arith, l)

bounded : (limit taken : ℕ) (p : ℕ) (ps : List ℕ) → AreTrue (holds (room limit taken (p ∷ ps))) → taken + length (p ∷ ps) ≤ limit
bounded limit taken p ps h = let l = room-bound limit taken 0 p ps h in omega (arith, l)

has-room : (limit taken : ℕ) (ps : List ℕ) → taken + length ps ≤ limit → AreTrue (holds (room limit taken ps))
has-room limit taken ps h = room-true limit taken 0 ps (omega (arith, h))

pub items-bounded : (limit taken : ℕ) (c : Contents) → AreTrue (holds (room limit taken (item_places c))) → taken + items_in c ≤ limit
items-bounded limit taken (Fixups []) h = bounded limit taken 0 [] h
items-bounded limit taken (Fixups (s ∷ subs)) h =
    let l = bounded limit taken s.within (places subs) h in
    let n = length-map {B = ℕ} subs (λ s. s.within) in
    omega (arith, l, n)
items-bounded limit taken _ h = bounded limit taken 0 [] h

pub items-room : (limit taken : ℕ) (c : Contents) → taken + items_in c ≤ limit → AreTrue (holds (room limit taken (item_places c)))
items-room limit taken (Fixups []) h = has-room limit taken (0 ∷ []) h
items-room limit taken (Fixups (s ∷ subs)) h =
    let n = length-map {B = ℕ} subs (λ s. s.within) in
    has-room limit taken (s.within ∷ places subs) (omega (arith, h, n))
items-room limit taken _ h = has-room limit taken (0 ∷ []) h

-- ---- one record more

flat-one : {A : Type 0} (f : Rec → List A) (ms : List Rec) (r : Rec) → flat_map f (ms ++ r ∷ []) ≡ flat_map f ms ++ f r
flat-one f ms r = flat_map-append f ms (r ∷ []) ∙ ap (λ xs. flat_map f ms ++ xs) (append-nil (f r))

flat-none : {A : Type 0} (f : Rec → List A) (ms : List Rec) (r : Rec) → f r ≡ [] → flat_map f (ms ++ r ∷ []) ≡ flat_map f ms
flat-none f ms r e = flat-one f ms r ∙ ap (λ xs. flat_map f ms ++ xs) e ∙ append-nil (flat_map f ms)

last-more : {A : Type 0} (o : Option A) (xs ys : List A) → last_or o (xs ++ ys) ≡ last_or (last_or o xs) ys
last-more o [] ys = refl
last-more o (x ∷ xs) ys = last-more (Some x) xs ys

pub data-more : (ms : List Rec) (r : Rec) → last_data (ms ++ r ∷ []) ≡ last_or (last_data ms) (data_in r.contents)
data-more ms r = ap (λ xs. last_or None xs) (flat-one (λ (x : Rec). data_in x.contents) ms r) ∙ last-more None (flat_map (λ (x : Rec). data_in x.contents) ms) (data_in r.contents)

counts : {A : Type 0} (f : Rec → List A) (before done : List Rec) (t u : Rec) → length (flat_map f done) ≡ length (flat_map f before) → length (f u) ≡ length (f t)
    → length (flat_map f (done ++ u ∷ [])) ≡ length (flat_map f (before ++ t ∷ []))
counts {A} f before done t u e h =
    let l : length (flat_map f (done ++ u ∷ [])) ≡ length (flat_map f done) + length (f u) = ap (λ (xs : List A). length xs) (flat-one f done u) ∙ length-append (flat_map f done) (f u) in
    let r : length (flat_map f (before ++ t ∷ [])) ≡ length (flat_map f before) + length (f t) = ap (λ (xs : List A). length xs) (flat-one f before t) ∙ length-append (flat_map f before) (f t) in
    omega (arith, l, r, e, h)

-- The length of a segment that may not be there.
abbrev pub size_of : Option SegInfo → ℕ
size_of o = unwrap_or (option_map (λ s. s.length) o) 0

-- The segments of two lists that are not left out have the same lengths, where the first has the index k + 1.
abbrev pub SameSizes : List ℕ → ℕ → List SegInfo → List SegInfo → Type 0
SameSizes gone k xs ys = (j : ℕ) → is_one_of gone (k + j + 1) ≡ false → size_of (slice_get xs j) ≡ size_of (slice_get ys j)

more-sizes : (gone : List ℕ) (k : ℕ) (xs ys a b : List SegInfo) → length xs ≡ length ys → SameSizes gone k xs ys → SameSizes gone (k + length xs) a b → SameSizes gone k (xs ++ a) (ys ++ b)
more-sizes gone k [] [] a b e p q j h = let n : k + j + 1 ≡ k + 0 + j + 1 = omega arith in q j (subst (λ (i : ℕ). is_one_of gone i ≡ false) n h)
more-sizes gone k [] (y ∷ ys) a b e p q j h = absurd (omega (arith, e))
more-sizes gone k (x ∷ xs) [] a b e p q j h = absurd (omega (arith, e))
more-sizes gone k (x ∷ xs) (y ∷ ys) a b e p q zero h = p 0 h
more-sizes gone k (x ∷ xs) (y ∷ ys) a b e p q (suc j) h =
    let at = λ (m n : ℕ) (e : m ≡ n) (g : is_one_of gone m ≡ false). subst (λ (i : ℕ). is_one_of gone i ≡ false) e g in
    more-sizes gone (k + 1) xs ys a b (omega (arith, e))
    (λ i g. p (suc i) (at (k + 1 + i + 1) (k + suc i + 1) (omega arith) g))
    (λ i g. q i (at (k + 1 + length xs + i + 1) (k + length (x ∷ xs) + i + 1) (omega arith) g))
    j (at (k + suc j + 1) (k + 1 + j + 1) (omega arith) h)

-- The records that are left after some records.
pub record Mirrors (gone : List ℕ) (before done : List Rec) : Type 0 where
  pub same_names : length (names done) ≡ length (names before)
  pub same_segments : length (segments done) ≡ length (segments before)
  pub same_groups : length (groups done) ≡ length (groups before)
  pub same_externals : length (externals done) ≡ length (externals before)
  pub same_sizes : SameSizes gone 0 (segments done) (segments before)
  pub same_threads : (b : Bool) (k : ℕ) → filter_map (setting_of b k) (subrecords done) ≡ filter_map (setting_of b k) (subrecords before)
  pub fewer_items : item_count done ≤ item_count before
  pub same_data : are_of gone (last_data before) ≡ false → last_data done ≡ last_data before

pub mirrors-none : (gone : List ℕ) → Mirrors gone [] []
mirrors-none gone = record { same_names = refl; same_segments = refl; same_groups = refl; same_externals = refl; same_sizes = λ j h. refl; same_threads = λ b k. refl; fewer_items = omega arith; same_data = λ h. refl }

-- A record in place of another one, after this many segments.
pub record IsLike (gone : List ℕ) (n : ℕ) (t u : Rec) : Type 0 where
  pub like_names : length (defined_names u.contents) ≡ length (defined_names t.contents)
  pub like_segments : length (defined_segments u.kind u.contents) ≡ length (defined_segments t.kind t.contents)
  pub like_groups : length (defined_groups u.contents) ≡ length (defined_groups t.contents)
  pub like_externals : length (defined_externals u.contents) ≡ length (defined_externals t.contents)
  pub like_sizes : SameSizes gone n (defined_segments u.kind u.contents) (defined_segments t.kind t.contents)
  pub like_settings : (b : Bool) (k : ℕ) → filter_map (setting_of b k) (subrecords_in u.contents) ≡ filter_map (setting_of b k) (subrecords_in t.contents)
  pub like_items : items_in u.contents ≤ items_in t.contents
  pub like_data : data_in u.contents ≡ data_in t.contents

pub like-itself : (gone : List ℕ) (n : ℕ) (t : Rec) → IsLike gone n t t
like-itself gone n t = record { like_names = refl; like_segments = refl; like_groups = refl; like_externals = refl; like_sizes = λ j h. refl; like_settings = λ b k. refl; like_items = omega arith; like_data = refl }

last-same : (gone : List ℕ) (o p : Option Contents) (xs : List Contents) → are_of gone (last_or p xs) ≡ false → (are_of gone p ≡ false → o ≡ p) → last_or o xs ≡ last_or p xs
last-same gone o p [] h k = k h
last-same gone o p (x ∷ xs) h k = refl

abbrev own_settings : Bool → ℕ → List Rec → List Setting
own_settings b k ms = filter_map (setting_of b k) (subrecords ms)

settings-one : (b : Bool) (k : ℕ) (ms : List Rec) (r : Rec) → own_settings b k (ms ++ r ∷ []) ≡ own_settings b k ms ++ filter_map (setting_of b k) (subrecords_in r.contents)
settings-one b k ms r = ap (filter_map (setting_of b k)) (flat-one (λ (r : Rec). subrecords_in r.contents) ms r) ∙ filter_map-append (setting_of b k) (subrecords ms) (subrecords_in r.contents)

module _ (gone : List ℕ) (before done : List Rec) (m : Mirrors gone before done) where
  pub mirrors-more : (t u : Rec) → IsLike gone (length (segments before)) t u → Mirrors gone (before ++ t ∷ []) (done ++ u ∷ [])
  mirrors-more t u l =
      let own = λ (r : Rec). defined_segments r.kind r.contents in
      let start : length (segments before) ≡ 0 + length (segments done) = let e = m.same_segments in omega (arith, e) in
      let sizes : SameSizes gone 0 (segments done ++ own u) (segments before ++ own t) =
      more-sizes gone 0 (segments done) (segments before) (own u) (own t) m.same_segments m.same_sizes (subst (λ (n : ℕ). SameSizes gone n (own u) (own t)) start l.like_sizes) in
      record {
        same_names = counts (λ (r : Rec). defined_names r.contents) before done t u m.same_names l.like_names;
        same_segments = counts own before done t u m.same_segments l.like_segments;
        same_groups = counts (λ (r : Rec). defined_groups r.contents) before done t u m.same_groups l.like_groups;
        same_externals = counts (λ (r : Rec). defined_externals r.contents) before done t u m.same_externals l.like_externals;
        same_sizes = subst (λ (xs : List SegInfo). SameSizes gone 0 xs (segments (before ++ t ∷ []))) (sym (flat-one own done u)) (subst (SameSizes gone 0 (segments done ++ own u)) (sym (flat-one own before t)) sizes);
        same_threads = λ b k. settings-one b k done u ∙ ap₂ (λ xs ys. xs ++ ys) (m.same_threads b k) (l.like_settings b k) ∙ sym (settings-one b k before t);
        fewer_items = let i = m.fewer_items in let j = l.like_items in let x = sum_by_push (λ (q : Rec). items_in q.contents) done u in let y = sum_by_push (λ (q : Rec). items_in q.contents) before t in omega (arith, i, j, x, y);
        same_data = λ h.
            data-more done u ∙ ap (last_or (last_data done)) l.like_data
            ∙ last-same gone (last_data done) (last_data before) (data_in t.contents) (subst (λ (o : Option Contents). are_of gone o ≡ false) (data-more before t) h) m.same_data
            ∙ sym (data-more before t);
      }

  -- Publics, and data of a segment that is left out.
  abbrev pub Drops : Contents → Type 0
  Drops (Publics p) = ⊤
  Drops (Plain d) = is_one_of gone d.segment.item ≡ true
  Drops (Iterated d) = is_one_of gone d.segment.item ≡ true
  Drops _ = ⊥

  drops : (t : Rec) → defined_names t.contents ≡ [] → defined_segments t.kind t.contents ≡ [] → defined_groups t.contents ≡ [] → defined_externals t.contents ≡ [] → subrecords_in t.contents ≡ []
      → (are_of gone (last_or (last_data before) (data_in t.contents)) ≡ false → last_data done ≡ last_or (last_data before) (data_in t.contents)) → Mirrors gone (before ++ t ∷ []) done
  drops t n s g x b d =
      let sizes = flat-none (λ (r : Rec). defined_segments r.kind r.contents) before t s in
      record {
        same_names = m.same_names ∙ sym (ap (λ (xs : List (List ℕ)). length xs) (flat-none (λ (r : Rec). defined_names r.contents) before t n));
        same_segments = m.same_segments ∙ sym (ap (λ (xs : List SegInfo). length xs) sizes);
        same_groups = m.same_groups ∙ sym (ap (λ xs. length xs) (flat-none (λ (r : Rec). defined_groups r.contents) before t g));
        same_externals = m.same_externals ∙ sym (ap (λ (xs : List (List ℕ)). length xs) (flat-none (λ (r : Rec). defined_externals r.contents) before t x));
        same_sizes = subst (SameSizes gone 0 (segments done)) (sym sizes) m.same_sizes;
        same_threads = λ c k. m.same_threads c k ∙ sym (ap (filter_map (setting_of c k)) (flat-none (λ (r : Rec). subrecords_in r.contents) before t b));
        fewer_items = let i = m.fewer_items in let y = sum_by_push (λ (q : Rec). items_in q.contents) before t in omega (arith, i, y);
        same_data = λ h. d (subst (λ (o : Option Contents). are_of gone o ≡ false) (data-more before t) h) ∙ sym (data-more before t);
      }

  pub mirrors-drop : (kind : ℕ) (c : Contents) → Drops c → Mirrors gone (before ++ (record { kind = kind; contents = c }) ∷ []) done
  mirrors-drop kind (Publics p) h = drops (record { kind = kind; contents = Publics p }) refl refl refl refl refl m.same_data
  mirrors-drop kind (Plain d) h = drops (record { kind = kind; contents = Plain d }) refl refl refl refl refl (λ k. absurd (true≢false (sym h ∙ k)))
  mirrors-drop kind (Iterated d) h = drops (record { kind = kind; contents = Iterated d }) refl refl refl refl refl (λ k. absurd (true≢false (sym h ∙ k)))
  mirrors-drop kind _ h = absurd h

  -- ---- the same rules

  at-entry : {A : Type 0} (xs : List A) (i : ℕ) → entry xs (i + 1) ≡ slice_get xs i
  at-entry xs i =
      let one : 1 ≤ i + 1 = omega arith in
      let back : i + 1 - 1 ≡ i = omega arith in
      cond-true (nat_le 1 (i + 1)) (slice_get xs (i + 1 - 1)) None (le-leb 1 (i + 1) one) ∙ ap (slice_get xs) back

  pub sizes-at : (i : ℕ) → is_one_of gone i ≡ false → length_of_segment done i ≡ length_of_segment before i
  sizes-at zero h = refl
  sizes-at (suc i) h =
      let e : i + 1 ≡ suc i = omega arith in
      let from : suc i ≡ 0 + i + 1 = omega arith in
      let k : is_one_of gone (0 + i + 1) ≡ false = subst (λ (j : ℕ). is_one_of gone j ≡ false) from h in
      subst (λ (j : ℕ). length_of_segment done j ≡ length_of_segment before j) e
      (ap size_of (at-entry (segments done) i) ∙ m.same_sizes i k ∙ sym (ap size_of (at-entry (segments before) i)))

  thread-same : (b : Bool) (k : ℕ) (e : List Subrecord) → thread b k (subrecords done ++ e) ≡ thread b k (subrecords before ++ e)
  thread-same b k e =
      ap last (filter_map-append (setting_of b k) (subrecords done) e ∙ ap (λ xs. xs ++ filter_map (setting_of b k) e) (m.same_threads b k) ∙ sym (filter_map-append (setting_of b k) (subrecords before) e))

  frame-same : (e : List Subrecord) (r : Reference) → frame_of (subrecords done ++ e) r ≡ frame_of (subrecords before ++ e) r
  frame-same e r = ap (λ (o : Option Setting). option_map frame_from (cond (frame_by_thread r.fix.item) o (Some (setting (frame_bits r.fix.item) r.frame)))) (thread-same true (bits r.fix.item 4 2) e)

  target-same : (e : List Subrecord) (r : Reference) → target_of (subrecords done ++ e) r ≡ target_of (subrecords before ++ e) r
  target-same e r = ap (λ (o : Option Setting). option_map target_from (cond (target_by_thread r.fix.item) o (Some (setting (target_bits r.fix.item) r.target)))) (thread-same false (target_bits r.fix.item) e)

  entries-same : (k : Kind) → entries done k ≡ entries before k
  entries-same kinds.Segment = m.same_segments
  entries-same kinds.Group = m.same_groups
  entries-same kinds.External = m.same_externals

  target-rules : (at : ℕ) (o : Option TargetMethod) → target_rules done at o ≡ target_rules before at o
  target-rules at None = refl
  target-rules at (Some t) = ap (λ (n : ℕ). rule (is_defined n t.index) at (undefined t.kind) ∷ []) (entries-same t.kind)

  frame-rules : (at : ℕ) (o : Option FrameMethod) → frame_rules done at o ≡ frame_rules before at o
  frame-rules at None = refl
  frame-rules at (Some (Of t)) = target-rules at (Some t)
  frame-rules at (Some F4) = refl
  frame-rules at (Some F5) = refl

  reference-rules : (e : List Subrecord) (r : Reference) → reference_rules done (subrecords done ++ e) r ≡ reference_rules before (subrecords before ++ e) r
  reference-rules e r = ap₂ (λ (xs ys : List Rule). xs ++ ys)
      (ap (frame_rules done (judged_at r r.frame)) (frame-same e r) ∙ frame-rules (judged_at r r.frame) (frame_of (subrecords before ++ e) r))
      (ap (target_rules done (judged_at r r.target)) (target-same e r) ∙ target-rules (judged_at r r.target) (target_of (subrecords before ++ e) r))

  subrecord-rules : last_data done ≡ last_data before → (e : List Subrecord) (within : ℕ) (s : Subrecord) → subrecord_rules_at done e within s ≡ subrecord_rules_at before e within s
  subrecord-rules d e within (Thread byte datum) = refl
  subrecord-rules d e within (Fixup locat r) = ap₂ (λ (x : Rule) (xs : List Rule). x ∷ xs) (ap (λ (o : Option Contents). location_rule o within locat) d) (reference-rules e r)

  fixup-rules : last_data done ≡ last_data before → (earlier subs : List (At Subrecord))
      → with_before (λ earlier s. subrecord_rules_at done (map (λ e. e.item) earlier) s.within s.item) earlier subs ≡ with_before (λ earlier s. subrecord_rules_at before (map (λ e. e.item) earlier) s.within s.item) earlier subs
  fixup-rules d earlier [] = refl
  fixup-rules d earlier (s ∷ subs) = ap₂ (λ (xs ys : List Rule). xs ++ ys) (subrecord-rules d (map (λ e. e.item) earlier) s.within s.item) (fixup-rules d (earlier ++ s ∷ []) subs)

  start-same : (start : Option Reference) → start_rules done start ≡ start_rules before start
  start-same None = refl
  start-same (Some r) =
      let a = append-nil (subrecords done) in
      let b = append-nil (subrecords before) in
      let frames : frame_of (subrecords done) r ≡ frame_of (subrecords before) r = ap (λ xs. frame_of xs r) (sym a) ∙ frame-same [] r ∙ ap (λ xs. frame_of xs r) b in
      let refs : reference_rules done (subrecords done) r ≡ reference_rules before (subrecords before) r = ap (λ xs. reference_rules done xs r) (sym a) ∙ reference-rules [] r ∙ ap (λ xs. reference_rules before xs r) b in
      ap₂ (λ (xs : List Rule) (f : Option FrameMethod). xs ++ rule (not (is_location_frame f)) r.fix.within reason.StartFrame ∷ []) refs frames

  -- Contents that are left as they are.
  abbrev pub Stays : Contents → Type 0
  Stays (Plain d) = is_one_of gone d.segment.item ≡ false
  Stays (Iterated d) = is_one_of gone d.segment.item ≡ false
  Stays (Fixups subs) = are_of gone (last_data before) ≡ false
  Stays _ = ⊤

  data-rules : (d : DataItem) (size : ℕ) → is_one_of gone d.segment.item ≡ false
      → (names_entry (length (segments done)) reason.UndefinedSegment d.segment ∷ rule (nat_le (d.offset.item + size) (length_of_segment done d.segment.item)) d.offset.within reason.OutsideSegment ∷ [])
      ≡ (names_entry (length (segments before)) reason.UndefinedSegment d.segment ∷ rule (nat_le (d.offset.item + size) (length_of_segment before d.segment.item)) d.offset.within reason.OutsideSegment ∷ [])
  data-rules d size h = ap₂ (λ (n z : ℕ). names_entry n reason.UndefinedSegment d.segment ∷ rule (nat_le (d.offset.item + size) z) d.offset.within reason.OutsideSegment ∷ []) m.same_segments (sizes-at d.segment.item h)

  pub rules-same : (profile : Profile) (limits : Limits) (kind : ℕ) (c : Contents) → Stays c → contents_rules profile limits done kind c ≡ contents_rules profile limits before kind c
  rules-same profile limits kind (Names items) h = ap (λ n. room table_limit n (places items)) m.same_names
  rules-same profile limits kind (Segment s) h =
      ap₂ (λ n k. room table_limit n (3 ∷ []) ++ names_entry_or_none k reason.UndefinedName s.name ∷ names_entry_or_none k reason.UndefinedName s.class ∷ []) m.same_segments m.same_names
  rules-same profile limits kind (Group g) h =
      ap₂ (λ n k. room table_limit n (3 ∷ []) ++ names_entry_or_none k reason.UndefinedName g.name ∷ map (λ x. names_entry (length (segments done)) reason.UndefinedSegment x.item) g.members) m.same_groups m.same_names
      ∙ ap (λ z. room table_limit (length (groups before)) (3 ∷ []) ++ names_entry_or_none (length (names before)) reason.UndefinedName g.name ∷ map (λ x. names_entry z reason.UndefinedSegment x.item) g.members) m.same_segments
  rules-same profile limits kind (Externs items) h = ap (λ n. room table_limit n (places items)) m.same_externals
  rules-same profile limits kind (Publics p) h = ap₂ (λ n k. names_entry_or_none n reason.UndefinedGroup p.group ∷ names_entry_or_none k reason.UndefinedSegment p.segment ∷ []) m.same_groups m.same_segments
  rules-same profile limits kind (Communals items) h = ap (λ n. room table_limit n (places items)) m.same_externals
  rules-same profile limits kind (Plain d) h = data-rules d (length d.bytes) h
  rules-same profile limits kind (Iterated d) h = data-rules d (blocks_size (blocks_of (width kind) limits d.bytes)) h
  rules-same profile limits kind (Fixups subs) h = fixup-rules (m.same_data h) [] subs
  rules-same profile limits kind (ModEnd byte start) h = start-same start
  rules-same profile limits kind _ h = refl

  -- A SEGDEF and a PUBDEF with the same indices keep their rules.
  pub segment-true : (profile : Profile) (limits : Limits) (kind : ℕ) (s v : SegmentItem) → v.name.item ≡ s.name.item → v.class.item ≡ s.class.item
      → holds (contents_rules profile limits done kind (Segment v)) ≡ holds (contents_rules profile limits before kind (Segment s))
  segment-true profile limits kind s v e f =
      ap holds (rules-same profile limits kind (Segment v) tt)
      ∙ ap₂ (λ (x y : ℕ). nat_lt (length (segments before) + 0) table_limit ∷ is_none_or_defined (length (names before)) x ∷ is_none_or_defined (length (names before)) y ∷ []) e f

  -- So does the SEGDEF of a segment that is left out, if its rules hold.
  pub left-true : (profile : Profile) (limits : Limits) (l : LeftPublics) (kind : ℕ) (s v : SegmentItem) → v.name.item ≡ left_field l s.name.item → v.class.item ≡ left_field l s.class.item
      → AreTrue (holds (contents_rules profile limits before kind (Segment s))) → AreTrue (holds (contents_rules profile limits done kind (Segment v)))
  left-true profile limits AtStart kind s v e f h = subst AreTrue (sym (segment-true profile limits kind s v e f)) h
  left-true profile limits Gone kind s v e f h = subst AreTrue (sym (segment-true profile limits kind s v e f)) h
  left-true profile limits Nameless kind s v e f h =
      let none = le-leb 0 (length (names before)) (omega arith) in
      subst AreTrue (sym (segment-true profile limits kind (record s { name = nowhere 0; class = nowhere 0 }) v e f)) (h.0, (none, (none, tt)))

  pub publics-true : (profile : Profile) (limits : Limits) (kind : ℕ) (p v : PublicItems) → v.group.item ≡ p.group.item → v.segment.item ≡ p.segment.item
      → holds (contents_rules profile limits done kind (Publics v)) ≡ holds (contents_rules profile limits before kind (Publics p))
  publics-true profile limits kind p v e f =
      ap holds (rules-same profile limits kind (Publics v) tt)
      ∙ ap₂ (λ (x y : ℕ). is_none_or_defined (length (groups before)) x ∷ is_none_or_defined (length (segments before)) y ∷ []) e f
