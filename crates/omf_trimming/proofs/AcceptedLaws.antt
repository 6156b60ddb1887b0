-- A module without some of its segments is well-formed.
use Rattle.std.proofs.Common.{◌≡◌, ℕ, zero, suc, ◌+◌, ◌%◌, ◌<◌, ◌≤◌, ◌⊎◌, inl, inr, List, [], ◌∷◌, ◌++◌, length, refl, sym, ◌∙◌, ap, ap₂, subst, Bool, true, false, arith, append_assoc, append-nil, length-append}
use Rattle.std.specs.Prelude.{⊤, All, map, filter_map, flat_map, not, sum, slice_index, IsTrue, ◌==◌, max, Option, Some, None}
use Rattle.std.specs.List.{AllByRecursion as Each}
use Rattle.std.proofs.lemmas.Bool.{cond_both, eqb-true, eq-eqb, or_cases, true≢false}
use Rattle.std.proofs.lemmas.List.{length-map, map-append}
use Rattle.std.proofs.lemmas.List.Elements.{All-nil, All-cons, All-head, All-tail, All-append, All-filter}
use Rattle.omf_frame.specs.Bytes.{is_one_of, with_before}
use Rattle.omf_frame.specs.Fault.{Rule}
use Rattle.omf_frame.specs.Framing.{Raw, raw_bytes, raw_of, checksum_of, IsRecord, is_taken, is_header, is_end}
use Rattle.omf_frame.specs.Inner.Names.{AreKept}
use Rattle.omf_image.specs.declared.limits.Limits.{Limits}
use Rattle.omf_records.specs.Inner.LawProofs.{are_typed}
use Rattle.omf_records.specs.Inner.Reading.{typed}
use Rattle.omf_records.specs.Records.{contents, mod_end, IsTyped}
use Rattle.omf_records.specs.Shortest.{contents_bytes, subrecord_bytes}
use Rattle.omf_records.specs.Valued.{IsSubrecordValue}
use Rattle.omf_records.specs.Values.{At, Carried, Comment, Communals, Contents, Externs, Fixup, Fixups, Group, Header, Iterated, ModEnd, Names, Plain, PublicItems, Publics, Rec, Segment, SegmentItem, Subrecord, Thread, alone, contents_alone, is_wide, nowhere, subrecord_alone}
use Rattle.omf_records.proofs.ShortestLaws.{shortest_typed}
use Rattle.omf_records.proofs.ValueLaws.{typed-values, values-typed}
use Rattle.omf_check.specs.Module.{records_in}
use Rattle.omf_check.specs.Rules.{contents_rules, item_limit, item_places, room, rules, subrecord_rules_at}
use Rattle.omf_check.specs.Tables.{defined_segments, items_in, item_count, last_data, segments}
use Rattle.omf_check.specs.Threads.{Setting, setting_of}
use Rattle.omf_check.specs.WellFormed.{HasTrees, recs}
use Rattle.omf_check.specs.declared.profile.Profile.{Profile}
use Rattle.omf_check.proofs.WellLaws.{well-formed, well-read}
use Rattle.omf_lowering.proofs.StateLaws.{with_before-more}
use Rattle.omf_lowering.proofs.SumLaws.{right_test}
use Rattle.omf_trimming.specs.Without.{Left, Whole, Nothing, Anew, are_of, emptied, is_thread, left_after, left_by, left_publics, raws_left, records_without, recs_left, rest_of, started, threads_alone, without, written}
use Rattle.omf_trimming.specs.WithoutLaws.{RestsAreTyped, RestsAreWellFormed}
use Rattle.omf_trimming.specs.declared.without.LeftPublics.{LeftPublics}
use Rattle.omf_trimming.specs.declared.without.LeftPublics.TheVariants.{AtStart, Gone, Nameless}
use Rattle.omf_trimming.proofs.AnewLaws.{NewPublics, NewSegment, anew}
use Rattle.omf_trimming.proofs.LeftLaws.{AreTrue, Drops, IsLike, Mirrors, SameSizes, Stays, holds, items-bounded, items-room, left-true, kept-back, kept-both, kept-front, kept-true, like-itself, mirrors-drop, mirrors-more, mirrors-none, publics-true, rules-same, true-kept}

-- ---- checksums

pub record-of : (kind : ℕ) (body : List ℕ) → length body + 1 < 65536 → IsRecord (raw_of kind body)
record-of kind body short =
    let c = checksum_of kind body in
    let low : c < 256 = omega arith in
    (short, inr (eqb-true (sum (raw_bytes (raw_of kind body)) % 256) 0 (sym (right_test kind body c low) ∙ eq-eqb c c refl)))

-- ---- the THREADs of a FIXUPP

abbrev AreThreads : List (At Subrecord) → Type 0
AreThreads subs = Each (λ s. is_thread s.item ≡ true) subs

threads-are : (subs : List (At Subrecord)) → AreThreads (threads_alone subs)
threads-are [] = tt
threads-are (s ∷ subs) = cond_both (is_thread s.item) _ _ AreThreads (λ e. (e, threads-are subs)) (λ e. threads-are subs)

threads-fewer : (subs : List (At Subrecord)) → length (threads_alone subs) ≤ length subs
threads-fewer [] = omega arith
threads-fewer (s ∷ subs) =
    let h = threads-fewer subs in
    cond_both (is_thread s.item) _ _ (λ (xs : List (At Subrecord)). length xs ≤ length (s ∷ subs)) (λ e. omega (arith, h)) (λ e. omega (arith, h))

threads-shorter : (kind : ℕ) (subs : List (At Subrecord)) → length (contents_bytes kind (Fixups (threads_alone subs))) ≤ length (contents_bytes kind (Fixups subs))
threads-shorter kind [] = omega arith
threads-shorter kind (s ∷ subs) =
    let h = threads-shorter kind subs in
    let own = subrecord_bytes kind s.item in
    let l = length-append own (contents_bytes kind (Fixups subs)) in
    let k = length-append own (contents_bytes kind (Fixups (threads_alone subs))) in
    cond_both (is_thread s.item) _ _ (λ (xs : List (At Subrecord)). length (contents_bytes kind (Fixups xs)) ≤ length (contents_bytes kind (Fixups (s ∷ subs)))) (λ e. omega (arith, h, l, k)) (λ e. omega (arith, h, l))

abbrev all_alone : List (At Subrecord) → List (At Subrecord)
all_alone subs = map (λ s. nowhere (subrecord_alone s.item)) subs

abbrev settings : Bool → ℕ → List (At Subrecord) → List Setting
settings b k subs = filter_map (setting_of b k) (map (λ s. s.item) subs)

setting-alone : (b : Bool) (k : ℕ) (s : Subrecord) → setting_of b k (subrecord_alone s) ≡ setting_of b k s
setting-alone b k (Thread byte None) = refl
setting-alone b k (Thread byte (Some a)) = refl
setting-alone b k (Fixup locat r) = refl

abbrev with_setting : Option Setting → List Setting → List Setting
with_setting None xs = xs
with_setting (Some x) xs = x ∷ xs

settings-cons : (b : Bool) (k : ℕ) (s : At Subrecord) (subs : List (At Subrecord)) → settings b k (s ∷ subs) ≡ with_setting (setting_of b k s.item) (settings b k subs)
settings-cons b k s subs = cases (setting_of b k s.item) refl
  where
    cases : (o : Option Setting) → setting_of b k s.item ≡ o → settings b k (s ∷ subs) ≡ with_setting (setting_of b k s.item) (settings b k subs)
    cases None e = rw e refl
    cases (Some x) e = rw e refl

settings-alone : (b : Bool) (k : ℕ) (subs : List (At Subrecord)) → settings b k (all_alone subs) ≡ settings b k subs
settings-alone b k [] = refl
settings-alone b k (s ∷ subs) =
    settings-cons b k (nowhere (subrecord_alone s.item)) (all_alone subs)
    ∙ ap₂ (λ o xs. with_setting o xs) (setting-alone b k s.item) (settings-alone b k subs) ∙ sym (settings-cons b k s subs)

no-setting : (b : Bool) (k : ℕ) (s : Subrecord) → is_thread s ≡ false → setting_of b k s ≡ None
no-setting b k (Thread byte datum) e = absurd cc
no-setting b k (Fixup locat r) e = refl

settings-threads : (b : Bool) (k : ℕ) (subs : List (At Subrecord)) → settings b k (threads_alone subs) ≡ settings b k subs
settings-threads b k [] = refl
settings-threads b k (s ∷ subs) =
    cond_both (is_thread s.item) _ _ (λ (xs : List (At Subrecord)). settings b k xs ≡ settings b k (s ∷ subs))
    (λ e. settings-cons b k s (threads_alone subs) ∙ ap (with_setting (setting_of b k s.item)) (settings-threads b k subs) ∙ sym (settings-cons b k s subs))
    (λ e. settings-threads b k subs ∙ sym (settings-cons b k s subs ∙ ap (λ o. with_setting o (settings b k subs)) (no-setting b k s.item e)))

thread-alone : (s : Subrecord) → is_thread (subrecord_alone s) ≡ is_thread s
thread-alone (Thread byte datum) = refl
thread-alone (Fixup locat r) = refl

are-threads-alone : (subs : List (At Subrecord)) → AreThreads subs → AreThreads (all_alone subs)
are-threads-alone [] h = tt
are-threads-alone (s ∷ subs) h = (thread-alone s.item ∙ h.0, are-threads-alone subs h.1)

are-threads-back : (subs : List (At Subrecord)) → AreThreads (all_alone subs) → AreThreads subs
are-threads-back [] h = tt
are-threads-back (s ∷ subs) h = (sym (thread-alone s.item) ∙ h.0, are-threads-back subs h.1)

like-fixups : (c : Contents) (ys : List (At Subrecord)) → contents_alone c ≡ Fixups ys → (xs : List (At Subrecord)) × (c ≡ Fixups xs) × (all_alone xs ≡ ys)
like-fixups (Fixups xs) ys e = (xs, refl, cc)
like-fixups (Header x) ys e = absurd cc
like-fixups (Comment x y z) ys e = absurd cc
like-fixups (Names x) ys e = absurd cc
like-fixups (Segment x) ys e = absurd cc
like-fixups (Group x) ys e = absurd cc
like-fixups (Externs x) ys e = absurd cc
like-fixups (Publics x) ys e = absurd cc
like-fixups (Communals x) ys e = absurd cc
like-fixups (Plain x) ys e = absurd cc
like-fixups (Iterated x) ys e = absurd cc
like-fixups (Carried x) ys e = absurd cc
like-fixups (ModEnd x y) ys e = absurd cc

-- Subrecords that are written anew: their contents encode them, but for their places.
record NewThreads (kind : ℕ) (body : List ℕ) (subs : List (At Subrecord)) : Type 0 where
  value : List (At Subrecord)
  spelled : (contents kind).Spells 3 (contents_bytes kind (Fixups (threads_alone subs))) (Fixups value)
  same : all_alone value ≡ all_alone (threads_alone subs)
  short : length (contents_bytes kind (Fixups (threads_alone subs))) ≤ length body

new-threads : (kind : ℕ) (body : List ℕ) (subs : List (At Subrecord)) → (contents kind).Spells 3 body (Fixups subs) → NewThreads kind body subs
new-threads kind body subs sp =
    let t : Rec = record { kind = kind; contents = Fixups subs } in
    let u : Rec = record { kind = kind; contents = Fixups (threads_alone subs) } in
    let have = typed-values t body sp in
    let q = (values-typed u (record { taken = have.taken; each = All-filter (λ (s : At Subrecord). is_thread s.item) (λ (s : At Subrecord). IsSubrecordValue kind s.item) subs have.each })).0 in
    let like = like-fixups q.0.contents (all_alone (threads_alone subs)) (ap (λ (x : Rec). x.contents) q.3) in
    let spelled : (contents kind).Spells 3 (contents_bytes kind (Fixups (threads_alone subs))) q.0.contents = subst (λ (k : ℕ). (contents k).Spells 3 (contents_bytes kind (Fixups (threads_alone subs))) q.0.contents) q.1 q.2 in
    let short = (shortest_typed t body sp).1 in
    let fewer = threads-shorter kind subs in
    record {
      value = like.0;
      spelled = subst (λ (c : Contents). (contents kind).Spells 3 (contents_bytes kind (Fixups (threads_alone subs))) c) like.1 spelled;
      same = like.2;
      short = omega (arith, short, fewer);
    }

-- ---- records that are well-formed one after another

abbrev T : ℕ → Contents → Rec
T kind c = record { kind = kind; contents = c }

module _ (profile : Profile) (limits : Limits) where
  record IsWell (done : List Rec) (r : Raw) : Type 0 where
    framed : IsRecord r
    taken : IsTrue (is_taken r.kind)
    spelled : IsTyped (typed r) r.body
    tree : HasTrees limits r.kind (typed r).contents
    kept : AreKept (rules profile limits done (typed r))

  abbrev AreWell : List Rec → List Raw → Type 0
  AreWell done [] = ⊤
  AreWell done (r ∷ rs) = IsWell done r × AreWell (done ++ typed r ∷ []) rs

  well-append : (done : List Rec) (xs ys : List Raw) → AreWell done xs → AreWell (done ++ recs xs) ys → AreWell done (xs ++ ys)
  well-append done [] ys w v = subst (λ (d : List Rec). AreWell d ys) (append-nil done) v
  well-append done (x ∷ xs) ys w v = (w.0, well-append (done ++ typed x ∷ []) xs ys w.1 (subst (λ (d : List Rec). AreWell d ys) (sym (append_assoc done (typed x ∷ []) (recs xs))) v))

  -- from a well-formed module, and back
  well-from : (before : List Raw) (rs records : List Raw) → before ++ rs ≡ records → All IsRecord rs → All (λ r. IsTrue (is_taken r.kind)) rs → All (λ r. IsTyped (typed r) r.body) rs
      → All (λ r. HasTrees limits r.kind (typed r).contents) rs
      → ((b a : List Raw) (r : Raw) → records ≡ b ++ r ∷ a → AreKept (rules profile limits (recs b) (typed r))) → AreWell (recs before) rs
  well-from before [] records e f t s h k = tt
  well-from before (r ∷ rs) records e f t s h k = (
    record {
      framed = All-head IsRecord r rs f;
      taken = All-head (λ (r : Raw). IsTrue (is_taken r.kind)) r rs t;
      spelled = All-head (λ (r : Raw). IsTyped (typed r) r.body) r rs s;
      tree = All-head (λ (r : Raw). HasTrees limits r.kind (typed r).contents) r rs h;
      kept = k before rs r (sym e);
    },
    subst (λ (d : List Rec). AreWell d rs) (map-append typed before (r ∷ []))
        (well-from (before ++ r ∷ []) rs records (append_assoc before (r ∷ []) rs ∙ e) (All-tail IsRecord r rs f) (All-tail (λ (r : Raw). IsTrue (is_taken r.kind)) r rs t)
        (All-tail (λ (r : Raw). IsTyped (typed r) r.body) r rs s) (All-tail (λ (r : Raw). HasTrees limits r.kind (typed r).contents) r rs h) k),
  )

  all-well : (P : Raw → Type 0) → ((done : List Rec) (r : Raw) → IsWell done r → P r) → (done : List Rec) (rs : List Raw) → AreWell done rs → All P rs
  all-well P f done [] w = All-nil P
  all-well P f done (r ∷ rs) w = All-cons P r rs (f done r w.0) (all-well P f (done ++ typed r ∷ []) rs w.1)

  all-kept : (done : List Rec) (rs : List Raw) → AreWell done rs → (b a : List Raw) (r : Raw) → rs ≡ b ++ r ∷ a → AreKept (rules profile limits (done ++ recs b) (typed r))
  all-kept done [] w [] a r e = absurd cc
  all-kept done [] w (y ∷ b) a r e = absurd cc
  all-kept done (x ∷ rs) w [] a r e =
      let is : x ≡ r = cc in
      subst (λ (d : List Rec). AreKept (rules profile limits d (typed r))) (sym (append-nil done)) (subst (λ (z : Raw). AreKept (rules profile limits done (typed z))) is w.0.kept)
  all-kept done (x ∷ rs) w (y ∷ b) a r e =
      let is : x ≡ y = cc in
      let more : rs ≡ b ++ r ∷ a = cc in
      subst (λ (z : Raw). AreKept (rules profile limits (done ++ typed z ∷ recs b) (typed r))) is
      (subst (λ (d : List Rec). AreKept (rules profile limits d (typed r))) (append_assoc done (typed x ∷ []) (recs b)) (all-kept (done ++ typed x ∷ []) rs w.1 b a r more))

  module _ (p : LeftPublics) (gone : List ℕ) where
    -- What is left of a record is well-formed after what is left of those before it.
    abbrev Leaves : List Rec → List Rec → Raw → List Raw → List Rec → Type 0
    Leaves before done r left ts = AreWell done left × Mirrors gone (before ++ typed r ∷ []) (done ++ recs left) × (map alone (recs left) ≡ map alone ts)

    abbrev IsNext : List Rec → List Rec → Raw → Left → Type 0
    IsNext before done r l = Leaves before done r (raws_left r l) (recs_left (typed r) l)

    module _ (before done : List Rec) (m : Mirrors gone before done) (r : Raw) (w : IsWell before r) where
      room-left : (c d : Contents) → c ≡ (typed r).contents → items_in d ≤ items_in c → AreTrue (holds (room item_limit (item_count done) (item_places d)))
      room-left c d e few =
          let all = kept-true (rules profile limits before (typed r)) w.kept in
          let own = subst (λ (x : Contents). AreTrue (holds (room item_limit (item_count before) (item_places x)))) (sym e) (kept-front (room item_limit (item_count before) (item_places (typed r).contents)) (contents_rules profile limits before r.kind (typed r).contents) all) in
          let bound = items-bounded item_limit (item_count before) c own in
          let less = m.fewer_items in
          items-room item_limit (item_count done) d (omega (arith, bound, less, few))

      own-rules : (c : Contents) → (typed r).contents ≡ c → AreTrue (holds (contents_rules profile limits before r.kind c))
      own-rules c e =
          let all = kept-true (rules profile limits before (typed r)) w.kept in
          subst (λ (x : Contents). AreTrue (holds (contents_rules profile limits before r.kind x))) e (kept-back (room item_limit (item_count before) (item_places (typed r).contents)) (contents_rules profile limits before r.kind (typed r).contents) all)

      own-spelled : (c : Contents) → (typed r).contents ≡ c → (contents r.kind).Spells 3 r.body c
      own-spelled c e = subst (λ (x : Contents). (contents r.kind).Spells 3 r.body x) e w.spelled

      stays : (c : Contents) → (typed r).contents ≡ c → Stays gone before done m c → IsNext before done r Whole
      stays c e h =
          let t = (typed r).contents in
          let k : Stays gone before done m t = subst (Stays gone before done m) (sym e) h in
          let few : items_in t ≤ items_in t = omega arith in
          let kept = true-kept (rules profile limits done (typed r))
          (kept-both (room item_limit (item_count done) (item_places t)) (contents_rules profile limits done r.kind t) (room-left t t refl few)
          (subst (λ (rs : List Rule). AreTrue (holds rs)) (sym (rules-same gone before done m profile limits r.kind t k)) (own-rules t refl))) in (
            (record { framed = w.framed; taken = w.taken; spelled = w.spelled; tree = w.tree; kept = kept }, tt),
            mirrors-more gone before done m (typed r) (typed r) (like-itself gone (length (segments before)) (typed r)),
            refl,
          )

      dropped : (c : Contents) → (typed r).contents ≡ c → Drops gone before done m c → IsNext before done r Nothing
      dropped c e h =
          (tt, subst (λ (d : List Rec). Mirrors gone (before ++ typed r ∷ []) d) (sym (append-nil done)) (subst (λ (x : Contents). Mirrors gone (before ++ T r.kind x ∷ []) done) (sym e) (mirrors-drop gone before done m r.kind c h)), refl)

      renewed : (c d v : Contents) → (typed r).contents ≡ c → (contents r.kind).Spells 3 (contents_bytes r.kind d) v → length (contents_bytes r.kind d) ≤ length r.body
          → HasTrees limits r.kind v → AreTrue (holds (contents_rules profile limits done r.kind v)) → contents_alone v ≡ contents_alone d → IsLike gone (length (segments before)) (T r.kind c) (T r.kind v) → IsNext before done r (Anew d)
      renewed c d v e sp short trees own same like =
          let x = written r.kind d in
          let is : T r.kind v ≡ typed x = (are_typed x (T r.kind v) refl sp).0 in
          let fits : length x.body + 1 < 65536 = let f = w.framed.0 in omega (arith, f, short) in
          let kept : AreKept (rules profile limits done (T r.kind v)) = true-kept (rules profile limits done (T r.kind v))
          (kept-both (room item_limit (item_count done) (item_places v)) (contents_rules profile limits done r.kind v) (room-left c v (sym e) like.like_items) own) in
          let mirrors = mirrors-more gone before done m (T r.kind c) (T r.kind v) like in (
            (
              record {
                framed = record-of r.kind (contents_bytes r.kind d) fits;
                taken = w.taken;
                spelled = subst (λ (t : Rec). IsTyped t x.body) is sp;
                tree = subst (λ (t : Rec). HasTrees limits r.kind t.contents) is trees;
                kept = subst (λ (t : Rec). AreKept (rules profile limits done t)) is kept;
              },
              tt,
            ),
            subst (λ (t : Rec). Mirrors gone (before ++ typed r ∷ []) (done ++ t ∷ [])) is (subst (λ (y : Contents). Mirrors gone (before ++ T r.kind y ∷ []) (done ++ T r.kind v ∷ [])) (sym e) mirrors),
            ap (λ (t : Rec). alone t ∷ []) (sym is) ∙ ap (λ (y : Contents). T r.kind y ∷ []) same,
          )

      anew-segment : (s : SegmentItem) → (typed r).contents ≡ Segment s → is_one_of gone (length (segments before) + 1) ≡ true → IsNext before done r (Anew (Segment (emptied p s)))
      anew-segment s e g =
          let n : NewSegment p (contents r.kind) r.kind r.body s = anew p r.kind r.body (Segment s) (own-spelled (Segment s) e) in
          renewed (Segment s) (Segment (emptied p s)) (Segment n.value) e n.spelled n.short tt
          (left-true gone before done m profile limits p r.kind s n.value n.name n.class (own-rules (Segment s) e)) n.same
          (record { like_names = refl; like_segments = refl; like_groups = refl; like_externals = refl; like_sizes = like-sizes s n.value g; like_settings = λ b k. refl; like_items = omega arith; like_data = refl })
        where
          like-sizes : (s v : SegmentItem) → is_one_of gone (length (segments before) + 1) ≡ true → SameSizes gone (length (segments before)) (defined_segments r.kind (Segment v)) (defined_segments r.kind (Segment s))
          like-sizes s v g zero h = absurd (true≢false (sym g ∙ subst (λ (i : ℕ). is_one_of gone i ≡ false) (let i : length (segments before) + 0 + 1 ≡ length (segments before) + 1 = omega arith in i) h))
          like-sizes s v g (suc j) h = refl

      anew-publics : (q : PublicItems) → (typed r).contents ≡ Publics q → IsNext before done r (Anew (Publics (started q)))
      anew-publics q e =
          let n : NewPublics (contents r.kind) r.kind r.body q = anew p r.kind r.body (Publics q) (own-spelled (Publics q) e) in
          renewed (Publics q) (Publics (started q)) (Publics n.value) e n.spelled n.short tt
          (subst AreTrue (sym (publics-true gone before done m profile limits r.kind q n.value n.group n.segment)) (own-rules (Publics q) e)) n.same
          (record { like_names = refl; like_segments = refl; like_groups = refl; like_externals = refl; like_sizes = λ j h. refl; like_settings = λ b k. refl; like_items = omega arith; like_data = refl })

      rules-none : (earlier subs : List (At Subrecord)) → AreThreads subs → AreTrue (holds (with_before (λ earlier s. subrecord_rules_at done (map (λ e. e.item) earlier) s.within s.item) earlier subs))
      rules-none earlier [] h = tt
      rules-none earlier (s ∷ subs) h = subst (λ (rs : List Rule). AreTrue (holds (rs ++ with_before (λ earlier s. subrecord_rules_at done (map (λ e. e.item) earlier) s.within s.item) (earlier ++ s ∷ []) subs))) (sym (none s.item h.0)) (rules-none (earlier ++ s ∷ []) subs h.1)
        where
          none : (x : Subrecord) → is_thread x ≡ true → subrecord_rules_at done (map (λ e. e.item) earlier) s.within x ≡ []
          none (Thread byte datum) k = refl
          none (Fixup locat f) k = absurd cc

      anew-threads : (subs : List (At Subrecord)) → (typed r).contents ≡ Fixups subs → IsNext before done r (Anew (Fixups (threads_alone subs)))
      anew-threads subs e =
          let n = new-threads r.kind r.body subs (own-spelled (Fixups subs) e) in
          let all : AreThreads n.value = are-threads-back n.value (subst AreThreads (sym n.same) (are-threads-alone (threads_alone subs) (threads-are subs))) in
          let count : length n.value ≡ length (threads_alone subs) = sym (length-map {B = At Subrecord} n.value (λ s. nowhere (subrecord_alone s.item))) ∙ ap (λ (xs : List (At Subrecord)). length xs) n.same ∙ length-map {B = At Subrecord} (threads_alone subs) (λ s. nowhere (subrecord_alone s.item)) in
          let few = threads-fewer subs in
          renewed (Fixups subs) (Fixups (threads_alone subs)) (Fixups n.value) e n.spelled n.short tt (rules-none [] n.value all) (ap (λ (xs : List (At Subrecord)). Fixups xs) n.same)
          (record {
            like_names = refl;
            like_segments = refl;
            like_groups = refl;
            like_externals = refl;
            like_sizes = λ j h. refl;
            like_settings = λ b k. sym (settings-alone b k n.value) ∙ ap (settings b k) n.same ∙ settings-alone b k (threads_alone subs) ∙ settings-threads b k subs;
            like_items = at-most (length n.value) (length subs) (omega (arith, count, few));
            like_data = refl;
          })
        where
          at-most : (a b : ℕ) → a ≤ b → max 1 a ≤ max 1 b
          at-most a b h = omega (arith, h)

      next : (c : Contents) → (typed r).contents ≡ c → IsNext before done r (left_after p gone before c)
      next (Segment s) e = cond_both (is_one_of gone (length (segments before) + 1)) (Anew (Segment (emptied p s))) Whole (IsNext before done r) (anew-segment s e) (λ g. stays (Segment s) e tt)
      next (Publics q) e = cond_both (is_one_of gone q.segment.item) (left_publics p q) Whole (IsNext before done r) (λ g. publics p) (λ g. stays (Publics q) e tt)
        where
          publics : (o : LeftPublics) → IsNext before done r (left_publics o q)
          publics Gone = dropped (Publics q) e tt
          publics Nameless = dropped (Publics q) e tt
          publics AtStart = anew-publics q e
      next (Plain d) e = cond_both (is_one_of gone d.segment.item) Nothing Whole (IsNext before done r) (λ g. dropped (Plain d) e g) (λ g. stays (Plain d) e g)
      next (Iterated d) e = cond_both (is_one_of gone d.segment.item) Nothing Whole (IsNext before done r) (λ g. dropped (Iterated d) e g) (λ g. stays (Iterated d) e g)
      next (Fixups subs) e = cond_both (are_of gone (last_data before)) (Anew (Fixups (threads_alone subs))) Whole (IsNext before done r) (λ g. anew-threads subs e) (λ g. stays (Fixups subs) e g)
      next (Header x) e = stays (Header x) e tt
      next (Comment x y z) e = stays (Comment x y z) e tt
      next (Names x) e = stays (Names x) e tt
      next (Group x) e = stays (Group x) e tt
      next (Externs x) e = stays (Externs x) e tt
      next (Communals x) e = stays (Communals x) e tt
      next (ModEnd x y) e = stays (ModEnd x y) e tt
      next (Carried x) e = stays (Carried x) e tt

    left-well : (before : List Raw) (done : List Rec) (rs : List Raw) → Mirrors gone (recs before) done → AreWell (recs before) rs → AreWell done (with_before (rest_of p gone) before rs)
    left-well before done [] m w = tt
    left-well before done (r ∷ rs) m w =
        let left = rest_of p gone before r in
        let n = next (recs before) done m r w.0 (typed r).contents refl in
        let later = sym (map-append typed before (r ∷ [])) in
        well-append done left (with_before (rest_of p gone) (before ++ r ∷ []) rs) n.0
        (left-well (before ++ r ∷ []) (done ++ recs left) rs (subst (λ (b : List Rec). Mirrors gone b (done ++ recs left)) later n.1) (subst (λ (b : List Rec). AreWell b rs) later w.1))

    abbrev typed_left : List Rec → Rec → List Rec
    typed_left before t = recs_left t (left_after p gone before t.contents)

    left-typed : (before : List Raw) (done : List Rec) (rs : List Raw) → Mirrors gone (recs before) done → AreWell (recs before) rs
        → map alone (recs (with_before (rest_of p gone) before rs)) ≡ map alone (with_before typed_left (recs before) (recs rs))
    left-typed before done [] m w = refl
    left-typed before done (r ∷ rs) m w =
        let left = rest_of p gone before r in
        let others = with_before (rest_of p gone) (before ++ r ∷ []) rs in
        let n = next (recs before) done m r w.0 (typed r).contents refl in
        let later = sym (map-append typed before (r ∷ [])) in
        let own = typed_left (recs before) (typed r) in
        let more = with_before typed_left (recs before ++ typed r ∷ []) (recs rs) in
        ap (map alone) (map-append typed left others) ∙ map-append alone (recs left) (recs others)
        ∙ ap₂ (λ (xs ys : List Rec). xs ++ ys) n.2
        (left-typed (before ++ r ∷ []) (done ++ recs left) rs (subst (λ (b : List Rec). Mirrors gone b (done ++ recs left)) later n.1) (subst (λ (b : List Rec). AreWell b rs) later w.1)
        ∙ ap (λ (b : List Rec). map alone (with_before typed_left b (recs rs))) (sym later))
        ∙ sym (map-append alone own more)

-- ---- the header, and the end

one_of_two : (a b kind : ℕ) → is_one_of (a ∷ b ∷ []) kind ≡ true → (kind ≡ a) ⊎ (kind ≡ b)
one_of_two a b kind e =
    elim (or_cases (a == kind) (is_one_of (b ∷ []) kind) e) [
      | inl q ↦ inl (sym (eqb-true a kind q))
      | inr q ↦ elim (or_cases (b == kind) false q) [ inl z ↦ inr (sym (eqb-true b kind z)) | inr z ↦ absurd cc ]
    ]

abbrev IsFree : Contents → Type 0
IsFree (Header x) = ⊤
IsFree (ModEnd x y) = ⊤
IsFree _ = ⊥

header-text : (body : List ℕ) (c : Contents) → (contents 0x80).Spells 3 body c → IsFree c
header-text body c (f, b, x, p, s, (none, e)) = subst IsFree (sym e) tt

free-header : (kind : ℕ) (body : List ℕ) (c : Contents) → is_header kind ≡ true → (contents kind).Spells 3 body c → IsFree c
free-header kind body c h sp = elim (one_of_two 0x80 0x82 kind h) [
  | inl q ↦ header-text body c (subst (λ (k : ℕ). (contents k).Spells 3 body c) q sp)
  | inr q ↦ header-text body c (subst (λ (k : ℕ). (contents k).Spells 3 body c) q sp)
]

end-free : (kind : ℕ) (body : List ℕ) (c : Contents) → (mod_end (is_wide kind)).Spells 3 body c → IsFree c
end-free kind body c (f1, b1, x1, p1, s1, (f2, b2, x2, p2, s2, (none, e))) = subst IsFree (sym e) tt

free-end : (kind : ℕ) (body : List ℕ) (c : Contents) → is_end kind ≡ true → (contents kind).Spells 3 body c → IsFree c
free-end kind body c h sp = elim (one_of_two 0x8A 0x8B kind h) [
  | inl q ↦ end-free 0x8A body c (subst (λ (k : ℕ). (contents k).Spells 3 body c) q sp)
  | inr q ↦ end-free 0x8B body c (subst (λ (k : ℕ). (contents k).Spells 3 body c) q sp)
]

module _ (p : LeftPublics) (gone : List ℕ) where
  free-stays : (n : ℕ) (b : Bool) (r : Raw) (c : Contents) → IsFree c → raws_left r (left_by p gone n b c) ≡ r ∷ []
  free-stays n b r (Header x) h = refl
  free-stays n b r (ModEnd x y) h = refl
  free-stays n b r _ h = absurd h

  module _ (P : ℕ → Type 0) (r : Raw) (h : P r.kind) where
    abbrev Of : List Raw → Type 0
    Of rs = All (λ x. P x.kind) rs

    one : (x : Raw) → P x.kind → Of (x ∷ [])
    one x k = All-cons (λ (x : Raw). P x.kind) x [] k (All-nil (λ (x : Raw). P x.kind))

    none : Of []
    none = All-nil (λ (x : Raw). P x.kind)

    left-publics : (o : LeftPublics) (q : PublicItems) → Of (raws_left r (left_publics o q))
    left-publics Gone q = none
    left-publics Nameless q = none
    left-publics AtStart q = one (written r.kind (Publics (started q))) h

    abbrev OfLeft : Left → Type 0
    OfLeft l = Of (raws_left r l)

    left-kinds : (n : ℕ) (b : Bool) (c : Contents) → OfLeft (left_by p gone n b c)
    left-kinds n b (Segment s) = cond_both (is_one_of gone n) (Anew (Segment (emptied p s))) Whole OfLeft (λ e. one (written r.kind (Segment (emptied p s))) h) (λ e. one r h)
    left-kinds n b (Publics q) = cond_both (is_one_of gone q.segment.item) (left_publics p q) Whole OfLeft (λ e. left-publics p q) (λ e. one r h)
    left-kinds n b (Plain d) = cond_both (is_one_of gone d.segment.item) Nothing Whole OfLeft (λ e. none) (λ e. one r h)
    left-kinds n b (Iterated d) = cond_both (is_one_of gone d.segment.item) Nothing Whole OfLeft (λ e. none) (λ e. one r h)
    left-kinds n b (Fixups subs) = cond_both b (Anew (Fixups (threads_alone subs))) Whole OfLeft (λ e. one (written r.kind (Fixups (threads_alone subs))) h) (λ e. one r h)
    left-kinds n b _ = one r h

  all-kinds : (P : ℕ → Type 0) (before rs : List Raw) → All (λ x. P x.kind) rs → All (λ x. P x.kind) (with_before (rest_of p gone) before rs)
  all-kinds P before [] h = All-nil (λ (x : Raw). P x.kind)
  all-kinds P before (r ∷ rs) h =
      All-append (λ (x : Raw). P x.kind) (rest_of p gone before r) (with_before (rest_of p gone) (before ++ r ∷ []) rs)
      (left-kinds P r (All-head (λ (x : Raw). P x.kind) r rs h) (length (segments (recs before)) + 1) (are_of gone (last_data (recs before))) (typed r).contents)
      (all-kinds P (before ++ r ∷ []) rs (All-tail (λ (x : Raw). P x.kind) r rs h))

  abbrev IsNoEnd : ℕ → Type 0
  IsNoEnd kind = IsTrue (not (is_end kind))

  abbrev EndsIn : List Raw → Type 0
  EndsIn rs = (front : List Raw) × (end : Raw) × (rs ≡ front ++ end ∷ []) × IsTrue (is_end end.kind) × All (λ r. IsTrue (not (is_end r.kind))) front

  left-end : (records : List Raw) → All (λ r. IsTyped (typed r) r.body) records → EndsIn records → EndsIn (records_without p gone records)
  left-end records s (front, end, e, is, others) =
      let own : IsTyped (typed end) end.body = last-of front end (subst (All (λ r. IsTyped (typed r) r.body)) e s) in
      let free = free-end end.kind end.body (typed end).contents is own in
      let stays = free-stays (length (segments (recs front)) + 1) (are_of gone (last_data (recs front))) end (typed end).contents free in (
        with_before (rest_of p gone) [] front,
        end,
        ap (with_before (rest_of p gone) []) e ∙ with_before-more (rest_of p gone) [] front end ∙ ap (λ rs. with_before (rest_of p gone) [] front ++ rs) stays,
        is,
        all-kinds IsNoEnd [] front others,
      )
    where
      last-of : (front : List Raw) (end : Raw) → All (λ r. IsTyped (typed r) r.body) (front ++ end ∷ []) → IsTyped (typed end) end.body
      last-of [] end h = All-head (λ (r : Raw). IsTyped (typed r) r.body) end [] h
      last-of (x ∷ front) end h = last-of front end (All-tail (λ (r : Raw). IsTyped (typed r) r.body) x (front ++ end ∷ []) h)

  left-header : (records : List Raw) → All (λ r. IsTyped (typed r) r.body) records → EndsIn records → is_header (slice_index (flat_map raw_bytes records) 0) ≡ true
      → is_header (slice_index (flat_map raw_bytes (records_without p gone records)) 0) ≡ true
  left-header [] s ([], end, e, is, others) h = absurd cc
  left-header [] s (x ∷ front, end, e, is, others) h = absurd cc
  left-header (r ∷ rs) s ends h =
      let free = free-header r.kind r.body (typed r).contents h (All-head (λ (r : Raw). IsTyped (typed r) r.body) r rs s) in
      let stays = free-stays 1 false r (typed r).contents free in
      subst (λ (left : List Raw). is_header (slice_index (flat_map raw_bytes (left ++ with_before (rest_of p gone) (r ∷ []) rs)) 0) ≡ true) (sym stays) h

pub well-formed-rest : RestsAreWellFormed
well-formed-rest p gone profile limits bytes w =
    let records = records_in bytes in
    let left = records_without p gone records in
    let r = well-read profile limits bytes records w in
    let own = well-from profile limits [] records records refl r.framed.each r.framed.types r.spelled r.blocks r.kept in
    let well = left-well profile limits p gone [] [] records (mirrors-none gone) own in
    well-formed profile limits (without p gone bytes) left (record {
      framed = record {
        spelled = refl;
        each = all-well profile limits IsRecord (λ d x v. v.framed) [] left well;
        types = all-well profile limits (λ (x : Raw). IsTrue (is_taken x.kind)) (λ d x v. v.taken) [] left well;
        first = left-header p gone records r.spelled r.framed.last (subst (λ (bs : List ℕ). is_header (slice_index bs 0) ≡ true) r.framed.spelled r.framed.first);
        last = left-end p gone records r.spelled r.framed.last;
      };
      spelled = all-well profile limits (λ (x : Raw). IsTyped (typed x) x.body) (λ d x v. v.spelled) [] left well;
      blocks = all-well profile limits (λ (x : Raw). HasTrees limits x.kind (typed x).contents) (λ d x v. v.tree) [] left well;
      kept = all-kept profile limits [] left well;
    })

pub typed-rest : RestsAreTyped
typed-rest p gone profile limits bytes w =
    let records = records_in bytes in
    let r = well-read profile limits bytes records w in
    left-typed profile limits p gone [] [] records (mirrors-none gone) (well-from profile limits [] records records refl r.framed.each r.framed.types r.spelled r.blocks r.kept)
