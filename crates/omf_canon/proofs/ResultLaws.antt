-- Records that spell pieces which keep the rules keep the rules.
use Rattle.std.proofs.Common.{◌≡◌, ◌≢◌, ℕ, ◌+◌, ◌≤◌, List, [], ◌∷◌, ◌++◌, length, refl, sym, ◌∙◌, ap, subst, Bool, true, false, Option, Some, None, append_assoc, append-nil}
use Rattle.std.specs.Prelude.{map, option_map, All, not, ◌==◌}
use Rattle.std.specs.List.{AllByRecursion as Each}
use Rattle.std.proofs.lemmas.Bool.{le-leb}
use Rattle.std.proofs.lemmas.List.{map-append}
use Rattle.std.proofs.lemmas.List.Sums.{sum_by_push}
use Rattle.std.proofs.lemmas.List.Elements.{All-head, All-tail}
use Rattle.omf_frame.specs.Inner.Names.{AreKept}
use Rattle.omf_frame.specs.Bytes.{with_before}
use Rattle.omf_frame.specs.Framing.{Raw}
use Rattle.omf_image.specs.declared.limits.Limits.{Limits}
use Rattle.omf_records.specs.Inner.Names.{location_size}
use Rattle.omf_records.specs.Values.{At, nowhere, Rec, Contents, Header, Comment, Names, Segment, Group, Externs, Publics, Communals, Plain, Iterated, Fixups, ModEnd, Carried, DataItem, Reference, Subrecord, Thread, Fixup, location_type, location_offset, contents_alone, subrecord_alone, reference_alone}
use Rattle.omf_records.specs.Inner.Reading.{typed}
use Rattle.omf_check.specs.Inner.Names.{subrecord_rules, frame_from, target_from}
use Rattle.omf_check.specs.Rules.{item_limit, room, item_places, contents_rules, rules, location_rule, frame_rules, target_rules, reference_rules, judged_at, subrecord_rules_at, start_rules, is_location_frame}
use Rattle.omf_check.specs.Sound.{FrameIsDefined, TargetIsDefined, ContentsHold, ModuleHolds}
use Rattle.omf_check.specs.Tables.{last_data, subrecords, item_count, items_in}
use Rattle.omf_check.specs.Threads.{PlainReference, frame_of, target_of}
use Rattle.omf_check.specs.declared.method.FrameMethod.{FrameMethod}
use Rattle.omf_check.specs.declared.method.TargetMethod.{TargetMethod}
use Rattle.omf_check.specs.declared.method.FrameMethod.TheVariants.{Of, Location as F4, Target as F5}
use Rattle.omf_check.specs.WellFormed.{HasTrees, recs}
use Rattle.omf_check.proofs.WellLaws.{IsWellRead}
use Rattle.omf_check.specs.declared.profile.Profile.{Profile}
use Rattle.omf_reloc.specs.Plain.{Kept, PlainFixup, plain_fixup, pieces}
use Rattle.omf_canon.specs.Inner.Names.{unthreaded_fixup}
use Rattle.omf_canon.specs.Skeleton.{normal}
use Rattle.omf_canon.proofs.NormalLaws.{normal_of, normal_at, normal-pieces}
use Rattle.omf_canon.specs.Unthreaded.{unthreaded}
use Rattle.omf_canon.proofs.AloneLaws.{IsOther, other-alone, twice-alone, twice-contents, same-frame, same-target}
use Rattle.omf_canon.proofs.UnthreadedLaws.{frame-again, target-again}
use Rattle.omf_canon.proofs.RulesLaws.{holds, AreTrue, kept-true, kept-front, kept-back, kept-both, items-bounded, SameTables, same-rules}
use Rattle.omf_canon.proofs.PiecesKeptLaws.{FixupIsKept, StartIsKept, PieceIsKept, kept_after, PiecesAreKept, tables-more, fixups-empty, end-empty, frame-tables, target-tables, fixups-kept, start-kept, trees-alone}

-- ---- from a well-formed module

module _ (profile : Profile) (limits : Limits) where
  kept-other : (L b : List Rec) → SameTables L b → (kind : ℕ) (c : Contents) → IsOther c → AreTrue (holds (contents_rules profile limits L kind c)) → HasTrees limits kind c
      → PieceIsKept profile limits b (Kept (record { kind = kind; contents = contents_alone c })) × SameTables (L ++ record { kind = kind; contents = c } ∷ []) (b ++ record { kind = kind; contents = contents_alone c } ∷ [])
  kept-other L b t kind c o h trees = (
    (subst AreTrue (same-rules profile limits L b t kind c (contents_alone c) o (twice-contents c)) h, other-alone c o, trees-alone limits kind c (contents_alone c) (twice-contents c) trees),
    tables-more L b (record { kind = kind; contents = c }) (record { kind = kind; contents = contents_alone c }) t (twice-alone (record { kind = kind; contents = c })),
  )

  kept-piece : (L b : List Rec) → SameTables L b → (kind : ℕ) (c : Contents) → ContentsHold limits L kind c → AreTrue (holds (contents_rules profile limits L kind c)) → HasTrees limits kind c
      → PieceIsKept profile limits b (normal_of (subrecords L) kind c) × SameTables (L ++ record { kind = kind; contents = c } ∷ []) (kept_after profile limits b (normal_of (subrecords L) kind c))
  kept-piece L b t kind (Fixups subs) s h trees = (
    subst (λ E. Each (FixupIsKept b) (with_before plain_fixup E (map (λ q. q.item) subs))) (append-nil (subrecords L)) (fixups-kept L b t (subrecords L) [] subs s),
    fixups-empty L b kind subs t,
  )
  kept-piece L b t kind (ModEnd byte start) s h trees = (start-kept L b t byte limits kind start s, end-empty L b kind byte start t)
  kept-piece L b t kind (Header x) s h trees = kept-other L b t kind (Header x) tt h trees
  kept-piece L b t kind (Comment x y z) s h trees = kept-other L b t kind (Comment x y z) tt h trees
  kept-piece L b t kind (Names x) s h trees = kept-other L b t kind (Names x) tt h trees
  kept-piece L b t kind (Segment x) s h trees = kept-other L b t kind (Segment x) tt h trees
  kept-piece L b t kind (Group x) s h trees = kept-other L b t kind (Group x) tt h trees
  kept-piece L b t kind (Externs x) s h trees = kept-other L b t kind (Externs x) tt h trees
  kept-piece L b t kind (Publics x) s h trees = kept-other L b t kind (Publics x) tt h trees
  kept-piece L b t kind (Communals x) s h trees = kept-other L b t kind (Communals x) tt h trees
  kept-piece L b t kind (Plain x) s h trees = kept-other L b t kind (Plain x) tt h trees
  kept-piece L b t kind (Iterated x) s h trees = kept-other L b t kind (Iterated x) tt h trees
  kept-piece L b t kind (Carried x) s h trees = kept-other L b t kind (Carried x) tt h trees

  abbrev Tree : Raw → Type 0
  Tree r = HasTrees limits r.kind (typed r).contents

  module _ (bytes : List ℕ) (records : List Raw) (w : IsWellRead profile limits bytes records) (m : ModuleHolds limits (recs records)) where
    kept-from : (done rest : List Raw) (L b : List Rec) → records ≡ done ++ rest → recs done ≡ L → SameTables L b → All Tree rest → PiecesAreKept profile limits b (with_before normal_at L (recs rest))
    kept-from done [] L b e is t trees = tt
    kept-from done (r ∷ rest) L b e is t trees =
        let split : recs records ≡ L ++ typed r ∷ recs rest = ap recs e ∙ map-append typed done (r ∷ rest) ∙ ap (λ x. x ++ typed r ∷ recs rest) is in
        let rules_kept : AreKept (rules profile limits L (typed r)) = subst (λ x. AreKept (rules profile limits x (typed r))) is (w.kept done rest r e) in
        let c = (typed r).contents in
        let true_rules = kept-back (room item_limit (item_count L) (item_places c)) (contents_rules profile limits L r.kind c) (kept-true (rules profile limits L (typed r)) rules_kept) in
        let q = kept-piece L b t r.kind c (m.each L (recs rest) (typed r) split) true_rules (All-head Tree r rest trees) in (
          q.0,
          kept-from (done ++ r ∷ []) rest (L ++ typed r ∷ []) _ (e ∙ sym (append_assoc done (r ∷ []) rest)) (map-append typed done (r ∷ []) ∙ ap (λ x. x ++ typed r ∷ []) is) q.1 (All-tail Tree r rest trees),
        )

    no-tables : SameTables [] []
    no-tables = record { names = refl; segments = refl; groups = refl; externals = refl; last = refl }

    pub kept-module : PiecesAreKept profile limits [] (map normal (pieces (recs records)))
    kept-module = subst (PiecesAreKept profile limits []) (sym (normal-pieces (recs records))) (kept-from [] records [] [] refl refl no-tables w.blocks)

    -- the items of a well-formed module are at most a million
    pub items-limited : item_count (recs records) ≤ item_limit
    items-limited =
        let front = w.framed.last.0 in
        let end = w.framed.last.1 in
        let e : records ≡ front ++ end ∷ [] = w.framed.last.2 in
        let c = (typed end).contents in
        let true_rules = kept-true (rules profile limits (recs front) (typed end)) (w.kept front [] end e) in
        let l = items-bounded item_limit (item_count (recs front)) c (kept-front (room item_limit (item_count (recs front)) (item_places c)) (contents_rules profile limits (recs front) end.kind c) true_rules) in
        let n : item_count (recs records) ≡ item_count (recs front) + items_in c = ap (λ x. item_count (recs x)) e ∙ ap item_count (map-append typed front (end ∷ [])) ∙ sum_by_push (λ (r : Rec). items_in r.contents) (recs front) (typed end) in
        subst (λ x. x ≤ item_limit) (sym n) l

-- ---- what records that spell pieces are

pub fixups-like : (c : Contents) (ys : List (At Subrecord)) → contents_alone c ≡ Fixups ys → (xs : List (At Subrecord)) × (c ≡ Fixups xs) × (map (λ s. nowhere (subrecord_alone s.item)) xs ≡ ys)
fixups-like (Fixups xs) ys e = (xs, refl, cc)
fixups-like (Header x) ys e = absurd cc
fixups-like (Comment x y z) ys e = absurd cc
fixups-like (Names x) ys e = absurd cc
fixups-like (Segment x) ys e = absurd cc
fixups-like (Group x) ys e = absurd cc
fixups-like (Externs x) ys e = absurd cc
fixups-like (Publics x) ys e = absurd cc
fixups-like (Communals x) ys e = absurd cc
fixups-like (Plain x) ys e = absurd cc
fixups-like (Iterated x) ys e = absurd cc
fixups-like (Carried x) ys e = absurd cc
fixups-like (ModEnd x y) ys e = absurd cc

pub end-like : (c : Contents) (byte : ℕ) (y : Option Reference) → contents_alone c ≡ ModEnd byte y → (start : Option Reference) × (c ≡ ModEnd byte start) × (option_map reference_alone start ≡ y)
end-like (ModEnd b start) byte y e = let q : b ≡ byte = cc in (start, ap (λ x. ModEnd x start) q, cc)
end-like (Header x) byte y e = absurd cc
end-like (Comment x u z) byte y e = absurd cc
end-like (Names x) byte y e = absurd cc
end-like (Segment x) byte y e = absurd cc
end-like (Group x) byte y e = absurd cc
end-like (Externs x) byte y e = absurd cc
end-like (Publics x) byte y e = absurd cc
end-like (Communals x) byte y e = absurd cc
end-like (Plain x) byte y e = absurd cc
end-like (Iterated x) byte y e = absurd cc
end-like (Carried x) byte y e = absurd cc
end-like (Fixups x) byte y e = absurd cc

frame-like : (E : List Subrecord) (short : Bool) (p : PlainReference) (r : Reference) → reference_alone r ≡ reference_alone (unthreaded short p) → frame_of E r ≡ Some p.frame
frame-like E short p r e =
    ap (option_map frame_from) (same-frame E E (λ b k. refl) r)
    ∙ ap (frame_of E) e
    ∙ sym (ap (option_map frame_from) (same-frame E E (λ b k. refl) (unthreaded short p)))
    ∙ frame-again E short p

target-like : (E : List Subrecord) (short : Bool) (p : PlainReference) (r : Reference) → reference_alone r ≡ reference_alone (unthreaded short p) → target_of E r ≡ Some p.target
target-like E short p r e =
    ap (option_map target_from) (same-target E E (λ b k. refl) r)
    ∙ ap (target_of E) e
    ∙ sym (ap (option_map target_from) (same-target E E (λ b k. refl) (unthreaded short p)))
    ∙ target-again E short p

frame-true : (L : List Rec) (at : ℕ) (m : FrameMethod) → FrameIsDefined L m → AreTrue (holds (frame_rules L at (Some m)))
frame-true L at (Of t) h = (h, tt)
frame-true L at F4 h = tt
frame-true L at F5 h = tt

target-true : (L : List Rec) (at : ℕ) (m : TargetMethod) → TargetIsDefined L m → AreTrue (holds (target_rules L at (Some m)))
target-true L at t h = (h, tt)

reference-true : (L : List Rec) (E : List Subrecord) (short : Bool) (p : PlainReference) (r : Reference) → reference_alone r ≡ reference_alone (unthreaded short p)
    → FrameIsDefined L p.frame → TargetIsDefined L p.target → AreTrue (holds (reference_rules L E r))
reference-true L E short p r e f t =
    kept-both (frame_rules L (judged_at r r.frame) (frame_of E r)) (target_rules L (judged_at r r.target) (target_of E r))
    (subst (λ m. AreTrue (holds (frame_rules L (judged_at r r.frame) m))) (sym (frame-like E short p r e)) (frame-true L (judged_at r r.frame) p.frame f))
    (subst (λ m. AreTrue (holds (target_rules L (judged_at r r.target) m))) (sym (target-like E short p r e)) (target-true L (judged_at r r.target) p.target t))

abbrev bytes_in : Contents → List ℕ
bytes_in (Plain d) = d.bytes
bytes_in _ = []

data_bytes_same : (x d : DataItem) → contents_alone (Plain x) ≡ contents_alone (Plain d) → x.bytes ≡ d.bytes
data_bytes_same x d e = ap bytes_in e

location-true : (o : Option Contents) (d : DataItem) (within locat : ℕ) → option_map contents_alone o ≡ Some (contents_alone (Plain d)) → location_offset locat + location_size (location_type locat) ≤ length d.bytes
    → (location_rule o within locat).holds ≡ true
location-true None d within locat e h = absurd cc
location-true (Some (Plain x)) d within locat e h =
    let same : contents_alone (Plain x) ≡ contents_alone (Plain d) = cc in
    le-leb (location_offset locat + location_size (location_type locat)) (length x.bytes) (subst (λ (b : List ℕ). location_offset locat + location_size (location_type locat) ≤ length b) (sym (data_bytes_same x d same)) h)
location-true (Some (Header x)) d within locat e h = absurd cc
location-true (Some (Comment x y z)) d within locat e h = absurd cc
location-true (Some (Names x)) d within locat e h = absurd cc
location-true (Some (Segment x)) d within locat e h = absurd cc
location-true (Some (Group x)) d within locat e h = absurd cc
location-true (Some (Externs x)) d within locat e h = absurd cc
location-true (Some (Publics x)) d within locat e h = absurd cc
location-true (Some (Communals x)) d within locat e h = absurd cc
location-true (Some (Iterated x)) d within locat e h = absurd cc
location-true (Some (Carried x)) d within locat e h = absurd cc
location-true (Some (Fixups x)) d within locat e h = absurd cc
location-true (Some (ModEnd x y)) d within locat e h = absurd cc

module _ (L b : List Rec) (t : SameTables b L) where
  one-true : (s : Subrecord) (f : PlainFixup) → subrecord_alone s ≡ subrecord_alone (unthreaded_fixup f) → FixupIsKept b f → (earlier : List Subrecord) (within : ℕ) → AreTrue (holds (subrecord_rules_at L earlier within s))
  one-true (Thread byte datum) f e h earlier within = absurd cc
  one-true (Fixup locat r) f e h earlier within =
      let same : reference_alone r ≡ reference_alone (unthreaded (f.reference.displacement == 0) f.reference) = cc in
      let there : locat ≡ f.locat = cc in
      let last : option_map contents_alone (last_data L) ≡ Some (contents_alone (Plain h.data_record)) = sym t.last ∙ h.last in (
        location-true (last_data L) h.data_record within locat last (subst (λ x. location_offset x + location_size (location_type x) ≤ length h.data_record.bytes) (sym there) h.inside),
        reference-true L (subrecords L ++ earlier) (f.reference.displacement == 0) f.reference r same (frame-tables b L t f.reference.frame h.frame) (target-tables b L t f.reference.target h.target),
      )

  pub fixups-true : (done subs : List (At Subrecord)) (fs : List PlainFixup) → map (λ s. nowhere (subrecord_alone s.item)) subs ≡ map (λ s. nowhere (subrecord_alone s.item)) (map (λ f. nowhere (unthreaded_fixup f)) fs)
      → Each (FixupIsKept b) fs → AreTrue (holds (with_before (subrecord_rules L) done subs))
  fixups-true done [] fs e h = tt
  fixups-true done (s ∷ subs) [] e h = absurd cc
  fixups-true done (s ∷ subs) (f ∷ fs) e h =
      let here : nowhere (subrecord_alone s.item) ≡ nowhere (subrecord_alone (unthreaded_fixup f)) = cc in
      let more : map (λ q. nowhere (subrecord_alone q.item)) subs ≡ map (λ q. nowhere (subrecord_alone q.item)) (map (λ g. nowhere (unthreaded_fixup g)) fs) = cc in
      kept-both (subrecord_rules L done s) (with_before (subrecord_rules L) (done ++ s ∷ []) subs)
      (one-true s.item f (ap (λ (a : At Subrecord). a.item) here) h.0 (map (λ q. q.item) done) s.within)
      (fixups-true (done ++ s ∷ []) subs fs more h.1)

  not-location : (m : FrameMethod) → m ≢ F4 → not (is_location_frame (Some m)) ≡ true
  not-location (Of t) h = refl
  not-location F4 h = absurd (h refl)
  not-location F5 h = refl

  pub start-true : (start : Option Reference) (p : Option PlainReference) → option_map reference_alone start ≡ option_map reference_alone (option_map (unthreaded false) p) → StartIsKept b p → AreTrue (holds (start_rules L start))
  start-true None p e h = tt
  start-true (Some r) None e h = absurd cc
  start-true (Some r) (Some p) e h =
      let same : reference_alone r ≡ reference_alone (unthreaded false p) = cc in
      kept-both (reference_rules L (subrecords L) r) _
      (reference-true L (subrecords L) false p r same (frame-tables b L t p.frame h.0) (target-tables b L t p.target h.1))
      (subst (λ m. not (is_location_frame m) ≡ true) (sym (frame-like (subrecords L) false p r same)) (not-location p.frame h.2), tt)
