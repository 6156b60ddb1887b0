-- The guarantees for the records of a well-formed module follow from their rules.
use Rattle.std.proofs.Common.{◌≡◌, ◌≢◌, ℕ, ◌+◌, ◌*◌, ◌^◌, ◌<◌, ◌≤◌, Bool, true, false, List, [], ◌∷◌, ◌++◌, refl, sym, ◌∙◌, ap, subst, arith, append_assoc, length, length-append, map, cond}
use Rattle.std.specs.Prelude.{Option, Some, None, option_map, unwrap_or, All, IsTrue, is_some, IsSome, IsOk, ⊤, not, ◌==◌, ◌||◌, nat_le, Result}
use Rattle.std.proofs.lemmas.Bool.{leb-true, le-leb, eqb-true, true≢false}
use Rattle.std.proofs.lemmas.List.{append-nil, map-append}
use Rattle.std.proofs.lemmas.List.Elements.{All-cons, All-nil}
use Rattle.omf_frame.specs.Inner.Names.{AreKept}
use Rattle.omf_frame.proofs.FaultLaws.{untrue, all_cons}
use Rattle.omf_frame.specs.Bytes.{with_before}
use Rattle.omf_frame.specs.Fault.{Fault, Rule, rule, broken, least, first_step}
use Rattle.omf_frame.specs.declared.fault.Reason.TheVariants as reason
use Rattle.omf_frame.specs.Fields.{IsLittle}
use Rattle.omf_frame.specs.Inner.FieldLaws.{little_fits}
use Rattle.omf_frame.specs.Framing.{Raw, IsRecord, is_end}
use Rattle.omf_image.proofs.BlocksLaws.{length-blocks_bytes}
use Rattle.omf_image.specs.Blocks.{Blocks, blocks_size, AreBlocks}
use Rattle.omf_image.specs.Inner.BlockReaders.{blocks_whole}
use Rattle.omf_image.specs.Inner.Expanding.{blocks_of, blocks_or_none, expanded_length, faults_of, length_or}
use Rattle.omf_image.specs.declared.limits.Limits.{Limits}
use Rattle.omf_records.specs.Inner.Names.{location_size}
use Rattle.omf_records.specs.Layout.{when, le}
use Rattle.omf_records.specs.Inner.Reading.{typed}
use Rattle.omf_records.specs.Records.{contents, data_item, mod_end, IsTyped}
use Rattle.omf_records.specs.Values.{At, Rec, Contents, Header, Names, Plain, Iterated, Fixups, ModEnd, DataItem, Subrecord, Thread, Fixup, Reference, width, is_wide, location_type, location_offset, Segment, SegmentItem, Group, GroupItem, Publics, PublicItems, is_big}
use Rattle.omf_records.proofs.LaidOut.{IsLaidOut, laid-out}
use Rattle.omf_check.specs.Inner.Names.{subrecord_rules, frame_from, target_from}
use Rattle.omf_check.specs.Rules.{contents_rules, room, table_limit, item_limit, item_places, data_rules, names_entry, names_entry_or_none, frame_rules, target_rules, reference_rules, judged_at, location_rule, start_rules, is_location_frame, length_of_segment}
use Rattle.omf_check.specs.Sound.{FrameIsDefined, TargetIsDefined, ReferenceHolds, FixupHolds, SubrecordHolds, SubrecordsHold, StartHolds, DataHolds, BlocksHold, SegmentHolds, GroupHolds, PublicsHold, ContentsHold, is_module_end, ModuleHolds}
use Rattle.omf_check.specs.Tables.{names, segments, groups, is_defined, item_count, subrecords, last_data, segment_length}
use Rattle.omf_check.specs.Threads.{FrameMethod, Of, F4, F5, TargetMethod, T0, frame_setting, target_setting, frame_of, target_of}
use Rattle.omf_check.specs.WellFormed.{IsWellFormed, HasTrees, recs}
use Rattle.omf_check.specs.declared.profile.Profile.{Profile}
use Rattle.omf_check.proofs.WellLaws.{well-read, IsWellRead}
use Rattle.omf_check.proofs.AcceptLaws.{all_left, all_right, all_middle}
use Rattle.omf_check.proofs.UniqueLaws.{all_first, all_rest}

abbrev IsKept : Rule → Type 0
IsKept r = IsTrue r.holds

first_kept : (r : Rule) (rs : List Rule) → AreKept (r ∷ rs) → IsTrue r.holds
first_kept r rs h = all_first IsKept r rs h

-- Frames and targets.
by_frame : (before : List Rec) (at : ℕ) (o : Option FrameMethod) → AreKept (frame_rules before at o) → IsSome o × FrameIsDefined before (unwrap_or o F5)
by_frame before at None h = absurd (untrue (first_kept _ [] h))
by_frame before at (Some (Of t)) h = (refl, first_kept _ [] h)
by_frame before at (Some F4) h = (refl, tt)
by_frame before at (Some F5) h = (refl, tt)

by_target : (before : List Rec) (at : ℕ) (o : Option TargetMethod) → AreKept (target_rules before at o) → IsSome o × TargetIsDefined before (unwrap_or o (T0 0))
by_target before at None h = absurd (untrue (first_kept _ [] h))
by_target before at (Some t) h = (refl, first_kept _ [] h)

some_from : {A B : Type 0} (f : A → B) (o : Option A) → IsSome (option_map f o) → IsSome o
some_from f (Some x) h = refl
some_from f None h = h

reference_holds : (before : List Rec) (earlier : List Subrecord) (r : Reference) → AreKept (reference_rules before earlier r) → ReferenceHolds before earlier r
reference_holds before earlier r h =
    let fs = frame_rules before (judged_at r r.frame) (frame_of earlier r) in
    let ts = target_rules before (judged_at r r.target) (target_of earlier r) in
    let f = by_frame before (judged_at r r.frame) (frame_of earlier r) (all_left IsKept fs ts h) in
    let t = by_target before (judged_at r r.target) (target_of earlier r) (all_right IsKept fs ts h) in
    record {
      frame_set = some_from frame_from (frame_setting earlier r) f.0;
      target_set = some_from target_from (target_setting earlier r) t.0;
      frame = f.1;
      target = t.1;
    }

-- Fixups.
by_location : (o : Option Contents) (within locat : ℕ) → IsTrue (location_rule o within locat).holds
    → (d : DataItem) × (o ≡ Some (Plain d)) × (location_offset locat + location_size (location_type locat) ≤ length d.bytes)
by_location None within locat h = absurd (untrue h)
by_location (Some (Plain d)) within locat h = (d, refl, leb-true (location_offset locat + location_size (location_type locat)) (length d.bytes) h)
by_location (Some (Names items)) within locat h = absurd (untrue h)
by_location (Some _) within locat h = absurd (untrue h)

fixup_holds : (before : List Rec) (earlier : List Subrecord) (within locat : ℕ) (r : Reference)
    → AreKept (location_rule (last_data before) within locat ∷ reference_rules before earlier r) → FixupHolds before earlier locat r
fixup_holds before earlier within locat r h =
    let l = by_location (last_data before) within locat (first_kept _ (reference_rules before earlier r) h) in
    record {
      data_record = l.0;
      last = l.1;
      inside = l.2;
      reference = reference_holds before earlier r (all_rest IsKept _ (reference_rules before earlier r) h);
    }

subrecord_holds : (before : List Rec) (done : List (At Subrecord)) (within : ℕ) (s : Subrecord) → AreKept (subrecord_rules before done (record { within = within; item = s }))
    → SubrecordHolds before (subrecords before ++ map (λ e. e.item) done) s
subrecord_holds before done within (Thread byte datum) h = tt
subrecord_holds before done within (Fixup locat r) h = fixup_holds before (subrecords before ++ map (λ e. e.item) done) within locat r h

-- The rules of one in the middle, after all before it.
kept_middle : {A : Type 0} (f : List A → A → List Rule) (front done rest : List A) (x : A) → AreKept (with_before f front (done ++ x ∷ rest)) → AreKept (f (front ++ done) x)
kept_middle f front [] rest x h = subst (λ xs. AreKept (f xs x)) (sym (append-nil front)) (all_left IsKept (f front x) (with_before f (front ++ x ∷ []) rest) h)
kept_middle f front (y ∷ done) rest x h =
    subst (λ xs. AreKept (f xs x)) (append_assoc front (y ∷ []) done)
    (kept_middle f (front ++ y ∷ []) done rest x (all_right IsKept (f front y) (with_before f (front ++ y ∷ []) (done ++ x ∷ rest)) h))

subrecords_hold : (before : List Rec) (subs : List (At Subrecord)) → AreKept (with_before (subrecord_rules before) [] subs) → SubrecordsHold before subs
subrecords_hold before subs h done rest s e =
    subrecord_holds before done s.within s.item (kept_middle (subrecord_rules before) [] done rest s (subst (λ xs. AreKept (with_before (subrecord_rules before) [] xs)) e h))

-- The start.
not_location : (f : FrameMethod) → IsTrue (not (is_location_frame (Some f))) → f ≢ F4
not_location f h e = untrue (subst (λ g. IsTrue (not (is_location_frame (Some g)))) e h)

not_location_of : (o : Option FrameMethod) → IsTrue (not (is_location_frame o)) → unwrap_or o F5 ≢ F4
not_location_of None h = not_location F5 refl
not_location_of (Some f) h = not_location f h

start_holds : (before : List Rec) (r : Reference) → AreKept (start_rules before (Some r)) → StartHolds before r
start_holds before r h =
    let rs = reference_rules before (subrecords before) r in
    record {
      reference = reference_holds before (subrecords before) r (all_left IsKept rs _ h);
      frame = not_location_of (frame_of (subrecords before) r) (first_kept _ [] (all_right IsKept rs _ h));
    }

-- Data.
data_holds : (before : List Rec) (d : DataItem) (size : ℕ) → length d.bytes ≤ 65534 → AreKept (data_rules before d size) → DataHolds before d size
data_holds before d size short h =
    let first : Rule = names_entry (length (segments before)) reason.UndefinedSegment d.segment in
    let second : Rule = rule (nat_le (d.offset.item + size) (length_of_segment before d.segment.item)) d.offset.within reason.OutsideSegment in
    record {
      segment = first_kept first (second ∷ []) h;
      inside = leb-true (d.offset.item + size) (length_of_segment before d.segment.item) (first_kept second [] (all_rest IsKept first (second ∷ []) h));
      short = short;
    }

-- Publics.
publics_hold : (before : List Rec) (p : PublicItems) → is_some p.frame ≡ (p.segment.item == 0)
    → AreKept (names_entry_or_none (length (groups before)) reason.UndefinedGroup p.group ∷ names_entry_or_none (length (segments before)) reason.UndefinedSegment p.segment ∷ []) → PublicsHold before p
publics_hold before p numbered h =
    let first : Rule = names_entry_or_none (length (groups before)) reason.UndefinedGroup p.group in
    let second : Rule = names_entry_or_none (length (segments before)) reason.UndefinedSegment p.segment in
    record {
      group = first_kept first (second ∷ []) h;
      segment = first_kept second [] (all_rest IsKept first (second ∷ []) h);
      frame = numbered;
    }

abbrev length_by : Limits → Result Blocks Fault → Result ℕ Fault
length_by limits r = length_or (blocks_size (blocks_or_none r)) (least (first_step (faults_of r ∷ broken (rule (nat_le (blocks_size (blocks_or_none r)) limits.expanded) 0 reason.DataTooLong ∷ []) ∷ [])))

ok_within : (n : ℕ) (b : Bool) → b ≡ true → IsOk (length_or n (least (first_step ([] ∷ broken (rule b 0 reason.DataTooLong ∷ []) ∷ []))))
ok_within n true e = refl
ok_within n false e = absurd (true≢false (sym e))

expands_from : (limits : Limits) (wide : ℕ) (bytes : List ℕ) (trees : Blocks) → AreBlocks wide limits bytes trees → IsOk (expanded_length wide limits bytes)
expands_from limits wide bytes trees (s, short) =
    let e = (blocks_whole wide limits.nesting).again 0 bytes trees s in
    subst (λ r. IsOk (length_by limits r)) (sym e) (ok_within (blocks_size trees) (nat_le (blocks_size trees) limits.expanded) (le-leb (blocks_size trees) limits.expanded short))

blocks_hold : (limits : Limits) (before : List Rec) (kind : ℕ) (d : DataItem) → length d.bytes ≤ 65534 → HasTrees limits kind (Iterated d)
    → AreKept (data_rules before d (blocks_size (blocks_of (width kind) limits d.bytes))) → BlocksHold limits before kind d
blocks_hold limits before kind d short (trees, t) h = record {
  expands = expands_from limits (width kind) d.bytes trees t;
  lies = subst (DataHolds before d) (sym (length-blocks_bytes (blocks_of (width kind) limits d.bytes))) (data_holds before d (blocks_size (blocks_of (width kind) limits d.bytes)) short h);
}

-- What contents say of their record: data have no more bytes than it has, a segment's length has 32 bits at most, publics have the number of a base frame
-- exactly where they name no segment.
abbrev IsBrief : ℕ → Contents → Type 0
IsBrief n (Segment s) = s.size < 2 ^ 32
IsBrief n (Publics p) = is_some p.frame ≡ (p.segment.item == 0)
IsBrief n (Plain d) = length d.bytes ≤ n
IsBrief n (Iterated d) = length d.bytes ≤ n
IsBrief n _ = ⊤

size_fits : (wide : Bool) (n : ℕ) (bytes : List ℕ) → IsLittle (cond wide 4 2) n bytes → n < 2 ^ 32
size_fits true n bytes h = little_fits 4 n bytes h
size_fits false n bytes h = let low : n < 256 ^ 2 = little_fits 2 n bytes h in omega (arith, low)

number_stands : (b : Bool) (at : ℕ) (bytes : List ℕ) (o : Option ℕ) → (when b (le 2)).Spells at bytes o → is_some o ≡ b
number_stands true at bytes o (n, s, e) = ap is_some e
number_stands false at bytes o (none, e) = ap is_some e

short_item : (wide : Bool) (at : ℕ) (bytes : List ℕ) (d : DataItem) → (data_item wide).Spells at bytes d → length d.bytes ≤ length bytes
short_item wide at bytes d (f1, b1, x1, p1, s1, (f2, b2, x2, p2, s2, (x, same, is))) =
    let first : length bytes ≡ length f1 + length b1 = ap length p1 ∙ length-append f1 b1 in
    let second : length b1 ≡ length f2 + length b2 = ap length p2 ∙ length-append f2 b2 in
    let rest : length d.bytes ≡ length b2 = ap (λ z. length z.bytes) is ∙ ap length same in
    omega (arith, rest, second, first)

are_brief : (kind at : ℕ) (bytes : List ℕ) (c : Contents) → IsLaidOut kind at bytes c → IsBrief (length bytes) c
are_brief kind at bytes (Segment s) (f1, b1, x1, p1, s1, (f2, b2, x2, p2, s2, (f3, b3, x3, p3, s3, (f4, b4, x4, p4, s4, (f5, b5, x5, p5, s5, (f6, b6, x6, p6, s6, (none, e))))))) =
    subst (IsBrief (length bytes)) (sym e) (size_fits (is_wide kind) x3 f3 s3.0)
are_brief kind at bytes (Publics p) (f1, b1, x1, p1, s1, (f2, b2, x2, p2, s2, (f3, b3, x3, p3, s3, (y, t, e)))) =
    subst (IsBrief (length bytes)) (sym e) (number_stands (x2.item == 0) (at + length f1 + length f2) f3 x3 s3)
are_brief kind at bytes (Plain d) h = short_item (is_wide kind) at bytes d h
are_brief kind at bytes (Iterated d) h = short_item (is_wide kind) at bytes d h
are_brief kind at bytes (Header name) h = tt
are_brief kind at bytes _ h = tt

-- A MODEND is one exactly by its type.
laid_no_end : (kind at : ℕ) (bytes : List ℕ) (c : Contents) → is_end kind ≡ false → IsLaidOut kind at bytes c → is_module_end c ≡ false
laid_no_end kind at bytes (ModEnd byte start) none (is, s) = absurd (true≢false (sym is ∙ none))
laid_no_end kind at bytes (Header name) none h = refl
laid_no_end kind at bytes _ none h = refl

is_no_end : (r : Raw) → is_end r.kind ≡ false → IsTyped (typed r) r.body → is_module_end (typed r).contents ≡ false
is_no_end r none s = laid_no_end r.kind 3 r.body (typed r).contents none (laid-out r.kind 3 r.body (typed r).contents s)

of_end : (wide : Bool) (body : List ℕ) (c : Contents) → (mod_end wide).Spells 3 body c → is_module_end c ≡ true
of_end wide body c (f1, b1, x1, p1, s1, (f2, b2, x2, p2, s2, (none, e))) = ap is_module_end e

is_the_end : (kind : ℕ) (body : List ℕ) (c : Contents) → is_end kind ≡ true → (contents kind).Spells 3 body c → is_module_end c ≡ true
is_the_end kind body c yes_end s = by (0x8A == kind) (0x8B == kind) refl refl yes_end
  where
    by : (a b : Bool) → (0x8A == kind) ≡ a → (0x8B == kind) ≡ b → is_end kind ≡ true → is_module_end c ≡ true
    by true b e f h = of_end false body c (subst (λ k. (contents k).Spells 3 body c) (sym (eqb-true 0x8A kind e)) s)
    by false true e f h = of_end true body c (subst (λ k. (contents k).Spells 3 body c) (sym (eqb-true 0x8B kind f)) s)
    by false false e f h = absurd (true≢false (sym h ∙ ap (λ x. x || ((0x8B == kind) || false)) e ∙ ap (λ x. false || (x || false)) f))

-- A segment has 2^32 bytes at most.
segment_fits : (kind : ℕ) (s : SegmentItem) → s.size < 2 ^ 32 → segment_length kind s ≤ 2 ^ 32
segment_fits kind s low = by (is_big s.attribute) (is_wide kind)
  where
    by : (big wide : Bool) → cond big (2 ^ (8 * cond wide 4 2)) s.size ≤ 2 ^ 32
    by true true = omega arith
    by true false = omega arith
    by false wide = omega (arith, low)

-- Segments and groups.
segment_holds : (before : List Rec) (kind : ℕ) (s : SegmentItem) → s.size < 2 ^ 32
    → AreKept (room table_limit (length (segments before)) (3 ∷ []) ++ names_entry_or_none (length (names before)) reason.UndefinedName s.name ∷ names_entry_or_none (length (names before)) reason.UndefinedName s.class ∷ []) → SegmentHolds before kind s
segment_holds before kind s low h =
    let first : Rule = names_entry_or_none (length (names before)) reason.UndefinedName s.name in
    let second : Rule = names_entry_or_none (length (names before)) reason.UndefinedName s.class in
    let both = all_right IsKept (room table_limit (length (segments before)) (3 ∷ [])) (first ∷ second ∷ []) h in
    record {
      name = first_kept first (second ∷ []) both;
      class = first_kept second [] (all_rest IsKept first (second ∷ []) both);
      short = segment_fits kind s low;
    }

members_hold : (n : ℕ) (ms : List (At (At ℕ))) → AreKept (map (λ m. names_entry n reason.UndefinedSegment m.item) ms) → All (λ m. is_defined n m.item.item ≡ true) ms
members_hold n [] h = All-nil (λ m. is_defined n m.item.item ≡ true)
members_hold n (m ∷ ms) h =
    let first : Rule = names_entry n reason.UndefinedSegment m.item in
    let others = map (λ x. names_entry n reason.UndefinedSegment x.item) ms in
    All-cons (λ x. is_defined n x.item.item ≡ true) m ms (first_kept first others h) (members_hold n ms (all_rest IsKept first others h))

group_holds : (before : List Rec) (g : GroupItem)
    → AreKept (room table_limit (length (groups before)) (3 ∷ []) ++ names_entry_or_none (length (names before)) reason.UndefinedName g.name ∷ map (λ m. names_entry (length (segments before)) reason.UndefinedSegment m.item) g.members) → GroupHolds before g
group_holds before g h =
    let first : Rule = names_entry_or_none (length (names before)) reason.UndefinedName g.name in
    let others = map (λ m. names_entry (length (segments before)) reason.UndefinedSegment m.item) g.members in
    let all = all_right IsKept (room table_limit (length (groups before)) (3 ∷ [])) (first ∷ others) h in
    record {
      name = first_kept first others all;
      members = members_hold (length (segments before)) g.members (all_rest IsKept first others all);
    }

-- The guarantees for the records of a module.
by_contents : (profile : Profile) (limits : Limits) (before : List Rec) (kind n : ℕ) (c : Contents) → n ≤ 65534 → IsBrief n c → HasTrees limits kind c
    → AreKept (contents_rules profile limits before kind c) → ContentsHold limits before kind c
by_contents profile limits before kind n (Plain d) short brief trees h = data_holds before d (length d.bytes) (omega (arith, brief, short)) h
by_contents profile limits before kind n (Iterated d) short brief trees h = blocks_hold limits before kind d (omega (arith, brief, short)) trees h
by_contents profile limits before kind n (Segment s) short brief trees h = segment_holds before kind s brief h
by_contents profile limits before kind n (Group g) short brief trees h = group_holds before g h
by_contents profile limits before kind n (Publics p) short brief trees h = publics_hold before p brief h
by_contents profile limits before kind n (Fixups subs) short brief trees h = subrecords_hold before subs h
by_contents profile limits before kind n (ModEnd byte None) short brief trees h = tt
by_contents profile limits before kind n (ModEnd byte (Some r)) short brief trees h = start_holds before r h
by_contents profile limits before kind n (Names items) short brief trees h = tt
by_contents profile limits before kind n _ short brief trees h = tt

-- A list of typed records, split, is that of records split.
record RecsSplit (records : List Raw) (before after : List Rec) (r : Rec) : Type 0 where
  earlier : List Raw
  later : List Raw
  raw : Raw
  parts : records ≡ earlier ++ raw ∷ later
  same_before : recs earlier ≡ before
  same : typed raw ≡ r

split_recs : (records : List Raw) (before after : List Rec) (r : Rec) → recs records ≡ before ++ r ∷ after → RecsSplit records before after r
split_recs [] [] after r e = absurd cc
split_recs [] (b ∷ before) after r e = absurd cc
split_recs (x ∷ records) [] after r e = record { earlier = []; later = records; raw = x; parts = refl; same_before = refl; same = head_same e }
  where
    head_same : typed x ∷ recs records ≡ r ∷ after → typed x ≡ r
    head_same h = cc
split_recs (x ∷ records) (b ∷ before) after r e =
    let s = split_recs records before after r (tail_same e) in
    record {
      earlier = x ∷ s.earlier;
      later = s.later;
      raw = s.raw;
      parts = ap (λ t. x ∷ t) s.parts;
      same_before = ap (λ t. typed x ∷ t) s.same_before ∙ ap (λ y. y ∷ before) (head_same e);
      same = s.same;
    }
  where
    tail_same : typed x ∷ recs records ≡ b ∷ (before ++ r ∷ after) → recs records ≡ before ++ r ∷ after
    tail_same h = cc

    head_same : typed x ∷ recs records ≡ b ∷ (before ++ r ∷ after) → typed x ≡ b
    head_same h = cc

abbrev IsSpelled : Raw → Type 0
IsSpelled r = IsTyped (typed r) r.body

abbrev HasBlocks : Limits → Raw → Type 0
HasBlocks limits r = HasTrees limits r.kind (typed r).contents

module _ (profile : Profile) (limits : Limits) (bytes : List ℕ) (records : List Raw) (w : IsWellRead profile limits bytes records) where
  raw_holds : (earlier later : List Raw) (r : Raw) → records ≡ earlier ++ r ∷ later → ContentsHold limits (recs earlier) r.kind (typed r).contents
  raw_holds earlier later r e =
      let c : Contents = (typed r).contents in
      let spelled : IsSpelled r = all_middle IsSpelled records earlier later r e w.spelled in
      let small : length r.body + 1 < 65536 = (all_middle IsRecord records earlier later r e w.framed.each).0 in
      let brief : IsBrief (length r.body) c = are_brief r.kind 3 r.body c (laid-out r.kind 3 r.body c spelled) in
      by_contents profile limits (recs earlier) r.kind (length r.body) c (omega (arith, small)) brief (all_middle (HasBlocks limits) records earlier later r e w.blocks)
      (all_right IsKept (room item_limit (item_count (recs earlier)) (item_places c)) (contents_rules profile limits (recs earlier) r.kind c) (w.kept earlier later r e))

  each_holds : (before after : List Rec) (r : Rec) → recs records ≡ before ++ r ∷ after → ContentsHold limits before r.kind r.contents
  each_holds before after r e =
      let s = split_recs records before after r e in
      subst (λ bs. ContentsHold limits bs r.kind r.contents) s.same_before
      (subst (λ x. ContentsHold limits (recs s.earlier) x.kind x.contents) s.same (raw_holds s.earlier s.later s.raw s.parts))

abbrev IsNoEnd : Rec → Type 0
IsNoEnd r = is_module_end r.contents ≡ false

not_true : (b : Bool) → IsTrue (not b) → b ≡ false
not_true true h = absurd (untrue h)
not_true false h = refl

no_end_in : (front : List Raw) → All IsSpelled front → All (λ r. IsTrue (not (is_end r.kind))) front → All IsNoEnd (recs front)
no_end_in [] s h = λ k d low. absurd (omega (arith, low))
no_end_in (x ∷ front) s h =
    let one : is_end x.kind ≡ false = not_true (is_end x.kind) (all_first (λ r. IsTrue (not (is_end r.kind))) x front h) in
    all_cons IsNoEnd (typed x) (recs front) (is_no_end x one (all_first IsSpelled x front s))
    (no_end_in front (all_rest IsSpelled x front s) (all_rest (λ r. IsTrue (not (is_end r.kind))) x front h))

pub module_holds : (profile : Profile) (limits : Limits) (bytes : List ℕ) (records : List Raw) → IsWellFormed profile limits bytes records → ModuleHolds limits (recs records)
module_holds profile limits bytes records m =
    let w = well-read profile limits bytes records m in
    let (front, end, e, is, others) = w.framed.last in
    let spelled : All IsSpelled (front ++ end ∷ []) = subst (All IsSpelled) e w.spelled in
    record {
      each = each_holds profile limits bytes records w;
      ends = (
        recs front,
        typed end,
        ap recs e ∙ map-append typed front (end ∷ []),
        is_the_end end.kind end.body (typed end).contents is (all_middle IsSpelled records front [] end e w.spelled),
        no_end_in front (all_left IsSpelled front (end ∷ []) spelled) others,
      );
    }
