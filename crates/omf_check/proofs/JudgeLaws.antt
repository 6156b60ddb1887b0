-- The fault computed from the state kept is the first fault of the rules.
use Rattle.std.proofs.Common.{◌≡◌, ℕ, suc, ◌+◌, ◌-◌, ◌≤◌, Bool, List, [], ◌∷◌, ◌++◌, refl, sym, ◌∙◌, ap, subst, arith, length, map, append_assoc, inl, inr}
use Rattle.std.specs.Prelude.{Option, Some, None, option_map, not, nat_lt, nat_le}
use Rattle.std.specs.List.{enumerate_from}
use Rattle.std.proofs.lemmas.Bool.Decides.{leb_tells}
use Rattle.std.proofs.lemmas.Bool.{le-leb}
use Rattle.std.proofs.lemmas.List.{append-nil, map-append}
use Rattle.omf_frame.specs.Bytes.{with_before}
use Rattle.omf_frame.specs.Fault.{Fault, Rule, rule}
use Rattle.omf_frame.specs.declared.fault.Reason.{Reason}
use Rattle.omf_frame.specs.declared.fault.Reason.TheVariants as reason
use Rattle.omf_records.specs.Values.{At, Rec, Contents, Header, Comment, Names, Segment, Group, Externs, Publics, Communals, Plain, Iterated, Fixups, ModEnd, Carried, DataItem, Subrecord, Thread, Fixup, Reference, width}
use Rattle.omf_image.specs.Blocks.{blocks_size}
use Rattle.omf_image.specs.Inner.Expanding.{blocks_of}
use Rattle.omf_image.specs.declared.limits.Limits.{Limits}
use Rattle.omf_check.specs.Inner.Names.{subrecord_rules}
use Rattle.omf_check.specs.declared.profile.Profile.{Profile}
use Rattle.omf_check.specs.declared.threads.Threads.{Threads}
use Rattle.omf_check.specs.declared.segment.SegInfo.{SegInfo}
use Rattle.omf_check.specs.Tables.{names, segments, groups, externals, item_count, subrecords, last_data, entries, is_defined, is_none_or_defined}
use Rattle.omf_check.specs.Threads.{Kind, FrameMethod, Of, F4, F5, TargetMethod, frame_of, target_of}
use Rattle.omf_records.specs.declared.method.Kind.TheVariants as kinds
use Rattle.omf_check.specs.Rules.{table_limit, item_limit, room, places, item_places, names_entry, names_entry_or_none, data_rules, frame_rules, target_rules, judged_at, reference_rules, location_rule, subrecord_rules_at, is_location_frame, start_rules, contents_rules, rules, undefined}
use Rattle.omf_check.specs.Inner.Kept.{Kept, Tells, HasThreads, set_thread, last_kept}
use Rattle.omf_check.specs.Inner.Judging.{fault_unless, lesser, room_fault, optional_fault, kept_length, data_fault, kept_entries, frame_fault, target_fault, frame_cell, reference_fault, location_fault, subrecord_fault, subrecords_fault, start_fault, members_fault, contents_fault}
use Rattle.omf_check.proofs.Lesser.{fault_of, fault_append, fault_one, fault_cons}
use Rattle.omf_check.proofs.KeptLaws.{threads_more}
use Rattle.omf_check.proofs.ThreadLaws.{frame_kept, target_kept}

-- Room.
has_room : (taken limit : ℕ) → nat_lt taken limit ≡ nat_lt 0 (limit - taken)
has_room taken limit = elim (leb_tells (suc taken) limit) [
  | inl t ↦ let more : 1 ≤ limit - taken = omega (arith, t.1) in t.0 ∙ sym (le-leb 1 (limit - taken) more)
  | inr t ↦ elim (leb_tells 1 (limit - taken)) [ inl s ↦ absurd (omega (arith, s.1, t.1)) | inr s ↦ t.0 ∙ sym s.0 ]
]

one_room : (limit taken : ℕ) → ℕ × ℕ → Rule
one_room limit taken p = rule (nat_lt (taken + p.0) limit) p.1 reason.TooMany

room_from : (limit taken k : ℕ) (ps : List ℕ) → fault_of (map (λ p. rule (nat_lt (taken + p.0) limit) p.1 reason.TooMany) (enumerate_from k ps)) ≡ room_fault (limit - (taken + k)) ps
room_from limit taken k [] = refl
room_from limit taken k (p ∷ ps) =
    let less : limit - (taken + (k + 1)) ≡ limit - (taken + k) - 1 = omega arith in
    fault_cons (nat_lt (taken + k) limit) p reason.TooMany (map (λ q. rule (nat_lt (taken + q.0) limit) q.1 reason.TooMany) (enumerate_from (k + 1) ps))
    ∙ ap (λ o. lesser (fault_unless (nat_lt (taken + k) limit) p reason.TooMany) o) (room_from limit taken (k + 1) ps ∙ ap (λ n. room_fault n ps) less)
    ∙ ap (λ b. lesser (fault_unless b p reason.TooMany) (room_fault (limit - (taken + k) - 1) ps)) (has_room (taken + k) limit)

pub room_law : (limit taken kept : ℕ) (ps : List ℕ) → kept ≡ taken → fault_of (room limit taken ps) ≡ room_fault (limit - kept) ps
room_law limit taken kept ps e =
    let none : taken + 0 ≡ kept = omega (arith, e) in
    room_from limit taken 0 ps ∙ ap (λ n. room_fault (limit - n) ps) none

one_law : (limit taken kept p : ℕ) → kept ≡ taken → fault_of (room limit taken (p ∷ [])) ≡ fault_unless (nat_lt kept limit) p reason.TooMany
one_law limit taken kept p e =
    let none : taken + 0 ≡ kept = omega (arith, e) in
    fault_one (nat_lt (taken + 0) limit) p reason.TooMany ∙ ap (λ n. fault_unless (nat_lt n limit) p reason.TooMany) none

-- Frames and targets.
module _ (kept : Kept) (before : List Rec) (tells : Tells kept before) where
  segments_same : length (segments before) ≡ length kept.segments
  segments_same = ap length (sym tells.segments)

  entries_same : (k : Kind) → entries before k ≡ kept_entries kept k
  entries_same kinds.Segment = segments_same
  entries_same kinds.Group = sym tells.groups
  entries_same kinds.External = sym tells.externals

  target_law : (at : ℕ) (o : Option TargetMethod) → fault_of (target_rules before at o) ≡ target_fault kept at o
  target_law at None = refl
  target_law at (Some t) = fault_one (is_defined (entries before t.kind) t.index) at (undefined t.kind)
      ∙ ap (λ n. fault_unless (is_defined n t.index) at (undefined t.kind)) (entries_same t.kind)

  frame_law : (at : ℕ) (o : Option FrameMethod) → fault_of (frame_rules before at o) ≡ frame_fault kept at o
  frame_law at None = refl
  frame_law at (Some (Of t)) = target_law at (Some t)
  frame_law at (Some F4) = refl
  frame_law at (Some F5) = refl

  reference_law : (cells : Threads) (earlier : List Subrecord) (r : Reference) → HasThreads cells earlier → fault_of (reference_rules before earlier r) ≡ reference_fault kept cells r
  reference_law cells earlier r h =
      fault_append (frame_rules before (judged_at r r.frame) (frame_of earlier r)) (target_rules before (judged_at r r.target) (target_of earlier r))
      ∙ ap (λ o. lesser o (fault_of (target_rules before (judged_at r r.target) (target_of earlier r))))
      (frame_law (judged_at r r.frame) (frame_of earlier r) ∙ ap (frame_fault kept (judged_at r r.frame)) (sym (frame_kept cells earlier r h)))
      ∙ ap (λ o. lesser (frame_fault kept (judged_at r r.frame) (frame_cell cells r)) o)
      (target_law (judged_at r r.target) (target_of earlier r) ∙ ap (target_fault kept (judged_at r r.target)) (sym (target_kept cells earlier r h)))

  -- Locations and subrecords.
  by_last : (o : Option Contents) (within locat : ℕ) → fault_of (location_rule o within locat ∷ []) ≡ location_fault (option_map last_kept o) within locat
  by_last None within locat = refl
  by_last (Some (Plain d)) within locat = fault_one _ within reason.OutsideRecord
  by_last (Some (Names items)) within locat = refl
  by_last (Some _) within locat = refl

  location_law : (within locat : ℕ) → fault_of (location_rule (last_data before) within locat ∷ []) ≡ location_fault kept.last within locat
  location_law within locat = by_last (last_data before) within locat ∙ ap (λ o. location_fault o within locat) (sym tells.last)

  subrecord_law : (cells : Threads) (earlier : List Subrecord) (within : ℕ) (s : Subrecord) → HasThreads cells (subrecords before ++ earlier)
      → fault_of (subrecord_rules_at before earlier within s) ≡ subrecord_fault kept cells within s
  subrecord_law cells earlier within (Thread byte datum) h = refl
  subrecord_law cells earlier within (Fixup locat r) h =
      fault_append (location_rule (last_data before) within locat ∷ []) (reference_rules before (subrecords before ++ earlier) r)
      ∙ ap (λ o. lesser o (fault_of (reference_rules before (subrecords before ++ earlier) r))) (location_law within locat)
      ∙ ap (lesser (location_fault kept.last within locat)) (reference_law cells (subrecords before ++ earlier) r h)

  items_of : List (At Subrecord) → List Subrecord
  items_of done = map (λ e. e.item) done

  subrecords_law : (cells : Threads) (done subs : List (At Subrecord)) → HasThreads cells (subrecords before ++ map (λ e. e.item) done)
      → fault_of (with_before (subrecord_rules before) done subs) ≡ subrecords_fault kept cells subs
  subrecords_law cells done [] h = refl
  subrecords_law cells done (s ∷ subs) h =
      let more : HasThreads (set_thread cells s.item) (subrecords before ++ map (λ e. e.item) (done ++ s ∷ []))
      = subst (λ x. HasThreads (set_thread cells s.item) x)
      (append_assoc (subrecords before) (map (λ e. e.item) done) (s.item ∷ []) ∙ ap (λ x. subrecords before ++ x) (sym (map-append (λ e. e.item) done (s ∷ []))))
      (threads_more cells (subrecords before ++ map (λ e. e.item) done) s.item h) in
      fault_append (subrecord_rules before done s) (with_before (subrecord_rules before) (done ++ s ∷ []) subs)
      ∙ ap (λ o. lesser o (fault_of (with_before (subrecord_rules before) (done ++ s ∷ []) subs))) (subrecord_law cells (map (λ e. e.item) done) s.within s.item h)
      ∙ ap (lesser (subrecord_fault kept cells s.within s.item)) (subrecords_law (set_thread cells s.item) (done ++ s ∷ []) subs more)

  -- The start.
  start_law : (start : Option Reference) → fault_of (start_rules before start) ≡ start_fault kept start
  start_law None = refl
  start_law (Some r) =
      let last_rule : Rule = rule (not (is_location_frame (frame_of (subrecords before) r))) r.fix.within reason.StartFrame in
      fault_append (reference_rules before (subrecords before) r) (last_rule ∷ [])
      ∙ ap (λ o. lesser o (fault_of (last_rule ∷ []))) (reference_law kept.threads (subrecords before) r tells.threads)
      ∙ ap (lesser (reference_fault kept kept.threads r)) (fault_one (not (is_location_frame (frame_of (subrecords before) r))) r.fix.within reason.StartFrame
      ∙ ap (λ o. fault_unless (not (is_location_frame o)) r.fix.within reason.StartFrame) (sym (frame_kept kept.threads (subrecords before) r tells.threads)))

  -- The other kinds.
  members_law : (members : List (At (At ℕ))) → fault_of (map (λ m. names_entry (length (segments before)) reason.UndefinedSegment m.item) members) ≡ members_fault (length kept.segments) members
  members_law [] = refl
  members_law (m ∷ members) =
      fault_cons (is_defined (length (segments before)) m.item.item) m.item.within reason.UndefinedSegment (map (λ x. names_entry (length (segments before)) reason.UndefinedSegment x.item) members)
      ∙ ap (lesser (fault_unless (is_defined (length (segments before)) m.item.item) m.item.within reason.UndefinedSegment)) (members_law members)
      ∙ ap (λ n. lesser (fault_unless (is_defined n m.item.item) m.item.within reason.UndefinedSegment) (members_fault (length kept.segments) members)) segments_same

  two_law : (a b : Bool) (v w : ℕ) (r s : Reason) → fault_of (rule a v r ∷ rule b w s ∷ []) ≡ lesser (fault_unless a v r) (fault_unless b w s)
  two_law a b v w r s = fault_cons a v r (rule b w s ∷ []) ∙ ap (lesser (fault_unless a v r)) (fault_one b w s)

  data_law : (d : DataItem) (size : ℕ) → fault_of (data_rules before d size) ≡ data_fault kept d.segment d.offset size
  data_law d size =
      two_law _ _ d.segment.within d.offset.within reason.UndefinedSegment reason.OutsideSegment
      ∙ ap (λ (xs : List SegInfo). lesser (fault_unless (is_defined (length xs) d.segment.item) d.segment.within reason.UndefinedSegment)
      (fault_unless (nat_le (d.offset.item + size) (kept_length xs d.segment.item)) d.offset.within reason.OutsideSegment)) (sym tells.segments)

  optional_two : (m n p q : ℕ) (r s : Reason) (x y : At ℕ) → m ≡ p → n ≡ q → fault_of (names_entry_or_none p r x ∷ names_entry_or_none q s y ∷ []) ≡ lesser (optional_fault m r x) (optional_fault n s y)
  optional_two m n p q r s x y e f =
      two_law _ _ x.within y.within r s ∙ ap (λ k. lesser (optional_fault k r x) (optional_fault q s y)) (sym e) ∙ ap (λ k. lesser (optional_fault m r x) (optional_fault k s y)) (sym f)

  one_then : (taken there : ℕ) (rs : List Rule) (o : Option Fault) → there ≡ taken → fault_of rs ≡ o
      → fault_of (room table_limit taken (3 ∷ []) ++ rs) ≡ lesser (fault_unless (nat_lt there table_limit) 3 reason.TooMany) o
  one_then taken there rs o e h =
      fault_append (room table_limit taken (3 ∷ [])) rs ∙ ap (λ x. lesser x (fault_of rs)) (one_law table_limit taken there 3 e)
      ∙ ap (lesser (fault_unless (nat_lt there table_limit) 3 reason.TooMany)) h

  group_law : (name : At ℕ) (members : List (At (At ℕ)))
      → fault_of (names_entry_or_none (length (names before)) reason.UndefinedName name ∷ map (λ m. names_entry (length (segments before)) reason.UndefinedSegment m.item) members)
      ≡ lesser (optional_fault (length kept.names) reason.UndefinedName name) (members_fault (length kept.segments) members)
  group_law name members =
      fault_cons (is_none_or_defined (length (names before)) name.item) name.within reason.UndefinedName (map (λ m. names_entry (length (segments before)) reason.UndefinedSegment m.item) members)
      ∙ ap (lesser (optional_fault (length (names before)) reason.UndefinedName name)) (members_law members)
      ∙ ap (λ n. lesser (optional_fault n reason.UndefinedName name) (members_fault (length kept.segments) members)) (sym tells.names)

  -- the size of a data record's data
  abbrev HasSize : Limits → ℕ → Contents → ℕ → Type 0
  HasSize limits kind (Plain d) size = size ≡ length d.bytes
  HasSize limits kind (Iterated d) size = size ≡ blocks_size (blocks_of (width kind) limits d.bytes)
  HasSize limits kind _ size = Unit {0}

  contents_law : (profile : Profile) (limits : Limits) (kind size : ℕ) (c : Contents) → HasSize limits kind c size → fault_of (contents_rules profile limits before kind c) ≡ contents_fault profile kept size c
  contents_law profile limits kind size (Header name) h = refl
  contents_law profile limits kind size (Comment byte class text) h = two_law _ _ 4 4 reason.OtherDialect reason.VendorComment
  contents_law profile limits kind size (Names items) h = room_law table_limit (length (names before)) (length kept.names) (places items) tells.names
  contents_law profile limits kind size (Segment s) h =
      one_then (length (segments before)) (length kept.segments) (names_entry_or_none (length (names before)) reason.UndefinedName s.name ∷ names_entry_or_none (length (names before)) reason.UndefinedName s.class ∷ [])
      (lesser (optional_fault (length kept.names) reason.UndefinedName s.name) (optional_fault (length kept.names) reason.UndefinedName s.class)) (sym segments_same) (optional_two (length kept.names) (length kept.names) (length (names before)) (length (names before)) reason.UndefinedName reason.UndefinedName s.name s.class tells.names tells.names)
  contents_law profile limits kind size (Group g) h = one_then (length (groups before)) (length kept.groups) (names_entry_or_none (length (names before)) reason.UndefinedName g.name ∷ map (λ m. names_entry (length (segments before)) reason.UndefinedSegment m.item) g.members)
      (lesser (optional_fault (length kept.names) reason.UndefinedName g.name) (members_fault (length kept.segments) g.members)) tells.groups (group_law g.name g.members)
  contents_law profile limits kind size (Externs items) h = room_law table_limit (length (externals before)) (length kept.externals) (places items) tells.externals
  contents_law profile limits kind size (Publics p) h = optional_two (length kept.groups) (length kept.segments) (length (groups before)) (length (segments before)) reason.UndefinedGroup reason.UndefinedSegment p.group p.segment tells.groups (sym segments_same)
  contents_law profile limits kind size (Communals items) h = room_law table_limit (length (externals before)) (length kept.externals) (places items) tells.externals
  contents_law profile limits kind size (Plain d) h = data_law d (length d.bytes) ∙ ap (data_fault kept d.segment d.offset) (sym h)
  contents_law profile limits kind size (Iterated d) h = data_law d (blocks_size (blocks_of (width kind) limits d.bytes)) ∙ ap (data_fault kept d.segment d.offset) (sym h)
  contents_law profile limits kind size (Fixups subs) h = subrecords_law kept.threads [] subs (subst (λ x. HasThreads kept.threads x) (sym (append-nil (subrecords before))) tells.threads)
  contents_law profile limits kind size (ModEnd byte start) h = start_law start
  contents_law profile limits kind size (Carried bytes) h = refl

  -- The rules of a record.
  pub rules_law : (profile : Profile) (limits : Limits) (r : Rec) (size : ℕ) → HasSize limits r.kind r.contents size
      → fault_of (rules profile limits before r) ≡ lesser (room_fault (item_limit - kept.items) (item_places r.contents)) (contents_fault profile kept size r.contents)
  rules_law profile limits r size h =
      fault_append (room item_limit (item_count before) (item_places r.contents)) (contents_rules profile limits before r.kind r.contents)
      ∙ ap (λ o. lesser o (fault_of (contents_rules profile limits before r.kind r.contents))) (room_law item_limit (item_count before) kept.items (item_places r.contents) tells.items)
      ∙ ap (lesser (room_fault (item_limit - kept.items) (item_places r.contents))) (contents_law profile limits r.kind size r.contents h)
