-- Faults of layouts, of blocks and of rules have reasons from 8 on: those of 1 to 7 are of framing alone.
use Rattle.std.proofs.Common.{◌≡◌, ℕ, zero, suc, ◌+◌, ◌-◌, ◌<◌, Bool, true, false, cond, List, [], ◌∷◌, Option, Some, None, Result, Ok, Err, refl, sym, subst, inl, inr, length, lit<, arith}
use Rattle.std.specs.Prelude.{⊤, ◌==◌, nat_lt, nat_le}
use Rattle.omf_frame.specs.Bytes.{AreBytes}
use Rattle.omf_frame.specs.Fault.{Fault, reason_number, is_before, rule, broken, least, first_step}
use Rattle.omf_frame.specs.declared.fault.Reason.{Reason}
use Rattle.omf_frame.specs.declared.fault.Reason.TheVariants as reason
use Rattle.omf_records.specs.Layout.{Layout, ◌>>=◌, give, many, times, field, field_or, name, le, IsIn, checked, called, choose}
use Rattle.omf_records.specs.Inner.Reading.{read_body}
use Rattle.omf_records.specs.Inner.RecordReaders.{contents_whole}
use Rattle.omf_records.proofs.ReasonLaws.{layout_inner}
use Rattle.omf_records.specs.Values.{At, Contents, Comment, Names, Segment, Group, Externs, Publics, Communals, Plain, Iterated, Fixups, ModEnd, Header, Subrecord, Thread, Fixup, Reference, width}
use Rattle.omf_image.specs.Inner.Names.{too_deep}
use Rattle.omf_image.specs.Blocks.{Blocks, block, blocks, Repeat, Nest, gathered, blocks_size}
use Rattle.omf_image.specs.Inner.BlockReaders.{blocks_whole}
use Rattle.omf_image.specs.Inner.Expanding.{read_blocks, blocks_of, faults_of, length_or, expanded_length}
use Rattle.omf_image.specs.declared.limits.Limits.{Limits}
use Rattle.omf_check.specs.declared.last_data.LastData.{LastData}
use Rattle.omf_check.specs.declared.last_data.LastData.TheVariants as last
use Rattle.omf_check.specs.declared.profile.Profile.{Profile}
use Rattle.omf_check.specs.declared.threads.Threads.{Threads}
use Rattle.omf_check.specs.Inner.Judging.{fault_moved as placed_at}
use Rattle.omf_check.specs.Inner.Judging.{fault_unless, lesser, room_fault, entry_fault, members_fault, index_fault, frame_fault, target_fault, frame_cell, target_cell, reference_fault, location_fault, subrecord_fault, subrecords_fault, start_fault, contents_fault, data_size, judged_by_size, raw_fault, read_fault}
use Rattle.omf_check.specs.Inner.Kept.{Kept, set_thread}
use Rattle.omf_check.specs.Rules.{undefined, table_limit, item_limit, places, item_places}
use Rattle.omf_check.specs.Threads.{Kind, FrameMethod, Of, F4, F5, TargetMethod}
use Rattle.omf_records.specs.declared.method.Kind.TheVariants as kinds
use Rattle.omf_check.proofs.ShortLaws.{HasBytes, spelled_bytes}

abbrev pub IsInner : Reason → Type 0
IsInner r = 7 < reason_number r

AllInner : List Reason → Type 0
AllInner rs = (r : Reason) → IsIn r rs → IsInner r

one_inner : (r : Reason) → IsInner r → AllInner (r ∷ [])
unfolding AllInner
one_inner r h s (inl e) = subst IsInner (sym e) h
one_inner r h s (inr i) = absurd i

-- Layouts.
Inner : {A : Type 0} → Layout A → Type 0
Inner p = (at : ℕ) (bytes : List ℕ) (e : Fault) → p.Faults at bytes e → IsInner e.reason

then_inner : {A B : Type 0} (p : Layout A) (f : A → Layout B) → Inner p → ((x : A) → Inner (f x)) → Inner (p >>= f)
unfolding Inner
then_inner p f h k at bytes e (inl q) = h at bytes e q
then_inner p f h k at bytes e (inr (front, back, x, parts, sp, q)) = k x (at + length front) back e q

give_inner : {A : Type 0} (x : A) → Inner (give x)
unfolding Inner
give_inner x at bytes e q = absurd q

many_inner : {A : Type 0} (p : Layout A) → Inner p → Inner (many p)
unfolding Inner
many_inner p h at bytes e (front, back, xs, parts, some, sp, q) = h (at + length front) back e q

field_inner : {A : Type 0} (why : List ℕ → Reason) (P : A → List ℕ → Type 0) → ((bytes : List ℕ) → IsInner (why bytes)) → Inner (field_or why P)
unfolding Inner
field_inner why P h at bytes e (is, none) = subst (λ (f : Fault). IsInner f.reason) (sym is) (h bytes)

short_inner : {A : Type 0} (P : A → List ℕ → Type 0) → Inner (field P)
short_inner P = field_inner (λ bytes. reason.Short) P (λ bytes. lit< tt)

checked_inner : {A : Type 0} (p : Layout A) (refused : A → List Reason) → Inner p → ((x : A) → AllInner (refused x)) → Inner (checked p refused)
unfolding Inner AllInner
checked_inner p refused h k at bytes e (inl q) = h at bytes e q
checked_inner p refused h k at bytes e (inr (front, back, x, parts, sp, w, i)) = k x e.reason i

called_inner : {A B : Type 0} (p : Layout A) (f : A → B) → Inner p → Inner (called p f)
unfolding Inner
called_inner p f h = h

choose_inner : {A : Type 0} (b : Bool) (p q : Layout A) → Inner p → Inner q → Inner (choose b p q)
unfolding Inner
choose_inner true p q h k = h
choose_inner false p q h k = k

times_inner : {A : Type 0} (n : ℕ) (p : Layout A) → Inner p → Inner (times n p)
times_inner zero p h = give_inner []
times_inner (suc n) p h = then_inner p _ h (λ x. then_inner (times n p) _ (times_inner n p h) (λ xs. give_inner (x ∷ xs)))

-- Fields and entries.
name_inner : Inner name
name_inner = short_inner _

le_inner : (k : ℕ) → Inner (le k)
le_inner k = short_inner _

-- Blocks.
block_inner : (width levels : ℕ) → Inner (block width levels)
block_inner width zero = called_inner (checked (le width) too_deep) (λ count. Repeat count []) (checked_inner (le width) too_deep (le_inner width) (λ count. one_inner reason.TooDeep (lit< tt)))
block_inner width (suc levels) =
    then_inner _ _ (le_inner width) (λ count. then_inner _ _ (le_inner 2) (λ n.
    choose_inner (n == 0) (called name (λ bytes. Repeat count bytes)) (called (times n (block width levels)) (λ bs. Nest count (gathered bs)))
    (called_inner name (λ bytes. Repeat count bytes) name_inner) (called_inner (times n (block width levels)) (λ bs. Nest count (gathered bs)) (times_inner n (block width levels) (block_inner width levels)))))

blocks_inner : (width levels : ℕ) → Inner (blocks width levels)
blocks_inner width levels = called_inner _ _ (many_inner (block width levels) (block_inner width levels))

-- Readings and rules.
SizeInner : Result ℕ Fault → Type 0
SizeInner (Ok n) = ⊤
SizeInner (Err f) = IsInner f.reason

pub FaultInner : Option Fault → Type 0
FaultInner None = ⊤
FaultInner (Some f) = IsInner f.reason

by_size : (n : ℕ) (r : Result Blocks Fault) (b : Bool) → ((e : Fault) → r ≡ Err e → IsInner e.reason)
    → SizeInner (length_or n (least (first_step (faults_of r ∷ broken (rule b 0 reason.DataTooLong ∷ []) ∷ []))))
unfolding SizeInner
by_size n (Err e) b h = h e refl
by_size n (Ok trees) true h = tt
by_size n (Ok trees) false h = lit< tt

expanded_inner : (width : ℕ) (limits : Limits) (bytes : List ℕ) → AreBytes bytes → SizeInner (expanded_length width limits bytes)
unfolding Inner
expanded_inner width limits bytes small =
    by_size (blocks_size (blocks_of width limits bytes)) (read_blocks width limits.nesting bytes) (nat_le (blocks_size (blocks_of width limits bytes)) limits.expanded)
    (λ e is. blocks_inner width limits.nesting 0 bytes e ((blocks_whole width limits.nesting).err 0 bytes e small is))

pub inner_of : (f : Fault) → FaultInner (Some f) → IsInner f.reason
unfolding FaultInner
inner_of f h = h

none_inner : FaultInner None
unfolding FaultInner
none_inner = tt

lesser_inner : (a b : Option Fault) → FaultInner a → FaultInner b → FaultInner (lesser a b)
unfolding FaultInner
lesser_inner None b h k = k
lesser_inner (Some f) None h k = h
lesser_inner (Some f) (Some g) h k = by (is_before f g)
  where
    by : (c : Bool) → FaultInner (cond c (Some f) (Some g))
    by true = h
    by false = k

rule_inner : (b : Bool) (within : ℕ) (r : Reason) → IsInner r → FaultInner (fault_unless b within r)
unfolding FaultInner
rule_inner true within r h = tt
rule_inner false within r h = h

if_fault : (b : Bool) (x y : Option Fault) → FaultInner x → FaultInner y → FaultInner (cond b x y)
unfolding FaultInner
if_fault true x y h k = h
if_fault false x y h k = k

room_inner : (left : ℕ) (ps : List ℕ) → FaultInner (room_fault left ps)
unfolding FaultInner
room_inner left [] = tt
room_inner left (p ∷ ps) = lesser_inner (fault_unless (nat_lt 0 left) p reason.TooMany) (room_fault (left - 1) ps) (rule_inner _ p reason.TooMany (lit< tt)) (room_inner (left - 1) ps)

members_inner : (n : ℕ) (members : List (At (At ℕ))) → FaultInner (members_fault n members)
unfolding FaultInner
members_inner n [] = tt
members_inner n (m ∷ members) = lesser_inner (entry_fault n reason.UndefinedSegment m.item) (members_fault n members) (rule_inner _ _ reason.UndefinedSegment (lit< tt)) (members_inner n members)

undefined_inner : (k : Kind) → IsInner (undefined k)
undefined_inner kinds.Segment = lit< tt
undefined_inner kinds.Group = lit< tt
undefined_inner kinds.External = lit< tt

module _ (kept : Kept) where
  index_fault_inner : (at : ℕ) (t : TargetMethod) → FaultInner (index_fault kept at t)
  index_fault_inner at t = rule_inner _ at (undefined t.kind) (undefined_inner t.kind)

  frame_inner : (at : ℕ) (f : Option FrameMethod) → FaultInner (frame_fault kept at f)
  unfolding FaultInner
  frame_inner at None = lit< tt
  frame_inner at (Some (Of t)) = index_fault_inner at t
  frame_inner at (Some F4) = tt
  frame_inner at (Some F5) = tt

  target_inner : (at : ℕ) (t : Option TargetMethod) → FaultInner (target_fault kept at t)
  unfolding FaultInner
  target_inner at None = lit< tt
  target_inner at (Some t) = index_fault_inner at t

  refers_inner : (cells : Threads) (r : Reference) → FaultInner (reference_fault kept cells r)
  refers_inner cells r = lesser_inner _ _ (frame_inner _ (frame_cell cells r)) (target_inner _ (target_cell cells r))

  location_inner : (o : Option LastData) (within locat : ℕ) → FaultInner (location_fault o within locat)
  unfolding FaultInner
  location_inner None within locat = lit< tt
  location_inner (Some last.Iterated) within locat = lit< tt
  location_inner (Some (last.Plain n)) within locat = rule_inner _ within reason.OutsideRecord (lit< tt)

  part_inner : (cells : Threads) (within : ℕ) (s : Subrecord) → FaultInner (subrecord_fault kept cells within s)
  unfolding FaultInner
  part_inner cells within (Thread first datum) = tt
  part_inner cells within (Fixup locat r) = lesser_inner (location_fault kept.last within locat) (reference_fault kept cells r) (location_inner kept.last within locat) (refers_inner cells r)

  parts_inner : (cells : Threads) (subs : List (At Subrecord)) → FaultInner (subrecords_fault kept cells subs)
  unfolding FaultInner
  parts_inner cells [] = tt
  parts_inner cells (s ∷ subs) = lesser_inner (subrecord_fault kept cells s.within s.item) _ (part_inner cells s.within s.item) (parts_inner (set_thread cells s.item) subs)

  start_inner : (o : Option Reference) → FaultInner (start_fault kept o)
  unfolding FaultInner
  start_inner None = tt
  start_inner (Some r) = lesser_inner (reference_fault kept kept.threads r) _ (refers_inner kept.threads r) (rule_inner _ r.fix.within reason.StartFrame (lit< tt))

  meaning_inner : (profile : Profile) (size : ℕ) (c : Contents) → FaultInner (contents_fault profile kept size c)
  meaning_inner profile size (Header text) = none_inner
  meaning_inner profile size (Comment first class text) = lesser_inner _ _ (rule_inner _ 4 reason.OtherDialect (lit< tt)) (rule_inner _ 4 reason.VendorComment (lit< tt))
  meaning_inner profile size (Names items) = room_inner (table_limit - length kept.names) (places items)
  meaning_inner profile size (Segment s) =
      lesser_inner _ _ (rule_inner _ 3 reason.TooMany (lit< tt)) (lesser_inner _ _ (rule_inner _ s.name.within reason.UndefinedName (lit< tt)) (rule_inner _ s.class.within reason.UndefinedName (lit< tt)))
  meaning_inner profile size (Group g) =
      lesser_inner _ _ (rule_inner _ 3 reason.TooMany (lit< tt)) (lesser_inner _ _ (rule_inner _ g.name.within reason.UndefinedName (lit< tt)) (members_inner _ g.members))
  meaning_inner profile size (Externs items) = room_inner (table_limit - length kept.externals) (places items)
  meaning_inner profile size (Publics p) = lesser_inner _ _ (rule_inner _ p.group.within reason.UndefinedGroup (lit< tt)) (rule_inner _ p.segment.within reason.UndefinedSegment (lit< tt))
  meaning_inner profile size (Communals items) = room_inner (table_limit - length kept.externals) (places items)
  meaning_inner profile size (Plain d) = lesser_inner _ _ (rule_inner _ d.segment.within reason.UndefinedSegment (lit< tt)) (rule_inner _ d.offset.within reason.OutsideSegment (lit< tt))
  meaning_inner profile size (Iterated d) = lesser_inner _ _ (rule_inner _ d.segment.within reason.UndefinedSegment (lit< tt)) (rule_inner _ d.offset.within reason.OutsideSegment (lit< tt))
  meaning_inner profile size (Fixups subs) = parts_inner kept.threads subs
  meaning_inner profile size (ModEnd first start) = start_inner start
  meaning_inner profile size _ = none_inner

  by_data : (profile : Profile) (c : Contents) (r : Result ℕ Fault) → SizeInner r → FaultInner (judged_by_size profile kept c r)
  unfolding SizeInner FaultInner
  by_data profile c (Err f) h = h
  by_data profile c (Ok size) h = lesser_inner (room_fault (item_limit - kept.items) (item_places c)) (contents_fault profile kept size c) (room_inner (item_limit - kept.items) (item_places c)) (meaning_inner profile size c)

  by_bytes : (profile : Profile) (limits : Limits) (kind : ℕ) (c : Contents) → HasBytes c → SizeInner (data_size limits kind c)
  unfolding SizeInner
  by_bytes profile limits kind (Iterated d) small = placed_inner_size (d.offset.within + width kind) _ (expanded_inner (width kind) limits d.bytes small)
    where
      placed_inner_size : (at : ℕ) (r : Result ℕ Fault) → SizeInner r → SizeInner (placed_at at r)
      placed_inner_size at (Ok n) h = tt
      placed_inner_size at (Err f) h = h
  by_bytes profile limits kind (Plain d) small = tt
  by_bytes profile limits kind (Names items) small = tt
  by_bytes profile limits kind _ small = tt

  by_read : (profile : Profile) (limits : Limits) (kind : ℕ) (body : List ℕ) → AreBytes body → (r : Result Contents Fault) → read_body kind body ≡ r → FaultInner (read_fault profile limits kept kind r)
  unfolding Inner FaultInner
  by_read profile limits kind body small (Ok c) e =
      by_data profile c (data_size limits kind c) (by_bytes profile limits kind c (spelled_bytes kind body c small ((contents_whole kind).ok 3 body c small e)))
  by_read profile limits kind body small (Err f) e = let inner = layout_inner kind 3 body f ((contents_whole kind).err 3 body f small e) in omega (arith, inner)

  -- The refusal of a framed record.
  pub raw_inner : (profile : Profile) (limits : Limits) (kind : ℕ) (body : List ℕ) → AreBytes body → FaultInner (raw_fault profile limits kept kind body)
  raw_inner profile limits kind body small = by_read profile limits kind body small (read_body kind body) refl
