-- The fault computed for a record is the first fault of the first of its steps that has any.
use Rattle.std.proofs.Common.{◌≡◌, ℕ, suc, ◌+◌, ◌-◌, ◌<◌, ◌≤◌, Bool, true, false, List, [], ◌∷◌, ◌++◌, Result, Ok, Err, refl, sym, ◌∙◌, ap, arith, length, length-append}
use Rattle.std.proofs.lemmas.List.{length-map}
use Rattle.std.proofs.lemmas.Bool.{leb-true}
use Rattle.std.specs.Prelude.{Option, Some, None, cond, nat_le, nat_lt}
use Rattle.omf_frame.specs.Fault.{Fault, Rule, rule, broken, least, first_step}
use Rattle.omf_frame.specs.Framing.{Raw}
use Rattle.omf_frame.specs.declared.fault.Reason.TheVariants as reason
use Rattle.omf_records.specs.Values.{At, Rec, Contents, Names, Segment, Group, Externs, Communals, Plain, Iterated, Fixups, width}
use Rattle.omf_records.specs.declared.record.Rec.{Rec as CodeRec}
use Rattle.omf_records.specs.declared.record.Rec.TheVariants as code
use Rattle.omf_frame.specs.declared.kinds.Width.{Width}
use Rattle.omf_frame.specs.declared.kinds.Width.TheVariants.{Bits16, Bits32}
use Rattle.omf_records.specs.Inner.Seen.{contents_seen, kind_seen, odd_if}
use Rattle.omf_records.specs.Valued.{is_fixupp}
use Rattle.omf_records.specs.Inner.Reading.{read_body, fault_list, contents_or}
use Rattle.omf_image.specs.Blocks.{Blocks, blocks_size}
use Rattle.omf_image.specs.Inner.Expanding.{read_blocks, blocks_of, faults_of, length_or}
use Rattle.omf_image.specs.declared.limits.Limits.{Limits}
use Rattle.omf_check.specs.declared.profile.Profile.{Profile}
use Rattle.omf_check.specs.Tables.{items_in}
use Rattle.omf_check.specs.Rules.{rules, item_limit, table_limit, item_places, places}
use Rattle.omf_check.specs.WellFormed.{recs}
use Rattle.omf_check.specs.Inner.Faults.{record_steps}
use Rattle.omf_check.specs.Inner.Names.{moved, short_or_deep, too_long}
use Rattle.omf_check.specs.Inner.Kept.{Kept, Tells, IsBounded, with_record, with_contents, starts}
use Rattle.omf_check.specs.Inner.Judging.{fault_unless, lesser, room_fault, contents_fault, fault_moved, data_size, judged_by_size, record_fault, raw_fault, read_fault, IsNoFixupp}
use Rattle.omf_check.proofs.Lesser.{fault_of}
use Rattle.omf_check.proofs.JudgeLaws.{rules_law}

one_step : (fs : List Fault) → first_step (fs ∷ []) ≡ fs
one_step [] = refl
one_step (f ∷ fs) = refl

-- blocks: their fault or their size
by_blocks : (profile : Profile) (kept : Kept) (c : Contents) (rs : List Rule) (r : Result Blocks Fault) (b : Bool) (at n : ℕ)
    → fault_of rs ≡ lesser (room_fault (item_limit - kept.items) (item_places c)) (contents_fault profile kept n c)
    → judged_by_size profile kept c (fault_moved at (length_or n (least (first_step (faults_of r ∷ broken (rule b 0 reason.DataTooLong ∷ []) ∷ [])))))
    ≡ least (first_step (([] ++ moved at (faults_of r)) ∷ moved at (broken (rule b 0 reason.DataTooLong ∷ [])) ∷ broken rs ∷ []))
by_blocks profile kept c rs (Err e) b at n h = refl
by_blocks profile kept c rs (Ok trees) false at n h = refl
by_blocks profile kept c rs (Ok trees) true at n h = sym h ∙ ap least (sym (one_step (broken rs)))

module _ (profile : Profile) (limits : Limits) (kept : Kept) (before : List Raw) (tells : Tells kept (recs before)) where
  -- contents that are spelled
  by_contents : (kind : ℕ) (c : Contents) → record_fault profile limits kept (record { kind = kind; contents = c })
      ≡ least (first_step (([] ++ short_or_deep limits kind c) ∷ too_long limits kind c ∷ broken (rules profile limits (recs before) (record { kind = kind; contents = c })) ∷ []))
  by_contents kind (Iterated d) =
      let c : Contents = Iterated d in
      let r : Result Blocks Fault = read_blocks (width kind) limits.nesting d.bytes in
      let n : ℕ = blocks_size (blocks_of (width kind) limits d.bytes) in
      by_blocks profile kept c (rules profile limits (recs before) (record { kind = kind; contents = c })) r (nat_le n limits.expanded) (d.offset.within + width kind) n
      (rules_law kept (recs before) tells profile limits (record { kind = kind; contents = c }) n refl)
  by_contents kind (Plain d) =
      let c : Contents = Plain d in
      sym (rules_law kept (recs before) tells profile limits (record { kind = kind; contents = c }) (length d.bytes) refl)
      ∙ ap least (sym (one_step (broken (rules profile limits (recs before) (record { kind = kind; contents = c })))))
  by_contents kind (Names items) =
      let c : Contents = Names items in
      sym (rules_law kept (recs before) tells profile limits (record { kind = kind; contents = c }) 0 tt)
      ∙ ap least (sym (one_step (broken (rules profile limits (recs before) (record { kind = kind; contents = c })))))
  by_contents kind c =
      sym (rules_law kept (recs before) tells profile limits (record { kind = kind; contents = c }) 0 tt)
      ∙ ap least (sym (one_step (broken (rules profile limits (recs before) (record { kind = kind; contents = c })))))

  by_read : (kind : ℕ) (body : List ℕ) (res : Result Contents Fault)
      → read_fault profile limits kept kind res
      ≡ least (first_step ((fault_list res ++ short_or_deep limits kind (contents_or body res)) ∷ too_long limits kind (contents_or body res)
      ∷ broken (rules profile limits (recs before) (record { kind = kind; contents = contents_or body res })) ∷ []))
  by_read kind body (Ok c) = by_contents kind c
  by_read kind body (Err f) = refl

  pub raw_law : (r : Raw) → raw_fault profile limits kept r.kind r.body ≡ least (first_step (record_steps profile limits before r))
  raw_law r = by_read r.kind r.body (read_body r.kind r.body)

-- A record without fault passes no limit.
pub none_both : (a b : Option Fault) → lesser a b ≡ None → (a ≡ None) × (b ≡ None)
none_both None b h = (refl, h)
none_both (Some f) None h = absurd cc
none_both (Some f) (Some g) h = absurd (by _ h)
  where
    by : (b : Bool) → cond b (Some f) (Some g) ≡ None → ⊥
    by true h = cc
    by false h = cc

unless_holds : (b : Bool) (f : Fault) → cond b None (Some f) ≡ None → b ≡ true
unless_holds true f h = refl
unless_holds false f h = absurd cc

pub room_none : (left : ℕ) (ps : List ℕ) → room_fault left ps ≡ None → length ps ≤ left
room_none left [] h = omega arith
room_none left (p ∷ ps) h =
    let both = none_both (fault_unless (nat_lt 0 left) p reason.TooMany) (room_fault (left - 1) ps) h in
    let some : 1 ≤ left = leb-true 1 left (unless_holds (nat_lt 0 left) _ both.0) in
    let rest : length ps ≤ left - 1 = room_none (left - 1) ps both.1 in
    omega (arith, some, rest)

item_lengths : (c : Contents) → length (item_places c) ≡ items_in c
item_lengths (Fixups []) = refl
item_lengths (Fixups (s ∷ subs)) = let e : length (places (s ∷ subs)) ≡ suc (length subs) = ap suc (length-map subs (λ a. a.within)) in omega (arith, e)
item_lengths (Names items) = refl
item_lengths _ = refl

-- A record other than a FIXUPP is one item, at its start.
pub not_fixupp : (r : CodeRec) → is_fixupp (kind_seen r) ≡ false → IsNoFixupp (contents_seen r)
not_fixupp (code.Fixups width subs) h = absurd (by width h)
  where
    by : (width : Width) → is_fixupp (odd_if width 0x9C) ≡ false → ⊥
    by Bits16 h = cc
    by Bits32 h = cc
not_fixupp (code.Names items) h = tt
not_fixupp _ h = tt

one_item : (c : Contents) → IsNoFixupp c → items_in c ≡ 1
one_item (Fixups subs) h = absurd h
one_item (Names items) h = refl
one_item _ h = refl

fits : (limit old n room : ℕ) → old ≤ limit → room ≡ limit - old → n ≤ room → old + n ≤ limit
fits limit old n room le e h = omega (arith, le, e, h)

-- the state kept after a record within the limits
module _ (profile : Profile) (limits : Limits) (kept : Kept) (bounded : IsBounded kept) where
  items_fit : (c : Contents) → room_fault (item_limit - kept.items) (item_places c) ≡ None → kept.items + items_in c ≤ 1048576
  items_fit c h = fits 1048576 kept.items (items_in c) (item_limit - kept.items) bounded.items refl
      (let le = room_none (item_limit - kept.items) (item_places c) h in let e = item_lengths c in omega (arith, le, e))

  starts_fit : {A : Type 0} (old : List ℕ) (at : ℕ) (items : List (At A)) → length old ≤ 32767 → room_fault (table_limit - length old) (places items) ≡ None → length (old ++ starts at items) ≤ 32767
  starts_fit old at items le h =
      let n = room_none (table_limit - length old) (places items) h in
      let e : length (places items) ≡ length items = length-map items (λ a. a.within) in
      let f : length (starts at items) ≡ length items = length-map items (λ a. at + a.within) in
      omega (arith, le, n, e, f, length-append old (starts at items))

  one_fits : {A : Type 0} (old : List A) (x : A) (o : Option Fault) → lesser (fault_unless (nat_lt (length old) table_limit) 3 reason.TooMany) o ≡ None → length (old ++ x ∷ []) ≤ 32767
  one_fits old x o h =
      let both = none_both (fault_unless (nat_lt (length old) table_limit) 3 reason.TooMany) o h in
      let low : suc (length old) ≤ 32767 = leb-true (suc (length old)) 32767 (unless_holds (nat_lt (length old) table_limit) _ both.0) in
      omega (arith, low, length-append old (x ∷ []))

  bounds : (k : Kept) → length k.names ≤ 32767 → length k.segments ≤ 32767 → length k.groups ≤ 32767 → length k.externals ≤ 32767 → k.items ≤ 1048576 → IsBounded k
  bounds k names segments groups externals items = record { names = names; segments = segments; groups = groups; externals = externals; items = items }

  more_bounded : (at kind size n : ℕ) (c : Contents) → n ≤ 1048576 → contents_fault profile kept size c ≡ None → IsBounded (with_contents (record kept { items = n }) at kind c)
  more_bounded at kind size n (Names items) le h = bounds _ (starts_fit kept.names at items bounded.names h) bounded.segments bounded.groups bounded.externals le
  more_bounded at kind size n (Segment s) le h = bounds _ bounded.names (one_fits kept.segments _ _ h) bounded.groups bounded.externals le
  more_bounded at kind size n (Group g) le h = bounds _ bounded.names bounded.segments (one_fits kept.groups at _ h) bounded.externals le
  more_bounded at kind size n (Externs items) le h = bounds _ bounded.names bounded.segments bounded.groups (starts_fit kept.externals at items bounded.externals h) le
  more_bounded at kind size n (Communals items) le h = bounds _ bounded.names bounded.segments bounded.groups (starts_fit kept.externals at items bounded.externals h) le
  more_bounded at kind size n _ le h = bounds _ bounded.names bounded.segments bounded.groups bounded.externals le

  by_data : (at : ℕ) (r : Rec) (s : Result ℕ Fault) → judged_by_size profile kept r.contents s ≡ None → (kept.items + items_in r.contents ≤ 1048576) × IsBounded (with_record kept at r)
  by_data at r (Ok size) h =
      let both = none_both (room_fault (item_limit - kept.items) (item_places r.contents)) (contents_fault profile kept size r.contents) h in
      let le = items_fit r.contents both.0 in
      (le, more_bounded at r.kind size (kept.items + items_in r.contents) r.contents le both.1)
  by_data at r (Err f) h = absurd cc

  -- a record other than a FIXUPP has room as one item
  pub one_fits_on : (at : ℕ) (r : Rec) → IsNoFixupp r.contents → record_fault profile limits kept r ≡ None → kept.items < 1048576
  one_fits_on at r other h = let le = (by_data at r (data_size limits r.kind r.contents) h).0 in let one = one_item r.contents other in omega (arith, le, one)

  pub fits_on : (at : ℕ) (r : Rec) → record_fault profile limits kept r ≡ None → (kept.items + items_in r.contents ≤ 1048576) × IsBounded (with_record kept at r)
  fits_on at r h = by_data at r (data_size limits r.kind r.contents) h
