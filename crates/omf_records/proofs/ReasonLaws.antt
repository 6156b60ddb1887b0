-- Faults of layouts have reasons from 8 to 18.
use Rattle.std.proofs.Common.{ℕ, zero, suc, ◌+◌, ◌≤◌, Bool, true, false, cond, List, [], ◌∷◌, ◌++◌, Option, Some, None, sym, subst, inl, inr, length, arith}
use Rattle.std.specs.Prelude.{◌==◌, ◌||◌, not, nat_lt}
use Rattle.omf_frame.specs.Bytes.{is_one_of}
use Rattle.omf_frame.specs.Fault.{Fault, reason_number}
use Rattle.omf_frame.specs.Types.{type_of}
use Rattle.omf_frame.specs.declared.kinds.RecordType.{RecordType}
use Rattle.omf_frame.specs.declared.kinds.RecordType.TheVariants.{Theadr, Lheadr, Coment, Lnames, Llnames, Segdef, Grpdef, Extdef, Lextdef, Pubdef, Lpubdef, Comdef, Lcomdef, Ledata, Lidata, Fixupp, Modend, Typdef, Linnum, Linsym, Alias, Vernum, Bakpat, Cextdef, Comdat, Nbkpat, Vendext, Library}
use Rattle.omf_frame.specs.declared.fault.Reason.{Reason}
use Rattle.omf_frame.specs.declared.fault.Reason.TheVariants as reason
use Rattle.omf_records.specs.Inner.Names.{fixup, thread, wrong_component, wrong_data_type, wrong_head, begins_length, is_location, may_be_self_relative, communals, externs, fixups, names, wrong_alignment, wrong_size, has_frame_datum, has_target_datum, has_start, has_no_displacement}
use Rattle.omf_records.specs.Entries.{unless, member, external, public_item, far_size, communal_size, communal, wrong_methods, is_frame_method, reference, wrong_thread, wrong_location, subrecord}
use Rattle.omf_records.specs.Layout.{Layout, ◌>>=◌, give, ends, rest, many, times, field, field_or, name, index, byte, le, number_of, length_reason, communal_length, head, IsIn, checked, with_place, called, choose, when}
use Rattle.omf_records.specs.Records.{header, comment, absolute, segment, group, publics, data_item, mod_end, carried, layout_of, layout_if, contents}
use Rattle.omf_records.specs.Values.{Comment, Names, Externs, Communals, Plain, Iterated, Fixups, Near, Thread, Fixup, thread_is_frame, thread_method, is_segment_relative, location_type, frame_by_thread, frame_bits, target_by_thread, target_bits, is_wide, alignment, is_big}

abbrev pub IsInner : Reason → Type 0
IsInner r = (8 ≤ reason_number r) × (reason_number r ≤ 18)

AllInner : List Reason → Type 0
AllInner rs = (r : Reason) → IsIn r rs → IsInner r

unless_inner : (b : Bool) (r : Reason) → IsInner r → AllInner (unless b r)
unfolding AllInner
unless_inner true r h s i = absurd i
unless_inner false r h s (inl e) = subst IsInner (sym e) h
unless_inner false r h s (inr i) = absurd i

one_inner : (r : Reason) → IsInner r → AllInner (r ∷ [])
unfolding AllInner
one_inner r h s (inl e) = subst IsInner (sym e) h
one_inner r h s (inr i) = absurd i

both_inner : (xs ys : List Reason) → AllInner xs → AllInner ys → AllInner (xs ++ ys)
unfolding AllInner
both_inner [] ys h k s i = k s i
both_inner (x ∷ xs) ys h k s (inl e) = h s (inl e)
both_inner (x ∷ xs) ys h k s (inr i) = both_inner xs ys (λ r j. h r (inr j)) k s i

if_inner : (b : Bool) (xs ys : List Reason) → AllInner xs → AllInner ys → AllInner (cond b xs ys)
if_inner true xs ys h k = h
if_inner false xs ys h k = k

-- Layouts.
pub Inner : {A : Type 0} → Layout A → Type 0
Inner p = (at : ℕ) (bytes : List ℕ) (e : Fault) → p.Faults at bytes e → IsInner e.reason

then_inner : {A B : Type 0} (p : Layout A) (f : A → Layout B) → Inner p → ((x : A) → Inner (f x)) → Inner (p >>= f)
unfolding Inner
then_inner p f h k at bytes e (inl q) = h at bytes e q
then_inner p f h k at bytes e (inr (front, back, x, parts, sp, q)) = k x (at + length front) back e q

give_inner : {A : Type 0} (x : A) → Inner (give x)
unfolding Inner
give_inner x at bytes e q = absurd q

ends_inner : {A : Type 0} (x : A) → Inner (ends x)
unfolding Inner
ends_inner x at bytes e (some, is) = subst (λ (f : Fault). IsInner f.reason) (sym is) (omega arith, omega arith)

rest_inner : Inner rest
unfolding Inner
rest_inner at bytes e q = absurd q

many_inner : {A : Type 0} (p : Layout A) → Inner p → Inner (many p)
unfolding Inner
many_inner p h at bytes e (front, back, xs, parts, some, sp, q) = h (at + length front) back e q

field_inner : {A : Type 0} (why : List ℕ → Reason) (P : A → List ℕ → Type 0) → ((bytes : List ℕ) → IsInner (why bytes)) → Inner (field_or why P)
unfolding Inner
field_inner why P h at bytes e (is, none) = subst (λ (f : Fault). IsInner f.reason) (sym is) (h bytes)

short_inner : {A : Type 0} (P : A → List ℕ → Type 0) → Inner (field P)
short_inner P = field_inner (λ bytes. reason.Short) P (λ bytes. (omega arith, omega arith))

checked_inner : {A : Type 0} (p : Layout A) (refused : A → List Reason) → Inner p → ((x : A) → AllInner (refused x)) → Inner (checked p refused)
unfolding Inner AllInner
checked_inner p refused h k at bytes e (inl q) = h at bytes e q
checked_inner p refused h k at bytes e (inr (front, back, x, parts, sp, w, i)) = k x e.reason i

placed_inner : {A : Type 0} (p : Layout A) → Inner p → Inner (with_place p)
unfolding Inner
placed_inner p h = h

called_inner : {A B : Type 0} (p : Layout A) (f : A → B) → Inner p → Inner (called p f)
unfolding Inner
called_inner p f h = h

choose_inner : {A : Type 0} (b : Bool) (p q : Layout A) → Inner p → Inner q → Inner (choose b p q)
unfolding Inner
choose_inner true p q h k = h
choose_inner false p q h k = k

when_inner : {A : Type 0} (b : Bool) (p : Layout A) → Inner p → Inner (when b p)
when_inner b p h = choose_inner b (called p (λ x. Some x)) (give None) (called_inner p (λ x. Some x) h) (give_inner None)

times_inner : {A : Type 0} (n : ℕ) (p : Layout A) → Inner p → Inner (times n p)
times_inner zero p h = give_inner []
times_inner (suc n) p h = then_inner p _ h (λ x. then_inner (times n p) _ (times_inner n p h) (λ xs. give_inner (x ∷ xs)))

-- Fields and entries.
name_inner : Inner name
name_inner = short_inner _

index_inner : Inner index
index_inner = short_inner _

byte_inner : Inner byte
byte_inner = short_inner _

le_inner : (k : ℕ) → Inner (le k)
le_inner k = short_inner _

index_at_inner : Inner (with_place index)
index_at_inner = placed_inner index index_inner

length_inner : (bytes : List ℕ) → IsInner (length_reason bytes)
length_inner [] = (omega arith, omega arith)
length_inner (a ∷ bytes) = by (begins_length a)
  where
    by : (b : Bool) → IsInner (cond b reason.Short reason.CommunalLength)
    by true = (omega arith, omega arith)
    by false = (omega arith, omega arith)

communal_length_inner : Inner communal_length
communal_length_inner = field_inner length_reason _ length_inner

member_inner : Inner member
member_inner = then_inner _ _ (checked_inner byte wrong_component byte_inner (λ c. unless_inner (c == 0xFF) reason.GroupComponent (omega arith, omega arith))) (λ c. index_at_inner)

external_inner : Inner external
external_inner = then_inner _ _ name_inner (λ n. then_inner _ _ index_inner (λ i. give_inner _))

public_inner : (wide : Bool) → Inner (public_item wide)
public_inner wide = then_inner _ _ name_inner (λ n. then_inner _ _ (le_inner _) (λ o. then_inner _ _ index_inner (λ i. give_inner _)))

far_inner : Inner far_size
far_inner = then_inner _ _ communal_length_inner (λ c. then_inner _ _ communal_length_inner (λ s. give_inner _))

size_inner : Inner communal_size
size_inner =
    then_inner _ _ (checked_inner byte wrong_data_type byte_inner (λ t. unless_inner (is_one_of (0x61 ∷ 0x62 ∷ []) t) reason.CommunalType (omega arith, omega arith)))
    (λ t. choose_inner (t == 0x62) _ _ (called_inner communal_length Near communal_length_inner) far_inner)

communal_inner : Inner communal
communal_inner = then_inner _ _ name_inner (λ n. then_inner _ _ index_inner (λ i. then_inner _ _ size_inner (λ s. give_inner _)))

methods_inner : (fix : ℕ) → AllInner (wrong_methods fix)
methods_inner fix =
    both_inner _ _ (unless_inner (frame_by_thread fix || is_frame_method (frame_bits fix)) reason.FrameMethod (omega arith, omega arith))
    (unless_inner (target_by_thread fix || nat_lt (target_bits fix) 3) reason.TargetMethod (omega arith, omega arith))

reference_inner : (wide : Bool) → Inner (reference wide)
reference_inner wide =
    then_inner _ _ (placed_inner _ (checked_inner byte wrong_methods byte_inner methods_inner)) (λ f.
    then_inner _ _ (when_inner (has_frame_datum f.item) (with_place index) index_at_inner) (λ d.
    then_inner _ _ (when_inner (has_target_datum f.item) (with_place index) index_at_inner) (λ t.
    then_inner _ _ (when_inner (not (has_no_displacement f.item)) (number_of wide) (le_inner _)) (λ u. give_inner _))))

thread_reasons : (b : ℕ) → AllInner (wrong_thread b)
thread_reasons b =
    if_inner (thread_is_frame b) _ _ (unless_inner (is_frame_method (thread_method b)) reason.FrameMethod (omega arith, omega arith))
    (unless_inner (nat_lt (thread_method b) 3) reason.TargetMethod (omega arith, omega arith))

location_reasons : (l : ℕ) → AllInner (wrong_location l)
location_reasons l =
    if_inner (is_location (location_type l)) _ _ (unless_inner (is_segment_relative l || may_be_self_relative (location_type l)) reason.SelfRelative (omega arith, omega arith))
    (one_inner reason.LocationType (omega arith, omega arith))

subrecord_inner : (wide : Bool) → Inner (subrecord wide)
subrecord_inner wide =
    then_inner _ _ (checked_inner head wrong_head (short_inner _) (λ h. if_inner (nat_lt h 128) _ _ (thread_reasons h) (location_reasons h)))
    (λ h. choose_inner (nat_lt h 128) (thread h) (fixup wide h) (called_inner _ (Thread h) (when_inner (nat_lt (thread_method h) 3) (with_place index) index_at_inner))
    (called_inner (reference wide) (Fixup h) (reference_inner wide)))

-- Contents.
header_inner : Inner header
header_inner = then_inner _ _ name_inner (λ n. ends_inner _)

comment_inner : Inner comment
comment_inner = then_inner _ _ byte_inner (λ t. then_inner _ _ byte_inner (λ c. called_inner rest (Comment t c) rest_inner))

segment_inner : (wide : Bool) → Inner (segment wide)
segment_inner wide =
    then_inner _ _ (checked_inner byte wrong_alignment byte_inner (λ a. unless_inner (nat_lt (alignment a) 6) reason.Alignment (omega arith, omega arith))) (λ a.
    then_inner _ _ (when_inner (alignment a == 0) absolute (then_inner _ _ (le_inner 2) (λ f. then_inner _ _ byte_inner (λ o. give_inner _)))) (λ p.
    then_inner _ _ (checked_inner (number_of wide) (wrong_size a) (le_inner _) (λ s. unless_inner (not (is_big a) || (s == 0)) reason.BigLength (omega arith, omega arith))) (λ s.
    then_inner _ _ index_at_inner (λ n. then_inner _ _ index_at_inner (λ c. then_inner _ _ index_inner (λ o. ends_inner _))))))

group_inner : Inner group
group_inner = then_inner _ _ index_at_inner (λ n. called_inner _ _ (many_inner member member_inner))

publics_inner : (wide : Bool) → Inner (publics wide)
publics_inner wide =
    then_inner _ _ index_at_inner (λ g. then_inner _ _ index_at_inner (λ s. then_inner _ _ (when_inner (s.item == 0) (le 2) (le_inner 2)) (λ f.
    called_inner _ _ (many_inner (public_item wide) (public_inner wide)))))

data_inner : (wide : Bool) → Inner (data_item wide)
data_inner wide = then_inner _ _ index_at_inner (λ s. then_inner _ _ (placed_inner _ (le_inner _)) (λ o. called_inner rest _ rest_inner))

end_inner : (wide : Bool) → Inner (mod_end wide)
end_inner wide = then_inner _ _ byte_inner (λ t. then_inner _ _ (when_inner (has_start t) (reference wide) (reference_inner wide)) (λ s. ends_inner _))

names_inner : Inner names
names_inner = called_inner (many name) Names (many_inner name name_inner)

externs_inner : Inner externs
externs_inner = called_inner (many external) Externs (many_inner external external_inner)

communals_inner : Inner communals
communals_inner = called_inner (many communal) Communals (many_inner communal communal_inner)

fixups_inner : (wide : Bool) → Inner (fixups wide)
fixups_inner wide = called_inner (many (subrecord wide)) Fixups (many_inner (subrecord wide) (subrecord_inner wide))

carried_inner : Inner carried
carried_inner = called_inner rest _ rest_inner

by_type : (t : RecordType) (wide : Bool) → Inner (layout_of t wide)
by_type Theadr wide = header_inner
by_type Lheadr wide = header_inner
by_type Coment wide = comment_inner
by_type Lnames wide = names_inner
by_type Llnames wide = names_inner
by_type Segdef wide = segment_inner wide
by_type Grpdef wide = group_inner
by_type Extdef wide = externs_inner
by_type Lextdef wide = externs_inner
by_type Pubdef wide = publics_inner wide
by_type Lpubdef wide = publics_inner wide
by_type Comdef wide = communals_inner
by_type Lcomdef wide = communals_inner
by_type Ledata wide = called_inner (data_item wide) Plain (data_inner wide)
by_type Lidata wide = called_inner (data_item wide) Iterated (data_inner wide)
by_type Fixupp wide = fixups_inner wide
by_type Modend wide = end_inner wide
by_type Typdef wide = carried_inner
by_type Linnum wide = carried_inner
by_type Linsym wide = carried_inner
by_type Alias wide = carried_inner
by_type Vernum wide = carried_inner
by_type Bakpat wide = carried_inner
by_type Cextdef wide = carried_inner
by_type Comdat wide = carried_inner
by_type Nbkpat wide = carried_inner
by_type Vendext wide = carried_inner
by_type Library wide = carried_inner

by_option : (o : Option RecordType) (wide : Bool) → Inner (layout_if o wide)
by_option (Some t) wide = by_type t wide
by_option None wide = carried_inner

pub contents_inner : (kind : ℕ) → Inner (contents kind)
contents_inner kind = by_option (type_of kind) (is_wide kind)

pub layout_inner : (kind at : ℕ) (bytes : List ℕ) (e : Fault) → (contents kind).Faults at bytes e → IsInner e.reason
unfolding Inner
layout_inner kind = contents_inner kind
