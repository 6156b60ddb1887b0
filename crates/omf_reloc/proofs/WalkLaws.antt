-- A walk over the records of a well-formed module, at a placement that reaches, can take every record, and its image is that of the module.
use Rattle.std.proofs.Common.{◌≡◌, ℕ, zero, suc, ◌+◌, ◌-◌, ◌^◌, ◌<◌, ◌≤◌, Bool, true, false, cond, List, [], ◌∷◌, ◌++◌, append_assoc, length, length-append, refl, sym, ap, subst, ◌∙◌, arith}
use Rattle.std.specs.Prelude.{All, map, flat_map, Option, Some, None, option_map, option_to_list, unwrap_or, IfSome, slice_get, nat_le}
use Rattle.std.specs.List.{last_or}
use Rattle.std.proofs.lemmas.Bool.{leb-true, le-leb, and_parts, and_from}
use Rattle.std.proofs.lemmas.List.{append-nil, map-append}
use Rattle.std.proofs.lemmas.List.Elements.{All-nil, All-cons, All-head, All-tail, All-append}
use Rattle.std.proofs.lemmas.Grind.{flat_map-append}
use Rattle.omf_frame.specs.Bytes.{last}
use Rattle.omf_records.specs.Values.{At, Rec, Contents, Segment, Names, Plain, Iterated, Fixups, DataItem, Subrecord, Thread, Fixup, width}
use Rattle.omf_image.specs.Inner.Expanding.{expanded}
use Rattle.omf_image.specs.Limits.{profile_limits}
use Rattle.omf_check.specs.Rules.{length_of_segment}
use Rattle.omf_check.specs.Sound.{SubrecordHolds, SubrecordsHold, DataHolds, ContentsHold, ModuleHolds}
use Rattle.omf_check.specs.Tables.{segments, groups, externals, entry, is_defined, subrecords, subrecords_in, last_data, data_in, defined_segments, defined_groups, defined_externals}
use Rattle.omf_check.specs.Threads.{plain}
use Rattle.omf_check.specs.declared.segment.SegInfo.{SegInfo}
use Rattle.omf_reloc.specs.Inner.Names.{plain_fixups}
use Rattle.omf_reloc.specs.Laws.{location_end, AreInside, LiesInSegment}
use Rattle.omf_reloc.specs.Plain.{PlainFixup, pieces, plain_fixup}
use Rattle.omf_reloc.proofs.GatherLaws.{Gathered, Once, Repeated, more, tagged, gathered, closed_by, opened_by, gathered_from, gathered-all, subrecords-more}

-- What holds of all holds of a part of them.
pub all-left : {A : Type 0} (P : A → Type 0) (xs ys : List A) → All P (xs ++ ys) → All P xs
all-left P [] ys h = All-nil P
all-left P (x ∷ xs) ys h = All-cons P x xs (All-head P x (xs ++ ys) h) (all-left P xs ys (All-tail P x (xs ++ ys) h))

pub all-right : {A : Type 0} (P : A → Type 0) (xs ys : List A) → All P (xs ++ ys) → All P ys
all-right P [] ys h = h
all-right P (x ∷ xs) ys h = all-right P xs ys (All-tail P x (xs ++ ys) h)

-- One record more after those before it.
pub next-split : (m before rest : List Rec) (r : Rec) → m ≡ before ++ r ∷ rest → m ≡ (before ++ r ∷ []) ++ rest
next-split m before rest r e = e ∙ sym (append_assoc before (r ∷ []) rest)

-- What is defined after some records is defined after more.
longer : {A : Type 0} (f : Rec → List A) (m before rest : List Rec) → m ≡ before ++ rest → flat_map f m ≡ flat_map f before ++ flat_map f rest
longer f m before rest e = ap (flat_map f) e ∙ flat_map-append f before rest

defined-within : (i n k : ℕ) → n ≤ k → is_defined n i ≡ true → is_defined k i ≡ true
defined-within i n k h e =
    let both = and_parts (nat_le 1 i) (nat_le i n) e in
    let low = leb-true i n both.1 in
    and_from (nat_le 1 i) (nat_le i k) both.0 (le-leb i k (omega (arith, low, h)))

defined-more : {A : Type 0} (i : ℕ) (xs ys zs : List A) → zs ≡ xs ++ ys → is_defined (length xs) i ≡ true → is_defined (length zs) i ≡ true
defined-more i xs ys zs e h = defined-within i (length xs) (length zs) (omega (arith, ap length e, length-append xs ys)) h

get-more : {A : Type 0} (xs ys : List A) (k : ℕ) → k < length xs → slice_get (xs ++ ys) k ≡ slice_get xs k
get-more [] ys k h = absurd (omega (arith, h))
get-more (x ∷ xs) ys zero h = refl
get-more (x ∷ xs) ys (suc k) h = get-more xs ys k (omega (arith, h))

entry-more : {A : Type 0} (xs ys : List A) (i : ℕ) → is_defined (length xs) i ≡ true → entry (xs ++ ys) i ≡ entry xs i
entry-more xs ys i h =
    let both = and_parts (nat_le 1 i) (nat_le i (length xs)) h in
    let one = leb-true 1 i both.0 in
    let low = leb-true i (length xs) both.1 in
    ap (λ o. cond (nat_le 1 i) o None) (get-more xs ys (i - 1) (omega (arith, one, low)))

length-more : (m before rest : List Rec) (i : ℕ) → m ≡ before ++ rest → is_defined (length (segments before)) i ≡ true → length_of_segment before i ≡ length_of_segment m i
length-more m before rest i e h =
    ap (λ o. unwrap_or (option_map (λ (s : SegInfo). s.length) o) 0)
    (sym (ap (λ xs. entry xs i) (longer (λ r. defined_segments r.kind r.contents) m before rest e) ∙ entry-more (segments before) (segments rest) i h))

-- The tables of a module have what those of its first records have.
pub defined-after : (m before rest : List Rec) → m ≡ before ++ rest
    → ((i : ℕ) → is_defined (length (segments before)) i ≡ true → is_defined (length (segments m)) i ≡ true)
    × ((i : ℕ) → is_defined (length (groups before)) i ≡ true → is_defined (length (groups m)) i ≡ true)
    × ((i : ℕ) → is_defined (length (externals before)) i ≡ true → is_defined (length (externals m)) i ≡ true)
defined-after m before rest e = (
  λ i h. defined-more i (segments before) (segments rest) (segments m) (longer (λ r. defined_segments r.kind r.contents) m before rest e) h,
  λ i h. defined-more i (groups before) (groups rest) (groups m) (longer (λ r. defined_groups r.contents) m before rest e) h,
  λ i h. defined-more i (externals before) (externals rest) (externals m) (longer (λ r. defined_externals r.contents) m before rest e) h,
)

pub lies-in : (m before rest : List Rec) (d : DataItem) (size : ℕ) → m ≡ before ++ rest → DataHolds before d size → LiesInSegment m d.segment.item d.offset.item size
lies-in m before rest d size e h = record {
  segment_defined = defined-more d.segment.item (segments before) (segments rest) (segments m) (longer (λ r. defined_segments r.kind r.contents) m before rest e) h.segment;
  inside = subst (λ n. d.offset.item + size ≤ n) (length-more m before rest d.segment.item e h.segment) h.inside;
}

-- Segments have no more than 2^32 bytes.
abbrev IsShort : SegInfo → Type 0
IsShort s = s.length ≤ 2 ^ 32

abbrev length_or_none : Option SegInfo → ℕ
length_or_none o = unwrap_or (option_map (λ (s : SegInfo). s.length) o) 0

short-at : (xs : List SegInfo) (k : ℕ) → All IsShort xs → length_or_none (slice_get xs k) ≤ 2 ^ 32
short-at [] k h = omega arith
short-at (x ∷ xs) zero h = All-head IsShort x xs h
short-at (x ∷ xs) (suc k) h = short-at xs k (All-tail IsShort x xs h)

short-if : (b : Bool) (o : Option SegInfo) → length_or_none o ≤ 2 ^ 32 → length_or_none (cond b o None) ≤ 2 ^ 32
short-if true o h = h
short-if false o h = omega arith

short-contents : (before : List Rec) (kind : ℕ) (c : Contents) → ContentsHold profile_limits before kind c → All IsShort (defined_segments kind c)
short-contents before kind (Segment s) h = All-cons IsShort _ [] h.short (All-nil IsShort)
short-contents before kind _ h = All-nil IsShort

-- What data and the fixups on them are known to do: the data lie in their segment, and the locations in the data.
abbrev pub Lies : List Rec → Gathered → Type 0
Lies m (Once d fs) = LiesInSegment m d.segment.item d.offset.item (length d.bytes) × AreInside (length d.bytes) fs
Lies m (Repeated kind d fs) = LiesInSegment m d.segment.item d.offset.item (length (expanded (width kind) profile_limits d.bytes))

-- The open data record is the last one, if that is an LEDATA.
abbrev pub Tells : Option Gathered → Option Contents → Type 0
Tells o l = (d : DataItem) → l ≡ Some (Plain d) → (fs : List (ℕ × PlainFixup)) × (o ≡ Some (Once d fs))

pub record IsOpen (m : List Rec) (o : Option Gathered) (l : Option Contents) : Type 0 where
  pub tells : Tells o l
  pub lies : IfSome o (Lies m)

pub last-end : {A : Type 0} (o : Option A) (xs : List A) (x : A) → last_or o (xs ++ x ∷ []) ≡ Some x
last-end o [] x = refl
last-end o (y ∷ xs) x = last-end (Some y) xs x

pub last-more : (before : List Rec) (r : Rec) → last_data (before ++ r ∷ []) ≡ last (flat_map (λ x. data_in x.contents) before ++ data_in r.contents)
last-more before r =
    ap last (flat_map-append (λ x. data_in x.contents) before (r ∷ []) ∙ ap (λ t. flat_map (λ x. data_in x.contents) before ++ t) (append-nil (data_in r.contents)))

-- The subrecords of a FIXUPP hold, each after those before it.
abbrev HoldAfter : List Rec → List Subrecord → List (At Subrecord) → Type 0
HoldAfter before earlier subs = (done rest : List (At Subrecord)) (s : At Subrecord) → subs ≡ done ++ s ∷ rest → SubrecordHolds before (earlier ++ map (λ e. e.item) done) s.item

hold-head : (before : List Rec) (earlier : List Subrecord) (s : At Subrecord) (subs : List (At Subrecord)) → HoldAfter before earlier (s ∷ subs) → SubrecordHolds before earlier s.item
hold-head before earlier s subs h = subst (λ l. SubrecordHolds before l s.item) (append-nil earlier) (h [] subs s refl)

hold-tail : (before : List Rec) (earlier : List Subrecord) (s : At Subrecord) (subs : List (At Subrecord)) → HoldAfter before earlier (s ∷ subs) → HoldAfter before (earlier ++ s.item ∷ []) subs
hold-tail before earlier s subs h done rest x e =
    subst (λ l. SubrecordHolds before l x.item) (sym (append_assoc earlier (s.item ∷ []) (map (λ e. e.item) done))) (h (s ∷ done) rest x (ap (λ t. s ∷ t) e))

abbrev items : List (At Subrecord) → List Subrecord
items subs = map (λ s. s.item) subs

-- the fixups of the first subrecord, and those of the others
pub tagged-more : (kind : ℕ) (earlier : List Subrecord) (s : At Subrecord) (subs : List (At Subrecord))
    → tagged kind (plain_fixups earlier (s ∷ subs)) ≡ tagged kind (plain_fixup earlier s.item) ++ tagged kind (plain_fixups (earlier ++ s.item ∷ []) subs)
tagged-more kind earlier s subs = map-append (λ f. (kind, f)) (plain_fixup earlier s.item) (plain_fixups (earlier ++ s.item ∷ []) subs)

-- A LEDATA's fixups lie inside its data.
module _ (before : List Rec) (kind size : ℕ) (sized : (d : DataItem) → last_data before ≡ Some (Plain d) → length d.bytes ≡ size) where
  inside-one : (earlier : List Subrecord) (x : Subrecord) → SubrecordHolds before earlier x → AreInside size (tagged kind (plain_fixup earlier x))
  inside-one earlier (Thread byte datum) h = All-nil (λ f. location_end f ≤ size)
  inside-one earlier (Fixup locat r) h =
      let e = sized h.data_record h.last in
      let i = h.inside in
      All-cons (λ f. location_end f ≤ size) (kind, record { locat = locat; reference = plain earlier r }) [] (omega (arith, e, i)) (All-nil (λ f. location_end f ≤ size))

  inside-all : (earlier : List Subrecord) (subs : List (At Subrecord)) → HoldAfter before earlier subs → AreInside size (tagged kind (plain_fixups earlier subs))
  inside-all earlier [] h = All-nil (λ f. location_end f ≤ size)
  inside-all earlier (s ∷ subs) h =
      subst (AreInside size) (sym (tagged-more kind earlier s subs))
      (All-append (λ f. location_end f ≤ size) (tagged kind (plain_fixup earlier s.item)) (tagged kind (plain_fixups (earlier ++ s.item ∷ []) subs))
      (inside-one earlier s.item (hold-head before earlier s subs h)) (inside-all (earlier ++ s.item ∷ []) subs (hold-tail before earlier s subs h)))

pub sized-by : (d : DataItem) (fs : List (ℕ × PlainFixup)) (l : Option Contents) → Tells (Some (Once d fs)) l → (e : DataItem) → l ≡ Some (Plain e) → length e.bytes ≡ length d.bytes
sized-by d fs l tells e h = same (tells e h).0 (tells e h).1
  where
    same : (gs : List (ℕ × PlainFixup)) → Some (Once d fs) ≡ Some (Once e gs) → length e.bytes ≡ length d.bytes
    same gs q = let p : d ≡ e = cc in ap (λ (x : DataItem). length x.bytes) (sym p)

-- A module that holds.
module _ (m : List Rec) (holds : ModuleHolds profile_limits m) where
  short-from : (before rest : List Rec) → m ≡ before ++ rest → All IsShort (segments rest)
  short-from before [] e = All-nil IsShort
  short-from before (r ∷ rest) e =
      All-append IsShort (defined_segments r.kind r.contents) (segments rest)
      (short-contents before r.kind r.contents (holds.each before rest r e)) (short-from (before ++ r ∷ []) rest (next-split m before rest r e))

  pub length-short : (i : ℕ) → length_of_segment m i ≤ 2 ^ 32
  length-short i = short-if (nat_le 1 i) (slice_get (segments m) (i - 1)) (short-at (segments m) (i - 1) (short-from [] m refl))

  -- One record more: what is open then.
  tells-same : (o : Option Gathered) (xs : List Contents) → Tells o (last xs) → Tells o (last (xs ++ []))
  tells-same o xs h d e = h d (sym (ap last (append-nil xs)) ∙ e)

  tells-plain : (xs : List Contents) (d : DataItem) → Tells (Some (Once d [])) (last (xs ++ Plain d ∷ []))
  tells-plain xs d e q =
      let p : Some (Plain d) ≡ Some (Plain e) = sym (last-end None xs (Plain d)) ∙ q in
      let same : d ≡ e = cc in
      ([], ap (λ x. Some (Once x [])) same)

  tells-iterated : (o : Option Gathered) (xs : List Contents) (d : DataItem) → Tells o (last (xs ++ Iterated d ∷ []))
  tells-iterated o xs d e q = let p : Some (Iterated d) ≡ Some (Plain e) = sym (last-end None xs (Iterated d)) ∙ q in absurd cc

  tells-more : (new : List (ℕ × PlainFixup)) (o : Option Gathered) (l : Option Contents) → Tells o l → Tells (option_map (more new) o) l
  tells-more new o l h d e = ((h d e).0 ++ new, ap (option_map (more new)) (h d e).1)

  lies-more : (before : List Rec) (kind : ℕ) (subs : List (At Subrecord)) (o : Option Gathered) → IsOpen m o (last_data before) → SubrecordsHold before subs
      → IfSome (option_map (more (tagged kind (plain_fixups (subrecords before) subs))) o) (Lies m)
  lies-more before kind subs None is h = tt
  lies-more before kind subs (Some (Once d fs)) is h =
      let new = tagged kind (plain_fixups (subrecords before) subs) in (
        is.lies.0,
        All-append (λ f. location_end f ≤ length d.bytes) fs new is.lies.1
            (inside-all before kind (length d.bytes) (sized-by d fs (last_data before) is.tells) (subrecords before) subs h),
      )
  lies-more before kind subs (Some (Repeated other d fs)) is h = is.lies

  open-by : (before rest : List Rec) (kind : ℕ) (c : Contents) (o : Option Gathered) → m ≡ before ++ rest → ContentsHold profile_limits before kind c → IsOpen m o (last_data before)
      → IsOpen m (opened_by (subrecords before) kind c o) (last (flat_map (λ x. data_in x.contents) before ++ data_in c))
  open-by before rest kind (Plain d) o e h is = record { tells = tells-plain (flat_map (λ x. data_in x.contents) before) d; lies = (lies-in m before rest d (length d.bytes) e h, All-nil (λ f. location_end f ≤ length d.bytes)) }
  open-by before rest kind (Iterated d) o e h is = record {
    tells = tells-iterated (Some (Repeated kind d [])) (flat_map (λ x. data_in x.contents) before) d;
    lies = lies-in m before rest d (length (expanded (width kind) profile_limits d.bytes)) e h.lies;
  }
  open-by before rest kind (Fixups subs) o e h is = record {
    tells = tells-same (opened_by (subrecords before) kind (Fixups subs) o) (flat_map (λ x. data_in x.contents) before) (tells-more (tagged kind (plain_fixups (subrecords before) subs)) o (last_data before) is.tells);
    lies = lies-more before kind subs o is h;
  }
  open-by before rest kind (Names ns) o e h is = record { tells = tells-same o (flat_map (λ x. data_in x.contents) before) is.tells; lies = is.lies }
  open-by before rest kind _ o e h is = record { tells = tells-same o (flat_map (λ x. data_in x.contents) before) is.tells; lies = is.lies }

  pub open-next : (before rest : List Rec) (r : Rec) (o : Option Gathered) → m ≡ before ++ r ∷ rest → IsOpen m o (last_data before)
      → IsOpen m (opened_by (subrecords before) r.kind r.contents o) (last_data (before ++ r ∷ []))
  open-next before rest r o e is =
      subst (IsOpen m (opened_by (subrecords before) r.kind r.contents o)) (sym (last-more before r)) (open-by before (r ∷ rest) r.kind r.contents o e (holds.each before rest r e) is)

  pub open-first : IsOpen m None (last_data [])
  open-first = record { tells = λ d e. absurd (none-there d e); lies = tt }
    where
      none-there : (d : DataItem) → None ≡ Some (Plain d) → ⊥
      none-there d e = cc

  -- So all data are inside their segments, and all fixups inside their data.
  lies-open : (o : Option Gathered) → IfSome o (Lies m) → All (Lies m) (option_to_list o)
  lies-open None h = All-nil (Lies m)
  lies-open (Some g) h = All-cons (Lies m) g [] h (All-nil (Lies m))

  lies-closed : (c : Contents) (o : Option Gathered) → IfSome o (Lies m) → All (Lies m) (closed_by c o)
  lies-closed (Plain d) o h = lies-open o h
  lies-closed (Iterated d) o h = lies-open o h
  lies-closed (Names ns) o h = All-nil (Lies m)
  lies-closed _ o h = All-nil (Lies m)

  lies-after : (before rest : List Rec) (o : Option Gathered) → m ≡ before ++ rest → IsOpen m o (last_data before) → All (Lies m) (gathered_from (subrecords before) o rest)
  lies-after before [] o e is = lies-open o is.lies
  lies-after before (r ∷ rest) o e is =
      let next = opened_by (subrecords before) r.kind r.contents o in
      All-append (Lies m) (closed_by r.contents o) (gathered_from (subrecords before ++ subrecords_in r.contents) next rest) (lies-closed r.contents o is.lies)
      (subst (λ s. All (Lies m) (gathered_from s next rest)) (subrecords-more before r) (lies-after (before ++ r ∷ []) rest next (next-split m before rest r e) (open-next before rest r o e is)))

  pub all-lie : All (Lies m) (gathered (pieces m))
  all-lie = subst (All (Lies m)) (sym (gathered-all m)) (lies-after [] m None refl open-first)
