-- A walk over the records of a module goes on.
use Rattle.std.proofs.Common.{◌≡◌, ℕ, suc, ◌+◌, ◌-◌, ◌^◌, ◌<◌, List, [], ◌∷◌, ◌++◌, length, refl, sym, ap, ap₂, subst, ◌∙◌, arith, append_assoc, length-append}
use Rattle.std.specs.Prelude.{flat_map, All}
use Rattle.std.proofs.lemmas.Grind.{flat_map-append}
use Rattle.std.proofs.lemmas.List.{append-nil, map-append}
use Rattle.std.proofs.Math.Seq.{get_or-append_seam}
use Rattle.omf_frame.specs.Bytes.{with_before}
use Rattle.omf_frame.specs.Framing.{Raw, raw_bytes, present, front_record, after_front}
use Rattle.omf_frame.proofs.FramingLaws.{after_raw, front_raw, present_raw}
use Rattle.omf_records.specs.Inner.Reading.{typed, contents_or, read_body}
use Rattle.omf_records.specs.Values.{Contents}
use Rattle.omf_check.specs.Listed.{IsReadable, StartsWithRecord}
use Rattle.omf_check.specs.WellFormed.{recs}
use Rattle.omf_dump.specs.Dump.{AreRecords, dump_text, record_dump, shown_after}
use Rattle.omf_dump.specs.Render.{record_text}
use Rattle.omf_dump.specs.Inner.Showing.{Keeps, shown_by}
use Rattle.omf_dump.specs.Inner.Walking.{Holds, IsWalked}
use Rattle.omf_dump.specs.declared.format.Style.{Style}
use Rattle.omf_dump.specs.declared.known.Known.{Known}
use Rattle.omf_dump.proofs.KnownLaws.{holds_more, next_shown}

-- the record that comes next
pub record IsNext (f : Style) (records : List Raw) (known : Known) (count at : ℕ) (left : List ℕ) (old now : List ℕ) : Type 0 where
  pub before : List Raw
  pub one : Raw
  pub after : List Raw
  pub all : records ≡ before ++ one ∷ after
  pub spelled : left ≡ raw_bytes one ++ flat_map raw_bytes after
  pub readable : IsReadable one
  pub number : count ≡ length before
  pub start : at ≡ length (flat_map raw_bytes before)
  pub holds : Holds known (recs before)
  pub written : now ++ (record_dump f before one ++ with_before (record_dump f) (before ++ one ∷ []) after) ≡ old ++ dump_text f records

-- what each element has, the one between two lists has
pub in_between : {A : Type 0} (P : A → Type 0) (xs : List A) (y : A) (ys : List A) → All P (xs ++ y ∷ ys) → P y
in_between P xs y ys h =
    let size : length (xs ++ y ∷ ys) ≡ length xs + suc (length ys) = length-append xs (y ∷ ys) in
    let low : length xs < length (xs ++ y ∷ ys) = omega (arith, size) in
    subst P (get_or-append_seam xs y ys y) (h (length xs) y low)

next_by : (f : Style) (bytes : List ℕ) (records before after : List Raw) (known : Known) (number start : ℕ) (left old now : List ℕ) → AreRecords bytes records → records ≡ before ++ after → left ≡ flat_map raw_bytes after → 0 < length left
    → number ≡ length before → start ≡ length (flat_map raw_bytes before) → Holds known (recs before) → now ++ with_before (record_dump f) before after ≡ old ++ dump_text f records
    → IsNext f records known number start left old now
next_by f bytes records before [] known number start left old now are all spelled some n s holds written =
    let none = ap length spelled in absurd (omega (arith, none, some))
next_by f bytes records before (r ∷ after) known number start left old now are all spelled some n s holds written = record {
  before = before;
  one = r;
  after = after;
  all = all;
  spelled = spelled;
  readable = in_between IsReadable before r after (subst (All IsReadable) all are.readable);
  number = n;
  start = s;
  holds = holds;
  written = written;
}

pub next_of : (f : Style) (bytes : List ℕ) (records : List Raw) (known : Known) (number start : ℕ) (left old now : List ℕ) → AreRecords bytes records → 0 < length left → IsWalked f records known number start left old now → IsNext f records known number start left old now
next_of f bytes records known number start left old now are some w = next_by f bytes records w.before w.after known number start left old now are w.all w.spelled some w.number w.start w.holds w.written

-- it was shown, and the walk is after it
pub walked_on : (f : Style) (records : List Raw) (known known' : Known) (number number' start start' : ℕ) (left left' old now now' : List ℕ) (n : IsNext f records known number start left old now)
    → left' ≡ flat_map raw_bytes n.after → number' ≡ number + 1 → start' ≡ start + length (raw_bytes n.one)
    → now' ≡ now ++ record_text f number start n.one.kind n.one.checksum (shown_by known n.one.kind (typed n.one).contents)
    → Keeps known (typed n.one).contents known'
    → IsWalked f records known' number' start' left' old now'
walked_on f records known known' number number' start start' left left' old now now' n spelled count offset shown keeps =
    let before : List Raw = n.before ++ n.one ∷ [] in
    let longer : length before ≡ length n.before + 1 = length-append n.before (n.one ∷ []) in
    let further : length (flat_map raw_bytes before) ≡ length (flat_map raw_bytes n.before) + length (raw_bytes n.one) =
    ap length (flat_map-append raw_bytes n.before (n.one ∷ []) ∙ ap (λ (t : List ℕ). flat_map raw_bytes n.before ++ t) (append-nil (raw_bytes n.one))) ∙ length-append (flat_map raw_bytes n.before) (raw_bytes n.one) in
    let others : List ℕ = with_before (record_dump f) before n.after in
    let typed_all : recs before ≡ recs n.before ++ typed n.one ∷ [] = map-append typed n.before (n.one ∷ []) in
    let text : record_text f number start n.one.kind n.one.checksum (shown_by known n.one.kind (typed n.one).contents) ≡ record_dump f n.before n.one =
    ap (record_text f number start n.one.kind n.one.checksum) (next_shown known (recs n.before) n.one.kind (typed n.one).contents n.holds)
    ∙ ap₂ (λ (i j : ℕ). record_text f i j n.one.kind n.one.checksum (shown_after (recs n.before) (typed n.one))) n.number n.start in
    record {
      before = before;
      after = n.after;
      all = n.all ∙ sym (append_assoc n.before (n.one ∷ []) n.after);
      spelled = spelled;
      number = count ∙ ap (λ (k : ℕ). k + 1) n.number ∙ sym longer;
      start = offset ∙ ap (λ (k : ℕ). k + length (raw_bytes n.one)) n.start ∙ sym further;
      holds = subst (Holds known') (sym typed_all) (holds_more known known' (recs n.before) (typed n.one) n.holds keeps);
      written =
          ap (λ (t : List ℕ). t ++ others) (shown ∙ ap (λ (t : List ℕ). now ++ t) text) ∙ append_assoc now (record_dump f n.before n.one) others ∙ n.written;
    }

-- none is left
pub all_walked : (f : Style) (records : List Raw) (known : Known) (number start : ℕ) (left old now : List ℕ) → length left ≡ 0 → IsWalked f records known number start left old now → now ≡ old ++ dump_text f records
all_walked f records known number start left old now none w =
    let empty : w.after ≡ [] = no_records w.after (sym (ap length w.spelled) ∙ none) in
    sym (append-nil now) ∙ ap (λ (rs : List Raw). now ++ with_before (record_dump f) w.before rs) (sym empty) ∙ w.written
  where
    no_records : (rs : List Raw) → length (flat_map raw_bytes rs) ≡ 0 → rs ≡ []
    no_records [] e = refl
    no_records (r ∷ rs) e = let sum : length (raw_bytes r ++ flat_map raw_bytes rs) ≡ length (raw_bytes r) + length (flat_map raw_bytes rs) = length-append (raw_bytes r) (flat_map raw_bytes rs) in absurd (omega (arith, e, sum))

-- and what is kept is what all of them give
pub all_held : (f : Style) (records : List Raw) (known : Known) (number start : ℕ) (left old now : List ℕ) → length left ≡ 0 → IsWalked f records known number start left old now → Holds known (recs records)
all_held f records known number start left old now none w =
    let empty : w.after ≡ [] = no_records w.after (sym (ap length w.spelled) ∙ none) in
    let all : records ≡ w.before = w.all ∙ ap (λ (rs : List Raw). w.before ++ rs) empty ∙ append-nil w.before in
    subst (λ (rs : List Raw). Holds known (recs rs)) (sym all) w.holds
  where
    no_records : (rs : List Raw) → length (flat_map raw_bytes rs) ≡ 0 → rs ≡ []
    no_records [] e = refl
    no_records (r ∷ rs) e = let sum : length (raw_bytes r ++ flat_map raw_bytes rs) ≡ length (raw_bytes r) + length (flat_map raw_bytes rs) = length-append (raw_bytes r) (flat_map raw_bytes rs) in absurd (omega (arith, e, sum))

-- at the start
pub walk_begins : (f : Style) (records : List Raw) (known : Known) (bytes old : List ℕ) → AreRecords bytes records → Holds known [] → IsWalked f records known 0 0 bytes old old
walk_begins f records known bytes old are h = record { before = []; after = records; all = refl; spelled = are.spelled; number = refl; start = refl; holds = h; written = refl }

-- ---- the record that comes next, as it is split off

pub begins : (f : Style) (records : List Raw) (known : Known) (number start : ℕ) (left old now : List ℕ) → IsNext f records known number start left old now → StartsWithRecord left
begins f records known number start left old now n = record { first = n.one; rest = flat_map raw_bytes n.after; spelled = n.spelled; readable = n.readable }

pub front_is : (f : Style) (records : List Raw) (known : Known) (number start : ℕ) (left old now : List ℕ) (n : IsNext f records known number start left old now) → front_record (present left) ≡ n.one
front_is f records known number start left old now n =
    let small = n.readable.is_record.0 in
    ap (λ (x : List ℕ). front_record (present x)) n.spelled ∙ ap front_record (present_raw n.one small (flat_map raw_bytes n.after)) ∙ front_raw n.one small

pub rest_is : (f : Style) (records : List Raw) (known : Known) (number start : ℕ) (left old now : List ℕ) (n : IsNext f records known number start left old now) → after_front left ≡ flat_map raw_bytes n.after
rest_is f records known number start left old now n = ap after_front n.spelled ∙ after_raw n.one n.readable.is_record.0 (flat_map raw_bytes n.after)

-- there are fewer than 2^32 records, it among them
pub counted : (f : Style) (bytes : List ℕ) (records : List Raw) (known : Known) (number start : ℕ) (left old now : List ℕ) → AreRecords bytes records → (n : IsNext f records known number start left old now) → number + 1 < 2 ^ 32
counted f bytes records known number start left old now are n =
    let size : length (n.before ++ n.one ∷ n.after) ≡ length n.before + suc (length n.after) = length-append n.before (n.one ∷ n.after) in
    let all = ap length n.all in
    let few = are.few in
    let is = n.number in
    omega (arith, size, all, few, is)

-- it is shown as the record that it is
pub as_typed : (f : Style) (number start kind checksum : ℕ) (body : List ℕ) (known : Known) (one : Raw) → kind ≡ one.kind → checksum ≡ one.checksum → body ≡ one.body
    → record_text f number start kind checksum (shown_by known kind (contents_or body (read_body kind body))) ≡ record_text f number start one.kind one.checksum (shown_by known one.kind (typed one).contents)
as_typed f number start kind checksum body known one a s b = ap₂ (λ (k : ℕ) (bs : List ℕ). record_text f number start k checksum (shown_by known k (contents_or bs (read_body k bs)))) a b
    ∙ ap (λ (n : ℕ). record_text f number start one.kind n (shown_by known one.kind (typed one).contents)) s

pub kept_typed : (kind : ℕ) (body : List ℕ) (known known' : Known) (one : Raw) → kind ≡ one.kind → body ≡ one.body → Keeps known (contents_or body (read_body kind body)) known' → Keeps known (typed one).contents known'
kept_typed kind body known known' one a b k = subst (λ (c : Contents). Keeps known c known') (ap₂ (λ (n : ℕ) (bs : List ℕ). contents_or bs (read_body n bs)) a b) k

-- the bytes that it takes
pub moved_on : (left rest : List ℕ) (one : Raw) (after : List Raw) → left ≡ raw_bytes one ++ flat_map raw_bytes after → rest ≡ flat_map raw_bytes after → (length rest < length left) × (length left - length rest ≡ length (raw_bytes one))
moved_on left rest one after e r =
    let size : length (raw_bytes one ++ flat_map raw_bytes after) ≡ length (raw_bytes one) + length (flat_map raw_bytes after) = length-append (raw_bytes one) (flat_map raw_bytes after) in
    let all = ap length e in
    let others = ap length r in
    (omega (arith, size, all, others), omega (arith, size, all, others))

-- it was split off and shown: the walk is after it
pub shown_next : (f : Style) (bytes : List ℕ) (records : List Raw) (known known' : Known) (number start kind checksum : ℕ) (body left rest old now now' : List ℕ) → AreRecords bytes records → 0 < length left
    → IsWalked f records known number start left old now → kind ≡ (front_record (present left)).kind → checksum ≡ (front_record (present left)).checksum → body ≡ (front_record (present left)).body → rest ≡ after_front left
    → now' ≡ now ++ record_text f number start kind checksum (shown_by known kind (contents_or body (read_body kind body))) → Keeps known (contents_or body (read_body kind body)) known'
    → IsWalked f records known' (number + 1) (start + (length left - length rest)) rest old now'
shown_next f bytes records known known' number start kind checksum body left rest old now now' are some w k s b r made keeps =
    let n = next_of f bytes records known number start left old now are some w in
    let at = front_is f records known number start left old now n in
    let same_kind = k ∙ ap (λ (x : Raw). x.kind) at in
    let same_sum = s ∙ ap (λ (x : Raw). x.checksum) at in
    let same_body = b ∙ ap (λ (x : Raw). x.body) at in
    let others = r ∙ rest_is f records known number start left old now n in
    let moved = moved_on left rest n.one n.after n.spelled others in
    walked_on f records known known' number (number + 1) start (start + (length left - length rest)) left rest old now now' n others refl (ap (λ (x : ℕ). start + x) moved.1)
    (made ∙ ap (λ (t : List ℕ). now ++ t) (as_typed f number start kind checksum body known n.one same_kind same_sum same_body)) (kept_typed kind body known known' n.one same_kind same_body keeps)
