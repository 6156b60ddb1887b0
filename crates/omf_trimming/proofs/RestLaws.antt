-- What is left of a module's records where segments are left out.
use Rattle.std.proofs.Common.{◌≡◌, ℕ, suc, ◌+◌, ◌-◌, ◌≤◌, ◌<◌, List, [], ◌∷◌, ◌++◌, length, length-append, take, refl, sym, ap, ◌∙◌, subst, arith, append_assoc, append-nil, true, false, cond, Bool}
use Rattle.std.specs.Prelude.{All, flat_map, Option, Result, Ok}
use Rattle.std.specs.List.{last_or}
use Rattle.std.proofs.lemmas.Grind.{flat_map-append}
use Rattle.std.proofs.lemmas.List.{map-append, nil_from_length}
use Rattle.std.proofs.Math.Seq.{take-append_seam}
use Rattle.omf_frame.specs.Bytes.{is_one_of, with_before}
use Rattle.omf_frame.specs.Fault.{Fault}
use Rattle.omf_frame.specs.Framing.{Raw, after_front, front_record, present, raw_bytes}
use Rattle.omf_frame.proofs.FramingLaws.{after_raw, front_raw, present_raw}
use Rattle.omf_image.specs.declared.limits.Limits.{Limits}
use Rattle.omf_records.specs.Inner.Reading.{read_body, typed}
use Rattle.omf_records.specs.Values.{Contents, Fixups, Iterated, Plain, PublicItems, Publics, Rec, Segment}
use Rattle.omf_check.specs.Listed.{IsReadable, StartsWithRecord}
use Rattle.omf_check.specs.Module.{records_in}
use Rattle.omf_check.specs.Tables.{data_in, defined_segments, last_data, segments}
use Rattle.omf_check.specs.WellFormed.{IsWellFormed, recs}
use Rattle.omf_check.specs.declared.profile.Profile.{Profile}
use Rattle.omf_check.proofs.ListedLaws.{rec_is}
use Rattle.omf_check.proofs.WellLaws.{well-read}
use Rattle.omf_trimming.specs.Without.{Left, Whole, Nothing, Anew, are_of, count_after, emptied, left_by, left_publics, raws_left, rest_of, threads_alone, without, written}
use Rattle.omf_trimming.specs.Inner.Rest.{RestSoFar, bytes_by, gone_after, publics_left, rest_after}
use Rattle.omf_trimming.specs.declared.without.LeftPublics.{LeftPublics}
use Rattle.omf_trimming.specs.declared.without.LeftPublics.TheVariants.{AtStart, Gone, Nameless}
use Rattle.omf_trimming.proofs.LeftLaws.{data-more}

-- What is left of the records so far, this many, and the records to come make the module without these segments.
pub record IsRest (p : LeftPublics) (gone bytes : List ℕ) (number : ℕ) (s : RestSoFar) (left : List ℕ) : Type 0 where
  pub before : List Raw
  pub rest : List Raw
  pub spelled : left ≡ flat_map raw_bytes rest
  pub readable : All IsReadable rest
  pub counted : number + length rest ≡ length (records_in bytes)
  pub low : s.segments ≤ number
  pub mode : s.publics ≡ p
  pub same : s.gone ≡ gone
  pub defined : s.segments ≡ length (segments (recs before))
  pub went : s.after_gone ≡ are_of gone (last_data (recs before))
  pub held : s.bytes ++ flat_map raw_bytes (with_before (rest_of p gone) before rest) ≡ without p gone bytes

pub rest-starts : (p : LeftPublics) (gone : List ℕ) (profile : Profile) (limits : Limits) (bytes left : List ℕ) (s : RestSoFar) → IsWellFormed profile limits bytes (records_in bytes) → left ≡ bytes
    → s ≡ (let y : RestSoFar = record { publics = p; gone = gone; segments = 0; after_gone = false; bytes = [] } in y) → IsRest p gone bytes 0 s left
rest-starts p gone profile limits bytes left s w e f = record {
  before = [];
  rest = records_in bytes;
  spelled = e ∙ w.framed.spelled;
  readable = λ k d low. record { is_record = w.framed.each k d low; taken = w.framed.types k d low; typed = (well-read profile limits bytes (records_in bytes) w).spelled k d low };
  counted = omega arith;
  low = omega (arith, ap (λ (x : RestSoFar). x.segments) f);
  mode = ap (λ (x : RestSoFar). x.publics) f;
  same = ap (λ (x : RestSoFar). x.gone) f;
  defined = ap (λ (x : RestSoFar). x.segments) f;
  went = ap (λ (x : RestSoFar). x.after_gone) f;
  held = ap (λ (x : RestSoFar). x.bytes ++ without p gone bytes) f;
}

-- The record at the front.
all-head : (r : Raw) (rs : List Raw) → All IsReadable (r ∷ rs) → IsReadable r
all-head r rs h = h 0 r (omega arith)

all-tail : (r : Raw) (rs : List Raw) → All IsReadable (r ∷ rs) → All IsReadable rs
all-tail r rs h k d low = let more : suc k < length (r ∷ rs) = omega arith in h (suc k) d more

pub some-rest : (rs : List Raw) → 0 < length rs → (r : Raw) × (more : List Raw) × (rs ≡ r ∷ more)
some-rest [] low = absurd (omega (arith, low))
some-rest (r ∷ more) low = (r, more, refl)

-- The number of SEGDEFs, and the last data, after one record more.
count-low : (n : ℕ) (c : Contents) → count_after n c ≤ n + 1
count-low n (Segment s) = omega arith
count-low n _ = omega arith

pub count-is : (n kind : ℕ) (c : Contents) → count_after n c ≡ n + length (defined_segments kind c)
count-is n kind (Segment s) = omega arith
count-is n kind _ = omega arith

pub segments-more : (ms : List Rec) (r : Rec) → length (segments (ms ++ r ∷ [])) ≡ length (segments ms) + length (defined_segments r.kind r.contents)
segments-more ms r =
    let own = λ (x : Rec). defined_segments x.kind x.contents in
    ap (λ xs. length xs) (flat_map-append own ms (r ∷ [])) ∙ length-append (segments ms) (own r ++ []) ∙ ap (λ xs. length (segments ms) + length xs) (append-nil (own r))

gone-is : (gone : List ℕ) (s : RestSoFar) (o : Option Contents) (c : Contents) → s.gone ≡ gone → s.after_gone ≡ are_of gone o → gone_after s c ≡ are_of gone (last_or o (data_in c))
gone-is gone s o (Plain d) e f = ap (λ (g : List ℕ). is_one_of g d.segment.item) e
gone-is gone s o (Iterated d) e f = ap (λ (g : List ℕ). is_one_of g d.segment.item) e
gone-is gone s o _ e f = f

-- The bytes of what is left of a record.
abbrev left_bytes : Raw → Left → List ℕ
left_bytes r l = flat_map raw_bytes (raws_left r l)

bytes-if : (r : Raw) (b : Bool) (one other : List ℕ) (l k : Left) → one ≡ left_bytes r l → other ≡ left_bytes r k → cond b one other ≡ left_bytes r (cond b l k)
bytes-if r true one other l k e f = e
bytes-if r false one other l k e f = f

itself : (r : Raw) → raw_bytes r ≡ flat_map raw_bytes (r ∷ [])
itself r = sym (append-nil (raw_bytes r))

publics-bytes : (p : LeftPublics) (r : Raw) (q : PublicItems) → publics_left p r.kind q ≡ left_bytes r (left_publics p q)
publics-bytes Gone r q = refl
publics-bytes Nameless r q = refl
publics-bytes AtStart r q = sym (append-nil (publics_left AtStart r.kind q))

bytes-left : (p : LeftPublics) (gone : List ℕ) (n : ℕ) (b : Bool) (r : Raw) (c : Contents) → bytes_by p gone n b (raw_bytes r) r.kind c ≡ left_bytes r (left_by p gone n b c)
bytes-left p gone n b r (Segment s) = bytes-if r (is_one_of gone n) _ _ (Anew (Segment (emptied p s))) Whole (itself (written r.kind (Segment (emptied p s)))) (itself r)
bytes-left p gone n b r (Publics q) = bytes-if r (is_one_of gone q.segment.item) _ _ (left_publics p q) Whole (publics-bytes p r q) (itself r)
bytes-left p gone n b r (Plain d) = bytes-if r (is_one_of gone d.segment.item) _ _ Nothing Whole refl (itself r)
bytes-left p gone n b r (Iterated d) = bytes-if r (is_one_of gone d.segment.item) _ _ Nothing Whole refl (itself r)
bytes-left p gone n b r (Fixups subs) = bytes-if r b _ _ (Anew (Fixups (threads_alone subs))) Whole (itself (written r.kind (Fixups (threads_alone subs)))) (itself r)
bytes-left p gone n b r _ = itself r

module _ (p : LeftPublics) (gone bytes : List ℕ) (number : ℕ) (s : RestSoFar) (left : List ℕ) (a : IsRest p gone bytes number s left) (count : ℕ) (few : count ≡ length (records_in bytes)) (low : number < count) where
  pub some : 0 < length a.rest
  some = let c = a.counted in omega (arith, c, few, low)

  abbrev pub parts : (r : Raw) × (more : List Raw) × (a.rest ≡ r ∷ more)
  parts = some-rest a.rest some

  abbrev pub first : Raw
  first = parts.0

  abbrev pub more : List Raw
  more = parts.1

  readable : All IsReadable (first ∷ more)
  readable = subst (All IsReadable) parts.2 a.readable

  pub first-readable : IsReadable first
  first-readable = all-head first more readable

  here : left ≡ raw_bytes first ++ flat_map raw_bytes more
  here = a.spelled ∙ ap (flat_map raw_bytes) parts.2

  small : length first.body + 1 < 65536
  small = first-readable.is_record.0

  pub starts-rest : StartsWithRecord left
  starts-rest = record { first = first; rest = flat_map raw_bytes more; spelled = here; readable = first-readable }

  after-is : after_front left ≡ flat_map raw_bytes more
  after-is = ap after_front here ∙ after_raw first small (flat_map raw_bytes more)

  pub front-is : front_record (present left) ≡ first
  front-is = ap (λ x. front_record (present x)) here ∙ ap front_record (present_raw first small (flat_map raw_bytes more)) ∙ front_raw first small

  sizes : (after : List ℕ) → after ≡ after_front left → length left ≡ length (raw_bytes first) + length after
  sizes after e = ap length here ∙ length-append (raw_bytes first) (flat_map raw_bytes more) ∙ ap (λ (xs : List ℕ). length (raw_bytes first) + length xs) (sym (e ∙ after-is))

  pub after-shorter : (after : List ℕ) → after ≡ after_front left → length after ≤ length left
  after-shorter after e = let z = sizes after e in omega (arith, z)

  pub bytes-are : (after shown : List ℕ) → after ≡ after_front left → shown ≡ take (length left - length after) left → shown ≡ raw_bytes first
  bytes-are after shown e f =
      let z = sizes after e in
      let size : length left - length after ≡ length (raw_bytes first) = omega (arith, z) in
      f ∙ ap (λ (k : ℕ). take k left) size ∙ ap (take (length (raw_bytes first))) here ∙ take-append_seam (raw_bytes first) (flat_map raw_bytes more)

  pub rec-is : (kind shown : ℕ) (body : List ℕ) (c : Contents) → kind ≡ (front_record (present left)).kind → body ≡ (front_record (present left)).body → shown ≡ kind
      → ◌≡◌ {A = Result Contents Fault} (Ok c) (read_body kind body) → (let x : Rec = record { kind = shown; contents = c } in x) ≡ typed first
  rec-is kind shown body c k b t x =
      rec_is kind shown body first c first-readable (k ∙ ap (λ (r : Raw). r.kind) front-is) (b ∙ ap (λ (r : Raw). r.body) front-is) t x

  pub rest-goes-on : (t : RestSoFar) (after : List ℕ) → after ≡ after_front left → t ≡ rest_after s (raw_bytes first) first.kind (typed first).contents → IsRest p gone bytes (number + 1) t after
  rest-goes-on t after e f =
      let c = (typed first).contents in
      let earlier = recs a.before in
      let later : recs (a.before ++ first ∷ []) ≡ earlier ++ typed first ∷ [] = map-append typed a.before (first ∷ []) in
      let others = with_before (rest_of p gone) (a.before ++ first ∷ []) more in
      let later_bytes = flat_map raw_bytes others in
      let own = bytes_by s.publics s.gone (s.segments + 1) s.after_gone (raw_bytes first) first.kind c in
      let now = rest_of p gone a.before first in
      let counts : t.segments ≡ count_after s.segments c = ap (λ (x : RestSoFar). x.segments) f in
      record {
        before = a.before ++ first ∷ [];
        rest = more;
        spelled = e ∙ after-is;
        readable = all-tail first more readable;
        counted = let k = a.counted in let l = ap (λ (rs : List Raw). length rs) parts.2 in omega (arith, k, l);
        low = let k = a.low in let l = count-low s.segments c in omega (arith, k, l, counts);
        mode = ap (λ (x : RestSoFar). x.publics) f ∙ a.mode;
        same = ap (λ (x : RestSoFar). x.gone) f ∙ a.same;
        defined = counts ∙ count-is s.segments first.kind c ∙ ap (λ (n : ℕ). n + length (defined_segments first.kind c)) a.defined ∙ sym (segments-more earlier (typed first)) ∙ ap (λ (rs : List Rec). length (segments rs)) (sym later);
        went = ap (λ (x : RestSoFar). x.after_gone) f ∙ gone-is gone s (last_data earlier) c a.same a.went ∙ ap (are_of gone) (sym (data-more earlier (typed first)) ∙ ap last_data (sym later));
        held =
            ap (λ (x : RestSoFar). x.bytes ++ later_bytes) f ∙ append_assoc s.bytes own later_bytes
            ∙ ap (λ (q : LeftPublics). s.bytes ++ (bytes_by q s.gone (s.segments + 1) s.after_gone (raw_bytes first) first.kind c ++ later_bytes)) a.mode
            ∙ ap (λ (g : List ℕ). s.bytes ++ (bytes_by p g (s.segments + 1) s.after_gone (raw_bytes first) first.kind c ++ later_bytes)) a.same
            ∙ ap (λ (n : ℕ). s.bytes ++ (bytes_by p gone (n + 1) s.after_gone (raw_bytes first) first.kind c ++ later_bytes)) a.defined
            ∙ ap (λ (b : Bool). s.bytes ++ (bytes_by p gone (length (segments earlier) + 1) b (raw_bytes first) first.kind c ++ later_bytes)) a.went
            ∙ ap (λ (xs : List ℕ). s.bytes ++ (xs ++ later_bytes)) (bytes-left p gone (length (segments earlier) + 1) (are_of gone (last_data earlier)) first c)
            ∙ ap (λ (xs : List ℕ). s.bytes ++ xs) (sym (flat_map-append raw_bytes now others))
            ∙ ap (λ (rs : List Raw). s.bytes ++ flat_map raw_bytes (with_before (rest_of p gone) a.before rs)) (sym parts.2) ∙ a.held;
      }

pub rest-ends : (p : LeftPublics) (gone bytes : List ℕ) (number count : ℕ) (s : RestSoFar) (left : List ℕ) → IsRest p gone bytes number s left → count ≡ length (records_in bytes) → count ≤ number → s.bytes ≡ without p gone bytes
rest-ends p gone bytes number count s left a few high =
    let c = a.counted in
    let none : a.rest ≡ [] = nil_from_length a.rest (let z : length a.rest ≡ 0 = omega (arith, c, few, high) in z) in
    sym (append-nil s.bytes) ∙ ap (λ (rs : List Raw). s.bytes ++ flat_map raw_bytes (with_before (rest_of p gone) a.before rs)) (sym none) ∙ a.held
