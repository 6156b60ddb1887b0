-- The records of a module, one after another, and those in their place.
use Rattle.std.proofs.Common.{◌≡◌, ℕ, suc, ◌+◌, ◌-◌, ◌≤◌, ◌<◌, List, [], ◌∷◌, ◌++◌, length, length-append, take, refl, sym, ap, ◌∙◌, subst, arith, append_assoc, append-nil, false, true, Bool}
use Rattle.std.specs.Prelude.{All, flat_map, map, cond}
use Rattle.std.specs.List.{list_any}
use Rattle.std.proofs.lemmas.Grind.{flat_map-append}
use Rattle.std.proofs.lemmas.List.{nil_from_length}
use Rattle.std.proofs.Math.Seq.{take-append_seam}
use Rattle.omf_frame.specs.Bytes.{with_before}
use Rattle.omf_frame.specs.Framing.{Raw, after_front, front_record, present, raw_bytes}
use Rattle.omf_frame.proofs.FramingLaws.{after_raw, front_raw, present_raw}
use Rattle.omf_image.specs.declared.limits.Limits.{Limits}
use Rattle.omf_records.specs.Inner.Reading.{typed}
use Rattle.omf_records.specs.Values.{At, Contents, ExternalItem, Externs}
use Rattle.omf_check.specs.Listed.{IsReadable, StartsWithRecord}
use Rattle.omf_check.specs.Module.{records_in}
use Rattle.omf_check.specs.WellFormed.{IsWellFormed}
use Rattle.omf_check.specs.declared.profile.Profile.{Profile}
use Rattle.omf_check.proofs.WellLaws.{well-read}
use Rattle.omf_communals.specs.Communals.{bytes_with, is_communal, is_extern, record_of, records_by, replaced, variables, variables_in}
use Rattle.omf_communals.specs.Inner.Writing.{SoFar, bytes_by, bytes_in_place, bytes_of_each, so_far_after}
use Rattle.omf_communals.specs.declared.variable.Variable.{Variable}

-- The bytes in place of a record are those of the records in its place.
mapped : (vs : List Variable) (kind : ℕ) (items : List (At ExternalItem)) → flat_map raw_bytes (map (record_of vs kind) items) ≡ bytes_of_each vs kind items
mapped vs kind [] = refl
mapped vs kind (e ∷ items) = ap (λ (b : List ℕ). raw_bytes (record_of vs kind e) ++ b) (mapped vs kind items)

chosen : (b : Bool) (vs : List Variable) (r : Raw) (items : List (At ExternalItem)) → flat_map raw_bytes (cond b (map (record_of vs r.kind) items) (r ∷ [])) ≡ cond b (bytes_of_each vs r.kind items) (raw_bytes r)
chosen true vs r items = mapped vs r.kind items
chosen false vs r items = append-nil (raw_bytes r)

by-contents : (vs : List Variable) (r : Raw) (c : Contents) → flat_map raw_bytes (records_by vs r c) ≡ bytes_by vs r.kind (raw_bytes r) c
by-contents vs r (Externs items) = chosen (list_any (is_communal vs) items) vs r items
by-contents vs r _ = append-nil (raw_bytes r)

by-type : (b : Bool) (vs : List Variable) (r : Raw) (c : Contents) → flat_map raw_bytes (cond b (records_by vs r c) (r ∷ [])) ≡ cond b (bytes_by vs r.kind (raw_bytes r) c) (raw_bytes r)
by-type true vs r c = by-contents vs r c
by-type false vs r c = append-nil (raw_bytes r)

pub in-place : (before : List Raw) (r : Raw) → flat_map raw_bytes (replaced before r) ≡ bytes_in_place (variables before) r.kind r.body (raw_bytes r)
in-place before r = by-type (is_extern r.kind) (variables before) r (typed r).contents

variables-more : (before : List Raw) (r : Raw) → variables (before ++ r ∷ []) ≡ variables before ++ variables_in r.kind r.body
variables-more before r =
    let own = λ (x : Raw). variables_in x.kind x.body in
    flat_map-append own before (r ∷ []) ∙ ap (λ (vs : List Variable). variables before ++ vs) (append-nil (own r))

-- The records so far, this many, are replaced, and the records to come make the module with its communals.
pub record IsReplacing (bytes : List ℕ) (number : ℕ) (s : SoFar) (left : List ℕ) : Type 0 where
  pub before : List Raw
  pub rest : List Raw
  pub spelled : left ≡ flat_map raw_bytes rest
  pub readable : All IsReadable rest
  pub counted : number + length rest ≡ length (records_in bytes)
  pub defined : s.variables ≡ variables before
  pub held : s.bytes ++ flat_map raw_bytes (with_before replaced before rest) ≡ bytes_with bytes

pub walk-starts : (profile : Profile) (limits : Limits) (bytes left : List ℕ) (s : SoFar) → IsWellFormed profile limits bytes (records_in bytes) → left ≡ bytes
    → s ≡ (let y : SoFar = record { variables = []; bytes = [] } in y) → IsReplacing bytes 0 s left
walk-starts profile limits bytes left s w e f = record {
  before = [];
  rest = records_in bytes;
  spelled = e ∙ w.framed.spelled;
  readable = λ k d low. record { is_record = w.framed.each k d low; taken = w.framed.types k d low; typed = (well-read profile limits bytes (records_in bytes) w).spelled k d low };
  counted = omega arith;
  defined = ap (λ (x : SoFar). x.variables) f;
  held = ap (λ (x : SoFar). x.bytes ++ bytes_with bytes) f;
}

-- The record at the front.
all-head : (r : Raw) (rs : List Raw) → All IsReadable (r ∷ rs) → IsReadable r
all-head r rs h = h 0 r (omega arith)

all-tail : (r : Raw) (rs : List Raw) → All IsReadable (r ∷ rs) → All IsReadable rs
all-tail r rs h k d low = let more : suc k < length (r ∷ rs) = omega arith in h (suc k) d more

some-rest : (rs : List Raw) → 0 < length rs → (r : Raw) × (more : List Raw) × (rs ≡ r ∷ more)
some-rest [] low = absurd (omega (arith, low))
some-rest (r ∷ more) low = (r, more, refl)

module _ (bytes : List ℕ) (number : ℕ) (s : SoFar) (left : List ℕ) (a : IsReplacing bytes number s left) (count : ℕ) (few : count ≡ length (records_in bytes)) (low : number < count) where
  some : 0 < length a.rest
  some = let c = a.counted in omega (arith, c, few, low)

  abbrev parts : (r : Raw) × (more : List Raw) × (a.rest ≡ r ∷ more)
  parts = some-rest a.rest some

  abbrev first : Raw
  first = parts.0

  abbrev more : List Raw
  more = parts.1

  readable : All IsReadable (first ∷ more)
  readable = subst (All IsReadable) parts.2 a.readable

  here : left ≡ raw_bytes first ++ flat_map raw_bytes more
  here = a.spelled ∙ ap (flat_map raw_bytes) parts.2

  small : length first.body + 1 < 65536
  small = (all-head first more readable).is_record.0

  pub starts : StartsWithRecord left
  starts = record { first = first; rest = flat_map raw_bytes more; spelled = here; readable = all-head first more readable }

  after-is : after_front left ≡ flat_map raw_bytes more
  after-is = ap after_front here ∙ after_raw first small (flat_map raw_bytes more)

  front-is : front_record (present left) ≡ first
  front-is = ap (λ x. front_record (present x)) here ∙ ap front_record (present_raw first small (flat_map raw_bytes more)) ∙ front_raw first small

  sizes : (after : List ℕ) → after ≡ after_front left → length left ≡ length (raw_bytes first) + length after
  sizes after e = ap length here ∙ length-append (raw_bytes first) (flat_map raw_bytes more) ∙ ap (λ (xs : List ℕ). length (raw_bytes first) + length xs) (sym (e ∙ after-is))

  bytes-are : (after shown : List ℕ) → after ≡ after_front left → shown ≡ take (length left - length after) left → shown ≡ raw_bytes first
  bytes-are after shown e f =
      let z = sizes after e in
      let size : length left - length after ≡ length (raw_bytes first) = omega (arith, z) in
      f ∙ ap (λ (k : ℕ). take k left) size ∙ ap (take (length (raw_bytes first))) here ∙ take-append_seam (raw_bytes first) (flat_map raw_bytes more)

  pub goes-on : (t : SoFar) (kind : ℕ) (body shown after : List ℕ) → kind ≡ (front_record (present left)).kind → body ≡ (front_record (present left)).body → after ≡ after_front left
      → shown ≡ take (length left - length after) left → t ≡ so_far_after s kind body shown → IsReplacing bytes (number + 1) t after
  goes-on t kind body shown after k b e g f =
      let own : t ≡ so_far_after s first.kind first.body (raw_bytes first) =
      f ∙ ap (λ (n : ℕ). so_far_after s n body shown) (k ∙ ap (λ (r : Raw). r.kind) front-is) ∙ ap (λ (x : List ℕ). so_far_after s first.kind x shown) (b ∙ ap (λ (r : Raw). r.body) front-is)
      ∙ ap (so_far_after s first.kind first.body) (bytes-are after shown e g) in
      let others = with_before replaced (a.before ++ first ∷ []) more in
      let mine = bytes_in_place s.variables first.kind first.body (raw_bytes first) in
      record {
        before = a.before ++ first ∷ [];
        rest = more;
        spelled = e ∙ after-is;
        readable = all-tail first more readable;
        counted = let k = a.counted in let l = ap (λ (rs : List Raw). length rs) parts.2 in omega (arith, k, l);
        defined = ap (λ (x : SoFar). x.variables) own ∙ ap (λ (vs : List Variable). vs ++ variables_in first.kind first.body) a.defined ∙ sym (variables-more a.before first);
        held =
            ap (λ (x : SoFar). x.bytes ++ flat_map raw_bytes others) own ∙ append_assoc s.bytes mine (flat_map raw_bytes others)
            ∙ ap (λ (vs : List Variable). s.bytes ++ (bytes_in_place vs first.kind first.body (raw_bytes first) ++ flat_map raw_bytes others)) a.defined
            ∙ ap (λ (b : List ℕ). s.bytes ++ (b ++ flat_map raw_bytes others)) (sym (in-place a.before first))
            ∙ ap (λ (b : List ℕ). s.bytes ++ b) (sym (flat_map-append raw_bytes (replaced a.before first) others))
            ∙ ap (λ (rs : List Raw). s.bytes ++ flat_map raw_bytes (with_before replaced a.before rs)) (sym parts.2) ∙ a.held;
      }

pub walk-ends : (bytes : List ℕ) (number count : ℕ) (s : SoFar) (left : List ℕ) → IsReplacing bytes number s left → count ≡ length (records_in bytes) → count ≤ number → s.bytes ≡ bytes_with bytes
walk-ends bytes number count s left a few high =
    let c = a.counted in
    let none : a.rest ≡ [] = nil_from_length a.rest (let z : length a.rest ≡ 0 = omega (arith, c, few, high) in z) in
    sym (append-nil s.bytes) ∙ ap (λ (rs : List Raw). s.bytes ++ flat_map raw_bytes (with_before replaced a.before rs)) (sym none) ∙ a.held
