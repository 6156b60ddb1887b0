-- The records of a checked module are read in order.
use Rattle.std.proofs.Common.{◌≡◌, ℕ, suc, ◌+◌, ◌-◌, ◌*◌, ◌/◌, ◌%◌, ◌^◌, ◌<◌, ◌≤◌, List, [], ◌∷◌, ◌++◌, Result, Ok, refl, sym, ◌∙◌, ap, subst, arith, length, length-append}
use Rattle.std.specs.Prelude.{All, flat_map, map, IsTrue, Bool, true, false, is_ok, ◌==◌}
use Rattle.omf_frame.specs.Framing.{Raw, raw_bytes, IsRecord, is_taken, front_record, present, after_front}
use Rattle.omf_frame.specs.Fault.{Fault}
use Rattle.omf_frame.specs.declared.fault.Place.{Place}
use Rattle.omf_frame.proofs.FramingLaws.{present_raw, front_raw, after_raw}
use Rattle.omf_records.specs.Inner.Reading.{typed, read_body}
use Rattle.omf_records.specs.Inner.RecordReaders.{contents_whole}
use Rattle.omf_records.specs.Values.{Rec, Contents}
use Rattle.omf_image.specs.Limits.{profile_limits}
use Rattle.omf_check.specs.declared.profile.Profile.{Profile}
use Rattle.omf_check.specs.Inner.Kept.{Kept}
use Rattle.omf_check.specs.Listed.{placed_from, IsReadable, StartsWithRecord, AreListed}
use Rattle.omf_check.specs.Module.{records_in}
use Rattle.omf_check.specs.Inner.Parts.{IsChecked}
use Rattle.omf_check.specs.WellFormed.{IsWellFormed, recs}
use Rattle.omf_check.proofs.WellLaws.{well-read}
use Rattle.omf_check.proofs.Moving.{item_more, records_size}
use Rattle.omf_check.proofs.SessionLaws.{split_all}

all_head : (P : Raw → Type 0) (r : Raw) (rs : List Raw) → All P (r ∷ rs) → P r
all_head P r rs h = h 0 r (omega arith)

all_tail : (P : Raw → Type 0) (r : Raw) (rs : List Raw) → All P (r ∷ rs) → All P rs
all_tail P r rs h k d low = let more : suc k < length (r ∷ rs) = omega arith in h (suc k) d more

all_records : (rs : List Raw) → All IsReadable rs → All IsRecord rs
all_records rs h k d low = (h k d low).is_record

pub records_back : (bytes : List ℕ) (rs : List Raw) → bytes ≡ flat_map raw_bytes rs → All IsReadable rs → records_in bytes ≡ rs
records_back bytes rs e h = ap records_in e ∙ split_all (length (flat_map raw_bytes rs)) rs (all_records rs h) (omega arith)

-- no bytes, no records
none_left : (rs : List Raw) → [] ≡ flat_map raw_bytes rs → rs ≡ []
none_left [] e = refl
none_left (r ∷ rs) e = absurd (nothing r.kind ((length r.body + 1) % 256 ∷ (length r.body + 1) / 256 ∷ (r.body ++ r.checksum ∷ []) ++ flat_map raw_bytes rs) e)
  where
    nothing : (x : ℕ) (xs : List ℕ) → [] ≡ x ∷ xs → ⊥
    nothing x xs e = cc

some_left : (rs : List Raw) (bytes : List ℕ) → bytes ≡ flat_map raw_bytes rs → 0 < length bytes → (r : Raw) × (more : List Raw) × (rs ≡ r ∷ more)
some_left [] bytes e low = absurd (no (length bytes) (ap length e) low)
  where
    no : (n : ℕ) → n ≡ 0 → 0 < n → ⊥
    no n e h = omega (arith, e, h)
some_left (r ∷ more) bytes e low = (r, more, refl)

module _ (bytes : List ℕ) (number start : ℕ) (a : AreListed bytes number start) where
  pub ends : bytes ≡ [] → placed_from number start (records_in bytes) ≡ []
  ends e = ap (placed_from number start) (ap records_in e)

  module _ (low : 0 < length bytes) where
    abbrev parts : (r : Raw) × (more : List Raw) × (a.records ≡ r ∷ more)
    parts = some_left a.records bytes a.spelled low

    abbrev r : Raw
    r = parts.0

    abbrev more : List Raw
    more = parts.1

    readable : All IsReadable (r ∷ more)
    readable = subst (All IsReadable) parts.2 a.readable

    here : bytes ≡ raw_bytes r ++ flat_map raw_bytes more
    here = a.spelled ∙ ap (flat_map raw_bytes) parts.2

    small : length r.body + 1 < 65536
    small = (all_head IsReadable r more readable).is_record.0

    pub starts : StartsWithRecord bytes
    starts = record { first = r; rest = flat_map raw_bytes more; spelled = here; readable = all_head IsReadable r more readable }

    after_is : after_front bytes ≡ flat_map raw_bytes more
    after_is = ap after_front here ∙ after_raw r small (flat_map raw_bytes more)

    front_is : front_record (present bytes) ≡ r
    front_is = ap (λ x. front_record (present x)) here ∙ ap front_record (present_raw r small (flat_map raw_bytes more)) ∙ front_raw r small

    sizes : length bytes ≡ length (raw_bytes r) + length (flat_map raw_bytes more)
    sizes = ap length here ∙ length-append (raw_bytes r) (flat_map raw_bytes more)

    pub shorter : (rest : List ℕ) → rest ≡ after_front bytes → length rest ≤ length bytes
    shorter rest e = let s = sizes in let f = ap length (e ∙ after_is) in omega (arith, s, f)

    pub less : (rest : List ℕ) → rest ≡ after_front bytes → length rest < length bytes
    less rest e = let s = sizes in let f = ap length (e ∙ after_is) in omega (arith, s, f)

    pub list_rest : (rest : List ℕ) → rest ≡ after_front bytes → AreListed rest (number + 1) (start + (length bytes - length rest))
    list_rest rest e = record {
      records = more;
      spelled = e ∙ after_is;
      readable = all_tail IsReadable r more readable;
      few = let f = a.few in let g = ap length parts.2 in omega (arith, f, g);
      short = let s = sizes in let t = a.short in let u = ap length (e ∙ after_is) in omega (arith, s, t, u);
    }

    pub split_here : (rest : List ℕ) → rest ≡ after_front bytes → records_in bytes ≡ front_record (present bytes) ∷ records_in rest
    split_here rest e =
        records_back bytes (r ∷ more) here readable
        ∙ ap (λ x. x ∷ more) (sym front_is)
        ∙ ap (λ rs. front_record (present bytes) ∷ rs) (sym (records_back rest more (e ∙ after_is) (all_tail IsReadable r more readable)))

    pub list_here : (rest : List ℕ) → rest ≡ after_front bytes
        → placed_from number start (records_in bytes)
        ≡ (record { number = number; start = start; within = 0 }, typed (front_record (present bytes))) ∷ placed_from (number + 1) (start + (length bytes - length rest)) (records_in rest)
    list_here rest e =
        let u = ap length (e ∙ after_is) in
        let s = sizes in
        let size : length (raw_bytes r) ≡ length bytes - length rest = omega (arith, s, u) in
        let at : Place = record { number = number; start = start; within = 0 } in
        let row = λ (x : Rec) (n : ℕ) (rs : List Raw). let l : List (Place × Rec) = (at, x) ∷ placed_from (number + 1) (start + n) rs in l in
        ap (placed_from number start) (records_back bytes (r ∷ more) here readable)
        ∙ ap (λ x. row (typed x) (length (raw_bytes r)) more) (sym front_is)
        ∙ ap (λ n. row (typed (front_record (present bytes))) n more) size
        ∙ ap (λ rs. row (typed (front_record (present bytes))) (length bytes - length rest) rs) (sym (records_back rest more (e ∙ after_is) (all_tail IsReadable r more readable)))

-- The first record.
pub front_of : (bytes : List ℕ) → StartsWithRecord bytes → IsReadable (front_record (present bytes))
front_of bytes s =
    let small = s.readable.is_record.0 in
    let e : front_record (present bytes) ≡ s.first = ap (λ x. front_record (present x)) s.spelled ∙ ap front_record (present_raw s.first small s.rest) ∙ front_raw s.first small in
    subst IsReadable (sym e) s.readable

again : (r : Raw) → IsReadable r → read_body r.kind r.body ≡ Ok (typed r).contents
again r h = (contents_whole r.kind).again 3 r.body (typed r).contents h.typed

pub well_read : (kind : ℕ) (body : List ℕ) (r : Raw) → IsReadable r → kind ≡ r.kind → body ≡ r.body → is_ok (read_body kind body) ≡ true
well_read kind body r h k b = ap is_ok (ap (λ y. read_body y body) k ∙ ap (read_body r.kind) b ∙ again r h)

pub rec_is : (kind shown : ℕ) (body : List ℕ) (r : Raw) (c : Contents) → IsReadable r → kind ≡ r.kind → body ≡ r.body → shown ≡ kind → ◌≡◌ {A = Result Contents Fault} (Ok c) (read_body kind body)
    → (let x : Rec = record { kind = shown; contents = c } in x) ≡ typed r
rec_is kind shown body r c h k b s x =
    let same : c ≡ (typed r).contents = ok_same c (typed r).contents (x ∙ ap (λ y. read_body y body) k ∙ ap (read_body r.kind) b ∙ again r h) in
    let by_kind = λ (n : ℕ). let y : Rec = record { kind = n; contents = c } in y in
    let by_contents = λ (d : Contents). let y : Rec = record { kind = r.kind; contents = d } in y in
    ap by_kind (s ∙ k) ∙ ap by_contents same
  where
    ok_same : (c d : Contents) → ◌≡◌ {A = Result Contents Fault} (Ok c) (Ok d) → c ≡ d
    ok_same c d x = cc

pub front_taken : (bytes : List ℕ) (kind : ℕ) → StartsWithRecord bytes → kind ≡ (front_record (present bytes)).kind → IsTrue (is_taken kind)
front_taken bytes kind s e = subst (λ k. IsTrue (is_taken k)) (sym e) (front_of bytes s).taken

pub front_short : (bytes body : List ℕ) → StartsWithRecord bytes → body ≡ (front_record (present bytes)).body → length body ≤ 65534
front_short bytes body s e = let h = (front_of bytes s).is_record.0 in let f = ap length e in omega (arith, h, f)

-- A checked module's records are listed from its start.
pub checked_list : (profile : Profile) (bytes : List ℕ) (kept : Kept) (count : ℕ) → IsChecked profile bytes kept count → AreListed bytes 0 0
checked_list profile bytes kept count c =
    let w : IsWellFormed profile profile_limits bytes (records_in bytes) = c.well_formed in
    let rs : List Raw = records_in bytes in
    let s : length bytes ≡ length (flat_map raw_bytes rs) = ap length w.framed.spelled in
    let z = records_size rs w.framed.each in
    let m = item_more rs in let t = c.tells.items in let b = c.bounded.items in
    record {
      records = rs;
      spelled = w.framed.spelled;
      readable = λ k d low. record { is_record = w.framed.each k d low; taken = w.framed.types k d low; typed = (well-read profile profile_limits bytes (records_in bytes) w).spelled k d low };
      few = omega (arith, m, t, b);
      short = far (length bytes) (length (flat_map raw_bytes rs)) (length rs) s z (let le : length rs ≤ 1048576 = omega (arith, m, t, b) in le);
    }
  where
    far : (whole size n : ℕ) → whole ≡ size → size ≤ 65538 * n → n ≤ 1048576 → 0 + whole ≤ 2 ^ 40
    far whole size n e h k = omega (arith, e, h, k)

pub not_empty : (bytes : List ℕ) (b : Bool) → b ≡ (length bytes == 0) → b ≡ false → 0 < length bytes
not_empty [] b e f = absurd (clash (sym e ∙ f))
  where
    clash : true ≡ false → ⊥
    clash e = cc
not_empty (x ∷ bytes) b e f = omega arith

pub fewer : (xs ys : List (Place × Rec)) (x : Place × Rec) → xs ≡ x ∷ ys → length ys < length xs
fewer xs ys x e = rw e (omega arith)

-- The records of a checked module, without their places.
pub records_listed : (number start : ℕ) (rs : List Raw) → map (λ x. x.1) (placed_from number start rs) ≡ recs rs
records_listed number start [] = refl
records_listed number start (r ∷ rs) = ap (λ t. typed r ∷ t) (records_listed (number + 1) (start + length (raw_bytes r)) rs)
