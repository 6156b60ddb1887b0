-- The bytes that are left of a module, after some of its records.
use Rattle.std.proofs.Common.{◌≡◌, ℕ, ◌+◌, ◌<◌, ◌≤◌, List, [], ◌∷◌, ◌++◌, length, refl, sym, ◌∙◌, ap, subst, arith, length-append, Result, Ok, true}
use Rattle.std.specs.Prelude.{All, flat_map, IsTrue, is_ok}
use Rattle.std.proofs.lemmas.List.Elements.{All-head, All-tail}
use Rattle.omf_frame.specs.Fault.{Fault}
use Rattle.omf_frame.specs.Framing.{Raw, raw_bytes, front_record, present, after_front, is_taken}
use Rattle.omf_frame.proofs.FramingLaws.{present_raw, front_raw, after_raw}
use Rattle.omf_records.specs.Inner.Reading.{typed, read_body}
use Rattle.omf_records.specs.Inner.RecordReaders.{contents_whole}
use Rattle.omf_records.specs.Records.{contents}
use Rattle.omf_records.specs.Values.{Contents}
use Rattle.omf_image.specs.declared.limits.Limits.{Limits}
use Rattle.omf_check.specs.Listed.{IsReadable, StartsWithRecord}
use Rattle.omf_check.specs.Module.{records_in}
use Rattle.omf_check.specs.WellFormed.{IsWellFormed}
use Rattle.omf_check.specs.declared.profile.Profile.{Profile}
use Rattle.omf_check.proofs.WellLaws.{well-read}
use Rattle.omf_check.proofs.ListedLaws.{front_taken, front_short}

-- The contents that are read are those that are spelled.
pub read-same : (kind : ℕ) (body : List ℕ) (c d : Contents) → ◌≡◌ {A = Result Contents Fault} (Ok c) (read_body kind body) → (contents kind).Spells 3 body d → c ≡ d
read-same kind body c d e s = same c d (e ∙ (contents_whole kind).again 3 body d s)
  where
    same : (x y : Contents) → ◌≡◌ {A = Result Contents Fault} (Ok x) (Ok y) → x ≡ y
    same x y e = cc

-- They are these records.
pub record AreLeft (left : List ℕ) (records : List Raw) : Type 0 where
  pub spelled : left ≡ flat_map raw_bytes records
  pub readable : All IsReadable records

pub all-left : (profile : Profile) (limits : Limits) (bytes : List ℕ) → IsWellFormed profile limits bytes (records_in bytes) → AreLeft bytes (records_in bytes)
all-left profile limits bytes w = record {
  spelled = w.framed.spelled;
  readable = λ k d low. record { is_record = w.framed.each k d low; taken = w.framed.types k d low; typed = (well-read profile limits bytes (records_in bytes) w).spelled k d low };
}

some-left : (rs : List Raw) (bytes : List ℕ) → bytes ≡ flat_map raw_bytes rs → 0 < length bytes → (r : Raw) × (more : List Raw) × (rs ≡ r ∷ more)
some-left [] bytes e low = absurd (no (length bytes) (ap (λ (b : List ℕ). length b) e) low)
  where
    no : (n : ℕ) → n ≡ 0 → 0 < n → ⊥
    no n e h = omega (arith, e, h)
some-left (r ∷ more) bytes e low = (r, more, refl)

pub none-left : (rs : List Raw) → [] ≡ flat_map raw_bytes rs → rs ≡ []
none-left [] e = refl
none-left (r ∷ rs) e = absurd (nothing (length (raw_bytes r ++ flat_map raw_bytes rs)) (ap (λ (b : List ℕ). length b) e) (omega (arith, length-append (raw_bytes r) (flat_map raw_bytes rs))))
  where
    nothing : (n : ℕ) → 0 ≡ n → 0 < n → ⊥
    nothing n e h = omega (arith, e, h)

module _ (left : List ℕ) (records : List Raw) (h : AreLeft left records) (low : 0 < length left) where
  pub parts : (r : Raw) × (more : List Raw) × (records ≡ r ∷ more)
  parts = some-left records left h.spelled low

  abbrev r : Raw
  r = parts.0

  abbrev more : List Raw
  more = parts.1

  readable : All IsReadable (r ∷ more)
  readable = subst (All IsReadable) parts.2 h.readable

  here : left ≡ raw_bytes r ++ flat_map raw_bytes more
  here = h.spelled ∙ ap (flat_map raw_bytes) parts.2

  first-readable : IsReadable r
  first-readable = All-head IsReadable r more readable

  small : length r.body + 1 < 65536
  small = first-readable.is_record.0

  pub left-starts : StartsWithRecord left
  left-starts = record { first = r; rest = flat_map raw_bytes more; spelled = here; readable = first-readable }

  front-is : front_record (present left) ≡ r
  front-is = ap (λ x. front_record (present x)) here ∙ ap front_record (present_raw r small (flat_map raw_bytes more)) ∙ front_raw r small

  after-is : after_front left ≡ flat_map raw_bytes more
  after-is = ap after_front here ∙ after_raw r small (flat_map raw_bytes more)

  pub left-size : (rest : List ℕ) → rest ≡ after_front left → length left ≡ length (raw_bytes r) + length rest
  left-size rest e = ap (λ (b : List ℕ). length b) here ∙ length-append (raw_bytes r) (flat_map raw_bytes more) ∙ ap (λ (b : List ℕ). length (raw_bytes r) + length b) (sym (e ∙ after-is))

  pub left-less : (rest : List ℕ) → rest ≡ after_front left → length rest < length left
  left-less rest e = let s = left-size rest e in omega (arith, s)

  pub left-next : (rest : List ℕ) → rest ≡ after_front left → AreLeft rest more
  left-next rest e = record { spelled = e ∙ after-is; readable = All-tail IsReadable r more readable }

  pub left-kind : (kind : ℕ) → kind ≡ (front_record (present left)).kind → kind ≡ r.kind
  left-kind kind k = k ∙ ap (λ (x : Raw). x.kind) front-is

  pub left-body : (body : List ℕ) → body ≡ (front_record (present left)).body → body ≡ r.body
  left-body body b = b ∙ ap (λ (x : Raw). x.body) front-is

  pub left-taken : (kind : ℕ) → kind ≡ (front_record (present left)).kind → IsTrue (is_taken kind)
  left-taken kind k = front_taken left kind left-starts k

  pub left-short : (body : List ℕ) → body ≡ (front_record (present left)).body → length body ≤ 65534
  left-short body b = front_short left body left-starts b

  module _ (kind : ℕ) (body : List ℕ) (k : kind ≡ (front_record (present left)).kind) (b : body ≡ (front_record (present left)).body) where
    pub left-spelled : (contents kind).Spells 3 body (typed r).contents
    left-spelled =
        subst (λ (x : ℕ). (contents x).Spells 3 body (typed r).contents) (sym (left-kind kind k))
        (subst (λ (y : List ℕ). (contents r.kind).Spells 3 y (typed r).contents) (sym (left-body body b)) first-readable.typed)

    pub left-read : is_ok (read_body kind body) ≡ true
    left-read = ap is_ok ((contents_whole kind).again 3 body (typed r).contents left-spelled)
