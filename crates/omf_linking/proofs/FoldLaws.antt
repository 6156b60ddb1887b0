-- A walk over a module and its folded one, record by record.
use Rattle.std.proofs.Common.{◌≡◌, ℕ, suc, ◌+◌, ◌<◌, List, [], ◌∷◌, ◌++◌, Result, Ok, refl, sym, ◌∙◌, ap, subst, arith, ap₂, false, length, length-append, map, append_assoc, append-nil}
use Rattle.std.specs.Prelude.{◌==◌, All, flat_map}
use Rattle.std.specs.List.{AllZip}
use Rattle.std.proofs.lemmas.Bool.{cond-false}
use Rattle.omf_frame.specs.Fault.{Fault}
use Rattle.omf_frame.specs.Framing.{Raw, raw_bytes, front_record, present, after_front}
use Rattle.omf_frame.proofs.FramingLaws.{present_raw, front_raw, after_raw}
use Rattle.omf_image.specs.declared.limits.Limits.{Limits}
use Rattle.omf_records.specs.Inner.Reading.{typed, read_body}
use Rattle.omf_records.specs.Inner.RecordReaders.{contents_whole}
use Rattle.omf_records.specs.Values.{Carried, Contents, Rec}
use Rattle.omf_check.specs.Listed.{IsReadable, StartsWithRecord}
use Rattle.omf_check.specs.Module.{Module, records_in, recs_of, typed_modules}
use Rattle.omf_check.specs.WellFormed.{IsWellFormed}
use Rattle.omf_check.specs.declared.profile.Profile.{Profile}
use Rattle.omf_check.proofs.WellLaws.{well-read}
use Rattle.omf_check.proofs.ListedLaws.{records_back}
use Rattle.omf_linking.specs.Folded.{IsFolded, folded, folded_contents, folded_names, folded_record, named_contents}
use Rattle.omf_linking.specs.Inner.Folding.{FoldTo, NamedFold}

-- These bytes are readable records.
pub record AreReadable (bytes : List ℕ) : Type 0 where
  pub records : List Raw
  pub spelled : bytes ≡ flat_map raw_bytes records
  pub readable : All IsReadable records

pub readable-module : (profile : Profile) (limits : Limits) (bytes : List ℕ) → IsWellFormed profile limits bytes (records_in bytes) → AreReadable bytes
readable-module profile limits bytes w = record {
  records = records_in bytes;
  spelled = w.framed.spelled;
  readable = λ k d low. record { is_record = w.framed.each k d low; taken = w.framed.types k d low; typed = (well-read profile limits bytes (records_in bytes) w).spelled k d low };
}

all-head : (r : Raw) (rs : List Raw) → All IsReadable (r ∷ rs) → IsReadable r
all-head r rs h = h 0 r (omega arith)

all-tail : (r : Raw) (rs : List Raw) → All IsReadable (r ∷ rs) → All IsReadable rs
all-tail r rs h k d low = let more : suc k < length (r ∷ rs) = omega arith in h (suc k) d more

some-left : (rs : List Raw) (bytes : List ℕ) → bytes ≡ flat_map raw_bytes rs → 0 < length bytes → (r : Raw) × (more : List Raw) × (rs ≡ r ∷ more)
some-left [] bytes e low = absurd (no (length bytes) (ap (λ (b : List ℕ). length b) e) low)
  where
    no : (n : ℕ) → n ≡ 0 → 0 < n → ⊥
    no n e h = omega (arith, e, h)
some-left (r ∷ more) bytes e low = (r, more, refl)

module _ (bytes : List ℕ) (a : AreReadable bytes) (low : 0 < length bytes) where
  abbrev parts : (r : Raw) × (more : List Raw) × (a.records ≡ r ∷ more)
  parts = some-left a.records bytes a.spelled low

  abbrev r : Raw
  r = parts.0

  abbrev more : List Raw
  more = parts.1

  readable : All IsReadable (r ∷ more)
  readable = subst (All IsReadable) parts.2 a.readable

  here : bytes ≡ raw_bytes r ++ flat_map raw_bytes more
  here = a.spelled ∙ ap (flat_map raw_bytes) parts.2

  small : length r.body + 1 < 65536
  small = (all-head r more readable).is_record.0

  pub readable-starts : StartsWithRecord bytes
  readable-starts = record { first = r; rest = flat_map raw_bytes more; spelled = here; readable = all-head r more readable }

  after-is : after_front bytes ≡ flat_map raw_bytes more
  after-is = ap after_front here ∙ after_raw r small (flat_map raw_bytes more)

  front-is : front_record (present bytes) ≡ r
  front-is = ap (λ x. front_record (present x)) here ∙ ap front_record (present_raw r small (flat_map raw_bytes more)) ∙ front_raw r small

  pub readable-less : (rest : List ℕ) → rest ≡ after_front bytes → length rest < length bytes
  readable-less rest e =
      let s = ap (λ (b : List ℕ). length b) here in
      let t = length-append (raw_bytes r) (flat_map raw_bytes more) in
      let f = ap (λ (b : List ℕ). length b) (e ∙ after-is) in
      omega (arith, s, t, f)

  pub readable-rest : (rest : List ℕ) → rest ≡ after_front bytes → AreReadable rest
  readable-rest rest e = record { records = more; spelled = e ∙ after-is; readable = all-tail r more readable }

  pub readable-recs : (rest : List ℕ) → rest ≡ after_front bytes → recs_of bytes ≡ typed (front_record (present bytes)) ∷ recs_of rest
  readable-recs rest e =
      ap (map typed) (records_back bytes (r ∷ more) here readable)
      ∙ ap (λ (x : Raw). typed x ∷ map typed more) (sym front-is)
      ∙ ap (λ (rs : List Raw). typed (front_record (present bytes)) ∷ map typed rs) (sym (records_back rest more (e ∙ after-is) (all-tail r more readable)))

-- The contents of a readable record are read.
pub readable-read : (kind : ℕ) (body : List ℕ) (r : Raw) → IsReadable r → kind ≡ r.kind → body ≡ r.body → read_body kind body ≡ Ok (typed r).contents
readable-read kind body r h k b = ap (λ y. read_body y body) k ∙ ap (read_body r.kind) b ∙ (contents_whole r.kind).again 3 r.body (typed r).contents h.typed

pub contents-same : (kind : ℕ) (body : List ℕ) (c d : Contents) → ◌≡◌ {A = Result Contents Fault} (Ok c) (read_body kind body) → read_body kind body ≡ Ok d → c ≡ d
contents-same kind body c d e f = ok-same c d (e ∙ f)
  where
    ok-same : (c d : Contents) → ◌≡◌ {A = Result Contents Fault} (Ok c) (Ok d) → c ≡ d
    ok-same c d x = cc

-- A record beside its folded one.
pub typed-folds : (r s : Raw) (kind lower : ℕ) (body lowered : List ℕ) → IsReadable r → IsReadable s → kind ≡ r.kind → body ≡ r.body → lower ≡ s.kind → lowered ≡ s.body → FoldTo kind body lower lowered
    → typed s ≡ folded_record (typed r)
typed-folds r s kind lower body lowered h g k b u t f =
    let same : s.kind ≡ r.kind = sym u ∙ f.same ∙ k in
    let held = f.contents (typed r).contents (typed s).contents (readable-read kind body r h k b) (readable-read lower lowered s g u t) in
    let by_kind = λ (n : ℕ). let y : Rec = record { kind = n; contents = (typed s).contents } in y in
    let by_contents = λ (d : Contents). let y : Rec = record { kind = r.kind; contents = d } in y in
    ap by_kind same ∙ ap by_contents held ∙ ap (λ (n : ℕ). by_contents (folded_contents n (typed r).contents)) k

-- A record that is no ALIAS, and one that is.
pub no-alias : (kind : ℕ) (c d : Contents) → (kind == 0xC6) ≡ false → d ≡ named_contents c → d ≡ folded_contents kind c
no-alias kind (Carried bytes) d e h = h ∙ sym (cond-false (kind == 0xC6) (Carried (folded_names 0 bytes)) (Carried bytes) e)
no-alias kind _ d e h = h

carried-is : (body : List ℕ) (c : Contents) → read_body 0xC6 body ≡ Ok c → c ≡ Carried body
carried-is body c e = ok-same c (Carried body) (sym e)
  where
    ok-same : (c d : Contents) → ◌≡◌ {A = Result Contents Fault} (Ok c) (Ok d) → c ≡ d
    ok-same c d x = cc

pub alias-folds : (kind lower : ℕ) (body lowered : List ℕ) → kind ≡ 0xC6 → lower ≡ kind → lowered ≡ folded_names 0 body → FoldTo kind body lower lowered
alias-folds kind lower body lowered k same e = record {
  same = same;
  contents = λ c d f g.
      let here = carried-is body c (sym (ap (λ n. read_body n body) k) ∙ f) in
      let there = carried-is lowered d (sym (ap (λ n. read_body n lowered) (same ∙ k)) ∙ g) in
      there ∙ ap Carried e ∙ sym (ap₂ (λ n x. folded_contents n x) k here);
}

pub named-folds : (kind lower : ℕ) (body lowered : List ℕ) → (kind == 0xC6) ≡ false → NamedFold kind body lower lowered → FoldTo kind body lower lowered
named-folds kind lower body lowered e f = record { same = f.same; contents = λ c d g h. no-alias kind c d e (f.contents c d g h) }

-- One record more of both: what is left folds if the rest does.
pub folds-more : (left right after others : List ℕ) (a : AreReadable left) (b : AreReadable right) (low : 0 < length left) (some : 0 < length right) → after ≡ after_front left → others ≡ after_front right
    → typed (front_record (present right)) ≡ folded_record (typed (front_record (present left))) → recs_of others ≡ folded (recs_of after) → recs_of right ≡ folded (recs_of left)
folds-more left right after others a b low some e f front rest =
    readable-recs right b some others f
    ∙ ap (λ (x : Rec). x ∷ recs_of others) front
    ∙ ap (λ (xs : List Rec). folded_record (typed (front_record (present left))) ∷ xs) rest
    ∙ ap folded (sym (readable-recs left a low after e))

pub no-records : (left right : List ℕ) → length left ≡ 0 → length right ≡ 0 → recs_of right ≡ folded (recs_of left)
no-records [] [] e f = refl
no-records [] (x ∷ xs) e f = absurd cc
no-records (x ∷ xs) right e f = absurd cc

-- The records of folded modules.
pub typed-folded : (ms ns : List Module) → AllZip IsFolded ms ns → typed_modules ns ≡ map folded (typed_modules ms)
typed-folded [] [] h = refl
typed-folded [] (n ∷ ns) h = absurd h
typed-folded (m ∷ ms) [] h = absurd h
typed-folded (m ∷ ms) (n ∷ ns) (f, h) = ap (λ (x : List Rec). x ∷ typed_modules ns) f.records ∙ ap (λ (xs : List (List Rec)). folded (recs_of m.bytes) ∷ xs) (typed-folded ms ns h)

-- The modules so far were folded, and those that are left.
pub folded-more : (ms all new left rest : List Module) (m n : Module) → ((later : List Module) → AllZip IsFolded left later → AllZip IsFolded ms (all ++ later)) → left ≡ m ∷ rest → IsFolded m n → new ≡ all ++ n ∷ []
    → (later : List Module) → AllZip IsFolded rest later → AllZip IsFolded ms (new ++ later)
folded-more ms all new left rest m n held e f added later h =
    subst (λ (xs : List Module). AllZip IsFolded ms xs) (sym (ap (λ (xs : List Module). xs ++ later) added ∙ append_assoc all (n ∷ []) later))
    (held (n ∷ later) (subst (λ (xs : List Module). AllZip IsFolded xs (n ∷ later)) (sym e) (f, h)))

pub folded-end : (ms all left : List Module) → ((later : List Module) → AllZip IsFolded left later → AllZip IsFolded ms (all ++ later)) → left ≡ [] → AllZip IsFolded ms all
folded-end ms all left held e =
    subst (λ (xs : List Module). AllZip IsFolded ms xs) (append-nil all) (held [] (subst (λ (xs : List Module). AllZip IsFolded xs []) (sym e) tt))
