-- A record that is split off a checked module is known to be valid.
use Rattle.std.proofs.Common.{◌≡◌, ℕ, List, inl, inr, refl, sym, ◌∙◌, ap, subst, Result, Ok}
use Rattle.std.specs.Prelude.{is_ok, true, false, Bool, ◌==◌, not, if◌then◌else◌}
use Rattle.omf_frame.specs.Bytes.{is_one_of}
use Rattle.omf_frame.specs.Types.{is_local, ledata, width_of}
use Rattle.omf_frame.specs.declared.kinds.Width.{Width}
use Rattle.omf_frame.specs.declared.kinds.Width.TheVariants.{Bits16, Bits32}
use Rattle.omf_frame.specs.Fault.{Fault}
use Rattle.omf_frame.specs.Framing.{front_record, present}
use Rattle.omf_records.specs.Inner.Reading.{typed, read_body}
use Rattle.omf_records.specs.Inner.RecordReaders.{contents_whole}
use Rattle.omf_records.specs.Inner.Seen.{odd_if}
use Rattle.omf_records.specs.Records.{IsTyped}
use Rattle.omf_records.specs.Values.{Rec, Contents, Comment, Segment, Externs, Publics, Communals, Plain, Iterated, Fixups, ModEnd}
use Rattle.omf_check.specs.declared.contents.Publics.{Publics as CodePublics}
use Rattle.omf_check.specs.Inner.Contents.{publics_seen}
use Rattle.omf_check.specs.Inner.Known.{IsKnown, HasType, known, has_data, has_externals, has_publics, has_references, has_segment, holds_comment, holds_data, holds_externals, holds_publics, holds_references, holds_segment}
use Rattle.omf_check.specs.Listed.{StartsWithRecord}
use Rattle.omf_check.proofs.ListedLaws.{front_of, front_short, front_taken}
use Rattle.omf_check.proofs.TypeLaws.{has-type, never, never-one, one-same}

module _ (kind : ℕ) (body : List ℕ) (h : IsKnown kind body) where
  is-read : read_body kind body ≡ Ok (known kind body).contents
  is-read = (contents_whole kind).again 3 body (known kind body).contents h.typed

  pub known-spelled : is_ok (read_body kind body) ≡ true
  known-spelled = ap is_ok is-read

  pub known-type : HasType kind (known kind body).contents
  known-type = has-type kind 3 body (known kind body).contents h.typed

  -- what is decoded is the record
  pub known-decoded : (shown : ℕ) (c : Contents) → shown ≡ kind → ◌≡◌ {A = Result Contents Fault} (Ok c) (read_body kind body) → (let x : Rec = record { kind = shown; contents = c } in x) ≡ known kind body
  known-decoded shown c k e =
      ap (λ (n : ℕ). let y : Rec = record { kind = n; contents = c } in y) k
      ∙ ap (λ (d : Contents). let y : Rec = record { kind = kind; contents = d } in y) (same c (known kind body).contents (e ∙ is-read))
    where
      same : (c d : Contents) → ◌≡◌ {A = Result Contents Fault} (Ok c) (Ok d) → c ≡ d
      same c d x = cc

-- a record of another type does not hold them
module _ (kind : ℕ) where
  no-comment : (c : Contents) → (kind == 0x88) ≡ false → HasType kind c → holds_comment c ≡ false
  no-comment (Comment t x b) e h = absurd (never 0x88 kind (λ k. k == 0x88) refl e h)
  no-comment (Segment s) e h = refl
  no-comment _ e h = refl

  no-segment : (c : Contents) → has_segment kind ≡ false → HasType kind c → holds_segment c ≡ false
  no-segment (Segment s) e h = absurd (never-one 0x98 0x99 kind has_segment refl refl e h)
  no-segment (Plain d) e h = refl
  no-segment _ e h = refl

  no-externals : (c : Contents) → has_externals kind ≡ false → HasType kind c → holds_externals c ≡ false
  no-externals (Externs xs) e h = elim h [ inl x ↦ absurd (never 0x8C kind has_externals refl e x) | inr x ↦ absurd (never-one 0xB4 0xB5 kind has_externals refl refl e x) ]
  no-externals (Communals xs) e h = elim h [ inl x ↦ absurd (never 0xB0 kind has_externals refl e x) | inr x ↦ absurd (never 0xB8 kind has_externals refl e x) ]
  no-externals _ e h = refl

  no-references : (c : Contents) → has_references kind ≡ false → HasType kind c → holds_references c ≡ false
  no-references (Fixups xs) e h = absurd (never-one 0x9C 0x9D kind has_references refl refl e h)
  no-references (ModEnd t s) e h = absurd (never-one 0x8A 0x8B kind has_references refl refl e h)
  no-references _ e h = refl

  no-data : (c : Contents) → has_data kind ≡ false → HasType kind c → holds_data c ≡ false
  no-data (Plain d) e h = absurd (never-one 0xA0 0xA1 kind has_data refl refl e h)
  no-data (Iterated d) e h = absurd (never-one 0xA2 0xA3 kind has_data refl refl e h)
  no-data _ e h = refl

  no-publics : (local : Bool) (c : Contents) → has_publics local kind ≡ false → HasType kind c → holds_publics local kind c ≡ false
  no-publics true (Publics p) e h = elim h [ inl x ↦ one-same 0x90 0x91 kind (λ k. is_local k ≡ false) refl refl x | inr x ↦ absurd (never-one 0xB6 0xB7 kind (has_publics true) refl refl e x) ]
  no-publics false (Publics p) e h = elim h [ inl x ↦ absurd (never-one 0x90 0x91 kind (has_publics false) refl refl e x) | inr x ↦ one-same 0xB6 0xB7 kind (λ k. not (is_local k) ≡ false) refl refl x ]
  no-publics true (Plain d) e h = refl
  no-publics true _ e h = refl
  no-publics false _ e h = refl

-- the same of a known record, as its model has it
module _ (kind : ℕ) (body : List ℕ) (h : IsKnown kind body) (x : Rec) (e : known kind body ≡ x) where
  typed-as : HasType kind x.contents
  typed-as = subst (λ (r : Rec). HasType kind r.contents) e (known-type kind body h)

  pub is-no-comment : (kind == 0x88) ≡ false → holds_comment x.contents ≡ false
  is-no-comment b = no-comment kind x.contents b typed-as

  pub is-no-segment : has_segment kind ≡ false → holds_segment x.contents ≡ false
  is-no-segment b = no-segment kind x.contents b typed-as

  pub are-no-externals : has_externals kind ≡ false → holds_externals x.contents ≡ false
  are-no-externals b = no-externals kind x.contents b typed-as

  pub are-no-references : has_references kind ≡ false → holds_references x.contents ≡ false
  are-no-references b = no-references kind x.contents b typed-as

  pub are-no-data : has_data kind ≡ false → holds_data x.contents ≡ false
  are-no-data b = no-data kind x.contents b typed-as

  pub are-no-publics : (local : Bool) → has_publics local kind ≡ false → holds_publics local x.kind x.contents ≡ false
  are-no-publics local b = subst (λ (n : ℕ). holds_publics local n x.contents ≡ false) (ap (λ (r : Rec). r.kind) e) (no-publics kind local x.contents b typed-as)

  -- an LEDATA from its contents
  pub plain-seen : is_one_of ledata kind ≡ true → (c : Contents) → ◌≡◌ {A = Result Contents Fault} (Ok c) (read_body kind body) → (let r : Rec = record { kind = odd_if (width_of kind) 0xA0; contents = c } in r) ≡ x
  plain-seen is c r = known-decoded kind body h (odd_if (width_of kind) 0xA0) c (one-same 0xA0 0xA1 kind (λ k. odd_if (width_of k) 0xA0 ≡ k) refl refl is) r ∙ e

-- the publics of a PUBDEF are not local, those of an LPUBDEF are
pub publics-local : (local : Bool) (p : CodePublics) (x : Rec) → publics_seen local p ≡ x → is_local x.kind ≡ local
publics-local local p x e = sym (ap (λ (r : Rec). is_local r.kind) e) ∙ by local p.width
  where
    by : (local : Bool) (w : Width) → is_local (odd_if w (if local then 0xB6 else 0x90)) ≡ local
    by true Bits16 = refl
    by true Bits32 = refl
    by false Bits16 = refl
    by false Bits32 = refl

-- the first record of a module's bytes
module _ (bytes : List ℕ) (kind : ℕ) (body : List ℕ) (k : kind ≡ (front_record (present bytes)).kind) (b : body ≡ (front_record (present bytes)).body) where
  pub front-same : known kind body ≡ typed (front_record (present bytes))
  front-same = ap (λ (n : ℕ). known n body) k ∙ ap (λ (x : List ℕ). known (front_record (present bytes)).kind x) b

  front-known-at : StartsWithRecord bytes → IsKnown kind body
  front-known-at s = record {
    taken = front_taken bytes kind s k;
    short = front_short bytes body s b;
    typed =
        subst (λ (n : ℕ). IsTyped (known n body) body) (sym k)
        (subst (λ (x : List ℕ). IsTyped (known (front_record (present bytes)).kind x) x) (sym b) (front_of bytes s).typed);
  }

pub front-known : (bytes : List ℕ) → StartsWithRecord bytes → (kind : ℕ) (body : List ℕ) → kind ≡ (front_record (present bytes)).kind → body ≡ (front_record (present bytes)).body → IsKnown kind body
front-known bytes s kind body k b = front-known-at bytes kind body k b s
