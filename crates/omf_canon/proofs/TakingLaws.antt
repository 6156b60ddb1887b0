-- The records of a module are walked over one after another: what each puts, and what is left.
use Rattle.std.proofs.Common.{◌≡◌, ℕ, ◌+◌, ◌<◌, List, [], ◌∷◌, ◌++◌, length, refl, sym, ◌∙◌, ap, ap₂, subst, true, false, Some, None, arith, append_assoc, length-append, Result, Ok, Err}
use Rattle.std.specs.Prelude.{IsOk, IsOkAnd, OnOk, IfSome, map, flat_map, All, Option, ⊤}
use Rattle.std.proofs.lemmas.List.{map-append}
use Rattle.std.proofs.lemmas.List.Elements.{All-nil, All-cons, All-head, All-tail, filter_map-append}
use Rattle.omf_frame.specs.Fault.{Fault}
use Rattle.omf_frame.specs.Framing.{Raw, raw_bytes, IsRecord, front_record, present, after_front}
use Rattle.omf_frame.specs.declared.fault.Place.{Place}
use Rattle.omf_frame.proofs.FramingLaws.{present_raw, front_raw, after_raw}
use Rattle.omf_image.specs.declared.limits.Limits.{Limits}
use Rattle.omf_records.specs.Inner.Each.{with_first}
use Rattle.omf_records.specs.Inner.Reading.{typed, read_body}
use Rattle.omf_records.specs.Inner.RecordReaders.{contents_whole}
use Rattle.omf_records.specs.Shortest.{subrecord_bytes}
use Rattle.omf_records.specs.Inner.Unread.{fixups_read}
use Rattle.omf_records.specs.Laws.{TypedHaveValues}
use Rattle.omf_records.specs.Valued.{IsSubrecordValue, HaveReferenceValues}
use Rattle.omf_records.specs.Values.{At, Rec, Contents, Names, Fixups, ModEnd, Reference, Subrecord, Thread, Fixup}
use Rattle.omf_check.specs.Inner.Kept.{no_threads, set_thread, set_threads, threads_after}
use Rattle.omf_check.specs.Listed.{IsReadable, StartsWithRecord}
use Rattle.omf_check.specs.Module.{records_in}
use Rattle.omf_check.specs.Sound.{ModuleHolds}
use Rattle.omf_check.proofs.WellLaws.{well-read}
use Rattle.omf_check.specs.WellFormed.{IsWellFormed, recs}
use Rattle.omf_check.specs.declared.profile.Profile.{Profile}
use Rattle.omf_check.specs.declared.threads.Threads.{Threads}
use Rattle.omf_reloc.proofs.PieceLaws.{pieces-listed, numbered_records, numbered-listed, records-set}
use Rattle.omf_reloc.specs.Inner.Pieces.{subrecord_steps, contents_steps, steps_from, given, IsSet, SubrecordIsSet, SubrecordsAreSet, ContentsAreSet, RecordsAreSet}
use Rattle.omf_reloc.specs.Plain.{Piece, Fixed, pieces}
use Rattle.omf_reloc.specs.Inner.Walking.{plain_fixup_by}
use Rattle.omf_canon.specs.Inner.Names.{unthreaded_fixup}
use Rattle.omf_canon.specs.Canonical.{canonical_raws}
use Rattle.omf_canon.specs.Skeleton.{normal, skeleton}
use Rattle.omf_canon.specs.Inner.Writing.{Held, closed_by, held_with, piece_puts, piece_held, CanPut, bytes_left, subrecord_piece, subrecord_pieces, contents_pieces, record_pieces, ArePut}
use Rattle.omf_canon.proofs.NormalLaws.{single-normal}
use Rattle.omf_canon.proofs.WritingLaws.{IsWritten, normal_singles, write-first}

-- ---- the pieces that records give are the module's

abbrev Step : Type 0
Step = Option (Place × Piece)

abbrev without_places : List Step → List Piece
without_places steps = map (λ p. p.1) (given steps)

given-more : (xs ys : List Step) → without_places (xs ++ ys) ≡ without_places xs ++ without_places ys
given-more xs ys = ap (map (λ p. p.1)) (filter_map-append (λ s. s) xs ys) ∙ map-append (λ p. p.1) (given xs) (given ys)

subs-given : (at : Place) (kind : ℕ) (threads : Threads) (subs : List (At Subrecord)) → map normal (without_places (subrecord_steps threads at kind subs)) ≡ subrecord_pieces threads kind subs
subs-given at kind threads [] = refl
subs-given at kind threads (s ∷ subs) = by s.within s.item (subs-given at kind (set_thread threads s.item) subs)
  where
    by : (within : ℕ) (x : Subrecord) → map normal (without_places (subrecord_steps (set_thread threads x) at kind subs)) ≡ subrecord_pieces (set_thread threads x) kind subs
        → map normal (without_places (subrecord_steps threads at kind (record { within = within; item = x } ∷ subs))) ≡ subrecord_pieces threads kind (record { within = within; item = x } ∷ subs)
    by within (Thread byte datum) rest = rest
    by within (Fixup locat r) rest = ap (λ ys. Fixed kind (plain_fixup_by threads locat r ∷ []) ∷ ys) rest

contents-given : (at : Place) (kind : ℕ) (threads : Threads) (c : Contents) → map normal (without_places (contents_steps threads at kind c)) ≡ contents_pieces threads kind c
contents-given at kind threads (Fixups subs) = subs-given at kind threads subs
contents-given at kind threads (ModEnd byte start) = refl
contents-given at kind threads (Names items) = refl
contents-given at kind threads _ = refl

records-given : (threads : Threads) (xs : List (Place × Rec)) → map normal (without_places (steps_from threads xs)) ≡ record_pieces threads (map (λ x. x.1) xs)
records-given threads [] = refl
records-given threads (x ∷ xs) =
    ap (map normal) (given-more (contents_steps threads x.0 x.1.kind x.1.contents) (steps_from (threads_after threads x.1.contents) xs))
    ∙ map-append normal (without_places (contents_steps threads x.0 x.1.kind x.1.contents)) (without_places (steps_from (threads_after threads x.1.contents) xs))
    ∙ ap₂ (λ (ys zs : List Piece). ys ++ zs) (contents-given x.0 x.1.kind threads x.1.contents) (records-given (threads_after threads x.1.contents) xs)

all-given : (m : List Rec) → record_pieces no_threads m ≡ normal_singles m
all-given m =
    ap (record_pieces no_threads) (sym (numbered-listed 0 m))
    ∙ sym (records-given no_threads (numbered_records m))
    ∙ ap (map normal) (pieces-listed m (numbered_records m) (numbered-listed 0 m))
    ∙ single-normal (pieces m)

-- ---- each thread that is named is set

abbrev pub RecsAreSet : Threads → List Rec → Type 0
RecsAreSet threads [] = ⊤
RecsAreSet threads (r ∷ rs) = ContentsAreSet threads r.contents × RecsAreSet (threads_after threads r.contents) rs

recs-set : (threads : Threads) (xs : List (Place × Rec)) → RecordsAreSet threads xs → RecsAreSet threads (map (λ x. x.1) xs)
recs-set threads [] h = tt
recs-set threads (x ∷ xs) h = (h.0, recs-set (threads_after threads x.1.contents) xs h.1)

all-set : (limits : Limits) (m : List Rec) → ModuleHolds limits m → RecsAreSet no_threads m
all-set limits m holds =
    subst (RecsAreSet no_threads) (numbered-listed 0 m)
    (recs-set no_threads (numbered_records m) (records-set limits m (numbered_records m) holds (numbered-listed 0 m)))

-- in the subrecords of a FIXUPP, and in the start of a MODEND
pub fixups-set : (threads : Threads) (r : Result (List (At Subrecord)) Fault) (body : Result Contents Fault) → body ≡ fixups_read r → IsOk body
    → ((c : Contents) → body ≡ Ok c → ContentsAreSet threads c) → IsOkAnd r (SubrecordsAreSet threads)
fixups-set threads (Ok subs) body e ok set = set (Fixups subs) e
fixups-set threads (Err f) body e ok set = let q : false ≡ true = subst (λ (b : Result Contents Fault). IsOk b) e ok in absurd cc

pub fixups-values : (kind : ℕ) (r : Result (List (At Subrecord)) Fault) (body : Result Contents Fault) → body ≡ fixups_read r → IsOk body
    → ((c : Contents) → body ≡ Ok c → HaveReferenceValues kind c) → IsOkAnd r (All (λ s. IsSubrecordValue kind s.item))
fixups-values kind (Ok subs) body e ok values = (values (Fixups subs) e).each
fixups-values kind (Err f) body e ok values = let q : false ≡ true = subst (λ (b : Result Contents Fault). IsOk b) e ok in absurd cc

pub end_set : (threads : Threads) (byte : ℕ) (start : Option Reference) → ContentsAreSet threads (ModEnd byte start) → IfSome start (IsSet threads)
end_set threads byte None h = tt
end_set threads byte (Some r) h = h

pub ok-and : {A E : Type 0} (r : Result A E) (P : A → Type 0) → IsOkAnd r P → (x : A) × (r ≡ Ok x) × P x
ok-and (Ok x) P h = (x, refl, h)
ok-and (Err e) P h = absurd h

-- ---- what is put

pub put-none : (out new : List ℕ) (group then : Option Held) → new ≡ out → then ≡ group → ArePut [] out group new then
put-none out new group then o g rest = ap₂ (λ (x : List ℕ) (y : Option Held). x ++ bytes_left y rest) o g

pub put-one : (p : Piece) (out new : List ℕ) (group then : Option Held) → new ≡ out ++ piece_puts p group → then ≡ piece_held p group → ArePut (p ∷ []) out group new then
put-one p out new group then o g rest = ap₂ (λ (x : List ℕ) (y : Option Held). x ++ bytes_left y rest) o g ∙ append_assoc out (piece_puts p group) (bytes_left (piece_held p group) rest)

pub on-both : {A E P Q R : Type 0} (r : Result A E) → OnOk r P → OnOk r Q → (P → Q → R) → OnOk r R
on-both (Ok x) p q f = f p q
on-both (Err e) p q f = tt

-- a fixup, written as one that names no thread
pub fixup-put : {A E : Type 0} (threads : Threads) (kind locat : ℕ) (r : Reference) (s x : Subrecord) → s ≡ Fixup locat r → x ≡ unthreaded_fixup (plain_fixup_by threads locat r)
    → (out new : List ℕ) (group then : Option Held) (answer : Result A E) → OnOk answer (new ≡ out ++ closed_by kind (subrecord_bytes kind x) group)
    → OnOk answer (then ≡ held_with kind (subrecord_bytes kind x) group) → OnOk answer (ArePut (subrecord_piece threads kind s) out group new then)
fixup-put threads kind locat r s x e u out new group then answer o g =
    on-both answer o g (λ wrote joined. subst (λ (t : Subrecord). ArePut (subrecord_piece threads kind t) out group new then) (sym e)
    (put-one (Fixed kind (plain_fixup_by threads locat r ∷ [])) out new group then
    (wrote ∙ ap (λ (t : Subrecord). out ++ closed_by kind (subrecord_bytes kind t) group) u) (joined ∙ ap (λ (t : Subrecord). held_with kind (subrecord_bytes kind t) group) u)))

pub on-ok : {A E P R : Type 0} (r : Result A E) → OnOk r P → (P → R) → OnOk r R
on-ok (Ok x) p f = f p
on-ok (Err e) p f = tt

-- ---- the subrecords of a FIXUPP

first-left : (s : At Subrecord) (then : Result (List (At Subrecord)) Fault) (left : List (At Subrecord)) → ◌≡◌ {A = Result (List (At Subrecord)) Fault} (Ok left) (with_first s then)
    → (more : List (At Subrecord)) × (then ≡ Ok more) × (left ≡ s ∷ more)
first-left s (Ok more) left e = (more, refl, let h : left ≡ s ∷ more = cc in h)
first-left s (Err f) left e = absurd cc

-- What is known while they are walked over: those to come put and set what all do, but for what was put and set.
pub record IsTaken (kind : ℕ) (threads : Threads) (out : List ℕ) (group : Option Held) (whole : List (At Subrecord)) (now_threads : Threads) (now_out : List ℕ) (now_group : Option Held) (now : Result (List (At Subrecord)) Fault) : Type 0 where
  pub left : List (At Subrecord)
  pub read : now ≡ Ok left
  pub set : set_threads now_threads left ≡ set_threads threads whole
  pub are_set : SubrecordsAreSet now_threads left
  pub values : All (λ s. IsSubrecordValue kind s.item) left
  pub put : (rest : List Piece) → now_out ++ bytes_left now_group (subrecord_pieces now_threads kind left ++ rest) ≡ out ++ bytes_left group (subrecord_pieces threads kind whole ++ rest)

pub take-first : (kind : ℕ) (threads : Threads) (out : List ℕ) (group : Option Held) (whole : List (At Subrecord)) (now : Result (List (At Subrecord)) Fault)
    → now ≡ Ok whole → SubrecordsAreSet threads whole → All (λ s. IsSubrecordValue kind s.item) whole → IsTaken kind threads out group whole threads out group now
take-first kind threads out group whole now e h v = record { left = whole; read = e; set = refl; are_set = h; values = v; put = λ rest. refl }

module _ {kind : ℕ} {threads : Threads} {out : List ℕ} {group : Option Held} {whole : List (At Subrecord)} {now_threads : Threads} {now_out : List ℕ} {now_group : Option Held} {now : Result (List (At Subrecord)) Fault}
    (h : IsTaken kind threads out group whole now_threads now_out now_group now) where
  first-set : (s : At Subrecord) (more : List (At Subrecord)) → h.left ≡ s ∷ more → SubrecordIsSet now_threads s.item × SubrecordsAreSet (set_thread now_threads s.item) more
  first-set s more e = subst (SubrecordsAreSet now_threads) e h.are_set

  first-values : (s : At Subrecord) (more : List (At Subrecord)) → h.left ≡ s ∷ more → All (λ s. IsSubrecordValue kind s.item) (s ∷ more)
  first-values s more e = subst (All (λ s. IsSubrecordValue kind s.item)) e h.values

  pub take-value : (s : At Subrecord) (then : Result (List (At Subrecord)) Fault) → now ≡ with_first s then → IsSubrecordValue kind s.item
  take-value s then e = let parts = first-left s then h.left (sym h.read ∙ e) in All-head (λ s. IsSubrecordValue kind s.item) s parts.0 (first-values s parts.0 parts.2)

  pub take-set : (s : At Subrecord) (then : Result (List (At Subrecord)) Fault) → now ≡ with_first s then → SubrecordIsSet now_threads s.item
  take-set s then e = let parts = first-left s then h.left (sym h.read ∙ e) in (first-set s parts.0 parts.2).0

  pub take-next : (s : At Subrecord) (then : Result (List (At Subrecord)) Fault) → now ≡ with_first s then
      → (new_threads : Threads) (new_out : List ℕ) (new_group : Option Held) → new_threads ≡ set_thread now_threads s.item → ArePut (subrecord_piece now_threads kind s.item) now_out now_group new_out new_group
      → IsTaken kind threads out group whole new_threads new_out new_group then
  take-next s then e new_threads new_out new_group t p =
      let parts = first-left s then h.left (sym h.read ∙ e) in
      let more = parts.0 in
      record {
        left = more;
        read = parts.1;
        set = ap (λ (x : Threads). set_threads x more) t ∙ sym (ap (set_threads now_threads) parts.2) ∙ h.set;
        are_set = subst (λ (x : Threads). SubrecordsAreSet x more) (sym t) (first-set s more parts.2).1;
        values = All-tail (λ s. IsSubrecordValue kind s.item) s more (first-values s more parts.2);
        put = λ rest.
            p (subrecord_pieces new_threads kind more ++ rest)
            ∙ ap (λ (x : Threads). now_out ++ bytes_left now_group (subrecord_piece now_threads kind s.item ++ (subrecord_pieces x kind more ++ rest))) t
            ∙ ap (λ (ps : List Piece). now_out ++ bytes_left now_group ps) (sym (append_assoc (subrecord_piece now_threads kind s.item) (subrecord_pieces (set_thread now_threads s.item) kind more) rest))
            ∙ sym (ap (λ (xs : List (At Subrecord)). now_out ++ bytes_left now_group (subrecord_pieces now_threads kind xs ++ rest)) parts.2)
            ∙ h.put rest;
      }

  pub take-readable : IsOk now
  take-readable = subst IsOk (sym h.read) refl

  none-left : now ≡ Ok [] → h.left ≡ []
  none-left e = let q : ◌≡◌ {A = Result (List (At Subrecord)) Fault} (Ok h.left) (Ok []) = sym h.read ∙ e in cc

  pub take-last-set : now ≡ Ok [] → now_threads ≡ set_threads threads whole
  take-last-set e = sym (ap (set_threads now_threads) (none-left e)) ∙ h.set

  pub take-last-put : now ≡ Ok [] → ArePut (subrecord_pieces threads kind whole) out group now_out now_group
  take-last-put e rest = sym (ap (λ (xs : List (At Subrecord)). now_out ++ bytes_left now_group (subrecord_pieces now_threads kind xs ++ rest)) (none-left e)) ∙ h.put rest

  pub take-never : (f : Fault) → now ≡ Err f → ⊥
  take-never f e = let q : ◌≡◌ {A = Result (List (At Subrecord)) Fault} (Ok h.left) (Err f) = sym h.read ∙ e in cc

-- What a FIXUPP's contents are, that are read.
pub fixups-are : (r : Result (List (At Subrecord)) Fault) (c : Contents) → fixups_read r ≡ Ok c → (subs : List (At Subrecord)) × (r ≡ Ok subs) × (c ≡ Fixups subs)
fixups-are (Ok subs) c e = (subs, refl, let h : c ≡ Fixups subs = cc in h)
fixups-are (Err f) c e = absurd cc

-- ---- the records

all-left : (ps qs : List Piece) → All CanPut (ps ++ qs) → All CanPut ps
all-left [] qs h = All-nil CanPut
all-left (p ∷ ps) qs h = All-cons CanPut p ps (All-head CanPut p (ps ++ qs) h) (all-left ps qs (All-tail CanPut p (ps ++ qs) h))

all-right : (ps qs : List Piece) → All CanPut (ps ++ qs) → All CanPut qs
all-right [] qs h = h
all-right (p ∷ ps) qs h = all-right ps qs (All-tail CanPut p (ps ++ qs) h)

-- What is known while records are walked over: those that are left give the pieces that are left.
pub record IsLeft (m : List Rec) (out : List ℕ) (group : Option Held) (threads : Threads) (left : List ℕ) : Type 0 where
  pub records : List Raw
  pub spelled : left ≡ flat_map raw_bytes records
  pub readable : All IsReadable records
  pub are_set : RecsAreSet threads (recs records)
  pub written : IsWritten m out group (record_pieces threads (recs records))

pub left-first : (profile : Profile) (limits : Limits) (bytes : List ℕ) (w : IsWellFormed profile limits bytes (records_in bytes)) (out : List ℕ) (group : Option Held) (threads : Threads)
    → ModuleHolds limits (recs (records_in bytes)) → All IsRecord (canonical_raws (skeleton (recs (records_in bytes)))) → out ≡ [] → group ≡ None → threads ≡ no_threads → IsLeft (recs (records_in bytes)) out group threads bytes
left-first profile limits bytes w out group threads holds h o g t =
    let m = recs (records_in bytes) in
    record {
      records = records_in bytes;
      spelled = w.framed.spelled;
      readable = λ k d low. record { is_record = w.framed.each k d low; taken = w.framed.types k d low; typed = (well-read profile limits bytes (records_in bytes) w).spelled k d low };
      are_set = subst (λ (x : Threads). RecsAreSet x m) (sym t) (all-set limits m holds);
      written = write-first m out group (record_pieces threads m) h o g (ap (λ (x : Threads). record_pieces x m) t ∙ all-given m);
    }

pub some-left : (rs : List Raw) (bytes : List ℕ) → bytes ≡ flat_map raw_bytes rs → 0 < length bytes → (r : Raw) × (more : List Raw) × (rs ≡ r ∷ more)
some-left [] bytes e low = absurd (no (length bytes) (ap (λ (b : List ℕ). length b) e) low)
  where
    no : (n : ℕ) → n ≡ 0 → 0 < n → ⊥
    no n e h = omega (arith, e, h)
some-left (r ∷ more) bytes e low = (r, more, refl)

none-left-of : (rs : List Raw) → [] ≡ flat_map raw_bytes rs → rs ≡ []
none-left-of [] e = refl
none-left-of (r ∷ rs) e = absurd (nothing (length (raw_bytes r ++ flat_map raw_bytes rs)) (ap (λ (b : List ℕ). length b) e) (omega (arith, length-append (raw_bytes r) (flat_map raw_bytes rs))))
  where
    nothing : (n : ℕ) → 0 ≡ n → 0 < n → ⊥
    nothing n e h = omega (arith, e, h)

module _ (m : List Rec) (out : List ℕ) (group : Option Held) (threads : Threads) (left : List ℕ) (h : IsLeft m out group threads left) where
  pub left-last : left ≡ [] → IsWritten m out group []
  left-last e = subst (λ (rs : List Raw). IsWritten m out group (record_pieces threads (recs rs))) (none-left-of h.records (sym e ∙ h.spelled)) h.written

  module _ (low : 0 < length left) where
    abbrev parts : (r : Raw) × (more : List Raw) × (h.records ≡ r ∷ more)
    parts = some-left h.records left h.spelled low

    abbrev r : Raw
    r = parts.0

    abbrev more : List Raw
    more = parts.1

    abbrev c : Contents
    c = (typed r).contents

    readable : All IsReadable (r ∷ more)
    readable = subst (All IsReadable) parts.2 h.readable

    here : left ≡ raw_bytes r ++ flat_map raw_bytes more
    here = h.spelled ∙ ap (flat_map raw_bytes) parts.2

    first-readable : IsReadable r
    first-readable = All-head IsReadable r more readable

    small : length r.body + 1 < 65536
    small = first-readable.is_record.0

    pub left-starts : StartsWithRecord left
    left-starts = record { first = r; rest = flat_map raw_bytes more; spelled = here; readable = first-readable }

    front-is : front_record (present left) ≡ r
    front-is = ap (λ x. front_record (present x)) here ∙ ap front_record (present_raw r small (flat_map raw_bytes more)) ∙ front_raw r small

    after-is : after_front left ≡ flat_map raw_bytes more
    after-is = ap after_front here ∙ after_raw r small (flat_map raw_bytes more)

    pub left-less : (rest : List ℕ) → rest ≡ after_front left → length rest < length left
    left-less rest e =
        let s = ap (λ (b : List ℕ). length b) here in
        let t = length-append (raw_bytes r) (flat_map raw_bytes more) in
        let f = ap (λ (b : List ℕ). length b) (e ∙ after-is) in
        omega (arith, s, t, f)

    set-here : RecsAreSet threads (recs (r ∷ more))
    set-here = subst (λ (rs : List Raw). RecsAreSet threads (recs rs)) parts.2 h.are_set

    written-here : IsWritten m out group (contents_pieces threads r.kind c ++ record_pieces (threads_after threads c) (recs more))
    written-here = subst (λ (rs : List Raw). IsWritten m out group (record_pieces threads (recs rs))) parts.2 h.written

    module _ (kind : ℕ) (body : List ℕ) (k : kind ≡ (front_record (present left)).kind) (b : body ≡ (front_record (present left)).body) where
      kind-is : kind ≡ r.kind
      kind-is = k ∙ ap (λ (x : Raw). x.kind) front-is

      pub left-read : read_body kind body ≡ Ok c
      left-read =
          ap₂ (λ (x : ℕ) (y : List ℕ). read_body x y) kind-is (b ∙ ap (λ (x : Raw). x.body) front-is)
          ∙ (contents_whole r.kind).again 3 r.body c first-readable.typed

      pub left-ok : IsOk (read_body kind body)
      left-ok = subst (λ (b : Result Contents Fault). IsOk b) (sym left-read) refl

      pub left-set : (d : Contents) → read_body kind body ≡ Ok d → ContentsAreSet threads d
      left-set d e =
          let q : ◌≡◌ {A = Result Contents Fault} (Ok c) (Ok d) = sym left-read ∙ e in
          let same : c ≡ d = cc in
          subst (ContentsAreSet threads) same set-here.0

      pub left-values : TypedHaveValues → (d : Contents) → read_body kind body ≡ Ok d → HaveReferenceValues kind d
      left-values law d e =
          let q : ◌≡◌ {A = Result Contents Fault} (Ok c) (Ok d) = sym left-read ∙ e in
          let same : c ≡ d = cc in
          subst (λ (x : ℕ). HaveReferenceValues x d) (sym kind-is) (subst (λ (x : Contents). HaveReferenceValues r.kind x) same (law (typed r) r.body first-readable.typed))

      pub left-short : (d : Contents) → read_body kind body ≡ Ok d → All CanPut (contents_pieces threads kind d)
      left-short d e =
          let q : ◌≡◌ {A = Result Contents Fault} (Ok c) (Ok d) = sym left-read ∙ e in
          let same : c ≡ d = cc in
          subst (λ (x : Contents). All CanPut (contents_pieces threads kind x)) same
          (subst (λ (x : ℕ). All CanPut (contents_pieces threads x c)) (sym kind-is)
          (all-left (contents_pieces threads r.kind c) (record_pieces (threads_after threads c) (recs more)) written-here.can))

      pub left-next : (rest : List ℕ) → rest ≡ after_front left → (new_out : List ℕ) (new_group : Option Held) (new_threads : Threads)
          → ArePut (contents_pieces threads kind c) out group new_out new_group → new_threads ≡ threads_after threads c → IsLeft m new_out new_group new_threads rest
      left-next rest e new_out new_group new_threads p t =
          let after = record_pieces (threads_after threads c) (recs more) in
          record {
            records = more;
            spelled = e ∙ after-is;
            readable = All-tail IsReadable r more readable;
            are_set = subst (λ (x : Threads). RecsAreSet x (recs more)) (sym t) set-here.1;
            written = subst (λ (x : Threads). IsWritten m new_out new_group (record_pieces x (recs more))) (sym t) (record {
              can = all-right (contents_pieces threads r.kind c) after written-here.can;
              same = p after ∙ ap (λ (x : ℕ). out ++ bytes_left group (contents_pieces threads x c ++ after)) kind-is ∙ written-here.same;
            });
          }
