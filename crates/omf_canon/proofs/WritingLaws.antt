-- What a walk over a module's pieces writes is the canonical bytes.
use Rattle.std.proofs.Common.{◌≡◌, ℕ, ◌+◌, ◌≤◌, List, [], ◌∷◌, ◌++◌, length, refl, sym, ◌∙◌, ap, ap₂, subst, Bool, true, false, Some, None, arith, append_assoc, append-nil, length-append, Result, Ok, Err, Vec, Global}
use Rattle.std.specs.Prelude.{IfOk, map, flat_map, All, Option, ◌==◌, ◌&&◌, nat_le}
use Rattle.std.proofs.lemmas.Bool.{cond-true, cond-false, eqb-true}
use Rattle.std.proofs.lemmas.Grind.{flat_map-append}
use Rattle.std.proofs.lemmas.List.Elements.{All-nil, All-cons, All-head, All-tail}
use Rattle.omf_frame.specs.Framing.{Raw, raw_bytes, raw_of, IsRecord}
use Rattle.omf_records.specs.Values.{Rec}
use Rattle.omf_reloc.proofs.SingleLaws.{singles}
use Rattle.omf_reloc.specs.Inner.Pieces.{one_by_one}
use Rattle.omf_reloc.specs.Plain.{Piece, Kept, Fixed, End, PlainFixup, pieces}
use Rattle.omf_canon.specs.Canonical.{canonical_raws, canonical}
use Rattle.omf_canon.specs.Cut.{body_limit, fixups_size}
use Rattle.omf_canon.specs.PlainBytes.{fixup_bytes}
use Rattle.omf_canon.specs.Skeleton.{normal, skeleton}
use Rattle.omf_canon.specs.Inner.Streaming.{group_raw, Open, close, open_with, closed_by, open_after, closed_all, streamed}
use Rattle.omf_canon.specs.Inner.Writing.{Held, held, record_bytes, closed, has_room, held_with, CanPut, bytes_left}
use Rattle.omf_canon.specs.Inner.Writing.{closed_by as closes}
use Rattle.omf_canon.proofs.CutLaws.{length-group}
use Rattle.omf_canon.proofs.StreamLaws.{streamed-canonical}

abbrev spelt : List Raw → List ℕ
spelt rs = flat_map raw_bytes rs

abbrev body_of : ℕ → List PlainFixup → List ℕ
body_of k g = flat_map (fixup_bytes k) g

-- The open group as its bytes.
abbrev held_of : Open → Option Held
held_of None = None
held_of (Some (k, g)) = Some (held k (body_of k g))

close-bytes : (o : Open) → closed (held_of o) ≡ spelt (close o)
close-bytes None = refl
close-bytes (Some (k, g)) = sym (append-nil (raw_bytes (group_raw k g)))

pushed : (k : ℕ) (g : List PlainFixup) (f : PlainFixup) → body_of k (g ++ f ∷ []) ≡ body_of k g ++ fixup_bytes k f
pushed k g f = flat_map-append (fixup_bytes k) g (f ∷ []) ∙ ap (λ t. body_of k g ++ t) (append-nil (fixup_bytes k f))

sizes : (k : ℕ) (g : List PlainFixup) (f : PlainFixup) → length (body_of k g) + length (fixup_bytes k f) ≡ fixups_size k (g ++ f ∷ [])
sizes k g f = sym (length-append (body_of k g) (fixup_bytes k f)) ∙ ap (λ (b : List ℕ). length b) (sym (pushed k g f)) ∙ length-group k (g ++ f ∷ [])

-- ---- one fixup

module _ (k kind : ℕ) (g : List PlainFixup) (f : PlainFixup) where
  abbrev fits : Bool
  fits = nat_le (fixups_size k (g ++ f ∷ [])) body_limit

  abbrev group : Held
  group = held k (body_of k g)

  abbrev bytes : List ℕ
  bytes = fixup_bytes kind f

  same-bytes : (k == kind) ≡ true → bytes ≡ fixup_bytes k f
  same-bytes e = ap (λ n. fixup_bytes n f) (sym (eqb-true k kind e))

  room-same : (k == kind) ≡ true → has_room kind bytes group ≡ fits
  room-same e = ap (λ b. b && nat_le (length (body_of k g) + length bytes) body_limit) e
      ∙ ap (λ (b : List ℕ). nat_le (length (body_of k g) + length b) body_limit) (same-bytes e)
      ∙ ap (λ n. nat_le n body_limit) (sizes k g f)

  room-other : (k == kind) ≡ false → has_room kind bytes group ≡ false
  room-other e = ap (λ b. b && nat_le (length (body_of k g) + length bytes) body_limit) e

  alone-held : Some (held kind bytes) ≡ held_of (Some (kind, f ∷ []))
  alone-held = ap (λ b. Some (held kind b)) (sym (append-nil bytes))

  joined-held : (k == kind) ≡ true → Some (held k (body_of k g ++ bytes)) ≡ held_of (Some (k, g ++ f ∷ []))
  joined-held e = ap (λ b. Some (held k (body_of k g ++ b))) (same-bytes e) ∙ ap (λ b. Some (held k b)) (sym (pushed k g f))

  held-some : (s u : Bool) → (k == kind) ≡ s → fits ≡ u → held_with kind bytes (Some group) ≡ held_of (open_with kind (Some (k, g)) f)
  held-some true true e h = cond-true (has_room kind bytes group) _ _ (room-same e ∙ h) ∙ joined-held e ∙ sym (ap held_of (cond-true (k == kind) _ _ e ∙ cond-true fits _ _ h))
  held-some true false e h = cond-false (has_room kind bytes group) _ _ (room-same e ∙ h) ∙ alone-held ∙ sym (ap held_of (cond-true (k == kind) _ _ e ∙ cond-false fits _ _ h))
  held-some false u e h = cond-false (has_room kind bytes group) _ _ (room-other e) ∙ alone-held ∙ sym (ap held_of (cond-false (k == kind) _ _ e))

  shut : record_bytes k (body_of k g) ≡ spelt (group_raw k g ∷ [])
  shut = sym (append-nil (raw_bytes (group_raw k g)))

  closes-some : (s u : Bool) → (k == kind) ≡ s → fits ≡ u → closes kind bytes (Some group) ≡ spelt (closed_by kind (Some (k, g)) f)
  closes-some true true e h = cond-true (has_room kind bytes group) _ _ (room-same e ∙ h) ∙ sym (ap spelt (cond-true (k == kind) _ _ e ∙ cond-true fits _ _ h))
  closes-some true false e h = cond-false (has_room kind bytes group) _ _ (room-same e ∙ h) ∙ shut ∙ sym (ap spelt (cond-true (k == kind) _ _ e ∙ cond-false fits _ _ h))
  closes-some false u e h = cond-false (has_room kind bytes group) _ _ (room-other e) ∙ shut ∙ sym (ap spelt (cond-false (k == kind) _ _ e))

held-one : (kind : ℕ) (o : Open) (f : PlainFixup) → held_with kind (fixup_bytes kind f) (held_of o) ≡ held_of (open_with kind o f)
held-one kind None f = ap (λ b. Some (held kind b)) (sym (append-nil (fixup_bytes kind f)))
held-one kind (Some (k, g)) f = held-some k kind g f (k == kind) (nat_le (fixups_size k (g ++ f ∷ [])) body_limit) refl refl

closes-one : (kind : ℕ) (o : Open) (f : PlainFixup) → closes kind (fixup_bytes kind f) (held_of o) ≡ spelt (closed_by kind o f)
closes-one kind None f = refl
closes-one kind (Some (k, g)) f = closes-some k kind g f (k == kind) (nat_le (fixups_size k (g ++ f ∷ [])) body_limit) refl refl

-- ---- all pieces

one-record : (o : Open) (kind : ℕ) (body xs : List ℕ) (ps : List Piece) → xs ≡ spelt (streamed None ps)
    → (closed (held_of o) ++ record_bytes kind body) ++ xs ≡ spelt (close o ++ (raw_of kind body ∷ streamed None ps))
one-record o kind body xs ps e =
    append_assoc (closed (held_of o)) (record_bytes kind body) xs
    ∙ ap₂ (λ (x y : List ℕ). x ++ (record_bytes kind body ++ y)) (close-bytes o) e
    ∙ sym (flat_map-append raw_bytes (close o) (raw_of kind body ∷ streamed None ps))

-- the fixups of a FIXUPP, each a piece of its own, in front of others
singles-left : (kind : ℕ) (fs : List PlainFixup) (o : Open) (rest ps : List Piece) → ((p : Open) → bytes_left (held_of p) rest ≡ spelt (streamed p ps))
    → bytes_left (held_of o) (singles kind fs ++ rest) ≡ spelt (closed_all kind o fs ++ streamed (open_after kind o fs) ps)
singles-left kind [] o rest ps again = again o
singles-left kind (f ∷ fs) o rest ps again =
    let next = open_with kind o f in
    let more = closed_all kind next fs ++ streamed (open_after kind next fs) ps in
    ap₂ (λ (x : List ℕ) (y : Option Held). x ++ bytes_left y (singles kind fs ++ rest)) (closes-one kind o f) (held-one kind o f)
    ∙ ap (λ t. spelt (closed_by kind o f) ++ t) (singles-left kind fs next rest ps again)
    ∙ sym (flat_map-append raw_bytes (closed_by kind o f) more)
    ∙ ap spelt (sym (append_assoc (closed_by kind o f) (closed_all kind next fs) (streamed (open_after kind next fs) ps)))

left-from : (ps : List Piece) (o : Open) → bytes_left (held_of o) (flat_map one_by_one ps) ≡ spelt (streamed o ps)
left-from [] o = close-bytes o
left-from (Kept r ∷ ps) o = one-record o _ _ _ ps (left-from ps None)
left-from (Fixed kind fs ∷ ps) o = singles-left kind fs o (flat_map one_by_one ps) ps (left-from ps)
left-from (End kind byte s ∷ ps) o = one-record o _ _ _ ps (left-from ps None)

-- the normal pieces of a module, one fixup at a time
abbrev pub normal_singles : List Rec → List Piece
normal_singles m = flat_map one_by_one (map normal (pieces m))

left-all : (m : List Rec) → bytes_left None (normal_singles m) ≡ canonical m
left-all m = left-from (map normal (pieces m)) None ∙ ap spelt (streamed-canonical (map normal (pieces m)))

-- ---- the contents fit

all-right : (xs ys : List Raw) → All IsRecord (xs ++ ys) → All IsRecord ys
all-right [] ys h = h
all-right (x ∷ xs) ys h = all-right xs ys (All-tail IsRecord x (xs ++ ys) h)

short-raw : (r : Raw) → IsRecord r → length r.body ≤ 65534
short-raw r h = let e = h.0 in omega (arith, e)

one-fits : (o : Open) (r : Raw) (rs : List Raw) → All IsRecord (close o ++ (r ∷ rs)) → length r.body ≤ 65534
one-fits o r rs h = short-raw r (All-head IsRecord r rs (all-right (close o) (r ∷ rs) h))

rest-fits : (o : Open) (r : Raw) (rs : List Raw) → All IsRecord (close o ++ (r ∷ rs)) → All IsRecord rs
rest-fits o r rs h = all-right (r ∷ []) rs (all-right (close o) (r ∷ rs) h)

singles-fit : (kind : ℕ) (fs : List PlainFixup) (rest : List Piece) → All CanPut rest → All CanPut (singles kind fs ++ rest)
singles-fit kind [] rest h = h
singles-fit kind (f ∷ fs) rest h = All-cons CanPut (Fixed kind (f ∷ [])) (singles kind fs ++ rest) tt (singles-fit kind fs rest h)

fits-from : (ps : List Piece) (o : Open) → All IsRecord (streamed o ps) → All CanPut (flat_map one_by_one ps)
fits-from [] o h = All-nil CanPut
fits-from (Kept r ∷ ps) o h = All-cons CanPut (Kept r) (flat_map one_by_one ps) (one-fits o _ (streamed None ps) h) (fits-from ps None (rest-fits o _ (streamed None ps) h))
fits-from (Fixed kind fs ∷ ps) o h = singles-fit kind fs (flat_map one_by_one ps) (fits-from ps (open_after kind o fs) (all-right (closed_all kind o fs) (streamed (open_after kind o fs) ps) h))
fits-from (End kind byte s ∷ ps) o h = All-cons CanPut (End kind byte s) (flat_map one_by_one ps) tt (fits-from ps None (rest-fits o _ (streamed None ps) h))

fits-all : (m : List Rec) → All IsRecord (canonical_raws (skeleton m)) → All CanPut (normal_singles m)
fits-all m h = fits-from (map normal (pieces m)) None (subst (All IsRecord) (sym (streamed-canonical (map normal (pieces m)))) h)

-- What is known while pieces are left: they can be written, and what is written and what is left are the canonical bytes.
pub record IsWritten (m : List Rec) (out : List ℕ) (group : Option Held) (rest : List Piece) : Type 0 where
  pub can : All CanPut rest
  pub same : out ++ bytes_left group rest ≡ canonical m

module _ (m : List Rec) where
  pub write-first : (out : List ℕ) (group : Option Held) (rest : List Piece) → All IsRecord (canonical_raws (skeleton m)) → out ≡ [] → group ≡ None → rest ≡ normal_singles m → IsWritten m out group rest
  write-first out group rest h o g e =
      subst (λ x. IsWritten m x group rest) (sym o)
      (subst (λ x. IsWritten m [] x rest) (sym g)
      (subst (IsWritten m [] None) (sym e) (record { can = fits-all m h; same = left-all m })))

pub write-last : {E : Type 0} (m : List Rec) (out : List ℕ) (g : Option Held) → IsWritten m out g [] → (r : Result (Vec ℕ Global) E)
    → IfOk r (λ v. v.items ≡ out ++ closed g) → IfOk r (λ v. v.items ≡ canonical m)
write-last m out g h (Ok v) e = e ∙ h.same
write-last m out g h (Err x) e = tt
