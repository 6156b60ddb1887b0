-- The canonical records of a module spell the pieces that its skeleton is cut into.
use Rattle.std.proofs.Common.{◌≡◌, ℕ, suc, ◌+◌, ◌*◌, ◌<◌, ◌≤◌, List, [], ◌∷◌, ◌++◌, length, refl, sym, ◌∙◌, ap, ap₂, subst, Bool, true, false, Option, Some, None, arith, append-nil}
use Rattle.std.specs.Prelude.{map, flat_map, option_map, All, ◌==◌, ⊤}
use Rattle.std.specs.List.{AllByRecursion as Each}
use Rattle.std.proofs.lemmas.Bool.{cond_both, eqb-true}
use Rattle.std.proofs.lemmas.List.Concat.{flat_map-append}
use Rattle.std.proofs.lemmas.List.Elements.{All-nil, All-cons, All-head, All-tail}
use Rattle.omf_frame.specs.Bytes.{with_before, bits}
use Rattle.omf_frame.specs.Framing.{Raw, raw_of, is_end}
use Rattle.omf_image.specs.declared.limits.Limits.{Limits}
use Rattle.omf_records.specs.Inner.Names.{has_start}
use Rattle.omf_records.specs.Values.{At, nowhere, Rec, Contents, Header, Comment, Names, Segment, Group, Externs, Publics, Communals, Plain, Iterated, Fixups, ModEnd, Carried, Reference, Subrecord, alone}
use Rattle.omf_records.specs.Shortest.{reference_bytes, contents_bytes}
use Rattle.omf_records.specs.Inner.Reading.{typed}
use Rattle.omf_records.specs.Records.{IsTyped}
use Rattle.omf_records.specs.Laws.{AreTyped, ShortestAreTyped, ValuesAreTyped, TypedHaveValues, PlacesDoNotCount}
use Rattle.omf_records.specs.Valued.{IsThere, IsReferenceValue, IsSubrecordValue, is_fixupp, HaveReferenceValues}
use Rattle.omf_check.specs.Tables.{subrecords, subrecords_in}
use Rattle.omf_check.specs.Threads.{PlainReference, plain}
use Rattle.omf_check.proofs.WellLaws.{well-read}
use Rattle.omf_check.specs.WellFormed.{IsWellFormed, recs}
use Rattle.omf_check.specs.declared.profile.Profile.{Profile}
use Rattle.omf_reloc.specs.Plain.{Piece, Kept, Fixed, End, PlainFixup, plain_fixup, pieces}
use Rattle.omf_canon.specs.Inner.Names.{start_bytes, end_byte, unthreaded_fixup}
use Rattle.omf_canon.proofs.NormalLaws.{normal_of, normal_at, normal-pieces}
use Rattle.omf_canon.specs.Canonical.{piece_raws, canonical_raws}
use Rattle.omf_canon.specs.Cut.{cut, body_limit, fixups_size}
use Rattle.omf_canon.specs.Joined.{cut_piece, cut_pieces}
use Rattle.omf_canon.specs.Laws.{CanonicalHolds}
use Rattle.omf_canon.specs.PlainBytes.{fixup_bytes}
use Rattle.omf_canon.specs.Skeleton.{join_front, normal, skeleton_of, skeleton}
use Rattle.omf_canon.specs.Unthreaded.{unthreaded}
use Rattle.omf_canon.proofs.AloneLaws.{same-piece, twice-alone, IsOther}
use Rattle.omf_canon.proofs.CutLaws.{cut-greedy, length-group, length-reference_bytes}
use Rattle.omf_canon.proofs.JoinLaws.{skeleton-joined, cut-joined}
use Rattle.omf_canon.proofs.PlainValueLaws.{each-append, each-front, each-back, AreSmall, small-all, plain-value, fixups-value}
use Rattle.omf_canon.proofs.UnthreadedLaws.{plain-again, IsPlainValue, value-again, IsPlainFixupValue, value-fixup}

-- A kept piece is that of a record which is typed.
pub record IsKeptFrom (r : Rec) : Type 0 where
  pub source : Rec
  pub body : List ℕ
  pub is_typed : IsTyped source body
  pub short : length body + 1 < 65536
  pub same : alone source ≡ r
  pub other : IsOther source.contents
  pub kept : (earlier : List Subrecord) → normal_of earlier source.kind source.contents ≡ Kept r

abbrev pub IsStart : ℕ → ℕ → Option PlainReference → Type 0
IsStart kind byte None = has_start byte ≡ false
IsStart kind byte (Some r) = (has_start byte ≡ true) × IsPlainValue kind r

-- A piece that can be written.
abbrev pub IsWritable : Piece → Type 0
IsWritable (Kept r) = IsKeptFrom r
IsWritable (Fixed kind fs) = (is_fixupp kind ≡ true) × Each (IsPlainFixupValue kind) fs
IsWritable (End kind byte start) = (is_end kind ≡ true) × (byte < 256) × (end_byte byte ≡ byte) × IsStart kind byte start

abbrev pub piece_kind : Piece → ℕ
piece_kind (Kept r) = r.kind
piece_kind (Fixed kind fs) = kind
piece_kind (End kind byte start) = kind

-- A typed record of a piece.
abbrev pub rec_of : Piece → Rec
rec_of (Kept r) = r
rec_of (Fixed kind fs) = record { kind = kind; contents = Fixups (map (λ f. nowhere (unthreaded_fixup f)) fs) }
rec_of (End kind byte start) = record { kind = kind; contents = ModEnd byte (option_map (unthreaded false) start) }

-- A record that spells a piece.
pub record Spells (p : Piece) (raw : Raw) : Type 0 where
  pub is_typed : IsTyped (typed raw) raw.body
  pub piece : (earlier : List Subrecord) → normal_of earlier raw.kind (typed raw).contents ≡ p
  pub kind : raw.kind ≡ piece_kind p
  pub same : alone (typed raw) ≡ alone (rec_of p)
  pub short : length raw.body + 1 < 65536
  pub summed : raw ≡ raw_of raw.kind raw.body

-- Records that spell pieces, one after another.
abbrev pub SpellAll : List Piece → List Raw → Type 0
SpellAll [] [] = ⊤
SpellAll [] (r ∷ rs) = ⊥
SpellAll (p ∷ ps) [] = ⊥
SpellAll (p ∷ ps) (r ∷ rs) = Spells p r × SpellAll ps rs

spell-append : (ps qs : List Piece) (rs ss : List Raw) → SpellAll ps rs → SpellAll qs ss → SpellAll (ps ++ qs) (rs ++ ss)
spell-append [] qs [] ss h k = k
spell-append [] qs (r ∷ rs) ss h k = absurd h
spell-append (p ∷ ps) qs [] ss h k = absurd h
spell-append (p ∷ ps) qs (r ∷ rs) ss h k = (h.0, spell-append ps qs rs ss h.1 k)

pub spelled-pieces : (before : List Rec) (ps : List Piece) (rs : List Raw) → SpellAll ps rs → with_before normal_at before (map typed rs) ≡ ps
spelled-pieces before [] [] h = refl
spelled-pieces before [] (r ∷ rs) h = absurd h
spelled-pieces before (p ∷ ps) [] h = absurd h
spelled-pieces before (p ∷ ps) (r ∷ rs) h = ap₂ (λ x y. x ∷ y) (h.0.piece (subrecords before)) (spelled-pieces (before ++ typed r ∷ []) ps rs h.1)

abbrev pub IsSpelt : Raw → Type 0
IsSpelt r = IsTyped (typed r) r.body

pub spelled-typed : (ps : List Piece) (rs : List Raw) → SpellAll ps rs → All IsSpelt rs
spelled-typed [] [] h = All-nil IsSpelt
spelled-typed [] (r ∷ rs) h = absurd h
spelled-typed (p ∷ ps) [] h = absurd h
spelled-typed (p ∷ ps) (r ∷ rs) h = All-cons IsSpelt r rs h.0.is_typed (spelled-typed ps rs h.1)

-- ---- skeletons and their cuts can be written

writable-join : (kind : ℕ) (fs : List PlainFixup) (ps : List Piece) → IsWritable (Fixed kind fs) → Each IsWritable ps → Each IsWritable (join_front (Fixed kind fs) ps)
writable-join kind fs [] w h = (w, tt)
writable-join kind fs (Kept r ∷ ps) w h = (w, h)
writable-join kind fs (End other byte s ∷ ps) w h = (w, h)
writable-join kind fs (Fixed other gs ∷ ps) w h = cond_both (kind == other) _ _ (Each IsWritable)
    (λ e. ((w.0, each-append (IsPlainFixupValue kind) fs gs w.1 (subst (λ k. Each (IsPlainFixupValue k) gs) (sym (eqb-true kind other e)) h.0.1)), h.1))
    (λ e. (w, h))

pub writable-skeleton : (ps : List Piece) → Each IsWritable ps → Each IsWritable (skeleton_of ps)
writable-skeleton [] h = tt
writable-skeleton (Kept r ∷ ps) h = (h.0, writable-skeleton ps h.1)
writable-skeleton (Fixed kind [] ∷ ps) h = writable-skeleton ps h.1
writable-skeleton (Fixed kind (f ∷ fs) ∷ ps) h = writable-join kind (f ∷ fs) (skeleton_of ps) h.0 (writable-skeleton ps h.1)
writable-skeleton (End kind byte s ∷ ps) h = (h.0, writable-skeleton ps h.1)

each-groups : {A : Type 0} (P : A → Type 0) (gs : List (List A)) → Each P (flat_map (λ g. g) gs) → Each (Each P) gs
each-groups P [] h = tt
each-groups P (g ∷ gs) h = (each-front P g (flat_map (λ k. k) gs) h, each-groups P gs (each-back P g (flat_map (λ k. k) gs) h))

-- ---- each piece is written

module _ (once : AreTyped) (shortest : ShortestAreTyped) (values : ValuesAreTyped) (have : TypedHaveValues) (placeless : PlacesDoNotCount) where
  spells-of : (p : Piece) (s : Rec) (kind : ℕ) (body : List ℕ) → s.kind ≡ kind → IsTyped s body → ((earlier : List Subrecord) → normal_of earlier s.kind s.contents ≡ p)
      → kind ≡ piece_kind p → alone s ≡ alone (rec_of p) → length body + 1 < 65536 → Spells p (raw_of kind body)
  spells-of p s kind body k t h same_kind same short =
      let e : s ≡ typed (raw_of kind body) = (once (raw_of kind body) s k t).0 in
      record {
        is_typed = subst (λ (x : Rec). IsTyped x body) e t;
        piece = λ earlier. subst (λ (x : Rec). normal_of earlier x.kind x.contents ≡ p) e (h earlier);
        kind = same_kind;
        same = subst (λ (x : Rec). alone x ≡ alone (rec_of p)) e same;
        short = short;
        summed = refl;
      }

  shorter : (a b : ℕ) → a ≤ b → b + 1 < 65536 → a + 1 < 65536
  shorter a b h k = omega (arith, h, k)

  write-kept : (r : Rec) → IsKeptFrom r → Spells (Kept r) (raw_of r.kind (contents_bytes r.kind r.contents))
  write-kept r h =
      let source = h.source in
      let q = shortest source h.body h.is_typed in
      let s = q.0.0 in
      let P : Rec → Type 0 = λ x. Spells (Kept x) (raw_of x.kind (contents_bytes x.kind x.contents)) in
      let kept : (earlier : List Subrecord) → normal_of earlier s.kind s.contents ≡ Kept (alone source) = λ earlier. same-piece earlier s source q.0.3 ∙ h.kept earlier ∙ ap (λ x. Kept x) (sym h.same) in
      let B : List ℕ → Type 0 = λ body. Spells (Kept (alone source)) (raw_of source.kind body) in
      let there : B (contents_bytes source.kind source.contents) = spells-of (Kept (alone source)) s source.kind (contents_bytes source.kind source.contents) q.0.1 q.0.2 kept refl (q.0.3 ∙ twice-alone source) (shorter _ (length h.body) q.1 h.short) in
      subst P h.same (subst B (sym (placeless source.kind source.contents)) there)

  group-bytes : (kind : ℕ) (g : List PlainFixup) → flat_map (fixup_bytes kind) g ≡ contents_bytes kind (Fixups (map (λ f. nowhere (unthreaded_fixup f)) g))
  group-bytes kind [] = refl
  group-bytes kind (f ∷ g) = ap (λ y. fixup_bytes kind f ++ y) (group-bytes kind g)

  group-values : (kind : ℕ) (g : List PlainFixup) → Each (IsPlainFixupValue kind) g → All (λ s. IsSubrecordValue kind s.item) (map (λ f. nowhere (unthreaded_fixup f)) g)
  group-values kind [] h = All-nil (λ s. IsSubrecordValue kind s.item)
  group-values kind (f ∷ g) h = All-cons (λ s. IsSubrecordValue kind s.item) (nowhere (unthreaded_fixup f)) (map (λ k. nowhere (unthreaded_fixup k)) g) (value-fixup kind f h.0) (group-values kind g h.1)

  group-again : (earlier : List Subrecord) (g : List PlainFixup) → with_before plain_fixup earlier (map (λ s. s.item) (map (λ f. nowhere (unthreaded_fixup f)) g)) ≡ g
  group-again earlier [] = refl
  group-again earlier (f ∷ g) = ap₂ (λ (x : PlainReference) (y : List PlainFixup). record { locat = f.locat; reference = x } ∷ y)
      (plain-again earlier (f.reference.displacement == 0) f.reference (eqb-true f.reference.displacement 0))
      (group-again (earlier ++ unthreaded_fixup f ∷ []) g)

  fits : (a : ℕ) → a ≤ body_limit → a + 1 < 65536
  fits a h = omega (arith, h)

  write-group : (kind : ℕ) (g : List PlainFixup) → is_fixupp kind ≡ true → Each (IsPlainFixupValue kind) g → fixups_size kind g ≤ body_limit → Spells (Fixed kind g) (raw_of kind (flat_map (fixup_bytes kind) g))
  write-group kind g taken h small =
      let subs : List (At Subrecord) = map (λ f. nowhere (unthreaded_fixup f)) g in
      let r : Rec = record { kind = kind; contents = Fixups subs } in
      let q = values r (record { taken = taken; each = group-values kind g h }) in
      let s = q.0.0 in
      let piece : (earlier : List Subrecord) → normal_of earlier s.kind s.contents ≡ Fixed kind g = λ earlier. same-piece earlier s r q.0.3 ∙ ap (λ x. Fixed kind x) (group-again earlier g) in
      spells-of (Fixed kind g) s kind (flat_map (fixup_bytes kind) g) q.0.1 (subst (IsTyped s) (sym (group-bytes kind g)) q.0.2) piece refl q.0.3
      (fits (length (flat_map (fixup_bytes kind) g)) (subst (λ n. n ≤ body_limit) (sym (length-group kind g)) small))

  write-groups : (kind : ℕ) (gs : List (List PlainFixup)) → is_fixupp kind ≡ true → Each (Each (IsPlainFixupValue kind)) gs → All (λ g. fixups_size kind g ≤ body_limit) gs
      → SpellAll (map (λ g. Fixed kind g) gs) (map (λ g. raw_of kind (flat_map (fixup_bytes kind) g)) gs)
  write-groups kind [] taken h small = tt
  write-groups kind (g ∷ gs) taken h small = (
    write-group kind g taken h.0 (All-head (λ k. fixups_size kind k ≤ body_limit) g gs small),
    write-groups kind gs taken h.1 (All-tail (λ k. fixups_size kind k ≤ body_limit) g gs small),
  )

  few : (a : ℕ) → a ≤ 9 → suc a + 1 < 65536
  few a h = omega (arith, h)

  write-end : (kind byte : ℕ) (start : Option PlainReference) → IsWritable (End kind byte start) → Spells (End kind byte start) (raw_of kind (byte ∷ start_bytes kind start))
  write-end kind byte None h =
      let r : Rec = record { kind = kind; contents = ModEnd byte None } in
      let q = values r (record { taken = h.0; fits = h.1; reference = subst (λ b. IsThere (IsReferenceValue kind) b None) (sym h.3) tt }) in
      let s = q.0.0 in
      spells-of (End kind byte None) s kind (byte ∷ []) q.0.1 q.0.2 (λ earlier. same-piece earlier s r q.0.3 ∙ ap (λ x. End kind x None) h.2) refl q.0.3 (omega arith)
  write-end kind byte (Some p) h =
      let r : Rec = record { kind = kind; contents = ModEnd byte (Some (unthreaded false p)) } in
      let q = values r (record { taken = h.0; fits = h.1; reference = subst (λ b. IsThere (IsReferenceValue kind) b (Some (unthreaded false p))) (sym h.3.0) (value-again kind false p h.3.1) }) in
      let s = q.0.0 in
      spells-of (End kind byte (Some p)) s kind (byte ∷ reference_bytes kind (unthreaded false p)) q.0.1 q.0.2
      (λ earlier. same-piece earlier s r q.0.3 ∙ ap₂ (λ x y. End kind x (Some y)) h.2 (plain-again earlier false p (λ e. absurd cc)))
      refl
      q.0.3
      (few (length (reference_bytes kind (unthreaded false p))) (length-reference_bytes kind (unthreaded false p)))

  write-piece : (p : Piece) → IsWritable p → SpellAll (cut_piece p) (piece_raws p)
  write-piece (Kept r) h = (write-kept r h, tt)
  write-piece (End kind byte start) h = (write-end kind byte start h, tt)
  write-piece (Fixed kind fs) h =
      let c = cut-greedy kind fs in
      write-groups kind (cut kind fs) h.0 (each-groups (IsPlainFixupValue kind) (cut kind fs) (subst (Each (IsPlainFixupValue kind)) c.whole h.1)) c.fits

  pub write-pieces : (ps : List Piece) → Each IsWritable ps → SpellAll (cut_pieces ps) (canonical_raws ps)
  write-pieces [] h = tt
  write-pieces (p ∷ ps) h = spell-append (cut_piece p) (cut_pieces ps) (piece_raws p) (canonical_raws ps) (write-piece p h.0) (write-pieces ps h.1)

  -- ---- the pieces of a module can be written

  end-byte : (byte : ℕ) → (end_byte byte < 256) × (end_byte (end_byte byte) ≡ end_byte byte) × (bits (end_byte byte) 6 1 ≡ bits byte 6 1)
  end-byte byte = (low (bits byte 7 1) (bits byte 6 1) (omega arith) (omega arith), again (bits byte 7 1) (bits byte 6 1) (omega arith) (omega arith), six (bits byte 7 1) (bits byte 6 1) (omega arith) (omega arith))
    where
      low : (x y : ℕ) → x < 2 → y < 2 → 128 * x + 64 * y + y < 256
      low x y h k = omega (arith, h, k)

      six : (x y : ℕ) → x < 2 → y < 2 → bits (128 * x + 64 * y + y) 6 1 ≡ y
      six x y h k = omega (arith, h, k)

      again : (x y : ℕ) → x < 2 → y < 2 → end_byte (128 * x + 64 * y + y) ≡ 128 * x + 64 * y + y
      again x y h k = omega (arith, h, k)

  start-value : (kind byte : ℕ) (earlier : List Subrecord) (b : Bool) (start : Option Reference) → AreSmall earlier → has_start byte ≡ b → IsThere (IsReferenceValue kind) b start → IsStart kind byte (option_map (plain earlier) start)
  start-value kind byte earlier true None e is h = absurd h
  start-value kind byte earlier true (Some r) e is h = (is, plain-value kind earlier r e h)
  start-value kind byte earlier false None e is h = is
  start-value kind byte earlier false (Some r) e is h = absurd h

  writable-contents : (earlier : List Subrecord) (kind : ℕ) (c : Contents) (body : List ℕ) → AreSmall earlier → IsTyped (record { kind = kind; contents = c }) body → length body + 1 < 65536
      → HaveReferenceValues kind c → IsWritable (normal_of earlier kind c)
  writable-contents earlier kind (Fixups subs) body e t short h = (h.taken, fixups-value kind earlier subs e h.each)
  writable-contents earlier kind (ModEnd byte start) body e t short h =
      let b = end-byte byte in
      (h.taken, b.0, b.1, start-value kind (end_byte byte) earlier (has_start byte) start e (ap (λ n. n == 1) b.2) h.reference)
  writable-contents earlier kind (Header x) body e t short h = record { source = _; body = body; is_typed = t; short = short; same = refl; other = tt; kept = λ later. refl }
  writable-contents earlier kind (Comment x y z) body e t short h = record { source = _; body = body; is_typed = t; short = short; same = refl; other = tt; kept = λ later. refl }
  writable-contents earlier kind (Names x) body e t short h = record { source = _; body = body; is_typed = t; short = short; same = refl; other = tt; kept = λ later. refl }
  writable-contents earlier kind (Segment x) body e t short h = record { source = _; body = body; is_typed = t; short = short; same = refl; other = tt; kept = λ later. refl }
  writable-contents earlier kind (Group x) body e t short h = record { source = _; body = body; is_typed = t; short = short; same = refl; other = tt; kept = λ later. refl }
  writable-contents earlier kind (Externs x) body e t short h = record { source = _; body = body; is_typed = t; short = short; same = refl; other = tt; kept = λ later. refl }
  writable-contents earlier kind (Publics x) body e t short h = record { source = _; body = body; is_typed = t; short = short; same = refl; other = tt; kept = λ later. refl }
  writable-contents earlier kind (Communals x) body e t short h = record { source = _; body = body; is_typed = t; short = short; same = refl; other = tt; kept = λ later. refl }
  writable-contents earlier kind (Plain x) body e t short h = record { source = _; body = body; is_typed = t; short = short; same = refl; other = tt; kept = λ later. refl }
  writable-contents earlier kind (Iterated x) body e t short h = record { source = _; body = body; is_typed = t; short = short; same = refl; other = tt; kept = λ later. refl }
  writable-contents earlier kind (Carried x) body e t short h = record { source = _; body = body; is_typed = t; short = short; same = refl; other = tt; kept = λ later. refl }

  small-contents : (E : List Subrecord) (kind : ℕ) (c : Contents) → AreSmall E → HaveReferenceValues kind c → AreSmall (E ++ subrecords_in c)
  small-contents E kind (Fixups subs) e h = small-all kind E subs e h.each
  small-contents E kind _ e h = subst AreSmall (sym (append-nil E)) e

  small-record : (before : List Rec) (r : Rec) → AreSmall (subrecords before) → HaveReferenceValues r.kind r.contents → AreSmall (subrecords (before ++ r ∷ []))
  small-record before r e h =
      let parts : subrecords (before ++ r ∷ []) ≡ subrecords before ++ subrecords_in r.contents = flat_map-append (λ (q : Rec). subrecords_in q.contents) before (r ∷ []) ∙ ap (λ x. subrecords before ++ x) (append-nil (subrecords_in r.contents)) in
      subst AreSmall (sym parts) (small-contents (subrecords before) r.kind r.contents e h)

  abbrev IsShort : Raw → Type 0
  IsShort r = length r.body + 1 < 65536

  pub writable-pieces : (before : List Rec) (records : List Raw) → AreSmall (subrecords before) → All IsSpelt records → All IsShort records → Each IsWritable (with_before normal_at before (map typed records))
  writable-pieces before [] e h short = tt
  writable-pieces before (r ∷ rs) e h short =
      let t = All-head IsSpelt r rs h in
      let v = have (typed r) r.body t in (
        writable-contents (subrecords before) r.kind (typed r).contents r.body e t (All-head IsShort r rs short) v,
        writable-pieces (before ++ typed r ∷ []) rs (small-record before (typed r) e v) (All-tail IsSpelt r rs h) (All-tail IsShort r rs short),
      )

  pub writable-module : (records : List Raw) → All IsSpelt records → All IsShort records → Each IsWritable (skeleton (recs records))
  writable-module records h short = writable-skeleton (map normal (pieces (recs records))) (subst (Each IsWritable) (sym (normal-pieces (recs records))) (writable-pieces [] records (λ b k. tt) h short))

  pub canonical-spells : (records : List Raw) → All IsSpelt records → All IsShort records → SpellAll (cut_pieces (skeleton (recs records))) (canonical_raws (skeleton (recs records)))
  canonical-spells records h short = write-pieces (skeleton (recs records)) (writable-module records h short)

  pub canonical-holds : (profile : Profile) (limits : Limits) (bytes : List ℕ) (records : List Raw) → IsWellFormed profile limits bytes records → CanonicalHolds records
  canonical-holds profile limits bytes records w =
      let S = skeleton (recs records) in
      let all = canonical-spells records (well-read profile limits bytes records w).spelled (λ k d lt. (w.framed.each k d lt).0) in
      let same : map normal (pieces (recs (canonical_raws S))) ≡ cut_pieces S = normal-pieces (recs (canonical_raws S)) ∙ spelled-pieces [] (cut_pieces S) (canonical_raws S) all in
      record {
        typed = spelled-typed (cut_pieces S) (canonical_raws S) all;
        pieces = same;
        skeleton = ap skeleton_of same ∙ cut-joined S (skeleton-joined (map normal (pieces (recs records))));
      }
