-- Canonical records are a module's frame: a header first, a MODEND last, known types and right checksums.
use Rattle.std.proofs.Common.{◌≡◌, ℕ, ◌+◌, ◌-◌, ◌%◌, ◌/◌, ◌<◌, ◌≤◌, ◌⊎◌, inl, inr, List, [], ◌∷◌, ◌++◌, length, refl, sym, ◌∙◌, ap, subst, Bool, true, false, arith, true≢false}
use Rattle.std.specs.Prelude.{map, All, not, sum, slice_index, IsTrue, ◌==◌}
use Rattle.std.specs.List.{AllByRecursion as Each}
use Rattle.std.proofs.lemmas.Bool.{cond_both, eqb-true, or_cases, false≢true}
use Rattle.std.proofs.lemmas.List.Sums.{sum_by_push}
use Rattle.std.proofs.lemmas.List.Elements.{All-nil, All-cons, All-head, All-tail}
use Rattle.omf_frame.specs.Bytes.{with_before, is_one_of}
use Rattle.omf_frame.specs.Framing.{Raw, raw_bytes, raw_of, checksum_of, IsRecord, IsFramed, is_taken, is_header, is_end}
use Rattle.omf_records.specs.Values.{Rec, Contents, Fixups, ModEnd, Subrecord}
use Rattle.omf_records.specs.Laws.{AreTyped, ShortestAreTyped, ValuesAreTyped, TypedHaveValues, PlacesDoNotCount}
use Rattle.omf_records.specs.Inner.Reading.{typed}
use Rattle.omf_records.specs.Valued.{is_fixupp, HaveReferenceValues}
use Rattle.omf_check.specs.Laws.{ModulesHold}
use Rattle.omf_check.specs.Rules.{item_limit}
use Rattle.omf_check.specs.Tables.{subrecords, item_count}
use Rattle.omf_check.specs.WellFormed.{recs}
use Rattle.omf_reloc.specs.Plain.{Piece, Kept, Fixed, End, PlainFixup, pieces}
use Rattle.omf_canon.specs.Inner.Names.{canonical_bytes}
use Rattle.omf_canon.proofs.NormalLaws.{normal_of, normal_at, normal_pieces, normal-pieces}
use Rattle.omf_canon.specs.Canonical.{canonical_raws}
use Rattle.omf_canon.specs.Cut.{cut}
use Rattle.omf_canon.specs.Joined.{cut_pieces}
use Rattle.omf_canon.specs.Laws.{CanonicalsAreWellFormed}
use Rattle.omf_canon.specs.Skeleton.{join_front, normal, skeleton_of, skeleton}
use Rattle.omf_canon.proofs.CountLaws.{items, items-sum, canonical-items}
use Rattle.omf_canon.proofs.PiecesKeptLaws.{PiecesAreKept, kept-skeleton, kept-cut}
use Rattle.omf_canon.proofs.ResultLaws.{kept-module, items-limited}
use Rattle.omf_canon.proofs.RulesLaws.{SameTables}
use Rattle.omf_check.proofs.WellLaws.{well-read, well-formed}
use Rattle.omf_canon.proofs.SpelledLaws.{IsSpelt, IsWritable, piece_kind, Spells, SpellAll, spelled-typed, writable-pieces, writable-skeleton, canonical-spells}
use Rattle.omf_canon.proofs.WellFormedLaws.{result-kept, result-trees, result-items}

-- ---- checksums

checks : (x y : ℕ) → y ≡ x + 0 → (x + (256 - y % 256) % 256) % 256 ≡ 0
checks x y e = omega (arith, e)

summed : (kind : ℕ) (body : List ℕ) → sum (raw_bytes (raw_of kind body)) % 256 ≡ 0
summed kind body =
    let front : List ℕ = kind ∷ (length body + 1) % 256 ∷ (length body + 1) / 256 ∷ body in
    let none : sum (raw_bytes (record { kind = kind; body = body; checksum = 0 })) ≡ sum front + 0 = sum_by_push (λ (x : ℕ). x) front 0 in
    let all : sum (raw_bytes (raw_of kind body)) ≡ sum front + checksum_of kind body = sum_by_push (λ (x : ℕ). x) front (checksum_of kind body) in
    ap (λ n. n % 256) all ∙ checks (sum front) (sum (raw_bytes (record { kind = kind; body = body; checksum = 0 }))) none

spelled-record : (p : Piece) (raw : Raw) → Spells p raw → IsRecord raw
spelled-record p raw s = (s.short, inr (subst (λ r. sum (raw_bytes r) % 256 ≡ 0) (sym s.summed) (summed raw.kind raw.body)))

records-framed : (ps : List Piece) (rs : List Raw) → SpellAll ps rs → All IsRecord rs
records-framed [] [] s = All-nil IsRecord
records-framed [] (r ∷ rs) s = absurd s
records-framed (p ∷ ps) [] s = absurd s
records-framed (p ∷ ps) (r ∷ rs) s = All-cons IsRecord r rs (spelled-record p r s.0) (records-framed ps rs s.1)

-- ---- types

abbrev IsTaken : Piece → Type 0
IsTaken p = is_taken (piece_kind p) ≡ true

taken-join : (kind : ℕ) (fs : List PlainFixup) (ps : List Piece) → is_taken kind ≡ true → Each IsTaken ps → Each IsTaken (join_front (Fixed kind fs) ps)
taken-join kind fs [] w h = (w, tt)
taken-join kind fs (Kept r ∷ ps) w h = (w, h)
taken-join kind fs (End other byte s ∷ ps) w h = (w, h)
taken-join kind fs (Fixed other gs ∷ ps) w h = cond_both (kind == other) _ _ (Each IsTaken) (λ e. (w, h.1)) (λ e. (w, h))

taken-skeleton : (ps : List Piece) → Each IsTaken ps → Each IsTaken (skeleton_of ps)
taken-skeleton [] h = tt
taken-skeleton (Kept r ∷ ps) h = (h.0, taken-skeleton ps h.1)
taken-skeleton (Fixed kind [] ∷ ps) h = taken-skeleton ps h.1
taken-skeleton (Fixed kind (f ∷ fs) ∷ ps) h = taken-join kind (f ∷ fs) (skeleton_of ps) h.0 (taken-skeleton ps h.1)
taken-skeleton (End kind byte s ∷ ps) h = (h.0, taken-skeleton ps h.1)

taken-groups : (kind : ℕ) (gs : List (List PlainFixup)) (ps : List Piece) → is_taken kind ≡ true → Each IsTaken ps → Each IsTaken (map (λ g. Fixed kind g) gs ++ ps)
taken-groups kind [] ps w h = h
taken-groups kind (g ∷ gs) ps w h = (w, taken-groups kind gs ps w h)

taken-cut : (ps : List Piece) → Each IsTaken ps → Each IsTaken (cut_pieces ps)
taken-cut [] h = tt
taken-cut (Kept r ∷ ps) h = (h.0, taken-cut ps h.1)
taken-cut (Fixed kind fs ∷ ps) h = taken-groups kind (cut kind fs) (cut_pieces ps) h.0 (taken-cut ps h.1)
taken-cut (End kind byte s ∷ ps) h = (h.0, taken-cut ps h.1)

abbrev HasType : Raw → Type 0
HasType r = IsTrue (is_taken r.kind)

types-framed : (ps : List Piece) (rs : List Raw) → SpellAll ps rs → Each IsTaken ps → All HasType rs
types-framed [] [] s h = All-nil HasType
types-framed [] (r ∷ rs) s h = absurd s
types-framed (p ∷ ps) [] s h = absurd s
types-framed (p ∷ ps) (r ∷ rs) s h = All-cons HasType r rs (subst (λ k. is_taken k ≡ true) (sym s.0.kind) h.0) (types-framed ps rs s.1 h.1)

kind-piece : (earlier : List Subrecord) (kind : ℕ) (c : Contents) → piece_kind (normal_of earlier kind c) ≡ kind
kind-piece earlier kind (Fixups subs) = refl
kind-piece earlier kind (ModEnd byte start) = refl
kind-piece earlier kind _ = refl

taken-pieces : (before : List Rec) (rs : List Raw) → All HasType rs → Each IsTaken (with_before normal_at before (recs rs))
taken-pieces before [] h = tt
taken-pieces before (r ∷ rs) h = (
  subst (λ k. is_taken k ≡ true) (sym (kind-piece (subrecords before) r.kind (typed r).contents)) (All-head HasType r rs h),
  taken-pieces (before ++ typed r ∷ []) rs (All-tail HasType r rs h),
)

-- ---- a MODEND last, and no other

one_of_two : (a b kind : ℕ) → is_one_of (a ∷ b ∷ []) kind ≡ true → (kind ≡ a) ⊎ (kind ≡ b)
one_of_two a b kind e =
    elim (or_cases (a == kind) (is_one_of (b ∷ []) kind) e) [
      | inl q ↦ inl (sym (eqb-true a kind q))
      | inr q ↦ elim (or_cases (b == kind) false q) [ inl z ↦ inr (sym (eqb-true b kind z)) | inr z ↦ absurd cc ]
    ]

fixupp-no-end : (kind : ℕ) → is_fixupp kind ≡ true → is_end kind ≡ false
fixupp-no-end kind e = elim (one_of_two 0x9C 0x9D kind e) [
  | inl q ↦ subst (λ k. is_end k ≡ false) (sym q) refl
  | inr q ↦ subst (λ k. is_end k ≡ false) (sym q) refl
]

fixupp-no-header : (kind : ℕ) → is_fixupp kind ≡ true → is_header kind ≡ false
fixupp-no-header kind e = elim (one_of_two 0x9C 0x9D kind e) [
  | inl q ↦ subst (λ k. is_header k ≡ false) (sym q) refl
  | inr q ↦ subst (λ k. is_header k ≡ false) (sym q) refl
]

end-no-header : (kind : ℕ) → is_end kind ≡ true → is_header kind ≡ false
end-no-header kind e = elim (one_of_two 0x8A 0x8B kind e) [
  | inl q ↦ subst (λ k. is_header k ≡ false) (sym q) refl
  | inr q ↦ subst (λ k. is_header k ≡ false) (sym q) refl
]

both-ways : {A : Type 0} (b : Bool) → b ≡ true → b ≡ false → A
both-ways b e h = absurd (true≢false (sym e ∙ h))

abbrev Closed : List Piece → Type 0
Closed [] = ⊥
Closed (p ∷ ps) = ((ps ≡ []) × (is_end (piece_kind p) ≡ true)) ⊎ ((is_end (piece_kind p) ≡ false) × Closed ps)

closed-join : (kind : ℕ) (fs : List PlainFixup) (ps : List Piece) → is_end kind ≡ false → Closed ps → Closed (join_front (Fixed kind fs) ps)
closed-join kind fs [] n h = absurd h
closed-join kind fs (Kept r ∷ ps) n h = inr (n, h)
closed-join kind fs (End other byte s ∷ ps) n h = inr (n, h)
closed-join kind fs (Fixed other gs ∷ ps) n (inl (e, k)) = cond_both (kind == other) _ _ Closed (λ q. inl (e, subst (λ x. is_end x ≡ true) (sym (eqb-true kind other q)) k)) (λ q. inr (n, inl (e, k)))
closed-join kind fs (Fixed other gs ∷ ps) n (inr (m, h)) = cond_both (kind == other) _ _ Closed (λ q. inr (n, h)) (λ q. inr (n, inr (m, h)))

closed-skeleton : (ps : List Piece) → Each IsWritable ps → Closed ps → Closed (skeleton_of ps)
closed-skeleton [] w h = absurd h
closed-skeleton (Kept r ∷ ps) w (inl (e, k)) = inl (ap skeleton_of e, k)
closed-skeleton (Kept r ∷ ps) w (inr (n, h)) = inr (n, closed-skeleton ps w.1 h)
closed-skeleton (End kind byte s ∷ ps) w (inl (e, k)) = inl (ap skeleton_of e, k)
closed-skeleton (End kind byte s ∷ ps) w (inr (n, h)) = inr (n, closed-skeleton ps w.1 h)
closed-skeleton (Fixed kind [] ∷ ps) w (inl (e, k)) = both-ways (is_end kind) k (fixupp-no-end kind w.0.0)
closed-skeleton (Fixed kind [] ∷ ps) w (inr (n, h)) = closed-skeleton ps w.1 h
closed-skeleton (Fixed kind (f ∷ fs) ∷ ps) w (inl (e, k)) = both-ways (is_end kind) k (fixupp-no-end kind w.0.0)
closed-skeleton (Fixed kind (f ∷ fs) ∷ ps) w (inr (n, h)) = closed-join kind (f ∷ fs) (skeleton_of ps) n (closed-skeleton ps w.1 h)

closed-groups : (kind : ℕ) (gs : List (List PlainFixup)) (ps : List Piece) → is_end kind ≡ false → Closed ps → Closed (map (λ g. Fixed kind g) gs ++ ps)
closed-groups kind [] ps n h = h
closed-groups kind (g ∷ gs) ps n h = inr (n, closed-groups kind gs ps n h)

closed-cut : (ps : List Piece) → Each IsWritable ps → Closed ps → Closed (cut_pieces ps)
closed-cut [] w h = absurd h
closed-cut (Kept r ∷ ps) w (inl (e, k)) = inl (ap cut_pieces e, k)
closed-cut (Kept r ∷ ps) w (inr (n, h)) = inr (n, closed-cut ps w.1 h)
closed-cut (End kind byte s ∷ ps) w (inl (e, k)) = inl (ap cut_pieces e, k)
closed-cut (End kind byte s ∷ ps) w (inr (n, h)) = inr (n, closed-cut ps w.1 h)
closed-cut (Fixed kind fs ∷ ps) w (inl (e, k)) = both-ways (is_end kind) k (fixupp-no-end kind w.0.0)
closed-cut (Fixed kind fs ∷ ps) w (inr (n, h)) = closed-groups kind (cut kind fs) (cut_pieces ps) n (closed-cut ps w.1 h)

abbrev IsNoEnd : Raw → Type 0
IsNoEnd r = IsTrue (not (is_end r.kind))

no-end : (b : Bool) → not b ≡ true → b ≡ false
no-end true e = absurd (false≢true e)
no-end false e = refl

closed-pieces : (before : List Rec) (front : List Raw) (end : Raw) → is_end end.kind ≡ true → All IsNoEnd front → Closed (with_before normal_at before (recs (front ++ end ∷ [])))
closed-pieces before [] end e h = inl (refl, subst (λ k. is_end k ≡ true) (sym (kind-piece (subrecords before) end.kind (typed end).contents)) e)
closed-pieces before (x ∷ front) end e h = inr (
  subst (λ k. is_end k ≡ false) (sym (kind-piece (subrecords before) x.kind (typed x).contents)) (no-end (is_end x.kind) (All-head IsNoEnd x front h)),
  closed-pieces (before ++ typed x ∷ []) front end e (All-tail IsNoEnd x front h),
)

abbrev EndsIn : List Raw → Type 0
EndsIn rs = (front : List Raw) × (end : Raw) × (rs ≡ front ++ end ∷ []) × IsTrue (is_end end.kind) × All IsNoEnd front

closed-records : (ps : List Piece) (rs : List Raw) → SpellAll ps rs → Closed ps → EndsIn rs
closed-records [] rs s h = absurd h
closed-records (p ∷ ps) [] s h = absurd s
closed-records (p ∷ ps) (r ∷ []) s (inl (e, k)) = ([], r, refl, subst (λ x. is_end x ≡ true) (sym s.0.kind) k, All-nil IsNoEnd)
closed-records (p ∷ ps) (r ∷ x ∷ rs) s (inl (e, k)) = absurd (subst (λ z. SpellAll z (x ∷ rs)) e s.1)
closed-records (p ∷ ps) (r ∷ rs) s (inr (n, h)) =
    let q = closed-records ps rs s.1 h in
    (r ∷ q.0, q.1, ap (λ t. r ∷ t) q.2, q.3, All-cons IsNoEnd r q.0 (ap not (subst (λ x. is_end x ≡ false) (sym s.0.kind) n)) q.4)

-- ---- a header first

abbrev Begins : List Piece → Type 0
Begins (Kept r ∷ ps) = is_header r.kind ≡ true
Begins _ = ⊥

begins-piece : (earlier : List Subrecord) (kind : ℕ) (c : Contents) (ps : List Piece) → HaveReferenceValues kind c → is_header kind ≡ true → Begins (normal_of earlier kind c ∷ ps)
begins-piece earlier kind (Fixups subs) ps h e = both-ways (is_header kind) e (fixupp-no-header kind h.taken)
begins-piece earlier kind (ModEnd byte start) ps h e = both-ways (is_header kind) e (end-no-header kind h.taken)
begins-piece earlier kind _ ps h e = e

begins-canonical : (ps : List Piece) → Begins ps → is_header (slice_index (canonical_bytes (skeleton_of ps)) 0) ≡ true
begins-canonical [] h = absurd h
begins-canonical (Kept r ∷ ps) h = h
begins-canonical (Fixed kind fs ∷ ps) h = absurd h
begins-canonical (End kind byte s ∷ ps) h = absurd h

begins-records : TypedHaveValues → (bytes : List ℕ) (records : List Raw) → IsFramed bytes records → All (λ r. IsSpelt r) records → Begins (normal_pieces (recs records))
begins-records have bytes [] f t = nothing f.last.0 f.last.1 f.last.2
  where
    nothing : (front : List Raw) (end : Raw) → [] ≡ front ++ end ∷ [] → Begins []
    nothing [] end e = absurd cc
    nothing (x ∷ front) end e = absurd cc
begins-records have bytes (r ∷ rs) f t =
    begins-piece [] r.kind (typed r).contents _ (have (typed r) r.body (All-head IsSpelt r rs t)) (subst (λ b. is_header (slice_index b 0) ≡ true) f.spelled f.first)

-- ---- all of it

no-tables : SameTables [] []
no-tables = record { names = refl; segments = refl; groups = refl; externals = refl; last = refl }

little : (a b c d : ℕ) → a ≡ b → a ≤ c → c ≤ d → 0 + b ≤ d
little a b c d e h k = omega (arith, e, h, k)

fewer : (n a b c : ℕ) → n ≡ 0 + b → a ≡ b → a ≤ c → n ≤ c
fewer n a b c e h k = omega (arith, e, h, k)

pub canonical-well-formed : AreTyped → ShortestAreTyped → ValuesAreTyped → TypedHaveValues → PlacesDoNotCount → ModulesHold → CanonicalsAreWellFormed
canonical-well-formed once shortest values have placeless holds profile limits bytes records well =
    let w = well-read profile limits bytes records well in
    let m = recs records in
    let S = skeleton m in
    let ps = cut_pieces S in
    let raws = canonical_raws S in
    let short : All (λ r. length r.body + 1 < 65536) records = λ k d lt. (w.framed.each k d lt).0 in
    let all : SpellAll ps raws = canonical-spells once shortest values have placeless records w.spelled short in
    let P : List Piece = map normal (pieces m) in
    let n : normal_pieces m ≡ P = sym (normal-pieces m) in
    let writable : Each IsWritable P = subst (Each IsWritable) n (writable-pieces once shortest values have placeless [] records (λ b k. tt) w.spelled short) in
    let module_holds = holds profile limits bytes records well in
    let kept : PiecesAreKept profile limits [] ps = kept-cut profile limits [] S (kept-skeleton profile limits [] P (kept-module profile limits bytes records w module_holds)) in
    let limited = items-limited profile limits bytes records w module_holds in
    let few : item_count [] + items ps ≤ item_limit = little _ (items ps) (item_count m) item_limit (items-sum ps) (canonical-items m) limited in
    let closed : Closed P = subst Closed n (subst (λ x. Closed (normal_pieces (recs x))) (sym w.framed.last.2) (closed-pieces [] w.framed.last.0 w.framed.last.1 w.framed.last.3 w.framed.last.4)) in (
      well-formed profile limits _ raws (record {
        framed = record {
          spelled = refl;
          each = records-framed ps raws all;
          types = types-framed ps raws all (taken-cut S (taken-skeleton P (subst (Each IsTaken) n (taken-pieces [] records w.framed.types))));
          first = begins-canonical P (subst Begins n (begins-records have bytes records w.framed w.spelled));
          last = closed-records ps raws all (closed-cut S (writable-skeleton P writable) (closed-skeleton P writable closed));
        };
        spelled = spelled-typed ps raws all;
        blocks = result-trees profile limits [] ps raws all kept;
        kept = λ before after r e. result-kept profile limits [] [] ps raws no-tables all kept few before after r e;
      }),
      fewer (item_count (recs raws)) _ (items ps) (item_count m) (result-items profile limits [] ps raws [] all kept) (items-sum ps) (canonical-items m),
    )
