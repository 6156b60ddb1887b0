-- The data of an LIDATA, and the state after a CEXTDEF, after a VENDEXT and after a COMDAT.
use Rattle.std.proofs.Common.{◌≡◌, inl, inr, ℕ, ◌+◌, ◌-◌, Bool, true, false, cond, List, [], ◌∷◌, ◌++◌, length, map, Result, Ok, Err, refl, sym, ap, subst, ◌∙◌, append_assoc, append-nil, length-append}
use Rattle.std.specs.Prelude.{OnOk, ◌||◌, ◌==◌}
use Rattle.std.proofs.lemmas.Bool.{eqb-true, or_cases}
use Rattle.omf_frame.specs.Framing.{Raw, is_taken}
use Rattle.omf_image.specs.Inner.Expanding.{expanded_length}
use Rattle.omf_image.specs.Limits.{profile_limits}
use Rattle.omf_records.specs.Inner.Reads.{or_none}
use Rattle.omf_records.specs.Inner.Seen.{contents_seen, kind_seen, odd_if}
use Rattle.omf_records.specs.Values.{At, width}
use Rattle.omf_records.specs.declared.record.Rec.{Rec as CodeRec}
use Rattle.omf_records.specs.declared.record.Rec.TheVariants as code
use Rattle.omf_records.specs.declared.record.Blocks.{Blocks}
use Rattle.omf_lowering.specs.Comdats.{defined_by, given_by, growth, made, named_patches_by, new_of}
use Rattle.omf_lowering.specs.Externals.{external_record, externals_by}
use Rattle.omf_lowering.specs.Inner.State.{AreAppended, State, added}
use Rattle.omf_lowering.specs.Lowering.{comdat_of, growths_in, instances_in, is_bakpat, is_cextdef, is_comdat, is_nbkpat, is_vendext, patches_in, replacement}
use Rattle.omf_lowering.specs.Patches.{piece_in, piece_of, pieces_from, size_or_none}
use Rattle.omf_lowering.specs.Symbols.{with_linnum}
use Rattle.omf_lowering.specs.Values.{Instance, Resolved, Tables}
use Rattle.omf_lowering.specs.declared.values.Piece.{Piece}
use Rattle.omf_lowering.specs.declared.values.Patch.{Patch}
use Rattle.omf_lowering.proofs.SymbolLaws.{piece_same}
use Rattle.omf_lowering.proofs.StateLaws.{externals_without, pieces-append}

iterated : ℕ → ℕ → ℕ → ℕ → ℕ → List Piece
iterated number s o size at = (record { number = number; is_plain = false; segment = s; offset = o; size = size; at = at }) ∷ []

pub piece_iterated : (number len : ℕ) (rec : CodeRec) (segment offset : At ℕ) (blocks : Blocks) (s o size at : ℕ) → rec ≡ code.Iterated segment offset blocks → s ≡ segment.item → o ≡ offset.item
    → size ≡ size_or_none (expanded_length (width (odd_if blocks.width 0xA2)) profile_limits blocks.bytes.now) → at ≡ len - length blocks.bytes.now
    → piece_of number (kind_seen rec) len (contents_seen rec) ≡ (record { number = number; is_plain = false; segment = s; offset = o; size = size; at = at }) ∷ []
unfolding iterated
piece_iterated number len rec segment offset blocks s o size at is hs ho hz ha =
    let full : ℕ = size_or_none (expanded_length (width (odd_if blocks.width 0xA2)) profile_limits blocks.bytes.now) in
    let start : ℕ = len - length blocks.bytes.now in
    ap (λ r. piece_of number (kind_seen r) len (contents_seen r)) is
    ∙ ap (λ x. iterated number x offset.item full start) (sym hs) ∙ ap (λ x. iterated number s x full start) (sym ho)
    ∙ ap (λ x. iterated number s o x start) (sym hz) ∙ ap (iterated number s o size) (sym ha)

pub on_ok : {A E P Q : Type 0} (r : Result A E) → (P → Q) → OnOk r P → OnOk r Q
on_ok (Ok x) f h = f h
on_ok (Err e) f h = h

pub added_cextdef : (s : State) (body : List ℕ) (sum : ℕ) (rs : List Raw) → rs ≡ s.before.records ++ map external_record (or_none (externals_by s.before.tables body))
    → record s { before = record { tables = s.before.tables; instances = s.before.instances; records = rs } } ≡ added s (record { kind = 0xBC; body = body; checksum = sum })
added_cextdef s body sum rs is =
    rw (externals_without (length s.before.records) (or_none (externals_by s.before.tables body)), append-nil s.before.instances, append-nil s.data_before, append-nil s.patches, append-nil s.growths, is) refl

pub added_vendext : (s : State) (body : List ℕ) (sum : ℕ) → s ≡ added s (record { kind = 0xCE; body = body; checksum = sum })
added_vendext s body sum = rw (append-nil s.before.instances, append-nil s.before.records, append-nil s.data_before, append-nil s.patches, append-nil s.growths) refl

-- A COMDAT is of one of two types.
of_comdat : (P : ℕ → Type 0) → P 0xC2 → P 0xC3 → (k : ℕ) → is_comdat k ≡ true → P k
of_comdat P even odd k e =
    elim (or_cases (0xC2 == k) ((0xC3 == k) || false) e) [
      | inl p ↦ subst P (eqb-true 0xC2 k p) even
      | inr q ↦ elim (or_cases (0xC3 == k) false q) [
        | inl p ↦ subst P (eqb-true 0xC3 k p) odd
        | inr p ↦ absurd cc
      ]
    ]

first_of : {A : Type 0} (a : Bool) (x y : A) → a ≡ true → cond a x y ≡ x
first_of true x y e = refl
first_of false x y e = absurd cc

second_of : {A : Type 0} (a : Bool) (x y : A) → a ≡ false → cond a x y ≡ y
second_of false x y e = refl
second_of true x y e = absurd cc

state : Tables → List Instance → List Raw → List Piece → List Patch → List Patch → State
state t i r d p g = record { before = record { tables = t; instances = i; records = r }; data_before = d; patches = p; growths = g }

same_state : {t1 t2 : Tables} {i1 i2 : List Instance} {r1 r2 : List Raw} {d1 d2 : List Piece} {p1 p2 g1 g2 : List Patch} → t1 ≡ t2 → i1 ≡ i2 → r1 ≡ r2 → d1 ≡ d2 → p1 ≡ p2 → g1 ≡ g2
    → state t1 i1 r1 d1 p1 g1 ≡ state t2 i2 r2 d2 p2 g2
same_state t i r d p g n = state (t n) (i n) (r n) (d n) (p n) (g n)

module _ (s : State) (r : Raw) (x : Resolved) (comdat : is_comdat r.kind ≡ true) (is : comdat_of s.before r ≡ Ok x) where
  cextdef : is_cextdef r.kind ≡ false
  cextdef = of_comdat (λ k. is_cextdef k ≡ false) refl refl r.kind comdat

  bakpat : is_bakpat r.kind ≡ false
  bakpat = of_comdat (λ k. is_bakpat k ≡ false) refl refl r.kind comdat

  nbkpat : is_nbkpat r.kind ≡ false
  nbkpat = of_comdat (λ k. is_nbkpat k ≡ false) refl refl r.kind comdat

  taken : is_taken r.kind ≡ false
  taken = of_comdat (λ k. is_taken k ≡ false) refl refl r.kind comdat

  -- what would replace a record of another type
  abbrev rest : List Raw
  rest = cond (is_vendext r.kind) [] (with_linnum s.before.tables s.before.instances r ∷ [])

  replaced_by : replacement s.before r ≡ made r.kind x
  replaced_by =
      second_of (is_cextdef r.kind) _ (cond (is_bakpat r.kind) [] (cond (is_nbkpat r.kind) [] (cond (is_comdat r.kind) (given_by (made r.kind) (comdat_of s.before r)) rest))) cextdef
      ∙ second_of (is_bakpat r.kind) [] (cond (is_nbkpat r.kind) [] (cond (is_comdat r.kind) (given_by (made r.kind) (comdat_of s.before r)) rest)) bakpat
      ∙ second_of (is_nbkpat r.kind) [] (cond (is_comdat r.kind) (given_by (made r.kind) (comdat_of s.before r)) rest) nbkpat
      ∙ first_of (is_comdat r.kind) (given_by (made r.kind) (comdat_of s.before r)) rest comdat
      ∙ ap (given_by (made r.kind)) is

  pub added_comdat : (is_after : List Instance) (rs : List Raw) (ps : List Piece) (gs : List Patch)
      → is_after ≡ s.before.instances ++ new_of x → AreAppended (made r.kind x) s.before.records rs s.data_before ps → gs ≡ s.growths ++ growth s.data_before x
      → record { before = record { tables = s.before.tables; instances = is_after; records = rs }; data_before = ps; patches = s.patches; growths = gs } ≡ added s r
  unfolding state
  added_comdat is_after rs ps gs i1 more g1 =
      let same_tables : s.before.tables ≡ defined_by s.before.tables r = sym (second_of (is_taken r.kind) _ s.before.tables taken) in
      let instances : is_after ≡ s.before.instances ++ instances_in s.before r =
      i1 ∙ ap (λ l. s.before.instances ++ l) (sym (first_of (is_comdat r.kind) (given_by new_of (comdat_of s.before r)) [] comdat ∙ ap (given_by new_of) is)) in
      let items : more.items ≡ replacement s.before r = more.is ∙ sym replaced_by in
      let records : rs ≡ s.before.records ++ replacement s.before r = more.records ∙ ap (λ l. s.before.records ++ l) items in
      let pieces : ps ≡ s.data_before ++ pieces_from (length s.before.records) (replacement s.before r) =
      more.pieces ∙ ap (λ l. s.data_before ++ pieces_from (length s.before.records) l) items in
      let patches : s.patches ≡ s.patches ++ patches_in s.before s.data_before r =
      sym (ap (λ l. s.patches ++ l) (second_of (is_bakpat r.kind) _ (cond (is_nbkpat r.kind) (or_none (named_patches_by s.before.tables s.before.instances s.data_before r.kind r.body)) []) bakpat
      ∙ second_of (is_nbkpat r.kind) _ [] nbkpat) ∙ append-nil s.patches) in
      let growths : gs ≡ s.growths ++ growths_in s.before s.data_before r =
      g1 ∙ ap (λ l. s.growths ++ l) (sym (first_of (is_comdat r.kind) (given_by (growth s.data_before) (comdat_of s.before r)) [] comdat ∙ ap (given_by (growth s.data_before)) is)) in
      same_state same_tables instances records pieces patches growths

-- one more record of those to append, and its data
pub one_moved : (r : Raw) (rest rs new all : List Raw) (ps qs q : List Piece) → rs ++ r ∷ rest ≡ all → new ≡ rs ++ r ∷ [] → ps ++ pieces_from (length rs) (r ∷ rest) ≡ q
    → qs ≡ ps ++ pieces_from (length rs) (r ∷ []) → (new ++ rest ≡ all) × (qs ++ pieces_from (length new) rest ≡ q)
one_moved r rest rs new all ps qs q is more is_too more_too =
    let next : length new ≡ length rs + 1 = ap length more ∙ length-append rs (r ∷ []) in (
      ap (λ l. l ++ rest) more ∙ append_assoc rs (r ∷ []) rest ∙ is,
      ap (λ l. l ++ pieces_from (length new) rest) more_too ∙ ap (λ n. (ps ++ pieces_from (length rs) (r ∷ [])) ++ pieces_from n rest) next
          ∙ append_assoc ps (pieces_from (length rs) (r ∷ [])) (pieces_from (length rs + 1) rest)
          ∙ ap (λ l. ps ++ l) (sym (pieces-append (length rs) (r ∷ []) rest)) ∙ is_too,
    )

-- the state after a record that is kept
module _ (s : State) (r : Raw) (cextdef : is_cextdef r.kind ≡ false) (bakpat : is_bakpat r.kind ≡ false) (nbkpat : is_nbkpat r.kind ≡ false) (comdat : is_comdat r.kind ≡ false)
    (vendext : is_vendext r.kind ≡ false) where
  abbrev kept : List Raw
  kept = with_linnum s.before.tables s.before.instances r ∷ []

  kept_by : replacement s.before r ≡ kept
  kept_by =
      second_of (is_cextdef r.kind) _ (cond (is_bakpat r.kind) [] (cond (is_nbkpat r.kind) [] (cond (is_comdat r.kind) (given_by (made r.kind) (comdat_of s.before r)) (cond (is_vendext r.kind) [] kept)))) cextdef
      ∙ second_of (is_bakpat r.kind) [] (cond (is_nbkpat r.kind) [] (cond (is_comdat r.kind) (given_by (made r.kind) (comdat_of s.before r)) (cond (is_vendext r.kind) [] kept))) bakpat
      ∙ second_of (is_nbkpat r.kind) [] (cond (is_comdat r.kind) (given_by (made r.kind) (comdat_of s.before r)) (cond (is_vendext r.kind) [] kept)) nbkpat
      ∙ second_of (is_comdat r.kind) (given_by (made r.kind) (comdat_of s.before r)) (cond (is_vendext r.kind) [] kept) comdat
      ∙ second_of (is_vendext r.kind) [] kept vendext

  pub added_kept : (tables : Tables) (rs : List Raw) (ps : List Piece) → tables ≡ defined_by s.before.tables r → rs ≡ s.before.records ++ kept
      → ps ≡ s.data_before ++ piece_in (length s.before.records) r
      → record { before = record { tables = tables; instances = s.before.instances; records = rs }; data_before = ps; patches = s.patches; growths = s.growths } ≡ added s r
  unfolding state
  added_kept tables rs ps t1 r1 p1 =
      let instances : s.before.instances ≡ s.before.instances ++ instances_in s.before r =
      sym (ap (λ l. s.before.instances ++ l) (second_of (is_comdat r.kind) (given_by new_of (comdat_of s.before r)) [] comdat) ∙ append-nil s.before.instances) in
      let records : rs ≡ s.before.records ++ replacement s.before r = r1 ∙ ap (λ l. s.before.records ++ l) (sym kept_by) in
      let own : pieces_from (length s.before.records) kept ≡ piece_in (length s.before.records) r =
      append-nil (piece_in (length s.before.records) (with_linnum s.before.tables s.before.instances r)) ∙ piece_same (length s.before.records) s.before.tables s.before.instances r in
      let pieces : ps ≡ s.data_before ++ pieces_from (length s.before.records) (replacement s.before r) =
      p1 ∙ ap (λ l. s.data_before ++ l) (sym (ap (pieces_from (length s.before.records)) kept_by ∙ own)) in
      let patches : s.patches ≡ s.patches ++ patches_in s.before s.data_before r =
      sym (ap (λ l. s.patches ++ l) (second_of (is_bakpat r.kind) _ (cond (is_nbkpat r.kind) (or_none (named_patches_by s.before.tables s.before.instances s.data_before r.kind r.body)) []) bakpat
      ∙ second_of (is_nbkpat r.kind) _ [] nbkpat) ∙ append-nil s.patches) in
      let growths : s.growths ≡ s.growths ++ growths_in s.before s.data_before r =
      sym (ap (λ l. s.growths ++ l) (second_of (is_comdat r.kind) (given_by (growth s.data_before) (comdat_of s.before r)) [] comdat) ∙ append-nil s.growths) in
      same_state t1 instances records pieces patches growths
