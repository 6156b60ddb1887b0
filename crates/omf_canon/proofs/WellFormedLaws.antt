-- Canonical records are well formed.
use Rattle.std.proofs.Common.{◌≡◌, ℕ, ◌+◌, ◌≤◌, List, [], ◌∷◌, ◌++◌, refl, sym, ◌∙◌, ap, subst, arith, append_assoc, append-nil}
use Rattle.std.specs.Prelude.{All, max}
use Rattle.std.proofs.lemmas.List.{length-map}
use Rattle.std.proofs.lemmas.List.Sums.{sum_by_push}
use Rattle.std.proofs.lemmas.List.Elements.{All-nil, All-cons}
use Rattle.omf_frame.specs.Inner.Names.{AreKept}
use Rattle.omf_frame.specs.Framing.{Raw}
use Rattle.omf_image.specs.declared.limits.Limits.{Limits}
use Rattle.omf_records.specs.Values.{At, nowhere, Rec, Contents, Fixups, ModEnd, Subrecord, contents_alone, subrecord_alone}
use Rattle.omf_records.specs.Inner.Reading.{typed}
use Rattle.omf_check.specs.Rules.{item_limit, room, item_places, contents_rules, rules}
use Rattle.omf_check.specs.Tables.{item_count, items_in}
use Rattle.omf_check.specs.WellFormed.{HasTrees, recs}
use Rattle.omf_check.specs.declared.profile.Profile.{Profile}
use Rattle.omf_reloc.specs.Plain.{Piece, Kept, Fixed, End}
use Rattle.omf_canon.specs.Inner.Names.{unthreaded_fixup}
use Rattle.omf_canon.specs.Joined.{piece_items}
use Rattle.omf_canon.proofs.AloneLaws.{IsOther, other-alone, alone-other}
use Rattle.omf_canon.proofs.CountLaws.{items}
use Rattle.omf_canon.proofs.RulesLaws.{holds, AreTrue, true-kept, kept-both, items-room, SameTables, same-rules}
use Rattle.omf_canon.proofs.PiecesKeptLaws.{PieceIsKept, kept_after, PiecesAreKept, tables-more, fixups-empty, end-empty, trees-alone}
use Rattle.omf_canon.proofs.ResultLaws.{fixups-like, end-like, fixups-true, start-true}
use Rattle.omf_canon.proofs.SpelledLaws.{rec_of, Spells, SpellAll}

back : {b L : List Rec} → SameTables b L → SameTables L b
back t = record { names = sym t.names; segments = sym t.segments; groups = sym t.groups; externals = sym t.externals; last = sym t.last }

-- ---- items

items-alone : (c : Contents) → items_in c ≡ items_in (contents_alone c)
items-alone (Fixups subs) = ap (max 1) (sym (length-map {B = At Subrecord} subs (λ s. nowhere (subrecord_alone s.item))))
items-alone _ = refl

other-item : (c : Contents) → IsOther c → items_in c ≡ 1
other-item (Fixups subs) o = absurd o
other-item (ModEnd byte start) o = refl
other-item _ o = refl

module _ (profile : Profile) (limits : Limits) where
  piece-item : (b : List Rec) (p : Piece) → PieceIsKept profile limits b p → items_in (rec_of p).contents ≡ piece_items p
  piece-item b (Kept r) h = other-item r.contents h.1
  piece-item b (Fixed kind fs) h = ap (max 1) (length-map {B = At Subrecord} fs (λ f. nowhere (unthreaded_fixup f)))
  piece-item b (End kind byte start) h = refl

  contents-same : (p : Piece) (raw : Raw) → Spells p raw → contents_alone (typed raw).contents ≡ contents_alone (rec_of p).contents
  contents-same p raw s = ap (λ (x : Rec). x.contents) s.same

  pub spelled-item : (b : List Rec) (p : Piece) (raw : Raw) → PieceIsKept profile limits b p → Spells p raw → items_in (typed raw).contents ≡ piece_items p
  spelled-item b p raw h s =
      items-alone (typed raw).contents
      ∙ ap items_in (contents-same p raw s)
      ∙ sym (items-alone (rec_of p).contents)
      ∙ piece-item b p h

  -- ---- the rules of one record

  spelled-rules : (L b : List Rec) → SameTables L b → (p : Piece) (raw : Raw) → PieceIsKept profile limits b p → Spells p raw → AreTrue (holds (contents_rules profile limits L raw.kind (typed raw).contents))
  spelled-rules L b t (Kept r) raw h s =
      let c = (typed raw).contents in
      let e = contents-same (Kept r) raw s in
      let o : IsOther c = alone-other c (subst IsOther (sym e) (other-alone r.contents h.1)) in
      subst AreTrue (sym (same-rules profile limits L b t raw.kind c r.contents o e)) (subst (λ k. AreTrue (holds (contents_rules profile limits b k r.contents))) (sym s.kind) h.0)
  spelled-rules L b t (Fixed kind fs) raw h s =
      let q = fixups-like (typed raw).contents _ (contents-same (Fixed kind fs) raw s) in
      subst (λ c. AreTrue (holds (contents_rules profile limits L raw.kind c))) (sym q.1) (fixups-true L b (back t) [] q.0 fs q.2 h)
  spelled-rules L b t (End kind byte start) raw h s =
      let q = end-like (typed raw).contents byte _ (contents-same (End kind byte start) raw s) in
      subst (λ c. AreTrue (holds (contents_rules profile limits L raw.kind c))) (sym q.1) (start-true L b (back t) q.0 start q.2 h)

  spelled-tables : (L b : List Rec) → SameTables L b → (p : Piece) (raw : Raw) → Spells p raw → SameTables (L ++ typed raw ∷ []) (kept_after profile limits b p)
  spelled-tables L b t (Kept r) raw s = tables-more L b (typed raw) r t s.same
  spelled-tables L b t (Fixed kind fs) raw s =
      let q = fixups-like (typed raw).contents _ (contents-same (Fixed kind fs) raw s) in
      subst (λ (c : Contents). SameTables (L ++ record { kind = raw.kind; contents = c } ∷ []) b) (sym q.1) (fixups-empty L b raw.kind q.0 t)
  spelled-tables L b t (End kind byte start) raw s =
      let q = end-like (typed raw).contents byte _ (contents-same (End kind byte start) raw s) in
      subst (λ (c : Contents). SameTables (L ++ record { kind = raw.kind; contents = c } ∷ []) b) (sym q.1) (end-empty L b raw.kind byte q.0 t)

  -- ---- of all records

  fits-now : (a b c d : ℕ) → a + (b + c) ≤ d → a + b ≤ d
  fits-now a b c d h = omega (arith, h)

  fits-later : (a b c d e : ℕ) → a + (b + c) ≤ d → e ≡ a + b → e + c ≤ d
  fits-later a b c d e h k = omega (arith, h, k)

  pub result-kept : (L b : List Rec) (ps : List Piece) (rest : List Raw) → SameTables L b → SpellAll ps rest → PiecesAreKept profile limits b ps → item_count L + items ps ≤ item_limit
      → (before after : List Raw) (r : Raw) → rest ≡ before ++ r ∷ after → AreKept (rules profile limits (L ++ recs before) (typed r))
  result-kept L b [] [] t s h few [] after r e = absurd cc
  result-kept L b [] [] t s h few (y ∷ before) after r e = absurd cc
  result-kept L b [] (x ∷ rest) t s h few before after r e = absurd s
  result-kept L b (p ∷ ps) [] t s h few before after r e = absurd s
  result-kept L b (p ∷ ps) (x ∷ rest) t s h few [] after r e =
      let is : x ≡ r = cc in
      let c = (typed x).contents in
      let item = spelled-item b p x h.0 s.0 in
      let now : item_count L + items_in c ≤ item_limit = subst (λ n. item_count L + n ≤ item_limit) (sym item) (fits-now (item_count L) (piece_items p) (items ps) item_limit few) in
      let kept : AreKept (rules profile limits L (typed x)) = true-kept (rules profile limits L (typed x))
      (kept-both (room item_limit (item_count L) (item_places c)) (contents_rules profile limits L x.kind c) (items-room item_limit (item_count L) c now) (spelled-rules L b t p x h.0 s.0)) in
      subst (λ z. AreKept (rules profile limits (L ++ []) (typed z))) is (subst (λ z. AreKept (rules profile limits z (typed x))) (sym (append-nil L)) kept)
  result-kept L b (p ∷ ps) (x ∷ rest) t s h few (y ∷ before) after r e =
      let is : x ≡ y = cc in
      let more : rest ≡ before ++ r ∷ after = cc in
      let item = spelled-item b p x h.0 s.0 in
      let count : item_count (L ++ typed x ∷ []) ≡ item_count L + piece_items p = sum_by_push (λ (q : Rec). items_in q.contents) L (typed x) ∙ ap (λ n. item_count L + n) item in
      let kept = result-kept (L ++ typed x ∷ []) (kept_after profile limits b p) ps rest (spelled-tables L b t p x s.0) s.1 h.1
      (fits-later (item_count L) (piece_items p) (items ps) item_limit (item_count (L ++ typed x ∷ [])) few count) before after r more in
      subst (λ z. AreKept (rules profile limits (L ++ typed z ∷ recs before) (typed r))) is (subst (λ z. AreKept (rules profile limits z (typed r))) (append_assoc L (typed x ∷ []) (recs before)) kept)

  abbrev Tree : Raw → Type 0
  Tree r = HasTrees limits r.kind (typed r).contents

  spelled-tree : (b : List Rec) (p : Piece) (raw : Raw) → PieceIsKept profile limits b p → Spells p raw → Tree raw
  spelled-tree b (Kept r) raw h s = trees-alone limits raw.kind r.contents (typed raw).contents (sym (contents-same (Kept r) raw s)) (subst (λ k. HasTrees limits k r.contents) (sym s.kind) h.2)
  spelled-tree b (Fixed kind fs) raw h s = let q = fixups-like (typed raw).contents _ (contents-same (Fixed kind fs) raw s) in subst (HasTrees limits raw.kind) (sym q.1) tt
  spelled-tree b (End kind byte start) raw h s = let q = end-like (typed raw).contents byte _ (contents-same (End kind byte start) raw s) in subst (HasTrees limits raw.kind) (sym q.1) tt

  pub result-trees : (b : List Rec) (ps : List Piece) (rest : List Raw) → SpellAll ps rest → PiecesAreKept profile limits b ps → All Tree rest
  result-trees b [] [] s h = All-nil Tree
  result-trees b [] (x ∷ rest) s h = absurd s
  result-trees b (p ∷ ps) [] s h = absurd s
  result-trees b (p ∷ ps) (x ∷ rest) s h = All-cons Tree x rest (spelled-tree b p x h.0 s.0) (result-trees (kept_after profile limits b p) ps rest s.1 h.1)

  pub result-items : (b : List Rec) (ps : List Piece) (rest : List Raw) (L : List Rec) → SpellAll ps rest → PiecesAreKept profile limits b ps → item_count (L ++ recs rest) ≡ item_count L + items ps
  result-items b [] [] L s h = ap item_count (append-nil L) ∙ nothing (item_count L)
    where
      nothing : (n : ℕ) → n ≡ n + 0
      nothing n = omega arith
  result-items b [] (x ∷ rest) L s h = absurd s
  result-items b (p ∷ ps) [] L s h = absurd s
  result-items b (p ∷ ps) (x ∷ rest) L s h =
      ap item_count (sym (append_assoc L (typed x ∷ []) (recs rest)))
      ∙ result-items (kept_after profile limits b p) ps rest (L ++ typed x ∷ []) s.1 h.1
      ∙ ap (λ n. n + items ps) (sum_by_push (λ (q : Rec). items_in q.contents) L (typed x) ∙ ap (λ n. item_count L + n) (spelled-item b p x h.0 s.0))
      ∙ regroup (item_count L) (piece_items p) (items ps)
    where
      regroup : (a b c : ℕ) → a + b + c ≡ a + (b + c)
      regroup a b c = omega arith
