-- The instances of a module are its SEGDEFs that are followed by a PUBDEF of one name and a mark.
use Rattle.std.proofs.Common.{◌≡◌, inl, inr, ℕ, zero, suc, ◌+◌, List, [], ◌∷◌, ◌++◌, length, refl, sym, ap, ap₂, ◌∙◌, subst, arith, append_assoc, append-nil}
use Rattle.std.specs.Prelude.{Contains, Option, Some, None}
use Rattle.std.proofs.lemmas.List.Elements.{Contains-append_cases, Contains-append_left, Contains-append_right}
use Rattle.omf_records.specs.Values.{Contents, Rec, Segment, SegmentItem}
use Rattle.omf_check.specs.Tables.{segment_length, segments}
use Rattle.omf_lowering.specs.Marks.{selection_by}
use Rattle.omf_trimming.specs.Choice.{Marked, data_of, marked_at, marked_from, marked_if, name_by, past_threads}
use Rattle.omf_trimming.specs.ChoiceLaws.{InstancesAreTriples, IsInstance}
use Rattle.omf_trimming.specs.Without.{count_after}
use Rattle.omf_trimming.proofs.RestLaws.{count-is, segments-more}

counts : (before : List Rec) (r : Rec) → count_after (length (segments before)) r.contents ≡ length (segments (before ++ r ∷ []))
counts before r = count-is (length (segments before)) r.kind r.contents ∙ sym (segments-more before r)

contains-none : {A : Type 0} (i : Marked) → Contains [] i → A
contains-none i (k, low, is) = absurd (omega (arith, low))

contains-one : (x i : Marked) → Contains (x ∷ []) i → x ≡ i
contains-one x i (zero, low, is) = is
contains-one x i (suc k, low, is) = absurd (omega (arith, low))

-- ---- an instance is such records

module _ (m before : List Rec) (r : Rec) (i : Marked) where
  abbrev own : ℕ
  own = length (segments before) + 1

  by-options : (p mark : Rec) (after : List Rec) (item : SegmentItem) → past_threads m ≡ before ++ r ∷ p ∷ mark ∷ after → r.contents ≡ Segment item → (o : Option (List ℕ)) (s : Option ℕ)
      → name_by own p.kind p.contents ≡ o → selection_by mark.contents ≡ s → Contains (marked_if m own (segment_length r.kind item) o s) i → IsInstance m i
  by-options p mark after item e is (Some name) (Some selection) n k h = subst (IsInstance m) (contains-one _ i h) (record {
    before = before;
    segdef = r;
    pubdef = p;
    mark = mark;
    after = after;
    split = e;
    item = item;
    segment_is = is;
    index_is = refl;
    size_is = refl;
    named = n;
    selected = k;
    pieces_are = refl;
  })
  by-options p mark after item e is None s n k h = contains-none i h
  by-options p mark after item e is (Some name) None n k h = contains-none i h

  at-front : (rest : List Rec) → past_threads m ≡ before ++ r ∷ rest → (c : Contents) → r.contents ≡ c → Contains (marked_at m own r.kind c rest) i → IsInstance m i
  at-front [] e (Segment item) is h = contains-none i h
  at-front (p ∷ []) e (Segment item) is h = contains-none i h
  at-front (p ∷ mark ∷ after) e (Segment item) is h = by-options p mark after item e is (name_by own p.kind p.contents) (selection_by mark.contents) refl refl h
  at-front rest e _ is h = contains-none i h

found : (m before rest : List Rec) (i : Marked) → past_threads m ≡ before ++ rest → Contains (marked_from m (length (segments before)) rest) i → IsInstance m i
found m before [] i e h = contains-none i h
found m before (r ∷ rest) i e h =
    elim (Contains-append_cases (marked_at m (length (segments before) + 1) r.kind r.contents rest) (marked_from m (count_after (length (segments before)) r.contents) rest) i h) [
      | inl q ↦ at-front m before r i rest e r.contents refl q
      | inr q ↦ found m (before ++ r ∷ []) rest i (e ∙ sym (append_assoc before (r ∷ []) rest)) (subst (λ (n : ℕ). Contains (marked_from m n rest) i) (counts before r) q)
    ]

-- ---- such records are an instance

one-is : (m : List Rec) (i : Marked) (size : ℕ) → i.size ≡ size → i.data_pieces ≡ data_of i.segment m → i ∷ [] ≡ marked_if m i.segment size (Some i.name) (Some i.selection)
one-is m i size e d =
    ap₂ (λ (n : ℕ) (ps : List (List ℕ)). (let x : Marked = record { name = i.name; segment = i.segment; selection = i.selection; size = n; data_pieces = ps } in x) ∷ []) e d

shown : (m : List Rec) (i : Marked) (w : IsInstance m i) (n : ℕ) → i.segment ≡ n → Contains (marked_at m n w.segdef.kind w.segdef.contents (w.pubdef ∷ w.mark ∷ w.after)) i
shown m i w n e =
    let size = segment_length w.segdef.kind w.item in
    let one : i ∷ [] ≡ marked_if m i.segment size (name_by i.segment w.pubdef.kind w.pubdef.contents) (selection_by w.mark.contents) =
    one-is m i size w.size_is w.pieces_are ∙ ap₂ (λ (o : Option (List ℕ)) (s : Option ℕ). marked_if m i.segment size o s) (sym w.named) (sym w.selected) in
    let held : Contains (i ∷ []) i = (0, omega arith, refl) in
    subst (λ (k : ℕ). Contains (marked_at m k w.segdef.kind w.segdef.contents (w.pubdef ∷ w.mark ∷ w.after)) i) e
    (subst (λ (c : Contents). Contains (marked_at m i.segment w.segdef.kind c (w.pubdef ∷ w.mark ∷ w.after)) i) (sym w.segment_is) (subst (λ (is : List Marked). Contains is i) one held))

listed : (m : List Rec) (i : Marked) (w : IsInstance m i) (done front : List Rec) → done ++ front ≡ w.before
    → Contains (marked_from m (length (segments done)) (front ++ w.segdef ∷ w.pubdef ∷ w.mark ∷ w.after)) i
listed m i w done [] e =
    let same : i.segment ≡ length (segments done) + 1 = w.index_is ∙ ap (λ (rs : List Rec). length (segments rs) + 1) (sym e ∙ append-nil done) in
    Contains-append_left (marked_at m (length (segments done) + 1) w.segdef.kind w.segdef.contents (w.pubdef ∷ w.mark ∷ w.after))
    (marked_from m (count_after (length (segments done)) w.segdef.contents) (w.pubdef ∷ w.mark ∷ w.after)) i (shown m i w (length (segments done) + 1) same)
listed m i w done (r ∷ front) e =
    let rest = front ++ w.segdef ∷ w.pubdef ∷ w.mark ∷ w.after in
    Contains-append_right (marked_at m (length (segments done) + 1) r.kind r.contents rest) (marked_from m (count_after (length (segments done)) r.contents) rest) i
    (subst (λ (n : ℕ). Contains (marked_from m n rest) i) (sym (counts done r)) (listed m i w (done ++ r ∷ []) front (append_assoc done (r ∷ []) front ∙ e)))

pub instances-are-triples : InstancesAreTriples
instances-are-triples m i = (
  found m [] (past_threads m) i refl,
  λ w. subst (λ (rs : List Rec). Contains (marked_from m 0 rs) i) (sym w.split) (listed m i w [] w.before refl),
)
