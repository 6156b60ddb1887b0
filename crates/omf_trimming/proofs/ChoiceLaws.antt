-- The choice among the COMDATs of one name.
use Rattle.std.proofs.Common.{◌≡◌, ℕ, suc, ◌+◌, ◌≤◌, ◌<◌, List, [], ◌∷◌, ◌++◌, length, drop, get_or, refl, sym, ap, ◌∙◌, subst, arith, append_assoc, append-nil, true, false, inl, inr, Bor}
use Rattle.std.specs.Prelude.{flat_map, bytes_eq, is_some, Option, Some, None, if◌then◌else◌}
use Rattle.std.specs.BTreeMap.{BTreeMap}
use Rattle.std.proofs.lemmas.Bool.{cases_Bool, cond-true, cond-false}
use Rattle.std.proofs.lemmas.Slice.Eq.{bytes_eq-Decides}
use Rattle.std.proofs.Math.Seq.{drop-cons}
use Rattle.omf_names.proofs.NameTables.{IsUpdated, at_name}
use Rattle.omf_frame.specs.Framing.{Raw, raw_bytes}
use Rattle.omf_frame.specs.declared.fault.Place.{Place}
use Rattle.omf_records.specs.Inner.Reading.{typed}
use Rattle.omf_records.specs.Shortest.{subrecord_bytes}
use Rattle.omf_records.specs.Values.{At, Contents, Rec, SegmentItem, Segment as SegmentContents, Subrecord}
use Rattle.omf_check.specs.Inner.Known.{holds_segment}
use Rattle.omf_check.specs.Listed.{placed_from}
use Rattle.omf_check.specs.Tables.{segment_length}
use Rattle.omf_check.specs.WellFormed.{recs}
use Rattle.omf_lowering.specs.Marks.{selection_by}
use Rattle.omf_trimming.specs.Choice.{Marked, first_named, fixes_nothing, instances, marked_at, marked_from, past_threads}
use Rattle.omf_trimming.specs.Without.{count_after, is_thread, threads_alone}
use Rattle.omf_trimming.specs.Inner.Choosing.{AreFirsts, begun_rest, ended, to_come}
use Rattle.omf_trimming.specs.Inner.Rest.{thread_bytes}
use Rattle.omf_trimming.proofs.PastLaws.{past-false, past-true}
use Rattle.omf_trimming.specs.declared.choice.marked.Begun.{Begun}
use Rattle.omf_trimming.specs.declared.choice.marked.Begun.TheVariants.{Nothing, Segment, Named}

-- What the records of a module have, read one after another.
pub listed-all : {A : Type 0} (names : Rec → List A) (number start : ℕ) (rs : List Raw) → flat_map (λ x. names x.1) (placed_from number start rs) ≡ flat_map names (recs rs)
listed-all names number start [] = refl
listed-all names number start (r ∷ rs) = ap (λ xs. names (typed r) ++ xs) (listed-all names (number + 1) (start + length (raw_bytes r)) rs)

-- The instances so far and those to come are all of a module; there were no more SEGDEFs than records.
pub record IsWalked (m : List Rec) (found : List Marked) (count : ℕ) (b : Begun) (left : List (Place × Rec)) : Type 0 where
  pub number : ℕ
  pub start : ℕ
  pub rest : List Raw
  pub listed : left ≡ placed_from number start rest
  pub low : count ≤ number
  pub held : found ++ to_come m count b (recs rest) ≡ instances m

-- The record at the front of those that are left.
pub record HasNext (number start : ℕ) (rest : List Raw) (x : Place × Rec) (left : List (Place × Rec)) : Type 0 where
  pub first : Raw
  pub more : List Raw
  pub rest_is : rest ≡ first ∷ more
  pub number_is : x.0.number ≡ number
  pub rec_is : x.1 ≡ typed first
  pub left_is : left ≡ placed_from (number + 1) (start + length (raw_bytes first)) more

same-front : (x y : Place × Rec) (xs ys : List (Place × Rec)) → x ∷ xs ≡ y ∷ ys → (x ≡ y) × (xs ≡ ys)
same-front x y xs ys e = (cc, cc)

pub next-listed : (number start : ℕ) (rest : List Raw) (x : Place × Rec) (left : List (Place × Rec)) → x ∷ left ≡ placed_from number start rest → HasNext number start rest x left
next-listed number start [] x left e = absurd (no x left e)
  where
    no : (x : Place × Rec) (left : List (Place × Rec)) → x ∷ left ≡ [] → ⊥
    no x left e = cc
next-listed number start (r ∷ rs) x left e =
    let s = same-front x _ left _ e in
    record { first = r; more = rs; rest_is = refl; number_is = ap (λ y. y.0.number) s.0; rec_is = ap (λ y. y.1) s.0; left_is = s.1 }

pub none-listed : (number start : ℕ) (rest : List Raw) → [] ≡ placed_from number start rest → rest ≡ []
none-listed number start [] e = refl
none-listed number start (r ∷ rs) e = absurd cc

pub walk-starts : (m : List Rec) (rs : List Raw) (left : List (Place × Rec)) → m ≡ recs rs → left ≡ placed_from 0 0 rs → IsWalked m [] 0 Nothing left
walk-starts m rs left e f = record { number = 0; start = 0; rest = rs; listed = f; low = omega arith; held = ap (λ (xs : List Rec). marked_from m 0 (past_threads xs)) (sym e) }

-- A SEGDEF begins an instance, and ends none.
begun-none : (m : List Rec) (count : ℕ) (b : Begun) (kind : ℕ) (s : SegmentItem) (rest : List Rec) → begun_rest m count b (record { kind = kind; contents = SegmentContents s } ∷ rest) ≡ []
begun-none m count Nothing kind s rest = refl
begun-none m count (Segment size) kind s [] = refl
begun-none m count (Segment size) kind s (x ∷ rest) = refl
begun-none m count (Named segment size name) kind s rest = refl

segment-begins : (m : List Rec) (count : ℕ) (b : Begun) (r : Rec) (s : SegmentItem) (rest : List Rec) → r.contents ≡ SegmentContents s
    → to_come m count b (r ∷ rest) ≡ to_come m (count + 1) (Segment (segment_length r.kind s)) rest
segment-begins m count b r s rest e =
    let after = to_come m (count + 1) (Segment (segment_length r.kind s)) rest in
    subst (λ (c : Contents). to_come m count b (record { kind = r.kind; contents = c } ∷ rest) ≡ after) (sym e) (ap (λ (xs : List Marked). xs ++ after) (begun-none m count b r.kind s (past_threads rest)))

-- Another record goes on.
marked-none : (m : List Rec) (n kind : ℕ) (c : Contents) (rest : List Rec) → holds_segment c ≡ false → marked_at m n kind c rest ≡ []
marked-none m n kind (SegmentContents s) rest e = absurd cc
marked-none m n kind _ rest e = refl

count-same : (count : ℕ) (c : Contents) → holds_segment c ≡ false → count_after count c ≡ count
count-same count (SegmentContents s) e = absurd cc
count-same count _ e = refl

from-past : (m : List Rec) (count : ℕ) (r : Rec) (rest : List Rec) → holds_segment r.contents ≡ false → marked_from m count (past_threads (r ∷ rest)) ≡ marked_from m count (past_threads rest)
from-past m count r rest e = elim (cases_Bool (fixes_nothing r.contents)) [
  | inl t ↦ ap (marked_from m count) (past-true r rest t)
  | inr t ↦
      ap (marked_from m count) (past-false r rest t)
      ∙ ap (λ (xs : List Marked). xs ++ marked_from m (count_after count r.contents) (past_threads rest)) (marked-none m (count + 1) r.kind r.contents (past_threads rest) e)
      ∙ ap (λ (n : ℕ). marked_from m n (past_threads rest)) (count-same count r.contents e)
]

other-goes-on : (m : List Rec) (count : ℕ) (b c : Begun) (r : Rec) (rest : List Rec) → holds_segment r.contents ≡ false
    → begun_rest m count b (past_threads (r ∷ rest)) ≡ ended m b (selection_by r.contents) ++ begun_rest m count c (past_threads rest)
    → to_come m count b (r ∷ rest) ≡ ended m b (selection_by r.contents) ++ to_come m count c rest
other-goes-on m count b c r rest e f =
    ap (λ (xs : List Marked). begun_rest m count b (past_threads (r ∷ rest)) ++ xs) (from-past m count r rest e)
    ∙ ap (λ (xs : List Marked). xs ++ marked_from m count (past_threads rest)) f
    ∙ append_assoc (ended m b (selection_by r.contents)) (begun_rest m count c (past_threads rest)) (marked_from m count (past_threads rest))

pub segment-walks : (m : List Rec) (found : List Marked) (count : ℕ) (b : Begun) (all left : List (Place × Rec)) (x : Place × Rec) (s : SegmentItem) → IsWalked m found count b all → all ≡ x ∷ left
    → SegmentContents s ≡ x.1.contents → IsWalked m found (count + 1) (Segment (segment_length x.1.kind s)) left
segment-walks m found count b all left x s w e f =
    let n = next-listed w.number w.start w.rest x left (sym e ∙ w.listed) in
    record {
      number = w.number + 1;
      start = w.start + length (raw_bytes n.first);
      rest = n.more;
      listed = n.left_is;
      low = omega (arith, w.low);
      held =
          ap (λ (ys : List Marked). found ++ ys) (sym (segment-begins m count b x.1 s (recs n.more) (sym f)))
          ∙ ap (λ (r : Rec). found ++ to_come m count b (r ∷ recs n.more)) n.rec_is
          ∙ ap (λ (rs : List Raw). found ++ to_come m count b (recs rs)) (sym n.rest_is)
          ∙ w.held;
    }

pub other-walks : (m : List Rec) (found new : List Marked) (count : ℕ) (b c : Begun) (all left : List (Place × Rec)) (x : Place × Rec) → IsWalked m found count b all → all ≡ x ∷ left
    → holds_segment x.1.contents ≡ false → new ≡ found ++ ended m b (selection_by x.1.contents)
    → ((k rest : List Rec) → begun_rest k count b (past_threads (x.1 ∷ rest)) ≡ ended k b (selection_by x.1.contents) ++ begun_rest k count c (past_threads rest)) → IsWalked m new count c left
other-walks m found new count b c all left x w e f g h =
    let n = next-listed w.number w.start w.rest x left (sym e ∙ w.listed) in
    let own = ended m b (selection_by x.1.contents) in
    record {
      number = w.number + 1;
      start = w.start + length (raw_bytes n.first);
      rest = n.more;
      listed = n.left_is;
      low = omega (arith, w.low);
      held =
          ap (λ (ys : List Marked). ys ++ to_come m count c (recs n.more)) g
          ∙ append_assoc found own (to_come m count c (recs n.more))
          ∙ ap (λ (ys : List Marked). found ++ ys) (sym (other-goes-on m count b c x.1 (recs n.more) f (h m (recs n.more))))
          ∙ ap (λ (r : Rec). found ++ to_come m count b (r ∷ recs n.more)) n.rec_is
          ∙ ap (λ (rs : List Raw). found ++ to_come m count b (recs rs)) (sym n.rest_is)
          ∙ w.held;
    }

none-to-come : (m : List Rec) (count : ℕ) (b : Begun) → to_come m count b [] ≡ []
none-to-come m count Nothing = refl
none-to-come m count (Segment size) = refl
none-to-come m count (Named segment size name) = refl

pub walk-ends : (m : List Rec) (found : List Marked) (count : ℕ) (b : Begun) (left : List (Place × Rec)) → IsWalked m found count b left → left ≡ [] → found ≡ instances m
walk-ends m found count b left w e =
    let none = none-listed w.number w.start w.rest (sym e ∙ w.listed) in
    sym (append-nil found) ∙ ap (λ (ys : List Marked). found ++ ys) (sym (none-to-come m count b))
    ∙ ap (λ (rs : List Raw). found ++ to_come m count b (recs rs)) (sym none) ∙ w.held

-- One item more of a list.
pub flat-more : {A B : Type 0} (f : A → List B) (xs : List A) (i : ℕ) (x : A) (old new all : List B) → x ≡ get_or xs i x → i < length xs → new ≡ old ++ f x → old ++ flat_map f (drop i xs) ≡ all
    → new ++ flat_map f (drop (i + 1) xs) ≡ all
flat-more f xs i x old new all e low g h =
    let next : i + 1 ≡ suc i = omega arith in
    ap (λ ys. ys ++ flat_map f (drop (i + 1) xs)) g ∙ append_assoc old (f x) (flat_map f (drop (i + 1) xs))
    ∙ ap (λ n. old ++ (f x ++ flat_map f (drop n xs))) next
    ∙ ap (λ y. old ++ (f y ++ flat_map f (drop (suc i) xs))) e
    ∙ ap (λ ys. old ++ flat_map f ys) (sym (drop-cons xs i x low)) ∙ h

-- The first of a name, where an instance is added.
abbrev named-if : Marked → List ℕ → Option Marked
named-if i name = if bytes_eq i.name name then Some i else None

abbrev first-or : Option Marked → Option Marked → Option Marked
first-or (Some i) other = Some i
first-or None other = other

named-more : (is : List Marked) (i : Marked) (name : List ℕ) → first_named (is ++ i ∷ []) name ≡ first-or (first_named is name) (named-if i name)
named-more [] i name = refl
named-more (x ∷ is) i name = elim (cases_Bool (bytes_eq x.name name)) [
  | inl b ↦ cond-true (bytes_eq x.name name) (Some x) (first_named (is ++ i ∷ []) name) b ∙ sym (ap (λ o. first-or o (named-if i name)) (cond-true (bytes_eq x.name name) (Some x) (first_named is name) b))
  | inr b ↦ cond-false (bytes_eq x.name name) (Some x) (first_named (is ++ i ∷ []) name) b ∙ named-more is i name
      ∙ sym (ap (λ o. first-or o (named-if i name)) (cond-false (bytes_eq x.name name) (Some x) (first_named is name) b))
]

first-none : (o : Option Marked) → first-or o None ≡ o
first-none (Some i) = refl
first-none None = refl

is-there : (o : Option Marked) → is_some o ≡ true → (e : Marked) × (o ≡ Some e)
is-there (Some e) h = (e, refl)
is-there None h = absurd cc

is-absent : (o : Option Marked) → is_some o ≡ false → o ≡ None
is-absent (Some e) h = absurd cc
is-absent None h = refl

firsts-with : (t : BTreeMap (Bor (List ℕ)) Marked) (before : List Marked) (i e : Marked) → AreFirsts t before → at_name t i.name ≡ Some e → AreFirsts t (before ++ i ∷ [])
firsts-with t before i e h known name = elim (cases_Bool (bytes_eq i.name name)) [
  | inl b ↦
      let there : first_named before name ≡ Some e = sym (h name) ∙ subst (λ n. at_name t n ≡ Some e) ((bytes_eq-Decides i.name name).0 b) known in
      h name ∙ there ∙ sym (ap (λ o. first-or o (named-if i name)) there) ∙ sym (named-more before i name)
  | inr b ↦ h name ∙ sym (named-more before i name ∙ ap (first-or (first_named before name)) (cond-false (bytes_eq i.name name) (Some i) None b) ∙ first-none (first_named before name))
]

pub firsts-known : (t : BTreeMap (Bor (List ℕ)) Marked) (before : List Marked) (i : Marked) → AreFirsts t before → is_some (at_name t i.name) ≡ true → AreFirsts t (before ++ i ∷ [])
firsts-known t before i h known = let e = is-there (at_name t i.name) known in firsts-with t before i e.0 h e.1

pub firsts-new : (t u : BTreeMap (Bor (List ℕ)) Marked) (before : List Marked) (i : Marked) → AreFirsts t before → is_some (at_name t i.name) ≡ false → IsUpdated i.name t u (Some i) → AreFirsts u (before ++ i ∷ [])
firsts-new t u before i h absent up name = elim (cases_Bool (bytes_eq i.name name)) [
  | inl b ↦
      let there : first_named before name ≡ None = sym (h name) ∙ subst (λ n. at_name t n ≡ None) ((bytes_eq-Decides i.name name).0 b) (is-absent (at_name t i.name) absent) in
      up name ∙ cond-true (bytes_eq i.name name) (Some i) (at_name t name) b
      ∙ sym (named-more before i name ∙ ap (λ o. first-or o (named-if i name)) there ∙ cond-true (bytes_eq i.name name) (Some i) None b)
  | inr b ↦
      up name ∙ cond-false (bytes_eq i.name name) (Some i) (at_name t name) b ∙ h name
      ∙ sym (named-more before i name ∙ ap (first-or (first_named before name)) (cond-false (bytes_eq i.name name) (Some i) None b) ∙ first-none (first_named before name))
]

-- These instances are added up to those that are left.
pub record AreAdded (t : BTreeMap (Bor (List ℕ)) Marked) (before found left : List Marked) : Type 0 where
  pub so_far : List Marked
  pub are_first : AreFirsts t so_far
  pub all : so_far ++ left ≡ before ++ found

pub added-more : (t u : BTreeMap (Bor (List ℕ)) Marked) (before found all left : List Marked) (i : Marked) → AreAdded t before found all → all ≡ i ∷ left
    → ((is : List Marked) → AreFirsts t is → AreFirsts u (is ++ i ∷ [])) → AreAdded u before found left
added-more t u before found all left i a e f = record {
  so_far = a.so_far ++ i ∷ [];
  are_first = f a.so_far a.are_first;
  all = append_assoc a.so_far (i ∷ []) left ∙ ap (λ is. a.so_far ++ is) (sym e) ∙ a.all;
}

pub added-all : (t : BTreeMap (Bor (List ℕ)) Marked) (before found left : List Marked) → AreAdded t before found left → left ≡ [] → AreFirsts t (before ++ found)
added-all t before found left a e = subst (AreFirsts t) (sym (append-nil a.so_far) ∙ ap (λ is. a.so_far ++ is) (sym e) ∙ a.all) a.are_first

-- The THREADs of a FIXUPP.
pub threads-flat : (kind : ℕ) (subs : List (At Subrecord)) → flat_map (λ s. thread_bytes kind s.item) subs ≡ flat_map (λ s. subrecord_bytes kind s.item) (threads_alone subs)
threads-flat kind [] = refl
threads-flat kind (s ∷ subs) = elim (cases_Bool (is_thread s.item)) [
  | inl b ↦ ap (λ xs. thread_bytes kind s.item ++ xs) (threads-flat kind subs)
      ∙ ap (λ xs. xs ++ flat_map (λ s. subrecord_bytes kind s.item) (threads_alone subs)) (cond-true (is_thread s.item) (subrecord_bytes kind s.item) [] b)
      ∙ sym (ap (flat_map (λ s. subrecord_bytes kind s.item)) (cond-true (is_thread s.item) (s ∷ threads_alone subs) (threads_alone subs) b))
  | inr b ↦ ap (λ xs. thread_bytes kind s.item ++ xs) (threads-flat kind subs)
      ∙ ap (λ xs. xs ++ flat_map (λ s. subrecord_bytes kind s.item) (threads_alone subs)) (cond-false (is_thread s.item) (subrecord_bytes kind s.item) [] b)
      ∙ sym (ap (flat_map (λ s. subrecord_bytes kind s.item)) (cond-false (is_thread s.item) (s ∷ threads_alone subs) (threads_alone subs) b))
]
