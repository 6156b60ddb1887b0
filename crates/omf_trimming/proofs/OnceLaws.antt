-- The instances of one name in what is left of a module.
use Rattle.std.proofs.Common.{◌≡◌, ℕ, zero, suc, ◌+◌, ◌<◌, ◌≤◌, ◌⊎◌, inl, inr, List, [], ◌∷◌, ◌++◌, length, length-append, refl, sym, ap, ap₂, ◌∙◌, subst, Bool, true, false, cond, arith, append_assoc, append-nil}
use Rattle.std.specs.Prelude.{⊤, All, Contains, bytes_eq, filter, flat_map, map, not, ◌==◌, ◌&&◌, ◌||◌, Option, Some, None}
use Rattle.std.specs.List.{enumerate_from}
use Rattle.std.proofs.lemmas.Bool.{and_parts, cases_Bool, cond-true, cond-false, eq-eqb, eqb-true, ne_eqb, not-true}
use Rattle.std.proofs.lemmas.List.{length-map, nil_from_length}
use Rattle.std.proofs.lemmas.List.Elements.{All-nil, All-cons, All-head, All-tail, All-contains_itself, All-filter, All-weaker, filter-append, filter_passes}
use Rattle.std.proofs.lemmas.List.FromFn.{length-enumerate_from}
use Rattle.omf_frame.specs.Bytes.{is_one_of, with_before}
use Rattle.omf_frame.specs.Types.{is_local}
use Rattle.omf_records.specs.Values.{At, Carried, Comment, Communals, Contents, Externs, Fixups, Group, Header, Iterated, ModEnd, Names, Plain, PublicItem, PublicItems, Publics, Rec, Segment, SegmentItem, alone, contents_alone, unplaced}
use Rattle.omf_check.specs.Tables.{last_data, segment_length, segments}
use Rattle.omf_check.specs.declared.segment.SegInfo.{SegInfo}
use Rattle.omf_lowering.specs.Marks.{selection_by}
use Rattle.omf_trimming.specs.Choice.{Marked, data_by, data_of, fixes_nothing, instances, marked_at, marked_from, marked_if, name_by, only_name, past_threads}
use Rattle.omf_trimming.specs.ChoiceLaws.{IsByInstance, IsInstance, definitions, definitions_by, of_name}
use Rattle.omf_trimming.specs.Without.{Left, Whole, Nothing, Anew, are_of, count_after, emptied, left_after, recs_left, recs_without, threads_alone}
use Rattle.omf_trimming.specs.WithoutLaws.{left_segment}
use Rattle.omf_trimming.specs.declared.without.LeftPublics.TheVariants.{Nameless}
use Rattle.omf_trimming.proofs.PastLaws.{fixing-selected, flat-past, past-alone, past-append, past-false, past-split, past-true, segments-past, threads-are}
use Rattle.omf_trimming.proofs.RecLaws.{all-left, has-the-rest}
use Rattle.omf_trimming.proofs.TripleLaws.{instances-are-triples}

-- ---- the instances of a module have ascending indices

abbrev Above : ℕ → List Marked → Type 0
Above n is = All (λ i. n < i.segment) is

abbrev AreApart : List Marked → Type 0
AreApart [] = ⊤
AreApart (i ∷ is) = Above i.segment is × AreApart is

abbrev AreFrom : ℕ → List Marked → Type 0
AreFrom n is = Above n is × AreApart is

lower : (n k : ℕ) (is : List Marked) → n ≤ k → Above k is → Above n is
lower n k is h a = All-weaker (λ (i : Marked). k < i.segment) (λ (i : Marked). n < i.segment) (λ i low. omega (arith, h, low)) is a

apart-if : (m : List Rec) (count size : ℕ) (o : Option (List ℕ)) (s : Option ℕ) (later : List Marked) → AreFrom (count + 1) later → AreFrom count (marked_if m (count + 1) size o s ++ later)
apart-if m count size (Some name) (Some k) later h =
    let x : Marked = record { name = name; segment = count + 1; selection = k; size = size; data_pieces = data_of (count + 1) m } in
    (All-cons (λ (i : Marked). count < i.segment) x later (omega arith) (lower count (count + 1) later (omega arith) h.0), h)
apart-if m count size None s later h = (lower count (count + 1) later (omega arith) h.0, h.1)
apart-if m count size (Some name) None later h = (lower count (count + 1) later (omega arith) h.0, h.1)

apart-at : (m : List Rec) (count kind : ℕ) (c : Contents) (rest : List Rec) (later : List Marked) → AreFrom (count_after count c) later → AreFrom count (marked_at m (count + 1) kind c rest ++ later)
apart-at m count kind (Segment s) [] later h = (lower count (count + 1) later (omega arith) h.0, h.1)
apart-at m count kind (Segment s) (p ∷ []) later h = (lower count (count + 1) later (omega arith) h.0, h.1)
apart-at m count kind (Segment s) (p ∷ mark ∷ more) later h = apart-if m count (segment_length kind s) (name_by (count + 1) p.kind p.contents) (selection_by mark.contents) later h
apart-at m count kind _ rest later h = h

apart : (m : List Rec) (count : ℕ) (rs : List Rec) → AreFrom count (marked_from m count rs)
apart m count [] = (All-nil (λ (i : Marked). count < i.segment), tt)
apart m count (r ∷ rs) = apart-at m count r.kind r.contents rs (marked_from m (count_after count r.contents) rs) (apart m (count_after count r.contents) rs)

-- ---- so the segment of an instance is among those that pass a test exactly if the instance passes

abbrev passing : (Marked → Bool) → List Marked → List ℕ
passing f is = map (λ i. i.segment) (filter f is)

abbrev is_passing : (Marked → Bool) → List Marked → ℕ → Bool
is_passing f is n = is_one_of (passing f is) n

skips : (f : Marked → Bool) (x : Marked) (is : List Marked) (n : ℕ) → (x.segment == n) ≡ false → is_passing f (x ∷ is) n ≡ is_passing f is n
skips f x is n e = elim (cases_Bool (f x)) [
  | inl b ↦ ap (λ (js : List Marked). is_one_of (map (λ i. i.segment) js) n) (cond-true (f x) (x ∷ filter f is) (filter f is) b) ∙ ap (λ t. t || is_passing f is n) e
  | inr b ↦ ap (λ (js : List Marked). is_one_of (map (λ i. i.segment) js) n) (cond-false (f x) (x ∷ filter f is) (filter f is) b)
]

none-above : (f : Marked → Bool) (n : ℕ) (is : List Marked) → Above n is → is_passing f is n ≡ false
none-above f n [] a = refl
none-above f n (x ∷ is) a =
    let low = All-head (λ (i : Marked). n < i.segment) x is a in
    skips f x is n (ne_eqb x.segment n (λ e. omega (arith, e, low))) ∙ none-above f n is (All-tail (λ (i : Marked). n < i.segment) x is a)

first-passes : (f : Marked → Bool) (x : Marked) (is : List Marked) → Above x.segment is → is_passing f (x ∷ is) x.segment ≡ f x
first-passes f x is a = elim (cases_Bool (f x)) [
  | inl b ↦ ap (λ (js : List Marked). is_one_of (map (λ i. i.segment) js) x.segment) (cond-true (f x) (x ∷ filter f is) (filter f is) b)
      ∙ ap (λ t. t || is_passing f is x.segment) (eq-eqb x.segment x.segment refl) ∙ sym b
  | inr b ↦ ap (λ (js : List Marked). is_one_of (map (λ i. i.segment) js) x.segment) (cond-false (f x) (x ∷ filter f is) (filter f is) b) ∙ none-above f x.segment is a ∙ sym b
]

same-front : (x i : Marked) (xs is : List Marked) → x ∷ xs ≡ i ∷ is → (x ≡ i) × (xs ≡ is)
same-front x i xs is e = (cc, cc)

only-passes : (f g : Marked → Bool) (is : List Marked) (i : Marked) → AreApart is → filter g is ≡ i ∷ [] → is_passing f is i.segment ≡ f i
only-passes f g [] i a e = absurd cc
only-passes f g (x ∷ is) i a e = elim (cases_Bool (g x)) [
  | inl b ↦
      let same = same-front x i (filter g is) [] (sym (cond-true (g x) (x ∷ filter g is) (filter g is) b) ∙ e) in
      subst (λ (y : Marked). is_passing f (x ∷ is) y.segment ≡ f y) same.0 (first-passes f x is a.0)
  | inr b ↦
      let later : filter g is ≡ i ∷ [] = sym (cond-false (g x) (x ∷ filter g is) (filter g is) b) ∙ e in
      let low = All-head (λ (y : Marked). x.segment < y.segment) i [] (subst (Above x.segment) later (All-filter g (λ (y : Marked). x.segment < y.segment) is a.0)) in
      skips f x is i.segment (ne_eqb x.segment i.segment (λ h. omega (arith, h, low))) ∙ only-passes f g is i a.1 later
]

-- ---- an instance has a PUBDEF of its own

record IsOnePublic (own kind : ℕ) (c : Contents) (name : List ℕ) : Type 0 where
  q : PublicItems
  one : At PublicItem
  is : c ≡ Publics q
  items_are : q.items ≡ one ∷ []
  segment_is : q.segment.item ≡ own
  shared : is_local kind ≡ false
  name_is : one.item.name ≡ name

same-some : (a b : List ℕ) → Some a ≡ Some b → a ≡ b
same-some a b e = cc

none-some : {A : Type 0} (a : List ℕ) → None ≡ Some a → A
none-some a e = absurd cc

public-by : (own kind : ℕ) (q : PublicItems) (items : List (At PublicItem)) (name : List ℕ) → q.items ≡ items → only_name (not (is_local kind) && (q.segment.item == own)) items ≡ Some name → IsOnePublic own kind (Publics q) name
public-by own kind q [] name e h = none-some name h
public-by own kind q (x ∷ []) name e h =
    let b = not (is_local kind) && (q.segment.item == own) in
    elim (cases_Bool b) [
      | inl t ↦
          let parts = and_parts (not (is_local kind)) (q.segment.item == own) t in
          record {
            q = q;
            one = x;
            is = refl;
            items_are = e;
            segment_is = eqb-true q.segment.item own parts.1;
            shared = not-true (is_local kind) parts.0;
            name_is = same-some x.item.name name (sym (cond-true b (Some x.item.name) None t) ∙ h);
          }
      | inr t ↦ none-some name (sym (cond-false b (Some x.item.name) None t) ∙ h)
    ]
public-by own kind q (x ∷ y ∷ more) name e h = none-some name h

one-public : (own kind : ℕ) (c : Contents) (name : List ℕ) → name_by own kind c ≡ Some name → IsOnePublic own kind c name
one-public own kind (Publics q) name h = public-by own kind q q.items name refl h
one-public own kind _ name h = none-some name h

abbrev items_in : List ℕ → PublicItems → List ℕ
items_in name q = map (λ x. q.segment.item) (filter (λ x. bytes_eq x.item.name name) q.items)

-- It defines the name as often as the instance has it.
public-counts : (name : List ℕ) (own kind : ℕ) (c : Contents) (x : Marked) → IsOnePublic own kind c x.name → length (of_name name (x ∷ [])) ≡ length (definitions_by name kind c)
public-counts name own kind c x p =
    let known : definitions_by name kind c ≡ items_in name p.q = ap (definitions_by name kind) p.is ∙ cond-false (is_local kind) [] (items_in name p.q) p.shared in
    let found : filter (λ y. bytes_eq y.item.name name) p.q.items ≡ cond (bytes_eq x.name name) (p.one ∷ []) [] =
    ap (filter (λ y. bytes_eq y.item.name name)) p.items_are ∙ ap (λ n. cond (bytes_eq n name) (p.one ∷ []) []) p.name_is in
    by-case (bytes_eq x.name name) ∙ ap (λ (ys : List (At PublicItem)). length (map (λ y. p.q.segment.item) ys)) (sym found) ∙ ap (λ (ns : List ℕ). length ns) (sym known)
  where
    by-case : (b : Bool) → length (cond b (x ∷ []) []) ≡ length (map (λ y. p.q.segment.item) (cond b (p.one ∷ []) []))
    by-case true = refl
    by-case false = refl

public-none : (m : List Rec) (own kind n k : ℕ) (c : Contents) (name : List ℕ) (rest : List Rec) → IsOnePublic own kind c name → marked_at m n k c rest ≡ []
public-none m own kind n k c name rest p = ap (λ (d : Contents). marked_at m n k d rest) p.is

-- ---- so a module has no more instances of a name than definitions of it

abbrev BeginsAt : ℕ → Rec → List Marked → Type 0
BeginsAt n p is = (is ≡ []) ⊎ ((x : Marked) × (is ≡ x ∷ []) × IsOnePublic n p.kind p.contents x.name)

begins-if : (m : List Rec) (n size : ℕ) (o : Option (List ℕ)) (s : Option ℕ) (p : Rec) → name_by n p.kind p.contents ≡ o → BeginsAt n p (marked_if m n size o s)
begins-if m n size (Some name) (Some k) p e =
    let x : Marked = record { name = name; segment = n; selection = k; size = size; data_pieces = data_of n m } in
    inr (x, refl, one-public n p.kind p.contents name e)
begins-if m n size None s p e = inl refl
begins-if m n size (Some name) None p e = inl refl

begins : (m : List Rec) (n kind : ℕ) (c : Contents) (p mark : Rec) (more : List Rec) → BeginsAt n p (marked_at m n kind c (p ∷ mark ∷ more))
begins m n kind (Segment s) p mark more = begins-if m n (segment_length kind s) (name_by n p.kind p.contents) (selection_by mark.contents) p refl
begins m n kind _ p mark more = inl refl

begins-late : (m : List Rec) (n kind : ℕ) (c : Contents) (p : Rec) → (marked_at m n kind c [] ≡ []) × (marked_at m n kind c (p ∷ []) ≡ [])
begins-late m n kind (Segment s) p = (refl, refl)
begins-late m n kind _ p = (refl, refl)

none-defined : (name : List ℕ) (kind : ℕ) (c : Contents) → fixes_nothing c ≡ true → definitions_by name kind c ≡ []
none-defined name kind (Fixups subs) e = refl
none-defined name kind _ e = absurd cc

module _ (name : List ℕ) where
  abbrev size_of : List Marked → ℕ
  size_of is = length (of_name name is)

  abbrev defined : List Rec → ℕ
  defined rs = length (definitions name rs)

  sizes : (xs ys : List Marked) → size_of (xs ++ ys) ≡ size_of xs + size_of ys
  sizes xs ys = ap (λ (is : List Marked). length is) (filter-append (λ (i : Marked). bytes_eq i.name name) xs ys) ∙ length-append (of_name name xs) (of_name name ys)

  defined-more : (r : Rec) (rs : List Rec) → defined (r ∷ rs) ≡ length (definitions_by name r.kind r.contents) + defined rs
  defined-more r rs = length-append (definitions_by name r.kind r.contents) (definitions name rs)

  none-begins : (xs ys : List Marked) (r : Rec) (rs : List Rec) → xs ≡ [] → size_of ys ≤ defined rs → size_of (xs ++ ys) ≤ defined (r ∷ rs)
  none-begins xs ys r rs e h =
      let d = defined-more r rs in
      subst (λ (zs : List Marked). size_of (zs ++ ys) ≤ defined (r ∷ rs)) (sym e) (omega (arith, h, d))

  abbrev IsFewer : List Rec → Type 0
  IsFewer rs = (m : List Rec) (count : ℕ) → size_of (marked_from m count rs) ≤ defined rs

  abbrev after_first : List Rec → List Rec
  after_first [] = []
  after_first (r ∷ rs) = rs

  fewer-next : (r : Rec) (rs : List Rec) → IsFewer rs → IsFewer (after_first rs) → IsFewer (r ∷ rs)
  fewer-next r [] h k m count = none-begins (marked_at m (count + 1) r.kind r.contents []) [] r [] (begins-late m (count + 1) r.kind r.contents r).0 (omega arith)
  fewer-next r (p ∷ []) h k m count =
      none-begins (marked_at m (count + 1) r.kind r.contents (p ∷ [])) (marked_from m (count_after count r.contents) (p ∷ [])) r (p ∷ []) (begins-late m (count + 1) r.kind r.contents p).1
      (h m (count_after count r.contents))
  fewer-next r (p ∷ mark ∷ more) h k m count =
      let next = count_after count r.contents in
      let here = marked_at m (count + 1) r.kind r.contents (p ∷ mark ∷ more) in
      let second = marked_at m (next + 1) p.kind p.contents (mark ∷ more) in
      let later = marked_from m (count_after next p.contents) (mark ∷ more) in
      elim (begins m (count + 1) r.kind r.contents p mark more) [
        | inl e ↦ none-begins here (second ++ later) r (p ∷ mark ∷ more) e (h m next)
        | inr b ↦
            let none = public-none m (count + 1) p.kind (next + 1) p.kind p.contents b.0.name (mark ∷ more) b.2 in
            let all : size_of (here ++ (second ++ later)) ≡ size_of (b.0 ∷ []) + size_of later =
            ap₂ (λ (xs ys : List Marked). size_of (xs ++ (ys ++ later))) b.1 none ∙ sizes (b.0 ∷ []) later in
            let own = public-counts name (count + 1) p.kind p.contents b.0 b.2 in
            let low = k m (count_after next p.contents) in
            let d = defined-more r (p ∷ mark ∷ more) in
            let e = defined-more p (mark ∷ more) in
            omega (arith, all, own, low, d, e)
      ]

  fewers : (rs : List Rec) → IsFewer rs × IsFewer (after_first rs)
  fewers [] = (λ m count. omega arith, λ m count. omega arith)
  fewers (r ∷ rs) = let h = fewers rs in (fewer-next r rs h.0 h.1, h.0)

  fewer : (m : List Rec) → size_of (instances m) ≤ defined m
  fewer m =
      let l = (fewers (past_threads m)).0 m 0 in
      let same : defined (past_threads m) ≡ defined m = ap (λ (ns : List ℕ). length ns) (flat-past (λ r. definitions_by name r.kind r.contents) (λ r t. none-defined name r.kind r.contents t) m) in
      omega (arith, l, same)

-- ---- places do not matter

if-alone : (m : List Rec) (n size : ℕ) (o : Option (List ℕ)) (s : Option ℕ) → data_of n (map alone m) ≡ data_of n m → marked_if (map alone m) n size o s ≡ marked_if m n size o s
if-alone m n size (Some name) (Some k) e = ap (λ (ps : List (List ℕ)). (let x : Marked = record { name = name; segment = n; selection = k; size = size; data_pieces = ps } in x) ∷ []) e
if-alone m n size None s e = refl
if-alone m n size (Some name) None e = refl

data-by-alone : (s kind : ℕ) (c : Contents) → data_by s kind (contents_alone c) ≡ data_by s kind c
data-by-alone s kind (Plain d) = refl
data-by-alone s kind (Iterated d) = refl
data-by-alone s kind _ = refl

data-alone : (s : ℕ) (m : List Rec) → data_of s (map alone m) ≡ data_of s m
data-alone s [] = refl
data-alone s (r ∷ m) = ap₂ (λ (xs ys : List (List ℕ)). xs ++ ys) (data-by-alone s r.kind r.contents) (data-alone s m)

only-alone : (b : Bool) (items : List (At PublicItem)) → only_name b (map unplaced items) ≡ only_name b items
only-alone b [] = refl
only-alone b (x ∷ []) = refl
only-alone b (x ∷ y ∷ more) = refl

name-alone : (n kind : ℕ) (c : Contents) → name_by n kind (contents_alone c) ≡ name_by n kind c
name-alone n kind (Publics q) = only-alone (not (is_local kind) && (q.segment.item == n)) q.items
name-alone n kind _ = refl

selection-alone : (c : Contents) → selection_by (contents_alone c) ≡ selection_by c
selection-alone (Comment a b t) = refl
selection-alone _ = refl

count-alone : (n : ℕ) (c : Contents) → count_after n (contents_alone c) ≡ count_after n c
count-alone n (Segment s) = refl
count-alone n _ = refl

at-alone : (m : List Rec) (n kind : ℕ) (c : Contents) (rs : List Rec) → marked_at (map alone m) n kind (contents_alone c) (map alone rs) ≡ marked_at m n kind c rs
at-alone m n kind (Segment s) [] = refl
at-alone m n kind (Segment s) (p ∷ []) = refl
at-alone m n kind (Segment s) (p ∷ mark ∷ more) =
    ap₂ (marked_if (map alone m) n (segment_length kind s)) (name-alone n p.kind p.contents) (selection-alone mark.contents)
    ∙ if-alone m n (segment_length kind s) (name_by n p.kind p.contents) (selection_by mark.contents) (data-alone n m)
at-alone m n kind _ rs = refl

from-alone : (m : List Rec) (count : ℕ) (rs : List Rec) → marked_from (map alone m) count (map alone rs) ≡ marked_from m count rs
from-alone m count [] = refl
from-alone m count (r ∷ rs) =
    ap₂ (λ (xs ys : List Marked). xs ++ ys) (at-alone m (count + 1) r.kind r.contents rs)
    (ap (λ (n : ℕ). marked_from (map alone m) n (map alone rs)) (count-alone count r.contents) ∙ from-alone m (count_after count r.contents) rs)

instances-alone : (m : List Rec) → instances (map alone m) ≡ instances m
instances-alone m = ap (marked_from (map alone m) 0) (past-alone m) ∙ from-alone m 0 (past_threads m)

items-alone : (name : List ℕ) (n : ℕ) (items : List (At PublicItem)) → map (λ x. n) (filter (λ x. bytes_eq x.item.name name) (map unplaced items)) ≡ map (λ x. n) (filter (λ x. bytes_eq x.item.name name) items)
items-alone name n [] = refl
items-alone name n (x ∷ items) = by-case (bytes_eq x.item.name name) (filter (λ y. bytes_eq y.item.name name) (map unplaced items)) (filter (λ y. bytes_eq y.item.name name) items) (items-alone name n items)
  where
    by-case : (b : Bool) (us vs : List (At PublicItem)) → map {B = ℕ} (λ y. n) us ≡ map (λ y. n) vs → map {B = ℕ} (λ y. n) (cond b (unplaced x ∷ us) us) ≡ map (λ y. n) (cond b (x ∷ vs) vs)
    by-case true us vs e = ap (λ ns. n ∷ ns) e
    by-case false us vs e = e

definitions-by-alone : (name : List ℕ) (kind : ℕ) (c : Contents) → definitions_by name kind (contents_alone c) ≡ definitions_by name kind c
definitions-by-alone name kind (Publics q) = ap (λ (ns : List ℕ). cond (is_local kind) [] ns) (items-alone name q.segment.item q.items)
definitions-by-alone name kind _ = refl

definitions-alone : (name : List ℕ) (m : List Rec) → definitions name (map alone m) ≡ definitions name m
definitions-alone name [] = refl
definitions-alone name (r ∷ m) = ap₂ (λ (xs ys : List ℕ). xs ++ ys) (definitions-by-alone name r.kind r.contents) (definitions-alone name m)

pub by-instance-alone : (name : List ℕ) (m o : List Rec) → map alone m ≡ map alone o → IsByInstance name m → IsByInstance name o
by-instance-alone name m o e h =
    let same : definitions name o ≡ definitions name m = sym (definitions-alone name o) ∙ ap (definitions name) (sym e) ∙ definitions-alone name m in
    let alike : instances m ≡ instances o = sym (instances-alone m) ∙ ap instances e ∙ instances-alone o in
    record {
      only = same ∙ h.only ∙ ap (λ (is : List Marked). map (λ i. i.segment) (of_name name is)) alike;
      once = let l = h.once in let k = ap (λ (ns : List ℕ). length ns) same in omega (arith, l, k);
    }

pub same-instances : (m o : List Rec) → map alone m ≡ map alone o → instances m ≡ instances o
same-instances m o e = sym (instances-alone m) ∙ ap instances e ∙ instances-alone o

-- ---- the definitions that are left

abbrev T : ℕ → Contents → Rec
T kind c = record { kind = kind; contents = c }

module _ (name gone : List ℕ) where
  abbrev keeps : ℕ → Bool
  keeps n = not (is_one_of gone n)

  abbrev own : Rec → List ℕ
  own t = definitions_by name t.kind t.contents

  same-kept : (n : ℕ) (xs : List (At PublicItem)) → is_one_of gone n ≡ false → filter keeps (map (λ x. n) xs) ≡ map (λ x. n) xs
  same-kept n [] e = refl
  same-kept n (x ∷ xs) e = cond-true (keeps n) (n ∷ filter keeps (map (λ y. n) xs)) (filter keeps (map (λ y. n) xs)) (ap not e) ∙ ap (λ ns. n ∷ ns) (same-kept n xs e)

  same-gone : (n : ℕ) (xs : List (At PublicItem)) → is_one_of gone n ≡ true → filter keeps (map (λ x. n) xs) ≡ []
  same-gone n [] e = refl
  same-gone n (x ∷ xs) e = cond-false (keeps n) (n ∷ filter keeps (map (λ y. n) xs)) (filter keeps (map (λ y. n) xs)) (ap not e) ∙ same-gone n xs e

  local-kept : (l : Bool) (n : ℕ) (xs : List (At PublicItem)) → is_one_of gone n ≡ false → filter keeps (cond l [] (map (λ x. n) xs)) ≡ cond l [] (map (λ x. n) xs)
  local-kept true n xs e = refl
  local-kept false n xs e = same-kept n xs e

  local-gone : (l : Bool) (n : ℕ) (xs : List (At PublicItem)) → is_one_of gone n ≡ true → filter keeps (cond l [] (map (λ x. n) xs)) ≡ []
  local-gone true n xs e = refl
  local-gone false n xs e = same-gone n xs e

  abbrev of_name_in : PublicItems → List (At PublicItem)
  of_name_in q = filter (λ x. bytes_eq x.item.name name) q.items

  publics-kept : (kind : ℕ) (q : PublicItems) (b : Bool) → is_one_of gone q.segment.item ≡ b → flat_map own (recs_left (T kind (Publics q)) (cond b Nothing Whole)) ≡ filter keeps (own (T kind (Publics q)))
  publics-kept kind q true e = sym (local-gone (is_local kind) q.segment.item (of_name_in q) e)
  publics-kept kind q false e = append-nil (own (T kind (Publics q))) ∙ sym (local-kept (is_local kind) q.segment.item (of_name_in q) e)

  none-either : (t : Rec) (b : Bool) (l k : Left) → flat_map own (recs_left t l) ≡ [] → flat_map own (recs_left t k) ≡ [] → flat_map own (recs_left t (cond b l k)) ≡ []
  none-either t true l k e h = e
  none-either t false l k e h = h

  kept-by : (before : List Rec) (kind : ℕ) (c : Contents) → flat_map own (recs_left (T kind c) (left_after Nameless gone before c)) ≡ filter keeps (own (T kind c))
  kept-by before kind (Segment s) = none-either (T kind (Segment s)) (is_one_of gone (length (segments before) + 1)) (Anew (Segment (emptied Nameless s))) Whole refl refl
  kept-by before kind (Publics q) = publics-kept kind q (is_one_of gone q.segment.item) refl
  kept-by before kind (Plain d) = none-either (T kind (Plain d)) (is_one_of gone d.segment.item) Nothing Whole refl refl
  kept-by before kind (Iterated d) = none-either (T kind (Iterated d)) (is_one_of gone d.segment.item) Nothing Whole refl refl
  kept-by before kind (Fixups subs) = none-either (T kind (Fixups subs)) (are_of gone (last_data before)) (Anew (Fixups (threads_alone subs))) Whole refl refl
  kept-by before kind (Header x) = refl
  kept-by before kind (Comment x y z) = refl
  kept-by before kind (Names x) = refl
  kept-by before kind (Group x) = refl
  kept-by before kind (Externs x) = refl
  kept-by before kind (Communals x) = refl
  kept-by before kind (ModEnd x y) = refl
  kept-by before kind (Carried x) = refl

  all-filtered : (m : List Rec) → flat_map (λ t. filter keeps (own t)) m ≡ filter keeps (definitions name m)
  all-filtered [] = refl
  all-filtered (t ∷ m) = ap (λ xs. filter keeps (own t) ++ xs) (all-filtered m) ∙ sym (filter-append keeps (own t) (definitions name m))

  definitions-left : (m : List Rec) → definitions name (recs_without Nameless gone m) ≡ filter keeps (definitions name m)
  definitions-left m = all-left Nameless gone own (λ t. filter keeps (own t)) (λ before t. kept-by before t.kind t.contents) [] m ∙ all-filtered m

-- ---- an instance that is not left out stays

with-more : {A B : Type 0} (f : List A → A → List B) (before xs ys : List A) → with_before f before (xs ++ ys) ≡ with_before f before xs ++ with_before f (before ++ xs) ys
with-more f before [] ys = ap (λ b. with_before f b ys) (sym (append-nil before))
with-more f before (x ∷ xs) ys =
    ap (λ l. f before x ++ l) (with-more f (before ++ x ∷ []) xs ys ∙ ap (λ b. with_before f (before ++ x ∷ []) xs ++ with_before f b ys) (append_assoc before (x ∷ []) xs))
    ∙ sym (append_assoc (f before x) (with_before f (before ++ x ∷ []) xs) (with_before f (before ++ x ∷ xs) ys))

none-number : {A : Type 0} (a : ℕ) → None ≡ Some a → A
none-number a e = absurd cc

module _ (gone : List ℕ) where
  abbrev left_of : List Rec → Rec → List Rec
  left_of before t = recs_left t (left_after Nameless gone before t.contents)

  segment-stays : (before : List Rec) (r : Rec) (item : SegmentItem) → r.contents ≡ Segment item → is_one_of gone (length (segments before) + 1) ≡ false → left_of before r ≡ r ∷ []
  segment-stays before r item e h =
      ap (λ (c : Contents). recs_left r (left_after Nameless gone before c)) e ∙ ap (recs_left r) (cond-false (is_one_of gone (length (segments before) + 1)) (Anew (Segment (emptied Nameless item))) Whole h)

  public-stays : (before : List Rec) (r : Rec) (n : ℕ) (name : List ℕ) → IsOnePublic n r.kind r.contents name → is_one_of gone n ≡ false → left_of before r ≡ r ∷ []
  public-stays before r n name p h =
      ap (λ (c : Contents). recs_left r (left_after Nameless gone before c)) p.is ∙ ap (recs_left r) (cond-false (is_one_of gone p.q.segment.item) Nothing Whole (ap (is_one_of gone) p.segment_is ∙ h))

  mark-stays : (before : List Rec) (r : Rec) (c : Contents) (k : ℕ) → selection_by c ≡ Some k → recs_left r (left_after Nameless gone before c) ≡ r ∷ []
  mark-stays before r (Comment a b t) k h = refl
  mark-stays before r _ k h = none-number k h

  either-none : (t : Rec) (b : Bool) (l k : Left) → past_threads (recs_left t l) ≡ [] → past_threads (recs_left t k) ≡ [] → past_threads (recs_left t (cond b l k)) ≡ []
  either-none t true l k e h = e
  either-none t false l k e h = h

  -- A FIXUPP without a FIXUP stays one.
  none-left-of : (before : List Rec) (kind : ℕ) (c : Contents) → fixes_nothing c ≡ true → past_threads (left_of before (T kind c)) ≡ []
  none-left-of before kind (Fixups subs) e =
      either-none (T kind (Fixups subs)) (are_of gone (last_data before)) (Anew (Fixups (threads_alone subs))) Whole (past-true (T kind (Fixups (threads_alone subs))) [] (threads-are subs)) (past-true (T kind (Fixups subs)) [] e)
  none-left-of before kind _ e = absurd cc

  none-past : (before rs : List Rec) → past_threads rs ≡ [] → past_threads (with_before left_of before rs) ≡ []
  none-past before [] e = refl
  none-past before (r ∷ rs) e = elim (cases_Bool (fixes_nothing r.contents)) [
    | inl t ↦
        past-append (left_of before r) (with_before left_of (before ++ r ∷ []) rs)
        ∙ ap₂ (λ (xs ys : List Rec). xs ++ ys) (none-left-of before r.kind r.contents t) (none-past (before ++ r ∷ []) rs (sym (past-true r rs t) ∙ e))
    | inr t ↦ nothing r (past_threads rs) (sym (past-false r rs t) ∙ e)
  ]
    where
      nothing : {A : Type 0} (x : Rec) (xs : List Rec) → x ∷ xs ≡ [] → A
      nothing x xs e = absurd cc

  -- What stays of a record that fixes something, and of the FIXUPPs without a FIXUP before it.
  one-past : (before own : List Rec) (r : Rec) (rest : List Rec) → past_threads own ≡ [] → fixes_nothing r.contents ≡ false → left_of (before ++ own) r ≡ r ∷ []
      → past_threads (with_before left_of before (own ++ r ∷ rest)) ≡ r ∷ past_threads (with_before left_of ((before ++ own) ++ r ∷ []) rest)
  one-past before own r rest e f h =
      let later = with_before left_of ((before ++ own) ++ r ∷ []) rest in
      ap past_threads (with-more left_of before own (r ∷ rest))
      ∙ past-append (with_before left_of before own) (left_of (before ++ own) r ++ later)
      ∙ ap₂ (λ (xs ys : List Rec). xs ++ past_threads (ys ++ later)) (none-past before own e) h
      ∙ past-false r later f

  stays : (m : List Rec) (i : Marked) → IsInstance m i → is_one_of gone i.segment ≡ false → IsInstance (recs_without Nameless gone m) i
  stays m i w h =
      let a = past-split m w.before w.segdef (w.pubdef ∷ w.mark ∷ w.after) w.split in
      let b = past-split a.back [] w.pubdef (w.mark ∷ w.after) a.back_is in
      let d = past-split b.back [] w.mark w.after b.back_is in
      let front = recs_without Nameless gone a.front in
      let second = a.front ++ w.segdef ∷ [] in
      let third = (second ++ b.front) ++ w.pubdef ∷ [] in
      let back = with_before left_of ((third ++ d.front) ++ w.mark ∷ []) d.back in
      let rest = has-the-rest Nameless gone a.front in
      let whole = has-the-rest Nameless gone m in
      let known : length (segments a.front) ≡ length (segments w.before) = ap (λ (xs : List SegInfo). length xs) (sym (segments-past a.front)) ∙ ap (λ (xs : List Rec). length (segments xs)) a.front_is in
      let same : length (segments (past_threads front)) ≡ length (segments a.front) =
      ap (λ (xs : List SegInfo). length xs) (segments-past front ∙ rest.left_segments) ∙ length-map {B = SegInfo} (enumerate_from 1 (segments a.front)) (left_segment Nameless gone) ∙ length-enumerate_from 1 (segments a.front) in
      let index = w.index_is in
      let own : length (segments a.front) + 1 ≡ i.segment = omega (arith, known, index) in
      let p = one-public i.segment w.pubdef.kind w.pubdef.contents i.name w.named in
      let all : m ≡ a.front ++ w.segdef ∷ (b.front ++ w.pubdef ∷ (d.front ++ w.mark ∷ d.back)) =
      a.whole ∙ ap (λ (xs : List Rec). a.front ++ w.segdef ∷ xs) (b.whole ∙ ap (λ (xs : List Rec). b.front ++ w.pubdef ∷ xs) d.whole) in
      record {
        before = past_threads front;
        segdef = w.segdef;
        pubdef = w.pubdef;
        mark = w.mark;
        after = past_threads back;
        split =
            ap (λ (xs : List Rec). past_threads (recs_without Nameless gone xs)) all
            ∙ ap past_threads (with-more left_of [] a.front (w.segdef ∷ (b.front ++ w.pubdef ∷ (d.front ++ w.mark ∷ d.back))))
            ∙ past-append front (with_before left_of a.front (w.segdef ∷ (b.front ++ w.pubdef ∷ (d.front ++ w.mark ∷ d.back))))
            ∙ ap (λ (xs : List Rec). past_threads front ++ xs)
            (ap (λ (xs : List Rec). past_threads (xs ++ with_before left_of second (b.front ++ w.pubdef ∷ (d.front ++ w.mark ∷ d.back)))) (segment-stays a.front w.segdef w.item w.segment_is (ap (is_one_of gone) own ∙ h))
            ∙ past-false w.segdef (with_before left_of second (b.front ++ w.pubdef ∷ (d.front ++ w.mark ∷ d.back))) (ap fixes_nothing w.segment_is)
            ∙ ap (λ (xs : List Rec). w.segdef ∷ xs)
            (one-past second b.front w.pubdef (d.front ++ w.mark ∷ d.back) b.front_is (ap fixes_nothing p.is) (public-stays (second ++ b.front) w.pubdef i.segment i.name p h)
            ∙ ap (λ (xs : List Rec). w.pubdef ∷ xs)
            (one-past third d.front w.mark d.back d.front_is (fixing-selected w.mark.contents i.selection w.selected) (mark-stays (third ++ d.front) w.mark w.mark.contents i.selection w.selected))));
        item = w.item;
        segment_is = w.segment_is;
        index_is = omega (arith, same, known, index);
        size_is = w.size_is;
        named = w.named;
        selected = w.selected;
        pieces_are = w.pieces_are ∙ sym (whole.left_data i.segment ∙ cond-false (is_one_of gone i.segment) [] (data_of i.segment m) h);
      }

-- ---- what is left of a module of the instance of a name

holds-one : (g : Marked → Bool) (xs : List Marked) (i : Marked) → Contains xs i → g i ≡ true → length (filter g xs) ≤ 1 → filter g xs ≡ i ∷ []
holds-one g [] i (k, low, is) t h = absurd (omega (arith, low))
holds-one g (x ∷ xs) i (zero, low, is) t h =
    let all : filter g (x ∷ xs) ≡ x ∷ filter g xs = cond-true (g x) (x ∷ filter g xs) (filter g xs) (ap g is ∙ t) in
    let n : length (filter g (x ∷ xs)) ≡ length (x ∷ filter g xs) = ap (λ (ys : List Marked). length ys) all in
    let none : filter g xs ≡ [] = nil_from_length (filter g xs) (omega (arith, n, h)) in
    all ∙ ap₂ (λ (y : Marked) (ys : List Marked). y ∷ ys) is none
holds-one g (x ∷ xs) i (suc k, low, is) t h =
    let there : Contains xs i = (k, omega (arith, low), is) in
    elim (cases_Bool (g x)) [
      | inl b ↦
          let all : filter g (x ∷ xs) ≡ x ∷ filter g xs = cond-true (g x) (x ∷ filter g xs) (filter g xs) b in
          let n : length (filter g (x ∷ xs)) ≡ length (x ∷ filter g xs) = ap (λ (ys : List Marked). length ys) all in
          let rest = holds-one g xs i there t (omega (arith, h, n)) in
          let l : length (filter g xs) ≡ 1 = ap (λ (ys : List Marked). length ys) rest in
          absurd (omega (arith, h, n, l))
      | inr b ↦
          let none : filter g (x ∷ xs) ≡ filter g xs = cond-false (g x) (x ∷ filter g xs) (filter g xs) b in
          none ∙ holds-one g xs i there t (subst (λ (ys : List Marked). length ys ≤ 1) none h)
    ]

module _ (name : List ℕ) (f : Marked → Bool) (m : List Rec) where
  abbrev named : Marked → Bool
  named i = bytes_eq i.name name

  abbrev pub rest_of_module : List Rec
  rest_of_module = recs_without Nameless (passing f (instances m)) m

  abbrev pub IsLeft : List Marked → Type 0
  IsLeft is = IsByInstance name rest_of_module × (of_name name (instances rest_of_module) ≡ is)

  given : (is : List Marked) → definitions name rest_of_module ≡ map (λ i. i.segment) is → of_name name (instances rest_of_module) ≡ is → length is ≤ 1 → IsLeft is
  given is d e l =
      let n : length (definitions name rest_of_module) ≡ length is = ap (λ (ns : List ℕ). length ns) d ∙ length-map {B = ℕ} is (λ i. i.segment) in
      (record { only = d ∙ ap (λ (js : List Marked). map (λ i. i.segment) js) (sym e); once = omega (arith, n, l) }, e)

  none-left : definitions name rest_of_module ≡ [] → IsLeft []
  none-left d =
      let l = fewer name rest_of_module in
      let n : length (definitions name rest_of_module) ≡ 0 = ap (λ (ns : List ℕ). length ns) d in
      given [] d (nil_from_length (of_name name (instances rest_of_module)) (omega (arith, l, n))) (omega arith)

  one-left : (i : Marked) → of_name name (instances m) ≡ i ∷ [] → definitions name rest_of_module ≡ i.segment ∷ [] → is_one_of (passing f (instances m)) i.segment ≡ false → IsLeft (i ∷ [])
  one-left i e d h =
      let is = instances m in
      let here : Contains is i = All-head (Contains is) i [] (subst (All (Contains is)) e (All-filter named (Contains is) is (All-contains_itself is))) in
      let own : named i ≡ true = All-head (λ (j : Marked). named j ≡ true) i [] (subst (All (λ (j : Marked). named j ≡ true)) e (filter_passes named is)) in
      let there : Contains (instances rest_of_module) i = (instances-are-triples rest_of_module i).1 (stays (passing f is) m i ((instances-are-triples m i).0 here) h) in
      let l = fewer name rest_of_module in
      let n : length (definitions name rest_of_module) ≡ 1 = ap (λ (ns : List ℕ). length ns) d in
      given (i ∷ []) d (holds-one named (instances rest_of_module) i there own (omega (arith, l, n))) (omega arith)

  left-by : IsByInstance name m → (is : List Marked) → of_name name (instances m) ≡ is → IsLeft (filter (λ i. not (f i)) is)
  left-by h [] e = none-left (definitions-left name (passing f (instances m)) m ∙ ap (filter (keeps name (passing f (instances m)))) (h.only ∙ ap (λ (js : List Marked). map (λ i. i.segment) js) e))
  left-by h (i ∷ []) e =
      let gone = passing f (instances m) in
      let a = apart m 0 (past_threads m) in
      let among : is_one_of gone i.segment ≡ f i = only-passes f named (instances m) i a.1 e in
      let d : definitions name rest_of_module ≡ filter (keeps name gone) (i.segment ∷ []) =
      definitions-left name gone m ∙ ap (filter (keeps name gone)) (h.only ∙ ap (λ (js : List Marked). map (λ j. j.segment) js) e) in
      elim (cases_Bool (f i)) [
        | inl b ↦ subst IsLeft (sym (cond-false (not (f i)) (i ∷ []) [] (ap not b))) (none-left (d ∙ cond-false (keeps name gone i.segment) (i.segment ∷ []) [] (ap not (among ∙ b))))
        | inr b ↦ subst IsLeft (sym (cond-true (not (f i)) (i ∷ []) [] (ap not b)))
            (one-left i e (d ∙ cond-true (keeps name gone i.segment) (i.segment ∷ []) [] (ap not (among ∙ b))) (among ∙ b))
      ]
  left-by h (i ∷ j ∷ more) e =
      let n : length (definitions name m) ≡ length (i ∷ j ∷ more) = ap (λ (ns : List ℕ). length ns) (h.only ∙ ap (λ (js : List Marked). map (λ k. k.segment) js) e) ∙ length-map {B = ℕ} (i ∷ j ∷ more) (λ k. k.segment) in
      let l = h.once in
      absurd (omega (arith, n, l))

  pub module-left : IsByInstance name m → IsLeft (filter (λ i. not (f i)) (of_name name (instances m)))
  module-left h = left-by h (of_name name (instances m)) refl
