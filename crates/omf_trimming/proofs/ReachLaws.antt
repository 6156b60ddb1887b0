-- The walk from the segments that stay to those that they reach.
use Rattle.std.proofs.Common.{◌≡◌, ℕ, zero, suc, ◌+◌, ◌<◌, ◌≤◌, true, false, List, [], ◌∷◌, ◌++◌, length, length-append, get_or, refl, sym, ap, ◌∙◌, subst, arith, inl, inr, append_assoc, append-nil}
use Rattle.std.specs.Prelude.{map, replicate, slice_get, Option, Some, None, All, Contains}
use Rattle.std.proofs.lemmas.Bool.{cases_Bool, cases_lt, cond-true, cond-false}
use Rattle.std.proofs.lemmas.List.{get_or_default, length-replicate}
use Rattle.std.proofs.lemmas.List.Elements.{All-nil, All-cons, All-append, All-weaker, All-contains, All-push, Contains-get_or, Contains-push, Contains-append_left}
use Rattle.std.proofs.lemmas.Option.{same_Some}
use Rattle.omf_records.specs.Values.{Rec}
use Rattle.omf_check.specs.Module.{Module, recs_of, typed_modules}
use Rattle.omf_check.specs.Tables.{segments}
use Rattle.omf_trimming.specs.Reaching.{AreClosed, AreReached, IsNode, Node, next, roots}
use Rattle.omf_trimming.specs.Inner.Reaching.{EndsChain, HasMark, IsCalled, IsChained, IsGrown, IsLooked, IsTaken, IsWalk, IsWalked, Marks, is_marked, is_open, left_open, queued, size_of, with_mark}
use Rattle.omf_trimming.proofs.MarkLaws.{mark-cases, mark-fewer, mark-here, mark-is, mark-kept, mark-shut, mark-sizes, marked, marked-has, none-marked, none-sizes, open-has, shut-marked, size-same}
use Rattle.omf_trimming.specs.declared.optional.LeftOut.{LeftOut}

get_or-left : {A : Type 0} (xs ys : List A) (i : ℕ) (d : A) → i < length xs → get_or (xs ++ ys) i d ≡ get_or xs i d
get_or-left [] ys i d h = absurd (omega (arith, h))
get_or-left (x ∷ xs) ys zero d h = refl
get_or-left (x ∷ xs) ys (suc i) d h = get_or-left xs ys i d (omega (arith, h))

-- No segment joins.
pub grown-none : (o : LeftOut) (ms : List (List Rec)) (marks : Marks) (queue ns : List Node) → IsWalk o ms marks queue → All (IsTaken ms marks) ns → IsGrown o ms marks queue marks queue ns
grown-none o ms marks queue ns w t = record { walk = w; kept = λ n h. h; more = []; longer = sym (append-nil queue); taken = t }

-- A segment joins.
walk-joined : (o : LeftOut) (ms : List (List Rec)) (marks : Marks) (queue : List Node) (n : Node) → IsWalk o ms marks queue → HasMark marks n → IsChained o ms n → IsWalk o ms (marked marks n.0 n.1) (queue ++ n ∷ [])
walk-joined o ms marks queue n w has chain = record {
  sized = mark-sizes marks n ∙ w.sized;
  slots = λ k h. w.slots k (subst (λ x. k.1 < x) (size-same marks n k) h);
  has_slots = λ k h. subst (λ x. k.1 < x) (sym (size-same marks n k)) (w.has_slots k h);
  found = λ k h. elim (mark-cases marks n k h) [
    | inl e ↦ subst (Contains (queue ++ n ∷ [])) e (Contains-push queue n)
    | inr e ↦ Contains-append_left queue (n ∷ []) k (w.found k e)
  ];
  marked = All-push (λ k. is_marked (marked marks n.0 n.1) k ≡ true) queue n
      (All-weaker (λ k. is_marked marks k ≡ true) (λ k. is_marked (marked marks n.0 n.1) k ≡ true) (λ k h. mark-kept marks n k h) queue w.marked) (mark-here marks n has);
  chained = All-push (IsChained o ms) queue n w.chained chain;
}

one-taken : (ms : List (List Rec)) (marks : Marks) (n : Node) → is_marked marks n ≡ true → All (IsTaken ms marks) (n ∷ [])
one-taken ms marks n h = All-cons (IsTaken ms marks) n [] (λ is. h) (All-nil (IsTaken ms marks))

pub grown-one : (o : LeftOut) (ms : List (List Rec)) (marks after : Marks) (queue later : List Node) (n : Node) → IsWalk o ms marks queue → IsCalled o ms n → after ≡ with_mark marks n → later ≡ queued marks queue n
    → IsGrown o ms marks queue after later (n ∷ [])
grown-one o ms marks after queue later n w called e f = elim (cases_Bool (is_open marks n)) [
  | inl b ↦
      let has = open-has marks n b in
      subst (λ js. IsGrown o ms marks queue js later (n ∷ [])) (sym (e ∙ mark-is marks n))
      (subst (λ qs. IsGrown o ms marks queue (marked marks n.0 n.1) qs (n ∷ [])) (sym (f ∙ cond-true (is_open marks n) (queue ++ n ∷ []) queue b))
      (record {
        walk = walk-joined o ms marks queue n w has (called (w.slots n has));
        kept = λ k h. mark-kept marks n k h;
        more = n ∷ [];
        longer = refl;
        taken = one-taken ms (marked marks n.0 n.1) n (mark-here marks n has);
      }))
  | inr b ↦
      subst (λ js. IsGrown o ms marks queue js later (n ∷ [])) (sym (e ∙ mark-is marks n ∙ mark-shut marks n b))
      (subst (λ qs. IsGrown o ms marks queue marks qs (n ∷ [])) (sym (f ∙ cond-false (is_open marks n) (queue ++ n ∷ []) queue b))
      (grown-none o ms marks queue (n ∷ []) w (All-cons (IsTaken ms marks) n [] (λ is. shut-marked marks n (w.has_slots n is) b) (All-nil (IsTaken ms marks)))))
]

pub total-one : (marks after : Marks) (queue later : List Node) (n : Node) → after ≡ with_mark marks n → later ≡ queued marks queue n → length later + left_open after ≡ length queue + left_open marks
total-one marks after queue later n e f = elim (cases_Bool (is_open marks n)) [
  | inl b ↦
      let less = mark-fewer marks n b in
      let now : left_open after ≡ left_open (marked marks n.0 n.1) = ap left_open (e ∙ mark-is marks n) in
      let longer : length later ≡ length queue + 1 = ap (λ (qs : List Node). length qs) (f ∙ cond-true (is_open marks n) (queue ++ n ∷ []) queue b) ∙ length-append queue (n ∷ []) in
      omega (arith, less, now, longer)
  | inr b ↦
      let now : left_open after ≡ left_open marks = ap left_open (e ∙ mark-is marks n ∙ mark-shut marks n b) in
      let same : length later ≡ length queue = ap (λ (qs : List Node). length qs) (f ∙ cond-false (is_open marks n) (queue ++ n ∷ []) queue b) in
      omega (arith, now, same)
]

-- More segments.
pub kept-taken : (ms : List (List Rec)) (marks after : Marks) (ns : List Node) → ((n : Node) → is_marked marks n ≡ true → is_marked after n ≡ true) → All (IsTaken ms marks) ns → All (IsTaken ms after) ns
kept-taken ms marks after ns kept t = All-weaker (IsTaken ms marks) (IsTaken ms after) (λ n h is. kept n (h is)) ns t

pub grown-more : (o : LeftOut) (ms : List (List Rec)) (marks between after : Marks) (queue middle later xs ys zs : List Node) → zs ≡ xs ++ ys → IsGrown o ms marks queue between middle xs → IsGrown o ms between middle after later ys
    → IsGrown o ms marks queue after later zs
grown-more o ms marks between after queue middle later xs ys zs e f g = record {
  walk = g.walk;
  kept = λ n h. g.kept n (f.kept n h);
  more = f.more ++ g.more;
  longer = g.longer ∙ ap (λ qs. qs ++ g.more) f.longer ∙ append_assoc queue f.more g.more;
  taken = subst (All (IsTaken ms after)) (sym e) (All-append (IsTaken ms after) xs ys (kept-taken ms between after xs g.kept f.taken) g.taken);
}

-- The walk at its start.
pub roots-called : (o : LeftOut) (ms : List (List Rec)) → All (IsCalled o ms) (roots o ms)
roots-called o ms k d h is = (0, (Contains-get_or (roots o ms) k d h, is))

abbrev pub slot_count : List Rec → ℕ
slot_count m = length (segments m) + 1

abbrev pub no_marks : List (List Rec) → Marks
no_marks ms = map (λ m. replicate (slot_count m) false) ms

pub marks-start : (ms : List Module) → map (λ m. replicate (length (segments (recs_of m.bytes)) + 1) false) ms ≡ no_marks (typed_modules ms)
marks-start [] = refl
marks-start (m ∷ ms) = ap (λ xs. replicate (slot_count (recs_of m.bytes)) false ∷ xs) (marks-start ms)

slot-node : (ms : List (List Rec)) (j i : ℕ) → i < size_of (slice_get (no_marks ms) j) → IsNode ms (j, i)
slot-node [] j i h = absurd (omega (arith, h))
slot-node (m ∷ ms) zero i h = (m, refl, let size = length-replicate (slot_count m) false in omega (arith, h, size))
slot-node (m ∷ ms) (suc j) i h = slot-node ms j i h

node-slot : (ms : List (List Rec)) (j i : ℕ) → IsNode ms (j, i) → i < size_of (slice_get (no_marks ms) j)
node-slot [] j i h = absurd (no h.0 h.1)
  where
    no : (m : List Rec) → ◌≡◌ {A = Option (List Rec)} None (Some m) → ⊥
    no m e = cc
node-slot (m ∷ ms) zero i h =
    let size = length-replicate (slot_count m) false in
    let same : length (segments m) ≡ length (segments h.0) = ap (λ (x : List Rec). length (segments x)) (same_Some m h.0 h.1) in
    let low = h.2 in
    omega (arith, size, same, low)
node-slot (m ∷ ms) (suc j) i h = node-slot ms j i h

pub walk-starts : (o : LeftOut) (ms : List (List Rec)) (marks : Marks) (queue : List Node) → marks ≡ no_marks ms → queue ≡ [] → IsWalk o ms marks queue
walk-starts o ms marks queue e f = subst (λ js. IsWalk o ms js queue) (sym e) (subst (IsWalk o ms (no_marks ms)) (sym f) (record {
  sized = none-sizes slot_count ms;
  slots = λ n h. slot-node ms n.0 n.1 h;
  has_slots = λ n h. node-slot ms n.0 n.1 h;
  found = λ n h. absurd (none-marked slot_count ms n h);
  marked = All-nil (λ n. is_marked (no_marks ms) n ≡ true);
  chained = All-nil (IsChained o ms);
}))

-- The queue, one by one.
pub next-called : (o : LeftOut) (ms : List (List Rec)) (n : Node) → IsChained o ms n → All (IsCalled o ms) (next ms n)
next-called o ms n chain k d h is = (suc chain.0, (n, chain.1, Contains-get_or (next ms n) k d h, is))

pub in-queue : (o : LeftOut) (ms : List (List Rec)) (marks : Marks) (queue : List Node) (at : ℕ) (n : Node) → IsWalk o ms marks queue → at < length queue → n ≡ get_or queue at n → IsNode ms n × IsChained o ms n
in-queue o ms marks queue at n w low is =
    let set : is_marked marks n ≡ true = subst (λ k. is_marked marks k ≡ true) (sym is) (w.marked at n low) in
    (w.slots n (marked-has marks n set), subst (IsChained o ms) (sym is) (w.chained at n low))

pub grown-longer : (o : LeftOut) (ms : List (List Rec)) (marks after : Marks) (queue later ns : List Node) (at : ℕ) → IsGrown o ms marks queue after later ns → at < length queue → at + 1 ≤ length later
grown-longer o ms marks after queue later ns at g h =
    let e : length later ≡ length queue + length g.more = ap (λ (qs : List Node). length qs) g.longer ∙ length-append queue g.more in
    omega (arith, e, h)

pub looked-more : (o : LeftOut) (ms : List (List Rec)) (marks after : Marks) (queue later : List Node) (at : ℕ) (n : Node) → at < length queue → n ≡ get_or queue at n → IsGrown o ms marks queue after later (next ms n)
    → ((i : ℕ) (d : Node) → i < at → IsLooked ms marks (get_or queue i d)) → (i : ℕ) (d : Node) → i < at + 1 → IsLooked ms after (get_or later i d)
looked-more o ms marks after queue later at n inside is g before i d h =
    let at_later : i < length queue → get_or later i d ≡ get_or queue i d = λ l. ap (λ qs. get_or qs i d) g.longer ∙ get_or-left queue g.more i d l in
    elim (cases_lt i at) [
      | inl l ↦
          subst (IsLooked ms after) (sym (at_later (omega (arith, l, inside))))
          (kept-taken ms marks after (next ms (get_or queue i d)) g.kept (before i d l))
      | inr l ↦
          let same : i ≡ at = omega (arith, l, h) in
          let number : get_or later i d ≡ n = at_later (omega (arith, same, inside)) ∙ ap (λ j. get_or queue j d) same ∙ get_or_default queue at d n inside ∙ sym is in
          subst (IsLooked ms after) (sym number) g.taken
    ]

pub walked : (o : LeftOut) (ms : List (List Rec)) (marks : Marks) (queue : List Node) (at : ℕ) → IsWalk o ms marks queue → All (IsTaken ms marks) (roots o ms) → length queue ≤ at
    → ((i : ℕ) (d : Node) → i < at → IsLooked ms marks (get_or queue i d)) → IsWalked o ms marks queue
walked o ms marks queue at w first end looked = record {
  walk = w;
  first = first;
  looked = λ n c. let l = c.1 in subst (IsLooked ms marks) c.2 (looked c.0 n (omega (arith, l, end)));
}

-- What is reached.
chain-least : (o : LeftOut) (ms : List (List Rec)) (others : List Node) → AreClosed o ms others → (k : ℕ) (n : Node) → EndsChain o ms k n → Contains others n
chain-least o ms others closed zero n c = closed.first n c.0 c.1
chain-least o ms others closed (suc k) n c = closed.others c.0 n (chain-least o ms others closed k c.0 c.1) c.2 c.3

pub are-reached : (o : LeftOut) (ms : List (List Rec)) (marks : Marks) (queue : List Node) → IsWalked o ms marks queue → AreReached o ms queue
are-reached o ms marks queue w = record {
  closed = record {
    first = λ n c is. w.walk.found n (All-contains (IsTaken ms marks) (roots o ms) n w.first c is);
    others = λ n k c d is. w.walk.found k (All-contains (IsTaken ms marks) (next ms n) k (w.looked n c) d is);
  };
  least = λ others closed. All-weaker (IsChained o ms) (Contains others) (λ n c. chain-least o ms others closed c.0 n c.1) queue w.walk.chained;
}
