-- Members by need: the table of definers, and the walk from module to member.
use Rattle.std.proofs.Common.{◌≡◌, ℕ, zero, suc, ◌+◌, ◌<◌, ◌≤◌, Bool, true, false, List, [], ◌∷◌, ◌++◌, length, take, get_or, set, refl, sym, ap, ◌∙◌, subst, inl, inr, ◌⊎◌, arith, append_assoc, append-nil, Bor}
use Rattle.std.specs.Prelude.{map, Option, Some, None, option_map, is_some, slice_get, Result, Ok, Err, IfOk, OnOk, Vec, bytes_eq, ◌||◌, if◌then◌else◌, All, Contains, replicate}
use Rattle.std.specs.BTreeMap.{is_at}
use Rattle.std.specs.Global.{Global}
use Rattle.std.specs.List.Sorted.{IsStrictlyIncreasing}
use Rattle.std.specs.Map.{lookup}
use Rattle.std.proofs.lemmas.Bool.{cond-true, cond-false, cases_Bool, cases_lt}
use Rattle.std.proofs.lemmas.List.{take_all, get_or_default, length-append, length-set, length-map, length-replicate}
use Rattle.std.proofs.lemmas.List.Elements.{All-nil, All-cons, All-append, All-weaker, All-contains, All-push, Contains-get_or, Contains-push, Contains-append_left}
use Rattle.std.proofs.lemmas.Option.{none-some, same_Some, slice_get_read, slice_get-map}
use Rattle.std.proofs.lemmas.Slice.Eq.{bytes_eq-Decides}
use Rattle.omf_names.specs.Names.{name_cmp}
use Rattle.omf_names.proofs.NameTables.{IsUpdated, twice_updated}
use Rattle.omf_library.specs.Needed.{Linkage, Offer, has_name, is_defined, definer, member_of, Needs, AreClosed, AreNeeded, EndsChain, IsChained}
use Rattle.omf_library.specs.Inner.Names.{names_seen}
use Rattle.omf_library.specs.Inner.Search.{found_at, first_some, some_if, HasMore, IsTable, definer_among, numbered}
use Rattle.omf_library.specs.Inner.Walk.{has_joined, left_out, queued, IsWalk, IsCalled, IsTaken, AreTaken, IsGrown, IsLooked, IsWalked, numbers_from}
use Rattle.omf_library.specs.declared.needed.search.Definer.{Definer}
use Rattle.omf_library.specs.declared.needed.search.Definer.TheVariants.{Given, Member}
use Rattle.omf_library.specs.declared.needed.search.Definers.{Definers}

-- Lists.
pub take-map_more : {A B : Type 0} (f : A → B) (xs : List A) (i : ℕ) (x : A) → x ≡ get_or xs i x → i < length xs → take (i + 1) (map f xs) ≡ take i (map f xs) ++ f x ∷ []
take-map_more f [] i x e h = absurd (omega (arith, h))
take-map_more f (y ∷ ys) zero x e h = ap (λ z. f z ∷ []) (sym e)
take-map_more f (y ∷ ys) (suc i) x e h =
    let same : suc (i + 1) ≡ suc i + 1 = omega arith in
    ap (λ n. take n (f y ∷ map f ys)) (sym same) ∙ ap (λ zs. f y ∷ zs) (take-map_more f ys i x e (omega (arith, h)))

pub length-take_map : {A B : Type 0} (f : A → B) (xs : List A) (i : ℕ) → i < length xs → i ≡ length (take i (map f xs))
length-take_map f [] i h = absurd (omega (arith, h))
length-take_map f (x ∷ xs) zero h = refl
length-take_map f (x ∷ xs) (suc i) h = ap (λ (n : ℕ). suc n) (length-take_map f xs i (omega (arith, h)))

pub take-map_all : {A B : Type 0} (f : A → B) (xs : List A) (i : ℕ) → length xs ≤ i → take i (map f xs) ≡ map f xs
take-map_all f xs i h = take_all i (map f xs) (subst (λ n. n ≤ i) (sym (length-map xs f)) h)

pub All-map_at : {A B : Type 0} (P : B → Type 0) (f : A → B) (xs : List A) (i : ℕ) (x : A) → x ≡ get_or xs i x → i < length xs → All P (map f xs) → P (f x)
All-map_at P f [] i x e h a = absurd (omega (arith, h))
All-map_at P f (y ∷ ys) zero x e h a = subst (λ z. P (f z)) (sym e) (a 0 (f y) (omega arith))
All-map_at P f (y ∷ ys) (suc i) x e h a = All-map_at P f ys i x e (omega (arith, h)) (λ k d l. a (suc k) d (omega (arith, l)))

pub Contains-map_at : {A B : Type 0} (f : A → B) (xs : List A) (i : ℕ) (x : A) → x ≡ get_or xs i x → i < length xs → Contains (map f xs) (f x)
Contains-map_at f [] i x e h = absurd (omega (arith, h))
Contains-map_at f (y ∷ ys) zero x e h = (0, omega arith, ap f (sym e))
Contains-map_at f (y ∷ ys) (suc i) x e h = let c = Contains-map_at f ys i x e (omega (arith, h)) in let l = c.1 in (suc c.0, omega (arith, l), c.2)

pub get_or-append_left : {A : Type 0} (xs ys : List A) (i : ℕ) (d : A) → i < length xs → get_or (xs ++ ys) i d ≡ get_or xs i d
get_or-append_left [] ys i d h = absurd (omega (arith, h))
get_or-append_left (x ∷ xs) ys zero d h = refl
get_or-append_left (x ∷ xs) ys (suc i) d h = get_or-append_left xs ys i d (omega (arith, h))

-- The names of a loop.
pub names-more : (ns : List (Bor (List ℕ))) (i : ℕ) (d : Bor (List ℕ)) → i < length ns → take (i + 1) (names_seen ns) ≡ take i (names_seen ns) ++ (get_or ns i d).now ∷ []
names-more ns i d h = take-map_more (λ n. n.now) ns i (get_or ns i d) (get_or_default ns i d (get_or ns i d) h) h

pub names-at : (P : List ℕ → Type 0) (ns : List (Bor (List ℕ))) (i : ℕ) (d : Bor (List ℕ)) → i < length ns → All P (names_seen ns) → P (get_or ns i d).now
names-at P ns i d h a = All-map_at P (λ n. n.now) ns i (get_or ns i d) (get_or_default ns i d (get_or ns i d) h) h a

-- Answers.
pub on-ok-both : {X E A B C : Type 0} (r : Result X E) → (A → B → C) → OnOk r A → OnOk r B → OnOk r C
on-ok-both (Ok x) f a b = f a b
on-ok-both (Err e) f a b = a

pub on-items : {E : Type 0} (r : Result (Vec ℕ Global) E) (P : List ℕ → Type 0) (xs : List ℕ) → P xs → IfOk r (λ v. v.items ≡ xs) → IfOk r (λ v. P v.items)
on-items (Ok v) P xs p e = subst P (sym e) p
on-items (Err f) P xs p e = e

pub absent-none : {A : Type 0} (o : Option A) → is_some o ≡ false → o ≡ None
absent-none None e = refl
absent-none (Some a) e = absurd cc

-- The table.
first-none : {A : Type 0} (a : Option A) → first_some a None ≡ a
first-none None = refl
first-none (Some x) = refl

pub or-false : (b : Bool) → (b || false) ≡ b
or-false true = refl
or-false false = refl

some-or : {A : Type 0} (o : Option A) (b c : Bool) (d : A) → first_some (first_some o (some_if b d)) (some_if c d) ≡ first_some o (some_if (b || c) d)
some-or (Some x) b c d = refl
some-or None true c d = refl
some-or None false c d = refl

pub has-append : (xs ys : List (List ℕ)) (name : List ℕ) → has_name (xs ++ ys) name ≡ (has_name xs name || has_name ys name)
has-append [] ys name = refl
has-append (x ∷ xs) ys name = elim (cases_Bool (bytes_eq x name)) [
  | inl b ↦ ap (λ t. t || has_name (xs ++ ys) name) b ∙ sym (ap (λ t. (t || has_name xs name) || has_name ys name) b)
  | inr b ↦ ap (λ t. t || has_name (xs ++ ys) name) b ∙ has-append xs ys name ∙ sym (ap (λ t. (t || has_name xs name) || has_name ys name) b)
]

-- No name, a name that the table has, and one that it has not.
pub more-none : (t : Definers) (d : Definer) → HasMore t t [] d
more-none t d name = sym (first-none (found_at t name))

pub more-known : (t : Definers) (x : List ℕ) (e d : Definer) → found_at t x ≡ Some e → HasMore t t (x ∷ []) d
more-known t x e d h name = elim (cases_Bool (bytes_eq x name)) [
  | inl b ↦
      let same : found_at t name ≡ Some e = subst (λ y. found_at t y ≡ Some e) ((bytes_eq-Decides x name).0 b) h in
      same ∙ sym (ap (λ o. first_some o (some_if (has_name (x ∷ []) name) d)) same)
  | inr b ↦ sym (ap (λ c. first_some (found_at t name) (some_if (c || false) d)) b ∙ first-none (found_at t name))
]

pub more-new : (t u : Definers) (x : List ℕ) (d : Definer) → found_at t x ≡ None
    → IsUpdated x t.by_name u.by_name (Some d) → HasMore t u (x ∷ []) d
more-new t u x d h up name = elim (cases_Bool (bytes_eq x name)) [
  | inl b ↦
      let none : found_at t name ≡ None = subst (λ y. found_at t y ≡ None) ((bytes_eq-Decides x name).0 b) h in
      up name ∙ cond-true (bytes_eq x name) (Some d) (found_at t name) b
      ∙ sym (ap (λ o. first_some o (some_if (has_name (x ∷ []) name) d)) none ∙ ap (λ c. some_if (c || false) d) b)
  | inr b ↦
      up name ∙ cond-false (bytes_eq x name) (Some d) (found_at t name) b
      ∙ sym (ap (λ c. first_some (found_at t name) (some_if (c || false) d)) b ∙ first-none (found_at t name))
]

-- A name that had a definer, after it was given another and then its own again.
pub more-again : (t u v : Definers) (x : List ℕ) (e d : Definer) → Some e ≡ found_at t x → IsUpdated x t.by_name u.by_name (Some d) → IsUpdated x u.by_name v.by_name (Some e) → HasMore t v (x ∷ []) d
more-again t u v x e d was f g name =
    let same : found_at v name ≡ found_at t name = elim (cases_Bool (bytes_eq x name)) [
      | inl b ↦
          twice_updated x t.by_name u.by_name v.by_name (Some d) (Some e) f g name ∙ cond-true (bytes_eq x name) (Some e) (found_at t name) b
          ∙ was ∙ ap (found_at t) ((bytes_eq-Decides x name).0 b)
      | inr b ↦ twice_updated x t.by_name u.by_name v.by_name (Some d) (Some e) f g name ∙ cond-false (bytes_eq x name) (Some e) (found_at t name) b
    ] in
    same ∙ more-known t x e d (sym was) name

-- Names after names.
pub more-more : (t u v : Definers) (xs ys zs : List (List ℕ)) (d : Definer) → zs ≡ xs ++ ys → HasMore t u xs d → HasMore u v ys d → HasMore t v zs d
more-more t u v xs ys zs d e f g name =
    g name ∙ ap (λ o. first_some o (some_if (has_name ys name) d)) (f name) ∙ some-or (found_at t name) (has_name xs name) (has_name ys name) d
    ∙ ap (λ b. first_some (found_at t name) (some_if b d)) (sym (has-append xs ys name) ∙ ap (λ ns. has_name ns name) (sym e))

-- One more given module.
defined-more : (gs : List Linkage) (m : Linkage) (name : List ℕ) → is_defined (gs ++ m ∷ []) name ≡ (is_defined gs name || has_name m.publics name)
defined-more [] m name = or-false (has_name m.publics name)
defined-more (g ∷ gs) m name = elim (cases_Bool (has_name g.publics name)) [
  | inl b ↦ ap (λ t. t || is_defined (gs ++ m ∷ []) name) b ∙ sym (ap (λ t. (t || is_defined gs name) || has_name m.publics name) b)
  | inr b ↦ ap (λ t. t || is_defined (gs ++ m ∷ []) name) b ∙ defined-more gs m name ∙ sym (ap (λ t. (t || is_defined gs name) || has_name m.publics name) b)
]

given-or : (b c : Bool) → first_some (if b then Some Given else None) (some_if c Given) ≡ (if (b || c) then Some Given else None)
given-or true c = refl
given-or false c = refl

pub table-empty : (t : Definers) → t.by_name.entries ≡ [] → IsTable t [] []
table-empty t e name = ap (λ xs. lookup (is_at (λ k. name_cmp name k.now)) xs) e

pub table-given : (t u : Definers) (gs hs : List Linkage) (m : Linkage) → hs ≡ gs ++ m ∷ [] → HasMore t u m.publics Given → IsTable t gs [] → IsTable u hs []
table-given t u gs hs m e f g = subst (λ ms. IsTable u ms []) (sym e) (λ name.
    f name ∙ ap (λ o. first_some o (some_if (has_name m.publics name) Given)) (g name) ∙ given-or (is_defined gs name) (has_name m.publics name)
    ∙ ap (λ b. if b then Some Given else None) (sym (defined-more gs m name)))

-- One more member.
later : (o : Option ℕ) (b : Bool) (n k : ℕ) → k ≡ n + 1 → option_map (λ i. i + 1) (first_some o (some_if b n)) ≡ first_some (option_map (λ i. i + 1) o) (some_if b k)
later (Some i) b n k e = refl
later None true n k e = ap (λ j. Some j) (sym e)
later None false n k e = refl

definer-more : (ms : List Linkage) (m : Linkage) (name : List ℕ) → definer (ms ++ m ∷ []) name ≡ first_some (definer ms name) (some_if (has_name m.publics name) (length ms))
definer-more [] m name = refl
definer-more (x ∷ xs) m name = elim (cases_Bool (has_name x.publics name)) [
  | inl b ↦ ap (λ t. if t then Some 0 else option_map (λ n. n + 1) (definer (xs ++ m ∷ []) name)) b
      ∙ sym (ap (λ t. first_some (if t then Some 0 else option_map (λ n. n + 1) (definer xs name)) (some_if (has_name m.publics name) (length (x ∷ xs)))) b)
  | inr b ↦ ap (λ t. if t then Some 0 else option_map (λ n. n + 1) (definer (xs ++ m ∷ []) name)) b
      ∙ ap (option_map (λ n. n + 1)) (definer-more xs m name) ∙ later (definer xs name) (has_name m.publics name) (length xs) (length (x ∷ xs)) (omega arith)
      ∙ sym (ap (λ t. first_some (if t then Some 0 else option_map (λ n. n + 1) (definer xs name)) (some_if (has_name m.publics name) (length (x ∷ xs)))) b)
]

member-or : (b c : Bool) (o : Option ℕ) (n : ℕ) → first_some (if b then Some Given else option_map Member o) (some_if c (Member n)) ≡ (if b then Some Given else option_map Member (first_some o (some_if c n)))
member-or true c o n = refl
member-or false c (Some i) n = refl
member-or false true None n = refl
member-or false false None n = refl

pub table-member : (t u : Definers) (gs ms ns : List Linkage) (m : Linkage) (n : ℕ) → ns ≡ ms ++ m ∷ [] → n ≡ length ms → HasMore t u m.publics (Member n) → IsTable t gs ms → IsTable u gs ns
table-member t u gs ms ns m n e k f g = subst (IsTable u gs) (sym e) (λ name.
    f name ∙ ap (λ o. first_some o (some_if (has_name m.publics name) (Member n))) (g name) ∙ member-or (is_defined gs name) (has_name m.publics name) (definer ms name) n
    ∙ ap (λ o. if is_defined gs name then Some Given else option_map Member o) (ap (λ j. first_some (definer ms name) (some_if (has_name m.publics name) j)) k ∙ sym (definer-more ms m name)))

numbered-if : (b : Bool) (o : Option ℕ) → numbered (if b then Some Given else option_map Member o) ≡ (if b then None else o)
numbered-if true o = refl
numbered-if false None = refl
numbered-if false (Some n) = refl

pub numbered-is : (o : Offer) (name : List ℕ) (d : Option Definer) → d ≡ definer_among o.given o.members name → numbered d ≡ member_of o name
numbered-is o name d e = ap numbered e ∙ numbered-if (is_defined o.given name) (definer o.members name)

-- A definer is a member.
later-low : (o : Option ℕ) (n k : ℕ) → ((i : ℕ) → o ≡ Some i → i < k) → option_map (λ j. j + 1) o ≡ Some n → n < suc k
later-low None n k h e = absurd (none-some n e)
later-low (Some i) n k h e = let l = h i refl in let s : i + 1 ≡ n = same_Some (i + 1) n e in omega (arith, l, s)

definer-low : (ms : List Linkage) (name : List ℕ) (n : ℕ) → definer ms name ≡ Some n → n < length ms
definer-low [] name n e = absurd (none-some n e)
definer-low (m ∷ ms) name n e = elim (cases_Bool (has_name m.publics name)) [
  | inl b ↦
      let zero_is : 0 ≡ n = same_Some 0 n (sym (ap (λ t. if t then Some 0 else option_map (λ j. j + 1) (definer ms name)) b) ∙ e) in
      omega (arith, zero_is)
  | inr b ↦
      later-low (definer ms name) n (length ms) (λ i f. definer-low ms name i f)
      (sym (ap (λ t. if t then Some 0 else option_map (λ j. j + 1) (definer ms name)) b) ∙ e)
]

low-if : (b : Bool) (o : Option ℕ) (n k : ℕ) → ((i : ℕ) → o ≡ Some i → i < k) → (if b then None else o) ≡ Some n → n < k
low-if true o n k h e = absurd (none-some n e)
low-if false o n k h e = h n e

pub member-low : (o : Offer) (name : List ℕ) (n : ℕ) → member_of o name ≡ Some n → n < length o.members
member-low o name n e = low-if (is_defined o.given name) (definer o.members name) n (length o.members) (λ i f. definer-low o.members name i f) e

-- Marks.
set-same : (bs : List Bool) (n : ℕ) → has_joined bs n ≡ true → set bs n true ≡ bs
set-same [] n h = refl
set-same (b ∷ bs) zero h = ap (λ x. x ∷ bs) (sym h)
set-same (b ∷ bs) (suc n) h = ap (λ xs. b ∷ xs) (set-same bs n h)

set-cases : (bs : List Bool) (n k : ℕ) → has_joined (set bs n true) k ≡ true → (n ≡ k) ⊎ (has_joined bs k ≡ true)
set-cases [] n k h = inr h
set-cases (b ∷ bs) zero zero h = inl refl
set-cases (b ∷ bs) zero (suc k) h = inr h
set-cases (b ∷ bs) (suc n) zero h = inr h
set-cases (b ∷ bs) (suc n) (suc k) h = elim (set-cases bs n k h) [
  | inl e ↦ inl (ap (λ (j : ℕ). suc j) e)
  | inr e ↦ inr e
]

set-kept : (bs : List Bool) (n k : ℕ) → has_joined bs k ≡ true → has_joined (set bs n true) k ≡ true
set-kept [] n k h = h
set-kept (b ∷ bs) zero zero h = refl
set-kept (b ∷ bs) zero (suc k) h = h
set-kept (b ∷ bs) (suc n) zero h = h
set-kept (b ∷ bs) (suc n) (suc k) h = set-kept bs n k h

set-here : (bs : List Bool) (n : ℕ) → n < length bs → has_joined (set bs n true) n ≡ true
set-here [] n h = absurd (omega (arith, h))
set-here (b ∷ bs) zero h = refl
set-here (b ∷ bs) (suc n) h = set-here bs n (omega (arith, h))

fewer : (bs : List Bool) (n : ℕ) → n < length bs → has_joined bs n ≡ false → left_out (set bs n true) + 1 ≡ left_out bs
fewer [] n h e = absurd (omega (arith, h))
fewer (true ∷ bs) zero h e = absurd cc
fewer (false ∷ bs) zero h e = omega arith
fewer (true ∷ bs) (suc n) h e = fewer bs n (omega (arith, h)) e
fewer (false ∷ bs) (suc n) h e = let f = fewer bs n (omega (arith, h)) e in omega (arith, f)

none-joined : (n k : ℕ) → has_joined (replicate n false) k ≡ true → ⊥
none-joined zero k h = cc
none-joined (suc n) zero h = cc
none-joined (suc n) (suc k) h = none-joined n k h

all-left : (n : ℕ) → left_out (replicate n false) ≡ n
all-left zero = refl
all-left (suc n) = ap (λ (j : ℕ). suc j) (all-left n)

-- The walk at its start.
pub walk-started : (o : Offer) (joined : List Bool) (queue : List ℕ) → joined ≡ replicate (length o.members) false → queue ≡ [] → IsWalk o joined queue
walk-started o joined queue e f = subst (λ js. IsWalk o js queue) (sym e) (subst (IsWalk o (replicate (length o.members) false)) (sym f) (record {
  sized = length-replicate (length o.members) false;
  found = λ n h. absurd (none-joined (length o.members) n h);
  inside = All-nil (λ n. n < length o.members);
  chained = All-nil (IsChained o);
  few = let all = all-left (length o.members) in omega (arith, all);
}))

-- No member joins.
pub grown-none : (o : Offer) (joined : List Bool) (queue : List ℕ) (names : List (List ℕ)) → IsWalk o joined queue → All (IsTaken o joined) names → IsGrown o joined queue joined queue names
grown-none o joined queue names w t = record { walk = w; kept = λ n h. h; more = []; longer = sym (append-nil queue); taken = t }

pub taken-none : (o : Offer) (joined : List Bool) (name : List ℕ) → member_of o name ≡ None → All (IsTaken o joined) (name ∷ [])
taken-none o joined name e = All-cons (IsTaken o joined) name [] (λ n h. absurd (none-some n (sym e ∙ h))) (All-nil (IsTaken o joined))

-- One member joins.
walk-joined : (o : Offer) (joined : List Bool) (queue : List ℕ) (n : ℕ) → IsWalk o joined queue → n < length o.members → IsChained o n → has_joined joined n ≡ false → IsWalk o (set joined n true) (queue ++ n ∷ [])
walk-joined o joined queue n w low chain out = record {
  sized = length-set joined n true ∙ w.sized;
  found = λ k h. elim (set-cases joined n k h) [
    | inl e ↦ subst (Contains (queue ++ n ∷ [])) e (Contains-push queue n)
    | inr e ↦ Contains-append_left queue (n ∷ []) k (w.found k e)
  ];
  inside = All-push (λ k. k < length o.members) queue n w.inside low;
  chained = All-push (IsChained o) queue n w.chained chain;
  few =
      let less = fewer joined n (subst (λ k. n < k) (sym w.sized) low) out in
      let longer : length (queue ++ n ∷ []) ≡ length queue + 1 = length-append queue (n ∷ []) in
      let few = w.few in
      omega (arith, less, longer, few);
}

taken-one : (o : Offer) (joined : List Bool) (name : List ℕ) (n : ℕ) → member_of o name ≡ Some n → has_joined joined n ≡ true → All (IsTaken o joined) (name ∷ [])
taken-one o joined name n e h = All-cons (IsTaken o joined) name [] (λ k f. subst (λ j. has_joined joined j ≡ true) (same_Some n k (sym e ∙ f)) h) (All-nil (IsTaken o joined))

pub grown-one : (o : Offer) (joined after : List Bool) (queue later : List ℕ) (name : List ℕ) (n : ℕ) → IsWalk o joined queue → IsCalled o name → member_of o name ≡ Some n
    → after ≡ set joined n true → later ≡ queued joined queue n → IsGrown o joined queue after later (name ∷ [])
grown-one o joined after queue later name n w called e f g =
    let low = member-low o name n e in
    let inside : n < length joined = subst (λ k. n < k) (sym w.sized) low in
    elim (cases_Bool (has_joined joined n)) [
      | inl b ↦
          subst (λ js. IsGrown o joined queue js later (name ∷ [])) (sym (f ∙ set-same joined n b))
          (subst (λ qs. IsGrown o joined queue joined qs (name ∷ [])) (sym (g ∙ cond-true (has_joined joined n) queue (queue ++ n ∷ []) b))
          (grown-none o joined queue (name ∷ []) w (taken-one o joined name n e b)))
      | inr b ↦
          subst (λ js. IsGrown o joined queue js later (name ∷ [])) (sym f)
          (subst (λ qs. IsGrown o joined queue (set joined n true) qs (name ∷ [])) (sym (g ∙ cond-false (has_joined joined n) queue (queue ++ n ∷ []) b))
          (record {
            walk = walk-joined o joined queue n w low (called n e) b;
            kept = λ k h. set-kept joined n k h;
            more = n ∷ [];
            longer = refl;
            taken = taken-one o (set joined n true) name n e (set-here joined n inside);
          }))
    ]

-- More names.
pub kept-taken : (o : Offer) (joined after : List Bool) (names : List (List ℕ)) → ((n : ℕ) → has_joined joined n ≡ true → has_joined after n ≡ true) → All (IsTaken o joined) names → All (IsTaken o after) names
kept-taken o joined after names kept t = All-weaker (IsTaken o joined) (IsTaken o after) (λ name h n e. kept n (h n e)) names t

pub grown-more : (o : Offer) (joined between after : List Bool) (queue middle later : List ℕ) (xs ys zs : List (List ℕ)) → zs ≡ xs ++ ys
    → IsGrown o joined queue between middle xs → IsGrown o between middle after later ys → IsGrown o joined queue after later zs
grown-more o joined between after queue middle later xs ys zs e f g = record {
  walk = g.walk;
  kept = λ n h. g.kept n (f.kept n h);
  more = f.more ++ g.more;
  longer = g.longer ∙ ap (λ qs. qs ++ g.more) f.longer ∙ append_assoc queue f.more g.more;
  taken = subst (All (IsTaken o after)) (sym e) (All-append (IsTaken o after) xs ys (kept-taken o between after xs g.kept f.taken) g.taken);
}

-- The names of a module that takes part are called.
pub called-given : (o : Offer) (m : Linkage) → Contains o.given m → All (IsCalled o) m.externals
called-given o m c k d h n e = (0, (m, c, (get_or m.externals k d, Contains-get_or m.externals k d h, e)))

pub called-member : (o : Offer) (m : Linkage) (n : ℕ) → IsChained o n → slice_get o.members n ≡ Some m → All (IsCalled o) m.externals
called-member o m n chain s k d h j e = (suc chain.0, (n, m, chain.1, s, (get_or m.externals k d, Contains-get_or m.externals k d h, e)))

pub slice_get-map_at : {A B : Type 0} (f : A → B) (xs : List A) (i : ℕ) (x : A) → x ≡ get_or xs i x → i < length xs → slice_get (map f xs) i ≡ Some (f x)
slice_get-map_at f xs i x e h = slice_get-map f xs i ∙ ap (option_map f) (slice_get_read xs (length xs) i x refl h e)

pub called-next : (o : Offer) (joined : List Bool) (queue : List ℕ) (at n : ℕ) (m : Linkage) → IsWalk o joined queue → at < length queue → n ≡ get_or queue at n → slice_get o.members n ≡ Some m → All (IsCalled o) m.externals
called-next o joined queue at n m w inside is s = called-member o m n (subst (IsChained o) (sym is) (w.chained at n inside)) s

pub next-inside : (o : Offer) (joined : List Bool) (queue : List ℕ) (at n : ℕ) → IsWalk o joined queue → at < length queue → n ≡ get_or queue at n → n < length o.members
next-inside o joined queue at n w inside is = subst (λ k. k < length o.members) (sym is) (w.inside at n inside)

pub slice_get-map_or : {A B : Type 0} (f : A → B) (xs : List A) (i : ℕ) (d : A) → i < length (map f xs) → slice_get (map f xs) i ≡ Some (f (get_or xs i d))
slice_get-map_or f xs i d h =
    let inside : i < length xs = subst (λ n. i < n) (length-map xs f) h in
    slice_get-map_at f xs i (get_or xs i d) (get_or_default xs i d (get_or xs i d) inside) inside

pub given-kept : (o : Offer) (joined after : List Bool) (queue later : List ℕ) (names : List (List ℕ)) (ms : List Linkage) → IsGrown o joined queue after later names → All (AreTaken o joined) ms → All (AreTaken o after) ms
given-kept o joined after queue later names ms g a = All-weaker (AreTaken o joined) (AreTaken o after) (λ x h. kept-taken o joined after x.externals g.kept h) ms a

pub grown-longer : (o : Offer) (joined after : List Bool) (queue later : List ℕ) (names : List (List ℕ)) (at : ℕ) → IsGrown o joined queue after later names → at < length queue → at + 1 ≤ length later
grown-longer o joined after queue later names at g h =
    let e : length later ≡ length queue + length g.more = ap (λ (qs : List ℕ). length qs) g.longer ∙ length-append queue g.more in
    omega (arith, e, h)

-- The given modules, one by one.
pub given-more : (o : Offer) (joined after : List Bool) (queue later : List ℕ) (ms ns : List Linkage) (m : Linkage) → ns ≡ ms ++ m ∷ []
    → IsGrown o joined queue after later m.externals → All (AreTaken o joined) ms → All (AreTaken o after) ns
given-more o joined after queue later ms ns m e g a =
    subst (All (AreTaken o after)) (sym e) (All-push (AreTaken o after) ms m (All-weaker (AreTaken o joined) (AreTaken o after) (λ x h. kept-taken o joined after x.externals g.kept h) ms a) g.taken)

-- The queue, one by one.
pub looked-more : (o : Offer) (joined after : List Bool) (queue later : List ℕ) (m : Linkage) (at n : ℕ) → at < length queue → n ≡ get_or queue at n → slice_get o.members n ≡ Some m
    → IsGrown o joined queue after later m.externals → ((i d : ℕ) → i < at → IsLooked o joined (get_or queue i d)) → (i d : ℕ) → i < at + 1 → IsLooked o after (get_or later i d)
looked-more o joined after queue later m at n inside is s g before i d h =
    let at_later : i < length queue → get_or later i d ≡ get_or queue i d = λ l. ap (λ qs. get_or qs i d) g.longer ∙ get_or-append_left queue g.more i d l in
    elim (cases_lt i at) [
      | inl l ↦
          subst (IsLooked o after) (sym (at_later (omega (arith, l, inside))))
          (λ x e. kept-taken o joined after x.externals g.kept (before i d l x e))
      | inr l ↦
          let same : i ≡ at = omega (arith, l, h) in
          let number : get_or later i d ≡ n = at_later (omega (arith, same, inside)) ∙ ap (λ j. get_or queue j d) same ∙ get_or_default queue at d n inside ∙ sym is in
          subst (IsLooked o after) (sym number) (λ x e. subst (AreTaken o after) (same_Some m x (sym s ∙ e)) g.taken)
    ]

pub walked : (o : Offer) (joined : List Bool) (queue : List ℕ) (at : ℕ) → IsWalk o joined queue → All (AreTaken o joined) o.given → length queue ≤ at
    → ((i d : ℕ) → i < at → IsLooked o joined (get_or queue i d)) → IsWalked o joined queue
walked o joined queue at w given end looked = record {
  walk = w;
  given = given;
  members = λ n h. let c = w.found n h in let l = c.1 in subst (IsLooked o joined) c.2 (looked c.0 n (omega (arith, l, end)));
}

-- The numbers.
all-from : (P : ℕ → Type 0) (first : ℕ) (bs : List Bool) → ((n k : ℕ) → k ≡ first + n → has_joined bs n ≡ true → P k) → All P (numbers_from first bs)
all-from P first [] h = All-nil P
all-from P first (true ∷ bs) h = All-cons P first (numbers_from (first + 1) bs) (h 0 first (omega arith) refl) (all-from P (first + 1) bs (λ n k e j. h (suc n) k (omega (arith, e)) j))
all-from P first (false ∷ bs) h = all-from P (first + 1) bs (λ n k e j. h (suc n) k (omega (arith, e)) j)

all-numbers : (P : ℕ → Type 0) (bs : List Bool) → ((n : ℕ) → has_joined bs n ≡ true → P n) → All P (numbers_from 0 bs)
all-numbers P bs h = all-from P 0 bs (λ n k e j. let same : n ≡ k = omega (arith, e) in subst P same (h n j))

has-number : (first : ℕ) (bs : List Bool) (n k : ℕ) → k ≡ first + n → has_joined bs n ≡ true → Contains (numbers_from first bs) k
has-number first [] n k e h = absurd cc
has-number first (true ∷ bs) zero k e h = (0, omega arith, omega (arith, e))
has-number first (false ∷ bs) zero k e h = absurd cc
has-number first (true ∷ bs) (suc n) k e h = let c = has-number (first + 1) bs n k (omega (arith, e)) h in let l = c.1 in (suc c.0, omega (arith, l), c.2)
has-number first (false ∷ bs) (suc n) k e h = has-number (first + 1) bs n k (omega (arith, e)) h

first-least : (first : ℕ) (bs : List Bool) → All (λ k. first ≤ k) (numbers_from first bs)
first-least first bs = all-from (λ k. first ≤ k) first bs (λ n k e h. omega (arith, e))

ascending-cons : (x : ℕ) (xs : List ℕ) → All (λ k. x + 1 ≤ k) xs → IsStrictlyIncreasing xs → IsStrictlyIncreasing (x ∷ xs)
ascending-cons x [] a up k h = absurd (omega (arith, h))
ascending-cons x (y ∷ ys) a up zero h = let l = a 0 0 (omega arith) in omega (arith, l)
ascending-cons x (y ∷ ys) a up (suc k) h =
    let same : suc (k + 1) ≡ suc k + 1 = omega arith in
    subst (λ n. get_or (x ∷ y ∷ ys) (suc k) 0 < get_or (x ∷ y ∷ ys) n 0) same (up k (omega (arith, h)))

numbers-ascend : (first : ℕ) (bs : List Bool) → IsStrictlyIncreasing (numbers_from first bs)
numbers-ascend first [] k h = absurd (omega (arith, h))
numbers-ascend first (true ∷ bs) k h = ascending-cons first (numbers_from (first + 1) bs) (first-least (first + 1) bs) (numbers-ascend (first + 1) bs) k h
numbers-ascend first (false ∷ bs) k h = numbers-ascend (first + 1) bs k h

-- Members at the end of a chain are in each set that is closed.
chain-least : (o : Offer) (others : List ℕ) → AreClosed o others → (k n : ℕ) → EndsChain o k n → Contains others n
chain-least o others closed zero n c = closed c.0 n (inl c.1) c.2
chain-least o others closed (suc k) n c = closed c.1 n (inr (c.0, chain-least o others closed k c.0 c.2, c.3)) c.4

pub all-chained : (o : Offer) (joined : List Bool) (queue : List ℕ) → IsWalked o joined queue → All (IsChained o) (numbers_from 0 joined)
all-chained o joined queue w = all-numbers (IsChained o) joined (λ n h. All-contains (IsChained o) queue n w.walk.chained (w.walk.found n h))

taken-all : (o : Offer) (joined : List Bool) (m : Linkage) (n : ℕ) → AreTaken o joined m → Needs o m n → Contains (numbers_from 0 joined) n
taken-all o joined m n t need = has-number 0 joined n n (omega arith) (All-contains (IsTaken o joined) m.externals need.0 t need.1 n need.2)

pub are-needed : (o : Offer) (joined : List Bool) (queue : List ℕ) → IsWalked o joined queue → AreNeeded o (numbers_from 0 joined)
are-needed o joined queue w = record {
  ascending = numbers-ascend 0 joined;
  closed = λ m n part need. elim part [
    | inl g ↦ taken-all o joined m n (All-contains (AreTaken o joined) o.given m w.given g) need
    | inr j ↦
        let here : has_joined joined j.0 ≡ true = All-contains (λ k. has_joined joined k ≡ true) (numbers_from 0 joined) j.0 (all-numbers (λ k. has_joined joined k ≡ true) joined (λ k h. h)) j.1 in
        taken-all o joined m n (w.members j.0 here m j.2) need
  ];
  least = λ others closed. all-numbers (Contains others) joined (λ n h.
      let c = All-contains (IsChained o) queue n w.walk.chained (w.walk.found n h) in chain-least o others closed c.0 n c.1);
}
