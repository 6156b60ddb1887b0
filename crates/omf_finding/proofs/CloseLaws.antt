-- All modules are found that are to be: the names that those ask for that are found, and what of these others define.
use Rattle.std.proofs.Common.{◌≡◌, ◌⊎◌, inl, inr, ℕ, zero, suc, ◌+◌, ◌-◌, ◌<◌, ◌≤◌, Bool, true, false, List, [], ◌∷◌, ◌++◌, drop, length, set, refl, sym, ap, ap₂, subst, ◌∙◌, arith, Ordering, Less, Equal, Greater}
use Rattle.std.specs.Prelude.{◌==◌, ◌&&◌, ◌||◌, not, Err, Ok, OnOk, Result, Option, Some, None, option_map, bytes_eq, slice_get, nat_le, if◌then◌else◌}
use Rattle.std.specs.Box.{box_value}
use Rattle.std.specs.BTreeSet.{insert_key}
use Rattle.std.specs.Cmp.{unsigned_ties}
use Rattle.std.specs.List.{list_any}
use Rattle.std.specs.Ordering.{is_eq, match_ordering, nat_cmp, ordering_then}
use Rattle.std.proofs.lemmas.Bool.{and_parts, cases_Bool, cases_lt, eq-eqb, eqb-true, false≢true, leb-true, or_cases, true≢false}
use Rattle.std.proofs.lemmas.List.{length-append}
use Rattle.std.proofs.lemmas.Option.{none-some, same_Some, slice_get_past, slice_get_within}
use Rattle.std.proofs.lemmas.Slice.Eq.{bytes_eq-Decides}
use Rattle.omf_frame.specs.Types.{is_local}
use Rattle.omf_names.specs.Names.{name_cmp}
use Rattle.omf_names.specs.NameLaws.{names_tied}
use Rattle.omf_records.specs.Values.{At, Contents, PublicItem, Publics, Rec}
use Rattle.omf_check.specs.Module.{Module, recs_of}
use Rattle.omf_check.specs.Tables.{entry, externals}
use Rattle.omf_placement.specs.declared.frame.Placed.{Placed}
use Rattle.omf_finding.specs.Chain.{AreAllFound, Draft, IsStart, IsSure, Refers, RefersTo, Stands, contents_define, defines, draft_at, draft_in, found_at, is_public, present_at, record_defines}
use Rattle.omf_finding.specs.Inner.Chaining.{HaveJoined, RefersAt, found_by, has_joined, kept}
use Rattle.omf_finding.specs.Inner.Closing.{Adds, AreAll, AreAllJoined, AreAsked, AsksAt, FirstOf, HasOneMore, HaveAsked, IsAskedOf, IsIdle, RefersBy, Spot, Spots, contents_asked, has_spot, is_asked, left_of, public_asked, publics_asked, record_asked, spot_cmp, unreferenced_by}
use Rattle.omf_finding.specs.Inner.Surely.{AreAllSure, AreSureJoined}
use Rattle.omf_finding.specs.Sure.{AreSureFound}
use Rattle.omf_finding.proofs.ListLaws.{at-end, at-left}
use Rattle.omf_finding.proofs.ChainLaws.{as-long, drop-first, found-grows, joined-more, joined-sure, kept-both, kept-found, kept-none, kept-parts}
use Rattle.omf_finding.specs.declared.chaining.Tried.{Tried}
use Rattle.omf_finding.specs.declared.findings.Found.{Found}
use Rattle.omf_finding.specs.declared.findings.Verdict.{Verdict}
use Rattle.omf_finding.specs.declared.program.Program.{Program}

-- ---- tests

pub or-left : (x y : Bool) → x ≡ true → (x || y) ≡ true
or-left true y e = refl
or-left false y e = absurd (false≢true e)

pub or-right : (x y : Bool) → y ≡ true → (x || y) ≡ true
or-right true y e = refl
or-right false y e = e

or-twice : (x y : Bool) → (x || y) ≡ (x || (x || y))
or-twice true y = refl
or-twice false y = refl

or-swap : (x y z : Bool) → (x || (y || z)) ≡ (y || (x || z))
or-swap true true z = refl
or-swap true false z = refl
or-swap false true z = refl
or-swap false false z = refl

pub and-both : (x y : Bool) → x ≡ true → y ≡ true → (x && y) ≡ true
and-both true y e f = f
and-both false y e f = absurd (false≢true e)

pub on-ok : {A E P Q : Type 0} → (P → Q) → (r : Result A E) → OnOk r P → OnOk r Q
on-ok f (Ok x) h = f h
on-ok f (Err e) h = h

-- ---- names at addresses

pub tied-then : (o p : Ordering) → is_eq (ordering_then o p) ≡ (is_eq o && is_eq p)
tied-then Less p = refl
tied-then Equal p = refl
tied-then Greater p = refl

spot-tied : (a b : ℕ) (xs ys : List ℕ) → is_eq (ordering_then (nat_cmp a b) (name_cmp xs ys)) ≡ ((a == b) && bytes_eq xs ys)
spot-tied a b xs ys = tied-then (nat_cmp a b) (name_cmp xs ys) ∙ ap₂ (λ x y. x && y) (sym (unsigned_ties a b)) (sym (names_tied xs ys))

-- What finds a key in a list finds it after one more, or finds the new one.
pub insert-any : {K : Type 0} (cmp : K → K → Ordering) (test : K → Bool) (k : K) → ((x : K) → cmp k x ≡ Equal → test k ≡ test x) → (xs : List K) → list_any test (insert_key cmp xs k) ≡ (test k || list_any test xs)
insert-any cmp test k h [] = refl
insert-any cmp test k h (x ∷ xs) = by-order (insert-any cmp test k h xs) (cmp k x) refl
  where
    rest : Bool
    rest = list_any test xs

    by-order : list_any test (insert_key cmp xs k) ≡ (test k || rest) → (o : Ordering) → cmp k x ≡ o → list_any test (match_ordering o (k ∷ x ∷ xs) (x ∷ xs) (x ∷ insert_key cmp xs k)) ≡ (test k || (test x || rest))
    by-order before Less e = refl
    by-order before Equal e = or-twice (test x) rest ∙ ap (λ b. b || (test x || rest)) (sym (h x e))
    by-order before Greater e = ap (λ b. test x || b) before ∙ or-swap (test x) (test k) rest

pub one-more : (k : Spot) (old new : Spots) → new.keys ≡ insert_key spot_cmp old.keys k → HasOneMore old new k.1.now k.0
one-more k old new e cs b =
    ap (list_any test) e ∙ insert-any spot_cmp test k same old.keys ∙ ap (λ t. t || has_spot old cs b) (spot-tied b k.0 cs k.1.now)
  where
    test : Spot → Bool
    test q = is_eq (ordering_then (nat_cmp b q.0) (name_cmp cs q.1.now))

    same : (x : Spot) → spot_cmp k x ≡ Equal → test k ≡ test x
    same x equal =
        let both = and_parts (k.0 == x.0) (bytes_eq k.1.now x.1.now) (sym (spot-tied k.0 x.0 k.1.now x.1.now) ∙ ap is_eq equal) in
        ap₂ (λ (a : ℕ) (ns : List ℕ). is_eq (ordering_then (nat_cmp b a) (name_cmp cs ns))) (eqb-true k.0 x.0 both.0) ((bytes_eq-Decides k.1.now x.1.now).0 both.1)

-- ---- additions

pub adds-none : (old : Spots) (R : List ℕ → ℕ → Type 0) → ((cs : List ℕ) (b : ℕ) → R cs b → ⊥) → Adds old old R
adds-none old R h = record { keeps = λ cs b k. k; has = λ cs b r. absurd (h cs b r); only = λ cs b k. inl k }

pub adds-one : (old new : Spots) (name : List ℕ) (address : ℕ) (R : List ℕ → ℕ → Type 0) → HasOneMore old new name address → R name address → ((cs : List ℕ) (b : ℕ) → R cs b → (cs ≡ name) × (b ≡ address)) → Adds old new R
adds-one old new name address R more this only = record { keeps = keeps; has = has; only = each }
  where
    keeps : (cs : List ℕ) (b : ℕ) → has_spot old cs b ≡ true → has_spot new cs b ≡ true
    keeps cs b k = more cs b ∙ or-right ((b == address) && bytes_eq cs name) (has_spot old cs b) k

    has : (cs : List ℕ) (b : ℕ) → R cs b → has_spot new cs b ≡ true
    has cs b r =
        let same = only cs b r in
        more cs b
        ∙ or-left ((b == address) && bytes_eq cs name) (has_spot old cs b) (and-both (b == address) (bytes_eq cs name) (eq-eqb b address same.1) ((bytes_eq-Decides cs name).1 same.0))

    each : (cs : List ℕ) (b : ℕ) → has_spot new cs b ≡ true → (has_spot old cs b ≡ true) ⊎ R cs b
    each cs b k = elim (or_cases ((b == address) && bytes_eq cs name) (has_spot old cs b) (sym (more cs b) ∙ k)) [
      | inl here ↦
          let both = and_parts (b == address) (bytes_eq cs name) here in
          inr (subst (λ (a : ℕ). R cs a) (sym (eqb-true b address both.0)) (subst (λ (ns : List ℕ). R ns address) (sym ((bytes_eq-Decides cs name).0 both.1)) this))
      | inr there ↦ inl there
    ]

pub adds-as : (old new : Spots) (R S : List ℕ → ℕ → Type 0) → ((cs : List ℕ) (b : ℕ) → R cs b → S cs b) → ((cs : List ℕ) (b : ℕ) → S cs b → R cs b) → Adds old new R → Adds old new S
adds-as old new R S to from h = record { keeps = h.keeps; has = λ cs b s. h.has cs b (from cs b s); only = only }
  where
    only : (cs : List ℕ) (b : ℕ) → has_spot new cs b ≡ true → (has_spot old cs b ≡ true) ⊎ S cs b
    only cs b k = elim (h.only cs b k) [
      | inl before ↦ inl before
      | inr r ↦ inr (to cs b r)
    ]

pub adds-first : (old : Spots) (R : ℕ → List ℕ → ℕ → Type 0) → Adds old old (FirstOf 0 R)
adds-first old R = adds-none old (FirstOf 0 R) (λ cs b r. absurd (omega (arith, r.1)))

pub adds-next : (old mid new : Spots) (n : ℕ) (R : ℕ → List ℕ → ℕ → Type 0) → Adds mid new (R n) → Adds old mid (FirstOf n R) → Adds old new (FirstOf (n + 1) R)
adds-next old mid new n R more h = record { keeps = λ cs b k. more.keeps cs b (h.keeps cs b k); has = has; only = only }
  where
    has : (cs : List ℕ) (b : ℕ) → FirstOf (n + 1) R cs b → has_spot new cs b ≡ true
    has cs b r = elim (cases_lt r.0 n) [
      | inl low ↦ more.keeps cs b (h.has cs b (r.0, low, r.2))
      | inr high ↦ let low = r.1 in let same : r.0 ≡ n = omega (arith, low, high) in more.has cs b (subst (λ (k : ℕ). R k cs b) same r.2)
    ]

    later : (cs : List ℕ) (b : ℕ) → FirstOf n R cs b → FirstOf (n + 1) R cs b
    later cs b r = let low = r.1 in (r.0, omega (arith, low), r.2)

    before : (cs : List ℕ) (b : ℕ) → (has_spot old cs b ≡ true) ⊎ FirstOf n R cs b → (has_spot old cs b ≡ true) ⊎ FirstOf (n + 1) R cs b
    before cs b (inl k) = inl k
    before cs b (inr r) = inr (later cs b r)

    only : (cs : List ℕ) (b : ℕ) → has_spot new cs b ≡ true → (has_spot old cs b ≡ true) ⊎ FirstOf (n + 1) R cs b
    only cs b k = elim (more.only cs b k) [
      | inl there ↦ before cs b (h.only cs b there)
      | inr r ↦ inr (n, omega arith, r)
    ]

-- ---- what a module asks for

entry-low : {A : Type 0} (xs : List A) (i : ℕ) (x : A) → entry xs i ≡ Some x → (k : ℕ) × (k < length xs) × (i ≡ k + 1)
entry-low xs i x e = by-test (nat_le 1 i) refl e
  where
    by-test : (b : Bool) → nat_le 1 i ≡ b → (if b then slice_get xs (i - 1) else None) ≡ Some x → (k : ℕ) × (k < length xs) × (i ≡ k + 1)
    by-test true h g = elim (cases_lt (i - 1) (length xs)) [
      | inl low ↦ (i - 1, low, omega (arith, leb-true 1 i h))
      | inr high ↦ absurd (none-some x (sym (slice_get_past xs (i - 1) high) ∙ g))
    ]
    by-test false h g = absurd (none-some x g)

pub refers-by : (m : List Rec) (f : Found) (n : ℕ) → length (externals m) ≤ n → (cs : List ℕ) (b : ℕ) → RefersTo m f cs b → FirstOf n (λ k. RefersBy m f (k + 1)) cs b
refers-by m f n long cs b r =
    let at = entry-low (externals m) r.external cs r.name_is in
    let low = at.1 in
    (at.0, omega (arith, low, long), subst (λ (e : ℕ). RefersBy m f e cs b) at.2 (record { named = record { name_is = r.name_is; shared = r.shared; known = r.known }; place = r.place; place_is = r.place_is; address_is = r.address_is }))

pub refers-to : (m : List Rec) (f : Found) (n : ℕ) (cs : List ℕ) (b : ℕ) → FirstOf n (λ k. RefersBy m f (k + 1)) cs b → RefersTo m f cs b
refers-to m f n cs b r =
    let one = r.2 in
    record { external = r.0 + 1; name_is = one.named.name_is; shared = one.named.shared; known = one.named.known; place = one.place; place_is = one.place_is; address_is = one.address_is }

-- An external refers to one name, at one address.
pub by-one : (m : List Rec) (f : Found) (external : ℕ) (name : List ℕ) (place : Placed) (address : ℕ) → entry (externals m) external ≡ Some name → entry f.placement.externals external ≡ Some place → place.address ≡ address
    → (cs : List ℕ) (b : ℕ) → RefersBy m f external cs b → (cs ≡ name) × (b ≡ address)
by-one m f external name place address is at same cs b r =
    (same_Some cs name (sym r.named.name_is ∙ is), sym r.address_is ∙ ap (λ (p : Placed). p.address) (same_Some r.place place (sym r.place_is ∙ at)) ∙ same)

pub asks-one : (ms : List Module) (drafts : List Draft) (marks : List Bool) (i : ℕ) (m : Module) (f : Found) → slice_get ms i ≡ Some m → draft_at drafts i ≡ Some f → has_joined marks i ≡ true → (old new : Spots)
    → Adds old new (RefersTo (recs_of m.bytes) f) → Adds old new (AsksAt ms drafts marks i)
asks-one ms drafts marks i m f is draft marked old new h = adds-as old new (RefersTo (recs_of m.bytes) f) (AsksAt ms drafts marks i) to from h
  where
    to : (cs : List ℕ) (b : ℕ) → RefersTo (recs_of m.bytes) f cs b → AsksAt ms drafts marks i cs b
    to cs b r = record { m = m; f = f; module_is = is; found_is = kept-both (draft_at drafts i) (has_joined marks i) f marked draft; refers = r }

    from : (cs : List ℕ) (b : ℕ) → AsksAt ms drafts marks i cs b → RefersTo (recs_of m.bytes) f cs b
    from cs b a =
        subst (λ (n : Module). RefersTo (recs_of n.bytes) f cs b) (same_Some a.m m (sym a.module_is ∙ is))
        (subst (λ (g : Found). RefersTo (recs_of a.m.bytes) g cs b) (same_Some a.f f (sym (kept-parts (draft_at drafts i) (has_joined marks i) a.f a.found_is).1 ∙ draft)) a.refers)

pub asks-none : (ms : List Module) (drafts : List Draft) (marks : List Bool) (i : ℕ) → has_joined marks i ≡ false → (old : Spots) → Adds old old (AsksAt ms drafts marks i)
asks-none ms drafts marks i out old = adds-none old (AsksAt ms drafts marks i) (λ cs b a. false≢true (sym out ∙ (kept-parts (draft_at drafts i) (has_joined marks i) a.f a.found_is).0))

pub asks-no-draft : (ms : List Module) (drafts : List Draft) (marks : List Bool) (i : ℕ) → ((m : Module) (f : Found) → slice_get ms i ≡ Some m → draft_at drafts i ≡ Some f → ⊥) → (old : Spots) → Adds old old (AsksAt ms drafts marks i)
asks-no-draft ms drafts marks i none old =
    adds-none old (AsksAt ms drafts marks i) (λ cs b a. none a.m a.f a.module_is (kept-parts (draft_at drafts i) (has_joined marks i) a.f a.found_is).1)

pub asks-all : (ms : List Module) (drafts : List Draft) (marks : List Bool) (n : ℕ) → length ms ≤ n → (old new : Spots) → old.keys ≡ [] → Adds old new (FirstOf n (AsksAt ms drafts marks)) → AreAsked ms drafts marks new
asks-all ms drafts marks n long old new empty h = record { has = has; only = only }
  where
    has : (i : ℕ) (name : List ℕ) (address : ℕ) → AsksAt ms drafts marks i name address → has_spot new name address ≡ true
    has i name address a = elim (cases_lt i n) [
      | inl low ↦ h.has name address (i, low, a)
      | inr high ↦ absurd (none-some a.m (sym (slice_get_past ms i (omega (arith, long, high))) ∙ a.module_is))
    ]

    only : (name : List ℕ) (address : ℕ) → has_spot new name address ≡ true → (i : ℕ) × AsksAt ms drafts marks i name address
    only name address k = elim (h.only name address k) [
      | inl before ↦ absurd (false≢true (sym (ap (list_any (λ (q : Spot). is_eq (ordering_then (nat_cmp address q.0) (name_cmp name q.1.now)))) empty) ∙ before))
      | inr r ↦ (r.0, r.2)
    ]

-- ---- what a module defines

-- A module defines a name at a place of its own, and it is asked for.
pub record IsDefined (s : Spots) (f : Found) (m : List Rec) : Type 0 where
  pub name : List ℕ
  pub segment : ℕ
  pub offset : ℕ
  pub place : Placed
  pub defined : defines name segment offset m ≡ true
  pub present : present_at f segment ≡ Some place
  pub asked : has_spot s name (place.address + offset) ≡ true

module _ (s : Spots) (f : Found) where
  -- One of these publics is asked for, at this address of their segment.
  record IsAmong (ps : List (At PublicItem)) (address : ℕ) : Type 0 where
    name : List ℕ
    offset : ℕ
    defined : list_any (is_public name offset) ps ≡ true
    asked : has_spot s name (address + offset) ≡ true

  among-some : (ps : List (At PublicItem)) (address : ℕ) → list_any (public_asked s address) ps ≡ true → IsAmong ps address
  among-some [] address h = absurd (false≢true h)
  among-some (p ∷ ps) address h = elim (or_cases (public_asked s address p) (list_any (public_asked s address) ps) h) [
    | inl here ↦
        record {
          name = p.item.name;
          offset = p.item.offset;
          defined = or-left (is_public p.item.name p.item.offset p) (list_any (is_public p.item.name p.item.offset) ps)
              (and-both (bytes_eq p.item.name p.item.name) (p.item.offset == p.item.offset) ((bytes_eq-Decides p.item.name p.item.name).1 refl) (eq-eqb p.item.offset p.item.offset refl));
          asked = here;
        }
    | inr there ↦
        let one = among-some ps address there in
        record { name = one.name; offset = one.offset; defined = or-right (is_public one.name one.offset p) (list_any (is_public one.name one.offset) ps) one.defined; asked = one.asked }
  ]

  among-has : (ps : List (At PublicItem)) (address : ℕ) (name : List ℕ) (offset : ℕ) → list_any (is_public name offset) ps ≡ true → has_spot s name (address + offset) ≡ true → list_any (public_asked s address) ps ≡ true
  among-has [] address name offset h k = absurd (false≢true h)
  among-has (p ∷ ps) address name offset h k = elim (or_cases (is_public name offset p) (list_any (is_public name offset) ps) h) [
    | inl here ↦
        let both = and_parts (bytes_eq p.item.name name) (p.item.offset == offset) here in
        or-left (public_asked s address p) (list_any (public_asked s address) ps)
        (ap₂ (λ (ns : List ℕ) (x : ℕ). has_spot s ns (address + x)) ((bytes_eq-Decides p.item.name name).0 both.0) (eqb-true p.item.offset offset both.1) ∙ k)
    | inr there ↦ or-right (public_asked s address p) (list_any (public_asked s address) ps) (among-has ps address name offset there k)
  ]

  -- The same of a record's contents.
  record IsIn (define : List ℕ → ℕ → ℕ → Bool) : Type 0 where
    name : List ℕ
    segment : ℕ
    offset : ℕ
    place : Placed
    defined : define name segment offset ≡ true
    present : present_at f segment ≡ Some place
    asked : has_spot s name (place.address + offset) ≡ true

  define-here : (segment : ℕ) (b : Bool) → (if segment == segment then b else false) ≡ b
  define-here segment b = ap (λ (t : Bool). if t then b else false) (eq-eqb segment segment refl)

  contents-some : (c : Contents) → contents_asked s f c ≡ true → IsIn (λ name segment offset. contents_define name segment offset c)
  contents-some (Publics p) h = by-place (present_at f p.segment.item) refl h
    where
      by-place : (o : Option Placed) → present_at f p.segment.item ≡ o → publics_asked s o p.items ≡ true → IsIn (λ name segment offset. contents_define name segment offset (Publics p))
      by-place None e g = absurd (false≢true g)
      by-place (Some place) e g =
          let one = among-some p.items place.address g in
          record { name = one.name; segment = p.segment.item; offset = one.offset; place = place; defined = define-here p.segment.item (list_any (is_public one.name one.offset) p.items) ∙ one.defined; present = e; asked = one.asked }
  contents-some _ h = absurd (false≢true h)

  contents-has : (c : Contents) (name : List ℕ) (segment offset : ℕ) (place : Placed) → contents_define name segment offset c ≡ true → present_at f segment ≡ Some place → has_spot s name (place.address + offset) ≡ true → contents_asked s f c ≡ true
  contents-has (Publics p) name segment offset place h e k = by-segment (p.segment.item == segment) refl h
    where
      by-segment : (t : Bool) → (p.segment.item == segment) ≡ t → (if t then list_any (is_public name offset) p.items else false) ≡ true → publics_asked s (present_at f p.segment.item) p.items ≡ true
      by-segment true same g =
          ap (λ (o : Option Placed). publics_asked s o p.items) (ap (present_at f) (eqb-true p.segment.item segment same) ∙ e) ∙ among-has p.items place.address name offset g k
      by-segment false same g = absurd (false≢true g)
  contents-has _ name segment offset place h e k = absurd (false≢true h)

  record-some : (r : Rec) → record_asked s f r ≡ true → IsIn (λ name segment offset. record_defines name segment offset r)
  record-some r h = by-local (is_local r.kind) h
    where
      by-local : (t : Bool) → (if t then false else contents_asked s f r.contents) ≡ true → IsIn (λ name segment offset. if t then false else contents_define name segment offset r.contents)
      by-local true g = absurd (false≢true g)
      by-local false g = contents-some r.contents g

  record-has : (r : Rec) (name : List ℕ) (segment offset : ℕ) (place : Placed) → record_defines name segment offset r ≡ true → present_at f segment ≡ Some place → has_spot s name (place.address + offset) ≡ true → record_asked s f r ≡ true
  record-has r name segment offset place h e k = by-local (is_local r.kind) h
    where
      by-local : (t : Bool) → (if t then false else contents_define name segment offset r.contents) ≡ true → (if t then false else contents_asked s f r.contents) ≡ true
      by-local true g = absurd (false≢true g)
      by-local false g = contents-has r.contents name segment offset place g e k

  pub asked-some : (m : List Rec) → is_asked s f m ≡ true → IsDefined s f m
  asked-some [] h = absurd (false≢true h)
  asked-some (r ∷ rs) h = elim (or_cases (record_asked s f r) (is_asked s f rs) h) [
    | inl here ↦
        let one = record-some r here in
        record { name = one.name; segment = one.segment; offset = one.offset; place = one.place; defined = or-left (record_defines one.name one.segment one.offset r) (defines one.name one.segment one.offset rs) one.defined; present = one.present; asked = one.asked }
    | inr there ↦
        let one = asked-some rs there in
        record { name = one.name; segment = one.segment; offset = one.offset; place = one.place; defined = or-right (record_defines one.name one.segment one.offset r) (defines one.name one.segment one.offset rs) one.defined; present = one.present; asked = one.asked }
  ]

  pub asked-has : (m : List Rec) (name : List ℕ) (segment offset : ℕ) (place : Placed) → defines name segment offset m ≡ true → present_at f segment ≡ Some place → has_spot s name (place.address + offset) ≡ true → is_asked s f m ≡ true
  asked-has [] name segment offset place h e k = absurd (false≢true h)
  asked-has (r ∷ rs) name segment offset place h e k = elim (or_cases (record_defines name segment offset r) (defines name segment offset rs) h) [
    | inl here ↦ or-left (record_asked s f r) (is_asked s f rs) (record-has r name segment offset place here e k)
    | inr there ↦ or-right (record_asked s f r) (is_asked s f rs) (asked-has rs name segment offset place there e k)
  ]

-- ---- one more

one-higher : (a b : ℕ) → a + 1 ≡ b → suc a + 1 ≡ suc b
one-higher a b e = omega (arith, e)

left-set : (marks : List Bool) (n : ℕ) → n < length marks → has_joined marks n ≡ false → left_of (set marks n true) + 1 ≡ left_of marks
left-set [] n low out = absurd (omega (arith, low))
left-set (true ∷ bs) zero low out = absurd (true≢false out)
left-set (false ∷ bs) zero low out = omega arith
left-set (true ∷ bs) (suc n) low out = left-set bs n (omega (arith, low)) out
left-set (false ∷ bs) (suc n) low out = one-higher (left_of (set bs n true)) (left_of bs) (left-set bs n (omega (arith, low)) out)

pub fewer : (marks after : List Bool) (n : ℕ) → after ≡ set marks n true → n < length marks → has_joined marks n ≡ false → left_of after < left_of marks
fewer marks after n e low out = let less = ap left_of e in let one = left-set marks n low out in omega (arith, less, one)

pub fewer-then : (start now new : List Bool) (some : Bool) → (some ≡ false → now ≡ start) → (some ≡ true → left_of now < left_of start) → left_of new < left_of now → left_of new < left_of start
fewer-then start now new true same less more = let before = less refl in omega (arith, before, more)
fewer-then start now new false same less more = subst (λ (ms : List Bool). left_of new < left_of ms) (same refl) more

module _ (t : Tried) where
  pub idle-next : (start now : List Bool) (s : Spots) (n : ℕ) → now ≡ start → ((j : ℕ) → j < n → IsIdle t start s j) → IsIdle t now s n → (j : ℕ) → j < n + 1 → IsIdle t start s j
  idle-next start now s n same before one j low = elim (cases_lt j n) [
    | inl l ↦ before j l
    | inr l ↦ let here : n ≡ j = omega (arith, l, low) in subst (λ (k : ℕ). IsIdle t start s k) here (subst (λ (ms : List Bool). IsIdle t ms s n) same one)
  ]

  pub asks-grow : (marks after : List Bool) (n : ℕ) (s : Spots) → after ≡ set marks n true → IsAskedOf t marks s → IsAskedOf t after s
  asks-grow marks after n s e h name address k =
      let a = h name address k in
      let one = a.1 in (
        a.0,
        record {
          m = one.m;
          f = one.f;
          module_is = one.module_is;
          found_is = ap (λ bs. found_by t.drafts.now bs a.0) e ∙ found-grows t.program.now t.least t.modules.now t.drafts.now marks n a.0 one.f one.found_is;
          refers = one.refers;
        },
      )

  pub joined-due : (marks after : List Bool) (n : ℕ) (m : Module) (f : Found) (s : Spots) → after ≡ set marks n true → n < length marks → slice_get t.modules.now n ≡ Some m → draft_at t.drafts.now n ≡ Some f
      → IsSure t.program.now t.least m f ⊎ (is_asked s f (recs_of m.bytes) ≡ true) → IsAskedOf t marks s → HaveJoined t marks → HaveJoined t after
  joined-due marks after n m f s e low is draft (inl sure) asked h =
      (joined-sure t.program.now t.least t.modules.now t.drafts.now marks after n m f e low is draft sure h.0, as-long marks after n e ∙ h.1)
  joined-due marks after n m f s e low is draft (inr hit) asked h =
      (joined-more t.program.now t.least t.modules.now t.drafts.now marks after by.0 n e low both.0 reference h.0, as-long marks after n e ∙ h.1)
    where
      one : IsDefined s f (recs_of m.bytes)
      one = asked-some s f (recs_of m.bytes) hit

      by : (i : ℕ) × AsksAt t.modules.now t.drafts.now marks i one.name (one.place.address + one.offset)
      by = asked one.name (one.place.address + one.offset) one.asked

      both : (has_joined marks by.0 ≡ true) × (draft_at t.drafts.now by.0 ≡ Some by.1.f)
      both = kept-parts (draft_at t.drafts.now by.0) (has_joined marks by.0) by.1.f by.1.found_is

      reference : RefersAt t.modules.now t.drafts.now by.0 n
      reference = record {
        m = by.1.m;
        f = by.1.f;
        module_is = by.1.module_is;
        found_is = both.1;
        other = m;
        g = f;
        other_is = is;
        there_is = draft;
        refers = record { name = one.name; segment = one.segment; offset = one.offset; place = one.place; refers = by.1.refers; defined = one.defined; present = one.present };
      }

  -- ---- the end

  pub idle-joined : (marks : List Bool) (s : Spots) (j : ℕ) → has_joined marks j ≡ true → IsIdle t marks s j
  idle-joined marks s j marked m g is draft out = absurd (false≢true (sym out ∙ marked))

  pub closed-all : (marks after : List Bool) (s : Spots) → after ≡ marks → HaveAsked t marks s → ((j : ℕ) → j < length t.modules.now → IsIdle t marks s j) → AreAll t after
  closed-all marks after s same asked idle = subst (AreAll t) (sym same) (record { started = started; followed = followed })
    where
      ms : List Module
      ms = t.modules.now

      low-of : (j : ℕ) (m : Module) → slice_get ms j ≡ Some m → j < length ms
      low-of j m is = elim (cases_lt j (length ms)) [
        | inl low ↦ low
        | inr high ↦ absurd (none-some m (sym (slice_get_past ms j high) ∙ is))
      ]

      started : (j : ℕ) (m : Module) (g : Found) → slice_get ms j ≡ Some m → draft_at t.drafts.now j ≡ Some g → IsStart t.program.now m g → has_joined marks j ≡ true
      started j m g is draft start = elim (cases_Bool (has_joined marks j)) [
        | inl here ↦ here
        | inr out ↦ absurd ((idle j (low-of j m is) m g is draft out).0 start)
      ]

      followed : (i j : ℕ) → has_joined marks i ≡ true → RefersAt ms t.drafts.now i j → has_joined marks j ≡ true
      followed i j marked r = elim (cases_Bool (has_joined marks j)) [
        | inl here ↦ here
        | inr out ↦
            let to = r.refers in
            let there = asked.has i to.name (to.place.address + to.offset) (record { m = r.m; f = r.f; module_is = r.module_is; found_is = kept-both (draft_at t.drafts.now i) (has_joined marks i) r.f marked r.found_is; refers = to.refers }) in
            let hit = asked-has s r.g (recs_of r.other.bytes) to.name to.segment to.offset to.place to.defined to.present there in
            absurd (false≢true (sym (idle j (low-of j r.other r.other_is) r.other r.g r.other_is r.there_is out).1 ∙ hit))
      ]

  pub closed-sure : (marks after : List Bool) (s : Spots) → after ≡ marks → ((j : ℕ) → j < length t.modules.now → IsIdle t marks s j) → AreAllSure t after
  closed-sure marks after s same idle = subst (AreAllSure t) (sym same) sure
    where
      sure : AreAllSure t marks
      sure inside two j m f is draft h = elim (cases_Bool (has_joined marks j)) [
        | inl here ↦ here
        | inr out ↦ absurd ((idle j (slice_get_within t.modules.now j m is) m f is draft out).2 inside two h)
      ]

-- ---- verdicts

-- The first n placements of those that are not found are those of the drafts that have not joined.
pub record AreLeft (drafts : List Draft) (marks : List Bool) (us : List Draft) (n : ℕ) : Type 0 where
  pub count : length us ≡ n
  pub each : (i : ℕ) → i < n → draft_at us i ≡ unreferenced_by drafts marks i

pub left-first : (drafts : List Draft) (marks : List Bool) (us : List Draft) → us ≡ [] → AreLeft drafts marks us 0
left-first drafts marks us e = record { count = ap length e; each = λ i low. absurd (omega (arith, low)) }

pub left-next : (drafts left : List Draft) (marks : List Bool) (us ws : List Draft) (n : ℕ) (u d : Draft) → drop n drafts ≡ d ∷ left → u ≡ kept d (not (has_joined marks n)) → ws ≡ us ++ u ∷ []
    → AreLeft drafts marks us n → AreLeft drafts marks ws (n + 1)
left-next drafts left marks us ws n u d e f g h = subst (λ vs. AreLeft drafts marks vs (n + 1)) (sym g) (record { count = longer; each = each })
  where
    longer : length (us ++ u ∷ []) ≡ n + 1
    longer = let l : length (us ++ u ∷ []) ≡ length us + 1 = length-append us (u ∷ []) in let c = h.count in omega (arith, l, c)

    here : draft_at (us ++ u ∷ []) n ≡ unreferenced_by drafts marks n
    here =
        let at : slice_get (us ++ u ∷ []) n ≡ Some u = subst (λ k. slice_get (us ++ u ∷ []) k ≡ Some u) h.count (at-end us u) in
        ap draft_in at ∙ ap (option_map box_value) f ∙ kept-found d (not (has_joined marks n)) ∙ ap (λ o. kept o (not (has_joined marks n))) (sym (ap draft_in (drop-first drafts left n d e)))

    each : (i : ℕ) → i < n + 1 → draft_at (us ++ u ∷ []) i ≡ unreferenced_by drafts marks i
    each i low = elim (cases_lt i n) [
      | inl l ↦ let c = h.count in ap draft_in (at-left us (u ∷ []) i (omega (arith, l, c))) ∙ h.each i l
      | inr l ↦ let same : n ≡ i = omega (arith, l, low) in subst (λ k. draft_at (us ++ u ∷ []) k ≡ unreferenced_by drafts marks k) same here
    ]

pub left-all : (drafts : List Draft) (marks : List Bool) (us : List Draft) (n : ℕ) → length drafts ≤ n → AreLeft drafts marks us n → (i : ℕ) → draft_at us i ≡ unreferenced_by drafts marks i
left-all drafts marks us n long h i = elim (cases_lt i n) [
  | inl l ↦ h.each i l
  | inr l ↦
      let c = h.count in
      let none : slice_get us i ≡ None = slice_get_past us i (omega (arith, l, c)) in
      let out : slice_get drafts i ≡ None = slice_get_past drafts i (omega (arith, l, long)) in
      ap draft_in none ∙ sym (ap (λ o. kept (draft_in o) (not (has_joined marks i))) out ∙ kept-none (not (has_joined marks i)))
]

not-both : (b : Bool) → b ≡ true → not b ≡ true → ⊥
not-both true e f = false≢true f
not-both false e f = false≢true e

not-kept : (d : Option Found) (b : Bool) → b ≡ true → kept d (not b) ≡ None
not-kept d true e = refl
not-kept d false e = absurd (false≢true e)

pub all-found : (program : Program) (ms : List Module) (drafts : List Draft) (marks : List Bool) (vs : List Verdict) (us : List Draft) → ((i : ℕ) → found_at vs i ≡ found_by drafts marks i)
    → ((i : ℕ) → draft_at us i ≡ unreferenced_by drafts marks i) → AreAllJoined program ms drafts marks → AreAllFound program ms vs us
all-found program ms drafts marks vs us same others h = record { apart = apart; started = started; followed = followed }
  where
    parts : (i : ℕ) (f : Found) → found_at vs i ≡ Some f → (has_joined marks i ≡ true) × (draft_at drafts i ≡ Some f)
    parts i f e = kept-parts (draft_at drafts i) (has_joined marks i) f (sym (same i) ∙ e)

    apart : (i : ℕ) (f : Found) → found_at vs i ≡ Some f → draft_at us i ≡ None
    apart i f e = others i ∙ not-kept (draft_at drafts i) (has_joined marks i) (parts i f e).0

    left : (i : ℕ) (f : Found) → draft_at us i ≡ Some f → (not (has_joined marks i) ≡ true) × (draft_at drafts i ≡ Some f)
    left i f e = kept-parts (draft_at drafts i) (not (has_joined marks i)) f (sym (others i) ∙ e)

    started : (i : ℕ) (m : Module) (f : Found) → Stands ms (draft_at us) i m f → IsStart program m f → ⊥
    started i m f s start = let out = left i f s.found_is in not-both (has_joined marks i) (h.started i m f s.module_is out.1 start) out.0

    followed : (i j : ℕ) (m : Module) (f : Found) (other : Module) (g : Found) → Stands ms (found_at vs) i m f → Stands ms (draft_at us) j other g → Refers (recs_of m.bytes) f (recs_of other.bytes) g → ⊥
    followed i j m f other g s to r =
        let both = parts i f s.found_is in
        let out = left j g to.found_is in
        not-both (has_joined marks j) (h.followed i j both.0 (record { m = m; f = f; module_is = s.module_is; found_is = both.1; other = other; g = g; other_is = to.module_is; there_is = out.1; refers = r })) out.0

pub sure-found : (program : Program) (n most : ℕ) (ms : List Module) (drafts : List Draft) (marks : List Bool) (us : List Draft) → ((i : ℕ) → draft_at us i ≡ unreferenced_by drafts marks i) → AreSureJoined program n most ms drafts marks → AreSureFound program n most ms us
sure-found program n most ms drafts marks us other h inside two i m f stands sure =
    let parts = kept-parts (draft_at drafts i) (not (has_joined marks i)) f (sym (other i) ∙ stands.found_is) in
    let joined = h inside two i m f stands.module_is parts.1 sure in
    absurd (false≢true (ap not (sym joined) ∙ parts.0))
