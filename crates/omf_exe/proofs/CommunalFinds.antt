-- The externals of a communal find the one public of the module of communals; the modules of DOS order and of the stack do not define its name.
use Rattle.std.proofs.Common.{◌≡◌, ℕ, ◌+◌, List, [], ◌∷◌, ◌++◌, length, Bool, true, false, map, refl, sym, ap, ap₂, ◌∙◌, subst, inl, inr, append-nil, length-append, arith}
use Rattle.std.specs.Prelude.{⊤, ◌||◌, ◌&&◌, not, cond, zip, filter_map, flat_map, if◌then◌else◌, IsSome, Option, None, Some, option_to_list, bytes_eq}
use Rattle.std.specs.List.{filter, list_any, cons_option}
use Rattle.std.proofs.lemmas.Bool.{cond-true, cond-false, cases_Bool, false_from_ne_true, true≢false, or_parts}
use Rattle.std.proofs.lemmas.Grind.{flat_map-append}
use Rattle.std.proofs.lemmas.List.Elements.{filter_map-append}
use Rattle.std.proofs.lemmas.List.Folds.{list_any-append}
use Rattle.std.proofs.lemmas.Option.{none-some, same_Some}
use Rattle.omf_frame.specs.Types.{is_local}
use Rattle.omf_records.specs.Values.{At, Rec, Contents, Header, Comment, Names, Segment, Group, Externs, Publics, Communals, Plain, Iterated, Fixups, ModEnd, Carried, PublicItem, CommunalItem, nowhere}
use Rattle.omf_placement.specs.Placement.{Places}
use Rattle.omf_placement.specs.declared.frame.Placed.{Placed}
use Rattle.omf_placement.specs.Derive.{PlacedModule, all_publics, base_of, placed_publics, public_at, publics, publics_at, record_publics}
use Rattle.omf_placement.specs.Inner.Derived.{given_or, of_name, one_public}
use Rattle.omf_layout.specs.declared.own.homes.Home.{Home}
use Rattle.omf_layout.specs.Own.Claims.{Claim, all_claims, claims_in, communal_claim, module_claims, public_claim, record_claims}
use Rattle.omf_layout.specs.Own.Communals.{are_grouped, communals, communals_records, far_publics, far_segment, fars, first_far, front_records, group_index, has_near, is_communal, is_in_group, module_of, name_of, near_group, near_publics, near_room, near_segment, nears, room, runs_in, shared_by}
use Rattle.omf_layout.specs.Own.Order.{bss_names, bss_slots, data_names, data_slots, dos_slots, end_publics, has_claim, is_missing, missing, order_group, order_records, raise_records, slot_records, slots, slots_records}
use Rattle.omf_layout.specs.Own.Shared.{Shared}
use Rattle.omf_layout.specs.Own.Written.{end_record, group_record, public_record, raise_record, raisings, segment_record}
use Rattle.omf_layout.specs.Several.Gathered.{distinct, names_in, value_of, of_name as claims_of}
use Rattle.omf_layout.specs.Several.Portions.{Named}
use Rattle.omf_layout.specs.declared.several.portion.Portion.{Portion}
use Rattle.omf_layout.proofs.SeveralLaws.GatherLaws.{Name, Once, has, has-distinct, itself, once-distinct, other, same}
use Rattle.omf_combining.specs.Classes.{class_order_records, leader_records, leaders, leaders_records, raise_records as leader_raises}
use Rattle.omf_combining.specs.Stack.{more_records}
use Rattle.omf_drafting.specs.Laws.{HasBases}
use Rattle.omf_exe.specs.Laws.{AddedDefineNewNames, CommunalsAreFound, HaveNone, IsCommunalOf}

-- ---- Modules without a public of a name

un-not : (b : Bool) → not b ≡ true → b ≡ false
un-not true h = absurd (true≢false (sym h))
un-not false h = refl

none-any : {A : Type 0} (f : A → Bool) (xs ys : List A) → not (list_any f (xs ++ ys)) ≡ true → (not (list_any f xs) ≡ true) × (not (list_any f ys) ≡ true)
none-any f [] ys h = (refl, h)
none-any f (x ∷ xs) ys h =
    let p = or_parts (f x) (list_any f (xs ++ ys)) (un-not (f x || list_any f (xs ++ ys)) h) in
    let q = none-any f xs ys (ap not p.1) in
    (ap not (ap₂ (λ a b. a || b) p.0 (un-not (list_any f xs) q.0)), q.1)

communal-parts : (xs ys : List Claim) → is_communal (xs ++ ys) ≡ true → (is_communal xs ≡ true) × (is_communal ys ≡ true)
communal-parts xs ys h = none-any _ xs ys h

module _ (name : List ℕ) where
  abbrev Lacks : List (Named Claim) → Type 0
  Lacks cs = is_communal (claims_of cs name) ≡ true

  lack-parts : (xs ys : List (Named Claim)) → Lacks (xs ++ ys) → Lacks xs × Lacks ys
  lack-parts xs ys h = communal-parts (claims_of xs name) (claims_of ys name) (sym (ap is_communal (filter_map-append (value_of name) xs ys)) ∙ h)

  none-items : (base : Placed) (items : List (At PublicItem)) → Lacks (map public_claim items) → filter_map (of_name name) (publics_at base items) ≡ []
  none-items base [] h = refl
  none-items base (q ∷ items) h =
      let claims = claims_of (map public_claim items) name in
      let claim = (public_claim q).1 in
      let place = (public_at q.item.name (base.address + q.item.offset) base.frame).place in
      let test = bytes_eq name q.item.name in
      elim (cases_Bool test) [
        | inl t ↦ absurd (true≢false (sym h ∙ ap (λ o. is_communal (cons_option o claims)) (cond-true test (Some claim) None t)))
        | inr f ↦
            ap (λ o. cons_option o (filter_map (of_name name) (publics_at base items))) (cond-false test (Some place) None f)
            ∙ none-items base items (sym (ap (λ o. is_communal (cons_option o claims)) (cond-false test (Some claim) None f)) ∙ h)
      ]

  none-based : (o : Option Placed) (items : List (At PublicItem)) → Lacks (map public_claim items) → filter_map (of_name name) (flat_map (λ base. publics_at base items) (option_to_list o)) ≡ []
  none-based None items h = refl
  none-based (Some base) items h = ap (filter_map (of_name name)) (append-nil (publics_at base items)) ∙ none-items base items h

  none-contents : (pl : Places) (c : Contents) → Lacks (claims_in c) → filter_map (of_name name) (placed_publics pl c) ≡ []
  none-contents pl (Publics p) h = none-based (base_of pl p.group.item p.segment.item p.frame) p.items h
  none-contents pl (Header n) h = refl
  none-contents pl (Comment k n text) h = refl
  none-contents pl (Names items) h = refl
  none-contents pl (Segment s) h = refl
  none-contents pl (Group g) h = refl
  none-contents pl (Externs items) h = refl
  none-contents pl (Communals items) h = refl
  none-contents pl (Plain d) h = refl
  none-contents pl (Iterated d) h = refl
  none-contents pl (Fixups subs) h = refl
  none-contents pl (ModEnd byte start) h = refl
  none-contents pl (Carried bytes) h = refl

  none-record : (pl : Places) (kind : ℕ) (c : Contents) → Lacks (record_claims kind c) → filter_map (of_name name) (record_publics false pl kind c) ≡ []
  none-record pl kind c h = by (is_local kind) h
    where
      by : (b : Bool) → Lacks (if b then [] else claims_in c) → filter_map (of_name name) (if b then [] else placed_publics pl c) ≡ []
      by true k = refl
      by false k = none-contents pl c k

  none-module : (m : List Rec) (pl : Places) → Lacks (module_claims m) → filter_map (of_name name) (publics false (m, pl)) ≡ []
  none-module [] pl h = refl
  none-module (r ∷ m) pl h =
      let parts = lack-parts (record_claims r.kind r.contents) (module_claims m) h in
      filter_map-append (of_name name) (record_publics false pl r.kind r.contents) (publics false (m, pl))
      ∙ ap₂ (λ xs ys. xs ++ ys) (none-record pl r.kind r.contents parts.0) (none-module m pl parts.1)

  none-modules : (ms : List (List Rec)) (pls : List Places) → Lacks (all_claims ms) → HaveNone name (zip ms pls)
  none-modules [] pls h = refl
  none-modules (m ∷ ms) [] h = refl
  none-modules (m ∷ ms) (pl ∷ pls) h =
      let parts = lack-parts (module_claims m) (all_claims ms) h in
      filter_map-append (of_name name) (publics false (m, pl)) (all_publics (zip ms pls))
      ∙ ap₂ (λ xs ys. xs ++ ys) (none-module m pl parts.0) (none-modules ms pls parts.1)

-- ---- The publics of the module of communals

abbrev hit : Bool → ℕ
hit true = 1
hit false = 0

-- How many communals have a name.
abbrev hits : Name → List Shared → ℕ
hits name [] = 0
hits name (c ∷ cs) = hit (bytes_eq name c.name) + hits name cs

bases-parts : (pl : Places) (a b : List Rec) → HasBases (a ++ b) pl → HasBases a pl × HasBases b pl
bases-parts pl [] b h = (tt, h)
bases-parts pl (r ∷ a) b h = let rest = bases-parts pl a b h.1 in ((h.0, rest.0), rest.1)

publics-both : (pl : Places) (a b : List Rec) → publics false (a ++ b, pl) ≡ publics false (a, pl) ++ publics false (b, pl)
publics-both pl a b = flat_map-append (λ r. record_publics false pl r.kind r.contents) a b

far-quiet : (pl : Places) (cs : List Shared) → publics false (map far_segment cs, pl) ≡ []
far-quiet pl [] = refl
far-quiet pl (c ∷ cs) = far-quiet pl cs

near-quiet : (pl : Places) (cs : List Shared) → publics false (near_segment cs, pl) ≡ []
near-quiet pl cs = by (has_near cs)
  where
    by : (b : Bool) → publics false (if b then segment_record 0x48 (near_room cs) 3 2 ∷ [] else [], pl) ≡ []
    by true = refl
    by false = refl

group-quiet : (pl : Places) (grouped : Bool) (cs : List Shared) → publics false (near_group grouped cs, pl) ≡ []
group-quiet pl grouped cs = by (grouped && has_near cs)
  where
    by : (b : Bool) → publics false (if b then group_record 5 1 ∷ [] else [], pl) ≡ []
    by true = refl
    by false = refl

front-quiet : (pl : Places) (home : Home) → publics false (front_records home, pl) ≡ []
front-quiet pl home = refl

module _ (name : Name) (pl : Places) where
  abbrev found : List Rec → ℕ
  found m = length (filter_map (of_name name) (publics false (m, pl)))

  found-both : (a b : List Rec) → found (a ++ b) ≡ found a + found b
  found-both a b =
      ap (λ xs. length (filter_map (of_name name) xs)) (publics-both pl a b)
      ∙ ap length (filter_map-append (of_name name) (publics false (a, pl)) (publics false (b, pl)))
      ∙ length-append (filter_map (of_name name) (publics false (a, pl))) (filter_map (of_name name) (publics false (b, pl)))

  found-none : (a : List Rec) → publics false (a, pl) ≡ [] → found a ≡ 0
  found-none a e = ap (λ xs. length (filter_map (of_name name) xs)) e

  -- A public record has one public.
  one-based : (o : Option Placed) (q : At PublicItem) → IsSome o → length (filter_map (of_name name) (flat_map (λ base. publics_at base (q ∷ [])) (option_to_list o))) ≡ hit (bytes_eq name q.item.name)
  one-based None q h = absurd cc
  one-based (Some base) q h = by (bytes_eq name q.item.name)
    where
      by : (b : Bool) → length (cons_option (if b then Some (public_at q.item.name (base.address + q.item.offset) base.frame).place else None) []) ≡ hit b
      by true = refl
      by false = refl

  one-found : (group segment offset : ℕ) (n : Name) → IsSome (base_of pl group segment None) → found (public_record group segment n offset ∷ []) ≡ hit (bytes_eq name n)
  one-found group segment offset n h =
      ap (λ xs. length (filter_map (of_name name) xs)) (append-nil (placed_publics pl (public_record group segment n offset).contents))
      ∙ one-based (base_of pl group segment None) (nowhere (record { name = n; offset = offset; type_index = 0 })) h

  near-found : (group offset : ℕ) (cs : List Shared) → HasBases (near_publics group offset cs) pl → found (near_publics group offset cs) ≡ hits name cs
  near-found group offset [] h = refl
  near-found group offset (c ∷ cs) h =
      let rest = near_publics group (offset + room c) cs in
      found-both (public_record group 1 c.name offset ∷ []) rest
      ∙ ap₂ (λ a b. a + b) (one-found group 1 offset c.name h.0) (near-found group (offset + room c) cs h.1)

  far-found : (index : ℕ) (cs : List Shared) → HasBases (far_publics index cs) pl → found (far_publics index cs) ≡ hits name cs
  far-found index [] h = refl
  far-found index (c ∷ cs) h =
      found-both (public_record 0 index c.name 0 ∷ []) (far_publics (index + 1) cs)
      ∙ ap₂ (λ a b. a + b) (one-found 0 index 0 c.name h.0) (far-found (index + 1) cs h.1)

  module _ (home : Home) (cs : List Shared) where
    abbrev grouped : Bool
    grouped = is_in_group home

    abbrev near : List Rec
    near = near_publics (group_index grouped) 0 (nears cs)

    abbrev far : List Rec
    far = far_publics (first_far cs) (fars cs)

    abbrev last_ones : List Rec
    last_ones = near ++ (far ++ end_record ∷ [])

    all-found : HasBases (communals_records home cs) pl → found (communals_records home cs) ≡ hits name (nears cs) + hits name (fars cs)
    all-found h =
        let a = bases-parts pl (front_records home) (near_segment cs ++ (map far_segment (fars cs) ++ (near_group grouped cs ++ last_ones))) h in
        let b = bases-parts pl (near_segment cs) (map far_segment (fars cs) ++ (near_group grouped cs ++ last_ones)) a.1 in
        let c = bases-parts pl (map far_segment (fars cs)) (near_group grouped cs ++ last_ones) b.1 in
        let d = bases-parts pl (near_group grouped cs) last_ones c.1 in
        let e = bases-parts pl near (far ++ end_record ∷ []) d.1 in
        let f = bases-parts pl far (end_record ∷ []) e.1 in
        let front = found-both (front_records home) (near_segment cs ++ (map far_segment (fars cs) ++ (near_group grouped cs ++ last_ones))) in
        let second = found-both (near_segment cs) (map far_segment (fars cs) ++ (near_group grouped cs ++ last_ones)) in
        let third = found-both (map far_segment (fars cs)) (near_group grouped cs ++ last_ones) in
        let fourth = found-both (near_group grouped cs) last_ones in
        let fifth = found-both near (far ++ end_record ∷ []) in
        let sixth = found-both far (end_record ∷ []) in
        let n = near-found (group_index grouped) 0 (nears cs) e.0 in
        let m = far-found (first_far cs) (fars cs) f.0 in
        let q0 = found-none (front_records home) (front-quiet pl home) in
        let q1 = found-none (near_segment cs) (near-quiet pl cs) in
        let q2 = found-none (map far_segment (fars cs)) (far-quiet pl (fars cs)) in
        let q3 = found-none (near_group grouped cs) (group-quiet pl grouped cs) in
        let q4 : found (end_record ∷ []) ≡ 0 = refl in
        omega (arith, front, second, third, fourth, fifth, sixth, n, m, q0, q1, q2, q3, q4)

-- ---- Each communal once

split-one : (b : Bool) (name : Name) (c : Shared) (near far cs : List Shared) → hits name near + hits name far ≡ hits name cs
    → hits name (if not b then c ∷ near else near) + hits name (if b then c ∷ far else far) ≡ hit (bytes_eq name c.name) + hits name cs
split-one true name c near far cs h = omega (arith, h)
split-one false name c near far cs h = omega (arith, h)

hits-split : (name : Name) (cs : List Shared) → hits name (nears cs) + hits name (fars cs) ≡ hits name cs
hits-split name [] = refl
hits-split name (c ∷ cs) = split-one c.far name c (nears cs) (fars cs) cs (hits-split name cs)

-- Each claim is listed with its own name.
abbrev AreNamed : List (Named Claim) → Type 0
AreNamed [] = ⊤
AreNamed (c ∷ cs) = (c.1.name ≡ c.0) × AreNamed cs

both-named : (xs ys : List (Named Claim)) → AreNamed xs → AreNamed ys → AreNamed (xs ++ ys)
both-named [] ys h k = k
both-named (x ∷ xs) ys h k = (h.0, both-named xs ys h.1 k)

publics-named : (ps : List (At PublicItem)) → AreNamed (map public_claim ps)
publics-named [] = tt
publics-named (p ∷ ps) = (refl, publics-named ps)

communals-named : (ps : List (At CommunalItem)) → AreNamed (map communal_claim ps)
communals-named [] = tt
communals-named (p ∷ ps) = (refl, communals-named ps)

contents-named : (local : Bool) (c : Contents) → AreNamed (cond local [] (claims_in c))
contents-named true c = tt
contents-named false (Publics p) = publics-named p.items
contents-named false (Communals items) = communals-named items
contents-named false _ = tt

module-named : (m : List Rec) → AreNamed (module_claims m)
module-named [] = tt
module-named (r ∷ m) = both-named (record_claims r.kind r.contents) (module_claims m) (contents-named (is_local r.kind) r.contents) (module-named m)

all-named : (ms : List (List Rec)) → AreNamed (all_claims ms)
all-named [] = tt
all-named (m ∷ ms) = both-named (module_claims m) (all_claims ms) (module-named m) (all-named ms)

first-named : (n : Name) (cs : List (Named Claim)) → AreNamed cs → has n (names_in cs) ≡ true → name_of (claims_of cs n) ≡ n
first-named n [] h k = absurd (true≢false (sym k))
first-named n (c ∷ cs) h k = elim (cases_Bool (bytes_eq n c.0)) [
  | inl t ↦ ap (λ o. name_of (cons_option o (claims_of cs n))) (cond-true (bytes_eq n c.0) (Some c.1) None t) ∙ h.0 ∙ sym (same n c.0 t)
  | inr f ↦
      ap (λ o. name_of (cons_option o (claims_of cs n))) (cond-false (bytes_eq n c.0) (Some c.1) None f)
      ∙ first-named n cs h.1 (sym (ap (λ b. b || has n (names_in cs)) f) ∙ k)
]

-- How often a name is in a list.
abbrev times : Name → List Name → ℕ
times name [] = 0
times name (n ∷ ns) = hit (bytes_eq name n) + times name ns

never : (name : Name) (ns : List Name) → has name ns ≡ false → times name ns ≡ 0
never name [] h = refl
never name (n ∷ ns) h =
    let parts = or_parts (bytes_eq name n) (has name ns) h in
    let first = ap hit parts.0 in
    let rest = never name ns parts.1 in
    omega (arith, first, rest)

once : (name : Name) (ns : List Name) → Once ns → has name ns ≡ true → times name ns ≡ 1
once name [] o h = absurd (true≢false (sym h))
once name (n ∷ ns) o h = elim (cases_Bool (bytes_eq name n)) [
  | inl t ↦
      let first = ap hit t in
      let rest = never name ns (subst (λ z. has z ns ≡ false) (sym (same name n t)) o.0) in
      omega (arith, first, rest)
  | inr f ↦
      let first = ap hit f in
      let rest = once name ns o.1 (sym (ap (λ b. b || has name ns) f) ∙ h) in
      omega (arith, first, rest)
]

-- Each of these names is one of those.
abbrev AreAmong : List Name → List Name → Type 0
AreAmong [] ys = ⊤
AreAmong (n ∷ ns) ys = (has n ys ≡ true) × AreAmong ns ys

or-later : (a b : Bool) → b ≡ true → (a || b) ≡ true
or-later true b h = refl
or-later false b h = h

among-more : (y : Name) (ys ns : List Name) → AreAmong ns ys → AreAmong ns (y ∷ ys)
among-more y ys [] h = tt
among-more y ys (n ∷ ns) h = (or-later (bytes_eq n y) (has n ys) h.0, among-more y ys ns h.1)

among-kept : (b : Bool) (n : Name) (ns ys : List Name) → has n ys ≡ true → AreAmong ns ys → AreAmong (cond b (n ∷ ns) ns) ys
among-kept true n ns ys h k = (h, k)
among-kept false n ns ys h k = k

among-filter : (x : Name) (ns ys : List Name) → AreAmong ns ys → AreAmong (filter (other x) ns) ys
among-filter x [] ys h = tt
among-filter x (n ∷ ns) ys h = among-kept (other x n) n (filter (other x) ns) ys h.0 (among-filter x ns ys h.1)

distinct-among : (ys : List Name) → AreAmong (distinct ys) ys
distinct-among [] = tt
distinct-among (y ∷ ys) = (ap (λ b. b || has y ys) (itself y), among-more y ys (filter (other y) (distinct ys)) (among-filter y (distinct ys) ys (distinct-among ys)))

module _ (name : Name) (cs : List (Named Claim)) (named : AreNamed cs) (shared : is_communal (claims_of cs name) ≡ true) where
  runs-hit : (ns : List Name) → AreAmong ns (names_in cs) → hits name (map shared_by (runs_in (map (claims_of cs) ns))) ≡ times name ns
  runs-hit [] h = refl
  runs-hit (n ∷ ns) h =
      let run = claims_of cs n in
      let rest = runs_in (map (claims_of cs) ns) in
      let later = runs-hit ns h.1 in
      elim (cases_Bool (is_communal run)) [
        | inl t ↦
            ap (λ rs. hits name (map shared_by rs)) (cond-true (is_communal run) (run ∷ rest) rest t)
            ∙ ap₂ (λ a b. hit (bytes_eq name a) + b) (first-named n cs named h.0) later
        | inr f ↦
            let first = ap hit (false_from_ne_true (bytes_eq name n) (λ t. true≢false (sym shared ∙ ap (λ z. is_communal (claims_of cs z)) (same name n t) ∙ f))) in
            let here = ap (λ rs. hits name (map shared_by rs)) (cond-false (is_communal run) (run ∷ rest) rest f) in
            omega (arith, first, here, later)
      ]

has-claimed : (name : Name) (cs : List (Named Claim)) → has_claim cs name ≡ true → has name (names_in cs) ≡ true
has-claimed name [] h = h
has-claimed name (c ∷ cs) h = elim (cases_Bool (bytes_eq c.0 name)) [
  | inl t ↦ ap (λ b. b || has name (names_in cs)) (subst (λ z. bytes_eq z c.0 ≡ true) (same c.0 name t) (itself c.0))
  | inr f ↦ or-later (bytes_eq name c.0) (has name (names_in cs)) (has-claimed name cs (sym (ap (λ b. b || has_claim cs name) f) ∙ h))
]

hit-once : (ms : List (List Rec)) (name : Name) → IsCommunalOf ms name → hits name (communals ms) ≡ 1
hit-once ms name h =
    let cs = all_claims ms in
    let ns = names_in cs in
    runs-hit name cs (all-named ms) h.shared (distinct ns) (distinct-among ns)
    ∙ once name (distinct ns) (once-distinct ns) (has-distinct name ns ∙ has-claimed name cs h.defined)

-- ---- The law

the-one : {A : Type 0} (xs : List A) → length xs ≡ 1 → (x : A) × (xs ≡ x ∷ [])
the-one [] h = absurd (omega (arith, h))
the-one (x ∷ []) h = (x, refl)
the-one (x ∷ y ∷ xs) h = absurd (omega (arith, h))

records-of : (home : Home) (cs : List Shared) (added : List Rec) → module_of home cs ≡ Some added → communals_records home cs ≡ added
records-of home [] added h = absurd (none-some added h)
records-of home (c ∷ cs) added h = same_Some (communals_records home (c ∷ cs)) added h

module _ (name : Name) where
  abbrev named : List PlacedModule → List Placed
  named xs = filter_map (of_name name) (all_publics xs)

  named-both : (xs ys : List PlacedModule) → named (xs ++ ys) ≡ named xs ++ named ys
  named-both xs ys = ap (filter_map (of_name name)) (flat_map-append (publics false) xs ys) ∙ filter_map-append (of_name name) (all_publics xs) (all_publics ys)

  named-first : (x : PlacedModule) (xs : List PlacedModule) → named (x ∷ xs) ≡ filter_map (of_name name) (publics false x) ++ named xs
  named-first x xs = filter_map-append (of_name name) (publics false x) (all_publics xs)

pub communals-are-found : CommunalsAreFound
communals-are-found home ms pls added pl before after name e bases communal none-before none-after =
    let cs = communals ms in
    let is : communals_records home cs ≡ added = records-of home cs added e in
    let many : found name pl added ≡ 1 =
    ap (found name pl) (sym is) ∙ all-found name pl home cs (subst (λ m. HasBases m pl) (sym is) bases) ∙ hits-split name cs ∙ hit-once ms name communal in
    let one = the-one (filter_map (of_name name) (publics false (added, pl))) many in
    let others = none-modules name ms pls communal.shared in
    let only =
    named-both name before (zip ms pls ++ (added, pl) ∷ after)
    ∙ ap₂ (λ xs ys. xs ++ ys) none-before (named-both name (zip ms pls) ((added, pl) ∷ after))
    ∙ ap₂ (λ xs ys. xs ++ ys) others (named-first name (added, pl) after)
    ∙ ap₂ (λ xs ys. xs ++ ys) one.1 none-after in
    record {
      place = one.0;
      its_own = one.1;
      only = only;
      taken = λ m given j i none. ap₂ (λ o xs. given_or o (one_public j i xs)) none only;
    }

-- ---- The modules of DOS order and of the stack

module _ (ms : List (List Rec)) (name : Name) (claimed : has_claim (all_claims ms) name ≡ true) (pl : Places) where
  abbrev seen : List Rec → List Placed
  seen m = filter_map (of_name name) (publics false (m, pl))

  seen-both : (a b : List Rec) → seen a ≡ [] → seen b ≡ [] → seen (a ++ b) ≡ []
  seen-both a b h k =
      ap (filter_map (of_name name)) (publics-both pl a b)
      ∙ filter_map-append (of_name name) (publics false (a, pl)) (publics false (b, pl))
      ∙ ap₂ (λ xs ys. xs ++ ys) h k

  each-quiet : {A : Type 0} (f : ℕ → List A → List Rec) (g : ℕ → A → List Rec) → ((j : ℕ) → f j [] ≡ []) → ((j : ℕ) (x : A) (xs : List A) → f j (x ∷ xs) ≡ g j x ++ f (j + 1) xs)
      → ((j : ℕ) (x : A) → seen (g j x) ≡ []) → (j : ℕ) (xs : List A) → seen (f j xs) ≡ []
  each-quiet f g none more quiet j [] = ap seen (none j)
  each-quiet f g none more quiet j (x ∷ xs) = ap seen (more j x xs) ∙ seen-both (g j x) (f (j + 1) xs) (quiet j x) (each-quiet f g none more quiet (j + 1) xs)

  raisings-seen : (i : ℕ) (bs : List Bool) → seen (raisings i bs) ≡ []
  raisings-seen i [] = refl
  raisings-seen i (true ∷ bs) = seen-both (raise_record i ∷ []) (raisings (i + 1) bs) refl (raisings-seen (i + 1) bs)
  raisings-seen i (false ∷ bs) = raisings-seen (i + 1) bs

  group-seen : (b : Bool) (count : ℕ) → seen (order_group b count) ≡ []
  group-seen true count = refl
  group-seen false count = refl

  other-based : (o : Option Placed) (q : At PublicItem) → bytes_eq name q.item.name ≡ false → filter_map (of_name name) (flat_map (λ base. publics_at base (q ∷ [])) (option_to_list o)) ≡ []
  other-based None q f = refl
  other-based (Some base) q f =
      ap (λ r. cons_option r []) (cond-false (bytes_eq name q.item.name) (Some (public_at q.item.name (base.address + q.item.offset) base.frame).place) None f)

  other-seen : (segment : ℕ) (n : Name) → bytes_eq name n ≡ false → seen (public_record 1 segment n 0 ∷ []) ≡ []
  other-seen segment n f =
      ap (filter_map (of_name name)) (append-nil (placed_publics pl (public_record 1 segment n 0).contents))
      ∙ other-based (base_of pl 1 segment None) (nowhere (record { name = n; offset = 0; type_index = 0 })) f

  and-not : (a b : Bool) → (a && not b) ≡ true → b ≡ false
  and-not true b h = un-not b h
  and-not false b h = absurd (true≢false (sym h))

  is-other : (n : Name) → is_missing ms n ≡ true → bytes_eq name n ≡ false
  is-other n h = false_from_ne_true (bytes_eq name n) (λ t.
      true≢false (sym claimed ∙ ap (has_claim (all_claims ms)) (same name n t) ∙ and-not _ (has_claim (all_claims ms) n) h))

  ends-seen : (segment : ℕ) (names : List Name) → seen (end_publics segment (filter (is_missing ms) names)) ≡ []
  ends-seen segment [] = refl
  ends-seen segment (n ∷ names) =
      let rest = filter (is_missing ms) names in
      elim (cases_Bool (is_missing ms n)) [
        | inl t ↦
            ap (λ ns. seen (end_publics segment ns)) (cond-true (is_missing ms n) (n ∷ rest) rest t)
            ∙ seen-both (public_record 1 segment n 0 ∷ []) (end_publics segment rest) (other-seen segment n (is-other n t)) (ends-seen segment names)
        | inr f ↦ ap (λ ns. seen (end_publics segment ns)) (cond-false (is_missing ms n) (n ∷ rest) rest f) ∙ ends-seen segment names
      ]

  missing-seen : (segment : ℕ) (names : List Name) → seen (end_publics segment (missing ms names)) ≡ []
  missing-seen segment names = by (are_grouped ms) (ends-seen segment names)
    where
      by : (b : Bool) → seen (end_publics segment (filter (is_missing ms) names)) ≡ [] → seen (end_publics segment (if b then filter (is_missing ms) names else [])) ≡ []
      by true h = h
      by false h = refl

  order-seen : seen (order_records ms) ≡ []
  order-seen =
      let grouped = are_grouped ms in
      let ss = slots ms in
      let all = dos_slots grouped ss in
      let first = length (data_slots ss) + 1 in
      let second = length (bss_slots grouped ss) + 1 in
      let bss = end_publics second (missing ms bss_names) in
      let ends = end_publics first (missing ms data_names) in
      let a = seen-both bss (end_record ∷ []) (missing-seen second bss_names) refl in
      let b = seen-both ends (bss ++ end_record ∷ []) (missing-seen first data_names) a in
      let c = seen-both (order_group grouped (length all)) (ends ++ (bss ++ end_record ∷ [])) (group-seen grouped (length all)) b in
      let last = order_group grouped (length all) ++ (ends ++ (bss ++ end_record ∷ [])) in
      let d = seen-both (raise_records all) last (raisings-seen 1 (map (λ s. s.raised) all)) c in
      seen-both (slots_records 0 all) (raise_records all ++ last) (each-quiet slots_records slot_records (λ j. refl) (λ j s ss. refl) (λ j s. refl) 0 all) d

  classes-seen : (classes : List Name) → seen (class_order_records classes ms) ≡ []
  classes-seen classes =
      let all = leaders ms classes in
      let raises = seen-both (leader_raises all) (end_record ∷ []) (raisings-seen 1 (map (λ s. s.raised) all)) refl in
      seen-both (leaders_records 0 all) (leader_raises all ++ end_record ∷ []) (each-quiet leaders_records leader_records (λ j. refl) (λ j s ss. refl) (λ j s. refl) 0 all) raises

  stack-seen : (last : Option Portion) (size : ℕ) → HaveNone name ((more_records ms last size, pl) ∷ [])
  stack-seen None size = refl
  stack-seen (Some p) size = refl

still-claimed : (ms more : List (List Rec)) (name : Name) → has_claim (all_claims ms) name ≡ true → has_claim (all_claims (ms ++ more)) name ≡ true
still-claimed ms more name e =
    ap (λ cs. has_claim cs name) (flat_map-append module_claims ms more) ∙ list_any-append (λ c. bytes_eq c.0 name) (all_claims ms) (all_claims more) ∙ ap (λ b. b || has_claim (all_claims more) name) e

pub added-define-new-names : AddedDefineNewNames
added-define-new-names ms name claimed = record {
  order = λ more pl.
      let all = ms ++ more in
      named-first name (order_records all, pl) [] ∙ append-nil (filter_map (of_name name) (publics false (order_records all, pl))) ∙ order-seen all name (still-claimed ms more name claimed) pl;
  classes = λ classes pl. named-first name (class_order_records classes ms, pl) [] ∙ append-nil (filter_map (of_name name) (publics false (class_order_records classes ms, pl))) ∙ classes-seen ms name claimed pl classes;
  stack = λ last size pl. stack-seen ms name claimed pl last size;
}
