-- Without a COMDEF each claim is one of a public, and no name is that of a communal.
use Rattle.std.proofs.Common.{◌≡◌, ℕ, ◌+◌, length, List, [], ◌∷◌, ◌++◌, Bool, true, false, refl, sym, ap, ◌∙◌, inl, inr}
use Rattle.std.specs.Prelude.{map, not, cond, ◌||◌, Some, None, bytes_eq, ⊤}
use Rattle.std.specs.List.{filter, list_any, cons_option}
use Rattle.std.proofs.lemmas.Bool.{cond-true, cond-false, cases_Bool, true≢false, or_parts}
use Rattle.omf_frame.specs.Types.{is_local}
use Rattle.omf_frame.specs.Framing.{Raw, raw_bytes}
use Rattle.omf_frame.specs.declared.fault.Place.{Place}
use Rattle.omf_records.specs.Inner.Reading.{typed}
use Rattle.omf_check.specs.Listed.{placed_from}
use Rattle.omf_check.specs.WellFormed.{recs}
use Rattle.omf_records.specs.Values.{At, Rec, Contents, Publics, Communals, PublicItem}
use Rattle.omf_layout.specs.declared.own.claims.ClaimKind.TheVariants as kinds
use Rattle.omf_layout.specs.Own.Claims.{Claim, all_claims, claims_in, has_comdef, have_comdefs, holds_communals, is_comdef, module_claims, public_claim, record_claims}
use Rattle.omf_layout.specs.Own.Communals.{has_kind, is_communal, is_same_kind, runs_in, runs_of}
use Rattle.omf_layout.specs.Several.Gathered.{distinct, names_in, of_name}
use Rattle.omf_layout.specs.Several.Portions.{Named}
use Rattle.omf_layout.proofs.SeveralLaws.GatherLaws.{has, itself, other}

-- One of numbered records is a COMDEF.
abbrev pub comdefs-by : List (Place × Rec) → Bool
comdefs-by xs = list_any (λ x. is_comdef x.1.kind x.1.contents) xs

pub comdefs-all : (number start : ℕ) (rs : List Raw) → comdefs-by (placed_from number start rs) ≡ has_comdef (recs rs)
comdefs-all number start [] = refl
comdefs-all number start (r ∷ rs) = ap (λ b. is_comdef (typed r).kind (typed r).contents || b) (comdefs-all (number + 1) (start + length (raw_bytes r)) rs)

-- Each of these claims is one of a public.
abbrev ArePublic : List (Named Claim) → Type 0
ArePublic [] = ⊤
ArePublic (c ∷ cs) = (is_same_kind kinds.Public c.1.kind ≡ true) × ArePublic cs

both-public : (xs ys : List (Named Claim)) → ArePublic xs → ArePublic ys → ArePublic (xs ++ ys)
both-public [] ys h k = k
both-public (x ∷ xs) ys h k = (h.0, both-public xs ys h.1 k)

publics-public : (ps : List (At PublicItem)) → ArePublic (map public_claim ps)
publics-public [] = tt
publics-public (p ∷ ps) = (refl, publics-public ps)

contents-public : (local : Bool) (c : Contents) → cond local false (holds_communals c) ≡ false → ArePublic (cond local [] (claims_in c))
contents-public true c h = tt
contents-public false (Publics p) h = publics-public p.items
contents-public false (Communals items) h = absurd (true≢false h)
contents-public false _ h = tt

module-public : (m : List Rec) → has_comdef m ≡ false → ArePublic (module_claims m)
module-public [] h = tt
module-public (r ∷ m) h =
    let parts = or_parts (cond (is_local r.kind) false (holds_communals r.contents)) (has_comdef m) h in
    both-public (record_claims r.kind r.contents) (module_claims m) (contents-public (is_local r.kind) r.contents parts.0) (module-public m parts.1)

all-public : (ms : List (List Rec)) → have_comdefs ms ≡ false → ArePublic (all_claims ms)
all-public [] h = tt
all-public (m ∷ ms) h =
    let parts = or_parts (has_comdef m) (have_comdefs ms) h in
    both-public (module_claims m) (all_claims ms) (module-public m parts.0) (all-public ms parts.1)

-- A name that they have is that of a public.
name-public : (name : List ℕ) (cs : List (Named Claim)) → ArePublic cs → has name (names_in cs) ≡ true → has_kind kinds.Public (of_name cs name) ≡ true
name-public name [] h k = k
name-public name (c ∷ cs) h k = elim (cases_Bool (bytes_eq name c.0)) [
  | inl t ↦
      ap (λ o. has_kind kinds.Public (cons_option o (of_name cs name))) (cond-true (bytes_eq name c.0) (Some c.1) None t)
      ∙ ap (λ b. b || has_kind kinds.Public (of_name cs name)) h.0
  | inr f ↦
      ap (λ o. has_kind kinds.Public (cons_option o (of_name cs name))) (cond-false (bytes_eq name c.0) (Some c.1) None f)
      ∙ name-public name cs h.1 (sym (ap (λ b. b || has name (names_in cs)) f) ∙ k)
]

-- Each of these names is one of those.
abbrev AreAmong : List (List ℕ) → List (List ℕ) → Type 0
AreAmong [] ys = ⊤
AreAmong (n ∷ ns) ys = (has n ys ≡ true) × AreAmong ns ys

or-later : (a b : Bool) → b ≡ true → (a || b) ≡ true
or-later true b h = refl
or-later false b h = h

among-more : (y : List ℕ) (ys ns : List (List ℕ)) → AreAmong ns ys → AreAmong ns (y ∷ ys)
among-more y ys [] h = tt
among-more y ys (n ∷ ns) h = (or-later (bytes_eq n y) (has n ys) h.0, among-more y ys ns h.1)

among-kept : (b : Bool) (n : List ℕ) (ns ys : List (List ℕ)) → has n ys ≡ true → AreAmong ns ys → AreAmong (cond b (n ∷ ns) ns) ys
among-kept true n ns ys h k = (h, k)
among-kept false n ns ys h k = k

among-filter : (x : List ℕ) (ns ys : List (List ℕ)) → AreAmong ns ys → AreAmong (filter (other x) ns) ys
among-filter x [] ys h = tt
among-filter x (n ∷ ns) ys h = among-kept (other x n) n (filter (other x) ns) ys h.0 (among-filter x ns ys h.1)

distinct-among : (ys : List (List ℕ)) → AreAmong (distinct ys) ys
distinct-among [] = tt
distinct-among (y ∷ ys) = (ap (λ b. b || has y ys) (itself y), among-more y ys (filter (other y) (distinct ys)) (among-filter y (distinct ys) ys (distinct-among ys)))

none-communal : (cs : List (Named Claim)) → ArePublic cs → (ns : List (List ℕ)) → AreAmong ns (names_in cs) → runs_in (map (of_name cs) ns) ≡ []
none-communal cs h [] k = refl
none-communal cs h (n ∷ ns) k =
    cond-false (is_communal (of_name cs n)) (of_name cs n ∷ runs_in (map (of_name cs) ns)) (runs_in (map (of_name cs) ns)) (ap not (name-public n cs h k.0))
    ∙ none-communal cs h ns k.1

pub no-runs : (ms : List (List Rec)) → have_comdefs ms ≡ false → runs_of ms ≡ []
no-runs ms h = let cs = all_claims ms in none-communal cs (all-public ms h) (distinct (names_in cs)) (distinct-among (names_in cs))
