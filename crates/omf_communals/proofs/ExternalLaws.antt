-- The records in place of a record define the same externals.
use Rattle.std.proofs.Common.{◌≡◌, ℕ, zero, suc, ◌+◌, ◌-◌, ◌^◌, ◌<◌, List, [], ◌∷◌, ◌++◌, length, refl, sym, ap, ap₂, ◌∙◌, subst, arith, append-nil, inl, inr, Bool, true, false, cond}
use Rattle.std.specs.Prelude.{◌⊎◌, ⊤, All, Option, Some, None, Result, Ok, Err, map, nat_le, option_map, slice_get, ◌==◌}
use Rattle.std.specs.List.{list_any}
use Rattle.std.proofs.lemmas.Bool.{cases_Bool, eqb-true}
use Rattle.std.proofs.lemmas.Grind.{flat_map-append}
use Rattle.std.proofs.lemmas.List.{map-append}
use Rattle.std.proofs.lemmas.List.Elements.{All-head, All-tail}
use Rattle.omf_frame.specs.Bytes.{AreBytes, with_before}
use Rattle.omf_frame.specs.Fault.{Fault}
use Rattle.omf_frame.specs.Fields.{IsCommunalLength, IsIndex, communal_length_bytes, index_bytes, name_bytes}
use Rattle.omf_frame.specs.Framing.{Raw, raw_of}
use Rattle.omf_frame.specs.Types.{is_local}
use Rattle.omf_frame.specs.Inner.FieldLaws.{communal_spelled, index_spelled, little_fits}
use Rattle.omf_records.specs.Entries.{communal, communal_size, external}
use Rattle.omf_records.specs.Inner.LawProofs.{are_typed}
use Rattle.omf_records.specs.Inner.Reading.{typed}
use Rattle.omf_records.specs.Layout.{Layout, SpellsEach, called, choose, many}
use Rattle.omf_records.specs.Records.{contents}
use Rattle.omf_records.specs.Shortest.{communal_bytes, external_bytes, size_bytes}
use Rattle.omf_records.specs.Values.{At, CommunalSize, Communals, Contents, ExternalItem, Externs, Far, Near, Rec}
use Rattle.omf_check.specs.Listed.{IsReadable}
use Rattle.omf_check.specs.Tables.{defined_externals, entry, externals, locals}
use Rattle.omf_check.specs.WellFormed.{recs}
use Rattle.omf_communals.specs.Communals.{communal as communal_of, communal_kind, element_size, is_communal, is_extern, record_by, record_of, records_by, replaced, size_by, variable_of, variable_or_other, variables, variables_in}
use Rattle.omf_communals.specs.Inner.Readers.{typdef_whole}
use Rattle.omf_communals.specs.Laws.{ExternalsStay}
use Rattle.omf_communals.specs.Typdef.{far, near, typdef}
use Rattle.omf_communals.specs.declared.variable.Variable.{Variable}
use Rattle.omf_communals.specs.declared.variable.Variable.TheVariants as variable

-- ---- values in range, and what spells them

abbrev IsGood : ExternalItem → Type 0
IsGood e = (length e.name < 256) × (e.type_index < 32768)

abbrev IsGoodSize : CommunalSize → Type 0
IsGoodSize (Near n) = n < 2 ^ 32
IsGoodSize (Far count size) = (count < 2 ^ 32) × (size < 2 ^ 32)

external-spells : (at : ℕ) (e : ExternalItem) → IsGood e → external.Spells at (external_bytes e) e
external-spells at e (low, small) = (
  name_bytes e.name,
  index_bytes e.type_index,
  e.name,
  refl,
  (low, refl),
  (index_bytes e.type_index, [], e.type_index, sym (append-nil (index_bytes e.type_index)), index_spelled e.type_index small, (refl, refl)),
)

size-spells : (at : ℕ) (s : CommunalSize) → IsGoodSize s → communal_size.Spells at (size_bytes s) s
size-spells at (Near n) h = (0x62 ∷ [], communal_length_bytes n, 0x62, refl, ((omega arith, refl), refl), (n, communal_spelled n h, refl))
size-spells at (Far count size) (h, k) = (
  0x61 ∷ [],
  communal_length_bytes count ++ communal_length_bytes size,
  0x61,
  refl,
  ((omega arith, refl), refl),
  (
    communal_length_bytes count,
    communal_length_bytes size,
    count,
    refl,
    communal_spelled count h,
    (communal_length_bytes size, [], size, sym (append-nil (communal_length_bytes size)), communal_spelled size k, (refl, refl)),
  ),
)

communal-spells : (at : ℕ) (e : ExternalItem) (s : CommunalSize) → IsGood e → IsGoodSize s → communal.Spells at (communal_bytes (communal_of e s)) (communal_of e s)
communal-spells at e s (low, small) good = (
  name_bytes e.name,
  index_bytes e.type_index ++ size_bytes s,
  e.name,
  refl,
  (low, refl),
  (
    index_bytes e.type_index,
    size_bytes s,
    e.type_index,
    refl,
    index_spelled e.type_index small,
    (size_bytes s, [], s, sym (append-nil (size_bytes s)), size-spells (at + length (name_bytes e.name) + length (index_bytes e.type_index)) s good, (refl, refl)),
  ),
)

many-one : {A : Type 0} (p : Layout A) (bytes : List ℕ) (x : A) → p.Spells 3 bytes x → (many p).Spells 3 bytes (record { within = 3; item = x } ∷ [])
many-one p bytes x h = (bytes, [], sym (append-nil bytes), refl, h, refl)

typed-by : (r : Raw) (c : Contents) → (contents r.kind).Spells 3 r.body c → (typed r).contents ≡ c
typed-by r c h = ap (λ (x : Rec). x.contents) (sym (are_typed r (record { kind = r.kind; contents = c }) refl h).0)

-- ---- the types of EXTDEF and LEXTDEF

kind-cases : (k : ℕ) → is_extern k ≡ true → (k ≡ 0x8C) ⊎ ((k ≡ 0xB4) ⊎ (k ≡ 0xB5))
kind-cases k h = elim (cases_Bool (0x8C == k)) [
  | inl a ↦ inl (sym (eqb-true 0x8C k a))
  | inr a ↦ elim (cases_Bool (0xB4 == k)) [
    | inl b ↦ inr (inl (sym (eqb-true 0xB4 k b)))
    | inr b ↦ elim (cases_Bool (0xB5 == k)) [
      | inl c ↦ inr (inr (sym (eqb-true 0xB5 k c)))
      | inr c ↦ let no : is_extern k ≡ false = rw (a, b, c) refl in absurd (clash (sym h ∙ no))
    ]
  ]
]
  where
    clash : true ≡ false → ⊥
    clash e = cc

by-kind : (P : ℕ → Type 0) (k : ℕ) → is_extern k ≡ true → P 0x8C → P 0xB4 → P 0xB5 → P k
by-kind P k h a b c = elim (kind-cases k h) [ inl e ↦ subst P (sym e) a | inr r ↦ elim r [ inl e ↦ subst P (sym e) b | inr e ↦ subst P (sym e) c ] ]

to-externs : (k : ℕ) (body : List ℕ) (c : Contents) → is_extern k ≡ true → (contents k).Spells 3 body c → (called (many external) Externs).Spells 3 body c
to-externs k body c h = by-kind (λ n. (contents n).Spells 3 body c → (called (many external) Externs).Spells 3 body c) k h (λ s. s) (λ s. s) (λ s. s)

from-externs : (k : ℕ) (body : List ℕ) (c : Contents) → is_extern k ≡ true → (called (many external) Externs).Spells 3 body c → (contents k).Spells 3 body c
from-externs k body c h = by-kind (λ n. (called (many external) Externs).Spells 3 body c → (contents n).Spells 3 body c) k h (λ s. s) (λ s. s) (λ s. s)

from-communals : (k : ℕ) (body : List ℕ) (c : Contents) → is_extern k ≡ true → (called (many communal) Communals).Spells 3 body c → (contents (communal_kind k)).Spells 3 body c
from-communals k body c h = by-kind (λ n. (called (many communal) Communals).Spells 3 body c → (contents (communal_kind n)).Spells 3 body c) k h (λ s. s) (λ s. s) (λ s. s)

same-local : (k : ℕ) → is_extern k ≡ true → is_local (communal_kind k) ≡ is_local k
same-local k h = by-kind (λ n. is_local (communal_kind n) ≡ is_local n) k h refl refl refl

-- ---- what is read is in range

abbrev AllGood : List (At ExternalItem) → Type 0
AllGood [] = ⊤
AllGood (x ∷ xs) = IsGood x.item × AllGood xs

index-small : (n : ℕ) (bytes : List ℕ) → IsIndex n bytes → n < 32768
index-small n [] h = absurd h
index-small n (a ∷ []) (low, e) = omega (arith, low, e)
index-small n (a ∷ b ∷ []) (h, l, k, e) = omega (arith, h, l, k, e)
index-small n (a ∷ b ∷ c ∷ r) h = absurd h

external-good : (at : ℕ) (bytes : List ℕ) (e : ExternalItem) → external.Spells at bytes e → IsGood e
external-good at bytes e (f, b, x, p, (low, q), (g, d, t, p2, i, (n, y))) =
    (subst (λ (z : ExternalItem). length z.name < 256) (sym y) low, subst (λ (z : ExternalItem). z.type_index < 32768) (sym y) (index-small t g i))

all-good : (at : ℕ) (bytes : List ℕ) (xs : List (At ExternalItem)) → SpellsEach external at bytes xs → AllGood xs
all-good at bytes [] h = tt
all-good at bytes (x ∷ xs) (f, b, p, w, s, r) = (external-good at f x.item s, all-good (at + length f) b xs r)

abbrev IsGoodVariable : Variable → Type 0
IsGoodVariable (variable.Near bits) = bits < 2 ^ 32
IsGoodVariable (variable.Far count element) = count < 2 ^ 32
IsGoodVariable variable.Other = ⊤

length-small : (n : ℕ) (bytes : List ℕ) → IsCommunalLength n bytes → n < 2 ^ 32
length-small n [] h = absurd h
length-small n (a ∷ rest) (inl (le, none, e)) = omega (arith, le, e)
length-small n (a ∷ rest) (inr (inl (m, l))) = let f = little_fits 2 n rest l in omega (arith, f)
length-small n (a ∷ rest) (inr (inr (inl (m, l)))) = let f = little_fits 3 n rest l in omega (arith, f)
length-small n (a ∷ rest) (inr (inr (inr (m, l)))) = let f = little_fits 4 n rest l in omega (arith, f)

near-good : (at : ℕ) (bytes : List ℕ) (v : Variable) → near.Spells at bytes v → IsGoodVariable v
near-good at bytes v (f, b, k, p, s, (g, d, n, q, l, (e, y))) = subst IsGoodVariable (sym y) (length-small n g l)

far-good : (at : ℕ) (bytes : List ℕ) (v : Variable) → far.Spells at bytes v → IsGoodVariable v
far-good at bytes v (f, b, k, p, s, (g, d, n, q, l, (h, c, i, r, x, (e, y)))) = subst IsGoodVariable (sym y) (length-small n g l)

leaf-good : (b : Bool) (at : ℕ) (bytes : List ℕ) (v : Variable) → (choose b near far).Spells at bytes v → IsGoodVariable v
leaf-good true at bytes v h = near-good at bytes v h
leaf-good false at bytes v h = far-good at bytes v h

typdef-good : (at : ℕ) (bytes : List ℕ) (v : Variable) → typdef.Spells at bytes v → IsGoodVariable v
typdef-good at bytes v (f, b, t, p, s, (g, d, z, q, u, (h, c, leaf, r, w, y))) = leaf-good (leaf == 0x62) (at + length f + length g + length h) c v y

variable-good : (body : List ℕ) → AreBytes body → IsGoodVariable (variable_of body)
variable-good body h = by (typdef_whole.read 3 body) refl
  where
    by : (r : Result Variable Fault) → typdef_whole.read 3 body ≡ r → IsGoodVariable (variable_or_other r)
    by (Ok v) e = typdef-good 3 body v (typdef_whole.ok 3 body v h e)
    by (Err f) e = tt

abbrev AreGood : List Variable → Type 0
AreGood [] = ⊤
AreGood (v ∷ vs) = IsGoodVariable v × AreGood vs

good-more : (vs ws : List Variable) → AreGood vs → AreGood ws → AreGood (vs ++ ws)
good-more [] ws h k = k
good-more (v ∷ vs) ws (h, t) k = (h, good-more vs ws t k)

in-good : (r : Raw) → AreBytes r.body → AreGood (variables_in r.kind r.body)
in-good r h = by (r.kind == 0x8E)
  where
    by : (b : Bool) → AreGood (cond b (variable_of r.body ∷ []) [])
    by true = (variable-good r.body h, tt)
    by false = tt

abbrev IsGoodIf : Option Variable → Type 0
IsGoodIf None = ⊤
IsGoodIf (Some v) = IsGoodVariable v

slice-good : (vs : List Variable) (k : ℕ) → AreGood vs → IsGoodIf (slice_get vs k)
slice-good [] k h = tt
slice-good (v ∷ vs) zero h = h.0
slice-good (v ∷ vs) (suc k) h = slice-good vs k h.1

entry-good : (vs : List Variable) (i : ℕ) → AreGood vs → IsGoodIf (entry vs i)
entry-good vs i h = by (nat_le 1 i)
  where
    by : (b : Bool) → IsGoodIf (cond b (slice_get vs (i - 1)) None)
    by true = slice-good vs (i - 1) h
    by false = tt

abbrev IsGoodSizeIf : Option CommunalSize → Type 0
IsGoodSizeIf None = ⊤
IsGoodSizeIf (Some s) = IsGoodSize s

far-size-good : (count : ℕ) (o : Option Variable) → count < 2 ^ 32 → IsGoodIf o → IsGoodSizeIf (option_map (Far count) (element_size o))
far-size-good count None h k = tt
far-size-good count (Some (variable.Near bits)) h k = (h, omega (arith, k))
far-size-good count (Some (variable.Far n e)) h k = tt
far-size-good count (Some variable.Other) h k = tt

size-good : (vs : List Variable) (o : Option Variable) → AreGood vs → IsGoodIf o → IsGoodSizeIf (size_by vs o)
size-good vs None g h = tt
size-good vs (Some (variable.Near bits)) g h = omega (arith, h)
size-good vs (Some (variable.Far count element)) g h = far-size-good count (entry vs element) h (entry-good vs element g)
size-good vs (Some variable.Other) g h = tt

-- ---- the externals of each record

abbrev rows : ℕ → List (List ℕ) → List Bool
rows kind names = map (λ (n : List ℕ). is_local kind) names

module _ (vs : List Variable) (kind : ℕ) (h : is_extern kind ≡ true) where
  by-size : (e : ExternalItem) (o : Option CommunalSize) → IsGood e → IsGoodSizeIf o → (defined_externals (typed (record_by kind e o)).contents ≡ e.name ∷ []) × (is_local (record_by kind e o).kind ≡ is_local kind)
  by-size e None g k =
      let c = Externs (record { within = 3; item = e } ∷ []) in (
        ap defined_externals (typed-by (raw_of kind (external_bytes e)) c (from-externs kind (external_bytes e) c h (record { within = 3; item = e } ∷ [], many-one external (external_bytes e) e (external-spells 3 e g), refl))),
        refl,
      )
  by-size e (Some s) g k =
      let x = communal_of e s in
      let c = Communals (record { within = 3; item = x } ∷ []) in (
        ap defined_externals (typed-by (raw_of (communal_kind kind) (communal_bytes x)) c (from-communals kind (communal_bytes x) c h (record { within = 3; item = x } ∷ [], many-one communal (communal_bytes x) x (communal-spells 3 e s g k), refl))),
        same-local kind h,
      )

  one : AreGood vs → (e : At ExternalItem) → IsGood e.item → (defined_externals (typed (record_of vs kind e)).contents ≡ e.item.name ∷ []) × (is_local (record_of vs kind e).kind ≡ is_local kind)
  one g e k = by-size e.item (size_by vs (entry vs e.item.type_index)) k (size-good vs (entry vs e.item.type_index) g (entry-good vs e.item.type_index g))

  each-external : AreGood vs → (items : List (At ExternalItem)) → AllGood items → externals (recs (map (record_of vs kind) items)) ≡ map (λ e. e.item.name) items
  each-external g [] k = refl
  each-external g (e ∷ items) (k, ks) = ap₂ (λ (a b : List (List ℕ)). a ++ b) (one g e k).0 (each-external g items ks)

  each-local : AreGood vs → (items : List (At ExternalItem)) → AllGood items → locals (recs (map (record_of vs kind) items)) ≡ rows kind (map (λ e. e.item.name) items)
  each-local g [] k = refl
  each-local g (e ∷ items) (k, ks) =
      let t = one g e k in
      ap₂ (λ (a b : List Bool). a ++ b) (ap (rows (record_of vs kind e).kind) t.0 ∙ ap (λ (b : Bool). b ∷ []) t.1) (each-local g items ks)

-- The externals of the records in place of one.
abbrev AreSame : List Raw → Raw → Type 0
AreSame rs r = (externals (recs rs) ≡ defined_externals (typed r).contents) × (locals (recs rs) ≡ rows r.kind (defined_externals (typed r).contents))

itself : (r : Raw) → AreSame (r ∷ []) r
itself r = (append-nil (defined_externals (typed r).contents), append-nil (rows r.kind (defined_externals (typed r).contents)))

module _ (vs : List Variable) (r : Raw) (h : is_extern r.kind ≡ true) (s : (contents r.kind).Spells 3 r.body (typed r).contents) (g : AreGood vs) where
  items-good : (items : List (At ExternalItem)) → (typed r).contents ≡ Externs items → AllGood items
  items-good items e =
      let q = to-externs r.kind r.body (typed r).contents h s in
      let same : Externs q.0 ≡ Externs items = sym q.2 ∙ e in
      let is : q.0 ≡ items = cc in
      subst AllGood is (all-good 3 r.body q.0 q.1)

  by-any : (b : Bool) (items : List (At ExternalItem)) → (typed r).contents ≡ Externs items → AreSame (cond b (map (record_of vs r.kind) items) (r ∷ [])) r
  by-any true items e =
      let k = items-good items e in (
        each-external vs r.kind h g items k ∙ ap defined_externals (sym e),
        each-local vs r.kind h g items k ∙ ap (λ (c : Contents). rows r.kind (defined_externals c)) (sym e),
      )
  by-any false items e = itself r

  by-contents : (c : Contents) → (typed r).contents ≡ c → AreSame (records_by vs r c) r
  by-contents (Externs items) e = by-any (list_any (is_communal vs) items) items e
  by-contents _ e = itself r

by-type : (b : Bool) (vs : List Variable) (r : Raw) → is_extern r.kind ≡ b → (contents r.kind).Spells 3 r.body (typed r).contents → AreGood vs → AreSame (cond b (records_by vs r (typed r).contents) (r ∷ [])) r
by-type true vs r h s g = by-contents vs r h s g (typed r).contents refl
by-type false vs r h s g = itself r

externals-split : (rs ss : List Raw) → externals (recs (rs ++ ss)) ≡ externals (recs rs) ++ externals (recs ss)
externals-split rs ss = ap externals (map-append typed rs ss) ∙ flat_map-append (λ (r : Rec). defined_externals r.contents) (recs rs) (recs ss)

locals-split : (rs ss : List Raw) → locals (recs (rs ++ ss)) ≡ locals (recs rs) ++ locals (recs ss)
locals-split rs ss = ap locals (map-append typed rs ss) ∙ flat_map-append (λ (r : Rec). map (λ e. is_local r.kind) (defined_externals r.contents)) (recs rs) (recs ss)

from : (before rest : List Raw) → All IsReadable rest → All (λ r. AreBytes r.body) rest → AreGood (variables before)
    → (externals (recs (with_before replaced before rest)) ≡ externals (recs rest)) × (locals (recs (with_before replaced before rest)) ≡ locals (recs rest))
from before [] h k g = (refl, refl)
from before (r ∷ rest) h k g =
    let own = by-type (is_extern r.kind) (variables before) r refl (All-head IsReadable r rest h).typed g in
    let more : variables (before ++ r ∷ []) ≡ variables before ++ variables_in r.kind r.body =
    flat_map-append (λ (x : Raw). variables_in x.kind x.body) before (r ∷ []) ∙ ap (λ (xs : List Variable). variables before ++ xs) (append-nil (variables_in r.kind r.body)) in
    let next = subst AreGood (sym more) (good-more (variables before) (variables_in r.kind r.body) g (in-good r (All-head (λ (x : Raw). AreBytes x.body) r rest k))) in
    let others = from (before ++ r ∷ []) rest (All-tail IsReadable r rest h) (All-tail (λ (x : Raw). AreBytes x.body) r rest k) next in (
      externals-split (replaced before r) (with_before replaced (before ++ r ∷ []) rest) ∙ ap₂ (λ (a b : List (List ℕ)). a ++ b) own.0 others.0,
      locals-split (replaced before r) (with_before replaced (before ++ r ∷ []) rest) ∙ ap₂ (λ (a b : List Bool). a ++ b) own.1 others.1,
    )

pub externals-stay : ExternalsStay
externals-stay rs h k = from [] rs h k tt
