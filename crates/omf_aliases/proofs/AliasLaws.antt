-- The tables by which aliases are followed, and the modules that are made.
use Rattle.std.proofs.Common.{◌≡◌, ℕ, zero, suc, ◌+◌, ◌-◌, ◌<◌, ◌≤◌, Bool, Bor, true, false, List, [], ◌∷◌, ◌++◌, length, take, drop, get_or, refl, sym, ap, ap₂, ◌∙◌, subst, inl, inr, arith, nat_cmp, Less, Equal, Greater, append_assoc, append-nil, length-append}
use Rattle.std.specs.Prelude.{◌↔◌, ◌==◌, All, Contains, IsTrue, Ok, Err, Result, OnOk, Option, Some, None, find, is_some, nat_lt, option_and_then, option_map, unwrap_or, flat_map, bytes_eq, cond}
use Rattle.std.specs.BTreeMap.{BTreeMap, Updates, btree_map_len, get, is_at}
use Rattle.std.specs.List.{AllZip, enumerate_from}
use Rattle.std.specs.Map.{lookup}
use Rattle.std.specs.Option.{option_copied, option_or}
use Rattle.std.specs.Ordering.{is_eq}
use Rattle.std.proofs.Math.Seq.{drop-append_seam, take-append_seam}
use Rattle.std.proofs.lemmas.Bool.{cases_Bool, cond-true, cond-false, eq-eqb, eqb-true, le-ltb}
use Rattle.std.proofs.lemmas.Grind.{flat_map-append}
use Rattle.std.proofs.lemmas.List.Elements.{Contains-get_or}
use Rattle.std.proofs.lemmas.List.Folds.{find-append}
use Rattle.std.proofs.lemmas.Slice.Eq.{bytes_eq-Decides}
use Rattle.omf_names.specs.Names.{name_cmp}
use Rattle.omf_names.proofs.NameTables.{IsUpdated}
use Rattle.omf_frame.specs.Framing.{Raw, after_front, raw_bytes}
use Rattle.omf_frame.proofs.FramingLaws.{after_raw}
use Rattle.omf_image.specs.declared.limits.Limits.{Limits}
use Rattle.omf_records.specs.Values.{Rec}
use Rattle.omf_check.specs.Listed.{IsReadable, StartsWithRecord}
use Rattle.omf_check.specs.Module.{Module, records_in, recs_of}
use Rattle.omf_check.specs.Tables.{entry, externals}
use Rattle.omf_check.specs.WellFormed.{IsWellFormed}
use Rattle.omf_check.specs.declared.profile.Profile.{Profile}
use Rattle.omf_check.proofs.WellLaws.{well-read}
use Rattle.omf_placement.specs.Derive.{named_externals}
use Rattle.omf_placement.proofs.LinkageLaws.{drop-some, drop-past}
use Rattle.omf_placement.proofs.NamedLaws.{entry-suc, named-count}
use Rattle.omf_placement.proofs.WeakLaws.{no_items}
use Rattle.omf_placement.specs.Weak.{weak_pairs}
use Rattle.omf_placement.specs.declared.several.pairs.WeakPair.{WeakPair}
use Rattle.omf_linking.proofs.FoldLaws.{AreReadable, readable-less, readable-starts}
use Rattle.omf_library.specs.Aliases.{AliasPair}
use Rattle.omf_aliases.specs.Aliases.{Default, HasFault, IsFollowed, IsFollowingFault, IsWith, default_by, default_in, default_named, default_of, defaults, end_after, end_among, end_or, followed_entry, is_pair_of, most, next_name, own_default, own_entry, substitute}
use Rattle.omf_aliases.specs.Inner.Aliases.{HasOwn, HasPairs, IsMadeWith, IsReplacement, IsSplit, IsSubstituteTable, found_at, replaced}
use Rattle.omf_aliases.specs.declared.fault.FollowingFault.{FollowingFault}
use Rattle.omf_aliases.specs.declared.fault.FollowingFault.TheVariants as fault
use Rattle.omf_aliases.specs.declared.substitutes.SubstituteTable.{SubstituteTable}
use Rattle.omf_externals.proofs.SettledLaws.{no_entry}

-- ---- The substitute among pairs, and one pair more

sub-kept : (ps qs : List AliasPair) (name : List ℕ) → is_some (substitute ps name) ≡ true → substitute (ps ++ qs) name ≡ substitute ps name
sub-kept [] qs name e = absurd cc
sub-kept (p ∷ ps) qs name e = elim (cases_Bool (bytes_eq p.alias name)) [
  | inl b ↦
      cond-true (bytes_eq p.alias name) (Some p.substitute) (substitute (ps ++ qs) name) b
      ∙ sym (cond-true (bytes_eq p.alias name) (Some p.substitute) (substitute ps name) b)
  | inr b ↦
      let rest = cond-false (bytes_eq p.alias name) (Some p.substitute) (substitute ps name) b in
      cond-false (bytes_eq p.alias name) (Some p.substitute) (substitute (ps ++ qs) name) b
      ∙ sub-kept ps qs name (ap is_some (sym rest) ∙ e) ∙ sym rest
]

sub-none : (ps qs : List AliasPair) (name : List ℕ) → is_some (substitute ps name) ≡ false → substitute (ps ++ qs) name ≡ substitute qs name
sub-none [] qs name e = refl
sub-none (p ∷ ps) qs name e = elim (cases_Bool (bytes_eq p.alias name)) [
  | inl b ↦
      let some : true ≡ false = ap is_some (sym (cond-true (bytes_eq p.alias name) (Some p.substitute) (substitute ps name) b)) ∙ e in
      absurd cc
  | inr b ↦
      let rest = cond-false (bytes_eq p.alias name) (Some p.substitute) (substitute ps name) b in
      cond-false (bytes_eq p.alias name) (Some p.substitute) (substitute (ps ++ qs) name) b ∙ sub-none ps qs name (ap is_some (sym rest) ∙ e)
]

sub-other : (ps : List AliasPair) (p : AliasPair) (name : List ℕ) → bytes_eq p.alias name ≡ false → substitute (ps ++ p ∷ []) name ≡ substitute ps name
sub-other [] p name e = cond-false (bytes_eq p.alias name) (Some p.substitute) None e
sub-other (q ∷ ps) p name e = ap (λ o. cond (bytes_eq q.alias name) (Some q.substitute) o) (sub-other ps p name e)

-- ---- The table

pub no-pairs : (t : SubstituteTable) → HasPairs t t []
no-pairs t pairs h = subst (IsSubstituteTable t) (sym (append-nil pairs)) h

pub has-known : (t : SubstituteTable) (p : AliasPair) → is_some (found_at t p.alias) ≡ true → HasPairs t t (p ∷ [])
has-known t p e pairs h name = elim (cases_Bool (bytes_eq p.alias name)) [
  | inl b ↦
      let same : p.alias ≡ name = (bytes_eq-Decides p.alias name).0 b in
      let some : is_some (substitute pairs name) ≡ true = sym (ap is_some (h name)) ∙ subst (λ n. is_some (found_at t n) ≡ true) same e in
      h name ∙ sym (sub-kept pairs (p ∷ []) name some)
  | inr b ↦ h name ∙ sym (sub-other pairs p name b)
]

pub has-new : (t u : SubstituteTable) (p : AliasPair) → is_some (found_at t p.alias) ≡ false → IsUpdated p.alias t.by_alias u.by_alias (Some p.substitute) → HasPairs t u (p ∷ [])
has-new t u p e up pairs h name = elim (cases_Bool (bytes_eq p.alias name)) [
  | inl b ↦
      let same : p.alias ≡ name = (bytes_eq-Decides p.alias name).0 b in
      let none : is_some (substitute pairs name) ≡ false = sym (ap is_some (h name)) ∙ subst (λ n. is_some (found_at t n) ≡ false) same e in
      up name ∙ cond-true (bytes_eq p.alias name) (Some p.substitute) (found_at t name) b
      ∙ sym (sub-none pairs (p ∷ []) name none ∙ cond-true (bytes_eq p.alias name) (Some p.substitute) None b)
  | inr b ↦ up name ∙ cond-false (bytes_eq p.alias name) (Some p.substitute) (found_at t name) b ∙ h name ∙ sym (sub-other pairs p name b)
]

pub more-pairs : (t u v : SubstituteTable) (xs ys zs : List AliasPair) → zs ≡ xs ++ ys → HasPairs t u xs → HasPairs u v ys → HasPairs t v zs
more-pairs t u v xs ys zs e f g pairs h =
    subst (IsSubstituteTable v) (append_assoc pairs xs ys ∙ ap (λ zs. pairs ++ zs) (sym e)) (g (pairs ++ xs) (f pairs h))

pub all-pairs-in : (t u : SubstituteTable) (all : List AliasPair) → t.by_alias.entries ≡ [] → HasPairs t u all → IsSubstituteTable u all
all-pairs-in t u all e g = g [] (λ name. ap (λ xs. lookup (is_at (λ k. name_cmp name k.now)) xs) e)

pub take-next : {A : Type 0} (xs : List A) (i : ℕ) (x : A) → x ≡ get_or xs i x → i < length xs → take (i + 1) xs ≡ take i xs ++ x ∷ []
take-next [] i x e h = absurd (omega (arith, h))
take-next (y ∷ ys) zero x e h = ap (λ z. z ∷ []) (sym e)
take-next (y ∷ ys) (suc i) x e h =
    let same : suc (i + 1) ≡ suc i + 1 = omega arith in
    ap (λ n. take n (y ∷ ys)) (sym same) ∙ ap (λ zs. y ∷ zs) (take-next ys i x e (omega (arith, h)))

pub empty-table : (t : SubstituteTable) (pairs : List AliasPair) (b : Bool) → (IsTrue b ↔ (btree_map_len t.by_alias ≡ 0)) → IsSubstituteTable t pairs → b ≡ true → (name : List ℕ) → substitute pairs name ≡ None
empty-table t pairs b i h e name =
    sym (h name) ∙ ap (λ xs. lookup (is_at (λ k. name_cmp name k.now)) xs) (no_items t.by_alias.entries (i.0 (subst IsTrue (sym e) refl)))

-- ---- The end of the aliases of a name

pub end-step : (ms : List (List Rec)) (n : ℕ) (name other : List ℕ) (o : Option (List ℕ)) → 0 < n → o ≡ next_name ms name → o ≡ Some other → end_among ms (n - 1) other ≡ end_among ms n name
end-step ms zero name other o low e s = absurd (omega (arith, low))
end-step ms (suc n) name other o low e s =
    let back : suc n - 1 ≡ n = omega arith in
    ap (λ k. end_among ms k other) back ∙ ap (end_or (end_among ms n) name) (sym s ∙ e)

pub end-here : (ms : List (List Rec)) (n : ℕ) (name : List ℕ) (o : Option (List ℕ)) → 0 < n → o ≡ next_name ms name → o ≡ None → Some name ≡ end_among ms n name
end-here ms zero name o low e s = absurd (omega (arith, low))
end-here ms (suc n) name o low e s = ap (end_or (end_among ms n) name) (sym s ∙ e)

pub no-end : (ms : List (List Rec)) (n : ℕ) (name : List ℕ) → n ≤ 0 → None ≡ end_among ms n name
no-end ms zero name e = refl
no-end ms (suc n) name e = absurd (omega (arith, e))

pub ends-after : (ms : List (List Rec)) (o found : Option (List ℕ)) → ((name : List ℕ) → o ≡ Some name → found ≡ end_among ms most name) → (o ≡ None → found ≡ None) → found ≡ end_after ms o
ends-after ms None found f g = g refl
ends-after ms (Some name) found f g = f name refl

-- The publics do not count where there are no aliases.
pub both-none : (b : Bool) (o : Option (List ℕ)) → o ≡ None → o ≡ cond b None o
both-none true o e = e
both-none false o e = refl

-- ---- The own defaults of externals

equal : (a : ℕ) → is_eq (nat_cmp a a) ≡ true
equal a = ap (λ b. is_eq (cond b Less (cond (a == a) Equal Greater))) (le-ltb a a (omega arith)) ∙ ap (λ b. is_eq (cond b Equal Greater)) (eq-eqb a a refl)

other-way : (t : Bool) → is_eq (cond t Less Greater) ≡ false
other-way true = refl
other-way false = refl

unequal : (a b : ℕ) → (a == b) ≡ false → is_eq (nat_cmp a b) ≡ false
unequal a b e = ap (λ x. is_eq (cond (nat_lt a b) Less (cond x Equal Greater))) e ∙ other-way (nat_lt a b)

or-none : {A : Type 0} (o : Option A) → option_or o None ≡ o
or-none None = refl
or-none (Some x) = refl

map-or : {A B : Type 0} (f : A → B) (o p : Option A) → option_map f (option_or o p) ≡ option_or (option_map f o) (option_map f p)
map-or f None p = refl
map-or f (Some x) p = refl

-- The result of a look-up.
pub looked-none : (o : Option (Bor ℕ)) → is_some o ≡ false → option_copied o ≡ None
looked-none None e = refl
looked-none (Some x) e = absurd cc

pub looked-some : (o : Option (Bor ℕ)) → is_some o ≡ true → (d : ℕ) × (option_copied o ≡ Some d)
looked-some None e = absurd cc
looked-some (Some x) e = (x.now, refl)

abbrev OwnMap : Type 0
OwnMap = BTreeMap ℕ ℕ

-- One pair more at the end.
module _ (ps : List WeakPair) (p : WeakPair) (i : ℕ) where
  own-more : own_default (ps ++ p ∷ []) i ≡ option_or (own_default ps i) (own_default (p ∷ []) i)
  own-more = ap (option_map default_in) (find-append (is_pair_of i) ps (p ∷ [])) ∙ map-or default_in (find (is_pair_of i) ps) (find (is_pair_of i) (p ∷ []))

  own-first : own_default ps i ≡ None → (p.weak == i) ≡ true → own_default (ps ++ p ∷ []) i ≡ Some p.substitute
  own-first e b = own-more ∙ ap₂ (λ o t. option_or o (option_map default_in (cond t (Some p) None))) e b

  own-same : (p.weak == i) ≡ false → own_default (ps ++ p ∷ []) i ≡ own_default ps i
  own-same b = own-more ∙ ap (λ t. option_or (own_default ps i) (option_map default_in (cond t (Some p) None))) b ∙ or-none (own_default ps i)

  own-there : (d : ℕ) → own_default ps i ≡ Some d → own_default (ps ++ p ∷ []) i ≡ Some d
  own-there d e = own-more ∙ ap (λ o. option_or o (own_default (p ∷ []) i)) e

module _ (p : WeakPair) where
  pub own-again : (t : OwnMap) (d : ℕ) → get nat_cmp t p.weak ≡ Some d → HasOwn t t p
  own-again t d g ps h i = elim (cases_Bool (p.weak == i)) [
    | inl b ↦
        let there : get nat_cmp t i ≡ Some d = ap (get nat_cmp t) (sym (eqb-true p.weak i b)) ∙ g in
        there ∙ sym (own-there ps p i d (sym (h i) ∙ there))
    | inr b ↦ h i ∙ sym (own-same ps p i b)
  ]

  pub own-new : (t u : OwnMap) → get nat_cmp t p.weak ≡ None → Updates nat_cmp t u p.weak (Some p.substitute) → HasOwn t u p
  own-new t u g n ps h i = elim (cases_Bool (p.weak == i)) [
    | inl b ↦
        let this : p.weak ≡ i = eqb-true p.weak i b in
        let none : own_default ps i ≡ None = sym (h i) ∙ ap (get nat_cmp t) (sym this) ∙ g in
        n.0 i ∙ cond-true (is_eq (nat_cmp p.weak i)) (Some p.substitute) (get nat_cmp t i) (ap (λ k. is_eq (nat_cmp p.weak k)) (sym this) ∙ equal p.weak)
        ∙ sym (own-first ps p i none b)
    | inr b ↦
        n.0 i ∙ cond-false (is_eq (nat_cmp p.weak i)) (Some p.substitute) (get nat_cmp t i) (unequal p.weak i b)
        ∙ h i ∙ sym (own-same ps p i b)
  ]

-- The external that is the own default of one.
module _ (m : List Rec) (i : ℕ) (o : Option ℕ) where
  pub own-none : o ≡ own_default (weak_pairs m) i → o ≡ None → None ≡ own_entry m i
  own-none e n = ap (option_and_then (entry (named_externals m))) (sym n ∙ e)

  pub own-at : (d : ℕ) → o ≡ own_default (weak_pairs m) i → o ≡ Some d → entry (named_externals m) d ≡ own_entry m i
  own-at d e s = ap (option_and_then (entry (named_externals m))) (sym s ∙ e)

  pub own-zero : (d : ℕ) → o ≡ own_default (weak_pairs m) i → o ≡ Some d → d ≡ 0 → None ≡ own_entry m i
  own-zero d e s z = ap (entry (named_externals m)) (sym z) ∙ own-at d e s

  pub own-past : (d : ℕ) → o ≡ own_default (weak_pairs m) i → o ≡ Some d → length (externals m) < d → None ≡ own_entry m i
  own-past d e s h = sym (no_entry (named_externals m) d (omega (arith, h, named-count m))) ∙ own-at d e s

pub followed-own : (m : List Rec) (i : ℕ) (x y : List ℕ × Bool) → Some x ≡ own_entry m i → x ≡ followed_entry m (i, y)
followed-own m i x y e = ap (λ o. unwrap_or o y) e

pub on-ok : {A E P Q : Type 0} (r : Result A E) → (P → Q) → OnOk r P → OnOk r Q
on-ok (Ok x) f h = f h
on-ok (Err e) f h = tt

pub followed-self : (m : List Rec) (i : ℕ) (y : List ℕ × Bool) → None ≡ own_entry m i → y ≡ followed_entry m (i, y)
followed-self m i y e = ap (λ o. unwrap_or o y) e

-- ---- The defaults of a module

module _ (ms : List (List Rec)) (m : List Rec) where
  abbrev pub defaults_from : ℕ → List Default
  defaults_from i = flat_map (default_of ms m) (enumerate_from i (drop (i - 1) (named_externals m)))

  pub next_default : (i : ℕ) (x : List ℕ × Bool) → 1 ≤ i → entry (named_externals m) i ≡ Some x → defaults_from i ≡ default_of ms m (i, x) ++ defaults_from (i + 1)
  next_default i x low e =
      let back : suc (i - 1) ≡ i = omega (arith, low) in
      let next : i - 1 + 1 ≡ i + 1 - 1 = omega (arith, low) in
      let s = drop-some (named_externals m) (i - 1) x (sym (entry-suc (named_externals m) (i - 1)) ∙ ap (entry (named_externals m)) back ∙ e) in
      ap (λ xs. flat_map (default_of ms m) (enumerate_from i xs)) (s ∙ ap (λ n. x ∷ drop n (named_externals m)) next)

  pub no_defaults : (i : ℕ) → length (externals m) + 1 ≤ i → defaults_from i ≡ []
  no_defaults i l = ap (λ xs. flat_map (default_of ms m) (enumerate_from i xs)) (drop-past (named_externals m) (i - 1) (omega (arith, l, named-count m)))

  -- Without an alias no external has a default.
  module _ (none : (name : List ℕ) → next_name ms name ≡ None) where
    default-none : (i : ℕ) (x : List ℕ × Bool) → default_by ms i x ≡ []
    default-none i x = elim (cases_Bool x.1) [
      | inl b ↦ cond-true x.1 [] (default_named i (end_after ms (next_name ms x.0))) b
      | inr b ↦ cond-false x.1 [] (default_named i (end_after ms (next_name ms x.0))) b ∙ ap (λ o. default_named i (end_after ms o)) (none x.0)
    ]

    all-none : (es : List (ℕ × (List ℕ × Bool))) → flat_map (default_of ms m) es ≡ []
    all-none [] = refl
    all-none (e ∷ es) = ap₂ (λ xs ys. xs ++ ys) (default-none e.0 (followed_entry m e)) (all-none es)

    pub without_aliases : [] ≡ defaults ms m
    without_aliases = sym (all-none (enumerate_from 1 (named_externals m)))

-- ---- The last record of a module

-- What is left of bytes begins at a record: these are before it.
pub record IsAtRecord (bytes rest : List ℕ) : Type 0 where
  pub before : List Raw
  pub after : List Raw
  pub records : records_in bytes ≡ before ++ after
  pub in_front : bytes ≡ flat_map raw_bytes before ++ rest
  pub left : rest ≡ flat_map raw_bytes after
  pub readable : All IsReadable after

pub at-first : (profile : Profile) (limits : Limits) (bytes : List ℕ) → IsWellFormed profile limits bytes (records_in bytes) → IsAtRecord bytes bytes
at-first profile limits bytes w =
    record {
      before = [];
      after = records_in bytes;
      records = refl;
      in_front = refl;
      left = w.framed.spelled;
      readable = λ k d low. record { is_record = w.framed.each k d low; taken = w.framed.types k d low; typed = (well-read profile limits bytes (records_in bytes) w).spelled k d low };
    }

some-records : (rs : List Raw) (bytes : List ℕ) → bytes ≡ flat_map raw_bytes rs → 0 < length bytes → (r : Raw) × (more : List Raw) × (rs ≡ r ∷ more)
some-records [] bytes e low = absurd (none (length bytes) (ap length e) low)
  where
    none : (n : ℕ) → n ≡ 0 → 0 < n → ⊥
    none n e h = omega (arith, e, h)
some-records (r ∷ more) bytes e low = (r, more, refl)

no-more : (rs : List Raw) → length (flat_map raw_bytes rs) ≡ 0 → rs ≡ []
no-more [] e = refl
no-more (r ∷ rs) e = absurd (none _ e)
  where
    none : (n : ℕ) → suc n ≡ 0 → ⊥
    none n e = omega (arith, e)

module _ (bytes rest : List ℕ) (a : IsAtRecord bytes rest) (low : 0 < length rest) where
  left-readable : AreReadable rest
  left-readable = record { records = a.after; spelled = a.left; readable = a.readable }

  pub at-starts : StartsWithRecord rest
  at-starts = readable-starts rest left-readable low

  abbrev parts : (r : Raw) × (more : List Raw) × (a.after ≡ r ∷ more)
  parts = some-records a.after rest a.left low

  whole : rest ≡ raw_bytes parts.0 ++ flat_map raw_bytes parts.1
  whole = a.left ∙ ap (flat_map raw_bytes) parts.2

  here : All IsReadable (parts.0 ∷ parts.1)
  here = subst (All IsReadable) parts.2 a.readable

  after-is : after_front rest ≡ flat_map raw_bytes parts.1
  after-is = ap after_front whole ∙ after_raw parts.0 (here 0 parts.0 (omega arith)).is_record.0 (flat_map raw_bytes parts.1)

  pub at-next : (next : List ℕ) → next ≡ after_front rest → IsAtRecord bytes next
  at-next next e = record {
    before = a.before ++ parts.0 ∷ [];
    after = parts.1;
    records = a.records ∙ ap (λ rs. a.before ++ rs) parts.2 ∙ sym (append_assoc a.before (parts.0 ∷ []) parts.1);
    in_front =
        a.in_front ∙ ap (λ bs. flat_map raw_bytes a.before ++ bs) whole
        ∙ sym (append_assoc (flat_map raw_bytes a.before) (raw_bytes parts.0) (flat_map raw_bytes parts.1))
        ∙ ap₂ (λ xs ys. xs ++ ys) (sym (flat_map-append raw_bytes a.before (parts.0 ∷ []) ∙ ap (λ bs. flat_map raw_bytes a.before ++ bs) (append-nil (raw_bytes parts.0)))) (sym (e ∙ after-is));
    left = e ∙ after-is;
    readable = λ k d l. here (suc k) d (omega (arith, l));
  }

  pub at-less : (next : List ℕ) → next ≡ after_front rest → length next < length rest
  at-less next e = readable-less rest left-readable low next e

  pub at-end : (next : List ℕ) → next ≡ after_front rest → length next ≡ 0 → (at : ℕ) → at ≡ length bytes - length rest → IsSplit bytes (take at bytes) (drop at bytes)
  at-end next e none at w =
      let nothing : parts.1 ≡ [] = no-more parts.1 (ap length (sym (e ∙ after-is)) ∙ none) in
      let front = flat_map raw_bytes a.before in
      let size : at ≡ length front = let s = ap length a.in_front ∙ length-append front rest in omega (arith, w, s) in
      record {
        before = a.before;
        last = parts.0;
        records = a.records ∙ ap (λ rs. a.before ++ rs) (parts.2 ∙ ap (λ rs. parts.0 ∷ rs) nothing);
        in_front = ap₂ (λ n bs. take n bs) size a.in_front ∙ take-append_seam front rest;
        at_end = ap₂ (λ n bs. drop n bs) size a.in_front ∙ drop-append_seam front rest ∙ whole ∙ ap (λ rs. raw_bytes parts.0 ++ flat_map raw_bytes rs) nothing ∙ append-nil (raw_bytes parts.0);
      }

  pub at-size : length rest ≤ length bytes
  at-size = let s = ap length a.in_front ∙ length-append (flat_map raw_bytes a.before) rest in omega (arith, s)

-- ---- The modules

pub with-is : (m n : Module) (vs ds : List Default) → vs ≡ ds → (length vs == 0) ≡ false → IsMadeWith m vs (Ok n) → IsWith m ds n
with-is m n [] ds e f h = absurd cc
with-is m n (v ∷ vs) ds e f h = subst (λ xs. IsWith m xs n) e h

pub without-is : (m : Module) (ds : List Default) → ds ≡ [] → IsWith m ds m
without-is m ds e = subst (λ xs. IsWith m xs m) (sym e) refl

module _ {A B : Type 0} (R : A → B → Type 0) where
  -- The items so far have their others, and those that are left have not.
  pub zip-more : (xs left rest : List A) (all new : List B) (x : A) (y : B) → ((later : List B) → AllZip R left later → AllZip R xs (all ++ later)) → left ≡ x ∷ rest → R x y → new ≡ all ++ y ∷ []
      → (later : List B) → AllZip R rest later → AllZip R xs (new ++ later)
  zip-more xs left rest all new x y held e r added later h =
      subst (AllZip R xs) (sym (ap (λ ys. ys ++ later) added ∙ append_assoc all (y ∷ []) later)) (held (y ∷ later) (subst (λ zs. AllZip R zs (y ∷ later)) (sym e) (r, h)))

  pub zip-end : (xs left : List A) (all : List B) → ((later : List B) → AllZip R left later → AllZip R xs (all ++ later)) → left ≡ [] → AllZip R xs all
  zip-end xs left all held e = subst (AllZip R xs) (append-nil all) (held [] (subst (λ zs. AllZip R zs []) (sym e) tt))

  pub zip-length : (xs : List A) (ys : List B) → AllZip R xs ys → length ys ≡ length xs
  zip-length [] [] h = refl
  zip-length [] (y ∷ ys) h = absurd h
  zip-length (x ∷ xs) [] h = absurd h
  zip-length (x ∷ xs) (y ∷ ys) (r, h) = ap (λ n. suc n) (zip-length xs ys h)

pub is-empty : (bytes : List ℕ) (b : Bool) → b ≡ (length bytes == 0) → b ≡ true → length bytes ≡ 0
is-empty bytes b e t = eqb-true (length bytes) 0 (sym e ∙ t)

pub contains-at : {A : Type 0} (xs : List A) (i : ℕ) (x : A) → x ≡ get_or xs i x → i < length xs → Contains xs x
contains-at xs i x e h = subst (Contains xs) (sym e) (Contains-get_or xs i x h)

pub is-fault : (ms : List Module) (f : FollowingFault) → HasFault ms f → IsFollowingFault ms f
is-fault ms fault.Memory h = tt
is-fault ms fault.TooMany h = h
is-fault ms (fault.Refused why at) h = h

pub all-followed : (ms : List (List Rec)) (ns : List Module) (rs : List (Option Module)) → AllZip (IsReplacement ms) ns rs → AllZip (IsFollowed ms) ns (replaced ns rs)
all-followed ms [] [] h = tt
all-followed ms [] (r ∷ rs) h = absurd h
all-followed ms (n ∷ ns) [] h = absurd h
all-followed ms (n ∷ ns) (Some k ∷ rs) (r, h) = (r, all-followed ms ns rs h)
all-followed ms (n ∷ ns) (None ∷ rs) (r, h) = (without-is n (defaults ms (recs_of n.bytes)) r, all-followed ms ns rs h)

-- ---- The module that asks for the names of the linker
