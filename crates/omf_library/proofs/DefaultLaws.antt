-- Names, each once.
use Rattle.std.proofs.Common.{◌≡◌, ℕ, Bool, true, false, List, [], ◌∷◌, ◌++◌, refl, sym, ap, ◌∙◌, subst, inl, inr, append-nil, Bor}
use Rattle.std.specs.Prelude.{Some, is_some, not, filter, bytes_eq, ◌||◌}
use Rattle.std.specs.BTreeMap.{get_by, is_at}
use Rattle.std.specs.Map.{lookup}
use Rattle.std.proofs.lemmas.Bool.{cond-true, cond-false, cases_Bool}
use Rattle.std.proofs.lemmas.List.Elements.{filter-append}
use Rattle.std.proofs.lemmas.Slice.Eq.{bytes_eq-Decides}
use Rattle.omf_names.specs.Names.{name_cmp}
use Rattle.omf_names.proofs.NameTables.{IsUpdated}
use Rattle.omf_library.specs.Needed.{has_name}
use Rattle.omf_library.specs.Defaults.{once}
use Rattle.omf_library.specs.Inner.Asked.{HasAsked, is_known}
use Rattle.omf_library.specs.Inner.Names.{names_seen}
use Rattle.omf_library.specs.declared.needed.defaults.Asked.{Asked}
use Rattle.omf_library.proofs.NeededLaws.{has-append, or-false}

abbrev differs : List ℕ → List ℕ → Bool
differs x y = not (bytes_eq x y)

drop-same : (x y : List ℕ) (zs : List (List ℕ)) → bytes_eq x y ≡ true → filter (differs x) (zs ++ y ∷ []) ≡ filter (differs x) zs
drop-same x y zs b = filter-append (differs x) zs (y ∷ []) ∙ ap (λ ws. filter (differs x) zs ++ ws) (cond-false (differs x y) (y ∷ []) [] (ap not b)) ∙ append-nil (filter (differs x) zs)

keep-other : (x y : List ℕ) (zs : List (List ℕ)) → bytes_eq x y ≡ false → filter (differs x) (zs ++ y ∷ []) ≡ filter (differs x) zs ++ y ∷ []
keep-other x y zs b = filter-append (differs x) zs (y ∷ []) ∙ ap (λ ws. filter (differs x) zs ++ ws) (cond-true (differs x y) (y ∷ []) [] (ap not b))

once-new : (xs : List (List ℕ)) (y : List ℕ) → has_name xs y ≡ false → once (xs ++ y ∷ []) ≡ once xs ++ y ∷ []
once-new [] y h = refl
once-new (x ∷ xs) y h = elim (cases_Bool (bytes_eq x y)) [
  | inl b ↦ let clash : true ≡ false = sym (ap (λ t. t || has_name xs y) b) ∙ h in absurd cc
  | inr b ↦
      let rest : has_name xs y ≡ false = sym (ap (λ t. t || has_name xs y) b) ∙ h in
      ap (λ zs. x ∷ zs) (ap (filter (differs x)) (once-new xs y rest) ∙ keep-other x y (once xs) b)
]

once-known : (xs : List (List ℕ)) (y : List ℕ) → has_name xs y ≡ true → once (xs ++ y ∷ []) ≡ once xs
once-known [] y h = absurd cc
once-known (x ∷ xs) y h = elim (cases_Bool (bytes_eq x y)) [
  | inl b ↦ elim (cases_Bool (has_name xs y)) [
    | inl c ↦ ap (λ zs. x ∷ filter (differs x) zs) (once-known xs y c)
    | inr c ↦ ap (λ zs. x ∷ zs) (ap (filter (differs x)) (once-new xs y c) ∙ drop-same x y (once xs) b)
  ]
  | inr b ↦
      let rest : has_name xs y ≡ true = sym (ap (λ t. t || has_name xs y) b) ∙ h in
      ap (λ zs. x ∷ filter (differs x) zs) (once-known xs y rest)
]

has-other : (done : List (List ℕ)) (y name : List ℕ) → bytes_eq y name ≡ false → has_name (done ++ y ∷ []) name ≡ has_name done name
has-other done y name b = has-append done (y ∷ []) name ∙ ap (λ t. has_name done name || (t || false)) b ∙ or-false (has_name done name)

or-true : (b : Bool) → (b || true) ≡ true
or-true true = refl
or-true false = refl

has-here : (done : List (List ℕ)) (y name : List ℕ) → bytes_eq y name ≡ true → has_name (done ++ y ∷ []) name ≡ true
has-here done y name b = has-append done (y ∷ []) name ∙ ap (λ t. has_name done name || (t || false)) b ∙ or-true (has_name done name)

pub asked-known : (a : Asked) (done : List (List ℕ)) (y : List ℕ) → is_known a y ≡ true → HasAsked a done → HasAsked a (done ++ y ∷ [])
asked-known a done y k h = record {
  kept = h.kept ∙ sym (once-known done y (sym (h.known y) ∙ k));
  known = λ name. elim (cases_Bool (bytes_eq y name)) [
    | inl b ↦ subst (λ z. is_known a z ≡ true) ((bytes_eq-Decides y name).0 b) k ∙ sym (has-here done y name b)
    | inr b ↦ h.known name ∙ sym (has-other done y name b)
  ];
}

pub asked-new : (a b : Asked) (done : List (List ℕ)) (y : List ℕ) (v : Unit {0}) → is_known a y ≡ false → names_seen b.names.items ≡ names_seen a.names.items ++ y ∷ []
    → IsUpdated y a.known b.known (Some v) → HasAsked a done → HasAsked b (done ++ y ∷ [])
asked-new a b done y v k names up h = record {
  kept = names ∙ ap (λ zs. zs ++ y ∷ []) h.kept ∙ sym (once-new done y (sym (h.known y) ∙ k));
  known = λ name. elim (cases_Bool (bytes_eq y name)) [
    | inl e ↦
        ap is_some (up name ∙ cond-true (bytes_eq y name) (Some v) (get_by (λ k. name_cmp name k.now) a.known) e)
        ∙ sym (has-here done y name e)
    | inr e ↦
        ap is_some (up name ∙ cond-false (bytes_eq y name) (Some v) (get_by (λ k. name_cmp name k.now) a.known) e)
        ∙ h.known name ∙ sym (has-other done y name e)
  ];
}

pub seen-push : (ns ms : List (Bor (List ℕ))) (b : Bor (List ℕ)) → ms ≡ ns ++ b ∷ [] → names_seen ms ≡ names_seen ns ++ b.now ∷ []
seen-push ns ms b e = ap names_seen e ∙ pushed ns where
  pushed : (xs : List (Bor (List ℕ))) → names_seen (xs ++ b ∷ []) ≡ names_seen xs ++ b.now ∷ []
  pushed [] = refl
  pushed (x ∷ xs) = ap (λ zs. x.now ∷ zs) (pushed xs)

pub asked-none : (a : Asked) → a.names.items ≡ [] → a.known.entries ≡ [] → HasAsked a []
asked-none a e f = record { kept = ap names_seen e; known = λ name. ap (λ xs. is_some (lookup (is_at (λ k. name_cmp name k.now)) xs)) f }
