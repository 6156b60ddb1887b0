-- A table of the addresses of publics grows public by public.
use Rattle.std.proofs.Common.{◌≡◌, ℕ, List, [], ◌∷◌, ◌++◌, refl, sym, ap, ◌∙◌, inl, inr, append-nil}
use Rattle.std.specs.Prelude.{◌≢◌, filter_map, Option, Some, None, bytes_eq, cond, not, is_some}
use Rattle.std.specs.BTreeMap.{get_by, is_at}
use Rattle.std.specs.List.{cons_option}
use Rattle.std.specs.Map.{lookup}
use Rattle.std.proofs.lemmas.Bool.{cond-true, cond-false, cases_Bool, false_from_ne_true}
use Rattle.std.proofs.lemmas.Bool.Decides.{not_from_Decides}
use Rattle.std.proofs.lemmas.List.Elements.{filter_map-append}
use Rattle.std.proofs.lemmas.Slice.Eq.{bytes_eq-Decides}
use Rattle.omf_names.specs.Names.{name_cmp}
use Rattle.omf_names.proofs.NameTables.{IsUpdated}
use Rattle.omf_map.specs.Inner.PublicAddresses.{Table, address_after, summed, HasMore, IsTable}
use Rattle.omf_map.specs.Addresses.{NamedAddress, is_unnamed, of_name, the_one}

abbrev pub found_at : Table → List ℕ → Option (Option ℕ)
found_at m name = get_by (λ k. name_cmp name k.now) m

summed-more : (xs : List (Option ℕ)) (a : Option ℕ) → summed (xs ++ a ∷ []) ≡ Some (address_after a (summed xs))
summed-more [] a = refl
summed-more (b ∷ []) a = refl
summed-more (b ∷ c ∷ xs) a = refl

named-here : (name : List ℕ) (p : NamedAddress) → name ≡ p.0 → filter_map (of_name name) (p ∷ []) ≡ p.1 ∷ []
named-here name p e = ap (λ b. cons_option (cond b (Some p.1) None) []) ((bytes_eq-Decides name p.0).1 e)

named-elsewhere : (name : List ℕ) (p : NamedAddress) → name ≢ p.0 → filter_map (of_name name) (p ∷ []) ≡ []
named-elsewhere name p n = ap (λ b. cons_option (cond b (Some p.1) None) []) (false_from_ne_true (bytes_eq name p.0) (λ e. n ((bytes_eq-Decides name p.0).0 e)))

-- One more public.
module _ (m n : Table) (p : NamedAddress) (a : Option ℕ) (e : a ≡ address_after p.1 (found_at m p.0)) where
  module _ (u : IsUpdated p.0 m n (Some a)) where
    pub table-more : HasMore m n (p ∷ [])
    table-more among h name = elim (cases_Bool (bytes_eq p.0 name)) [
      | inl b ↦
          let same : p.0 ≡ name = (bytes_eq-Decides p.0 name).0 b in
          u name ∙ cond-true (bytes_eq p.0 name) (Some a) (found_at m name) b
          ∙ ap Some e ∙ ap (λ x. Some (address_after p.1 (found_at m x))) same ∙ ap (λ o. Some (address_after p.1 o)) (h name)
          ∙ sym (summed-more (filter_map (of_name name) among) p.1)
          ∙ ap (λ xs. summed (filter_map (of_name name) among ++ xs)) (sym (named-here name p (sym same)))
          ∙ ap summed (sym (filter_map-append (of_name name) among (p ∷ [])))
      | inr b ↦
          let other : name ≢ p.0 = λ s. not_from_Decides (bytes_eq p.0 name) (bytes_eq-Decides p.0 name) b (sym s) in
          u name ∙ cond-false (bytes_eq p.0 name) (Some a) (found_at m name) b
          ∙ h name ∙ ap summed (sym (append-nil (filter_map (of_name name) among)))
          ∙ ap (λ xs. summed (filter_map (of_name name) among ++ xs)) (sym (named-elsewhere name p other))
          ∙ ap summed (sym (filter_map-append (of_name name) among (p ∷ [])))
    ]

-- An empty map is the table of no publics.
pub fill-empty : (m n : Table) (all : List NamedAddress) → m.entries ≡ [] → HasMore m n all → IsTable n all
fill-empty m n all e g = g [] (λ name. ap (lookup (is_at (λ k. name_cmp name k.now))) e)

-- The address of the one public is what the table has.
pub the_one-summed : (xs : List (Option ℕ)) (a : Option ℕ) → summed xs ≡ Some a → the_one xs ≡ a
the_one-summed [] a e = absurd cc
the_one-summed (b ∷ []) a e = cc
the_one-summed (b ∷ c ∷ xs) a e = cc

pub the_one-none : (xs : List (Option ℕ)) → summed xs ≡ None → the_one xs ≡ None
the_one-none [] e = refl
the_one-none (b ∷ []) e = absurd cc
the_one-none (b ∷ c ∷ xs) e = refl

pub lacking : (xs : List (Option ℕ)) → not (is_some (summed xs)) ≡ is_unnamed xs
lacking [] = refl
lacking (a ∷ []) = refl
lacking (a ∷ b ∷ more) = refl
