-- A table of publics without places grows public by public.
use Rattle.std.proofs.Common.{◌≡◌, ℕ, ◌+◌, List, [], ◌∷◌, ◌++◌, length, arith, refl, sym, ap, ap₂, ◌∙◌, subst, inl, inr, append-nil, Bor}
use Rattle.std.specs.Prelude.{◌≢◌, flat_map, filter_map, Option, Some, None, bytes_eq, cond, Bool, is_some, true, false}
use Rattle.std.specs.BTreeMap.{BTreeMap, get_by, is_at}
use Rattle.std.specs.List.{cons_option}
use Rattle.std.specs.Map.{lookup}
use Rattle.std.proofs.lemmas.Bool.{cond-true, cond-false, cases_Bool, false_from_ne_true, true≢false, false≢true}
use Rattle.std.proofs.lemmas.Bool.Decides.{not_from_Decides}
use Rattle.std.proofs.lemmas.List.Elements.{filter_map-append}
use Rattle.omf_names.specs.Names.{name_cmp}
use Rattle.omf_names.proofs.NameTables.{twice_updated}
use Rattle.std.proofs.lemmas.Slice.Eq.{bytes_eq-Decides}
use Rattle.omf_frame.specs.Framing.{Raw, raw_bytes}
use Rattle.omf_frame.specs.declared.fault.Place.{Place}
use Rattle.omf_records.specs.Inner.Reading.{typed}
use Rattle.omf_records.specs.Values.{Rec}
use Rattle.omf_check.specs.Listed.{placed_from}
use Rattle.omf_check.specs.WellFormed.{recs}
use Rattle.omf_placement.specs.declared.several.sources.Base.{Base}
use Rattle.omf_placement.specs.declared.several.sources.Source.{Source}
use Rattle.omf_placement.specs.declared.several.sources.Definer.{Definer}
use Rattle.omf_placement.specs.declared.several.sources.SourceTable.{SourceTable}
use Rattle.omf_placement.specs.declared.several.sources.Definer.TheVariants.{Only, Several}
use Rattle.omf_placement.specs.Inner.Linkage.{NamedSource, source_at, record_sources, sources, of_source, definer, definer_after, AreSourcesApart, IsSourceTable, HasMoreSources}

definer-more : (ss : List Source) (s : Source) → definer (ss ++ s ∷ []) ≡ Some (definer_after s (definer ss))
definer-more [] s = refl
definer-more (t ∷ []) s = refl
definer-more (t ∷ u ∷ ss) s = refl

here : (name : List ℕ) (s : NamedSource) → name ≡ s.name → filter_map (of_source name) (s ∷ []) ≡ s.source ∷ []
here name s e = ap (λ b. cons_option (cond b (Some s.source) None) []) ((bytes_eq-Decides name s.name).1 e)

elsewhere : (name : List ℕ) (s : NamedSource) → name ≢ s.name → filter_map (of_source name) (s ∷ []) ≡ []
elsewhere name s n = ap (λ b. cons_option (cond b (Some s.source) None) []) (false_from_ne_true (bytes_eq name s.name) (λ e. n ((bytes_eq-Decides name s.name).0 e)))

abbrev pub Map : Type 0
Map = BTreeMap (Bor (List ℕ)) Definer

abbrev pub definer_at : Map → List ℕ → Option Definer
definer_at m name = get_by (λ k. name_cmp name k.now) m

none-before : (s : Source) (old : Option Definer) → is_some old ≡ false → Only s ≡ definer_after s old
none-before s None e = refl
none-before s (Some d) e = absurd (true≢false e)

not-there : (old : Option Definer) → is_some old ≡ false → old ≡ None
not-there None e = refl
not-there (Some d) e = absurd (true≢false e)

some-none : {d : Definer} → Some d ≡ None → ⊥
some-none e = true≢false (ap is_some e)

some-before : (s : Source) (old : Option Definer) → is_some old ≡ true → Several ≡ definer_after s old
some-before s None e = absurd (false≢true e)
some-before s (Some d) e = refl

-- One more public.
module _ (t u : SourceTable) (s : NamedSource) (d : Definer) (e : d ≡ definer_after s.source (definer_at t.by_name s.name)) where
  module _ (g : (name : List ℕ) → definer_at u.by_name name ≡ cond (bytes_eq s.name name) (Some d) (definer_at t.by_name name)) where
    source-more : (among : List NamedSource) → IsSourceTable t among → (name : List ℕ) → definer_at u.by_name name ≡ definer (filter_map (of_source name) (among ++ s ∷ []))
    source-more among h name = elim (cases_Bool (bytes_eq s.name name)) [
      | inl b ↦
          let same : s.name ≡ name = (bytes_eq-Decides s.name name).0 b in
          g name ∙ cond-true (bytes_eq s.name name) (Some d) (definer_at t.by_name name) b
          ∙ ap Some e ∙ ap (λ x. Some (definer_after s.source (definer_at t.by_name x))) same ∙ ap (λ o. Some (definer_after s.source o)) (h.found name)
          ∙ sym (definer-more (filter_map (of_source name) among) s.source)
          ∙ ap (λ xs. definer (filter_map (of_source name) among ++ xs)) (sym (here name s (sym same)))
          ∙ ap definer (sym (filter_map-append (of_source name) among (s ∷ [])))
      | inr b ↦
          let other : name ≢ s.name = λ q. not_from_Decides (bytes_eq s.name name) (bytes_eq-Decides s.name name) b (sym q) in
          g name ∙ cond-false (bytes_eq s.name name) (Some d) (definer_at t.by_name name) b
          ∙ h.found name ∙ ap definer (sym (append-nil (filter_map (of_source name) among)))
          ∙ ap (λ xs. definer (filter_map (of_source name) among ++ xs)) (sym (elsewhere name s other))
          ∙ ap definer (sym (filter_map-append (of_source name) among (s ∷ [])))
    ]

-- No public has a name without an entry; so with one more there is one at most.
none-there : (ss : List Source) → definer ss ≡ None → ss ≡ []
none-there [] e = refl
none-there (s ∷ []) e = absurd (some-none e)
none-there (s ∷ r ∷ ss) e = absurd (some-none e)

still-apart : (among : List NamedSource) (s : NamedSource) → AreSourcesApart among → definer (filter_map (of_source s.name) among) ≡ None → AreSourcesApart (among ++ s ∷ [])
still-apart among s apart none name = elim (cases_Bool (bytes_eq name s.name)) [
  | inl b ↦
      let same : name ≡ s.name = (bytes_eq-Decides name s.name).0 b in
      let nobody : filter_map (of_source name) among ≡ [] = ap (λ n. filter_map (of_source n) among) same ∙ none-there (filter_map (of_source s.name) among) none in
      omega (arith, ap length (filter_map-append (of_source name) among (s ∷ []) ∙ ap₂ (λ xs ys. xs ++ ys) nobody (here name s same)))
  | inr b ↦
      let other : name ≢ s.name = not_from_Decides (bytes_eq name s.name) (bytes_eq-Decides name s.name) b in
      omega (arith, apart name, ap length (filter_map-append (of_source name) among (s ∷ []) ∙ ap (λ ys. filter_map (of_source name) among ++ ys) (elsewhere name s other) ∙ append-nil (filter_map (of_source name) among)))
]

-- A public of a new name, and one of a name that is there.
module _ (t u : SourceTable) (s : NamedSource) (old : Option Definer) (was : old ≡ definer_at t.by_name s.name) where
  pub source-new : is_some old ≡ false → ((name : List ℕ) → definer_at u.by_name name ≡ cond (bytes_eq s.name name) (Some (Only s.source)) (definer_at t.by_name name)) → u.repeats ≡ t.repeats → HasMoreSources t u (s ∷ [])
  source-new e g r = λ among h. record {
    found = source-more t u s (Only s.source) (none-before s.source old e ∙ ap (definer_after s.source) was) g among h;
    apart = λ f. still-apart among s (h.apart (sym r ∙ f)) (sym (h.found s.name) ∙ sym was ∙ not-there old e);
  }

module _ (t : SourceTable) (k : Map) (u : SourceTable) (s : NamedSource) (old : Option Definer) (was : old ≡ definer_at t.by_name s.name) where
  pub source-again : is_some old ≡ true → ((name : List ℕ) → definer_at k name ≡ cond (bytes_eq s.name name) (Some (Only s.source)) (definer_at t.by_name name))
      → ((name : List ℕ) → definer_at u.by_name name ≡ cond (bytes_eq s.name name) (Some Several) (definer_at k name)) → u.repeats ≡ true → HasMoreSources t u (s ∷ [])
  source-again e g v r = λ among h. record {
    found = source-more t u s Several (some-before s.source old e ∙ ap (definer_after s.source) was)
        (twice_updated s.name t.by_name k u.by_name (Some (Only s.source)) (Some Several) g v) among h;
    apart = λ f. absurd (true≢false (sym r ∙ f));
  }

pub same-source : (m n : SourceTable) (name other : List ℕ) (base : Base) (offset place : ℕ) → name ≡ other → offset ≡ place → HasMoreSources m n (source_at name base offset ∷ []) → HasMoreSources m n (source_at other base place ∷ [])
same-source m n name other base offset place a b h = subst (λ s. HasMoreSources m n (s ∷ [])) (ap₂ (λ x y. source_at x base y) a b) h

-- An empty map is the table of no publics.
pub sources-empty : (t u : SourceTable) (all : List NamedSource) → t.by_name.entries ≡ [] → t.repeats ≡ false → HasMoreSources t u all → IsSourceTable u all
sources-empty t u all e r g = g [] (record {
  found = λ name. ap (lookup (is_at (λ k. name_cmp name k.now))) e;
  apart = λ f name. omega arith;
})

-- The publics of the records with their places.
abbrev pub listed_sources : Bool → ℕ → List (Place × Rec) → List NamedSource
listed_sources local j xs = flat_map (λ x. record_sources local j x.1.kind x.1.contents) xs

pub listed-sources : (local : Bool) (j number start : ℕ) (rs : List Raw) → listed_sources local j (placed_from number start rs) ≡ sources local j (recs rs)
listed-sources local j number start [] = refl
listed-sources local j number start (r ∷ rs) = ap (λ xs. record_sources local j r.kind (typed r).contents ++ xs) (listed-sources local j (number + 1) (start + length (raw_bytes r)) rs)

-- No more publics.
pub no-sources : (m : SourceTable) (xs : List NamedSource) → xs ≡ [] → HasMoreSources m m xs
no-sources m xs e = subst (HasMoreSources m m) (sym e) (λ among h. subst (IsSourceTable m) (sym (append-nil among)) h)
