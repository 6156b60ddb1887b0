-- Tables of externals and publics by name, and the lines of names.
use Rattle.std.proofs.Common.{◌≡◌, ℕ, ◌+◌, List, [], ◌∷◌, ◌++◌, refl, sym, ap, ◌∙◌, subst, inl, inr, append-nil, Bor, Vec, Global, nat_cmp}
use Rattle.std.specs.Prelude.{Option, Some, None, bytes_eq, if◌then◌else◌}
use Rattle.std.specs.BTreeMap.{get_by, is_at, UpdatesBy}
use Rattle.std.specs.Cmp.Lexicographic.{slice_cmp}
use Rattle.std.specs.Map.{lookup}
use Rattle.std.proofs.lemmas.Bool.{cond-true, cond-false, cases_Bool}
use Rattle.std.proofs.lemmas.Map.Text.{btree_map_updates_str}
use Rattle.std.proofs.lemmas.Slice.Eq.{bytes_eq-Decides}
use Rattle.omf_externals.specs.Unresolved.{Row, Table, items_or, rows_in, spot, spots_of, IsByName, HasMore}
use Rattle.omf_externals.specs.declared.by_name.Spot.{Spot}

abbrev pub found_at : Table → List ℕ → Option (Vec Spot Global)
found_at m name = get_by (λ k. slice_cmp nat_cmp name k.now) m

spots-more : (xs ys : List Row) (name : List ℕ) → spots_of (xs ++ ys) name ≡ spots_of xs name ++ spots_of ys name
spots-more [] ys name = refl
spots-more (x ∷ xs) ys name = elim (cases_Bool (bytes_eq x.0 name)) [
  | inl b ↦ rw (b) (ap (λ ss. x.1 ∷ ss) (spots-more xs ys name))
  | inr b ↦ rw (b) (spots-more xs ys name)
]

-- One more row.
module _ (m n o : Table) (x : List ℕ) (v : Vec Spot Global) where
  -- taken out and put back
  put-back : UpdatesBy (λ (k l : Bor (List ℕ)). slice_cmp nat_cmp k.now l.now) (λ k. slice_cmp nat_cmp x k.now) m n None
      → UpdatesBy (λ (k l : Bor (List ℕ)). slice_cmp nat_cmp k.now l.now) (λ k. slice_cmp nat_cmp x k.now) n o (Some v)
      → (name : List ℕ) → found_at o name ≡ (if bytes_eq x name then Some v else found_at m name)
  put-back t u name = elim (cases_Bool (bytes_eq x name)) [
    | inl b ↦ btree_map_updates_str x n o (Some v) u name ∙ cond-true (bytes_eq x name) (Some v) (found_at n name) b ∙ ap (λ c. if c then Some v else found_at m name) (sym b)
    | inr b ↦
        btree_map_updates_str x n o (Some v) u name ∙ cond-false (bytes_eq x name) (Some v) (found_at n name) b
        ∙ btree_map_updates_str x m n None t name ∙ cond-false (bytes_eq x name) None (found_at m name) b ∙ ap (λ c. if c then Some v else found_at m name) (sym b)
  ]

pub table-more : (m n o : Table) (x : List ℕ) (s : Spot) (v : Vec Spot Global) → UpdatesBy (λ (k l : Bor (List ℕ)). slice_cmp nat_cmp k.now l.now) (λ k. slice_cmp nat_cmp x k.now) m n None
    → UpdatesBy (λ (k l : Bor (List ℕ)). slice_cmp nat_cmp k.now l.now) (λ k. slice_cmp nat_cmp x k.now) n o (Some v) → v.items ≡ items_or (found_at m x) ++ s ∷ [] → HasMore m o ((x, s) ∷ [])
table-more m n o x s v t u e rows h name = elim (cases_Bool (bytes_eq x name)) [
  | inl b ↦
      let same : x ≡ name = (bytes_eq-Decides x name).0 b in
      ap items_or (put-back m n o x v t u name) ∙ ap (λ c. items_or (if c then Some v else found_at m name)) b ∙ e ∙ ap (λ y. items_or (found_at m y) ++ s ∷ []) same ∙ ap (λ ss. ss ++ s ∷ []) (h name)
      ∙ ap (λ c. spots_of rows name ++ (if c then s ∷ [] else [])) (sym b) ∙ sym (spots-more rows ((x, s) ∷ []) name)
  | inr b ↦
      ap items_or (put-back m n o x v t u name) ∙ ap (λ c. items_or (if c then Some v else found_at m name)) b ∙ h name ∙ sym (append-nil (spots_of rows name))
      ∙ ap (λ c. spots_of rows name ++ (if c then s ∷ [] else [])) (sym b) ∙ sym (spots-more rows ((x, s) ∷ []) name)
]

-- An empty map is the table of no rows.
pub fill-empty : (m n : Table) (all : List Row) → m.entries ≡ [] → HasMore m n all → IsByName n all
fill-empty m n all e g = g [] (λ name. ap (λ xs. items_or (lookup (is_at (λ k. slice_cmp nat_cmp name k.now)) xs)) e)

-- No further row.
pub none_more : (m : Table) (xs : List Row) → xs ≡ [] → HasMore m m xs
none_more m xs e = subst (HasMore m m) (sym e) (λ rows h. subst (IsByName m) (sym (append-nil rows)) h)

pub rows-more : (j : ℕ) (xs ys : List (List ℕ)) → rows_in j (xs ++ ys) ≡ rows_in j xs ++ rows_in j ys
rows-more j [] ys = refl
rows-more j (x ∷ xs) ys = ap (λ rs. (x, spot j 0) ∷ rs) (rows-more j xs ys)
