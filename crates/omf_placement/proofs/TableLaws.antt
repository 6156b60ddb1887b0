-- A table of publics grows public by public.
use Rattle.std.proofs.Common.{◌≡◌, ℕ, zero, suc, ◌+◌, ◌<◌, ◌≤◌, List, [], ◌∷◌, ◌++◌, length, drop, get_or, refl, sym, ap, ap₂, ◌∙◌, subst, inl, inr, append-nil, arith, Bor}
use Rattle.std.specs.Prelude.{◌≢◌, flat_map, filter_map, Option, Some, None, bytes_eq, cond, Bool, is_some, true, false}
use Rattle.std.proofs.Math.Seq.{drop-nil}
use Rattle.std.specs.BTreeMap.{BTreeMap, get_by, is_at}
use Rattle.std.specs.List.{cons_option}
use Rattle.std.specs.Map.{lookup}
use Rattle.std.proofs.lemmas.Bool.{cond-true, cond-false, cases_Bool, false_from_ne_true, true≢false, false≢true}
use Rattle.std.proofs.lemmas.Bool.Decides.{not_from_Decides}
use Rattle.std.proofs.lemmas.List.Elements.{filter_map-append}
use Rattle.omf_names.specs.Names.{name_cmp}
use Rattle.omf_names.proofs.NameTables.{twice_updated}
use Rattle.std.proofs.lemmas.Slice.Eq.{bytes_eq-Decides}
use Rattle.omf_frame.specs.Framing.{Raw, raw_bytes}
use Rattle.omf_frame.specs.declared.fault.Place.{Place}
use Rattle.omf_records.specs.Inner.Reading.{typed}
use Rattle.omf_records.specs.Values.{Rec}
use Rattle.omf_check.specs.Listed.{placed_from}
use Rattle.omf_check.specs.Module.{Module, records_in}
use Rattle.omf_check.specs.WellFormed.{recs}
use Rattle.omf_placement.specs.declared.frame.Frame.{Frame}
use Rattle.omf_placement.specs.declared.several.publics.Found.{Found}
use Rattle.omf_placement.specs.declared.several.publics.Found.TheVariants.{One, Several}
use Rattle.omf_placement.specs.Derive.{PlacedPublic, public_at, record_publics, publics, placed_modules}
use Rattle.omf_placement.specs.Inner.Derived.{of_name}
use Rattle.omf_placement.specs.declared.frame.Placed.{Placed}
use Rattle.omf_placement.specs.Placement.{Places}
use Rattle.omf_placement.specs.Inner.PublicTable.{summed, found_after, IsTable, HasMore}

pub summed-more : (ps : List Placed) (p : Placed) → summed (ps ++ p ∷ []) ≡ Some (found_after p (summed ps))
summed-more [] p = refl
summed-more (q ∷ []) p = refl
summed-more (q ∷ r ∷ ps) p = refl

named-here : (name : List ℕ) (p : PlacedPublic) → name ≡ p.name → filter_map (of_name name) (p ∷ []) ≡ p.place ∷ []
named-here name p e = ap (λ b. cons_option (cond b (Some p.place) None) []) ((bytes_eq-Decides name p.name).1 e)

named-elsewhere : (name : List ℕ) (p : PlacedPublic) → name ≢ p.name → filter_map (of_name name) (p ∷ []) ≡ []
named-elsewhere name p n = ap (λ b. cons_option (cond b (Some p.place) None) []) (false_from_ne_true (bytes_eq name p.name) (λ e. n ((bytes_eq-Decides name p.name).0 e)))

abbrev pub Map : Type 0
Map = BTreeMap (Bor (List ℕ)) Found

abbrev pub found_at : Map → List ℕ → Option Found
found_at m name = get_by (λ k. name_cmp name k.now) m

none-before : (p : Placed) (old : Option Found) → is_some old ≡ false → One p.address p.frame ≡ found_after p old
none-before p None e = refl
none-before p (Some f) e = absurd (true≢false e)

some-before : (p : Placed) (old : Option Found) → is_some old ≡ true → Several ≡ found_after p old
some-before p None e = absurd (false≢true e)
some-before p (Some f) e = refl

-- One more public.
module _ (m n : Map) (p : PlacedPublic) (f : Found) (e : f ≡ found_after p.place (found_at m p.name)) where
  module _ (u : (name : List ℕ) → found_at n name ≡ cond (bytes_eq p.name name) (Some f) (found_at m name)) where
    pub table-more : HasMore m n (p ∷ [])
    table-more among h name = elim (cases_Bool (bytes_eq p.name name)) [
      | inl b ↦
          let same : p.name ≡ name = (bytes_eq-Decides p.name name).0 b in
          u name ∙ cond-true (bytes_eq p.name name) (Some f) (found_at m name) b
          ∙ ap Some e ∙ ap (λ x. Some (found_after p.place (found_at m x))) same ∙ ap (λ o. Some (found_after p.place o)) (h name)
          ∙ sym (summed-more (filter_map (of_name name) among) p.place)
          ∙ ap (λ xs. summed (filter_map (of_name name) among ++ xs)) (sym (named-here name p (sym same)))
          ∙ ap summed (sym (filter_map-append (of_name name) among (p ∷ [])))
      | inr b ↦
          let other : name ≢ p.name = λ s. not_from_Decides (bytes_eq p.name name) (bytes_eq-Decides p.name name) b (sym s) in
          u name ∙ cond-false (bytes_eq p.name name) (Some f) (found_at m name) b
          ∙ h name ∙ ap summed (sym (append-nil (filter_map (of_name name) among)))
          ∙ ap (λ xs. summed (filter_map (of_name name) among ++ xs)) (sym (named-elsewhere name p other))
          ∙ ap summed (sym (filter_map-append (of_name name) among (p ∷ [])))
    ]

-- A public of a new name, and one of a name that is there.
module _ (m n : Map) (p : PlacedPublic) (old : Option Found) (was : old ≡ found_at m p.name) where
  pub one-new : is_some old ≡ false → ((name : List ℕ) → found_at n name ≡ cond (bytes_eq p.name name) (Some (One p.place.address p.place.frame)) (found_at m name)) → HasMore m n (p ∷ [])
  one-new e u = table-more m n p (One p.place.address p.place.frame) (none-before p.place old e ∙ ap (found_after p.place) was) u

module _ (m k n : Map) (p : PlacedPublic) (old : Option Found) (was : old ≡ found_at m p.name) where
  pub one-again : is_some old ≡ true → ((name : List ℕ) → found_at k name ≡ cond (bytes_eq p.name name) (Some (One p.place.address p.place.frame)) (found_at m name))
      → ((name : List ℕ) → found_at n name ≡ cond (bytes_eq p.name name) (Some Several) (found_at k name)) → HasMore m n (p ∷ [])
  one-again e g u =
      table-more m n p Several (some-before p.place old e ∙ ap (found_after p.place) was)
      (twice_updated p.name m k n (Some (One p.place.address p.place.frame)) (Some Several) g u)

pub same-public : (m n : Map) (name other : List ℕ) (address place : ℕ) (frame : Frame) → name ≡ other → address ≡ place → HasMore m n (public_at name address frame ∷ []) → HasMore m n (public_at other place frame ∷ [])
same-public m n name other address place frame a b h = subst (λ p. HasMore m n (p ∷ [])) (ap₂ (λ x y. public_at x y frame) a b) h

-- An empty map is the table of no publics.
pub fill-empty : (m n : Map) (all : List PlacedPublic) → m.entries ≡ [] → HasMore m n all → IsTable n all
fill-empty m n all e g = g [] (λ name. ap (lookup (is_at (λ k. name_cmp name k.now))) e)

-- The publics of the records with their places.
abbrev pub listed_publics : Bool → Places → List (Place × Rec) → List PlacedPublic
listed_publics local pl xs = flat_map (λ x. record_publics local pl x.1.kind x.1.contents) xs

pub listed-publics : (local : Bool) (pl : Places) (number start : ℕ) (rs : List Raw) → listed_publics local pl (placed_from number start rs) ≡ publics local (recs rs, pl)
listed-publics local pl number start [] = refl
listed-publics local pl number start (r ∷ rs) = ap (λ xs. record_publics local pl r.kind (typed r).contents ++ xs) (listed-publics local pl (number + 1) (start + length (raw_bytes r)) rs)

-- No more publics; and the same publics, stated in another way.
pub none_more : (m : Map) (xs : List PlacedPublic) → xs ≡ [] → HasMore m m xs
none_more m xs e = subst (HasMore m m) (sym e) (λ among h. subst (IsTable m) (sym (append-nil among)) h)

pub same_more : (m n : Map) (xs ys : List PlacedPublic) → ys ≡ xs → HasMore m n xs → HasMore m n ys
same_more m n xs ys e h = subst (HasMore m n) (sym e) h

-- The next module, with its placement.
pub next-placed : (ms : List Module) (pls : List Places) (j : ℕ) (m : Module) (pl : Places) → m ≡ get_or ms j m → pl ≡ get_or pls j pl → j < length ms → length pls ≡ length ms
    → drop j (placed_modules ms pls) ≡ (recs (records_in m.bytes), pl) ∷ drop (j + 1) (placed_modules ms pls)
next-placed [] pls j m pl a b l e = absurd (omega arith)
next-placed (x ∷ ms) [] j m pl a b l e = absurd (omega arith)
next-placed (x ∷ ms) (y ∷ pls) zero m pl a b l e = ap₂ (λ u v. (recs (records_in u.bytes), v) ∷ placed_modules ms pls) (sym a) (sym b)
next-placed (x ∷ ms) (y ∷ pls) (suc j) m pl a b l e =
    let same : suc (j + 1) ≡ suc j + 1 = omega arith in
    next-placed ms pls j m pl a b (omega arith) (omega arith) ∙ ap (λ n. (recs (records_in m.bytes), pl) ∷ drop n (placed_modules (x ∷ ms) (y ∷ pls))) same

pub none-left : (ms : List Module) (pls : List Places) (j : ℕ) → length ms ≤ j → drop j (placed_modules ms pls) ≡ []
none-left [] pls j h = drop-nil j
none-left (m ∷ ms) [] j h = drop-nil j
none-left (m ∷ ms) (p ∷ pls) zero h = absurd (omega arith)
none-left (m ∷ ms) (p ∷ pls) (suc j) h = none-left ms pls j (omega arith)
