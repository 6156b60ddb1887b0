-- Steps of the loops of module own.
use Rattle.std.proofs.Common.{◌≡◌, ℕ, ◌+◌, ◌<◌, get_or, List, [], ◌∷◌, ◌++◌, length, drop, refl, sym, ap, ◌∙◌, append_assoc}
use Rattle.std.specs.Prelude.{map, flat_map, true, false, ◌||◌, Some}
use Rattle.std.specs.List.{list_any}
use Rattle.std.proofs.lemmas.Bool.{cond-true, cond-false}
use Rattle.std.proofs.lemmas.Option.{slice_get-get_or}
use Rattle.omf_frame.specs.Framing.{Raw, raw_bytes}
use Rattle.omf_frame.specs.declared.fault.Place.{Place}
use Rattle.omf_records.specs.Inner.Reading.{typed}
use Rattle.omf_records.specs.Values.{Rec, GroupItem}
use Rattle.omf_check.specs.Listed.{placed_from}
use Rattle.omf_check.specs.Tables.{groups, entry}
use Rattle.omf_check.specs.WellFormed.{recs}
use Rattle.omf_layout.specs.Own.Claims.{Claim, module_claims, record_claims}
use Rattle.omf_layout.specs.Own.Communals.{far_segment, fars, is_dgroup, is_grouped}
use Rattle.omf_layout.specs.Own.Shared.{Shared}
use Rattle.omf_layout.specs.Own.Written.{framed, written}
use Rattle.omf_layout.specs.Several.Portions.{Named, name_at}
use Rattle.omf_layout.proofs.SeveralLaws.LowLaws.{next-group}
use Rattle.omf_placement.proofs.ListLaws.{next-at}

-- The claims of numbered records.
abbrev pub claims-by : List (Place × Rec) → List (Named Claim)
claims-by xs = flat_map (λ x. record_claims x.1.kind x.1.contents) xs

pub claims-all : (number start : ℕ) (rs : List Raw) → claims-by (placed_from number start rs) ≡ module_claims (recs rs)
claims-all number start [] = refl
claims-all number start (r ∷ rs) = ap (λ xs. record_claims (typed r).kind (typed r).contents ++ xs) (claims-all (number + 1) (start + length (raw_bytes r)) rs)

-- One more segment of a far communal, or none for a near one.
pub far-more : (s : Shared) (cs : List Shared) (old new all : List ℕ) (ls : List Shared) → new ≡ old ++ framed (far_segment s) → ls ≡ s ∷ cs → s.far ≡ true
    → old ++ written (map far_segment (fars ls)) ≡ all → new ++ written (map far_segment (fars cs)) ≡ all
far-more s cs old new all ls e n t h =
    ap (λ xs. xs ++ written (map far_segment (fars cs))) e ∙ append_assoc old (framed (far_segment s)) (written (map far_segment (fars cs)))
    ∙ sym (ap (λ xs. old ++ written (map far_segment xs)) (ap fars n ∙ cond-true s.far (s ∷ fars cs) (fars cs) t)) ∙ h

pub far-same : (s : Shared) (cs : List Shared) (old new all : List ℕ) (ls : List Shared) → new ≡ old → ls ≡ s ∷ cs → s.far ≡ false
    → old ++ written (map far_segment (fars ls)) ≡ all → new ++ written (map far_segment (fars cs)) ≡ all
far-same s cs old new all ls e n t h =
    ap (λ xs. xs ++ written (map far_segment (fars cs))) e ∙ sym (ap (λ xs. old ++ written (map far_segment xs)) (ap fars n ∙ cond-false s.far (s ∷ fars cs) (fars cs) t)) ∙ h

-- One more group that is DGROUP, or is not.
pub found-here : (m : List Rec) (j : ℕ) (g : GroupItem) → entry (groups m) (j + 1) ≡ Some g → is_dgroup (name_at m g.name.item) ≡ true
    → list_any (λ x. is_dgroup (name_at m x.name.item)) (drop j (groups m)) ≡ is_grouped m → true ≡ is_grouped m
found-here m j g e t h =
    sym (ap (λ b. b || list_any (λ x. is_dgroup (name_at m x.name.item)) (drop (j + 1) (groups m))) t)
    ∙ sym (ap (list_any (λ x. is_dgroup (name_at m x.name.item))) (next-group m j g e)) ∙ h

pub found-later : (m : List Rec) (j : ℕ) (g : GroupItem) → entry (groups m) (j + 1) ≡ Some g → is_dgroup (name_at m g.name.item) ≡ false
    → list_any (λ x. is_dgroup (name_at m x.name.item)) (drop j (groups m)) ≡ is_grouped m → list_any (λ x. is_dgroup (name_at m x.name.item)) (drop (j + 1) (groups m)) ≡ is_grouped m
found-later m j g e t h =
    sym (ap (λ b. b || list_any (λ x. is_dgroup (name_at m x.name.item)) (drop (j + 1) (groups m))) t)
    ∙ sym (ap (list_any (λ x. is_dgroup (name_at m x.name.item))) (next-group m j g e)) ∙ h

pub next-item : {A : Type 0} (xs : List A) (j : ℕ) (x : A) → x ≡ get_or xs j x → j < length xs → drop j xs ≡ x ∷ drop (j + 1) xs
next-item xs j x is low = next-at xs j x (slice_get-get_or xs j x low ∙ ap Some (sym is))
