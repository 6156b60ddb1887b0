-- The names by which a draft decides which externals are open, and the publics among which they are found.
use Rattle.std.proofs.Common.{◌≡◌, ℕ, List, [], ◌∷◌, ◌++◌, Bool, true, false, map, refl, ap, ap₂, ◌∙◌}
use Rattle.std.specs.Prelude.{zip, flat_map, if◌then◌else◌, IsSome, Option, None, Some, option_to_list}
use Rattle.std.specs.List.{AllZip}
use Rattle.std.proofs.lemmas.List.{append-nil, map-append}
use Rattle.omf_frame.specs.Types.{is_local}
use Rattle.omf_records.specs.Values.{At, Rec, Contents, Header, Comment, Names, Segment, Group, Externs, Publics, Communals, Plain, Iterated, Fixups, ModEnd, Carried, PublicItem}
use Rattle.omf_placement.specs.Placement.{Places}
use Rattle.omf_placement.specs.declared.frame.Placed.{Placed}
use Rattle.omf_placement.specs.Derive.{all_publics, base_of, placed_publics, publics, publics_at, record_publics}
use Rattle.omf_externals.specs.Names.{all_names, names_asked, names_in, names_of, public_names}
use Rattle.omf_drafting.specs.Laws.{DraftsLookAmongPublics, HasBase, HasBases, name_of}

of_items : (base : Placed) (items : List (At PublicItem)) → map name_of (publics_at base items) ≡ names_of items
of_items base [] = refl
of_items base (q ∷ items) = ap (λ (ns : List (List ℕ)). q.item.name ∷ ns) (of_items base items)

of_base : (o : Option Placed) (items : List (At PublicItem)) → IsSome o → map name_of (flat_map (λ base. publics_at base items) (option_to_list o)) ≡ names_of items
of_base None items h = absurd cc
of_base (Some base) items h = ap (map name_of) (append-nil (publics_at base items)) ∙ of_items base items

of_contents : (pl : Places) (c : Contents) → HasBase pl c → map name_of (placed_publics pl c) ≡ names_in c
of_contents pl (Publics p) h = of_base (base_of pl p.group.item p.segment.item p.frame) p.items h
of_contents pl (Header name) h = refl
of_contents pl (Comment k n text) h = refl
of_contents pl (Names items) h = refl
of_contents pl (Segment s) h = refl
of_contents pl (Group g) h = refl
of_contents pl (Externs items) h = refl
of_contents pl (Communals items) h = refl
of_contents pl (Plain d) h = refl
of_contents pl (Iterated d) h = refl
of_contents pl (Fixups subs) h = refl
of_contents pl (ModEnd byte start) h = refl
of_contents pl (Carried bytes) h = refl

of_record : (local : Bool) (pl : Places) (kind : ℕ) (c : Contents) → HasBase pl c → map name_of (record_publics local pl kind c) ≡ names_asked local kind c
of_record true pl kind c h = by (is_local kind)
  where
    by : (b : Bool) → map name_of (if b then placed_publics pl c else []) ≡ (if b then names_in c else [])
    by true = of_contents pl c h
    by false = refl
of_record false pl kind c h = by (is_local kind)
  where
    by : (b : Bool) → map name_of (if b then [] else placed_publics pl c) ≡ (if b then [] else names_in c)
    by true = refl
    by false = of_contents pl c h

of_module : (local : Bool) (m : List Rec) (pl : Places) → HasBases m pl → map name_of (publics local (m, pl)) ≡ public_names local m
of_module local [] pl h = refl
of_module local (r ∷ m) pl h =
    map-append name_of (record_publics local pl r.kind r.contents) (publics local (m, pl))
    ∙ ap₂ (λ (xs ys : List (List ℕ)). xs ++ ys) (of_record local pl r.kind r.contents h.0) (of_module local m pl h.1)

of_all : (ms : List (List Rec)) (pls : List Places) → AllZip HasBases ms pls → map name_of (all_publics (zip ms pls)) ≡ all_names ms
of_all [] pls h = refl
of_all (m ∷ ms) [] h = absurd h
of_all (m ∷ ms) (pl ∷ pls) h =
    map-append name_of (publics false (m, pl)) (all_publics (zip ms pls))
    ∙ ap₂ (λ (xs ys : List (List ℕ)). xs ++ ys) (of_module false m pl h.0) (of_all ms pls h.1)

pub look_among : DraftsLookAmongPublics
look_among ms pls m pl true all own = of_module true m pl own
look_among ms pls m pl false all own = of_all ms pls all
