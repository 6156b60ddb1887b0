-- Circles of aliases (this profile's rule): names, each an alias of the next, and the last of the first. None of them has an end.
use Rattle.std.specs.Prelude.{ℕ, zero, suc, List, [], ◌∷◌, ◌++◌, codes, flat_map, map, bytes_eq, Option, Some, None, option_map, if◌then◌else◌}
use Rattle.omf_records.specs.Values.{Rec}
use Rattle.omf_placement.specs.Quoted.{quoted}
use Rattle.omf_externals.specs.Names.{has_name}
use Rattle.omf_aliases.specs.Aliases.{all_pairs, most, next_name}

-- The names from one on, each an alias of the next, up to an alias of `first`; none if one is no alias, or none of the first n is an alias of `first`.
abbrev pub back_or : (List ℕ → Option (List (List ℕ))) → List ℕ → Option (List ℕ) → Option (List (List ℕ))
back_or back first None = None
back_or back first (Some other) = if bytes_eq other first then Some [] else back other

abbrev pub back_among : List (List Rec) → List ℕ → ℕ → List ℕ → Option (List (List ℕ))
back_among ms first zero name = None
back_among ms first (suc n) name = option_map (λ names. name ∷ names) (back_or (back_among ms first n) first (next_name ms name))

-- The circle of at most 64 names that a name is in, from this one on.
abbrev pub circle_of : List (List Rec) → List ℕ → Option (List (List ℕ))
circle_of ms name = back_among ms name most name

-- The circles that names are in, each once, from the first name that is in it: a name of a circle before is passed over.
abbrev pub circle_or : List (List (List ℕ)) → (List (List ℕ) → List (List (List ℕ))) → Option (List (List ℕ)) → List (List (List ℕ))
circle_or none rest None = none
circle_or none rest (Some circle) = circle ∷ rest circle

abbrev pub circles_after : List (List Rec) → List (List ℕ) → List (List ℕ) → List (List (List ℕ))
circles_after ms before [] = []
circles_after ms before (name ∷ names) =
    if has_name before name then circles_after ms before names
    else circle_or (circles_after ms before names) (λ new. circles_after ms (before ++ new) names) (circle_of ms name)

-- The circles among modules, in the order of their aliases.
abbrev pub circles : List (List Rec) → List (List (List ℕ))
circles ms = circles_after ms [] (map (λ p. p.alias) (all_pairs ms))

-- Their lines: the names of a circle in quotes, with commas.
abbrev pub with_commas : List (List ℕ) → List ℕ
with_commas [] = []
with_commas (name ∷ names) = quoted name ++ flat_map (λ n. codes ", " ++ quoted n) names

abbrev pub circle_line : List (List ℕ) → List ℕ
circle_line circle = codes "aliases in a circle: " ++ (with_commas circle ++ 10 ∷ [])

abbrev pub circles_text : List (List Rec) → List ℕ
circles_text ms = flat_map circle_line (circles ms)
