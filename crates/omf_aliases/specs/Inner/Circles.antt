-- The circles that are shown (the steps of the code).
use Rattle.std.specs.Prelude.{◌≡◌, ℕ, List, [], ◌++◌, flat_map, string_bytes}
use Rattle.omf_records.specs.Values.{Rec}
use Rattle.omf_externals.specs.Names.{HasMore, IsNameTable}
use Rattle.omf_aliases.specs.Circles.{circle_line, circles_after}
use Rattle.omf_aliases.specs.declared.circles.Circles.{Circles}

-- The names of circles, one circle after another.
abbrev pub joined : List (List (List ℕ)) → List (List ℕ)
joined circles = flat_map (λ c. c) circles

-- The circles that these names are in have their lines, and their names are in the table.
pub record HasShown (ms : List (List Rec)) (c : Circles) (names : List (List ℕ)) : Type 0 where
  pub shown : IsNameTable c.shown (joined (circles_after ms [] names))
  pub lines : string_bytes c.lines ≡ flat_map circle_line (circles_after ms [] names)

-- One circle more.
pub record HasPut (c d : Circles) (circle : List (List ℕ)) : Type 0 where
  pub lines : string_bytes d.lines ≡ string_bytes c.lines ++ circle_line circle
  pub shown : HasMore c.shown d.shown circle
