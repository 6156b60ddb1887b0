-- Views of the code's spots and results.
use Rattle.std.specs.Prelude.{ℕ, List, []}
use Rattle.omf_placement.specs.declared.frame.Placed.{Placed}
use Rattle.omf_placement.specs.Placement.{Places}
use Rattle.omf_layout.specs.declared.spot.Spot.{Spot}
use Rattle.omf_layout.specs.Layout.{Laid}

-- A spot, as what is laid there.
abbrev pub spot_laid : Spot → Laid Placed
spot_laid s = record { what = record { address = s.address; frame = s.frame }; free = s.free }

-- A placement of segments alone, and the first free address after them.
abbrev pub segments_alone : Laid (List Placed) → Places × ℕ
segments_alone l = (record { segments = l.what; groups = []; externals = [] }, l.free)

-- A placement with these externals, and the first free address after them.
abbrev pub externals_in : Places → Laid (List Placed) → Places × ℕ
externals_in pl l = (record pl { externals = l.what }, l.free)
