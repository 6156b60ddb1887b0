-- A sweep over segments in rising order (the steps of the code).
use Rattle.std.specs.Prelude.{List, [], ◌∷◌, nat_lt, Option, Some, None, if◌then◌else◌}
use Rattle.omf_warnings.specs.Overlaps.{may_share}
use Rattle.omf_warnings.specs.declared.span.Span.{Span}

-- Of two, the furthest so far and the furthest of those that may not share addresses with it: the one that a segment may not share addresses with.
abbrev pub rival : Option Span → Option Span → Span → Option Span
rival None other s = None
rival (Some f) other s = if may_share f s then other else Some f

-- One that ends after the first address of a segment.
abbrev pub reaching : Span → Option Span → Option Span
reaching s None = None
reaching s (Some e) = if nat_lt s.first e.end then Some e else None

abbrev pub clash : Option Span → Option Span → Span → Option Span
clash f other s = if nat_lt s.first s.end then reaching s (rival f other s) else None

-- The furthest of all, and of those that may not share addresses with it, with one more.
abbrev pub further : Option Span → Span → Span
further None s = s
further (Some f) s = if nat_lt f.end s.end then s else f

abbrev pub other_with : Option Span → Option Span → Span → Option Span
other_with None other s = other
other_with (Some f) other s = if may_share f s then other else (if nat_lt f.end s.end then Some f else Some (further other s))

-- The first that overlaps an earlier one.
abbrev pub found_or : Option Span → Span → Option (Span × Span) → Option (Span × Span)
found_or (Some e) s rest = Some (e, s)
found_or None s rest = rest

abbrev pub swept : Option Span → Option Span → List Span → Option (Span × Span)
swept f other [] = None
swept f other (s ∷ ss) = found_or (clash f other s) s (swept (Some (further f s)) (other_with f other s) ss)
