-- The runs of laid pieces, computed by joining each piece with the runs it touches.
use Rattle.std.specs.Prelude.{ℕ, ◌+◌, ◌-◌, List, [], ◌∷◌, length, fold, true, false, ◌&&◌, ◌==◌, nat_lt, min, max, if◌then◌else◌}
use Rattle.omf_image.specs.declared.run.Run.{Run}
use Rattle.omf_image.specs.Overlay.{Laid}

abbrev pub run_end : Run → ℕ
run_end r = r.first + r.len

-- the smallest interval that holds both
abbrev pub hull : Run → Run → Run
hull r s = record { first = min r.first s.first; len = max (run_end r) (run_end s) - min r.first s.first }

-- runs in ascending order with one more interval
abbrev pub join_run : Run → List Run → List Run
join_run r [] = r ∷ []
join_run r (s ∷ runs) = elim (nat_lt (run_end r) s.first) [
  | true ↦ r ∷ s ∷ runs
  | false ↦ elim (nat_lt (run_end s) r.first) [
    | true ↦ s ∷ join_run r runs
    | false ↦ join_run (hull r s) runs
  ]
]

abbrev pub join_laid : ℕ → List Run → Laid → List Run
join_laid segment runs l =
    if (l.segment == segment) && nat_lt 0 (length l.bytes) then join_run (record { first = l.offset; len = length l.bytes }) runs else runs

abbrev pub runs_of : List Laid → ℕ → List Run
runs_of laid segment = fold (join_laid segment) [] laid
