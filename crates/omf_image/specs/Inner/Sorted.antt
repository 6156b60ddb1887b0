-- The runs that an image holds: the maximal covered intervals of all segments on one line, each with its bytes. Callers see an image through `byte_at`, the byte at each place.
use Rattle.std.specs.Prelude.{◌≡◌, ℕ, ◌+◌, ◌-◌, ◌*◌, ◌<◌, ◌≤◌, List, [], ◌∷◌, ◌++◌, length, map, filter, take, drop, min, ◌==◌}
use Rattle.omf_image.specs.declared.image.Covered.{Covered}
use Rattle.omf_image.specs.declared.run.Run.{Run}
use Rattle.omf_image.specs.Overlay.{Laid, IsLaidOver, IsCovered}

abbrev pub laid_run : Covered → Laid
laid_run c = record { segment = c.segment; offset = c.first; bytes = c.bytes.items }

abbrev pub laid_runs : List Covered → List Laid
laid_runs runs = map laid_run runs

-- the interval of a piece
abbrev pub span : Laid → Run
span l = record { first = l.offset; len = length l.bytes }

-- the pieces of one segment
abbrev pub in_segment : ℕ → List Laid → List Laid
in_segment segment laid = filter (λ l. l.segment == segment) laid

-- The places of all segments are on one line. The distance between segments is twice a segment's size, so runs of different segments never touch.
abbrev pub line_place : ℕ → ℕ → ℕ
line_place segment offset = segment * 8589934592 + offset

-- the start of a piece on the line, and its end
abbrev pub low : Laid → ℕ
low l = line_place l.segment l.offset

abbrev pub high : Laid → ℕ
high l = low l + length l.bytes

-- nonempty pieces on the line from a place on, with a gap between each and the next
abbrev pub AreSorted : ℕ → List Laid → Type 0
AreSorted from [] = Unit {0}
AreSorted from (l ∷ laid) = (from ≤ low l) × (0 < length l.bytes) × (l.offset + length l.bytes ≤ 4294967296) × AreSorted (high l + 1) laid

-- all pieces end before a place of the line; none does
abbrev pub EndBefore : ℕ → List Laid → Type 0
EndBefore at [] = Unit {0}
EndBefore at (l ∷ laid) = (high l < at) × EndBefore at laid

abbrev pub EndFrom : ℕ → List Laid → Type 0
EndFrom at [] = Unit {0}
EndFrom at (l ∷ laid) = (at ≤ high l) × EndFrom at laid

-- all pieces start at a place of the line or before; all start after it
abbrev pub BeginBy : ℕ → List Laid → Type 0
BeginBy at [] = Unit {0}
BeginBy at (l ∷ laid) = (low l ≤ at) × BeginBy at laid

abbrev pub BeginAfter : ℕ → List Laid → Type 0
BeginAfter at [] = Unit {0}
BeginAfter at (l ∷ laid) = (at < low l) × BeginAfter at laid

-- all runs are in the piece's segment and touch or overlap it
abbrev pub Touches : Laid → List Laid → Type 0
Touches l [] = Unit {0}
Touches l (r ∷ runs) = (r.segment ≡ l.segment) × (r.offset ≤ l.offset + length l.bytes) × (l.offset ≤ r.offset + length r.bytes) × Touches l runs

-- a piece, extended by the bytes of a run that follow its last byte
abbrev pub extended : Laid → Laid → Laid
extended l r = record { segment = l.segment; offset = l.offset; bytes = l.bytes ++ drop (l.offset + length l.bytes - r.offset) r.bytes }

-- a piece laid over a run it touches, as one piece
abbrev pub over : Laid → Laid → Laid
over l r = record {
  segment = l.segment;
  offset = min l.offset r.offset;
  bytes = take (l.offset - r.offset) r.bytes ++ (l.bytes ++ drop (l.offset + length l.bytes - r.offset) r.bytes);
}

-- a piece laid over all the runs it touches, as one piece
abbrev pub over_all : Laid → List Laid → Laid
over_all l [] = l
over_all l (r ∷ runs) = over (over_all l runs) r

-- these runs are one, and the piece is within it
pub record IsPartOf (l : Laid) (runs : List Laid) : Type 0 where
  pub run : Laid
  pub one : runs ≡ run ∷ []
  pub from : run.offset ≤ l.offset
  pub to : l.offset + length l.bytes ≤ run.offset + length run.bytes

-- The runs after a piece is laid over `count` of them, from `start` on, and joined with them.
abbrev pub joined : List Laid → Laid → ℕ → ℕ → List Laid
joined runs l start count = take start runs ++ over_all l (take count (drop start runs)) ∷ drop count (drop start runs)

-- A piece touches `count` runs from `start` on: the runs joined with it are sorted, and are the piece laid over all runs.
-- If all its places have a byte, it is within one run.
pub record IsTouched (runs : List Laid) (l : Laid) (start count : ℕ) : Type 0 where
  pub touches : Touches l (take count (drop start runs))
  pub sorted : AreSorted 0 (joined runs l start count)
  pub bytes : IsLaidOver runs l (joined runs l start count)
  pub inside : IsCovered runs l → IsPartOf l (take count (drop start runs))
