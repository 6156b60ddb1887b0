-- The copies of one location, computed: the offset of the first, and how the blocks around it repeat them.
use Rattle.std.specs.Prelude.{◌≡◌, ⊤, ℕ, ◌+◌, ◌-◌, ◌*◌, List, [], ◌∷◌, ◌++◌, drop, map, flat_map, fold, ◌&&◌, nat_le, Option, Some, None, option_map, Result, Ok, Err, if◌then◌else◌}
use Rattle.std.specs.List.{range_with_len}
use Rattle.omf_frame.specs.Fault.{Fault}
use Rattle.omf_image.specs.Inner.Folding.{Folded, fold_block, fold_contents, fold_times, fold_all}
use Rattle.omf_image.specs.Inner.Lengths.{capped, len_data}
use Rattle.omf_records.specs.Inner.Reads.{After, after, Reading, and_then}
use Rattle.omf_lowering.specs.declared.copies.Turn.{Turn}
use Rattle.omf_lowering.specs.declared.fault.Stop.{Stop}
use Rattle.omf_lowering.specs.declared.fault.Stop.TheVariants as stop
use Rattle.omf_lowering.specs.declared.location.Location.{Location}

-- The offset of the first copy, and the turns of the blocks around it, of the innermost first.
pub record Path : Type 0 where
  pub first : ℕ
  pub turns : List Turn

-- Offsets, each further by a number of bytes.
abbrev pub further : ℕ → List ℕ → List ℕ
further by xs = map (λ x. x + by) xs

-- Offsets, for each turn.
abbrev pub in_turns : List ℕ → Turn → List ℕ
in_turns xs t = flat_map (λ k. further (k * t.size) xs) (range_with_len 0 t.count)

abbrev pub offsets_by : List ℕ → List Turn → List ℕ
offsets_by xs turns = fold in_turns xs turns

-- The number of offsets after some turns, of n, saturating.
abbrev pub counts : ℕ → List Turn → ℕ
counts n turns = fold (λ m t. capped (m * t.count)) n turns

-- The offsets of the copies.
abbrev pub offsets_of : Path → List ℕ
offsets_of p = offsets_by (p.first ∷ []) p.turns

-- What blocks expand to: a number of bytes, saturating, and the copies of a location, if one of their contents has it.
pub record Found : Type 0 where
  pub size : ℕ
  pub copies : Option Path

abbrev pub copy_in : ℕ → ℕ → Location → Option Path
copy_in start size l = if nat_le start l.offset && nat_le (l.offset + l.size) (start + size) then Some (record { first = l.offset - start; turns = [] }) else None

abbrev pub either : Option Path → Option Path → ℕ → Option Path
either (Some p) q by = Some p
either None (Some q) by = Some (record q { first = capped (q.first + by) })
either None None by = None

abbrev pub joined : Found → Found → Found
joined a b = record { size = capped (a.size + b.size); copies = either a.copies b.copies a.size }

abbrev pub with_turn : Turn → Path → Path
with_turn t p = record p { turns = p.turns ++ t ∷ [] }

abbrev pub repeated : ℕ → Found → Found
repeated count a = record { size = capped (count * a.size); copies = option_map (with_turn (record { count = count; size = a.size })) a.copies }

abbrev pub text_found : Location → Reading Found
text_found l at bytes = and_then (len_data at bytes) (λ a. Ok (after (record { size = a.value; copies = copy_in (at + 1) a.value l }) a.within a.rest))

abbrev pub nothing : Found
nothing = record { size = 0; copies = None }

-- The readings of blocks fold to the copies of a location.
abbrev pub finds : Location → Folded Found
finds l = record { none = nothing; join = joined; text = text_found l; again = repeated }

abbrev pub found_block : Location → ℕ → ℕ → Reading Found
found_block l = fold_block (finds l)

abbrev pub found_contents : Location → Reading Found → ℕ → Reading Found
found_contents l = fold_contents (finds l)

abbrev pub found_times : Location → Reading Found → ℕ → Found → Reading Found
found_times l = fold_times (finds l)

abbrev pub found_all : Location → Reading Found → ℕ → Found → ℕ → List ℕ → Result Found Fault
found_all l = fold_all (finds l)

-- A function gave what a reading gives, and the position after it, unless memory ran out.
abbrev pub Gives : {A : Type 0} → List ℕ → Result (A × ℕ) Stop → Result (After A) Fault → Type 0
Gives bytes (Ok x) read = Ok (after x.0 x.1 (drop x.1 bytes)) ≡ read
Gives bytes (Err stop.Memory) read = ⊤
Gives bytes (Err (stop.At e)) read = Err e ≡ read

abbrev pub GivesAll : {A : Type 0} → Result A Stop → Result A Fault → Type 0
GivesAll (Ok x) read = Ok x ≡ read
GivesAll (Err stop.Memory) read = ⊤
GivesAll (Err (stop.At e)) read = Err e ≡ read

-- Nothing is found, as a fault stopped the search.
abbrev pub IsUnfound : Stop → Option Path → Type 0
IsUnfound stop.Memory copies = ⊥
IsUnfound (stop.At e) copies = copies ≡ None
