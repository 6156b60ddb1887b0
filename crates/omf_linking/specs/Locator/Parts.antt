-- What a line for all modules is for, and where it lays segments (this profile's rule).
use Rattle.std.specs.Prelude.{ℕ, ◌+◌, ◌-◌, ◌^◌, List, [], ◌∷◌, map, flat_map, filter, Bool, ◌&&◌, nat_le, nat_lt, bytes_eq, Option, Some, None, option_map, option_and_then, Result, Ok, Err, if◌then◌else◌}
use Rattle.std.specs.List.{enumerate_from}
use Rattle.omf_records.specs.Values.{Rec}
use Rattle.omf_records.specs.Inner.Seen.{map_ok}
use Rattle.omf_layout.specs.Layout.{Laid}
use Rattle.omf_layout.specs.Several.Laying.{Lying, runs_laid}
use Rattle.omf_layout.specs.Several.Order.{runs_in}
use Rattle.omf_layout.specs.Several.Portions.{Classed, portions}
use Rattle.omf_layout.specs.declared.options.Frames.{Frames}
use Rattle.omf_layout.specs.declared.options.Frames.TheVariants.{Real, Flat}
use Rattle.omf_layout.specs.declared.several.portion.Portion.{Portion}
use Rattle.omf_placement.specs.Quoted.{escaped}
use Rattle.omf_placement.specs.declared.frame.Frame.{Frame}
use Rattle.omf_placement.specs.declared.frame.Placed.{Placed}
use Rattle.omf_reloc.specs.Reach.{entries}
use Rattle.omf_reloc.specs.declared.fault.Kind.TheVariants as kinds
use Rattle.omf_linking.specs.Locator.Keys.{count_from, entry_name, is_written}
use Rattle.omf_linking.specs.Locator.LinkEntries.{Parts, ClassParts, NameParts, NamedParts, Target, SegmentPlace, StoredPlace}
use Rattle.omf_linking.specs.declared.locator.fault.LineFault.{LineFault}
use Rattle.omf_linking.specs.declared.locator.fault.LineFault.TheVariants as why
use Rattle.omf_linking.specs.declared.locator.span.End.{End}
use Rattle.omf_linking.specs.declared.locator.span.Site.{Site}
use Rattle.omf_linking.specs.declared.locator.span.Span.{Span}
use Rattle.omf_linking.specs.declared.locator.span.Where.{Where}
use Rattle.omf_linking.specs.declared.locator.span.Where.TheVariants.{From, After}

-- The segments of a line, by their class and their name, as these are in quotes; one without class or name has an empty one.
abbrev pub is_spelled : List ℕ → List ℕ → Bool
is_spelled text name = bytes_eq text (flat_map escaped name)

abbrev pub names_part : Parts → List ℕ → List ℕ → Bool
names_part (ClassParts c) class name = is_spelled c class
names_part (NameParts n) class name = is_spelled n name
names_part (NamedParts n c) class name = is_spelled n name && is_spelled c class

-- Those of all modules, module by module.
abbrev pub parts_named : Parts → List (List Rec) → List (Classed Portion)
parts_named ps ms = filter (λ x. names_part ps x.0 x.1.0) (portions ms)

-- The groups of a name in all modules, each by its module and its index.
abbrev pub groups_in : List ℕ → ℕ × List Rec → List (ℕ × ℕ)
groups_in name m = map (λ i. (m.0, i)) (filter (λ i. is_written name (entry_name m.1 kinds.Group i)) (count_from 1 (entries m.1 kinds.Group)))

abbrev pub groups_named : List ℕ → List (List Rec) → List (ℕ × ℕ)
groups_named name ms = flat_map (groups_in name) (enumerate_from 0 ms)

-- An address, or the first one after others.
abbrev pub address_by : Option ℕ → Where → Result ℕ LineFault
address_by o (From a) = Ok a
address_by (Some a) After = Ok a
address_by None After = Err why.NothingBefore

abbrev pub stored_by : Option ℕ → Option Where → Result (Option ℕ) LineFault
stored_by o None = Ok None
stored_by o (Some w) = map_ok Some (address_by o w)

-- Where a line lays segments, by the end of what was laid before.
abbrev pub sited : Option Frame → Result ℕ LineFault → Result (Option ℕ) LineFault → Result Site LineFault
sited f (Ok a) (Ok s) = Ok (record { start = a; frame = f; stored = s })
sited f (Ok a) (Err w) = Err w
sited f (Err w) s = Err w

abbrev pub site_of : Option End → Span → Result Site LineFault
site_of o s = sited s.frame (address_by (option_map (λ e. e.run) o) s.start) (stored_by (option_map (λ e. e.stored) o) s.stored)

-- Segments are laid as a draft lays them: with real-mode frames, or all in the line's frame.
abbrev pub frames_of : Option Frame → Frames
frames_of None = Real
frames_of (Some f) = Flat f.selector

abbrev pub place_by : Option Frame → Placed → Placed
place_by None p = p
place_by (Some f) p = record { address = p.address; frame = f }

abbrev pub laid_at : Site → List (Classed Portion) → Option (Laid (List Lying))
laid_at s xs = runs_laid (frames_of s.frame) s.start (runs_in xs)

-- What runs n bytes after the line's address is stored n bytes after the address at which the line stores it, below 2^32.
abbrev pub stored_from : ℕ → ℕ → ℕ → ℕ
stored_from start stored address = stored + (address - start)

abbrev pub target_by : ℕ → Option ℕ → Placed → Option Target
target_by start None p = Some (SegmentPlace p)
target_by start (Some s) p = if nat_lt (stored_from start s p.address) (2 ^ 32) then Some (StoredPlace p (stored_from start s p.address)) else None

abbrev pub stored_end : ℕ → Option ℕ → ℕ → Option ℕ
stored_end start None free = Some free
stored_end start (Some s) free = if nat_le (stored_from start s free) (2 ^ 32) then Some (stored_from start s free) else None

-- An entry of a module, by the module's number from 0 and its index from 1, and what it is given.
abbrev pub Gift : Type 0
Gift = (ℕ × ℕ) × Target

abbrev pub gift_of : Site → Lying → Option Gift
gift_of s x = option_map (λ t. ((x.0.«module», x.0.index), t)) (target_by s.start s.stored (place_by s.frame x.1))

-- All of several values, if there is each of them.
abbrev pub all_some : {A : Type 0} → List (Option A) → Option (List A)
all_some [] = Some []
all_some (None ∷ os) = None
all_some (Some a ∷ os) = option_map (λ xs. a ∷ xs) (all_some os)

-- What a line gives the segments that it lays, and the end of these; none if they don't fit.
abbrev pub gifts_at : Site → Laid (List Lying) → Option (List Gift × End)
gifts_at s l = option_and_then (λ gs. option_map (λ b. (gs, record { run = l.free; stored = b })) (stored_end s.start s.stored l.free)) (all_some (map (gift_of s) l.what))

abbrev pub gifts_of : Site → List (Classed Portion) → Option (List Gift × End)
gifts_of s xs = option_and_then (gifts_at s) (laid_at s xs)
