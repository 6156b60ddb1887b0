-- Segments between the parts of a stack (this profile's rule). DOS has one stack, from the frame of its lowest segment to the end of its last one: what is
-- between them is written over.
use Rattle.std.specs.Prelude.{ℕ, ◌+◌, ◌==◌, ◌&&◌, List, max, min, not, nat_lt, find, filter, filter_map, flat_map, fold, Bool, Option, Some, None, option_and_then, is_some, if◌then◌else◌}
use Rattle.std.specs.List.{enumerate_from}
use Rattle.omf_records.specs.Values.{combination}
use Rattle.omf_check.specs.Tables.{attributes, entry, segments}
use Rattle.omf_check.specs.declared.segment.SegInfo.{SegInfo}
use Rattle.omf_placement.specs.Derive.{PlacedModule}
use Rattle.omf_output.specs.declared.stacks.Interval.{Interval}

-- Segment k of module j with its addresses, and whether it is a part of the stack (TIS OMF 1.1, "SEGDEF", C field: combination 5). None if it has no byte
-- or is absolute.
abbrev pub interval_of : ℕ → ℕ → ℕ → ℕ → ℕ → Option Interval
interval_of j k address size attribute =
    if nat_lt 0 size then Some (record { «module» = j; segment = k; first = address; end = address + size; is_stack = combination attribute == 5 }) else None

abbrev pub interval_at : ℕ → PlacedModule → ℕ × SegInfo → Option Interval
interval_at j m s =
    if is_some s.1.absolute then None
    else option_and_then (λ p. option_and_then (λ a. interval_of j s.0 p.address s.1.length a) (entry (attributes m.0) s.0)) (entry m.1.segments s.0)

abbrev pub intervals_in : ℕ → PlacedModule → List Interval
intervals_in j m = filter_map (interval_at j m) (enumerate_from 1 (segments m.0))

abbrev pub intervals : List PlacedModule → List Interval
intervals ms = flat_map (λ x. intervals_in x.0 x.1) (enumerate_from 0 ms)

-- The least address of the parts of the stack, and the greatest address after them.
abbrev pub joined : Option (ℕ × ℕ) → Interval → Option (ℕ × ℕ)
joined None e = Some (e.first, e.end)
joined (Some h) e = Some (min h.0 e.first, max h.1 e.end)

abbrev pub hull : List Interval → Option (ℕ × ℕ)
hull es = fold joined None (filter (λ e. e.is_stack) es)

-- The first other segment with a byte between them.
abbrev pub is_between : ℕ × ℕ → Interval → Bool
is_between h e = not e.is_stack && (nat_lt e.first h.1 && nat_lt h.0 e.end)

abbrev pub first_between : List PlacedModule → Option Interval
first_between ms = option_and_then (λ h. find (is_between h) (intervals ms)) (hull (intervals ms))
