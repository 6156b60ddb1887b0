-- Groups with a member too far from their frame (this profile's rule).
use Rattle.std.specs.Prelude.{ℕ, ◌+◌, List, [], ◌∷◌, not, ◌&&◌, nat_lt, Option, Some, None, option_and_then, if◌then◌else◌}
use Rattle.std.specs.List.{enumerate_from}
use Rattle.omf_check.specs.Tables.{attributes, entry, groups, segments}
use Rattle.omf_check.specs.declared.segment.SegInfo.{SegInfo}
use Rattle.omf_placement.specs.Derive.{PlacedModule}
use Rattle.omf_placement.specs.declared.frame.Frame.{Frame}
use Rattle.omf_placement.specs.declared.frame.Placed.{Placed}
use Rattle.omf_records.specs.Values.{At, Contents, Group, GroupItem, is_use32}
use Rattle.omf_warnings.specs.declared.wide.FarMember.{FarMember as Far}

-- The first of what f gives.
abbrev pub or_else : {A : Type 0} → Option A → Option A → Option A
or_else None other = other
or_else (Some a) other = Some a

abbrev pub first_some : {A B : Type 0} → (A → Option B) → List A → Option B
first_some f [] = None
first_some f (x ∷ xs) = or_else (f x) (first_some f xs)

-- A 16-bit member with at least one byte (TIS OMF 1.1, "SEGDEF", P bit) ends more than 65536 bytes after the base of its group's frame, so that no 16-bit offset reaches its end.
abbrev pub wide_if : ℕ → ℕ → ℕ → Frame → Placed → SegInfo → ℕ → Option Far
wide_if j i k f p s a =
    if (nat_lt 0 s.length && nat_lt (f.base + 65536) (p.address + s.length)) && not (is_use32 a)
    then Some (record { «module» = j; group = i; base = f.base; segment = k; end = p.address + s.length })
    else None

-- The same of segment k in group i of module j; none if an entry of one is missing.
abbrev pub wide : ℕ → PlacedModule → ℕ → ℕ → Option Far
wide j m i k =
    option_and_then (λ f. option_and_then (λ p. option_and_then (λ s. option_and_then (λ a. wide_if j i k f p s a) (entry (attributes m.0) k)) (entry (segments m.0) k)) (entry m.1.segments k)) (entry m.1.groups i)

-- The first such member of a group, of a module, of all modules; groups are counted from 1, modules from 0.
abbrev pub wide_in_members : ℕ → PlacedModule → ℕ → List (At (At ℕ)) → Option Far
wide_in_members j m i members = first_some (λ x. wide j m i x.item.item) members

abbrev pub wide_in_group : ℕ → PlacedModule → ℕ × GroupItem → Option Far
wide_in_group j m g = wide_in_members j m g.0 g.1.members

abbrev pub wide_in_module : ℕ → PlacedModule → Option Far
wide_in_module j m = first_some (wide_in_group j m) (enumerate_from 1 (groups m.0))

abbrev pub first_wide : List PlacedModule → Option Far
first_wide ms = first_some (λ x. wide_in_module x.0 x.1) (enumerate_from 0 ms)

-- Those of a record: none if it is no GRPDEF.
abbrev pub wide_in : ℕ → PlacedModule → ℕ → Contents → Option Far
wide_in j m i (Group g) = wide_in_members j m i g.members
wide_in j m i _ = None
