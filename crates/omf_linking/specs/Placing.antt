-- The placements of modules by a link's text, each external placed by the text or by its name (this profile's rule).
use Rattle.std.specs.Prelude.{◌≡◌, ⊤, ℕ, ◌+◌, List, [], ◌∷◌, map, flat_map, filter_map, zip, Option, Some, None, option_map, Result, Ok, Err}
use Rattle.std.specs.List.{enumerate_from}
use Rattle.omf_check.specs.Tables.{entry}
use Rattle.omf_records.specs.Values.{Rec}
use Rattle.omf_records.specs.Inner.Seen.{map_ok}
-- computed: derived_is_taken of omf_placement.
use Rattle.omf_placement.specs.Inner.Derived.{derived}
use Rattle.omf_placement.specs.declared.several.fault.DeriveFault.{DeriveFault}
use Rattle.omf_placement.specs.declared.several.given.Given.{Given}
use Rattle.omf_placement.specs.declared.frame.Frame.{Frame}
use Rattle.omf_placement.specs.declared.frame.Placed.{Placed}
use Rattle.omf_placement.specs.Placement.{Places, real_group}
use Rattle.omf_placement.specs.Weak.{with_weak}
use Rattle.omf_reloc.specs.declared.fault.Kind.{Kind}
use Rattle.omf_reloc.specs.declared.fault.Kind.TheVariants as kinds
use Rattle.omf_reloc.specs.declared.fault.ReachFault.TheVariants as reach
use Rattle.omf_linking.specs.Faults.{of_derive, of_locator}
use Rattle.omf_linking.specs.Locator.Sparse.{Sparse, sparse}
use Rattle.omf_linking.specs.declared.fault.LinkFault.{LinkFault}
use Rattle.omf_linking.specs.declared.fault.LinkFault.TheVariants as fault
use Rattle.omf_linking.specs.declared.locator.fault.LocatorFault.{LocatorFault}

-- What the entries of a table are given, from this index on; or the first index at which nothing is given.
abbrev pub all_given : {A : Type 0} → ℕ → List (Option A) → Result (List A) ℕ
all_given i [] = Ok []
all_given i (None ∷ os) = Err i
all_given i (Some a ∷ os) = map_ok (λ xs. a ∷ xs) (all_given (i + 1) os)

-- An entry without a place, or a group without a frame, is missing in the placement of module j.
abbrev pub or_missing : {A : Type 0} → ℕ → Kind → Result A ℕ → Result A LinkFault
or_missing j kind (Ok a) = Ok a
or_missing j kind (Err i) = Err (fault.Reach j (reach.Missing kind i))

-- The frame of a group: that of its line, or that of its lowest member. None if there is no line, or if the group has no such member.
abbrev pub frame_given : List Rec → List Placed → ℕ × Option (Option Frame) → Option Frame
frame_given m ps (i, None) = None
frame_given m ps (i, Some None) = real_group m ps i
frame_given m ps (i, Some (Some f)) = Some f

abbrev pub frames_given : List Rec → List Placed → List (Option (Option Frame)) → Result (List Frame) ℕ
frames_given m ps gs = all_given 1 (map (frame_given m ps) (enumerate_from 1 gs))

-- The places of a module's segments and the frames of its groups; or the first segment without a place, or else the first group without a frame.
abbrev pub placed_by : List Placed → List Frame → Places
placed_by ps fs = record { segments = ps; groups = fs; externals = [] }

abbrev pub with_segments : ℕ → List Rec → List (Option (Option Frame)) → Result (List Placed) LinkFault → Result Places LinkFault
with_segments j m gs (Ok ps) = map_ok (placed_by ps) (or_missing j kinds.Group (frames_given m ps gs))
with_segments j m gs (Err f) = Err f

abbrev pub places_given : ℕ → List Rec → Sparse → Result Places LinkFault
places_given j m s = with_segments j m s.groups (or_missing j kinds.Segment (all_given 1 s.segments))

-- The places of modules, from module j on; or the first of these faults.
abbrev pub in_front : Result Places LinkFault → Result (List Places) LinkFault → Result (List Places) LinkFault
in_front (Ok pl) others = map_ok (λ pls. pl ∷ pls) others
in_front (Err f) others = Err f

abbrev pub places_of : ℕ → List (List Rec × Sparse) → Result (List Places) LinkFault
places_of j [] = Ok []
places_of j (m ∷ ms) = in_front (places_given j m.0 m.1) (places_of (j + 1) ms)

-- The externals that the text gives a place.
abbrev pub given_as : ℕ → ℕ × Option Placed → Option Given
given_as j (i, None) = None
given_as j (i, Some p) = Some (record { «module» = j; external = i; address = p.address; frame = p.frame })

abbrev pub given_in : ℕ × Sparse → List Given
given_in s = filter_map (given_as s.0) (enumerate_from 1 s.1.externals)

abbrev pub given_of : List Sparse → List Given
given_of ss = flat_map given_in (enumerate_from 0 ss)

-- The placements of modules by a text, where weak externals without a public have the places of their defaults; or the first fault: a line, or a module with an
-- entry that has no place, or an external without a place.
abbrev pub derived_or : Result (List Places) DeriveFault → Result (List Places) LinkFault
derived_or (Ok pls) = Ok pls
derived_or (Err f) = Err (of_derive f)

abbrev pub found : List (List Rec) → List Sparse → Result (List Places) LinkFault → Result (List Places) LinkFault
found ms ss (Ok pls) = derived_or (derived (zip ms pls) (with_weak (zip ms pls) (given_of ss)))
found ms ss (Err f) = Err f

abbrev pub by_sparse : List (List Rec) → Result (List Sparse) LocatorFault → Result (List Places) LinkFault
by_sparse ms (Ok ss) = found ms ss (places_of 0 (zip ms ss))
by_sparse ms (Err f) = Err (of_locator f)

-- No modules are a fault of their own, whatever the text is.
abbrev pub linked : List (List Rec) → List ℕ → Result (List Places) LinkFault
linked [] text = Err fault.NoModules
linked (m ∷ ms) text = by_sparse (m ∷ ms) (sparse (m ∷ ms) text)

-- Where the segments of a module are stored: each at the address that a text gives for that, or else where it runs.
abbrev pub stored_place : Placed → Option ℕ → Placed
stored_place p None = p
stored_place p (Some a) = record { address = a; frame = p.frame }

abbrev pub stored_segment : List Placed → ℕ × Option ℕ → Option Placed
stored_segment ps (i, s) = option_map (λ p. stored_place p s) (entry ps i)

abbrev pub stored_places : Sparse × Places → Places
stored_places x = placed_by (filter_map (stored_segment x.1.segments) (enumerate_from 1 x.0.stored)) []

abbrev pub all_stored : List Sparse → List Places → List Places
all_stored ss pls = map stored_places (zip ss pls)

-- The same of modules that run at these placements of a text.
abbrev pub stored_in : Result (List Sparse) LocatorFault → List Places → List Places
stored_in (Ok ss) pls = all_stored ss pls
stored_in (Err f) pls = pls

abbrev pub stored_by : List (List Rec) → List ℕ → List Places → List Places
stored_by ms text pls = stored_in (sparse ms text) pls

-- A result is exactly the defined value or fault. Memory may run out at any time.
abbrev pub IsOutcome : {A : Type 0} → Result A LinkFault → Result A LinkFault → Type 0
IsOutcome r (Ok a) = r ≡ Ok a
IsOutcome r (Err fault.Memory) = ⊤
IsOutcome r (Err f) = r ≡ Err f
