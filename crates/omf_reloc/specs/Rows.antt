-- Definitions of the worked examples.
use Rattle.std.specs.Prelude.{ℕ, List, [], ◌∷◌, map, flat_map, Option, Some, None, option_to_list, Result, Ok, Err}
use Rattle.std.specs.List.{range_with_len}
use Rattle.omf_image.specs.declared.run.Run.{Run}
use Rattle.omf_image.specs.Limits.{profile_limits}
use Rattle.omf_image.specs.Inner.Joined.{runs_of}
use Rattle.omf_frame.specs.declared.fault.Place.{Place}
use Rattle.omf_records.specs.Values.{Rec}
use Rattle.omf_check.specs.Listed.{placed_from}
use Rattle.omf_check.specs.Threads.{PlainReference}
use Rattle.omf_check.specs.declared.method.FrameMethod.{FrameMethod}
use Rattle.omf_check.specs.declared.method.TargetMethod.{TargetMethod}
use Rattle.omf_placement.specs.declared.frame.Frame.{Frame}
use Rattle.omf_reloc.specs.declared.fault.ReachFault.{ReachFault}
use Rattle.omf_placement.specs.declared.several.fault.DeriveFault.{DeriveFault}
use Rattle.omf_placement.specs.declared.several.given.Given.{Given}
use Rattle.omf_reloc.specs.Inner.Pieces.{references_at, placed_pieces}
use Rattle.omf_reloc.specs.Plain.{Piece, Fixed, pieces}
use Rattle.omf_placement.specs.declared.frame.Placed.{Placed}
use Rattle.omf_placement.specs.Placement.{Places}
use Rattle.omf_reloc.specs.Reach.{reach_fault}
use Rattle.omf_reloc.specs.Image.{image, laid, start}
use Rattle.omf_placement.specs.PlacementText.{Draft, parsed, resolved}
use Rattle.omf_placement.specs.Derive.{PlacedModule}
use Rattle.omf_placement.specs.Inner.Derived.{derived}
use Rattle.omf_reloc.specs.Modules.{raws_of, module_of}

abbrev pub frame : ℕ → ℕ → Frame
frame base selector = record { base = base; selector = selector }

abbrev pub at : ℕ → ℕ → ℕ → Placed
at address base selector = record { address = address; frame = frame base selector }

abbrev pub places : List Placed → List Frame → List Placed → Places
places segments groups externals = record { segments = segments; groups = groups; externals = externals }

abbrev pub only : Placed → Places
only p = places (p ∷ []) [] []

-- the one segment at 10020H, in a frame of base 10000H
abbrev pub low : Places
low = only (at 0x10020 0x10000 0x1000)

-- The runs of a segment, each with the offset of its first byte and its bytes; or the fault of reach.
abbrev pub run_bytes : Places → List Rec → ℕ → Run → ℕ × List ℕ
run_bytes pl m segment r = (r.first, flat_map (λ x. option_to_list (image profile_limits pl m segment x)) (range_with_len r.first r.len))

abbrev pub unless_far : {A : Type 0} → Option ReachFault → A → Result A ReachFault
unless_far None a = Ok a
unless_far (Some f) a = Err f

abbrev pub relocated_records : Places → List Rec → ℕ → Result (List (ℕ × List ℕ)) ReachFault
relocated_records pl m segment = unless_far (reach_fault pl m) (map (run_bytes pl m segment) (runs_of (laid profile_limits pl (pieces m)) segment))

abbrev pub relocated : List ℕ → Places → ℕ → Result (List (ℕ × List ℕ)) ReachFault
relocated bytes pl segment = relocated_records pl (module_of bytes) segment

-- One run from offset 0.
abbrev pub run_from_0 : List ℕ → Result (List (ℕ × List ℕ)) ReachFault
run_from_0 bytes = Ok ((0, bytes) ∷ [])

-- The start address; or the fault of reach.
abbrev pub start_records : Places → List Rec → Result (Option (ℕ × ℕ)) ReachFault
start_records pl m = unless_far (reach_fault pl m) (start pl m)

abbrev pub started : List ℕ → Places → Result (Option (ℕ × ℕ)) ReachFault
started bytes pl = start_records pl (module_of bytes)

-- The placement that a text gives a module, or the number of the line at fault.
abbrev pub and_resolved : List Rec → Result Draft ℕ → Result Places ℕ
and_resolved m (Ok d) = resolved m d
and_resolved m (Err n) = Err n

abbrev pub placed_by : List ℕ → List ℕ → Result Places ℕ
placed_by bytes text = and_resolved (module_of bytes) (parsed text)

-- Placements derived for modules, and the image of the first in segment 1; or the fault.
abbrev pub joined : List (List ℕ × Places) → List PlacedModule
joined ms = map (λ m. (module_of m.0, m.1)) ms

abbrev pub first_image : List PlacedModule → Result (List Places) DeriveFault → Result (List Placed × Result (List (ℕ × List ℕ)) ReachFault) DeriveFault
first_image (m ∷ ms) (Ok (pl ∷ pls)) = Ok (pl.externals, relocated_records pl m.0 1)
first_image _ (Ok _) = Ok ([], Ok [])
first_image _ (Err e) = Err e

abbrev pub derived_image : List (List ℕ × Places) → List Given → Result (List Placed × Result (List (ℕ × List ℕ)) ReachFault) DeriveFault
derived_image ms given = first_image (joined ms) (derived (joined ms) given)

-- a module with one segment at an address, in a frame
abbrev pub lies : List ℕ → ℕ → ℕ → ℕ → List ℕ × Places
lies bytes address base selector = (bytes, only (at address base selector))

-- The references of a module, each with the number of its record and its offset in the record.
abbrev pub referred : Place × Piece → List ((ℕ × ℕ) × Piece)
referred p = map (λ at. (at, p.1)) (references_at p.0 p.1)

abbrev pub references : List ℕ → List ((ℕ × ℕ) × Piece)
references bytes = flat_map referred (placed_pieces (placed_from 0 0 (raws_of bytes)))

-- A fixup in a FIXUPP of this type, from its first two bytes, its frame, its target and its displacement; and the end of a module with a
-- start.
abbrev pub plain_reference : FrameMethod → TargetMethod → ℕ → PlainReference
plain_reference frame_method target displacement = record { frame = frame_method; target = target; displacement = displacement }

abbrev pub fixup : ℕ → ℕ → PlainReference → Piece
fixup kind locat reference = Fixed kind (record { locat = locat; reference = reference } ∷ [])
