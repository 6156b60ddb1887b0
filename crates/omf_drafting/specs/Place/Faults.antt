-- The faults of `omf-place`: how a layout's fault converts, and what is reported.
use Rattle.std.specs.Prelude.{ℕ, List, [], ◌∷◌, ◌++◌, codes}
use Rattle.omf_layout.specs.declared.fault.LayoutFault.{LayoutFault}
use Rattle.omf_layout.specs.declared.fault.LayoutFault.TheVariants as layout
use Rattle.omf_cmd.specs.Programs.{FaultReport}
use Rattle.omf_cmd.specs.Reports.{report as run_report}
use Rattle.omf_cmd.specs.declared.fault.RunFault.TheVariants as run
use Rattle.omf_drafting.specs.declared.place.fault.PlaceFault.{PlaceFault}
use Rattle.omf_drafting.specs.declared.place.fault.PlaceFault.TheVariants as fault

-- Converts a layout's fault.
abbrev pub of_layout : LayoutFault → PlaceFault
of_layout layout.Memory = fault.Run run.Memory
of_layout layout.NoRoom = fault.NoRoom

-- What is printed if something has no room.
abbrev pub no_room : List ℕ
no_room = codes "no room below the last address" ++ 10 ∷ []

-- What is reported of a fault: what `omf` reports, or status 1 and that there is no room.
abbrev pub report : PlaceFault → FaultReport
report (fault.Run f) = run_report f
report fault.NoRoom = record { status = 1; text = no_room }

-- The usage.
abbrev pub usage : List ℕ
usage = codes "usage: omf-place [--base ADDRESS] [--real | --flat SELECTOR] [FILE]" ++ 10 ∷ []
