-- The frames that suit modules, where a command line names none (a rule of this profile).
use Rattle.std.specs.Prelude.{Bool, true, false, List, unwrap_or}
use Rattle.std.specs.List.{list_any}
use Rattle.omf_check.specs.Tables.{attributes}
use Rattle.omf_layout.specs.declared.options.Frames.{Frames}
use Rattle.omf_layout.specs.declared.options.Frames.TheVariants.{Real, Flat}
use Rattle.omf_layout.specs.declared.options.Options.{Options}
use Rattle.omf_drafting.specs.declared.options.AskedOptions.{AskedOptions}
use Rattle.omf_records.specs.Values.{Rec, is_use32}

-- A module has a 32-bit segment (TIS OMF 1.1, "SEGDEF", P bit).
abbrev pub has_use32 : List Rec → Bool
has_use32 m = list_any is_use32 (attributes m)

-- Without 32-bit segments real mode, else one flat frame with selector 0.
abbrev pub suiting : Bool → Frames
suiting true = Flat 0
suiting false = Real

-- The options of a layout: the frames are those that the command line names, or else those that suit.
abbrev pub options_by : Bool → AskedOptions → Options
options_by use32 o = record { base = o.base; frames = unwrap_or o.frames (suiting use32) }

-- Those for one module, and for several: real mode if none of them has a 32-bit segment.
abbrev pub module_options : List Rec → AskedOptions → Options
module_options m o = options_by (has_use32 m) o

abbrev pub options_for : List (List Rec) → AskedOptions → Options
options_for ms o = options_by (list_any has_use32 ms) o
