-- The layout options of a command line (a rule of this profile), stated over clap's own definitions.
use Rattle.std.specs.Prelude.{◌≡◌, ℕ, List, Bool, true, false, Option, Some, None, option_map, option_and_then, codes}
use Rattle.clap.specs.Words.{App, Row, Rule, Text, first_of, new_rule, one_of, with_rule}
use Rattle.clap.specs.declared.builder.ArgAction.TheVariants.{Set, SetTrue}
use Rattle.omf_cmd.specs.Words.{flag_text}
use Rattle.omf_host.specs.Numbers.{number}
use Rattle.omf_layout.specs.declared.options.Frames.{Frames}
use Rattle.omf_layout.specs.declared.options.Frames.TheVariants.{Real, Flat}
use Rattle.omf_drafting.specs.declared.options.AskedOptions.{AskedOptions}

-- The base: 1 to 8 hexadecimal digits, alone, after 0x or before H; 10000H by default.
abbrev pub base_named : Option Text → Option ℕ
base_named None = Some 0x10000
base_named (Some word) = number 8 word

-- The frames: real mode, or one flat frame with a selector of 1 to 4 such digits. Not both. None of the two leaves the frames open.
abbrev pub flat_frames : ℕ → Option Frames
flat_frames selector = Some (Flat selector)

abbrev pub frames_named : Bool → Option Text → Option (Option Frames)
frames_named true (Some word) = None
frames_named true None = Some (Some Real)
frames_named false (Some word) = option_map flat_frames (number 4 word)
frames_named false None = Some None

-- The options: a base and frames, if both are valid.
abbrev pub options_named : Option Text → Bool → Option Text → Option AskedOptions
options_named base real flat = option_and_then (λ b. option_map (λ f. record { base = b; frames = f }) (frames_named real flat)) (base_named base)

-- A command with these options: two that take a value, and a flag.
abbrev pub base_id : Text
base_id = codes "base"

abbrev pub real_id : Text
real_id = codes "real"

abbrev pub flat_id : Text
flat_id = codes "flat"

abbrev pub value_rule : Text → Rule
value_rule id = record (new_rule id) { long = Some id; action = Some Set }

abbrev pub flag_rule : Text → Rule
flag_rule id = record (new_rule id) { long = Some id; action = Some SetTrue }

abbrev pub with_options : App → App
with_options a = with_rule (with_rule (with_rule a (value_rule base_id)) (flag_rule real_id)) (value_rule flat_id)

-- The arguments that clap parsed give these options.
pub record AreNamed (rows : List Row) (o : AskedOptions) : Type 0 where
  pub real : Bool
  pub set : one_of real_id rows ≡ Some (flag_text real)
  pub named : options_named (first_of base_id rows) real (first_of flat_id rows) ≡ Some o

-- They give no other options, whatever value clap has for the flag.
abbrev pub NameOnly : List Row → AskedOptions → Type 0
NameOnly rows o = (real : Bool) → one_of real_id rows ≡ Some (flag_text real) → options_named (first_of base_id rows) real (first_of flat_id rows) ≡ Some o
