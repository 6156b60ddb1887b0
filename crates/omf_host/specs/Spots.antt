-- Where the names of a run's files lead, and which outputs are refused (this profile's rules).
use Rattle.std.specs.Prelude.{ℕ, List, [], ◌∷◌, ◌++◌, ◌==◌, ◌&&◌, Bool, true, false, Option, Some, None, codes, bytes_eq, string_bytes, unwrap_or, if◌then◌else◌}
use Rattle.std.specs.List.{list_any}
use Rattle.omf_placement.specs.Quoted.{quoted}
use Rattle.omf_host.specs.declared.clash.Clash.{Clash}
use Rattle.omf_host.specs.declared.clash.Clash.TheVariants as clashes
use Rattle.omf_host.specs.declared.spot.Node.{Node}
use Rattle.omf_host.specs.declared.spot.Spot.{Spot}
use Rattle.omf_host.specs.declared.spot.Spot.TheVariants as spot

-- Device and inode are the same.
abbrev pub is_same_node : Node → Node → Bool
is_same_node one other = (one.device == other.device) && (one.inode == other.inode)

-- Whether two names lead to one file: to one device and inode; where nothing is there yet, to one name in one folder; or both to the standard
-- output.
abbrev pub is_one_file : Spot → Spot → Bool
is_one_file (spot.There one) (spot.There other) = is_same_node one other
is_one_file (spot.Missing folder name) (spot.Missing other_folder other_name) = is_same_node folder other_folder && bytes_eq (string_bytes name) (string_bytes other_name)
is_one_file spot.Output spot.Output = true
is_one_file _ _ = false

-- Why the second output of a run is refused: it is an input, or the first output.
abbrev pub second_clash : List Spot → Spot → Option Spot → Option Clash
second_clash inputs first None = None
second_clash inputs first (Some second) = if list_any (is_one_file second) inputs then Some clashes.SecondIsRead else if is_one_file first second then Some clashes.AreOne else None

-- Why the outputs of a run are refused, if they are: the first is an input, or the second is refused.
abbrev pub first_clash : List Spot → Spot → Option Spot → Option Clash
first_clash inputs first second = if list_any (is_one_file first) inputs then Some clashes.FirstIsRead else second_clash inputs first second

-- The name of the output that is refused.
abbrev pub name_at_fault : List ℕ → Option (List ℕ) → Clash → List ℕ
name_at_fault first second clashes.FirstIsRead = first
name_at_fault first second _ = unwrap_or second first

-- What else an output is that is refused.
abbrev pub clash_words : Clash → List ℕ
clash_words clashes.AreOne = codes " is two outputs"
clash_words _ = codes " is an input and an output"

-- The line on outputs that are refused: the program's name, that of the output, and what else it is.
abbrev pub clash_line : List ℕ → List ℕ → Clash → List ℕ
clash_line program name why = program ++ codes ": " ++ quoted name ++ clash_words why ++ 10 ∷ []
