-- Names for parts of definitions, used in proofs and in contracts of private functions.

use Rattle.omf_cmd.specs.Relocated.{reloc_text}
use Rattle.omf_cmd.specs.declared.fault.RunFault.{RunFault}
use Rattle.omf_cmd.specs.declared.fault.RunFault.TheVariants as fault
use Rattle.omf_reloc.specs.Reach.{reach_fault}
use Rattle.omf_reloc.specs.declared.fault.ReachFault.{ReachFault}
use Rattle.omf_placement.specs.Placement.{Places}
use Rattle.omf_image.specs.declared.limits.Limits.{Limits}
use Rattle.omf_check.specs.WellFormed.{recs}
use Rattle.omf_canon.specs.Canonical.{canonical}
use Rattle.std.specs.Result.{result_flatten, result_map_both}
use Rattle.std.specs.Option.{option_map_or}
use Rattle.std.specs.Prelude.{◌∷◌, codes, List, decimal, ℕ, flat_map, length, ◌++◌, Option, option_to_list, Some, [], Result, Ok, Err}
use Rattle.omf_cmd.specs.Printed.{line}
use Rattle.omf_placement.specs.Quoted.{quoted, named, hex}
use Rattle.omf_check.specs.Tables.{externals, names, groups, segments}
use Rattle.std.specs.List.{enumerate_from, range_with_len}
use Rattle.omf_records.specs.Values.{Rec, GroupItem}
use Rattle.omf_check.specs.declared.segment.SegInfo.{SegInfo}
use Rattle.omf_frame.specs.Types.{type_name}
use Rattle.omf_frame.specs.Framing.{Raw, raw_bytes}
use Rattle.omf_cmd.specs.Words.{flag_id}
use Rattle.clap.specs.declared.builder.ArgAction.TheVariants.{SetTrue}
use Rattle.clap.specs.Words.{Rule, new_rule}

-- The output of `canon`.
abbrev pub canonical_text : List Raw → List ℕ
canonical_text rs = canonical (recs rs)

-- A byte: a space and two digits.
abbrev pub byte_text : ℕ → List ℕ
byte_text b = 32 ∷ hex 2 b

-- The start: the selector in four digits, the offset in eight.
abbrev pub start_line : Option (ℕ × ℕ) → List ℕ
start_line s = option_map_or (λ f. codes "START " ++ hex 4 f.0 ++ 58 ∷ hex 8 f.1 ++ 10 ∷ []) s []

-- The text to print if every fixup is in range, or the fault.
abbrev pub unless_far : Limits → List Rec → Places → Option ReachFault → Result (List ℕ) RunFault
unless_far limits m pl far = option_map_or (λ f. Err (fault.Reach f)) far (Ok (reloc_text limits pl m))

-- The same for a placement, or the number of the placement line at fault.
abbrev pub of_placement : Limits → List Rec → Result Places ℕ → Result (List ℕ) RunFault
of_placement limits m placement = result_flatten (result_map_both (λ pl. unless_far limits m pl (reach_fault pl m)) (λ n. fault.Line n) placement)

abbrev pub external_line : ℕ × List ℕ → List ℕ
external_line e = line (codes "E" ∷ decimal e.0 ∷ quoted e.1 ∷ [])

abbrev pub external_lines : List Rec → List ℕ
external_lines m = flat_map (λ e. line (codes "E" ∷ decimal e.0 ∷ quoted e.1 ∷ [])) (enumerate_from 1 (externals m))

abbrev pub group_line : List Rec → ℕ × GroupItem → List ℕ
group_line m g = line (codes "G" ∷ decimal g.0 ∷ named (names m) g.1.name.item ∷ [])

abbrev pub group_lines : List Rec → List ℕ
group_lines m = flat_map (λ g. line (codes "G" ∷ decimal g.0 ∷ named (names m) g.1.name.item ∷ [])) (enumerate_from 1 (groups m))

-- S: index, length, name. G: index, name. E: index, name.
abbrev pub segment_line : List Rec → ℕ × SegInfo → List ℕ
segment_line m s = line (codes "S" ∷ decimal s.0 ∷ decimal s.1.length ∷ named (names m) s.1.name ∷ [])

abbrev pub segment_lines : List Rec → List ℕ
segment_lines m = flat_map (λ s. line (codes "S" ∷ decimal s.0 ∷ decimal s.1.length ∷ named (names m) s.1.name ∷ [])) (enumerate_from 1 (segments m))

-- R: number, start, type, contents length (without the checksum byte), name. The start has at least eight hexadecimal digits, the type two.
abbrev pub record_line : List Raw → Raw → List ℕ
record_line before r = line (codes "R" ∷ decimal (length before) ∷ hex 8 (length (flat_map raw_bytes before)) ∷ hex 2 r.kind ∷ decimal (length r.body) ∷ type_name r.kind ∷ [])

-- A line: the place of its first byte, and the bytes of an interval.
abbrev pub bytes_line : (ℕ → List ℕ) → (ℕ → Option ℕ) → ℕ → ℕ → List ℕ
bytes_line place byte first len = place first ++ flat_map (λ x. flat_map byte_text (option_to_list (byte x))) (range_with_len first len) ++ 10 ∷ []

-- The flag that may follow a subcommand.
abbrev pub flag : List ℕ
flag = codes "--refuse-vendor-comments"

abbrev pub flag_rule : Rule
flag_rule = record (new_rule flag_id) { long = Some flag_id; action = Some SetTrue }
