-- The text with which omf-link lays modules that are found at their places (docs/ADDRESSES.md, "The text"; its comments are this profile's rule).
use Rattle.std.specs.Prelude.{◌≡◌, ℕ, List, [], ◌∷◌, ◌++◌, flat_map, map, codes, decimal, Bool, true, false, Option, Some, None, option_map, slice_get, if◌then◌else◌}
use Rattle.std.specs.List.{enumerate_from, range_with_len}
use Rattle.omf_check.specs.Module.{Module, recs_of}
use Rattle.omf_check.specs.Tables.{entry}
use Rattle.omf_records.specs.Values.{Rec}
use Rattle.omf_placement.specs.Entries.{in_words}
use Rattle.omf_placement.specs.Placement.{Places}
use Rattle.omf_placement.specs.Quoted.{number, quoted}
use Rattle.omf_placement.specs.declared.frame.Frame.{Frame}
use Rattle.omf_placement.specs.declared.frame.Placed.{Placed}
use Rattle.omf_reloc.specs.Reach.{entries}
use Rattle.omf_reloc.specs.declared.fault.Kind.{Kind}
use Rattle.omf_reloc.specs.declared.fault.Kind.TheVariants as kinds
use Rattle.omf_linking.specs.Locator.KeyForms.{is_repeated, key_form, key_text}
use Rattle.omf_linking.specs.Locator.Keys.{module_name}
use Rattle.omf_linking.specs.declared.locator.forms.KeyForm.{KeyForm}
use Rattle.omf_finding.specs.declared.findings.Verdict.{Verdict}
use Rattle.omf_finding.specs.declared.program.Program.{Program}
use Rattle.omf_find.specs.Origin.{origin_text}
use Rattle.omf_find.specs.Parts.{AreParts}
use Rattle.omf_find.specs.declared.fields.Format.TheVariants as format
use Rattle.omf_find.specs.declared.parts.Part.{Part}
use Rattle.omf_find.specs.declared.reading.Gathered.{Gathered}

-- ---- lines of a module

-- The letter of a line, and what a placement gives an entry: an address and a frame, of a group a frame.
abbrev pub letter : Kind → List ℕ
letter kinds.Segment = codes "S "
letter kinds.Group = codes "G "
letter kinds.External = codes "X "

abbrev pub place_text : Placed → List ℕ
place_text p = in_words (number p.address ∷ number p.frame.base ∷ number p.frame.selector ∷ [])

abbrev pub frame_text : Frame → List ℕ
frame_text f = in_words (number f.base ∷ number f.selector ∷ [])

abbrev pub given : Places → Kind → ℕ → Option (List ℕ)
given pl kinds.Segment i = option_map place_text (entry pl.segments i)
given pl kinds.Group i = option_map frame_text (entry pl.groups i)
given pl kinds.External i = option_map place_text (entry pl.externals i)

abbrev pub after_key : Option (List ℕ) → List ℕ
after_key None = []
after_key (Some words) = 32 ∷ words

abbrev pub line_by : List Rec → Places → Kind → KeyForm → ℕ → List ℕ
line_by m pl kind form i = letter kind ++ (key_text m kind form i ++ (after_key (given pl kind i) ++ 10 ∷ []))

-- A line for each entry of a kind: the key by which a draft names it.
abbrev pub entry_line : List Rec → Places → Kind → ℕ → List ℕ
entry_line m pl kind i = line_by m pl kind (key_form m kind i) i

abbrev pub entry_lines : List Rec → Places → Kind → List ℕ
entry_lines m pl kind = flat_map (entry_line m pl kind) (range_with_len 1 (entries m kind))

abbrev pub module_lines : List Rec → Places → List ℕ
module_lines m pl = entry_lines m pl kinds.Segment ++ (entry_lines m pl kinds.Group ++ entry_lines m pl kinds.External)

abbrev pub lines_of : Option Module → Places → List ℕ
lines_of None pl = []
lines_of (Some m) pl = module_lines (recs_of m.bytes) pl

-- ---- modules

-- The name of a module as it is printed. A module is named by number if another one of the text has its name.
abbrev pub name_text : Option Module → List ℕ
name_text None = []
name_text (Some m) = quoted (module_name (recs_of m.bytes))

abbrev pub part_name : Gathered → Part → List ℕ
part_name g part = name_text (slice_get g.modules.items part.«module»)

abbrev pub key_words : ℕ → List ℕ → Bool → List ℕ
key_words number name repeated = if repeated then 35 ∷ decimal number else name

abbrev pub opening : List (List ℕ) → Gathered → Part → ℕ → List ℕ → Bool → List ℕ
opening files g part number name repeated = codes "M " ++ (key_words number name repeated ++ (codes " ;" ++ (origin_text format.Text files g part.«module» ++ 10 ∷ [])))

abbrev pub part_by : List (List ℕ) → Gathered → Part → ℕ → List ℕ → Bool → List ℕ
part_by files g part number name repeated = opening files g part number name repeated ++ lines_of (slice_get g.modules.items part.«module») part.placement

-- The lines of a module, which is the one with this number in the text, from 1. The first has in a comment where it comes from.
abbrev pub part_text : List (List ℕ) → Gathered → List (List ℕ) → ℕ × Part → List ℕ
part_text files g names x = part_by files g x.1 x.0 (part_name g x.1) (is_repeated names (part_name g x.1))

-- A comment for each module that is left out.
abbrev pub left_out_line : List (List ℕ) → Gathered → ℕ → List ℕ
left_out_line files g n = codes "; left out:" ++ (origin_text format.Text files g n ++ 10 ∷ [])

-- What is before the modules: how to link them.
abbrev pub head_line : List ℕ
head_line = codes "; omf-link image --allow twice --allow overlap --allow align --allow group --allow frame --allow near -t TEXT MODULE ..\n"

abbrev pub link_text : List (List ℕ) → Gathered → List Part → List ℕ → List ℕ
link_text files g placed left = head_line ++ (flat_map (part_text files g (map (part_name g) placed)) (enumerate_from 1 placed) ++ flat_map (left_out_line files g) left)

-- The text for what is found in a program.
pub record IsLinkText (p : Program) (files : List (List ℕ)) (g : Gathered) (vs : List Verdict) (text : List ℕ) : Type 0 where
  pub placed : List Part
  pub left : List ℕ
  pub are_parts : AreParts p 0 g.modules.items vs placed left
  pub text_is : text ≡ link_text files g placed left

-- It is there if it is asked for.
abbrev pub IsLinkIf : Bool → Program → List (List ℕ) → Gathered → List Verdict → Option (List ℕ) → Type 0
IsLinkIf is_asked p files g vs None = is_asked ≡ false
IsLinkIf is_asked p files g vs (Some text) = (is_asked ≡ true) × IsLinkText p files g vs text
