-- The list of the modules of a program, which is the front of its map (this profile's rule): a line for each.
use Rattle.std.specs.Prelude.{ℕ, List, [], ◌∷◌, ◌++◌, Option, Some, None, option_and_then, option_map, unwrap_or, slice_get, flat_map, codes, decimal, if◌then◌else◌}
use Rattle.std.specs.List.{enumerate_from}
use Rattle.omf_records.specs.Values.{Rec}
use Rattle.omf_check.specs.Tables.{entry}
use Rattle.omf_placement.specs.Quoted.{quoted}
use Rattle.omf_linking.specs.File.{InputFile}
use Rattle.omf_linking.specs.Locator.Keys.{module_name}
use Rattle.omf_exe.specs.Input.{is_library}
use Rattle.omf_exe.specs.declared.input.Origin.{Origin}

-- A file by its number from 0: its name in quotes.
abbrev pub file_text : List InputFile → ℕ → List ℕ
file_text files k = codes "file " ++ unwrap_or (option_map (λ f. quoted f.name) (slice_get files k)) (codes "-")

-- A module of a file: the file, and the module's number there.
abbrev pub origin_text : List InputFile → Origin → List ℕ
origin_text files o = file_text files o.file ++ codes " module " ++ decimal o.number

-- Where the module of a number comes from, from 1; one that the linker added has no origin.
abbrev pub noted : Option Origin → Option Origin
noted origin = origin

abbrev pub origin_at : List (Option Origin) → ℕ → Option Origin
origin_at from number = option_and_then noted (entry from number)

-- The name of a module of a library, after its number there; nothing for a module of another file.
abbrev pub member_text : Option InputFile → List Rec → List ℕ
member_text None m = []
member_text (Some f) m = if is_library f.bytes then 32 ∷ quoted (module_name m) else []

-- What a module is called: its origin, and its name if it is a member of a library; without an origin its name.
abbrev pub title_text : List InputFile → Option Origin → List Rec → List ℕ
title_text files (Some o) m = origin_text files o ++ member_text (slice_get files o.file) m
title_text files None m = quoted (module_name m)

-- The line of a module: its number in the program, from 1, and what it is called.
abbrev pub module_line : List InputFile → List (Option Origin) → ℕ × List Rec → List ℕ
module_line files from m = codes "module " ++ decimal m.0 ++ 32 ∷ title_text files (origin_at from m.0) m.1 ++ 10 ∷ []

abbrev pub list_text : List InputFile → List (Option Origin) → List (List Rec) → List ℕ
list_text files from ms = flat_map (module_line files from) (enumerate_from 1 ms)
