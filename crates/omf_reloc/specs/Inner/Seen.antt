-- The additions of the code as additions of the definitions.
use Rattle.std.specs.Prelude.{List, ◌∷◌, Option, option_map}
use Rattle.std.specs.Option.{option_to_list}
use Rattle.omf_image.specs.Inner.Names.{part_size}
use Rattle.omf_image.specs.Parts.{Addition}
use Rattle.omf_reloc.specs.declared.addition.Addition.{Addition as CodeAddition}

-- an addition of the code
abbrev pub seen_addition : CodeAddition → Addition
seen_addition a = record { offset = a.offset; size = part_size a.part; value = a.value }

-- the first, and the second if there is one
abbrev pub all_added : CodeAddition → Option CodeAddition → List Addition
all_added first second = seen_addition first ∷ option_to_list (option_map seen_addition second)
