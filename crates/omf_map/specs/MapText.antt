-- The map of a link: a line for each segment of several modules at their addresses, then for each of their publics, then for each of their externals (this
-- profile's rule). Modules are counted from 1, and so are the segments and the externals of each.
use Rattle.std.specs.Prelude.{ℕ, List, [], ◌∷◌, ◌++◌, flat_map, Option, Some, None, option_map, unwrap_or, codes, decimal, false}
use Rattle.std.specs.List.{enumerate_from}
use Rattle.omf_check.specs.Tables.{names, segments, externals}
use Rattle.omf_check.specs.declared.segment.SegInfo.{SegInfo}
use Rattle.omf_placement.specs.Entries.{in_words}
use Rattle.omf_placement.specs.Quoted.{hex, named, quoted}
use Rattle.omf_map.specs.Addresses.{AddressedModule, NamedAddress, address_at, publics_of}

-- A line: its fields with one space between each two.
abbrev pub line : List (List ℕ) → List ℕ
line words = in_words words ++ 10 ∷ []

-- An address in hexadecimal, or a dash for none.
abbrev pub address_or_dash : Option ℕ → List ℕ
address_or_dash address = unwrap_or (option_map (hex 8) address) (codes "-")

-- The end of a segment's line: `at` and the address at which it is stored, if that is not its own.
abbrev pub stored_end : Option ℕ → List ℕ
stored_end None = 10 ∷ []
stored_end (Some a) = codes " at " ++ hex 8 a ++ 10 ∷ []

-- A segment: the number of its module, its index, its address, its length, its name and that of its class.
abbrev pub segment_line : ℕ → AddressedModule → ℕ × SegInfo → List ℕ
segment_line number m s = in_words (codes "segment" ∷ decimal number ∷ decimal s.0 ∷ address_or_dash (address_at m.1.segments s.0) ∷ hex 8 s.1.length ∷ named (names m.0) s.1.name ∷ named (names m.0) s.1.class ∷ []) ++ stored_end (address_at m.1.stored s.0)

abbrev pub segment_lines : ℕ × AddressedModule → List ℕ
segment_lines m = flat_map (segment_line m.0 m.1) (enumerate_from 1 (segments m.1.0))

-- A public that is not local: the number of its module, the address at which externals find it, its name. The address is that of its PUBDEF's segment or base
-- frame, if that has one, plus the public's offset.
abbrev pub public_line : ℕ → NamedAddress → List ℕ
public_line number p = line (codes "public" ∷ decimal number ∷ address_or_dash p.1 ∷ quoted p.0 ∷ [])

abbrev pub public_lines : ℕ × AddressedModule → List ℕ
public_lines m = flat_map (public_line m.0) (publics_of false (m.1.0, m.1.1.segments))

-- An external: the number of its module, its index, its address, its name.
abbrev pub external_line : ℕ → AddressedModule → ℕ × List ℕ → List ℕ
external_line number m e = line (codes "external" ∷ decimal number ∷ decimal e.0 ∷ address_or_dash (address_at m.1.externals e.0) ∷ quoted e.1 ∷ [])

abbrev pub external_lines : ℕ × AddressedModule → List ℕ
external_lines m = flat_map (external_line m.0 m.1) (enumerate_from 1 (externals m.1.0))

-- The segments of all modules, then their publics, then their externals.
abbrev pub map_text : List AddressedModule → List ℕ
map_text ms = let all = enumerate_from 1 ms in flat_map segment_lines all ++ flat_map public_lines all ++ flat_map external_lines all
