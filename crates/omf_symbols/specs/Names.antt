-- Names as tools read them (this profile's rule).
use Rattle.std.specs.Prelude.{ℕ, List, [], ◌∷◌, ◌++◌, flat_map, codes, Bool, not, nat_le, nat_lt, ◌==◌, ◌&&◌, ◌||◌, if◌then◌else◌}
use Rattle.omf_placement.specs.Quoted.{hex}
use Rattle.omf_host.specs.declared.tool.Tool.{Tool}
use Rattle.omf_host.specs.declared.tool.Tool.TheVariants as tool

-- A letter, a digit, a point or an underscore.
abbrev pub is_letter : ℕ → Bool
is_letter c = (nat_le 97 c && nat_le c 122) || ((nat_le 65 c && nat_le c 90) || ((nat_le 48 c && nat_le c 57) || (c == 46 || c == 95)))

-- What a tool takes as it is in a name: printable ASCII without blanks and backslashes; in the script also without the quote; for radare2 letters, digits, points
-- and underscores.
abbrev pub is_visible : ℕ → Bool
is_visible c = nat_lt 0x20 c && (nat_lt c 0x7F && not (c == 92))

abbrev pub is_plain : Tool → ℕ → Bool
is_plain tool.Ghidra c = is_visible c
is_plain tool.Nm c = is_visible c
is_plain tool.Ida c = is_visible c && not (c == 34)
is_plain tool.Radare c = is_letter c

-- Any other byte is two hexadecimal digits after these.
abbrev pub escape : Tool → List ℕ
escape tool.Ghidra = codes "\\x"
escape tool.Nm = codes "\\x"
escape tool.Ida = codes "_"
escape tool.Radare = codes "_"

abbrev pub name_byte : Tool → ℕ → List ℕ
name_byte t c = if is_plain t c then c ∷ [] else escape t ++ hex 2 c

abbrev pub name_text : Tool → List ℕ → List ℕ
name_text t name = flat_map (name_byte t) name
