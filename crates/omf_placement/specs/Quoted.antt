-- Numbers, names and lines in printed texts (a format of this profile).
use Rattle.std.specs.Prelude.{ℕ, ◌-◌, List, [], ◌∷◌, ◌++◌, length, flat_map, replicate, unwrap_or, option_map, true, Bool, ◌==◌, ◌&&◌, not, nat_le, codes, if◌then◌else◌}
use Rattle.std.specs.Fmt.{digits}
use Rattle.omf_check.specs.Tables.{entry}
use Rattle.omf_placement.specs.Entries.{in_words}

-- A line: words with one space between each two.
abbrev pub line : List (List ℕ) → List ℕ
line words = in_words words ++ 10 ∷ []

-- A number in upper-case hexadecimal; the same with at least `least` digits.
abbrev pub number : ℕ → List ℕ
number n = digits 16 true n

abbrev pub hex : ℕ → ℕ → List ℕ
hex least n = let shown = number n in replicate (least - length shown) 48 ++ shown

-- A name in double quotes. Bytes outside 20H to 7EH, the quote and the backslash are printed as \x and two digits.
abbrev pub is_plain : ℕ → Bool
is_plain c = nat_le 0x20 c && (nat_le c 0x7E && (not (c == 34) && not (c == 92)))

abbrev pub escaped : ℕ → List ℕ
escaped c = if is_plain c then c ∷ [] else 92 ∷ 120 ∷ hex 2 c

abbrev pub quoted : List ℕ → List ℕ
quoted name = 34 ∷ flat_map escaped name ++ 34 ∷ []

-- The name with index i of a table, or a dash if there is none.
abbrev pub named : List (List ℕ) → ℕ → List ℕ
named table i = unwrap_or (option_map quoted (entry table i)) (codes "-")
