-- A link text as it is read (this profile's rule): editors and people write tabs, several spaces, a byte-order mark, and escapes with small digits.
use Rattle.std.specs.Prelude.{ℕ, zero, suc, Bool, false, ◌==◌, ◌&&◌, ◌||◌, List, [], ◌∷◌, if◌then◌else◌}
use Rattle.std.specs.Char.{to_ascii_uppercase}
use Rattle.omf_linking.specs.declared.plain.Side.{Side}
use Rattle.omf_linking.specs.declared.plain.Side.TheVariants.{Comment, Name, Outside, Spaces}

-- Where the next byte of a line is. A quote (34) begins a name, and the next one ends it; a semicolon (59) outside of names begins a comment. In a name a
-- backslash (92) begins an escape: three bytes more, an x and two digits.
abbrev pub in_name : ℕ → ℕ → Side
in_name zero c = if c == 34 then Outside else if c == 92 then Name 3 else Name 0
in_name (suc left) c = if c == 34 then Outside else Name left

abbrev pub is_space : ℕ → Bool
is_space c = c == 32 || c == 9

abbrev pub outside_after : ℕ → Side
outside_after c = if c == 34 then Name 0 else if c == 59 then Comment else if is_space c then Spaces else Outside

abbrev pub side_after : Side → ℕ → Side
side_after Outside c = outside_after c
side_after Spaces c = outside_after c
side_after (Name left) c = in_name left c
side_after Comment c = Comment

abbrev pub next_side : Side → ℕ → Side
next_side s c = if c == 10 then Outside else side_after s c

-- A tab (9) outside of names is a space. The two digits of an escape are capital.
abbrev pub spaced : ℕ → ℕ
spaced c = if c == 9 then 32 else c

abbrev pub plain_byte : Side → ℕ → ℕ
plain_byte Outside c = spaced c
plain_byte Spaces c = spaced c
plain_byte (Name left) c = if left == 1 then to_ascii_uppercase c else if left == 2 then to_ascii_uppercase c else c
plain_byte Comment c = spaced c

-- Of several spaces outside of names one is left.
abbrev pub is_again : Side → ℕ → Bool
is_again Spaces c = is_space c
is_again _ c = false

abbrev pub plain_from : Side → List ℕ → List ℕ
plain_from s [] = []
plain_from s (c ∷ cs) = if is_again s c then plain_from (next_side s c) cs else plain_byte s c ∷ plain_from (next_side s c) cs

-- The byte-order mark of UTF-8 (EFH BBH BFH) at the front is no part of the text.
abbrev pub without_mark : List ℕ → List ℕ
without_mark (a ∷ b ∷ c ∷ rest) = if a == 0xEF && (b == 0xBB && c == 0xBF) then rest else a ∷ b ∷ c ∷ rest
without_mark text = text

abbrev pub plain_text : List ℕ → List ℕ
plain_text text = plain_from Outside (without_mark text)
