-- What a file that is no module looks like, by its first bytes (this profile's rule).
use Rattle.std.specs.Prelude.{ℕ, List, [], ◌∷◌, take, find, unwrap_or, option_map, Bool, not, ◌==◌, ◌&&◌, ◌||◌, nat_le, nat_lt, length, Option, nat_eq, codes, if◌then◌else◌}
use Rattle.std.specs.List.{list_all, starts_with}
use Rattle.omf_frame.specs.Framing.{is_header}

-- Printable ASCII, a tab, a line feed, a carriage return.
abbrev pub is_of_text : ℕ → Bool
is_of_text c = nat_le 0x20 c && nat_le c 0x7E || (c == 9 || (c == 10 || c == 13))

abbrev pub is_zero : ℕ → Bool
is_zero c = c == 0

-- The first bytes of a file that has no mark of its own.
abbrev pub unmarked : List ℕ → List ℕ
unmarked bytes = if list_all is_zero bytes then codes "zeros" else if list_all is_of_text bytes then codes "text" else codes "no format known here"

-- The bytes begin with the mark.
abbrev pub begins : List ℕ → List ℕ → Bool
begins bytes mark = starts_with nat_eq bytes mark

-- The marks that other formats begin with: OMF libraries (F0H), ELF, programs (MZ), COFF objects of the 386 and of x86-64, archives.
abbrev pub marks : List (List ℕ × List ℕ)
marks = (0xF0 ∷ [], codes "an OMF library") ∷ (0x7F ∷ 0x45 ∷ 0x4C ∷ 0x46 ∷ [], codes "an ELF file") ∷ (0x4D ∷ 0x5A ∷ [], codes "a program (MZ)")
    ∷ (0x4C ∷ 0x01 ∷ [], codes "a COFF object") ∷ (0x64 ∷ 0x86 ∷ [], codes "a COFF object") ∷ (0x21 ∷ 0x3C ∷ 0x61 ∷ 0x72 ∷ 0x63 ∷ 0x68 ∷ 0x3E ∷ [], codes "an archive") ∷ []

abbrev pub marked : List ℕ → Option (List ℕ)
marked bytes = option_map (λ r. r.1) (find (λ r. begins bytes r.0) marks)

abbrev pub looks_like : List ℕ → List ℕ
looks_like bytes = if nat_lt 0 (length bytes) then unwrap_or (marked bytes) (unmarked (take 64 bytes)) else codes "an empty file"

-- The first record is at fault, and its type begins no module.
abbrev pub is_foreign : ℕ → List ℕ → Bool
is_foreign number [] = number == 0
is_foreign number (kind ∷ _) = number == 0 && not (is_header kind)
