-- The entries of a placement text, and the lines that spell them (a format of this profile).
use Rattle.std.specs.Prelude.{◌≡◌, ◌⊎◌, ℕ, ◌≤◌, List, [], ◌∷◌, length, reverse, Option, Some, None, ◌==◌, codes, if◌then◌else◌}
use Rattle.std.specs.List.{before_first, join_with_byte}
use Rattle.std.specs.Str.Parse.{IsNumeral, digits_value}
use Rattle.omf_placement.specs.declared.frame.Frame.{Frame}
use Rattle.omf_placement.specs.Placement.{Placed, real_frame}

-- The text of a line: without a carriage return at its end, then without a comment from the first `;` on, then without spaces at both ends.
abbrev pub without_return : List ℕ → List ℕ
without_return [] = []
without_return (c ∷ []) = if c == 13 then [] else c ∷ []
without_return (c ∷ d ∷ cs) = c ∷ without_return (d ∷ cs)

abbrev pub without_spaces : List ℕ → List ℕ
without_spaces [] = []
without_spaces (c ∷ cs) = if c == 32 then without_spaces cs else c ∷ cs

abbrev pub said : List ℕ → List ℕ
said line = reverse (without_spaces (reverse (without_spaces (before_first (λ c. c == 59) (without_return line)))))

-- A hexadecimal number of 1 to `most` digits, upper or lower case.
pub record IsHexadecimal (most : ℕ) (cs : List ℕ) (n : ℕ) : Type 0 where
  pub numeral : IsNumeral 16 cs
  pub short : length cs ≤ most
  pub value : n ≡ digits_value 16 cs

-- An entry. The frame of a group is given, or is that of its lowest member.
pub data Entry : Type 0 where
  Blank : Entry
  SegmentEntry : Placed → Entry
  GroupEntry : Option Frame → Entry
  ExternalEntry : Placed → Entry

-- words with one space between each two
abbrev pub in_words : List (List ℕ) → List ℕ
in_words words = join_with_byte 32 words

-- a letter, an address and a frame
pub record SpellsPlaced (letter : List ℕ) (text : List ℕ) (p : Placed) : Type 0 where
  pub address : List ℕ
  pub base : List ℕ
  pub selector : List ℕ
  pub words : text ≡ in_words (letter ∷ address ∷ base ∷ selector ∷ [])
  pub is_address : IsHexadecimal 8 address p.address
  pub is_base : IsHexadecimal 8 base p.frame.base
  pub is_selector : IsHexadecimal 4 selector p.frame.selector

-- the address of a segment in its real-mode frame
pub record SpellsReal (text : List ℕ) (p : Placed) : Type 0 where
  pub address : List ℕ
  pub words : text ≡ in_words (codes "S" ∷ address ∷ codes "real" ∷ [])
  pub is_address : IsHexadecimal 8 address p.address
  pub frame : real_frame p.address ≡ Some p.frame

-- the frame of a group
pub record SpellsFrame (text : List ℕ) (f : Frame) : Type 0 where
  pub base : List ℕ
  pub selector : List ℕ
  pub words : text ≡ in_words (codes "G" ∷ base ∷ selector ∷ [])
  pub is_base : IsHexadecimal 8 base f.base
  pub is_selector : IsHexadecimal 4 selector f.selector

-- The text of a line spells an entry.
abbrev pub Spells : List ℕ → Entry → Type 0
Spells text Blank = text ≡ []
Spells text (SegmentEntry p) = SpellsPlaced (codes "S") text p ⊎ SpellsReal text p
Spells text (GroupEntry None) = text ≡ codes "G real"
Spells text (GroupEntry (Some f)) = SpellsFrame text f
Spells text (ExternalEntry p) = SpellsPlaced (codes "E") text p
