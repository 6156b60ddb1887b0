-- The module at the front of an input, with A = 4 in place of A = 6 and 7.
use Rattle.std.specs.Prelude.{◌≡◌, ◌⊎◌, ℕ, List, flat_map, false, true}
use Rattle.omf_frame.specs.Framing.{Raw, raw_bytes}
use Rattle.omf_explicit.specs.Modules.{HasNoModule, IsModule}
use Rattle.omf_aligned.specs.Aligned.{gets_pages, with_pages}

-- An input begins with a module that has a segment with A = 6 or 7; these are its bytes with A = 4 and the comments, and the rest follows.
pub record IsWithPages (input out rest : List ℕ) : Type 0 where
  pub records : List Raw
  pub read : IsModule input records rest
  pub changed : gets_pages records ≡ true
  pub bytes : out ≡ flat_map raw_bytes (with_pages records)

-- An input begins with a module that has no such segment, or with none.
pub record HasNone (input : List ℕ) : Type 0 where
  pub records : List Raw
  pub rest : List ℕ
  pub read : IsModule input records rest
  pub none : gets_pages records ≡ false

abbrev pub Stays : List ℕ → Type 0
Stays input = HasNone input ⊎ HasNoModule input
