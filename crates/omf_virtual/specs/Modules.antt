-- The module at the front of an input, with COMDATs in place of virtual segments.
use Rattle.std.specs.Prelude.{◌≡◌, ◌⊎◌, ℕ, List, flat_map, false, true}
use Rattle.omf_frame.specs.Framing.{Raw, raw_bytes}
use Rattle.omf_explicit.specs.Modules.{HasNoModule, IsModule}
use Rattle.omf_virtual.specs.Virtual.{gets_comdats, with_comdats}

-- An input begins with a module that has virtual segments; these are its bytes with COMDATs in their place, and the rest follows.
pub record IsWithComdats (input out rest : List ℕ) : Type 0 where
  pub records : List Raw
  pub read : IsModule input records rest
  pub named : gets_comdats records ≡ true
  pub bytes : out ≡ flat_map raw_bytes (with_comdats records)

-- An input begins with a module that gets no COMDATs.
pub record HasNone (input : List ℕ) : Type 0 where
  pub records : List Raw
  pub rest : List ℕ
  pub read : IsModule input records rest
  pub none : gets_comdats records ≡ false

abbrev pub Stays : List ℕ → Type 0
Stays input = HasNone input ⊎ HasNoModule input
