-- The module at the front of an input, with segments in place of frame numbers.
use Rattle.std.specs.Prelude.{◌≡◌, ◌⊎◌, ◌<◌, ℕ, List, [], ◌∷◌, ◌++◌, length, flat_map, All, false, true}
use Rattle.omf_frame.specs.Framing.{Raw, is_end, raw_bytes}
use Rattle.omf_explicit.specs.Explicit.{gets_segments, has_record, with_segments}

-- A record that its length field can have, and that does not end the module.
pub record IsOpen (r : Raw) : Type 0 where
  pub short : length r.body < 65535
  pub no_end : is_end r.kind ≡ false

-- An input begins with these records, none of which is a MODEND, and the rest follows.
pub record Begins (input : List ℕ) (rs : List Raw) (rest : List ℕ) : Type 0 where
  pub spelled : input ≡ flat_map raw_bytes rs ++ rest
  pub each : All IsOpen rs

-- An input begins with these records, the last of which is the first MODEND, and the rest follows.
pub record IsModule (input : List ℕ) (rs : List Raw) (rest : List ℕ) : Type 0 where
  pub before : List Raw
  pub end : Raw
  pub are : rs ≡ before ++ end ∷ []
  pub begins : Begins input before (raw_bytes end ++ rest)
  pub short : length end.body < 65535
  pub ends : is_end end.kind ≡ true

-- An input has no MODEND among the whole records at its front.
pub record HasNoModule (input : List ℕ) : Type 0 where
  pub before : List Raw
  pub rest : List ℕ
  pub begins : Begins input before rest
  pub ended : has_record rest ≡ false

-- An input begins with a module that names frame numbers; these are its bytes with segments in their place, and the rest follows.
pub record IsWithSegments (input out rest : List ℕ) : Type 0 where
  pub records : List Raw
  pub read : IsModule input records rest
  pub named : gets_segments records ≡ true
  pub bytes : out ≡ flat_map raw_bytes (with_segments records)

-- An input begins with a module that names no frame number, or with none.
pub record NamesNone (input : List ℕ) : Type 0 where
  pub records : List Raw
  pub rest : List ℕ
  pub read : IsModule input records rest
  pub none : gets_segments records ≡ false

abbrev pub Stays : List ℕ → Type 0
Stays input = NamesNone input ⊎ HasNoModule input
