-- The numbers that a fixup adds to the bytes of its location (TIS OMF 1.1, "FIXUPP", LOCATION; adding each part modulo its size is a rule of this profile).
use Rattle.std.specs.Prelude.{ℕ, ◌+◌, ◌%◌, ◌^◌, List, ◌++◌, take, drop, fold}
use Rattle.byteorder.specs.Endian.{little_bytes, little_number}

-- The value is added to the little-endian number of `size` bytes at `pos`; no other byte changes.
abbrev pub add_part : List ℕ → ℕ → ℕ → ℕ → List ℕ
add_part bytes pos size value = take pos bytes ++ little_bytes size ((little_number size (drop pos bytes) + value) % 256 ^ size) ++ drop (pos + size) bytes

-- A number to add at an offset of a location, to a part of `size` bytes.
pub record Addition : Type 0 where
  pub offset : ℕ
  pub size : ℕ
  pub value : ℕ

-- All the parts added to the location at `pos`, one after another.
abbrev pub add_parts : ℕ → List Addition → List ℕ → List ℕ
add_parts pos parts bytes = fold (λ bs p. add_part bs (pos + p.offset) p.size p.value) bytes parts
