-- The blocks of an LIDATA in their order, each with the number of blocks that it is in (TIS OMF 1.1, "LIDATA", data blocks).
use Rattle.std.specs.Prelude.{ℕ, zero, suc, ◌+◌, ◌-◌, ◌*◌, List, [], ◌∷◌, length, take, ◌==◌, nat_le, is_some, unwrap_or, Option, Some, None, codes, if◌then◌else◌}
use Rattle.omf_frame.specs.declared.kinds.Width.{Width}
use Rattle.omf_frame.specs.declared.kinds.Width.TheVariants.{Bits16, Bits32}
use Rattle.omf_dump.specs.Fields.{Depth, Number, Bytes, Field, field, Item, item}

-- A block as it begins: its repeat count; the number of its blocks; its data, if it has no blocks; the number of bytes of all these.
pub record Front : Type 0 where
  pub repeat : ℕ
  pub blocks : ℕ
  pub held : List ℕ
  pub size : ℕ

-- After a repeat count of `width` bytes: a block count of two bytes; if it is 0, a length byte and that many bytes.
abbrev pub data_front : ℕ → ℕ → List ℕ → Option Front
data_front repeat width [] = None
data_front repeat width (n ∷ bytes) = if nat_le n (length bytes) then Some (record { repeat = repeat; blocks = 0; held = take n bytes; size = width + 3 + n }) else None

abbrev pub contents_front : ℕ → ℕ → List ℕ → Option Front
contents_front repeat width (low ∷ high ∷ bytes) =
    if low + 256 * high == 0 then data_front repeat width bytes else Some (record { repeat = repeat; blocks = low + 256 * high; held = []; size = width + 2 })
contents_front repeat width _ = None

-- The block at the front: its repeat count has two bytes, in a 32-bit record four, little-endian.
abbrev pub block_front : Width → List ℕ → Option Front
block_front Bits16 (a ∷ b ∷ bytes) = contents_front (a + 256 * b) 2 bytes
block_front Bits32 (a ∷ b ∷ c ∷ d ∷ bytes) = contents_front (a + 256 * b + 65536 * (c + 256 * d)) 4 bytes
block_front _ _ = None

-- The blocks that are still to come, of each block that is not ended, innermost first: those of which all came are ended; one more came; a block
-- with blocks of its own begins.
abbrev pub not_ended : List ℕ → List ℕ
not_ended [] = []
not_ended (zero ∷ around) = not_ended around
not_ended (suc n ∷ around) = suc n ∷ around

abbrev pub one_came : List ℕ → List ℕ
one_came [] = []
one_came (n ∷ around) = (n - 1) ∷ around

abbrev pub begun : ℕ → List ℕ → List ℕ
begun blocks around = if blocks == 0 then around else blocks ∷ around

-- A block: the number of blocks that it is in, its repeat count, its data or the number of its blocks.
abbrev pub contents_fields : Front → List Field
contents_fields b = if b.blocks == 0 then field (codes "bytes") (Bytes b.held) ∷ [] else field (codes "blocks") (Number b.blocks) ∷ []

abbrev pub block_fields : ℕ → Front → List Field
block_fields depth b = field (codes "depth") (Depth depth) ∷ field (codes "repeat") (Number b.repeat) ∷ contents_fields b

-- The block at the front, if there is one.
abbrev pub no_front : Front
no_front = record { repeat = 0; blocks = 0; held = []; size = 0 }

abbrev pub front_of : Option Front → Front
front_of block = unwrap_or block no_front

-- A block that is in these; and the blocks that those after it are in.
abbrev pub block_item : ℕ → List ℕ → Front → Item
block_item within around b = item within (block_fields (length around) b)

abbrev pub after_block : List ℕ → Front → List ℕ
after_block around b = begun b.blocks (one_came around)

-- The blocks from an offset in the record on. The first `skipped` bytes are those of the block before.
abbrev pub blocks_from : Width → ℕ → List ℕ → ℕ → List ℕ → List Item
blocks_from width within around skipped [] = []
blocks_from width within around (suc skipped) (b ∷ bytes) = blocks_from width (within + 1) around skipped bytes
blocks_from width within around zero (b ∷ bytes) =
    if is_some (block_front width (b ∷ bytes)) then
    block_item within (not_ended around) (front_of (block_front width (b ∷ bytes)))
    ∷ blocks_from width (within + 1) (after_block (not_ended around) (front_of (block_front width (b ∷ bytes)))) ((front_of (block_front width (b ∷ bytes))).size - 1) bytes
    else []
