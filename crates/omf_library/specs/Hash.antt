-- The hash of the dictionary: where a name is looked for first (TIS OMF 1.1, appendix 2, "Dictionary").
use Rattle.std.specs.Prelude.{ℕ, ◌+◌, ◌*◌, ◌/◌, ◌%◌, ◌-◌, List, length, reverse, take, fold, max, bit_or, bit_xor}
use Rattle.omf_library.specs.declared.hash.Probe.{Probe}

-- A word of 16 bits, rotated by two bits.
abbrev pub turned_left : ℕ → ℕ
turned_left w = w * 4 % 65536 + w / 16384

abbrev pub turned_right : ℕ → ℕ
turned_right w = w / 4 + w % 4 * 16384

-- A word with a character mixed in. The bit 20H of the character is set, so that capital and small letters are the same.
abbrev pub with_character : ℕ → ℕ → ℕ
with_character w c = bit_xor w (bit_or c 0x20)

-- The word is rotated before each character.
abbrev pub mixed : (ℕ → ℕ) → ℕ → List ℕ → ℕ
mixed turn w characters = fold (λ word c. with_character (turn word) c) w characters

-- The characters but the last, in order; and all of them, from the last to the first.
abbrev pub forwards : List ℕ → List ℕ
forwards name = take (length name - 1) name

abbrev pub backwards : List ℕ → List ℕ
backwards name = reverse name

-- A block has 37 buckets.
abbrev pub buckets : ℕ
buckets = 37

-- The length byte of a name, which is mixed in first.
abbrev pub length_byte : List ℕ → ℕ
length_byte name = bit_or (length name % 256) 0x20

-- The block and the bucket of a name that are tried first, and the steps to the next ones, modulo the numbers of blocks
-- and buckets. A step of 0 becomes 1.
abbrev pub probe_of : ℕ → List ℕ → Probe
probe_of blocks name = record {
  block = mixed turned_left (length_byte name) (forwards name) % blocks;
  block_step = max 1 (mixed turned_left 0 (backwards name) % blocks);
  bucket = mixed turned_right 0 (backwards name) % buckets;
  bucket_step = max 1 (mixed turned_right (length_byte name) (forwards name) % buckets);
}
