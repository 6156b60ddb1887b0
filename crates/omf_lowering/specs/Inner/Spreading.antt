-- The contents of repeated blocks and where their copies are, computed (law copies_are_copies).
use Rattle.std.specs.Prelude.{ℕ, ◌+◌, ◌*◌, List, [], ◌∷◌, ◌++◌, length, map, flat_map, Result, Ok, Err}
use Rattle.std.specs.List.{range_with_len}
use Rattle.omf_frame.specs.Fault.{Fault}
use Rattle.omf_image.specs.Inner.Folding.{Folded, fold_block, fold_all}
use Rattle.omf_image.specs.Inner.Lengths.{len_data}
use Rattle.omf_records.specs.Inner.Reads.{after, Reading, and_then}

-- The data of an innermost block: the offset of its first byte from the first byte of the blocks, its size, and the offsets of its copies in the expanded data.
pub record Content : Type 0 where
  pub start : ℕ
  pub size : ℕ
  pub copies : List ℕ

-- What blocks expand to: a number of bytes, and copies of contents.
pub record Spread : Type 0 where
  pub size : ℕ
  pub contents : List Content

-- Its copies are further by a number of bytes.
abbrev pub moved : ℕ → Content → Content
moved by c = record c { copies = map (λ x. x + by) c.copies }

-- It is there `count` times, each `size` bytes after the one before.
abbrev pub turned : ℕ → ℕ → Content → Content
turned count size c = record c { copies = flat_map (λ k. map (λ x. x + k * size) c.copies) (range_with_len 0 count) }

abbrev pub text_spread : Reading Spread
text_spread at bytes = and_then (len_data at bytes) (λ a.
    Ok (after (record { size = a.value; contents = record { start = at + 1; size = a.value; copies = 0 ∷ [] } ∷ [] }) a.within a.rest))

-- The readings of blocks fold to what they expand to.
abbrev pub spreads : Folded Spread
spreads = record {
  none = record { size = 0; contents = [] };
  join = λ a b. record { size = a.size + b.size; contents = a.contents ++ map (moved a.size) b.contents };
  text = text_spread;
  again = λ count a. record { size = count * a.size; contents = map (turned count a.size) a.contents };
}

abbrev pub spread_block : ℕ → ℕ → Reading Spread
spread_block = fold_block spreads

abbrev pub spread_all : ℕ → ℕ → List ℕ → Result Spread Fault
spread_all width levels bytes = fold_all spreads (spread_block width levels) (length bytes) spreads.none 0 bytes

-- The contents; none if the bytes are no blocks.
abbrev pub contents_or_none : Result Spread Fault → List Content
contents_or_none (Ok s) = s.contents
contents_or_none (Err e) = []

abbrev pub contents_in : ℕ → ℕ → List ℕ → List Content
contents_in width levels bytes = contents_or_none (spread_all width levels bytes)
