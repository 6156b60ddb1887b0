-- The image of several modules from an address on, and the words of it that move.
use Rattle.std.specs.Prelude.{◌≡◌, ◌⊎◌, ℕ, ◌+◌, ◌-◌, ◌*◌, ◌≤◌, List, [], ◌∷◌, ◌++◌, ◌<◌, ◌^◌, length, take, drop, map, max, flat_map, fold, replicate, All, IsOk, Option, Some, None, option_map, unwrap_or, nat_le, true, false, ⊤}
use Rattle.omf_frame.specs.Bytes.{with_after}
use Rattle.omf_records.specs.Values.{Rec, Contents, Plain, Iterated, DataItem, width}
-- computed: blocks_are_read and lengths_are_decided of omf_image.
use Rattle.omf_image.specs.Inner.Expanding.{expanded}
use Rattle.omf_image.specs.Limits.{profile_limits}
use Rattle.omf_image.specs.Overlay.{Laid}
use Rattle.omf_check.specs.Threads.{PlainReference}
use Rattle.omf_placement.specs.Placement.{Places}
use Rattle.omf_reloc.specs.Image.{patched}
use Rattle.omf_reloc.specs.Laws.{AreInside}
use Rattle.omf_reloc.specs.Offsets.{outcome}
use Rattle.omf_reloc.specs.Plain.{Piece, Kept, Fixed, End, PlainFixup, pieces, fixups_of_data}
use Rattle.omf_check.specs.Tables.{entry, segments}
use Rattle.omf_check.specs.declared.segment.SegInfo.{SegInfo}
use Rattle.omf_output.specs.Exe.Exe.{Program}
use Rattle.omf_output.specs.Exe.Filled.{has_any, only_if}
use Rattle.omf_output.specs.Exe.Moved.{Movers, AreMoversOf, moved, moves, frame_moves, target_moves}
use Rattle.omf_output.specs.Exe.Relocations.{moves_together, sites, words_moved, StandApart}

-- The address of a segment; 0 if the placement has no entry for it.
abbrev pub segment_address : Places → ℕ → ℕ
segment_address pl i = unwrap_or (option_map (λ p. p.address) (entry pl.segments i)) 0

-- Bytes at an address, and the relocation words among them by their offsets.
pub record Chunk : Type 0 where
  pub address : ℕ
  pub bytes : List ℕ
  pub words : List ℕ

-- The first address after a chunk; and after the data of chunks.
abbrev pub chunk_end : Chunk → ℕ
chunk_end c = c.address + length c.bytes

abbrev pub data_end : List Chunk → ℕ
data_end cs = fold max 0 (map chunk_end cs)

-- What each data record of a module lays, in file order: one without bytes lays nothing.
abbrev pub contents_chunks : Movers → Places → ℕ → Contents → List Piece → List Chunk
contents_chunks mv pl kind (Plain d) after =
    only_if (has_any (patched pl d (fixups_of_data after)))
    (record { address = segment_address pl d.segment.item + d.offset.item; bytes = patched pl d (fixups_of_data after); words = sites mv d.segment.item (fixups_of_data after) })
contents_chunks mv pl kind (Iterated d) after =
    only_if (has_any (expanded (width kind) profile_limits d.bytes))
    (record { address = segment_address pl d.segment.item + d.offset.item; bytes = expanded (width kind) profile_limits d.bytes; words = [] })
contents_chunks mv pl kind _ after = []

abbrev pub piece_chunks : Movers → Places → Piece → List Piece → List Chunk
piece_chunks mv pl (Kept r) after = contents_chunks mv pl r.kind r.contents after
piece_chunks mv pl (Fixed kind fixups) after = []
piece_chunks mv pl (End kind byte start) after = []

abbrev pub chunks : Movers → Places → List Rec → List Chunk
chunks mv pl m = with_after (piece_chunks mv pl) (pieces m)

-- A chunk 16 k bytes higher, with k added to its words.
abbrev pub moved_chunk : ℕ → Chunk → Chunk
moved_chunk k c = record { address = c.address + 16 * k; bytes = words_moved k c.words c.bytes; words = c.words }

-- The bytes of a chunk in the place of those that were there, in bytes from an address on.
abbrev pub put : ℕ → List ℕ → Chunk → List ℕ
put base bytes c = take (c.address - base) bytes ++ c.bytes ++ drop (c.address - base + length c.bytes) bytes

-- n bytes from an address on: 0 where no chunk has one, and that of the last that has one.
abbrev pub flat : ℕ → ℕ → List Chunk → List ℕ
flat base n cs = fold (put base) (replicate n 0) cs

-- The relocation words of the chunks, by their offsets from the address.
abbrev pub chunk_words : ℕ → Chunk → List ℕ
chunk_words base c = map (λ at. c.address - base + at) c.words

abbrev pub flat_words : ℕ → List Chunk → List ℕ
flat_words base cs = flat_map (chunk_words base) cs

-- Each chunk is between two addresses, and its words in it.
pub record LiesIn (base n : ℕ) (c : Chunk) : Type 0 where
  pub above : base ≤ c.address
  pub below : c.address + length c.bytes ≤ base + n
  pub words : All (λ at. at + 2 ≤ length c.bytes) c.words

-- A chunk covers no byte of a word at an address; no later chunk covers a byte of a word.
abbrev pub IsAway : ℕ → Chunk → Type 0
IsAway at c = (at + 2 ≤ c.address) ⊎ (c.address + length c.bytes ≤ at)

abbrev pub AreUncovered : List Chunk → Type 0
AreUncovered [] = ⊤
AreUncovered (c ∷ cs) = All (λ at. All (IsAway (c.address + at)) cs) c.words × AreUncovered cs

-- The fixups of a data record move with the program.
abbrev pub AreTogether : Movers → DataItem → List (ℕ × PlainFixup) → Type 0
AreTogether mv d fixups = All (λ f. moves_together mv d.segment.item f ≡ true) fixups

-- A data record moves: its segment does, if it has bytes; each of its fixups is inside it, moves with the program and reaches; and each relocation word is apart from
-- the locations of the later fixups.
pub record RecordMoves (mv : Movers) (pl : Places) (d : DataItem) (fixups : List (ℕ × PlainFixup)) : Type 0 where
  pub segment : has_any d.bytes ≡ true → moves mv.segments d.segment.item ≡ true
  pub inside : AreInside (length d.bytes) fixups
  pub together : AreTogether mv d fixups
  pub reached : All (λ f. IsOk (outcome pl d f)) fixups
  pub apart : StandApart mv d.segment.item fixups

-- After an LIDATA an accepted module has no fixups.
abbrev pub ContentsMove : Movers → Places → Contents → List Piece → Type 0
ContentsMove mv pl (Plain d) after = RecordMoves mv pl d (fixups_of_data after)
ContentsMove mv pl (Iterated d) after = (has_any d.bytes ≡ true → moves mv.segments d.segment.item ≡ true) × AreTogether mv d (fixups_of_data after)
ContentsMove mv pl _ after = ⊤

-- A start moves where its frame and its target do.
abbrev pub StartMoves : Movers → Option PlainReference → Type 0
StartMoves mv None = ⊤
StartMoves mv (Some r) = (frame_moves mv 0 r.target r.frame ≡ true) × (target_moves mv r.target ≡ true)

-- The start of a main module moves. Nothing reads the start of another (TIS OMF 1.1, "MODEND": bit 7 of the type byte).
abbrev pub MainStartMoves : Movers → ℕ → Option PlainReference → Type 0
MainStartMoves mv byte start = nat_le 128 byte ≡ true → StartMoves mv start

abbrev pub PieceMoves : Movers → Places → Piece → List Piece → Type 0
PieceMoves mv pl (Kept r) after = ContentsMove mv pl r.contents after
PieceMoves mv pl (Fixed kind fixups) after = ⊤
PieceMoves mv pl (End kind byte start) after = MainStartMoves mv byte start

abbrev pub PiecesMove : Movers → Places → List Piece → Type 0
PiecesMove mv pl [] = ⊤
PiecesMove mv pl (p ∷ ps) = PieceMoves mv pl p ps × PiecesMove mv pl ps

-- The starts of all these pieces move.
abbrev pub PieceStarts : Movers → Piece → Type 0
PieceStarts mv (End kind byte start) = StartMoves mv start
PieceStarts mv _ = ⊤

abbrev pub AllStart : Movers → List Piece → Type 0
AllStart mv [] = ⊤
AllStart mv (p ∷ ps) = PieceStarts mv p × AllStart mv ps

-- A module at its placement, with what moves of it.
pub record MovingModule : Type 0 where
  pub records : List Rec
  pub places : Places
  pub movers : Movers

pub record ModuleMoves (m : MovingModule) : Type 0 where
  pub movers : AreMoversOf m.movers m.places
  pub pieces : PiecesMove m.movers m.places (pieces m.records)

-- The chunks of modules at their placements, and at these moved by k paragraphs.
abbrev pub all_chunks : List MovingModule → List Chunk
all_chunks ms = flat_map (λ m. chunks m.movers m.places m.records) ms

abbrev pub chunks_at : ℕ → List MovingModule → List Chunk
chunks_at k ms = flat_map (λ m. chunks m.movers (moved k m.movers m.places) m.records) ms

-- What a module lays in its segments, each at the address of its segment.
abbrev pub lying : Places → Laid → ℕ × List ℕ
lying pl l = (segment_address pl l.segment + l.offset, l.bytes)

abbrev pub with_bytes : ℕ × List ℕ → List (ℕ × List ℕ)
with_bytes x = only_if (has_any x.1) x

-- The program of modules that lie in the first n bytes of memory, with CS:IP and SS:SP there.
abbrev pub program : ℕ → List MovingModule → ℕ × ℕ → ℕ × ℕ → ℕ → Program
program n ms code stack extra = record { image = flat 0 n (all_chunks ms); words = flat_words 0 (all_chunks ms); code = code; stack = stack; extra = extra }

-- A program that can be written: its modules move, and lie in the first n bytes, of 2^20 at most; no later data record covers a byte of a relocation word;
-- and there are not too many of these.
pub record IsProgram (n : ℕ) (ms : List MovingModule) (code stack : ℕ × ℕ) : Type 0 where
  pub moving : All ModuleMoves ms
  pub lying : All (LiesIn 0 n) (all_chunks ms)
  pub uncovered : AreUncovered (all_chunks ms)
  pub short : n ≤ 2 ^ 20
  pub few : length (flat_words 0 (all_chunks ms)) < 2 ^ 16
  pub code_fits : (code.0 < 2 ^ 16) × (code.1 < 2 ^ 16)
  pub stack_fits : (stack.0 < 2 ^ 16) × (stack.1 < 2 ^ 16)

-- A start k paragraphs higher.
abbrev pub moved_start : ℕ → ℕ × ℕ → ℕ × ℕ
moved_start k s = (s.0 + k, s.1)

-- No absolute segment moves.
abbrev pub AbsoluteStay : Movers → List Rec → Type 0
AbsoluteStay mv m = (i number offset : ℕ) (info : SegInfo) → entry (segments m) i ≡ Some info → info.absolute ≡ Some (number, offset) → moves mv.segments i ≡ false
