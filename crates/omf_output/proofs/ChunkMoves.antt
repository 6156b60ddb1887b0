-- The chunks of modules that move.
use Rattle.std.proofs.Common.{◌≡◌, ℕ, ◌+◌, ◌*◌, List, [], ◌∷◌, ◌++◌, true, length, map, refl, sym, ◌∙◌, ap, ap₂, arith}
use Rattle.std.specs.Prelude.{flat_map, nat_lt}
use Rattle.std.proofs.lemmas.Grind.{flat_map-append}
use Rattle.std.proofs.lemmas.List.{append-nil, map-append}
use Rattle.std.proofs.lemmas.List.Elements.{All-head, All-tail}
use Rattle.omf_frame.specs.Bytes.{with_after}
use Rattle.omf_records.specs.Values.{Contents, Plain, Iterated, width}
use Rattle.omf_image.specs.Inner.Expanding.{expanded}
use Rattle.omf_image.specs.Limits.{profile_limits}
use Rattle.omf_placement.specs.Placement.{Places}
use Rattle.omf_image.specs.Overlay.{Laid}
use Rattle.omf_reloc.specs.Image.{laid_contents, laid_piece, patched}
use Rattle.omf_reloc.proofs.PatchLaws.{stays_inside}
use Rattle.omf_reloc.specs.Plain.{Piece, Kept, Fixed, End, pieces, fixups_of_data}
use Rattle.omf_output.specs.Exe.Filled.{has_any, only_if}
use Rattle.omf_output.specs.Exe.Moved.{Movers, AreMoversOf, moved, moves}
use Rattle.omf_output.specs.Exe.Relocations.{sites}
use Rattle.omf_output.specs.Exe.Memory.{Chunk, ModuleMoves, ContentsMove, PieceMoves, PiecesMove, all_chunks, chunks, contents_chunks, lying, with_bytes, moved_chunk, piece_chunks, segment_address}
use Rattle.omf_output.specs.Exe.Laws.{ChunksAreLaid, ChunksMove}
use Rattle.omf_output.proofs.PlaceMoves.{segment_address_moves}
use Rattle.omf_output.proofs.DataMoves.{data-moves}
use Rattle.omf_output.proofs.FilledLaws.{from-expanded, map-only, same-only}

module _ (k : ℕ) (mv : Movers) (pl : Places) (h : AreMoversOf mv pl) where
  address-moves : (i offset : ℕ) → moves mv.segments i ≡ true → segment_address (moved k mv pl) i + offset ≡ segment_address pl i + offset + 16 * k
  address-moves i offset e = let there = segment_address_moves k mv pl h i e in omega (arith, there)

  contents-move : (kind : ℕ) (c : Contents) (after : List Piece) → ContentsMove mv pl c after
      → contents_chunks mv (moved k mv pl) kind c after ≡ map (moved_chunk k) (contents_chunks mv pl kind c after)
  contents-move kind (Plain d) after r =
      let fixups = fixups_of_data after in
      let low : List ℕ = patched pl d fixups in
      let high : List ℕ = patched (moved k mv pl) d fixups in
      let low_size : length low ≡ length d.bytes = (stays_inside pl d fixups r.inside).size in
      let high_size : length high ≡ length d.bytes = (stays_inside (moved k mv pl) d fixups r.inside).size in
      let c : Chunk = record { address = segment_address pl d.segment.item + d.offset.item; bytes = low; words = sites mv d.segment.item fixups } in
      let e : Chunk = record { address = segment_address (moved k mv pl) d.segment.item + d.offset.item; bytes = high; words = sites mv d.segment.item fixups } in
      ap (λ n. only_if (nat_lt 0 n) e) (high_size ∙ sym low_size)
      ∙ same-only (has_any low) e (moved_chunk k c) (λ t.
      ap₂ (λ a bs. record { address = a; bytes = bs; words = sites mv d.segment.item fixups }) (address-moves d.segment.item d.offset.item (r.segment (sym (ap (λ n. nat_lt 0 n) low_size) ∙ t)))
      (data-moves k mv pl d fixups h r.inside r.together r.reached r.apart))
      ∙ sym (map-only (moved_chunk k) (has_any low) c)
  contents-move kind (Iterated d) after r =
      let bytes : List ℕ = expanded (width kind) profile_limits d.bytes in
      let c : Chunk = record { address = segment_address pl d.segment.item + d.offset.item; bytes = bytes; words = [] } in
      let e : Chunk = record { address = segment_address (moved k mv pl) d.segment.item + d.offset.item; bytes = bytes; words = [] } in
      same-only (has_any bytes) e (moved_chunk k c) (λ t. ap (λ a. record { address = a; bytes = bytes; words = [] }) (address-moves d.segment.item d.offset.item (r.0 (from-expanded kind d.bytes t))))
      ∙ sym (map-only (moved_chunk k) (has_any bytes) c)
  contents-move kind _ after r = refl

  piece-moves : (p : Piece) (after : List Piece) → PieceMoves mv pl p after → piece_chunks mv (moved k mv pl) p after ≡ map (moved_chunk k) (piece_chunks mv pl p after)
  piece-moves (Kept r) after m = contents-move r.kind r.contents after m
  piece-moves (Fixed kind fixups) after m = refl
  piece-moves (End kind byte start) after m = refl

  pieces-move : (ps : List Piece) → PiecesMove mv pl ps → with_after (piece_chunks mv (moved k mv pl)) ps ≡ map (moved_chunk k) (with_after (piece_chunks mv pl) ps)
  pieces-move [] m = refl
  pieces-move (p ∷ ps) m =
      ap₂ (λ xs ys. xs ++ ys) (piece-moves p ps m.0) (pieces-move ps m.1)
      ∙ sym (map-append (moved_chunk k) (piece_chunks mv pl p ps) (with_after (piece_chunks mv pl) ps))

pub chunks-move : ChunksMove
chunks-move k [] all = refl
chunks-move k (m ∷ ms) all =
    let h = All-head ModuleMoves m ms all in
    ap₂ (λ xs ys. xs ++ ys) (pieces-move k m.movers m.places h.movers (pieces m.records) h.pieces) (chunks-move k ms (All-tail ModuleMoves m ms all))
    ∙ sym (map-append (moved_chunk k) (chunks m.movers m.places m.records) (all_chunks ms))

module _ (mv : Movers) (pl : Places) where
  abbrev shown : Chunk → ℕ × List ℕ
  shown c = (c.address, c.bytes)

  abbrev there : List Laid → List (ℕ × List ℕ)
  there ls = flat_map with_bytes (map (lying pl) ls)

  one-laid : (c : Chunk) → map shown (only_if (has_any c.bytes) c) ≡ with_bytes (shown c) ++ []
  one-laid c = map-only shown (has_any c.bytes) c ∙ sym (append-nil (with_bytes (shown c)))

  contents-laid : (kind : ℕ) (c : Contents) (after : List Piece) → map shown (contents_chunks mv pl kind c after) ≡ there (laid_contents profile_limits pl kind c after)
  contents-laid kind (Plain d) after =
      one-laid (record { address = segment_address pl d.segment.item + d.offset.item; bytes = patched pl d (fixups_of_data after); words = sites mv d.segment.item (fixups_of_data after) })
  contents-laid kind (Iterated d) after = one-laid (record { address = segment_address pl d.segment.item + d.offset.item; bytes = expanded (width kind) profile_limits d.bytes; words = [] })
  contents-laid kind _ after = refl

  piece-laid : (p : Piece) (after : List Piece) → map shown (piece_chunks mv pl p after) ≡ there (laid_piece profile_limits pl p after)
  piece-laid (Kept r) after = contents-laid r.kind r.contents after
  piece-laid (Fixed kind fixups) after = refl
  piece-laid (End kind byte start) after = refl

  there-both : (xs ys : List Laid) → there (xs ++ ys) ≡ there xs ++ there ys
  there-both xs ys = ap (flat_map with_bytes) (map-append (lying pl) xs ys) ∙ flat_map-append with_bytes (map (lying pl) xs) (map (lying pl) ys)

  pieces-laid : (ps : List Piece) → map shown (with_after (piece_chunks mv pl) ps) ≡ there (with_after (laid_piece profile_limits pl) ps)
  pieces-laid [] = refl
  pieces-laid (p ∷ ps) =
      map-append shown (piece_chunks mv pl p ps) (with_after (piece_chunks mv pl) ps)
      ∙ ap₂ (λ xs ys. xs ++ ys) (piece-laid p ps) (pieces-laid ps)
      ∙ sym (there-both (laid_piece profile_limits pl p ps) (with_after (laid_piece profile_limits pl) ps))

pub are-laid : ChunksAreLaid
are-laid mv pl m = pieces-laid mv pl (pieces m)
