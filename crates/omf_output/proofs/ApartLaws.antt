-- The relocation words of a program do not overlap.
use Rattle.std.proofs.Common.{◌≡◌, ◌⊎◌, ℕ, ◌+◌, ◌-◌, ◌≤◌, List, [], ◌∷◌, ◌++◌, cond, length, map, refl, ⊎_elim, inl, inr, arith}
use Rattle.std.specs.Prelude.{All, Option, Some, None, option_map, ◌&&◌}
use Rattle.std.specs.List.{cons_option}
use Rattle.std.proofs.lemmas.List.Elements.{All-nil, All-cons, All-head, All-tail, All-append, All-map, All-weaker}
use Rattle.omf_frame.specs.Bytes.{with_after}
use Rattle.omf_records.specs.Values.{Contents, Plain, Iterated, location_type, location_offset, is_segment_relative}
use Rattle.omf_placement.specs.Placement.{Places}
use Rattle.omf_reloc.specs.Inner.Names.{location_start}
use Rattle.omf_reloc.specs.Additions.{type_of_number}
use Rattle.omf_reloc.specs.Laws.{location_end}
use Rattle.omf_reloc.specs.Plain.{Piece, Kept, Fixed, End, PlainFixup, fixups_of_data, pieces}
use Rattle.omf_output.specs.Exe.Moved.{Movers, AreMoversOf, frame_moves}
use Rattle.omf_output.specs.Exe.Relocations.{IsApart, StandApart, selector_at, site, sites}
use Rattle.omf_output.specs.Exe.Memory.{AreUncovered, Chunk, ContentsMove, LiesIn, ModuleMoves, MovingModule, PieceMoves, PiecesMove, all_chunks, chunk_words, chunks, contents_chunks, flat_words, piece_chunks}
use Rattle.omf_output.specs.Exe.Words.{AreApart}
use Rattle.omf_output.specs.Exe.Laws.{WordsStandApart}
use Rattle.omf_output.proofs.DataMoves.{site-inside}
use Rattle.omf_output.proofs.FilledLaws.{all-only}

abbrev Beside : ℕ → ℕ → Type 0
Beside w v = (w + 2 ≤ v) ⊎ (v + 2 ≤ w)

apart-append : (xs ys : List ℕ) → AreApart xs → AreApart ys → All (λ w. All (Beside w) ys) xs → AreApart (xs ++ ys)
apart-append [] ys e f all = f
apart-append (x ∷ xs) ys e f all =
    (All-append (Beside x) xs ys e.0 (All-head (λ w. All (Beside w) ys) x xs all), apart-append xs ys e.1 f (All-tail (λ w. All (Beside w) ys) x xs all))

apart-shift : (d : ℕ) (xs : List ℕ) → AreApart xs → AreApart (map (λ w. d + w) xs)
apart-shift d [] e = tt
apart-shift d (x ∷ xs) e =
    (All-map (Beside (d + x)) (λ w. d + w) xs (All-weaker (Beside x) (λ v. Beside (d + x) (d + v)) (λ v o. ⊎_elim (λ l. inl (omega (arith, l))) (λ l. inr (omega (arith, l))) o) xs e.0), apart-shift d xs e.1)

module _ (mv : Movers) (pl : Places) (h : AreMoversOf mv pl) where
  -- A relocation word is in the location of its fixup.
  site-above : (segment : ℕ) (f : ℕ × PlainFixup) (at : ℕ) → site mv segment f ≡ Some at → location_start f ≤ at
  site-above segment f at e = by (cond (is_segment_relative f.1.locat && frame_moves mv segment f.1.reference.target f.1.reference.frame) (selector_at (type_of_number (location_type f.1.locat))) None) e
    where
      by : (o : Option ℕ) → option_map (λ a. location_offset f.1.locat + a) o ≡ Some at → location_start f ≤ at
      by (Some a) g = let same : location_offset f.1.locat + a ≡ at = cc in omega (arith, same)
      by None g = absurd cc

  one-beside : (segment w : ℕ) (fs : List (ℕ × PlainFixup)) → IsApart fs (Some w) → ((f : ℕ × PlainFixup) (at : ℕ) → site mv segment f ≡ Some at → at + 2 ≤ location_end f) → All (Beside w) (sites mv segment fs)
  one-beside segment w [] a low = All-nil (Beside w)
  one-beside segment w (f ∷ fs) a low = by (site mv segment f) refl (one-beside segment w fs (All-tail (λ g. (w + 2 ≤ location_start g) ⊎ (location_end g ≤ w)) f fs a) low)
    where
      by : (o : Option ℕ) → site mv segment f ≡ o → All (Beside w) (sites mv segment fs) → All (Beside w) (cons_option o (sites mv segment fs))
      by None e rest = rest
      by (Some at) e rest =
          let above = site-above segment f at e in
          let below = low f at e in
          All-cons (Beside w) at (sites mv segment fs)
          (⊎_elim (λ l. inl (omega (arith, l, above))) (λ l. inr (omega (arith, l, below))) (All-head (λ g. (w + 2 ≤ location_start g) ⊎ (location_end g ≤ w)) f fs a)) rest

  sites-apart : (segment : ℕ) (fs : List (ℕ × PlainFixup)) → ((f : ℕ × PlainFixup) (at : ℕ) → site mv segment f ≡ Some at → at + 2 ≤ location_end f) → StandApart mv segment fs → AreApart (sites mv segment fs)
  sites-apart segment [] low a = tt
  sites-apart segment (f ∷ fs) low a = by (site mv segment f) a.0 (sites-apart segment fs low a.1)
    where
      by : (o : Option ℕ) → IsApart fs o → AreApart (sites mv segment fs) → AreApart (cons_option o (sites mv segment fs))
      by None b rest = rest
      by (Some at) b rest = (one-beside segment at fs b low, rest)

  abbrev Free : Chunk → Type 0
  Free c = AreApart c.words

  contents-free : (kind : ℕ) (c : Contents) (after : List Piece) → ContentsMove mv pl c after → All Free (contents_chunks mv pl kind c after)
  contents-free kind (Plain d) after r = all-only Free _ _ (sites-apart d.segment.item (fixups_of_data after) (site-inside 0 mv pl h d) r.apart)
  contents-free kind (Iterated d) after r = all-only Free _ _ tt
  contents-free kind _ after r = All-nil Free

  piece-free : (p : Piece) (after : List Piece) → PieceMoves mv pl p after → All Free (piece_chunks mv pl p after)
  piece-free (Kept r) after m = contents-free r.kind r.contents after m
  piece-free (Fixed kind fixups) after m = All-nil Free
  piece-free (End kind byte start) after m = All-nil Free

  pieces-free : (ps : List Piece) → PiecesMove mv pl ps → All Free (with_after (piece_chunks mv pl) ps)
  pieces-free [] m = All-nil Free
  pieces-free (p ∷ ps) m = All-append Free (piece_chunks mv pl p ps) (with_after (piece_chunks mv pl) ps) (piece-free p ps m.0) (pieces-free ps m.1)

abbrev IsFree : Chunk → Type 0
IsFree c = AreApart c.words

all-free : (ms : List MovingModule) → All ModuleMoves ms → All IsFree (all_chunks ms)
all-free [] all = All-nil IsFree
all-free (m ∷ ms) all =
    let h = All-head ModuleMoves m ms all in
    All-append IsFree (chunks m.movers m.places m.records) (all_chunks ms) (pieces-free m.movers m.places h.movers (pieces m.records) h.pieces) (all-free ms (All-tail ModuleMoves m ms all))

module _ (base n : ℕ) where
  abbrev Away : ℕ → Chunk → Type 0
  Away x e = (x + 2 ≤ e.address) ⊎ (e.address + length e.bytes ≤ x)

  -- A word, and those of later chunks.
  word-beside : (a at : ℕ) (cs : List Chunk) → base ≤ a → All (LiesIn base n) cs → All (Away (a + at)) cs → All (Beside (a - base + at)) (flat_words base cs)
  word-beside a at [] low all away = All-nil (Beside (a - base + at))
  word-beside a at (e ∷ cs) low all away =
      let h = All-head (LiesIn base n) e cs all in
      let above = h.above in
      let here = All-head (Away (a + at)) e cs away in
      let d = e.address - base in
      All-append (Beside (a - base + at)) (chunk_words base e) (flat_words base cs)
      (All-map (Beside (a - base + at)) (λ v. d + v) e.words (All-weaker (λ v. v + 2 ≤ length e.bytes) (λ v. Beside (a - base + at) (d + v))
      (λ v g. ⊎_elim (λ l. inl (omega (arith, l, low, above))) (λ l. inr (omega (arith, l, g, low, above))) here) e.words h.words))
      (word-beside a at cs low (All-tail (LiesIn base n) e cs all) (All-tail (Away (a + at)) e cs away))

  flat-apart : (cs : List Chunk) → All (LiesIn base n) cs → AreUncovered cs → All IsFree cs → AreApart (flat_words base cs)
  flat-apart [] all bare free = tt
  flat-apart (c ∷ cs) all bare free =
      let h = All-head (LiesIn base n) c cs all in
      let rest = All-tail (LiesIn base n) c cs all in
      let d = c.address - base in
      apart-append (chunk_words base c) (flat_words base cs) (apart-shift d c.words (All-head IsFree c cs free)) (flat-apart cs rest bare.1 (All-tail IsFree c cs free))
      (All-map (λ w. All (Beside w) (flat_words base cs)) (λ w. d + w) c.words (All-weaker (λ at. All (Away (c.address + at)) cs) (λ at. All (Beside (d + at)) (flat_words base cs))
      (λ at away. word-beside c.address at cs h.above rest away) c.words bare.0))

pub stand-apart : WordsStandApart
stand-apart n ms code stack h = flat-apart 0 n (all_chunks ms) h.lying h.uncovered (all-free ms h.moving)
