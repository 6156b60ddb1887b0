-- Modules whose relocation words are added one module after the other.
use Rattle.std.proofs.Common.{◌≡◌, ℕ, ◌+◌, ◌≤◌, length, refl, arith, List, [], ◌∷◌, ◌++◌, sym, ◌∙◌, ap, subst}
use Rattle.std.specs.Prelude.{All, Option, Some, None}
use Rattle.std.specs.List.{cons_option}
use Rattle.std.proofs.lemmas.Grind.{flat_map-append}
use Rattle.std.proofs.lemmas.List.{append_assoc, append-nil}
use Rattle.std.proofs.lemmas.List.Elements.{All-nil, All-cons, All-head, All-tail, All-append, All-weaker}
use Rattle.omf_frame.specs.Bytes.{with_after}
use Rattle.omf_records.specs.Values.{Contents, DataItem, Plain, Iterated, width}
use Rattle.omf_image.specs.Inner.Expanding.{expanded}
use Rattle.omf_image.specs.Limits.{profile_limits}
use Rattle.omf_placement.specs.Placement.{Places}
use Rattle.omf_reloc.specs.Image.{patched}
use Rattle.omf_reloc.specs.Laws.{AreInside, location_end}
use Rattle.omf_reloc.specs.Plain.{Piece, Kept, Fixed, End, PlainFixup, fixups_of_data, pieces}
use Rattle.omf_reloc.proofs.PatchLaws.{stays_inside}
use Rattle.omf_output.specs.Exe.Filled.{has_any}
use Rattle.omf_output.specs.Exe.Moved.{AreMoversOf, Movers}
use Rattle.omf_output.specs.Exe.Relocations.{site, sites}
use Rattle.omf_output.proofs.DataMoves.{site-inside}
use Rattle.omf_output.proofs.FilledLaws.{all-only}
use Rattle.omf_reloc.proofs.WalkLaws.{all-left, all-right}
use Rattle.omf_output.specs.Exe.Judged.{PiecesApart}
use Rattle.omf_output.specs.Exe.Memory.{ContentsMove, PieceMoves, PiecesMove, contents_chunks, piece_chunks, AreUncovered, Chunk, IsAway, ModuleMoves, MovingModule, all_chunks, chunk_words, chunks, flat_words}
use Rattle.omf_output.specs.Exe.Overlaps.{AddInTurn, HasItsWords, IsJudged, ProgramsAreJudged}
use Rattle.omf_output.proofs.JudgedLaws.{judged}
use Rattle.omf_output.proofs.OverlapLaws.{from-zero, swap, unmapped}

abbrev Clear : List ℕ → Chunk → Type 0
Clear ws c = All (λ w. IsAway w c) ws

-- The words of a chunk, by chunks that are clear of them.
own-away : (c : Chunk) (ds : List Chunk) → All (Clear (chunk_words 0 c)) ds → All (λ at. All (IsAway (c.address + at)) ds) c.words
own-away c ds h =
    unmapped (λ w. All (IsAway w) ds) (λ at. c.address + at) c.words
    (subst (All (λ w. All (IsAway w) ds)) (sym (from-zero c.address c.words)) (swap IsAway (chunk_words 0 c) ds h))

both-away : (c : Chunk) (cs ds : List Chunk) (ats : List ℕ) → All (λ at. All (IsAway (c.address + at)) cs) ats → All (λ at. All (IsAway (c.address + at)) ds) ats
    → All (λ at. All (IsAway (c.address + at)) (cs ++ ds)) ats
both-away c cs ds [] h k = All-nil (λ at. All (IsAway (c.address + at)) (cs ++ ds))
both-away c cs ds (at ∷ ats) h k =
    All-cons (λ at. All (IsAway (c.address + at)) (cs ++ ds)) at ats
    (All-append (IsAway (c.address + at)) cs ds (All-head (λ at. All (IsAway (c.address + at)) cs) at ats h) (All-head (λ at. All (IsAway (c.address + at)) ds) at ats k))
    (both-away c cs ds ats (All-tail (λ at. All (IsAway (c.address + at)) cs) at ats h) (All-tail (λ at. All (IsAway (c.address + at)) ds) at ats k))

uncovered-by : (cs ds : List Chunk) → AreUncovered cs → AreUncovered ds → All (Clear (flat_words 0 cs)) ds → AreUncovered (cs ++ ds)
uncovered-by [] ds h k a = k
uncovered-by (c ∷ cs) ds h k a =
    let own : List ℕ = chunk_words 0 c in
    let rest : List ℕ = flat_words 0 cs in (
      both-away c cs ds c.words h.0 (own-away c ds (All-weaker (Clear (own ++ rest)) (Clear own) (λ d x. all-left (λ w. IsAway w d) own rest x) ds a)),
      uncovered-by cs ds h.1 k (All-weaker (Clear (own ++ rest)) (Clear rest) (λ d x. all-right (λ w. IsAway w d) own rest x) ds a),
    )

abbrev ModuleApart : MovingModule → Type 0
ModuleApart m = PiecesApart m.movers (pieces m.records)

record Turn (ms : List MovingModule) (ws out : List ℕ) : Type 0 where
  words : out ≡ ws ++ flat_words 0 (all_chunks ms)
  clear : All (Clear ws) (all_chunks ms)
  uncovered : AreUncovered (all_chunks ms)
  apart : All ModuleApart ms

in-turn : (ms : List MovingModule) (ws out : List ℕ) → AddInTurn ms ws out → Turn ms ws out
in-turn [] ws out e = record { words = sym e ∙ sym (append-nil ws); clear = All-nil (Clear ws); uncovered = tt; apart = All-nil ModuleApart }
in-turn (m ∷ ms) ws out h =
    let a = h.1 in
    let t = in-turn ms h.0 out h.2 in
    let cs : List Chunk = chunks m.movers m.places m.records in
    let ds : List Chunk = all_chunks ms in
    let own : List ℕ = flat_words 0 cs in
    let clear : All (Clear (ws ++ own)) ds = subst (λ l. All (Clear l) ds) a.words t.clear in
    record {
      words = t.words ∙ ap (λ l. l ++ flat_words 0 ds) a.words ∙ append_assoc ws own (flat_words 0 ds) ∙ ap (λ l. ws ++ l) (sym (flat_map-append (chunk_words 0) cs ds));
      clear = All-append (Clear ws) cs ds a.clear (All-weaker (Clear (ws ++ own)) (Clear ws) (λ d x. all-left (λ w. IsAway w d) ws own x) ds clear);
      uncovered = uncovered-by cs ds a.uncovered t.uncovered (All-weaker (Clear (ws ++ own)) (Clear own) (λ d x. all-right (λ w. IsAway w d) ws own x) ds clear);
      apart = All-cons ModuleApart m ms a.apart t.apart;
    }

all-move : (ms : List MovingModule) → All IsJudged ms → All ModuleApart ms → All ModuleMoves ms
all-move [] h k = All-nil ModuleMoves
all-move (m ∷ ms) h k =
    let j = All-head IsJudged m ms h in
    All-cons ModuleMoves m ms (judged m j.holds j.reaches j.movers j.moving (All-head ModuleApart m ms k))
    (all-move ms (All-tail IsJudged m ms h) (All-tail ModuleApart m ms k))

-- ---- each word is in the bytes of its chunk

module _ (mv : Movers) (pl : Places) (h : AreMoversOf mv pl) where
  sites-in : (d : DataItem) (n : ℕ) (fs : List (ℕ × PlainFixup)) → AreInside n fs → All (λ at. at + 2 ≤ n) (sites mv d.segment.item fs)
  sites-in d n [] a = All-nil (λ at. at + 2 ≤ n)
  sites-in d n (f ∷ fs) a = by (site mv d.segment.item f) refl (sites-in d n fs (All-tail (λ g. location_end g ≤ n) f fs a))
    where
      by : (o : Option ℕ) → site mv d.segment.item f ≡ o → All (λ at. at + 2 ≤ n) (sites mv d.segment.item fs) → All (λ at. at + 2 ≤ n) (cons_option o (sites mv d.segment.item fs))
      by None e rest = rest
      by (Some at) e rest =
          let low = site-inside 0 mv pl h d f at e in
          let here : location_end f ≤ n = All-head (λ g. location_end g ≤ n) f fs a in
          All-cons (λ at. at + 2 ≤ n) at (sites mv d.segment.item fs) (omega (arith, low, here)) rest

  contents-in : (kind : ℕ) (c : Contents) (after : List Piece) → ContentsMove mv pl c after → All HasItsWords (contents_chunks mv pl kind c after)
  contents-in kind (Plain d) after r =
      let fs = fixups_of_data after in
      all-only HasItsWords (has_any (patched pl d fs)) _
      (subst (λ n. All (λ at. at + 2 ≤ n) (sites mv d.segment.item fs)) (sym (stays_inside pl d fs r.inside).size) (sites-in d (length d.bytes) fs r.inside))
  contents-in kind (Iterated d) after r = all-only HasItsWords (has_any (expanded (width kind) profile_limits d.bytes)) _ (All-nil (λ at. at + 2 ≤ length (expanded (width kind) profile_limits d.bytes)))
  contents-in kind _ after r = All-nil HasItsWords

  piece-in : (p : Piece) (after : List Piece) → PieceMoves mv pl p after → All HasItsWords (piece_chunks mv pl p after)
  piece-in (Kept r) after m = contents-in r.kind r.contents after m
  piece-in (Fixed kind fixups) after m = All-nil HasItsWords
  piece-in (End kind byte start) after m = All-nil HasItsWords

  pieces-in : (ps : List Piece) → PiecesMove mv pl ps → All HasItsWords (with_after (piece_chunks mv pl) ps)
  pieces-in [] m = All-nil HasItsWords
  pieces-in (p ∷ ps) m = All-append HasItsWords (piece_chunks mv pl p ps) (with_after (piece_chunks mv pl) ps) (piece-in p ps m.0) (pieces-in ps m.1)

all-in : (ms : List MovingModule) → All ModuleMoves ms → All HasItsWords (all_chunks ms)
all-in [] all = All-nil HasItsWords
all-in (m ∷ ms) all =
    let h = All-head ModuleMoves m ms all in
    All-append HasItsWords (chunks m.movers m.places m.records) (all_chunks ms) (pieces-in m.movers m.places h.movers (pieces m.records) h.pieces)
    (all-in ms (All-tail ModuleMoves m ms all))

pub programs-judged : ProgramsAreJudged
programs-judged ms words h k =
    let t = in-turn ms [] words k in
    let moving = all-move ms h t.apart in
    record { moving = moving; words_are = t.words; inside = all-in ms moving; uncovered = t.uncovered }
