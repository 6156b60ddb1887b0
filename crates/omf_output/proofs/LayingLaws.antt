-- Fixups that are applied where the data are give the data of the record with its fixups applied, in its place; so the pieces of a module lay its chunks.
use Rattle.std.proofs.Common.{◌≡◌, ℕ, ◌+◌, ◌-◌, ◌≤◌, List, [], ◌∷◌, ◌++◌, Bool, true, false, length, take, drop, map, refl, sym, ◌∙◌, ap, arith, length-append, length-drop, append_assoc}
use Rattle.std.specs.Prelude.{All, Some, None, Result, Ok, Err, flat_map, fold}
use Rattle.std.proofs.lemmas.List.{length-take-le}
use Rattle.std.proofs.lemmas.List.Elements.{All-nil, All-cons, All-head, All-tail, All-weaker}
use Rattle.omf_frame.specs.Bytes.{with_after}
use Rattle.omf_records.specs.Values.{Contents, DataItem, Plain, Iterated, Rec, location_offset, width}
use Rattle.omf_image.specs.Inner.Expanding.{expanded}
use Rattle.omf_image.specs.Limits.{profile_limits}
use Rattle.omf_image.specs.Inner.Names.{sum_bytes}
use Rattle.omf_image.specs.Parts.{Addition, add_part, add_parts}
use Rattle.omf_placement.specs.Placement.{Places}
use Rattle.omf_reloc.specs.Inner.Names.{location_start}
use Rattle.omf_reloc.specs.declared.fault.Cause.{Cause}
use Rattle.omf_reloc.specs.Image.{added, patched}
use Rattle.omf_reloc.specs.Inner.Pieces.{one_by_one, single_pieces}
use Rattle.omf_reloc.specs.Laws.{AllLieInside, AreInside, location_end}
use Rattle.omf_reloc.specs.Offsets.{outcome, outcome_at}
use Rattle.omf_reloc.specs.Plain.{Piece, Kept, Fixed, End, PlainFixup, fixups_of_data, pieces}
use Rattle.omf_reloc.proofs.PatchLaws.{parts_inside, stays_inside}
use Rattle.omf_reloc.proofs.SingleLaws.{fixups-same, singles}
use Rattle.omf_output.specs.Inner.Laying.{Source, address_at, all_laid, fixed_at, fixed_by, overlaid, source_in, with_data}
use Rattle.omf_output.specs.Exe.Memory.{Chunk, chunks, contents_chunks, piece_chunks, put}
use Rattle.omf_output.specs.Exe.Filled.{has_any, only_if}
use Rattle.omf_output.specs.Exe.Moved.{Movers}
use Rattle.omf_output.specs.Exe.Relocations.{sites}
use Rattle.omf_output.proofs.ChangeLaws.{back_of, front_of, length-front, length-number, number_of, split}
use Rattle.omf_output.proofs.FilledLaws.{none-inside, none-left, none-overlaid, none-there}
use Rattle.omf_output.proofs.WordLaws.{adding, length-add}

-- ---- a change of bytes that are between others

between : (a f p b c : List ℕ) → (a ++ f) ++ (p ++ (b ++ c)) ≡ a ++ ((f ++ (p ++ b)) ++ c)
between a f p b c = append_assoc a f (p ++ (b ++ c)) ∙ ap (λ l. a ++ l) (sym (append_assoc f (p ++ b) c ∙ ap (λ l. f ++ l) (append_assoc p b c)))

part-between : (a x c : List ℕ) (at w n v : ℕ) → length a ≡ at → w + n ≤ length x → add_part (a ++ (x ++ c)) (at + w) n v ≡ a ++ (add_part x w n v ++ c)
part-between a x c at w n v e h =
    let f = front_of x w in
    let m = number_of x w n in
    let b = back_of x w n in
    let lf = length-front x w n h in
    let lm = length-number x w n h in
    let laf : length (a ++ f) ≡ at + w = omega (arith, e, lf, length-append a f) in
    ap (λ l. add_part (a ++ (l ++ c)) (at + w) n v) (split x w n)
    ∙ ap (λ l. add_part l (at + w) n v) (sym (between a f m b c))
    ∙ (adding (at + w) n v).at (a ++ f) m (b ++ c) laf lm
    ∙ between a f (sum_bytes n m v) b c
    ∙ sym (ap (λ l. a ++ (l ++ c)) (ap (λ l. add_part l w n v) (split x w n) ∙ (adding w n v).at f m b lf lm))

abbrev Lies : ℕ → ℕ → Addition → Type 0
Lies pos n s = pos + s.offset + s.size ≤ n

parts-between : (a c : List ℕ) (at pos n : ℕ) (parts : List Addition) (x : List ℕ) → length a ≡ at → length x ≡ n → All (Lies pos n) parts
    → add_parts (at + pos) parts (a ++ (x ++ c)) ≡ a ++ (add_parts pos parts x ++ c)
parts-between a c at pos n [] x e f h = refl
parts-between a c at pos n (s ∷ ss) x e f h =
    let here : pos + s.offset + s.size ≤ n = All-head (Lies pos n) s ss h in
    let inside : pos + s.offset + s.size ≤ length x = omega (arith, here, f) in
    let same : at + pos + s.offset ≡ at + (pos + s.offset) = omega arith in
    let kept : length (add_part x (pos + s.offset) s.size s.value) ≡ n = length-add x (pos + s.offset) s.size s.value inside ∙ f in
    ap (add_parts (at + pos) ss) (ap (λ w. add_part (a ++ (x ++ c)) w s.size s.value) same ∙ part-between a x c at (pos + s.offset) s.size s.value e inside)
    ∙ parts-between a c at pos n ss (add_part x (pos + s.offset) s.size s.value) e kept (All-tail (Lies pos n) s ss h)

added-between : (a c : List ℕ) (at pos n : ℕ) (r : Result (List Addition) Cause) (x : List ℕ) → length a ≡ at → length x ≡ n → ((parts : List Addition) → r ≡ Ok parts → All (Lies pos n) parts)
    → added (at + pos) r (a ++ (x ++ c)) ≡ a ++ (added pos r x ++ c)
added-between a c at pos n (Ok parts) x e f h = parts-between a c at pos n parts x e f (h parts refl)
added-between a c at pos n (Err cause) x e f h = refl

-- A location that ends in n bytes has room for the parts of its fixup.
pub room-in : (pl : Places) (segment offset : ℕ) (f : ℕ × PlainFixup) (parts : List Addition) (pos n : ℕ) → Ok parts ≡ outcome_at pl segment offset f
    → pos ≡ address_at pl segment offset + location_offset f.1.locat → address_at pl segment offset + location_end f ≤ n → All (Lies pos n) parts
room-in pl segment offset f parts pos n e g h =
    let at = address_at pl segment offset in
    All-weaker (Lies (location_start f) (location_end f)) (Lies pos n) (λ a l. omega (arith, l, g, h))
    parts (parts_inside pl segment offset f parts (location_end f) (sym e) (omega arith))

-- ---- the fixups of a data record

module _ (pl : Places) (d : DataItem) where
  abbrev step : List ℕ → ℕ × PlainFixup → List ℕ
  step bytes f = added (location_offset f.1.locat) (outcome pl d f) bytes

  abbrev here : ℕ
  here = address_at pl d.segment.item d.offset.item

  abbrev own : ℕ × ℕ
  own = (d.segment.item, d.offset.item)

  length-step : (f : ℕ × PlainFixup) (x : List ℕ) (n : ℕ) → length x ≡ n → location_end f ≤ n → length (step x f) ≡ n
  length-step f x n e h =
      let other : DataItem = record { segment = d.segment; offset = d.offset; bytes = x } in
      (stays_inside pl other (f ∷ []) (All-cons (λ g. location_end g ≤ length x) f [] (omega (arith, h, e)) (All-nil (λ g. location_end g ≤ length x)))).size ∙ e

  fixups-between : (a c : List ℕ) (n : ℕ) (fs : List (ℕ × PlainFixup)) (x : List ℕ) → length a ≡ here → length x ≡ n → AreInside n fs
      → fold (fixed_at pl own) (a ++ (x ++ c)) fs ≡ a ++ (fold step x fs ++ c)
  fixups-between a c n [] x e f h = refl
  fixups-between a c n (g ∷ fs) x e f h =
      let low : location_end g ≤ n = All-head (λ k. location_end k ≤ n) g fs h in
      ap (λ l. fold (fixed_at pl own) l fs)
      (added-between a c here (location_offset g.1.locat) n (outcome pl d g) x e f (λ parts q. parts_inside pl d.segment.item d.offset.item g parts n q low))
      ∙ fixups-between a c n fs (step x g) e (length-step g x n f low) (All-tail (λ k. location_end k ≤ n) g fs h)

  pub fixups-laid : (fs : List (ℕ × PlainFixup)) (bytes : List ℕ) → AreInside (length d.bytes) fs → here + length d.bytes ≤ length bytes
      → fold (fixed_at pl own) (overlaid here d.bytes bytes) fs ≡ overlaid here (patched pl d fs) bytes
  fixups-laid fs bytes h low =
      let a = take here bytes in
      let c = drop (here + length d.bytes) bytes in
      let new = patched pl d fs in
      let same : length new ≡ length d.bytes = (stays_inside pl d fs h).size in
      ap (λ l. fold (fixed_at pl own) l fs) (append_assoc a d.bytes c)
      ∙ fixups-between a c (length d.bytes) fs d.bytes (length-take-le here bytes (omega (arith, low))) refl h
      ∙ sym (append_assoc a new c)
      ∙ ap (λ n. a ++ new ++ drop (here + n) bytes) (sym same)

-- ---- the pieces in order

module _ (pl : Places) where
  abbrev of_contents : ℕ → Contents → List (ℕ × PlainFixup) → List ℕ → List ℕ
  of_contents kind (Plain d) fs bytes = fixed_by pl (Some (d.segment.item, d.offset.item)) fs (with_data pl kind (Plain d) bytes)
  of_contents kind c fs bytes = with_data pl kind c bytes

  abbrev of_piece : Piece → List Piece → List ℕ → List ℕ
  of_piece (Kept r) after bytes = of_contents r.kind r.contents (fixups_of_data after) bytes
  of_piece (Fixed kind fs) after bytes = bytes
  of_piece (End kind byte start) after bytes = bytes

  abbrev by_data : List Piece → List ℕ → List ℕ
  by_data [] bytes = bytes
  by_data (p ∷ ps) bytes = by_data ps (of_piece p ps bytes)

  fixed-none : (last : Source) (bytes : List ℕ) → fixed_by pl last [] bytes ≡ bytes
  fixed-none None bytes = refl
  fixed-none (Some o) bytes = refl

  fold-both : (o : ℕ × ℕ) (fs gs : List (ℕ × PlainFixup)) (bytes : List ℕ) → fold (fixed_at pl o) bytes (fs ++ gs) ≡ fold (fixed_at pl o) (fold (fixed_at pl o) bytes fs) gs
  fold-both o [] gs bytes = refl
  fold-both o (f ∷ fs) gs bytes = fold-both o fs gs (fixed_at pl o bytes f)

  fixed-both : (last : Source) (fs gs : List (ℕ × PlainFixup)) (bytes : List ℕ) → fixed_by pl last (fs ++ gs) bytes ≡ fixed_by pl last gs (fixed_by pl last fs bytes)
  fixed-both None fs gs bytes = refl
  fixed-both (Some o) fs gs bytes = fold-both o fs gs bytes

  abbrev Ordered : Source → List Piece → Type 0
  Ordered last ps = (bytes : List ℕ) → all_laid pl last ps bytes ≡ by_data ps (fixed_by pl last (fixups_of_data ps) bytes)

  kept : (kind : ℕ) (c : Contents) (last : Source) (ps : List Piece) → Ordered (source_in c last) ps → Ordered last (Kept (record { kind = kind; contents = c }) ∷ ps)
  kept kind (Plain d) last ps h bytes =
      h (with_data pl kind (Plain d) bytes) ∙ sym (ap (by_data (Kept (record { kind = kind; contents = Plain d }) ∷ ps)) (fixed-none last bytes))
  kept kind (Iterated d) last ps h bytes =
      h (with_data pl kind (Iterated d) bytes) ∙ sym (ap (by_data (Kept (record { kind = kind; contents = Iterated d }) ∷ ps)) (fixed-none last bytes))
  kept kind _ last ps h bytes = h bytes

  in-order : (last : Source) (ps : List Piece) → Ordered last ps
  in-order last [] bytes = sym (fixed-none last bytes)
  in-order last (Kept r ∷ ps) bytes = kept r.kind r.contents last ps (in-order (source_in r.contents last) ps) bytes
  in-order last (Fixed kind fs ∷ ps) bytes =
      let tagged : List (ℕ × PlainFixup) = map (λ f. (kind, f)) fs in
      in-order last ps (fixed_by pl last tagged bytes) ∙ ap (by_data ps) (sym (fixed-both last tagged (fixups_of_data ps) bytes))
  in-order last (End kind byte start ∷ ps) bytes = in-order last ps bytes

  -- The same where each fixup is a piece of its own.
  singles-same : (kind : ℕ) (fs : List PlainFixup) (ps : List Piece) (bytes : List ℕ) → by_data (singles kind fs ++ ps) bytes ≡ by_data ps bytes
  singles-same kind [] ps bytes = refl
  singles-same kind (f ∷ fs) ps bytes = singles-same kind fs ps bytes

  single-same : (ps : List Piece) (bytes : List ℕ) → by_data (flat_map one_by_one ps) bytes ≡ by_data ps bytes
  single-same [] bytes = refl
  single-same (Kept r ∷ ps) bytes =
      ap (λ fs. by_data (flat_map one_by_one ps) (of_contents r.kind r.contents fs bytes)) (fixups-same ps)
      ∙ single-same ps (of_contents r.kind r.contents (fixups_of_data ps) bytes)
  single-same (Fixed kind fs ∷ ps) bytes = singles-same kind fs (flat_map one_by_one ps) bytes ∙ single-same ps bytes
  single-same (End kind byte start ∷ ps) bytes = single-same ps bytes

  fixed-first : (ps : List Piece) (bytes : List ℕ) → all_laid pl None ps bytes ≡ by_data ps bytes
  fixed-first ps bytes = in-order None ps bytes

-- ---- the chunks

length-overlaid : (at : ℕ) (new bytes : List ℕ) → at + length new ≤ length bytes → length (overlaid at new bytes) ≡ length bytes
length-overlaid at new bytes h =
    omega (arith, h, length-append (take at bytes ++ new) (drop (at + length new) bytes), length-append (take at bytes) new, length-take-le at bytes (omega (arith, h)), length-drop (at + length new) bytes)

put-zero : (c : Chunk) (bytes : List ℕ) → overlaid c.address c.bytes bytes ≡ put 0 bytes c
put-zero c bytes = let same : c.address ≡ c.address - 0 = omega arith in ap (λ a. take a bytes ++ c.bytes ++ drop (a + length c.bytes) bytes) same

abbrev pub EndsBy : ℕ → Chunk → Type 0
EndsBy n c = c.address + length c.bytes ≤ n

module _ (mv : Movers) (pl : Places) (m : List Rec) (inside : AllLieInside pl m) (n : ℕ) where
  pub record Laid (cs : List Chunk) (bytes out : List ℕ) : Type 0 where
    pub same : out ≡ fold (put 0) bytes cs
    pub long : length out ≡ n

  one-laid : (c : Chunk) (bytes out : List ℕ) → length bytes ≡ n → EndsBy n c → out ≡ overlaid c.address c.bytes bytes → Laid (c ∷ []) bytes out
  one-laid c bytes out e h f = record {
    same = f ∙ put-zero c bytes;
    long = ap length f ∙ length-overlaid c.address c.bytes bytes (omega (arith, h, e)) ∙ e;
  }

  only-laid : (b : Bool) (c : Chunk) (bytes out : List ℕ) → length bytes ≡ n → All (EndsBy n) (only_if b c) → (EndsBy n c → out ≡ overlaid c.address c.bytes bytes) → (b ≡ false → out ≡ bytes)
      → Laid (only_if b c) bytes out
  only-laid true c bytes out l h f g = let low = All-head (EndsBy n) c [] h in one-laid c bytes out l low (f low)
  only-laid false c bytes out l h f g = record { same = g refl; long = ap length (g refl) ∙ l }

  contents-laid : (before after : List Piece) (r : Rec) (c : Contents) (bytes : List ℕ) → pieces m ≡ before ++ Kept r ∷ after → r.contents ≡ c → length bytes ≡ n
      → All (EndsBy n) (contents_chunks mv pl r.kind c after) → Laid (contents_chunks mv pl r.kind c after) bytes (of_contents pl r.kind c (fixups_of_data after) bytes)
  contents-laid before after r (Plain d) bytes e f l h =
      let fs = fixups_of_data after in
      let patch = inside.each_patch before after r d e f in
      let size : length (patched pl d fs) ≡ length d.bytes = patch.stays.size in
      let c : Chunk = record { address = address_at pl d.segment.item d.offset.item; bytes = patched pl d fs; words = sites mv d.segment.item fs } in
      only-laid (has_any c.bytes) c bytes _ l h (λ low. fixups-laid pl d fs bytes patch.locations (omega (arith, low, size, l)))
      (λ none.
      let gone : length d.bytes ≡ 0 = sym size ∙ ap length (none-there c.bytes none) in
      ap (λ gs. fold (fixed_at pl (d.segment.item, d.offset.item)) (overlaid c.address d.bytes bytes) gs) (none-inside (length d.bytes) fs gone patch.locations)
      ∙ ap (λ bs. overlaid c.address bs bytes) (none-left d.bytes gone) ∙ none-overlaid c.address bytes)
  contents-laid before after r (Iterated d) bytes e f l h =
      let c : Chunk = record { address = address_at pl d.segment.item d.offset.item; bytes = expanded (width r.kind) profile_limits d.bytes; words = [] } in
      only-laid (has_any c.bytes) c bytes _ l h (λ low. refl) (λ none. ap (λ bs. overlaid c.address bs bytes) (none-there c.bytes none) ∙ none-overlaid c.address bytes)
  contents-laid before after r _ bytes e f l h = record { same = refl; long = l }

  piece-laid : (before after : List Piece) (p : Piece) (bytes : List ℕ) → pieces m ≡ before ++ p ∷ after → length bytes ≡ n → All (EndsBy n) (piece_chunks mv pl p after)
      → Laid (piece_chunks mv pl p after) bytes (of_piece pl p after bytes)
  piece-laid before after (Kept r) bytes e l h = contents-laid before after r r.contents bytes e refl l h
  piece-laid before after (Fixed kind fs) bytes e l h = record { same = refl; long = l }
  piece-laid before after (End kind byte start) bytes e l h = record { same = refl; long = l }

  fold-append : (cs ds : List Chunk) (bytes : List ℕ) → fold (put 0) bytes (cs ++ ds) ≡ fold (put 0) (fold (put 0) bytes cs) ds
  fold-append [] ds bytes = refl
  fold-append (c ∷ cs) ds bytes = fold-append cs ds (put 0 bytes c)

  all-left : (cs ds : List Chunk) → All (EndsBy n) (cs ++ ds) → All (EndsBy n) cs
  all-left [] ds h = All-nil (EndsBy n)
  all-left (c ∷ cs) ds h = All-cons (EndsBy n) c cs (All-head (EndsBy n) c (cs ++ ds) h) (all-left cs ds (All-tail (EndsBy n) c (cs ++ ds) h))

  all-right : (cs ds : List Chunk) → All (EndsBy n) (cs ++ ds) → All (EndsBy n) ds
  all-right [] ds h = h
  all-right (c ∷ cs) ds h = all-right cs ds (All-tail (EndsBy n) c (cs ++ ds) h)

  pieces-laid : (before ps : List Piece) (bytes : List ℕ) → pieces m ≡ before ++ ps → length bytes ≡ n → All (EndsBy n) (with_after (piece_chunks mv pl) ps)
      → Laid (with_after (piece_chunks mv pl) ps) bytes (by_data pl ps bytes)
  pieces-laid before [] bytes e l h = record { same = refl; long = l }
  pieces-laid before (p ∷ ps) bytes e l h =
      let cs = piece_chunks mv pl p ps in
      let ds = with_after (piece_chunks mv pl) ps in
      let first = piece-laid before ps p bytes e l (all-left cs ds h) in
      let rest = pieces-laid (before ++ p ∷ []) ps (of_piece pl p ps bytes) (e ∙ sym (append_assoc before (p ∷ []) ps)) first.long (all-right cs ds h) in
      record {
        same = rest.same ∙ ap (λ l. fold (put 0) l ds) first.same ∙ sym (fold-append cs ds bytes);
        long = rest.long;
      }

  -- The pieces of a module, read one fixup at a time, lay its chunks.
  pub module-laid : (bytes : List ℕ) → length bytes ≡ n → All (EndsBy n) (chunks mv pl m)
      → Laid (chunks mv pl m) bytes (all_laid pl None (single_pieces m) bytes)
  module-laid bytes l h =
      let whole = pieces-laid [] (pieces m) bytes refl l h in
      let same = fixed-first pl (single_pieces m) bytes ∙ single-same pl (pieces m) bytes in
      record { same = same ∙ whole.same; long = ap length same ∙ whole.long }
