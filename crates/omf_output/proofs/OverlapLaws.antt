-- Relocation words that are found in file order, and what overlaps one.
use Rattle.std.proofs.Common.{◌≡◌, ◌⊎◌, ℕ, ◌+◌, ◌-◌, ◌≤◌, List, [], ◌∷◌, ◌++◌, Bool, true, false, cond, length, map, refl, sym, ◌∙◌, ap, ap₂, subst, inl, inr, ⊎_elim, arith}
use Rattle.std.specs.Prelude.{All, Option, Some, None, option_map, option_and_then, option_to_list, Ok, flat_map, nat_le, ◌||◌}
use Rattle.std.specs.List.{cons_option}
use Rattle.std.proofs.lemmas.Bool.{leb-true}
use Rattle.std.proofs.lemmas.List.{append_assoc, append-nil}
use Rattle.std.proofs.lemmas.List.Elements.{All-nil, All-cons, All-head, All-tail, All-weaker}
use Rattle.omf_frame.specs.Bytes.{with_after}
use Rattle.omf_frame.specs.declared.fault.Place.{Place}
use Rattle.omf_records.specs.Values.{Contents, DataItem, Plain, Iterated, Rec, width}
use Rattle.omf_image.specs.Inner.Expanding.{expanded}
use Rattle.omf_image.specs.Limits.{profile_limits}
use Rattle.omf_placement.specs.Placement.{Places}
use Rattle.omf_reloc.specs.Inner.Names.{location_start}
use Rattle.omf_reloc.specs.Image.{patched}
use Rattle.omf_reloc.specs.Inner.Pieces.{one_by_one, single_pieces}
use Rattle.omf_reloc.specs.Laws.{AllLieInside, AreInside, location_end}
use Rattle.omf_reloc.specs.Plain.{Piece, Kept, Fixed, End, PlainFixup, fixups_of_data, pieces}
use Rattle.omf_reloc.proofs.InsideLaws.{all-inside}
use Rattle.omf_reloc.proofs.PatchLaws.{stays_inside}
use Rattle.omf_reloc.proofs.SingleLaws.{fixups-same, singles}
use Rattle.omf_reloc.proofs.WalkLaws.{all-left, all-right}
use Rattle.omf_output.specs.Exe.Filled.{has_any, only_if}
use Rattle.omf_output.specs.Exe.Moved.{Movers}
use Rattle.omf_output.specs.Exe.Memory.{AreUncovered, Chunk, IsAway, chunk_words, contents_chunks, flat_words, piece_chunks, segment_address}
use Rattle.omf_output.specs.Exe.Judged.{ContentsApart, PiecesApart}
use Rattle.omf_output.specs.Exe.Overlaps.{Open, OverlapsAreFound, all_words, are_clear, opened, opened_after, or_place, with_contents, with_data, with_fixups, with_piece, word_of}
use Rattle.omf_output.specs.Exe.Relocations.{IsApart, StandApart, site, sites}
use Rattle.omf_output.proofs.FilledLaws.{none-inside, none-there}
use Rattle.omf_output.proofs.JudgedLaws.{all-true}

abbrev Beside : ℕ → ℕ → ℕ → Type 0
Beside from to w = (w + 2 ≤ from) ⊎ (to ≤ w)

either : (b c : Bool) (P Q : Type 0) → (b ≡ true → P) → (c ≡ true → Q) → (b || c) ≡ true → P ⊎ Q
either true c P Q f g e = inl (f refl)
either false c P Q f g e = inr (g e)

pub all-clear : (ws : List ℕ) (from to : ℕ) → are_clear ws from to ≡ true → All (Beside from to) ws
all-clear ws from to e =
    all-true (Beside from to) (λ w. nat_le (w + 2) from || nat_le to w) (λ w. either (nat_le (w + 2) from) (nat_le to w) (w + 2 ≤ from) (to ≤ w) (leb-true (w + 2) from) (leb-true to w)) ws e

-- For each of one list all of another, and the other way round.
pub swap : {A B : Type 0} (P : A → B → Type 0) (xs : List A) (ys : List B) → All (λ y. All (λ x. P x y) xs) ys → All (λ x. All (P x) ys) xs
swap P [] ys h = All-nil (λ x. All (P x) ys)
swap P (x ∷ xs) ys h =
    All-cons (λ x. All (P x) ys) x xs (All-weaker (λ y. All (λ x. P x y) (x ∷ xs)) (P x) (λ y a. All-head (λ x. P x y) x xs a) ys h)
    (swap P xs ys (All-weaker (λ y. All (λ x. P x y) (x ∷ xs)) (λ y. All (λ x. P x y) xs) (λ y a. All-tail (λ x. P x y) x xs a) ys h))

module _ (mv : Movers) (segment address : ℕ) where
  abbrev From : ℕ → ℕ × PlainFixup → Type 0
  From w f = Beside (address + location_start f) (address + location_end f) w

  abbrev words_in : List (ℕ × PlainFixup) → List ℕ
  words_in fs = map (λ at. address + at) (sites mv segment fs)

  words-first : (o : Option ℕ) (rest : List ℕ) → option_to_list (option_map (λ at. address + at) o) ++ map (λ at. address + at) rest ≡ map (λ at. address + at) (cons_option o rest)
  words-first None rest = refl
  words-first (Some at) rest = refl

  record Found (fs : List (ℕ × PlainFixup)) (ws out : List ℕ) : Type 0 where
    words : out ≡ ws ++ words_in fs
    clear : All (λ f. All (λ w. From w f) ws) fs
    apart : StandApart mv segment fs

  apart-from : (o : Option ℕ) (fs : List (ℕ × PlainFixup)) → All (λ f. All (λ w. From w f) (option_to_list (option_map (λ at. address + at) o))) fs → IsApart fs o
  apart-from None fs h = tt
  apart-from (Some at) fs h =
      All-weaker (λ f. All (λ w. From w f) ((address + at) ∷ [])) (λ f. (at + 2 ≤ location_start f) ⊎ (location_end f ≤ at))
      (λ f a. ⊎_elim (λ l. inl (omega (arith, l))) (λ l. inr (omega (arith, l))) (All-head (λ w. From w f) (address + at) [] a)) fs h

  fixups-found : (fs : List (ℕ × PlainFixup)) (ws out : List ℕ) → with_fixups mv segment address fs ws ≡ Some out → Found fs ws out
  fixups-found [] ws out e = record { words = let same : ws ≡ out = cc in sym same ∙ sym (append-nil ws); clear = All-nil (λ f. All (λ w. From w f) ws); apart = tt }
  fixups-found (f ∷ fs) ws out e = by (are_clear ws (address + location_start f) (address + location_end f)) refl e (fixups-found fs (ws ++ word_of mv segment address f) out)
    where
      more : List ℕ
      more = word_of mv segment address f

      by : (b : Bool) → are_clear ws (address + location_start f) (address + location_end f) ≡ b → cond b (with_fixups mv segment address fs (ws ++ more)) None ≡ Some out
          → (with_fixups mv segment address fs (ws ++ more) ≡ Some out → Found fs (ws ++ more) out) → Found (f ∷ fs) ws out
      by true g e rest =
          let r = rest e in
          record {
            words = r.words ∙ append_assoc ws more (words_in fs) ∙ ap (λ l. ws ++ l) (words-first (site mv segment f) (sites mv segment fs));
            clear = All-cons (λ f. All (λ w. From w f) ws) f fs (all-clear ws (address + location_start f) (address + location_end f) g)
                (All-weaker (λ f. All (λ w. From w f) (ws ++ more)) (λ f. All (λ w. From w f) ws) (λ f a. all-left (λ w. From w f) ws more a) fs r.clear);
            apart = (apart-from (site mv segment f) fs (All-weaker (λ f. All (λ w. From w f) (ws ++ more)) (λ f. All (λ w. From w f) more) (λ f a. all-right (λ w. From w f) ws more a) fs r.clear), r.apart);
          }
      by false g e rest = absurd cc

-- ---- the pieces in order

module _ (mv : Movers) (pl : Places) where
  abbrev chunks_of : List Piece → List Chunk
  chunks_of ps = with_after (piece_chunks mv pl) ps

  abbrev then_more : Option (List ℕ) → (List ℕ → Option (List ℕ)) → Option (List ℕ)
  then_more o f = option_and_then f o

  abbrev pending : Open → List (ℕ × PlainFixup) → List ℕ → Option (List ℕ)
  pending None fs ws = Some ws
  pending (Some o) fs ws = with_fixups mv o.0 o.1 fs ws

  abbrev through : Open → List Piece → List ℕ → Option (List ℕ)
  through last [] ws = Some ws
  through last (p ∷ ps) ws = then_more (with_piece mv pl last p ws) (through (opened_after pl p last) ps)

  -- A data record with its fixups, and then those after it.
  abbrev of_contents : ℕ → Contents → List (ℕ × PlainFixup) → List ℕ → Option (List ℕ)
  of_contents kind (Plain d) fs ws = then_more (with_contents pl kind (Plain d) ws) (with_fixups mv d.segment.item (segment_address pl d.segment.item + d.offset.item) fs)
  of_contents kind c fs ws = with_contents pl kind c ws

  abbrev of_piece : Piece → List Piece → List ℕ → Option (List ℕ)
  of_piece (Kept r) after ws = of_contents r.kind r.contents (fixups_of_data after) ws
  of_piece (Fixed kind fs) after ws = Some ws
  of_piece (End kind byte start) after ws = Some ws

  abbrev by_data : List Piece → List ℕ → Option (List ℕ)
  by_data [] ws = Some ws
  by_data (p ∷ ps) ws = then_more (of_piece p ps ws) (by_data ps)

  then-assoc : (o : Option (List ℕ)) (f g : List ℕ → Option (List ℕ)) → then_more (then_more o f) g ≡ then_more o (λ ws. then_more (f ws) g)
  then-assoc None f g = refl
  then-assoc (Some ws) f g = refl

  then-same : (o : Option (List ℕ)) (f g : List ℕ → Option (List ℕ)) → ((ws : List ℕ) → f ws ≡ g ws) → then_more o f ≡ then_more o g
  then-same None f g h = refl
  then-same (Some ws) f g h = h ws

  pending-none : (last : Open) (ws : List ℕ) → pending last [] ws ≡ Some ws
  pending-none None ws = refl
  pending-none (Some o) ws = refl

  fixups-append : (s a : ℕ) (fs gs : List (ℕ × PlainFixup)) (ws : List ℕ) → with_fixups mv s a (fs ++ gs) ws ≡ then_more (with_fixups mv s a fs ws) (with_fixups mv s a gs)
  fixups-append s a [] gs ws = refl
  fixups-append s a (f ∷ fs) gs ws = by (are_clear ws (a + location_start f) (a + location_end f)) (fixups-append s a fs gs (ws ++ word_of mv s a f))
    where
      by : (b : Bool) → with_fixups mv s a (fs ++ gs) (ws ++ word_of mv s a f) ≡ then_more (with_fixups mv s a fs (ws ++ word_of mv s a f)) (with_fixups mv s a gs)
          → cond b (with_fixups mv s a (fs ++ gs) (ws ++ word_of mv s a f)) None ≡ then_more (cond b (with_fixups mv s a fs (ws ++ word_of mv s a f)) None) (with_fixups mv s a gs)
      by true rest = rest
      by false rest = refl

  abbrev Ordered : Open → List Piece → Type 0
  Ordered last ps = (ws : List ℕ) → through last ps ws ≡ then_more (pending last (fixups_of_data ps) ws) (by_data ps)

  kept : (kind : ℕ) (c : Contents) (last : Open) (ps : List Piece) → Ordered (opened pl c last) ps → Ordered last (Kept (record { kind = kind; contents = c }) ∷ ps)
  kept kind (Plain d) last ps h ws =
      let at = segment_address pl d.segment.item + d.offset.item in
      then-same (with_data at (length d.bytes) ws) (through (Some (d.segment.item, at)) ps) (λ more. then_more (with_fixups mv d.segment.item at (fixups_of_data ps) more) (by_data ps)) h
      ∙ sym (then-assoc (with_data at (length d.bytes) ws) (with_fixups mv d.segment.item at (fixups_of_data ps)) (by_data ps))
      ∙ sym (ap (λ o. then_more o (by_data (Kept (record { kind = kind; contents = Plain d }) ∷ ps))) (pending-none last ws))
  kept kind (Iterated d) last ps h ws =
      let at = segment_address pl d.segment.item + d.offset.item in
      then-same (with_data at (length (expanded (width kind) profile_limits d.bytes)) ws) (through None ps) (by_data ps) h
      ∙ sym (ap (λ o. then_more o (by_data (Kept (record { kind = kind; contents = Iterated d }) ∷ ps))) (pending-none last ws))
  kept kind _ last ps h ws = h ws

  fixed : (kind : ℕ) (fs : List PlainFixup) (last : Open) (ps : List Piece) → Ordered last ps → Ordered last (Fixed kind fs ∷ ps)
  fixed kind fs None ps h ws = h ws
  fixed kind fs (Some o) ps h ws =
      let own : List (ℕ × PlainFixup) = map (λ f. (kind, f)) fs in
      then-same (with_fixups mv o.0 o.1 own ws) (through (Some o) ps) (λ more. then_more (with_fixups mv o.0 o.1 (fixups_of_data ps) more) (by_data ps)) h
      ∙ sym (then-assoc (with_fixups mv o.0 o.1 own ws) (with_fixups mv o.0 o.1 (fixups_of_data ps)) (by_data ps))
      ∙ sym (ap (λ x. then_more x (by_data ps)) (fixups-append o.0 o.1 own (fixups_of_data ps) ws))

  in-order : (last : Open) (ps : List Piece) → Ordered last ps
  in-order last [] ws = sym (ap (λ o. then_more o (by_data [])) (pending-none last ws))
  in-order last (Kept r ∷ ps) ws = kept r.kind r.contents last ps (in-order (opened pl r.contents last) ps) ws
  in-order last (Fixed kind fs ∷ ps) ws = fixed kind fs last ps (in-order last ps) ws
  in-order last (End kind byte start ∷ ps) ws = in-order last ps ws

  -- The same where each fixup is a piece of its own.
  singles-same : (kind : ℕ) (fs : List PlainFixup) (ps : List Piece) (ws : List ℕ) → by_data (singles kind fs ++ ps) ws ≡ by_data ps ws
  singles-same kind [] ps ws = refl
  singles-same kind (f ∷ fs) ps ws = singles-same kind fs ps ws

  single-same : (ps : List Piece) (ws : List ℕ) → by_data (flat_map one_by_one ps) ws ≡ by_data ps ws
  single-same [] ws = refl
  single-same (Kept r ∷ ps) ws =
      ap (λ fs. then_more (of_contents r.kind r.contents fs ws) (by_data (flat_map one_by_one ps))) (fixups-same ps)
      ∙ then-same (of_contents r.kind r.contents (fixups_of_data ps) ws) (by_data (flat_map one_by_one ps)) (by_data ps) (single-same ps)
  single-same (Fixed kind fs ∷ ps) ws = singles-same kind fs (flat_map one_by_one ps) ws ∙ single-same ps ws
  single-same (End kind byte start ∷ ps) ws = single-same ps ws

  -- The result of the walk over pieces with their places.
  through-ok : (last : Open) (xs : List (Place × Piece)) (ws out : List ℕ) → all_words mv pl last xs ws ≡ Ok out → through last (map (λ x. x.1) xs) ws ≡ Some out
  through-ok last [] ws out e = let same : ws ≡ out = cc in ap Some same
  through-ok last (x ∷ xs) ws out e = by (with_piece mv pl last x.1 ws) e (λ more. through-ok (opened_after pl x.1 last) xs more out)
    where
      by : (o : Option (List ℕ)) → or_place x.0 (λ more. all_words mv pl (opened_after pl x.1 last) xs more) o ≡ Ok out
          → ((more : List ℕ) → all_words mv pl (opened_after pl x.1 last) xs more ≡ Ok out → through (opened_after pl x.1 last) (map (λ x. x.1) xs) more ≡ Some out)
          → then_more o (through (opened_after pl x.1 last) (map (λ x. x.1) xs)) ≡ Some out
      by (Some more) e rest = rest more e
      by None e rest = absurd cc

-- ---- what the words and the chunks are where nothing overlaps

pub unmapped : {A B : Type 0} (P : B → Type 0) (f : A → B) (xs : List A) → All P (map f xs) → All (λ x. P (f x)) xs
unmapped P f [] h = All-nil (λ x. P (f x))
unmapped P f (x ∷ xs) h = All-cons (λ x. P (f x)) x xs (All-head P (f x) (map f xs) h) (unmapped P f xs (All-tail P (f x) (map f xs) h))

pub from-zero : (a : ℕ) (xs : List ℕ) → map (λ at. a + at) xs ≡ map (λ at. a - 0 + at) xs
from-zero a [] = refl
from-zero a (x ∷ xs) = let same : a + x ≡ a - 0 + x = omega arith in ap₂ (λ y ys. y ∷ ys) same (from-zero a xs)

module _ (mv : Movers) (pl : Places) (m : List Rec) (inside : AllLieInside pl m) where
  abbrev AwayFrom : List ℕ → Chunk → Type 0
  AwayFrom ws c = All (λ w. IsAway w c) ws

  record Adds (cs : List Chunk) (ws out : List ℕ) : Type 0 where
    words : out ≡ ws ++ flat_words 0 cs
    clear : All (AwayFrom ws) cs
    uncovered : AreUncovered cs

  with-chunk : (c : Chunk) (cs : List Chunk) (ws out mid : List ℕ) → All (λ w. (w + 2 ≤ c.address) ⊎ (c.address + length c.bytes ≤ w)) ws
      → mid ≡ ws ++ map (λ at. c.address + at) c.words → Adds cs mid out → Adds (c ∷ cs) ws out
  with-chunk c cs ws out mid free e h =
      let own : List ℕ = map (λ at. c.address + at) c.words in
      let clear : All (AwayFrom (ws ++ own)) cs = subst (λ l. All (AwayFrom l) cs) e h.clear in
      record {
        words = h.words ∙ ap (λ l. l ++ flat_words 0 cs) (e ∙ ap (λ l. ws ++ l) (from-zero c.address c.words)) ∙ append_assoc ws (chunk_words 0 c) (flat_words 0 cs);
        clear = All-cons (AwayFrom ws) c cs free (All-weaker (AwayFrom (ws ++ own)) (AwayFrom ws) (λ e a. all-left (λ w. IsAway w e) ws own a) cs clear);
        uncovered = (
          unmapped (λ w. All (IsAway w) cs) (λ at. c.address + at) c.words
              (swap IsAway own cs (All-weaker (AwayFrom (ws ++ own)) (AwayFrom own) (λ e a. all-right (λ w. IsAway w e) ws own a) cs clear)),
          h.uncovered,
        );
      }

  data-adds : (at n : ℕ) (c : Chunk) (cs : List Chunk) (ws mid out : List ℕ) → c.address ≡ at → length c.bytes ≡ n → c.words ≡ [] → with_data at n ws ≡ Some mid → Adds cs mid out → Adds (c ∷ cs) ws out
  data-adds at n c cs ws mid out ea en ew e h = by (are_clear ws at (at + n)) refl e
    where
      by : (b : Bool) → are_clear ws at (at + n) ≡ b → cond b (Some ws) None ≡ Some mid → Adds (c ∷ cs) ws out
      by true g e =
          let same : ws ≡ mid = cc in
          let free = subst (λ a. All (λ w. (w + 2 ≤ a) ⊎ (a + length c.bytes ≤ w)) ws) (sym ea) (subst (λ l. All (λ w. (w + 2 ≤ at) ⊎ (at + l ≤ w)) ws) (sym en) (all-clear ws at (at + n) g)) in
          let none : mid ≡ ws ++ map (λ x. c.address + x) c.words = sym same ∙ sym (append-nil ws) ∙ sym (ap (λ xs. ws ++ map (λ x. c.address + x) xs) ew) in
          with-chunk c cs ws out mid free none h
      by false g e = absurd cc

  plain-adds : (d : DataItem) (fs : List (ℕ × PlainFixup)) (cs : List Chunk) (ws mid out : List ℕ) → AreInside (length d.bytes) fs
      → then_more mv pl (with_data (segment_address pl d.segment.item + d.offset.item) (length d.bytes) ws) (with_fixups mv d.segment.item (segment_address pl d.segment.item + d.offset.item) fs) ≡ Some mid
      → Adds cs mid out → Adds (record { address = segment_address pl d.segment.item + d.offset.item; bytes = patched pl d fs; words = sites mv d.segment.item fs } ∷ cs) ws out × StandApart mv d.segment.item fs
  plain-adds d fs cs ws mid out low e h = by (are_clear ws at (at + length d.bytes)) refl e
    where
      at : ℕ
      at = segment_address pl d.segment.item + d.offset.item

      chunk : Chunk
      chunk = record { address = at; bytes = patched pl d fs; words = sites mv d.segment.item fs }

      by : (b : Bool) → are_clear ws at (at + length d.bytes) ≡ b → then_more mv pl (cond b (Some ws) None) (with_fixups mv d.segment.item at fs) ≡ Some mid → Adds (chunk ∷ cs) ws out × StandApart mv d.segment.item fs
      by true g e =
          let found = fixups-found mv d.segment.item at fs ws mid e in
          let long = (stays_inside pl d fs low).size in
          let free = subst (λ l. All (λ w. (w + 2 ≤ at) ⊎ (at + l ≤ w)) ws) (sym long) (all-clear ws at (at + length d.bytes) g) in
          (with-chunk chunk cs ws out mid free found.words h, found.apart)
      by false g e = absurd cc

  -- A chunk without bytes has no words.
  only-adds : (b : Bool) (c : Chunk) (cs : List Chunk) (ws out : List ℕ) → (b ≡ false → c.words ≡ []) → Adds (c ∷ cs) ws out → Adds (only_if b c ++ cs) ws out
  only-adds true c cs ws out none a = a
  only-adds false c cs ws out none a = record {
    words = a.words ∙ ap (λ l. ws ++ (map (λ at. c.address - 0 + at) l ++ flat_words 0 cs)) (none refl);
    clear = All-tail (AwayFrom ws) c cs a.clear;
    uncovered = a.uncovered.1;
  }

  none-sited : (d : DataItem) (fs : List (ℕ × PlainFixup)) → AreInside (length d.bytes) fs → has_any (patched pl d fs) ≡ false → sites mv d.segment.item fs ≡ []
  none-sited d fs low e =
      let none = none-there (patched pl d fs) e in
      ap (sites mv d.segment.item) (none-inside (length d.bytes) fs (sym (stays_inside pl d fs low).size ∙ ap length none) low)

  abbrev Result_of : ℕ → Contents → List Piece → List ℕ → List ℕ → Type 0
  Result_of kind c after ws out = Adds (contents_chunks mv pl kind c after ++ chunks_of mv pl after) ws out × ContentsApart mv c (fixups_of_data after)

  contents-adds : (before after : List Piece) (r : Rec) (kind : ℕ) (c : Contents) (ws mid out : List ℕ) → pieces m ≡ before ++ Kept r ∷ after → r.contents ≡ c
      → of_contents mv pl kind c (fixups_of_data after) ws ≡ Some mid → Adds (chunks_of mv pl after) mid out → Result_of kind c after ws out
  contents-adds before after r kind (Plain d) ws mid out e f g h =
      let fs = fixups_of_data after in
      let low = (inside.each_patch before after r d e f).locations in
      let whole = plain-adds d fs (chunks_of mv pl after) ws mid out low g h in
      (only-adds (has_any (patched pl d fs)) _ (chunks_of mv pl after) ws out (none-sited d fs low) whole.0, whole.1)
  contents-adds before after r kind (Iterated d) ws mid out e f g h =
      let at = segment_address pl d.segment.item + d.offset.item in
      let bytes = expanded (width kind) profile_limits d.bytes in
      let c : Chunk = record { address = at; bytes = bytes; words = [] } in
      (only-adds (has_any bytes) c (chunks_of mv pl after) ws out (λ n. refl) (data-adds at (length bytes) c (chunks_of mv pl after) ws mid out refl refl refl g h), tt)
  contents-adds before after r kind _ ws mid out e f g h = (subst (λ l. Adds (chunks_of mv pl after) l out) (let same : ws ≡ mid = cc in sym same) h, tt)

  abbrev Whole : List Piece → List ℕ → List ℕ → Type 0
  Whole ps ws out = Adds (chunks_of mv pl ps) ws out × PiecesApart mv ps

  all-add : (before ps : List Piece) (ws out : List ℕ) → pieces m ≡ before ++ ps → by_data mv pl ps ws ≡ Some out → Whole ps ws out
  all-add before [] ws out e g = (record { words = let same : ws ≡ out = cc in sym same ∙ sym (append-nil ws); clear = All-nil (AwayFrom ws); uncovered = tt }, tt)
  all-add before (p ∷ ps) ws out e g = by p (of_piece mv pl p ps ws) refl e g (λ q mid f. all-add (before ++ q ∷ []) ps mid out f)
    where
      next : (p : Piece) → pieces m ≡ before ++ p ∷ ps → pieces m ≡ (before ++ p ∷ []) ++ ps
      next p e = e ∙ sym (append_assoc before (p ∷ []) ps)

      by : (p : Piece) (o : Option (List ℕ)) → of_piece mv pl p ps ws ≡ o → pieces m ≡ before ++ p ∷ ps → then_more mv pl o (by_data mv pl ps) ≡ Some out
          → ((q : Piece) (mid : List ℕ) → pieces m ≡ (before ++ q ∷ []) ++ ps → by_data mv pl ps mid ≡ Some out → Whole ps mid out) → Whole (p ∷ ps) ws out
      by p None f e g all = absurd cc
      by (Kept r) (Some mid) f e g all =
          let rest = all (Kept r) mid (next (Kept r) e) g in
          let here = contents-adds before ps r r.kind r.contents ws mid out e refl f rest.0 in
          (here.0, (here.1, rest.1))
      by (Fixed kind fs) (Some mid) f e g all =
          let same : ws ≡ mid = cc in
          let rest = all (Fixed kind fs) mid (next (Fixed kind fs) e) g in
          (subst (λ l. Adds (chunks_of mv pl ps) l out) (sym same) rest.0, (tt, rest.1))
      by (End kind byte start) (Some mid) f e g all =
          let same : ws ≡ mid = cc in
          let rest = all (End kind byte start) mid (next (End kind byte start) e) g in
          (subst (λ l. Adds (chunks_of mv pl ps) l out) (sym same) rest.0, (tt, rest.1))

pub overlaps-found : OverlapsAreFound
overlaps-found mv pl m xs ws out holds listed e =
    let walked : by_data mv pl (pieces m) ws ≡ Some out = sym (single-same mv pl (pieces m) ws) ∙ sym (in-order mv pl None (single_pieces m) ws) ∙ sym (ap (λ ps. through mv pl None ps ws) listed) ∙ through-ok mv pl None xs ws out e in
    let whole = all-add mv pl m (all-inside pl m holds) [] (pieces m) ws out refl walked in
    record { words = whole.0.words; clear = whole.0.clear; uncovered = whole.0.uncovered; apart = whole.1 }
