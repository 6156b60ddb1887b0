-- A .COM program of linked modules.
use Rattle.std.proofs.Common.{◌≡◌, ◌⊎◌, ℕ, ◌+◌, ◌*◌, ◌-◌, ◌<◌, ◌≤◌, List, [], ◌∷◌, ◌++◌, Bool, true, false, cond, drop, length, map, min, take, refl, sym, ◌∙◌, ap, ap₂, ⊎_elim, inl, inr, arith}
use Rattle.std.specs.Prelude.{All, Option, Some, None, option_map, option_to_list, is_some, Result, Ok, Err, filter_map, find, slice_get, nat_lt, ◌==◌, ◌&&◌, ◌||◌, ◌%◌, ⊤}
use Rattle.std.specs.List.{cons_option, list_any}
use Rattle.std.specs.Option.{option_or}
use Rattle.std.proofs.lemmas.Bool.{and_parts, cases_lt, eqb-true, ltb-false}
use Rattle.std.proofs.lemmas.List.{append-nil, drop_all, length-drop, take_all}
use Rattle.std.proofs.Math.Nat.{le-max_left}
use Rattle.std.proofs.lemmas.List.Elements.{All-nil, All-cons, All-head, All-tail}
use Rattle.omf_frame.specs.declared.fault.Place.{Place}
use Rattle.omf_records.specs.Values.{Contents, Names, Plain, Iterated, Rec}
use Rattle.omf_check.specs.Module.{recs_of, records_in}
use Rattle.omf_check.specs.Listed.{placed_from}
use Rattle.omf_placement.specs.Placement.{Places}
use Rattle.omf_reloc.specs.Plain.{Piece, Kept, Fixed, End, PlainFixup, data_contents}
use Rattle.omf_reloc.proofs.PieceLaws.{pieces-listed}
use Rattle.omf_check.proofs.ListedLaws.{records_listed}
use Rattle.omf_output.specs.declared.exe.com_fault.ComFault.{ComFault}
use Rattle.omf_output.specs.declared.exe.com_fault.ComFault.TheVariants as fault
use Rattle.omf_output.specs.declared.exe.fault.ExeFault.{ExeFault}
use Rattle.omf_output.specs.Exe.Based.{Holds}
use Rattle.omf_output.specs.Exe.Com.{ComLoaded, after_prefix, com_bytes, com_end, com_fault, com_loaded, counts_apart, exe_part, first_fixup, first_low, fixup_fault, is_low_record, long_fault, part_fault, piece_fault, stack_bytes, start_fault, with_word}
use Rattle.omf_output.specs.Exe.Linked.{linked_at, member_fault, one_start, placed, starts}
use Rattle.omf_output.specs.Exe.Members.{Member, Portion, all_moving, portions}
use Rattle.omf_output.specs.Exe.Memory.{Chunk, all_chunks, chunks_at, data_end, flat}
use Rattle.omf_output.specs.Exe.Moved.{Movers}
use Rattle.omf_output.specs.Exe.Overlaps.{AddInTurn, AreJudged, Open, all_words, opened, opened_after, or_place, with_contents, with_fixups, with_piece}
use Rattle.omf_output.specs.Exe.Relocations.{site, words_moved}
use Rattle.omf_output.specs.Inner.Walked.{located_from, segment_after}
use Rattle.omf_output.specs.Located.{Located, located}
use Rattle.omf_output.proofs.LocatedLaws.{walked}
use Rattle.omf_output.proofs.ChunkMoves.{chunks-move}
use Rattle.omf_output.proofs.ImageMoves.{images}
use Rattle.omf_output.proofs.LinkedLaws.{AreReady, get-none, judged-of, lie-in}
use Rattle.omf_output.proofs.OverlapLaws.{overlaps-found}
use Rattle.omf_output.proofs.ProgramLaws.{length-flat}
use Rattle.omf_output.proofs.RegisterLaws.{code-moves}

-- ---- modules without a relocation word

-- Whether a piece has a fixup with a relocation word, of data in the segment of the last data record.
abbrev has_word : Movers → Option ℕ → Piece → Bool
has_word mv last (Kept r) = false
has_word mv None (Fixed kind fixups) = false
has_word mv (Some segment) (Fixed kind fixups) = list_any (λ f. is_some (site mv segment f)) (map (λ f. (kind, f)) fixups)
has_word mv last (End kind byte start) = false

abbrev pub has_words : Movers → Option ℕ → List (Place × Piece) → Bool
has_words mv last [] = false
has_words mv last (x ∷ xs) = has_word mv last x.1 || has_words mv (segment_after x.1 last) xs

module _ (mv : Movers) (pl : Places) where
  abbrev has_site : ℕ → ℕ × PlainFixup → Bool
  has_site segment f = is_some (site mv segment f)

  no-words : (segment address : ℕ) (fs : List (ℕ × PlainFixup)) → list_any (has_site segment) fs ≡ false → with_fixups mv segment address fs [] ≡ Some []
  no-words segment address [] e = refl
  no-words segment address (f ∷ fs) e = by (site mv segment f) e (no-words segment address fs)
    where
      by : (o : Option ℕ) → (is_some o || list_any (has_site segment) fs) ≡ false → (list_any (has_site segment) fs ≡ false → with_fixups mv segment address fs [] ≡ Some [])
          → with_fixups mv segment address fs (option_to_list (option_map (λ at. address + at) o)) ≡ Some []
      by None g rest = rest g
      by (Some at) g rest = absurd cc

  contents-clear : (kind : ℕ) (c : Contents) → with_contents pl kind c [] ≡ Some []
  contents-clear kind (Plain d) = refl
  contents-clear kind (Iterated d) = refl
  contents-clear kind (Names items) = refl
  contents-clear kind _ = refl

  -- The open data record is that of the last segment.
  abbrev Follows : Option ℕ → Open → Type 0
  Follows last None = ⊤
  Follows last (Some o) = last ≡ Some o.0

  piece-clear : (last : Option ℕ) (o : Open) (p : Piece) → Follows last o → has_word mv last p ≡ false → with_piece mv pl o p [] ≡ Some []
  piece-clear last o (Kept r) h e = contents-clear r.kind r.contents
  piece-clear last None (Fixed kind fs) h e = refl
  piece-clear last (Some o) (Fixed kind fs) h e = no-words o.0 o.1 (map (λ f. (kind, f)) fs) (sym (ap (λ l. has_word mv l (Fixed kind fs)) h) ∙ e)
  piece-clear last o (End kind byte start) h e = refl

  contents-follow : (last : Option ℕ) (o : Open) (c : Contents) → Follows last o → Follows (option_or (option_map (λ d. d.segment.item) (data_contents c)) last) (opened pl c o)
  contents-follow last o (Plain d) h = refl
  contents-follow last o (Iterated d) h = tt
  contents-follow last o (Names items) h = h
  contents-follow last o _ h = h

  follow : (last : Option ℕ) (o : Open) (p : Piece) → Follows last o → Follows (segment_after p last) (opened_after pl p o)
  follow last o (Kept r) h = contents-follow last o r.contents h
  follow last o (Fixed kind fs) h = h
  follow last o (End kind byte start) h = h

  all-clear : (last : Option ℕ) (o : Open) (xs : List (Place × Piece)) → Follows last o → has_words mv last xs ≡ false → all_words mv pl o xs [] ≡ Ok []
  all-clear last o [] h e = refl
  all-clear last o (x ∷ xs) h e = by (has_word mv last x.1) refl e (all-clear (segment_after x.1 last) (opened_after pl x.1 o) xs (follow last o x.1 h))
    where
      by : (b : Bool) → has_word mv last x.1 ≡ b → (b || has_words mv (segment_after x.1 last) xs) ≡ false
          → (has_words mv (segment_after x.1 last) xs ≡ false → all_words mv pl (opened_after pl x.1 o) xs [] ≡ Ok []) → all_words mv pl o (x ∷ xs) [] ≡ Ok []
      by true f g rest = absurd cc
      by false f g rest = ap (or_place x.0 (λ more. all_words mv pl (opened_after pl x.1 o) xs more)) (piece-clear last o x.1 h f) ∙ rest g

abbrev pub HasNoWord : Member → Type 0
HasNoWord m = has_words m.movers None (placed m) ≡ false

in-turn : (ms : List Member) → All Holds ms → All HasNoWord ms → AddInTurn (all_moving ms) [] []
in-turn [] h n = refl
in-turn (m ∷ ms) h n =
    let listed = pieces-listed (recs_of m.bytes) _ (records_listed 0 0 (records_in m.bytes)) in
    let none = all-clear m.movers m.places None None (placed m) tt (All-head HasNoWord m ms n) in (
      [],
      overlaps-found m.movers m.places (recs_of m.bytes) (placed m) [] [] (All-head Holds m ms h) listed none,
      in-turn ms (All-tail Holds m ms h) (All-tail HasNoWord m ms n),
    )

-- ---- no fault

-- Fixups without a fault have no relocation word.
module _ (m : Member) where
  none-sited : (p : Place) (segment : ℕ) (fs : List (ℕ × PlainFixup)) → filter_map (fixup_fault m p segment) fs ≡ [] → list_any (λ f. is_some (site m.movers segment f)) fs ≡ false
  none-sited p segment [] e = refl
  none-sited p segment (f ∷ fs) e = by (site m.movers segment f) (counts_apart m.places m.movers segment f.1) e (none-sited p segment fs)
    where
      by : (o : Option ℕ) (b : Bool) → cons_option (cond (is_some o) (Some (fault.Words m.number p)) (cond b (Some (fault.Frame m.number p)) None)) (filter_map (fixup_fault m p segment) fs) ≡ []
          → (filter_map (fixup_fault m p segment) fs ≡ [] → list_any (λ g. is_some (site m.movers segment g)) fs ≡ false) → (is_some o || list_any (λ g. is_some (site m.movers segment g)) fs) ≡ false
      by None false g rest = rest g
      by None true g rest = absurd cc
      by (Some at) b g rest = absurd cc

  abbrev here : Place → Option ℕ → Piece → Located
  here p last piece = record { place = p; segment = last; piece = piece }

  none-worded : (p : Place) (last : Option ℕ) (piece : Piece) → piece_fault m (here p last piece) ≡ None → has_word m.movers last piece ≡ false
  none-worded p last (Kept r) e = refl
  none-worded p None (Fixed kind fs) e = refl
  none-worded p (Some segment) (Fixed kind fs) e = none-sited p segment (map (λ f. (kind, f)) fs) (get-none (filter_map (fixup_fault m p segment) (map (λ f. (kind, f)) fs)) e)
  none-worded p last (End kind byte start) e = refl

  no-words-left : (last : Option ℕ) (xs : List (Place × Piece)) → filter_map (piece_fault m) (located_from last xs) ≡ [] → has_words m.movers last xs ≡ false
  no-words-left last [] e = refl
  no-words-left last (x ∷ xs) e = by (piece_fault m (here x.0 last x.1)) refl e (no-words-left (segment_after x.1 last) xs)
    where
      by : (o : Option ComFault) → piece_fault m (here x.0 last x.1) ≡ o → cons_option o (filter_map (piece_fault m) (located_from (segment_after x.1 last) xs)) ≡ []
          → (filter_map (piece_fault m) (located_from (segment_after x.1 last) xs) ≡ [] → has_words m.movers (segment_after x.1 last) xs ≡ false) → has_words m.movers last (x ∷ xs) ≡ false
      by None f g rest = ap₂ (λ (a b : Bool). a || b) (none-worded x.0 last x.1 f) (rest g)
      by (Some y) f g rest = absurd cc

no-part-here : (m : Member) → part_fault m ≡ None → HasNoWord m
no-part-here m e = by (first_low m.places (placed_from 0 0 (records_in m.bytes))) e
  where
    by : (a : Option Place) → option_or (option_map (λ p. fault.Low m.number p) a) (first_fixup m (placed m)) ≡ None → HasNoWord m
    by None f = no-words-left m None (placed m) (ap (filter_map (piece_fault m)) (walked (placed m)) ∙ get-none (filter_map (piece_fault m) (located (placed m))) f)
    by (Some p) f = absurd cc

no-parts : (ms : List Member) → filter_map part_fault ms ≡ [] → All HasNoWord ms
no-parts [] e = All-nil HasNoWord
no-parts (m ∷ ms) e = by (part_fault m) refl e (no-parts ms)
  where
    by : (o : Option ComFault) → part_fault m ≡ o → cons_option o (filter_map part_fault ms) ≡ [] → (filter_map part_fault ms ≡ [] → All HasNoWord ms) → All HasNoWord (m ∷ ms)
    by None f g rest = All-cons HasNoWord m ms (no-part-here m f) (rest g)
    by (Some x) f g rest = absurd cc

started : (r : Result (ℕ × ℕ) ExeFault) → start_fault r ≡ None → r ≡ Ok (0, 256)
started (Err f) e = absurd cc
started (Ok s) e = ap (λ (x : ℕ × ℕ). let r : Result (ℕ × ℕ) ExeFault = Ok x in r) (by ((s.0 == 0) && (s.1 == 256)) refl e)
  where
    by : (b : Bool) → ((s.0 == 0) && (s.1 == 256)) ≡ b → cond b None (Some (fault.Start (record { selector = s.0; offset = s.1 }))) ≡ None → s ≡ (0, 256)
    by true f g =
        let both = and_parts (s.0 == 0) (s.1 == 256) f in
        ap₂ (λ (a b : ℕ). (a, b)) (eqb-true s.0 0 both.0) (eqb-true s.1 256 both.1)
    by false f g = absurd cc

abbrev pub stack_of : List Member → ℕ
stack_of ms = stack_bytes (portions ms)

ended : (ms : List Member) → long_fault ms ≡ None → com_end ms + stack_of ms ≤ 65534
ended ms e = by (nat_lt 65534 (com_end ms + stack_of ms)) refl e
  where
    by : (b : Bool) → nat_lt 65534 (com_end ms + stack_of ms) ≡ b → cond b (Some (fault.TooLong (com_end ms) (stack_of ms))) None ≡ None → com_end ms + stack_of ms ≤ 65534
    by true f g = absurd cc
    by false f g = ltb-false 65534 (com_end ms + stack_of ms) f

pub no-exe : (ms : List Member) → exe_part ms ≡ None → slice_get (filter_map member_fault ms) 0 ≡ None
no-exe ms e = by (slice_get (filter_map member_fault ms) 0) e
  where
    by : (o : Option ExeFault) → option_map fault.Exe o ≡ None → o ≡ None
    by None f = refl
    by (Some x) f = absurd cc

-- What is known of modules without a fault.
pub record AreFree (ms : List Member) : Type 0 where
  pub modules : slice_get (filter_map member_fault ms) 0 ≡ None
  pub starts_low : one_start (starts ms) ≡ Ok (0, 256)
  pub words : All HasNoWord ms
  pub ends : com_end ms + stack_of ms ≤ 65534

pub free : (ms : List Member) → com_fault ms ≡ None → AreFree ms
free ms e = by (slice_get (filter_map member_fault ms) 0) (start_fault (one_start (starts ms))) (slice_get (filter_map part_fault ms) 0) (long_fault ms) refl refl refl refl e
  where
    by : (a : Option ExeFault) (b c d : Option ComFault) → slice_get (filter_map member_fault ms) 0 ≡ a → start_fault (one_start (starts ms)) ≡ b → slice_get (filter_map part_fault ms) 0 ≡ c → long_fault ms ≡ d
        → option_or (option_map fault.Exe a) (option_or b (option_or c d)) ≡ None → AreFree ms
    by None None None None ea eb ec ed f = record {
      modules = ea;
      starts_low = started (one_start (starts ms)) eb;
      words = no-parts ms (get-none (filter_map part_fault ms) ec);
      ends = ended ms ed;
    }
    by (Some x) b c d ea eb ec ed f = absurd cc
    by None (Some x) c d ea eb ec ed f = absurd cc
    by None None (Some x) d ea eb ec ed f = absurd cc
    by None None None (Some x) ea eb ec ed f = absurd cc

-- ---- the file

least_stack : (ps : List Portion) → 256 ≤ stack_bytes ps
least_stack ps = le-max_left 256 _

module _ (ms : List Member) (r : AreReady ms) (a : AreFree ms) where
  abbrev cs : List Chunk
  cs = all_chunks (all_moving ms)

  judged : AreJudged (all_moving ms) []
  judged = judged-of ms [] r (in-turn ms r.hold a.words)

  image-stays : (k : ℕ) → flat 0 (data_end cs) cs ≡ flat (16 * k) (data_end cs) (chunks_at k (all_moving ms))
  image-stays k =
      let n = data_end cs in
      let j = judged in
      let here : 0 + 16 * k ≡ 16 * k = omega arith in
      sym (ap (λ ws. words_moved k ws (flat 0 n cs)) (sym j.words_are))
      ∙ sym (images k 0 n cs (lie-in cs j.inside) j.uncovered)
      ∙ ap (flat (0 + 16 * k) n) (sym (chunks-move k (all_moving ms) j.moving))
      ∙ ap (λ b. flat b n (chunks_at k (all_moving ms))) here

  -- The file ends before the word that DOS puts into the segment, with room for the stack.
  pub com-short : length (com_bytes ms) + (256 + stack_of ms) ≤ 65534
  com-short =
      let j = judged in
      let n = data_end cs in
      let long : length (flat 0 n cs) ≡ n = length-flat 0 n cs (lie-in cs j.inside) in
      let less : length (drop 256 (flat 0 n cs)) ≡ length (flat 0 n cs) - 256 = length-drop 256 (flat 0 n cs) in
      let ends = a.ends in
      let need = least_stack (portions ms) in
      omega (arith, long, less, ends, need)

  word-after : with_word (com_bytes ms) ≡ com_bytes ms
  word-after =
      let short = com-short in
      let all : length (com_bytes ms) ≤ 65278 = omega (arith, short) in
      let none : length (com_bytes ms) - 65278 ≡ 0 = omega (arith, all) in
      ap₂ (λ (x y : List ℕ). x ++ y) (take_all 65278 (com_bytes ms) all) (ap (λ n. take n (0 ∷ 0 ∷ [])) none) ∙ append-nil (com_bytes ms)

  pub com-loads : (k : ℕ) → com_loaded (com_bytes ms) k ≡ after_prefix (linked_at k ms)
  com-loads k =
      let here : k ≡ 0 + k = omega arith in
      ap (λ (bs : List ℕ). let l : ComLoaded = record { address = 16 * k + 256; bytes = bs; code = (k % 65536, 256); stack = (k % 65536, 65534) } in l) word-after
      ∙ ap₂ (λ (i : List ℕ) (c : ℕ × ℕ). let l : ComLoaded = record { address = 16 * k + 256; bytes = drop 256 i; code = c; stack = (c.0, 65534) } in l) (image-stays k)
      (ap (λ n. (n % 65536, 256)) here ∙ sym (code-moves k ms (0, 256) r.hold (judged).moving a.starts_low))

-- ---- the walks

pub low-found : (pl : Places) (x : Place × Rec) (left rest : List (Place × Rec)) (b : Bool) (whole : Option Place) → left ≡ x ∷ rest → b ≡ is_low_record pl x.1 → b ≡ true
    → first_low pl left ≡ whole → Some x.0 ≡ whole
low-found pl x left rest b whole e f t h =
    sym (ap (first_low pl) e ∙ ap (λ c. option_map (λ y. y.0) (cond c (Some x) (find (λ y. is_low_record pl y.1) rest))) (sym f ∙ t)) ∙ h

pub not-low : (pl : Places) (x : Place × Rec) (left rest : List (Place × Rec)) (b : Bool) (whole : Option Place) → left ≡ x ∷ rest → b ≡ is_low_record pl x.1 → b ≡ false
    → first_low pl left ≡ whole → first_low pl rest ≡ whole
not-low pl x left rest b whole e f t h =
    sym (ap (first_low pl) e ∙ ap (λ c. option_map (λ y. y.0) (cond c (Some x) (find (λ y. is_low_record pl y.1) rest))) (sym f ∙ t)) ∙ h

-- ---- the bytes after the prefix

pub prefix-dropped : (n m : ℕ) (xs : List ℕ) → m ≡ min (length xs) n → drop m xs ≡ drop n xs
prefix-dropped n m xs e = ⊎_elim
    (λ (h : length xs ≤ n). drop_all m xs (omega (arith, e, h)) ∙ sym (drop_all n xs h))
    (λ (h : n < length xs). let same : m ≡ n = omega (arith, e, h) in ap (λ i. drop i xs) same)
    (by_size (length xs))
  where
    by_size : (l : ℕ) → (l ≤ n) ⊎ (n < l)
    by_size l = ⊎_elim (λ h. inr h) (λ h. inl h) (cases_lt n l)
