-- The lines of a draft as lines of a link's text.
use Rattle.std.proofs.Common.{◌≡◌, ℕ, zero, suc, ◌+◌, ◌<◌, ◌≤◌, ◌^◌, Bool, true, false, ◌==◌, eqb, List, [], ◌∷◌, ◌++◌, length, length-append, refl, sym, ap, ap₂, subst, ◌∙◌, append_assoc, append-nil, arith, codes}
use Rattle.std.specs.Prelude.{flat_map, map, All, Option, None, Some, decimal, if◌then◌else◌, option_and_then, option_map, unwrap_or}
use Rattle.std.specs.List.{enumerate_from, zip}
use Rattle.std.proofs.lemmas.Bool.{and_parts, cond_both, eqb-true, false≢true}
use Rattle.std.proofs.lemmas.List.Elements.{All-nil, All-cons, All-head, All-tail}
use Rattle.std.proofs.lemmas.List.Splits.{slice_split_at, slice_split_none}
use Rattle.omf_records.specs.Values.{Rec}
use Rattle.omf_check.specs.Tables.{names, segments, groups, entry}
use Rattle.omf_check.specs.declared.segment.SegInfo.{SegInfo}
use Rattle.omf_placement.specs.Derive.{named_externals}
use Rattle.omf_placement.specs.declared.frame.Frame.{Frame}
use Rattle.omf_placement.specs.declared.frame.Placed.{Placed}
use Rattle.omf_placement.specs.Entries.{IsHexadecimal, in_words}
use Rattle.omf_placement.specs.Inner.EntryReading.{frame_of, hexadecimal, placed_of, real_of}
use Rattle.omf_placement.specs.Placement.{Places, real_frame}
use Rattle.omf_placement.specs.Quoted.{number, quoted, named}
use Rattle.omf_placement.proofs.EntryLaws.{hexadecimal-to, placed-to}
use Rattle.omf_layout.specs.declared.alignment.Alignment.{Alignment}
use Rattle.omf_layout.specs.declared.options.Frames.{Frames}
use Rattle.omf_layout.specs.declared.options.Frames.TheVariants.{Real, Flat}
use Rattle.omf_layout.specs.Draft.{alignment_text, is_same_frame, room_text}
use Rattle.omf_layout.specs.Reading.{IsShortFrame, IsShortPlace, AreShort}
use Rattle.omf_layout.specs.Wants.{alignments, bytes_aligned, rooms}
use Rattle.omf_text.specs.Numerals.{digits_of}
use Rattle.omf_text.proofs.DigitLaws.{eight-digits, four-digits, marks-number}
use Rattle.omf_text.proofs.NumeralLaws.{plain-digits}
use Rattle.omf_layout.proofs.LineLaws.{printed-room}
use Rattle.omf_text.proofs.PrintedLaws.{printed-decimal, printed-quoted, Passes, both-pass, is_printed}
use Rattle.omf_layout.proofs.SaidLaws.{IsWord, tight-two, tight-word}
use Rattle.omf_layout.proofs.TableLaws.{length-alignments}
use Rattle.omf_layout.proofs.TextLaws.{IsLineOf, SpellsLines, no-lines, one-line, more-lines, each-line}
use Rattle.omf_linking.specs.Locator.Drafted.{HasEntries, Sharing, blanks, group_lines_of, group_told, labels, module_lines, segment_lines_of, segment_told, sharing_of}
use Rattle.omf_linking.specs.Locator.KeyForms.{class_of, is_repeated, key_form, key_of, key_text, key_words, module_key, module_key_by, module_texts, spelled}
use Rattle.omf_linking.specs.Locator.Keys.{entry_name, module_name}
use Rattle.omf_linking.specs.Locator.LinkEntries.{Blank, Gives, GroupFrame, Key, LinkEntry, Opens, SegmentPlace, SharedPlace, Told as Given, frame_in, group_in, link_entry_on, own_or, place_in, segment_in, shared_place, shared_word, stored_place, told_or}
use Rattle.omf_linking.specs.declared.locator.forms.KeyForm.{KeyForm}
use Rattle.omf_linking.specs.declared.locator.forms.KeyForm.TheVariants as form
use Rattle.omf_linking.proofs.KeyNames.{keys-written}
use Rattle.omf_reloc.specs.declared.fault.Kind.{Kind}
use Rattle.omf_reloc.specs.declared.fault.Kind.TheVariants as kinds
use Rattle.omf_externals.specs.Names.{has_name, seen_names}
use Rattle.omf_drafting.specs.Reading.{HasFew}
use Rattle.omf_drafting.specs.Text.{external_text, frame_text, full_place, group_line, group_lines, module_text, opening_line, own_place, place_text, segment_comment, segment_line, segment_lines, wanted_line_by, wanted_lines}
use Rattle.omf_drafting.proofs.KeyLines.{AreWords, IsKey, IsLetter, IsName, Quoteless, Spaceless, comment-end, comment-read, glyphs-decimal, glyphs-number, glyphs-printed, in-quotes, key-alone, key-words, no-end, no-name, quoteless-both, quoteless-glyphs, spaceless-glyphs, spelled-name}

-- ---- words

record IsPart (w : List ℕ) : Type 0 where
  pub word : IsWord w
  pub quoteless : Quoteless w
  pub spaceless : Spaceless w

number-part : (most n : ℕ) → IsHexadecimal most (number n) n → IsPart (number n)
number-part most n h = record { word = record { some = h.numeral.0; marks = marks-number n }; quoteless = quoteless-glyphs (number n) (glyphs-number n); spaceless = spaceless-glyphs (number n) (glyphs-number n) }

four-all : (P : ℕ → Type 0) (a b c d : ℕ) → P a → P b → P c → P d → All P (a ∷ b ∷ c ∷ d ∷ [])
four-all P a b c d pa pb pc pd = All-cons P a (b ∷ c ∷ d ∷ []) pa (All-cons P b (c ∷ d ∷ []) pb (All-cons P c (d ∷ []) pc (All-cons P d [] pd (All-nil P))))

real-part : IsPart (codes "real")
real-part = record {
  word = record { some = omega arith; marks = refl };
  quoteless = four-all (λ c. eqb c 34 ≡ false) 114 101 97 108 refl refl refl refl;
  spaceless = four-all (λ c. eqb c 32 ≡ false) 114 101 97 108 refl refl refl refl;
}

shared-part : IsPart (codes "shared")
shared-part = record {
  word = record { some = omega arith; marks = refl };
  quoteless =
      let no : ℕ → Type 0 = λ c. eqb c 34 ≡ false in
      All-cons no 115 (codes "hared") refl (All-cons no 104 (codes "ared") refl (four-all no 97 114 101 100 refl refl refl refl));
  spaceless =
      let no : ℕ → Type 0 = λ c. eqb c 32 ≡ false in
      All-cons no 115 (codes "hared") refl (All-cons no 104 (codes "ared") refl (four-all no 97 114 101 100 refl refl refl refl));
}

last-of : (w : List ℕ) → IsPart w → AreWords w (w ∷ [])
last-of w p = record { tight = tight-word w p.word; quoteless = p.quoteless; some = p.word.some; words = slice_split_none (λ d. eqb d 32) w p.spaceless }

and-more : (w rest : List ℕ) (ws : List (List ℕ)) → IsPart w → AreWords rest ws → AreWords (w ++ 32 ∷ rest) (w ∷ ws)
and-more w rest ws p r = record {
  tight = tight-two w rest (tight-word w p.word) r.tight;
  quoteless = quoteless-both w (32 ∷ rest) p.quoteless (All-cons (λ c. eqb c 34 ≡ false) 32 rest refl r.quoteless);
  some = omega (arith, length-append w (32 ∷ rest), p.word.some);
  words = slice_split_at (λ d. eqb d 32) w 32 rest p.spaceless refl ∙ ap (λ xs. w ∷ xs) r.words;
}

-- ---- places and frames

record IsPlace (text : List ℕ) (p : Placed) : Type 0 where
  pub words : List (List ℕ)
  pub are : AreWords text words
  pub gives : place_in words ≡ Some p

-- Their numbers are not marked.
plain-eight : (n : ℕ) → n < 2 ^ 32 → digits_of (number n) ≡ number n
plain-eight n h = plain-digits 8 (number n) n (eight-digits n h)

plain-four : (n : ℕ) → n < 2 ^ 16 → digits_of (number n) ≡ number n
plain-four n h = plain-digits 4 (number n) n (four-digits n h)

plain-place : (p : Placed) → IsShortPlace p → place_in (number p.address ∷ number p.frame.base ∷ number p.frame.selector ∷ []) ≡ placed_of (number p.address) (number p.frame.base) (number p.frame.selector)
plain-place p k =
    ap (λ a. placed_of a (digits_of (number p.frame.base)) (digits_of (number p.frame.selector))) (plain-eight p.address k.address)
    ∙ ap₂ (λ b s. placed_of (number p.address) b s) (plain-eight p.frame.base k.frame.base) (plain-four p.frame.selector k.frame.selector)

full-place : (p : Placed) → IsShortPlace p → IsPlace (full_place p) p
full-place p k = record {
  words = number p.address ∷ number p.frame.base ∷ number p.frame.selector ∷ [];
  are = and-more (number p.address) _ _ (number-part 8 p.address (eight-digits p.address k.address))
      (and-more (number p.frame.base) _ _ (number-part 8 p.frame.base (eight-digits p.frame.base k.frame.base))
      (last-of (number p.frame.selector) (number-part 4 p.frame.selector (four-digits p.frame.selector k.frame.selector))));
  gives = plain-place p k ∙ placed-to (codes "S") (in_words (codes "S" ∷ number p.address ∷ number p.frame.base ∷ number p.frame.selector ∷ [])) p (record {
    address = number p.address;
    base = number p.frame.base;
    selector = number p.frame.selector;
    words = refl;
    is_address = eight-digits p.address k.address;
    is_base = eight-digits p.frame.base k.frame.base;
    is_selector = four-digits p.frame.selector k.frame.selector;
  });
}

same-frame : (o : Option Frame) (f : Frame) → is_same_frame o f ≡ true → o ≡ Some f
same-frame None f h = absurd (false≢true h)
same-frame (Some g) f h =
    let k = and_parts (g.base == f.base) (g.selector == f.selector) h in
    ap₂ (λ b s. Some (record { base = b; selector = s })) (eqb-true g.base f.base k.0) (eqb-true g.selector f.selector k.1)

abbrev at_address : ℕ → Frame → Placed
at_address a f = record { address = a; frame = f }

real-place : (p : Placed) → IsShortPlace p → is_same_frame (real_frame p.address) p.frame ≡ true → IsPlace (in_words (number p.address ∷ codes "real" ∷ [])) p
real-place p k h = record {
  words = number p.address ∷ codes "real" ∷ [];
  are = and-more (number p.address) _ _ (number-part 8 p.address (eight-digits p.address k.address)) (last-of (codes "real") real-part);
  gives = ap real_of (plain-eight p.address k.address) ∙ ap (option_and_then (λ a. option_map (at_address a) (real_frame a))) (hexadecimal-to 8 (number p.address) p.address (eight-digits p.address k.address))
      ∙ ap (option_map (at_address p.address)) (same-frame (real_frame p.address) p.frame h);
}

place-is : (frames : Frames) (p : Placed) → IsShortPlace p → IsPlace (own_place frames p) p
place-is Real p k = cond_both (is_same_frame (real_frame p.address) p.frame) (in_words (number p.address ∷ codes "real" ∷ [])) (full_place p) (λ t. IsPlace t p) (real-place p k) (λ e. full-place p k)
place-is (Flat selector) p k = full-place p k

-- Words that give an entry a place or a frame, of its own or a shared one.
record AreGiven (say : List (List ℕ) → Option Given) (text : List ℕ) (t : Given) : Type 0 where
  pub words : List (List ℕ)
  pub are : AreWords text words
  pub gives : say words ≡ Some t

place-given : (frames : Frames) (shared : Bool) (p : Placed) → IsShortPlace p → AreGiven segment_in (place_text frames shared p) (segment_told shared p)
place-given frames true p k = record {
  words = number p.address ∷ codes "shared" ∷ [];
  are = and-more (number p.address) _ _ (number-part 8 p.address (eight-digits p.address k.address)) (last-of (codes "shared") shared-part);
  gives = ap (λ o. told_or o (stored_place (number p.address ∷ codes "shared" ∷ [])))
      (ap (λ a. option_map SharedPlace (hexadecimal 8 a)) (plain-eight p.address k.address) ∙ ap (option_map SharedPlace) (hexadecimal-to 8 (number p.address) p.address (eight-digits p.address k.address)));
}
place-given frames false p k =
    let is = place-is frames p k in
    record { words = is.words; are = is.are; gives = ap (λ o. told_or (own_or (option_map SegmentPlace o) (shared_place is.words)) (stored_place is.words)) is.gives }

abbrev in_frame : ℕ → ℕ → Frame
in_frame b s = record { base = b; selector = s }

frame-words : (f : Frame) → IsShortFrame f → AreWords (in_words (number f.base ∷ number f.selector ∷ [])) (number f.base ∷ number f.selector ∷ [])
frame-words f k = and-more (number f.base) _ _ (number-part 8 f.base (eight-digits f.base k.base)) (last-of (number f.selector) (number-part 4 f.selector (four-digits f.selector k.selector)))

frame-gives : (f : Frame) → IsShortFrame f → frame_in (number f.base ∷ number f.selector ∷ []) ≡ Some (Some f)
frame-gives f k =
    ap₂ (λ b s. option_map Some (frame_of b s)) (plain-eight f.base k.base) (plain-four f.selector k.selector) ∙ ap (option_map Some) (ap (option_and_then (λ b. option_map (in_frame b) (hexadecimal 4 (number f.selector)))) (hexadecimal-to 8 (number f.base) f.base (eight-digits f.base k.base))
    ∙ ap (option_map (in_frame f.base)) (hexadecimal-to 4 (number f.selector) f.selector (four-digits f.selector k.selector)))

frame-given : (shared : Bool) (f : Frame) → IsShortFrame f → AreGiven group_in (frame_text shared f) (group_told shared f)
frame-given true f k = record { words = codes "shared" ∷ []; are = last-of (codes "shared") shared-part; gives = refl }
frame-given false f k =
    let ws : List (List ℕ) = number f.base ∷ number f.selector ∷ [] in
    record { words = ws; are = frame-words f k; gives = ap (λ o. own_or (option_map GroupFrame o) (shared_word ws)) (frame-gives f k) }

-- ---- keys

m-letter : IsLetter 77
m-letter = record { says = refl; plain = refl; quoteless = refl; spaceless = refl; mark = refl }

s-letter : IsLetter 83
s-letter = record { says = refl; plain = refl; quoteless = refl; spaceless = refl; mark = refl }

g-letter : IsLetter 71
g-letter = record { says = refl; plain = refl; quoteless = refl; spaceless = refl; mark = refl }

spelled-is : (o : Option (List ℕ)) → IsName (spelled o)
spelled-is None = no-name
spelled-is (Some name) = spelled-name name

form-key : (m : List Rec) (kind : Kind) (k : KeyForm) (i : ℕ) → i < 2 ^ 32 → IsKey (key_of m kind k i)
form-key m kind form.Name i h = spelled-is (entry_name m kind i)
form-key m kind form.OfClass i h = (spelled-is (entry_name m kind i), spelled-is (class_of m kind i))
form-key m kind form.Number i h = h

form-printed : (m : List Rec) (kind : Kind) (k : KeyForm) (i : ℕ) → Passes is_printed (key_words (key_of m kind k i))
form-printed m kind form.Name i = in-quotes _ (spelled-is (entry_name m kind i))
form-printed m kind form.OfClass i = both-pass is_printed (34 ∷ spelled (entry_name m kind i) ++ 34 ∷ []) (32 ∷ (34 ∷ spelled (class_of m kind i) ++ 34 ∷ [])) (in-quotes _ (spelled-is (entry_name m kind i))) (in-quotes _ (spelled-is (class_of m kind i)))
form-printed m kind form.Number i = glyphs-printed (decimal i) (glyphs-decimal i)

abbrev key : List Rec → Kind → ℕ → Key
key m kind i = key_of m kind (key_form m kind i) i

module-key : (b : Bool) (j : ℕ) (m : List Rec) → j + 1 < 2 ^ 32 → IsKey (module_key_by b j m)
module-key true j m h = h
module-key false j m h = spelled-name (module_name m)

module-printed : (b : Bool) (j : ℕ) (m : List Rec) → Passes is_printed (key_words (module_key_by b j m))
module-printed true j m = glyphs-printed (decimal (j + 1)) (glyphs-decimal (j + 1))
module-printed false j m = in-quotes _ (spelled-name (module_name m))

-- ---- lines

abbrev pub Told : List ℕ → List LinkEntry → Type 0
Told text es = SpellsLines link_entry_on text es

opening-told : (ms : List (List Rec)) (j : ℕ) (m : List Rec) → j + 1 < 2 ^ 32 → Told (opening_line ms j m) (Opens (module_key ms j m) ∷ [])
opening-told ms j m h =
    let again = is_repeated (module_texts ms) (quoted (module_name m)) in
    one-line link_entry_on (opening_line ms j m) (Opens (module_key ms j m)) (record {
      body = 77 ∷ 32 ∷ key_words (module_key_by again j m);
      is = refl;
      unbroken = module-printed again j m;
      says = key-alone 77 m-letter (module_key_by again j m) (module-key again j m h);
    })

printed-named : (table : List (List ℕ)) (i : ℕ) → Passes is_printed (named table i)
printed-named table i = by (entry table i) where
  by : (o : Option (List ℕ)) → Passes is_printed (unwrap_or (option_map quoted o) (codes "-"))
  by None = refl
  by (Some cs) = printed-quoted cs

printed-alignment : (absolute : Option (ℕ × ℕ)) (a : Alignment) → Passes is_printed (alignment_text absolute a)
printed-alignment None a = both-pass is_printed (codes "align ") (decimal (bytes_aligned a)) refl (printed-decimal (bytes_aligned a))
printed-alignment (Some p) a = refl

printed-comment : (m : List Rec) (s : SegInfo) (a : Alignment) → Passes is_printed (segment_comment m s a)
printed-comment m s a =
    let name = named (names m) s.class in
    let room = alignment_text s.absolute a in
    both-pass is_printed (codes "class " ++ name ++ 32 ∷ room ++ codes " length ") (decimal s.length)
    (both-pass is_printed (codes "class " ++ name ++ 32 ∷ room) (codes " length ")
    (both-pass is_printed (codes "class " ++ name) (32 ∷ room) (both-pass is_printed (codes "class ") name refl (printed-named (names m) s.class)) (printed-alignment s.absolute a)) refl)
    (printed-decimal s.length)

segment-is-line : (frames : Frames) (shares : ℕ → Frame → Bool) (m : List Rec) (s : ℕ × ((SegInfo × Alignment) × Placed)) → s.0 < 2 ^ 32 → IsShortPlace s.1.1 → IsLineOf link_entry_on (segment_line frames shares m s) (Gives (key m kinds.Segment s.0) (segment_told (shares s.0 s.1.1.frame) s.1.1))
segment-is-line frames shares m s low short =
    let k = key m kinds.Segment s.0 in
    let shared = shares s.0 s.1.1.frame in
    let place = place_text frames shared s.1.1 in
    let is = place-given frames shared s.1.1 short in
    let comment = segment_comment m s.1.0.0 s.1.0.1 in
    let tail : List ℕ = codes " ; " ++ comment in
    let shape : (key_words k ++ (32 ∷ place)) ++ codes " ; " ++ comment ≡ key_words k ++ (32 ∷ (place ++ tail))
    = append_assoc (key_words k ++ (32 ∷ place)) (codes " ; ") comment ∙ append_assoc (key_words k) (32 ∷ place) tail in
    record {
      body = 83 ∷ 32 ∷ (key_words k ++ (32 ∷ (place ++ tail)));
      is = ap (λ t. codes "S " ++ t ++ 32 ∷ place ++ codes " ; " ++ comment ++ 10 ∷ []) (keys-written m kinds.Segment s.0) ∙ ap (λ t. (83 ∷ 32 ∷ t) ++ 10 ∷ []) shape;
      unbroken = both-pass is_printed (key_words k) (32 ∷ (place ++ tail)) (form-printed m kinds.Segment (key_form m kinds.Segment s.0) s.0)
          (both-pass is_printed place tail is.are.tight.printed (printed-comment m s.1.0.0 s.1.0.1));
      says = key-words 83 s-letter k place tail is.words (form-key m kinds.Segment (key_form m kinds.Segment s.0) s.0 low) is.are (comment-end comment)
          ∙ ap (option_map (Gives k)) is.gives;
    }

group-is-line : (shares : ℕ → Frame → Bool) (m : List Rec) (g : ℕ × Frame) → g.0 < 2 ^ 32 → IsShortFrame g.1 → IsLineOf link_entry_on (group_line shares m g) (Gives (key m kinds.Group g.0) (group_told (shares g.0 g.1) g.1))
group-is-line shares m g low short =
    let k = key m kinds.Group g.0 in
    let shared = shares g.0 g.1 in
    let frame = frame_text shared g.1 in
    let is = frame-given shared g.1 short in
    record {
      body = 71 ∷ 32 ∷ (key_words k ++ (32 ∷ frame));
      is = ap (λ t. codes "G " ++ t ++ 32 ∷ frame ++ 10 ∷ []) (keys-written m kinds.Group g.0);
      unbroken = both-pass is_printed (key_words k) (32 ∷ frame) (form-printed m kinds.Group (key_form m kinds.Group g.0) g.0) is.are.tight.printed;
      says = ap (λ t. link_entry_on (71 ∷ 32 ∷ (key_words k ++ (32 ∷ t)))) (sym (append-nil frame))
          ∙ key-words 71 g-letter k frame [] is.words (form-key m kinds.Group (key_form m kinds.Group g.0) g.0 low) is.are no-end
          ∙ ap (option_map (Gives k)) is.gives;
    }

wanted-is-line : (m : List Rec) (i : ℕ) (room : Option ℕ) → IsLineOf link_entry_on (wanted_line_by m (key_form m kinds.External i) i room) Blank
wanted-is-line m i room =
    let kt = key_text m kinds.External (key_form m kinds.External i) i in
    let printed : Passes is_printed kt = subst (Passes is_printed) (sym (keys-written m kinds.External i)) (form-printed m kinds.External (key_form m kinds.External i) i) in
    record {
      body = codes "; X " ++ kt ++ codes " address base selector ; " ++ room_text room;
      is = refl;
      unbroken = both-pass is_printed (codes "; X " ++ kt ++ codes " address base selector ; ") (room_text room)
          (both-pass is_printed (codes "; X " ++ kt) (codes " address base selector ; ") (both-pass is_printed (codes "; X ") kt refl printed) refl) (printed-room room);
      says = comment-read (codes " X " ++ kt ++ codes " address base selector ; " ++ room_text room);
    }

-- ---- the lines of tables

-- A text of comments.
record AreBlank (text : List ℕ) : Type 0 where
  pub count : ℕ
  pub told : Told text (blanks count)

more-blanks : (c d : ℕ) → blanks c ++ blanks d ≡ blanks (c + d)
more-blanks zero d = ap blanks (omega arith)
more-blanks (suc c) d = let e : suc (c + d) ≡ suc c + d = omega arith in ap (λ xs. Blank ∷ xs) (more-blanks c d) ∙ ap blanks e

both-blank : (a b : List ℕ) → AreBlank a → AreBlank b → AreBlank (a ++ b)
both-blank a b h k = record { count = h.count + k.count; told = subst (Told (a ++ b)) (more-blanks h.count k.count) (more-lines link_entry_on a b (blanks h.count) (blanks k.count) h.told k.told) }

wanted-or-none : (b : Bool) (m : List Rec) (i : ℕ) (room : Option ℕ) → AreBlank (if b then [] else wanted_line_by m (key_form m kinds.External i) i room)
wanted-or-none true m i room = record { count = 0; told = no-lines link_entry_on }
wanted-or-none false m i room = record { count = 1; told = one-line link_entry_on (wanted_line_by m (key_form m kinds.External i) i room) Blank (wanted-is-line m i room) }

blank-wanted : (among : Bool → List (List ℕ)) (m : List Rec) (es : List (ℕ × ((List ℕ × Bool) × Option ℕ))) → AreBlank (flat_map (external_text among m) es)
blank-wanted among m [] = record { count = 0; told = no-lines link_entry_on }
blank-wanted among m (e ∷ es) =
    both-blank (external_text among m e) (flat_map (external_text among m) es) (wanted-or-none (has_name (among e.1.0.1) e.1.0.0) m e.0 e.1.1) (blank-wanted among m es)

-- the entries of the lines of a table, by the second of two lists
second-of : {A B : Type 0} (say : ℕ → B → LinkEntry) (j : ℕ) (xs : List A) (ys : List B) → length ys ≡ length xs → map (λ s. say s.0 s.1.1) (enumerate_from j (zip xs ys)) ≡ map (λ y. say y.0 y.1) (enumerate_from j ys)
second-of say j [] [] h = refl
second-of say j [] (y ∷ ys) h = absurd (omega (arith, h))
second-of say j (x ∷ xs) [] h = absurd (omega (arith, h))
second-of say j (x ∷ xs) (y ∷ ys) h = ap (λ es. say j y ∷ es) (second-of say (j + 1) xs ys (omega (arith, h)))

length-pairs : {A B : Type 0} (xs : List A) (ys : List B) → length ys ≡ length xs → length (zip xs ys) ≡ length xs
length-pairs [] ys h = refl
length-pairs (x ∷ xs) [] h = absurd (omega (arith, h))
length-pairs (x ∷ xs) (y ∷ ys) h = ap suc (length-pairs xs ys (omega (arith, h)))

-- what holds of each value holds of each numbered one
all-pairs : {A B : Type 0} (P : B → Type 0) (Q : ℕ × (A × B) → Type 0) (n : ℕ) → ((s : ℕ × (A × B)) → s.0 < n → P s.1.1 → Q s) → (j : ℕ) (xs : List A) (ys : List B) → j + length ys ≤ n → All P ys → All Q (enumerate_from j (zip xs ys))
all-pairs P Q n f j [] ys low h = All-nil Q
all-pairs P Q n f j (x ∷ xs) [] low h = All-nil Q
all-pairs P Q n f j (x ∷ xs) (y ∷ ys) low h =
    All-cons Q (j, (x, y)) (enumerate_from (j + 1) (zip xs ys)) (f (j, (x, y)) (omega (arith, low)) (All-head P y ys h)) (all-pairs P Q n f (j + 1) xs ys (omega (arith, low)) (All-tail P y ys h))

all-numbered : {B : Type 0} (P : B → Type 0) (Q : ℕ × B → Type 0) (n : ℕ) → ((s : ℕ × B) → s.0 < n → P s.1 → Q s) → (j : ℕ) (ys : List B) → j + length ys ≤ n → All P ys → All Q (enumerate_from j ys)
all-numbered P Q n f j [] low h = All-nil Q
all-numbered P Q n f j (y ∷ ys) low h =
    All-cons Q (j, y) (enumerate_from (j + 1) ys) (f (j, y) (omega (arith, low)) (All-head P y ys h)) (all-numbered P Q n f (j + 1) ys (omega (arith, low)) (All-tail P y ys h))

told-segments : (sh : ℕ → List Rec → Sharing) (all : List (List Rec)) (j c : ℕ) (frames : Frames) (m : List Rec) (xs : List Placed) → length xs ≡ length (segments m) → length (segments m) < 2 ^ 32 → All IsShortPlace xs → Told (segment_lines frames (sh j m).segment m xs) (segment_lines_of (labels sh all j m c) 1 xs)
told-segments sh all j c frames m xs count few short =
    let shares = (sh j m).segment in
    let told : List (SegInfo × Alignment) = zip (segments m) (alignments m) in
    let say : ℕ → Placed → LinkEntry = λ i p. Gives (key m kinds.Segment i) (segment_told (shares i p.frame) p) in
    subst (Told (segment_lines frames shares m xs)) (second-of say 1 told xs (count ∙ sym (length-pairs (segments m) (alignments m) (length-alignments m))))
    (each-line link_entry_on (segment_line frames shares m) (λ s. say s.0 s.1.1) (enumerate_from 1 (zip told xs))
    (all-pairs IsShortPlace (λ s. IsLineOf link_entry_on (segment_line frames shares m s) (say s.0 s.1.1)) (2 ^ 32) (segment-is-line frames shares m) 1 told xs (omega (arith, count, few)) short))

told-groups : (sh : ℕ → List Rec → Sharing) (all : List (List Rec)) (j c : ℕ) (m : List Rec) (fs : List Frame) → length fs ≡ length (groups m) → length (groups m) < 2 ^ 32 → All IsShortFrame fs → Told (group_lines (sh j m).group m fs) (group_lines_of (labels sh all j m c) 1 fs)
told-groups sh all j c m fs count few short =
    let shares = (sh j m).group in
    let say : ℕ × Frame → LinkEntry = λ g. Gives (key m kinds.Group g.0) (group_told (shares g.0 g.1) g.1) in
    each-line link_entry_on (group_line shares m) say (enumerate_from 1 fs)
    (all-numbered IsShortFrame (λ g. IsLineOf link_entry_on (group_line shares m g) (say g)) (2 ^ 32) (group-is-line shares m) 1 fs (omega (arith, count, few)) short)

-- ---- the lines of a module

pub record IsToldModule (sh : ℕ → List Rec → Sharing) (all : List (List Rec)) (j : ℕ) (m : List Rec) (pl : Places) (text : List ℕ) : Type 0 where
  pub count : ℕ
  pub told : Told text (module_lines (labels sh all j m count) pl)

pub module-is-told : (frames : Frames) (all : List (List Rec)) (whole : List Places) (j : ℕ) (m : List Rec) (pl : Places) → j + 1 < 2 ^ 32 → HasEntries m pl → HasFew m → AreShort pl → IsToldModule (sharing_of all whole) all j m pl (module_text frames all whole (j, (m, pl)))
module-is-told frames all whole j m pl low has few short =
    let sh : ℕ → List Rec → Sharing = sharing_of all whole in
    let among = seen_names all m in
    let a = opening_line all j m in
    let b = segment_lines frames (sh j m).segment m pl.segments in
    let g = group_lines (sh j m).group m pl.groups in
    let w = wanted_lines among m in
    let left = blank-wanted among m (enumerate_from 1 (zip (named_externals m) (rooms m))) in
    let segs = segment_lines_of (labels sh all j m left.count) 1 pl.segments in
    let grps = group_lines_of (labels sh all j m left.count) 1 pl.groups in
    let placed = more-lines link_entry_on b g segs grps (told-segments sh all j left.count frames m pl.segments has.segments few.segments short.segments) (told-groups sh all j left.count m pl.groups has.groups few.groups short.groups) in
    let part : Told (b ++ g ++ w) (segs ++ (grps ++ blanks left.count)) = subst (Told (b ++ g ++ w)) (append_assoc segs grps (blanks left.count)) (more-lines link_entry_on (b ++ g) w (segs ++ grps) (blanks left.count) placed left.told) in
    record {
      count = left.count;
      told = more-lines link_entry_on a (b ++ g ++ w) (Opens (module_key all j m) ∷ []) (segs ++ (grps ++ blanks left.count)) (opening-told all j m low) part;
    }
