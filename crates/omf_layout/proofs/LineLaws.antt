-- The lines of a draft, each an entry with a comment.
use Rattle.std.proofs.Common.{◌≡◌, ℕ, true, ◌==◌, List, [], ◌∷◌, ◌++◌, refl, ap, ap₂, ◌∙◌, arith, codes, inl, inr}
use Rattle.std.specs.Prelude.{Option, Some, None, unwrap_or, option_map, decimal}
use Rattle.std.proofs.lemmas.Bool.{cond_both, and_from, and_parts, eqb-true, false≢true}
use Rattle.omf_records.specs.Values.{Rec, GroupItem}
use Rattle.omf_check.specs.Tables.{names, entry}
use Rattle.omf_check.specs.declared.segment.SegInfo.{SegInfo}
use Rattle.omf_placement.specs.declared.frame.Frame.{Frame}
use Rattle.omf_placement.specs.declared.frame.Placed.{Placed}
use Rattle.omf_placement.specs.Entries.{Entry, SegmentEntry, GroupEntry, ExternalEntry, IsHexadecimal, SpellsPlaced, Spells, in_words, said}
use Rattle.omf_placement.specs.Inner.EntryReading.{entry_said}
use Rattle.omf_placement.specs.Placement.{real_frame, real_group}
use Rattle.omf_placement.proofs.EntryLaws.{entry-to}
use Rattle.omf_layout.specs.declared.alignment.Alignment.{Alignment}
use Rattle.omf_layout.specs.declared.options.Frames.{Frames}
use Rattle.omf_layout.specs.declared.options.Frames.TheVariants.{Real, Flat}
use Rattle.omf_layout.specs.Draft.{line, placed_entry, is_same_frame, segment_entry, alignment_text, segment_comment, segment_line, frame_entry, frame_or_real, group_entry, group_line, room_text, external_line}
use Rattle.omf_placement.specs.Quoted.{number, quoted, named}
use Rattle.omf_layout.specs.Reading.{IsShortFrame, IsShortPlace, unless_by_members, frame_given}
use Rattle.omf_layout.specs.Wants.{bytes_aligned}
use Rattle.omf_text.proofs.DigitLaws.{is_mark, eight-digits, four-digits, marks-number}
use Rattle.omf_layout.proofs.TextLaws.{IsLineOf}
use Rattle.omf_layout.proofs.SaidLaws.{IsWord, IsTight, tight-word, tight-two, is-said}
use Rattle.omf_text.proofs.PrintedLaws.{Passes, both-pass, is_printed, printed-decimal, printed-quoted}

-- Comments have printed bytes only, since each of their fields has.
abbrev pub ArePrinted : List (List ℕ) → Type 0
ArePrinted [] = Unit {0}
ArePrinted (w ∷ ws) = Passes is_printed w × ArePrinted ws

pub printed-words : (ws : List (List ℕ)) → ArePrinted ws → Passes is_printed (in_words ws)
printed-words [] h = refl
printed-words (w ∷ []) h = h.0
printed-words (w ∷ v ∷ ws) h = both-pass is_printed w (32 ∷ in_words (v ∷ ws)) h.0 (printed-words (v ∷ ws) h.1)

printed-named : (table : List (List ℕ)) (i : ℕ) → Passes is_printed (named table i)
printed-named table i = by (entry table i) where
  by : (o : Option (List ℕ)) → Passes is_printed (unwrap_or (option_map quoted o) (codes "-"))
  by None = refl
  by (Some cs) = printed-quoted cs

printed-alignment : (absolute : Option (ℕ × ℕ)) (a : Alignment) → Passes is_printed (alignment_text absolute a)
printed-alignment None a = both-pass is_printed (codes "align ") (decimal (bytes_aligned a)) refl (printed-decimal (bytes_aligned a))
printed-alignment (Some p) a = refl

pub printed-room : (room : Option ℕ) → Passes is_printed (room_text room)
printed-room None = refl
printed-room (Some size) = both-pass is_printed (codes "communal length ") (decimal size) refl (printed-decimal size)

-- A line of a placement text.
abbrev pub entry_read : List ℕ → Option Entry
entry_read text = entry_said (said text)

abbrev pub IsLine : List ℕ → Entry → Type 0
IsLine text e = IsLineOf entry_read text e

line-of : (text : List ℕ) (comment : List (List ℕ)) (e : Entry) → IsTight text → Spells text e → ArePrinted comment → IsLine (line text comment) e
line-of text comment e tight spells printed = record {
  body = text ++ codes " ; " ++ in_words comment;
  is = refl;
  unbroken = both-pass is_printed (text ++ codes " ; ") (in_words comment) (both-pass is_printed text (codes " ; ") tight.printed refl) (printed-words comment printed);
  says = ap entry_said (is-said text (in_words comment) tight) ∙ entry-to text e spells;
}

-- Entries.
number-word : (most n : ℕ) → IsHexadecimal most (number n) n → IsWord (number n)
number-word most n h = record { some = h.numeral.0; marks = marks-number n }

letter-word : (c : ℕ) → is_mark c ≡ true → IsWord (c ∷ [])
letter-word c h = record { some = omega arith; marks = and_from (is_mark c) true h refl }

tight-frame : (letter : List ℕ) (f : Frame) → IsTight letter → IsShortFrame f → IsTight (in_words (letter ∷ number f.base ∷ number f.selector ∷ []))
tight-frame letter f h k = tight-two letter (in_words (number f.base ∷ number f.selector ∷ [])) h
    (tight-two (number f.base) (number f.selector) (tight-word (number f.base) (number-word 8 f.base (eight-digits f.base k.base))) (tight-word (number f.selector) (number-word 4 f.selector (four-digits f.selector k.selector))))

tight-placed : (c : ℕ) (p : Placed) → is_mark c ≡ true → IsShortPlace p → IsTight (placed_entry (c ∷ []) p)
tight-placed c p h k = tight-two (c ∷ []) (in_words (number p.address ∷ number p.frame.base ∷ number p.frame.selector ∷ []))
    (tight-word (c ∷ []) (letter-word c h))
    (tight-frame (number p.address) p.frame (tight-word (number p.address) (number-word 8 p.address (eight-digits p.address k.address))) k.frame)

spells-placed : (letter : List ℕ) (p : Placed) → IsShortPlace p → SpellsPlaced letter (placed_entry letter p) p
spells-placed letter p k = record {
  address = number p.address;
  base = number p.frame.base;
  selector = number p.frame.selector;
  words = refl;
  is_address = eight-digits p.address k.address;
  is_base = eight-digits p.frame.base k.frame.base;
  is_selector = four-digits p.frame.selector k.frame.selector;
}

-- A segment's entry.
record IsEntry (text : List ℕ) (e : Entry) : Type 0 where
  pub tight : IsTight text
  pub spells : Spells text e

placed-segment : (p : Placed) → IsShortPlace p → IsEntry (placed_entry (codes "S") p) (SegmentEntry p)
placed-segment p k = record { tight = tight-placed 83 p refl k; spells = inl (spells-placed (codes "S") p k) }

same-frame : (o : Option Frame) (f : Frame) → is_same_frame o f ≡ true → o ≡ Some f
same-frame None f h = absurd (false≢true h)
same-frame (Some g) f h =
    let k = and_parts (g.base == f.base) (g.selector == f.selector) h in
    ap₂ (λ b s. Some (record { base = b; selector = s })) (eqb-true g.base f.base k.0) (eqb-true g.selector f.selector k.1)

real-segment : (p : Placed) → IsShortPlace p → is_same_frame (real_frame p.address) p.frame ≡ true → IsEntry (in_words (codes "S" ∷ number p.address ∷ codes "real" ∷ [])) (SegmentEntry p)
real-segment p k h = record {
  tight = tight-two (codes "S") (in_words (number p.address ∷ codes "real" ∷ [])) (tight-word (codes "S") (letter-word 83 refl))
      (tight-two (number p.address) (codes "real") (tight-word (number p.address) (number-word 8 p.address (eight-digits p.address k.address))) (tight-word (codes "real") (record { some = omega arith; marks = refl })));
  spells = inr (record { address = number p.address; words = refl; is_address = eight-digits p.address k.address; frame = same-frame (real_frame p.address) p.frame h });
}

segment-entry : (frames : Frames) (p : Placed) → IsShortPlace p → IsEntry (segment_entry frames p) (SegmentEntry p)
segment-entry Real p k = cond_both (is_same_frame (real_frame p.address) p.frame) (in_words (codes "S" ∷ number p.address ∷ codes "real" ∷ [])) (placed_entry (codes "S") p) (λ t. IsEntry t (SegmentEntry p))
    (real-segment p k) (λ e. placed-segment p k)
segment-entry (Flat selector) p k = placed-segment p k

pub segment-is-line : (frames : Frames) (m : List Rec) (s : ℕ × ((SegInfo × Alignment) × Placed)) → IsShortPlace s.1.1 → IsLine (segment_line frames m s) (SegmentEntry s.1.1)
segment-is-line frames m s k =
    let is = segment-entry frames s.1.1 k in
    line-of (segment_entry frames s.1.1) (segment_comment m s.0 s.1.0.0 s.1.0.1) (SegmentEntry s.1.1) is.tight is.spells
    (printed-decimal s.0, (printed-named (names m) s.1.0.0.name, (refl, (printed-named (names m) s.1.0.0.class, (printed-alignment s.1.0.0.absolute s.1.0.1, (refl, (printed-decimal s.1.0.0.length, tt)))))))

-- A group's entry.
given-frame : (f : Frame) → IsShortFrame f → IsEntry (frame_entry f) (GroupEntry (Some f))
given-frame f k = record {
  tight = tight-frame (codes "G") f (tight-word (codes "G") (letter-word 71 refl)) k;
  spells = record { base = number f.base; selector = number f.selector; words = refl; is_base = eight-digits f.base k.base; is_selector = four-digits f.selector k.selector };
}

by-members : IsEntry (codes "G real") (GroupEntry None)
by-members = record {
  tight = tight-two (codes "G") (codes "real") (tight-word (codes "G") (letter-word 71 refl)) (tight-word (codes "real") (record { some = omega arith; marks = refl }));
  spells = refl;
}

frame-or-real : (o : Option Frame) (f : Frame) → IsShortFrame f → IsEntry (frame_or_real o f) (GroupEntry (unless_by_members o f))
frame-or-real None f k = given-frame f k
frame-or-real (Some g) f k = by-members

group-entry : (frames : Frames) (m : List Rec) (xs : List Placed) (i : ℕ) (f : Frame) → IsShortFrame f → IsEntry (group_entry frames m xs i f) (GroupEntry (frame_given frames m xs (i, f)))
group-entry Real m xs i f k = frame-or-real (real_group m xs i) f k
group-entry (Flat selector) m xs i f k = given-frame f k

pub group-is-line : (frames : Frames) (m : List Rec) (xs : List Placed) (g : ℕ × (GroupItem × Frame)) → IsShortFrame g.1.1 → IsLine (group_line frames m xs g) (GroupEntry (frame_given frames m xs (g.0, g.1.1)))
group-is-line frames m xs g k =
    let is = group-entry frames m xs g.0 g.1.1 k in
    line-of (group_entry frames m xs g.0 g.1.1) (decimal g.0 ∷ named (names m) g.1.0.name.item ∷ []) (GroupEntry (frame_given frames m xs (g.0, g.1.1))) is.tight is.spells
    (printed-decimal g.0, (printed-named (names m) g.1.0.name.item, tt))

-- An external's.
pub external-is-line : (e : ℕ × ((List ℕ × Option ℕ) × Placed)) → IsShortPlace e.1.1 → IsLine (external_line e) (ExternalEntry e.1.1)
external-is-line e k = line-of (placed_entry (codes "E") e.1.1) (decimal e.0 ∷ quoted e.1.0.0 ∷ room_text e.1.0.1 ∷ []) (ExternalEntry e.1.1)
    (tight-placed 69 e.1.1 refl k) (spells-placed (codes "E") e.1.1 k)
    (printed-decimal e.0, (printed-quoted e.1.0.0, (printed-room e.1.0.1, tt)))
