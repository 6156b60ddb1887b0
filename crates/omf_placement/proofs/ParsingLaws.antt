-- A placement text, line by line.
use Rattle.std.proofs.Common.{◌≡◌, ℕ, ◌+◌, true, List, [], ◌∷◌, ◌++◌, length, append_assoc, append-nil, refl, sym, ap, ◌∙◌, arith}
use Rattle.std.specs.Prelude.{map, filter_map, is_some, Option, Some, None, option_map, Ok, Err, IsOk, ◌==◌}
use Rattle.std.specs.List.{enumerate_from, slice_split}
use Rattle.std.proofs.lemmas.List.Splits.{length-slice_split}
use Rattle.omf_placement.specs.Inner.Names.{bad_lines, bad_line}
use Rattle.omf_placement.specs.Entries.{Entry, Blank, SegmentEntry, GroupEntry, ExternalEntry, said}
use Rattle.omf_placement.specs.Inner.EntryReading.{entry_of_words, words_of, entry_said}
use Rattle.omf_placement.specs.PlacementText.{Draft, line_entries, segment_entry, group_entry, external_entry, parsed}
use Rattle.omf_placement.specs.Inner.Parsing.{parts_after, with_entry}

-- five words or more are no entry
many_words : (w x y z : List ℕ) (more : List (List ℕ)) (n : ℕ) → length more ≡ n + 1 → entry_of_words (w ∷ x ∷ y ∷ z ∷ more) ≡ None
many_words w x y z [] n e = absurd (omega arith)
many_words w x y z (v ∷ more) n e = refl

some_parts : {A : Type 0} (f : A → List ℕ) (w x y z : List ℕ) (more : Option A) → is_some more ≡ true → entry_of_words (w ∷ x ∷ y ∷ z ∷ parts_after 32 (option_map f more)) ≡ None
some_parts f w x y z None e = cc
some_parts f w x y z (Some t) e = many_words w x y z (slice_split (λ c. c == 32) (f t)) _ (length-slice_split (λ c. c == 32) (f t))

pub too_many_words : {A : Type 0} (f : A → List ℕ) (text second third fourth w x y z : List ℕ) (more : Option A) → words_of text ≡ w ∷ words_of second → words_of second ≡ x ∷ words_of third → words_of third ≡ y ∷ words_of fourth → words_of fourth ≡ z ∷ parts_after 32 (option_map f more) → is_some more ≡ true → None ≡ entry_said text
too_many_words f text second third fourth w x y z more a b d e s = sym (ap entry_of_words (a ∙ ap (λ t. w ∷ t) (b ∙ ap (λ t. x ∷ t) (d ∙ ap (λ t. y ∷ t) e))) ∙ some_parts f w x y z more s)

-- the entries of lines, numbered from n
abbrev pub entries_from : ℕ → List (List ℕ) → List (ℕ × Option Entry)
entries_from n lines = map (λ l. (l.0, entry_said (said l.1))) (enumerate_from n lines)

-- A text's entries are those of a draft and those of the remaining lines.
pub record IsRead (text : List ℕ) (d : Draft) (left : List (ℕ × Option Entry)) : Type 0 where
  pub segments : filter_map segment_entry (line_entries text) ≡ d.segments ++ filter_map segment_entry left
  pub groups : filter_map group_entry (line_entries text) ≡ d.groups ++ filter_map group_entry left
  pub externals : filter_map external_entry (line_entries text) ≡ d.externals ++ filter_map external_entry left

-- All lines at fault are among the remaining lines.
abbrev pub IsSound : List ℕ → List (ℕ × Option Entry) → Type 0
IsSound text left = bad_lines text ≡ filter_map bad_line left

one_more : (text : List ℕ) (d : Draft) (n : ℕ) (e : Entry) (left : List (ℕ × Option Entry)) → IsRead text d ((n, Some e) ∷ left) → IsRead text (with_entry d n e) left
one_more text d n Blank left h = record { segments = h.segments; groups = h.groups; externals = h.externals }
one_more text d n (SegmentEntry p) left h = record { segments = h.segments ∙ sym (append_assoc d.segments (p ∷ []) (filter_map segment_entry left)); groups = h.groups; externals = h.externals }
one_more text d n (GroupEntry f) left h = record { segments = h.segments; groups = h.groups ∙ sym (append_assoc d.groups ((n, f) ∷ []) (filter_map group_entry left)); externals = h.externals }
one_more text d n (ExternalEntry p) left h = record { segments = h.segments; groups = h.groups; externals = h.externals ∙ sym (append_assoc d.externals (p ∷ []) (filter_map external_entry left)) }

pub line_read : (text : List ℕ) (d new : Draft) (n : ℕ) (line : List ℕ) (lines rest : List (List ℕ)) (e : Entry) → IsRead text d (entries_from n lines) → lines ≡ line ∷ rest → Some e ≡ entry_said (said line) → new ≡ with_entry d n e → IsRead text new (entries_from (n + 1) rest)
line_read text d new n line lines rest e h s r w = rw w (one_more text d n e (entries_from (n + 1) rest) (rw (← r) at (rw s at h)))

pub line_sound : (text : List ℕ) (n : ℕ) (line : List ℕ) (lines rest : List (List ℕ)) (e : Entry) → IsSound text (entries_from n lines) → lines ≡ line ∷ rest → Some e ≡ entry_said (said line) → IsSound text (entries_from (n + 1) rest)
line_sound text n line lines rest e h s r = let g = rw s at h in rw (← r) at g

-- a line at fault is the first
pub line_refused : (text : List ℕ) (n : ℕ) (line : List ℕ) (lines rest : List (List ℕ)) → IsSound text (entries_from n lines) → lines ≡ line ∷ rest → None ≡ entry_said (said line) → parsed text ≡ Err n
line_refused text n line lines rest h s r = let g = rw (← r) at (rw s at h) in rw g refl

-- at the end the draft is the text's, and no line is at fault
pub text_read : (text : List ℕ) (d : Draft) (n : ℕ) → IsSound text (entries_from n []) → IsRead text d (entries_from n []) → parsed text ≡ Ok d
text_read text d n s h = rw (s, h.segments, h.groups, h.externals, append-nil d.segments, append-nil d.groups, append-nil d.externals) refl

pub text_sound : (text : List ℕ) (n : ℕ) → IsSound text (entries_from n []) → IsOk (parsed text)
text_sound text n s = rw s refl

-- the length of the remaining text, its end included
abbrev pub left_len : Option (List ℕ) → ℕ
left_len None = 0
left_len (Some text) = length text + 1
