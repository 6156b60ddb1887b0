-- A draft is a placement text, and gives its module the places of the layout.
use Rattle.std.proofs.Common.{◌≡◌, ℕ, zero, suc, ◌+◌, List, [], ◌∷◌, ◌++◌, length, refl, sym, ap, ap₂, subst, ◌∙◌, append_assoc, append-nil, arith}
use Rattle.std.specs.Prelude.{flat_map, filter_map, map, All, Option, Some, None, Ok, unwrap_or}
use Rattle.std.specs.List.{cons_option, enumerate_from, zip, range_with_len}
use Rattle.std.proofs.lemmas.List.{length-map}
use Rattle.std.proofs.lemmas.List.Elements.{All-nil, All-cons, All-head, All-tail, filter_map-append}
use Rattle.omf_records.specs.Values.{Rec, GroupItem}
use Rattle.omf_check.specs.Tables.{segments, groups, externals}
use Rattle.omf_check.specs.declared.segment.SegInfo.{SegInfo}
use Rattle.omf_placement.specs.PlacementText.{unresolved_group, Draft, line_entries, segment_entry, group_entry, external_entry, parsed, resolved, resolved_group}
use Rattle.omf_placement.specs.Inner.Names.{line_unless, ok_or_first}
use Rattle.omf_placement.specs.Inner.Names.{bad_line}
use Rattle.omf_placement.specs.declared.frame.Frame.{Frame}
use Rattle.omf_placement.specs.declared.frame.Placed.{Placed}
use Rattle.omf_placement.specs.Entries.{Entry, Blank, SegmentEntry, GroupEntry, ExternalEntry}
use Rattle.omf_placement.specs.Placement.{Places, real_group}
use Rattle.omf_placement.proofs.ParsingLaws.{entries_from}
use Rattle.omf_layout.specs.declared.alignment.Alignment.{Alignment}
use Rattle.omf_layout.specs.declared.options.Frames.{Frames}
use Rattle.omf_layout.specs.declared.options.Frames.TheVariants.{Real, Flat}
use Rattle.omf_layout.specs.Draft.{segment_line, group_line, external_line, draft_text}
use Rattle.omf_layout.specs.Room.{frame_at}
use Rattle.omf_layout.specs.Layout.{group_frame, group_frames, LaidOut}
use Rattle.omf_layout.specs.Laws.{DraftsAreRead}
use Rattle.omf_layout.specs.Reading.{IsShortFrame, IsShortPlace, AreShort, unless_by_members, frame_given, draft_entries}
use Rattle.omf_layout.proofs.FitLaws.{groups-given, segment-count, group-count, external-count, alignment-count, room-count}
use Rattle.omf_layout.proofs.LineLaws.{entry_read, IsLine, segment-is-line, group-is-line, external-is-line}
use Rattle.omf_layout.proofs.TextLaws.{parts_of, each-line}
use Rattle.omf_placement.proofs.ListLaws.{told_from}

-- ---- lines, one after another

-- The entries of n lines.
abbrev lines_of : {A : Type 0} → (A → Entry) → ℕ → List A → List (ℕ × Option Entry)
lines_of entry n xs = map (λ l. (l.0, Some (entry l.1))) (enumerate_from n xs)

told-lines : {A : Type 0} (entry : A → Entry) (n : ℕ) (xs : List A) → told_from n (map entry xs) ≡ lines_of entry n xs
told-lines entry n [] = refl
told-lines entry n (x ∷ xs) = ap (λ l. (n, Some (entry x)) ∷ l) (told-lines entry (n + 1) xs)

lines-read : {A : Type 0} (f : A → List ℕ) (entry : A → Entry) (xs : List A) (n : ℕ) (rest : List ℕ) → All (λ x. IsLine (f x) (entry x)) xs
    → entries_from n (parts_of (flat_map f xs ++ rest)) ≡ lines_of entry n xs ++ entries_from (n + length xs) (parts_of rest)
lines-read f entry xs n rest h =
    each-line entry_read f entry xs h n rest
    ∙ ap₂ (λ es k. es ++ entries_from k (parts_of rest)) (told-lines entry n xs) (ap (λ k. n + k) (length-map xs entry))

-- Each line of a table's entries is a line of an entry.
pub all-lines : {A B : Type 0} (P : B → Type 0) (Q : ℕ × (A × B) → Type 0) → ((s : ℕ × (A × B)) → P s.1.1 → Q s) → (j : ℕ) (xs : List A) (ys : List B) → All P ys → All Q (enumerate_from j (zip xs ys))
all-lines P Q f j [] ys h = All-nil Q
all-lines P Q f j (x ∷ xs) [] h = All-nil Q
all-lines P Q f j (x ∷ xs) (y ∷ ys) h = All-cons Q (j, (x, y)) (enumerate_from (j + 1) (zip xs ys)) (f (j, (x, y)) (All-head P y ys h)) (all-lines P Q f (j + 1) xs ys (All-tail P y ys h))

-- ---- the entries picked from them

module _ {A C : Type 0} (pick : ℕ × Option Entry → Option C) (entry : A → Entry) where
  picked : (give : ℕ → A → C) → ((n : ℕ) (x : A) → pick (n, Some (entry x)) ≡ Some (give n x)) → (n : ℕ) (xs : List A) → filter_map pick (lines_of entry n xs) ≡ map (λ l. give l.0 l.1) (enumerate_from n xs)
  picked give f n [] = refl
  picked give f n (x ∷ xs) = ap (λ o. cons_option o (filter_map pick (lines_of entry (n + 1) xs))) (f n x) ∙ ap (λ l. give n x ∷ l) (picked give f (n + 1) xs)

  passed : ((n : ℕ) (x : A) → pick (n, Some (entry x)) ≡ None) → (n : ℕ) (xs : List A) → filter_map pick (lines_of entry n xs) ≡ []
  passed f n [] = refl
  passed f n (x ∷ xs) = ap (λ o. cons_option o (filter_map pick (lines_of entry (n + 1) xs))) (f n x) ∙ passed f (n + 1) xs

seconds : {A B : Type 0} (k j : ℕ) (xs : List A) (ys : List B) → length ys ≡ length xs → map (λ l. l.1.1.1) (enumerate_from k (enumerate_from j (zip xs ys))) ≡ ys
seconds k j [] [] h = refl
seconds k j [] (y ∷ ys) h = absurd (omega arith)
seconds k j (x ∷ xs) [] h = absurd (omega arith)
seconds k j (x ∷ xs) (y ∷ ys) h = ap (λ l. y ∷ l) (seconds (k + 1) (j + 1) xs ys (omega arith))

numbered : {A B C : Type 0} (give : ℕ × B → C) (k j : ℕ) (xs : List A) (ys : List B) → length ys ≡ length xs
    → map (λ l. (l.0, give (l.1.0, l.1.1.1))) (enumerate_from k (enumerate_from j (zip xs ys))) ≡ enumerate_from k (map give (enumerate_from j ys))
numbered give k j [] [] h = refl
numbered give k j [] (y ∷ ys) h = absurd (omega arith)
numbered give k j (x ∷ xs) [] h = absurd (omega arith)
numbered give k j (x ∷ xs) (y ∷ ys) h = ap (λ l. (k, give (j, y)) ∷ l) (numbered give (k + 1) (j + 1) xs ys (omega arith))

four-parts : {C : Type 0} (pick : ℕ × Option Entry → Option C) (a b c d : List (ℕ × Option Entry)) (p q r s : List C) → filter_map pick a ≡ p → filter_map pick b ≡ q → filter_map pick c ≡ r → filter_map pick d ≡ s
    → filter_map pick (a ++ (b ++ (c ++ d))) ≡ p ++ (q ++ (r ++ s))
four-parts pick a b c d p q r s e f g h =
    filter_map-append pick a (b ++ (c ++ d))
    ∙ ap₂ (λ x y. x ++ y) e (filter_map-append pick b (c ++ d) ∙ ap₂ (λ x y. x ++ y) f (filter_map-append pick c d ∙ ap₂ (λ x y. x ++ y) g h))

is-read : (es : List (ℕ × Option Entry)) (s x : List Placed) (g : List (ℕ × Option Frame)) → filter_map bad_line es ≡ [] → filter_map segment_entry es ≡ s → filter_map group_entry es ≡ g → filter_map external_entry es ≡ x
    → ok_or_first {A = Draft} (record { segments = filter_map segment_entry es; groups = filter_map group_entry es; externals = filter_map external_entry es }) (filter_map bad_line es) ≡ Ok (record { segments = s; groups = g; externals = x })
is-read es s x g b e f h = rw (b, e, f, h) refl

-- ---- the text of a layout

length-numbered : {A : Type 0} (n : ℕ) (xs : List A) → length (enumerate_from n xs) ≡ length xs
length-numbered n [] = refl
length-numbered n (x ∷ xs) = ap suc (length-numbered (n + 1) xs)

length-pairs : {A B : Type 0} (xs : List A) (ys : List B) → length ys ≡ length xs → length (zip xs ys) ≡ length xs
length-pairs [] ys h = refl
length-pairs (x ∷ xs) [] h = absurd (omega arith)
length-pairs (x ∷ xs) (y ∷ ys) h = ap suc (length-pairs xs ys (omega arith))

module _ (frames : Frames) (m : List Rec) (l : LaidOut) (short : AreShort l.places)
    (aligned : length l.alignments ≡ length (segments m)) (roomed : length l.rooms ≡ length (externals m))
    (segment_count : length l.places.segments ≡ length (segments m)) (group_count : length l.places.groups ≡ length (groups m)) (external_count : length l.places.externals ≡ length (externals m)) where
  abbrev told_segments : List (ℕ × ((SegInfo × Alignment) × Placed))
  told_segments = enumerate_from 1 (zip (zip (segments m) l.alignments) l.places.segments)

  abbrev told_groups : List (ℕ × (GroupItem × Frame))
  told_groups = enumerate_from 1 (zip (groups m) l.places.groups)

  abbrev told_externals : List (ℕ × ((List ℕ × Option ℕ) × Placed))
  told_externals = enumerate_from 1 (zip (zip (externals m) l.rooms) l.places.externals)

  abbrev of_segment : ℕ × ((SegInfo × Alignment) × Placed) → Entry
  of_segment s = SegmentEntry s.1.1

  abbrev of_group : ℕ × (GroupItem × Frame) → Entry
  of_group g = GroupEntry (frame_given frames m l.places.segments (g.0, g.1.1))

  abbrev of_external : ℕ × ((List ℕ × Option ℕ) × Placed) → Entry
  of_external e = ExternalEntry e.1.1

  abbrev end_of : ℕ → List (ℕ × Option Entry)
  end_of n = (n, Some Blank) ∷ []

  abbrev group_line_number : ℕ
  group_line_number = 1 + length told_segments

  abbrev external_line_number : ℕ
  external_line_number = group_line_number + length told_groups

  entries-are : line_entries (draft_text frames m l)
      ≡ lines_of of_segment 1 told_segments ++ (lines_of of_group group_line_number told_groups ++ (lines_of of_external external_line_number told_externals ++ end_of (external_line_number + length told_externals)))
  entries-are =
      let a = flat_map (segment_line frames m) told_segments in
      let b = flat_map (group_line frames m l.places.segments) told_groups in
      let c = flat_map external_line told_externals in
      let whole : a ++ b ++ c ≡ a ++ (b ++ (c ++ [])) = append_assoc a b c ∙ ap (λ t. a ++ (b ++ t)) (sym (append-nil c)) in
      ap (λ t. entries_from 1 (parts_of t)) whole
      ∙ lines-read (segment_line frames m) of_segment told_segments 1 (b ++ (c ++ []))
      (all-lines IsShortPlace (λ s. IsLine (segment_line frames m s) (of_segment s)) (segment-is-line frames m) 1 (zip (segments m) l.alignments) l.places.segments short.segments)
      ∙ ap (λ es. lines_of of_segment 1 told_segments ++ es)
      (lines-read (group_line frames m l.places.segments) of_group told_groups group_line_number (c ++ [])
      (all-lines IsShortFrame (λ g. IsLine (group_line frames m l.places.segments g) (of_group g)) (group-is-line frames m l.places.segments) 1 (groups m) l.places.groups short.groups)
      ∙ ap (λ es. lines_of of_group group_line_number told_groups ++ es)
      (lines-read external_line of_external told_externals external_line_number []
      (all-lines IsShortPlace (λ e. IsLine (external_line e) (of_external e)) external-is-line 1 (zip (externals m) l.rooms) l.places.externals short.externals)))

  abbrev all_entries : List (ℕ × Option Entry)
  all_entries = lines_of of_segment 1 told_segments ++ (lines_of of_group group_line_number told_groups ++ (lines_of of_external external_line_number told_externals ++ end_of (external_line_number + length told_externals)))

  picks : {C : Type 0} (pick : ℕ × Option Entry → Option C) (p q r : List C) → filter_map pick (lines_of of_segment 1 told_segments) ≡ p → filter_map pick (lines_of of_group group_line_number told_groups) ≡ q
      → filter_map pick (lines_of of_external external_line_number told_externals) ≡ r → filter_map pick (end_of (external_line_number + length told_externals)) ≡ [] → filter_map pick all_entries ≡ p ++ (q ++ (r ++ []))
  picks pick p q r e f g h = four-parts pick _ _ _ _ p q r [] e f g h

  none-bad : filter_map bad_line all_entries ≡ []
  none-bad = picks bad_line [] [] [] (passed bad_line of_segment (λ n x. refl) 1 told_segments) (passed bad_line of_group (λ n x. refl) group_line_number told_groups) (passed bad_line of_external (λ n x. refl) external_line_number told_externals) refl

  segments-read : filter_map segment_entry all_entries ≡ l.places.segments
  segments-read =
      picks segment_entry l.places.segments [] []
      (picked segment_entry of_segment (λ n x. x.1.1) (λ n x. refl) 1 told_segments ∙ seconds 1 1 (zip (segments m) l.alignments) l.places.segments (omega (arith, length-pairs (segments m) l.alignments aligned, segment_count)))
      (passed segment_entry of_group (λ n x. refl) group_line_number told_groups) (passed segment_entry of_external (λ n x. refl) external_line_number told_externals) refl
      ∙ append-nil l.places.segments

  groups-read : filter_map group_entry all_entries ≡ (draft_entries frames m l.places).groups
  groups-read =
      let number : group_line_number ≡ length l.places.segments + 1
      = omega (arith, length-numbered 1 (zip (zip (segments m) l.alignments) l.places.segments), length-pairs (zip (segments m) l.alignments) l.places.segments (omega (arith, length-pairs (segments m) l.alignments aligned, segment_count)), length-pairs (segments m) l.alignments aligned, segment_count) in
      picks group_entry [] (draft_entries frames m l.places).groups []
      (passed group_entry of_segment (λ n x. refl) 1 told_segments)
      (picked group_entry of_group (λ n x. (n, frame_given frames m l.places.segments (x.0, x.1.1))) (λ n x. refl) group_line_number told_groups
      ∙ numbered (frame_given frames m l.places.segments) group_line_number 1 (groups m) l.places.groups group_count
      ∙ ap (λ n. enumerate_from n (map (frame_given frames m l.places.segments) (enumerate_from 1 l.places.groups))) number)
      (passed group_entry of_external (λ n x. refl) external_line_number told_externals) refl
      ∙ append-nil (draft_entries frames m l.places).groups

  externals-read : filter_map external_entry all_entries ≡ l.places.externals
  externals-read =
      picks external_entry [] [] l.places.externals
      (passed external_entry of_segment (λ n x. refl) 1 told_segments) (passed external_entry of_group (λ n x. refl) group_line_number told_groups)
      (picked external_entry of_external (λ n x. x.1.1) (λ n x. refl) external_line_number told_externals ∙ seconds external_line_number 1 (zip (externals m) l.rooms) l.places.externals (omega (arith, length-pairs (externals m) l.rooms roomed, external_count)))
      refl
      ∙ append-nil l.places.externals

  text-parses : parsed (draft_text frames m l) ≡ Ok (draft_entries frames m l.places)
  text-parses = is-read (line_entries (draft_text frames m l)) l.places.segments l.places.externals (draft_entries frames m l.places).groups
      (ap (filter_map bad_line) entries-are ∙ none-bad) (ap (filter_map segment_entry) entries-are ∙ segments-read)
      (ap (filter_map group_entry) entries-are ∙ groups-read) (ap (filter_map external_entry) entries-are ∙ externals-read)

-- ---- the placement that it gives

found : (frames : Frames) (m : List Rec) (xs : List Placed) (k n : ℕ) → resolved_group m xs (k, (n, frame_given frames m xs (k, group_frame frames m xs k))) ≡ Some (group_frame frames m xs k)
found Real m xs k n = by (real_group m xs k) refl where
  by : (o : Option Frame) → real_group m xs k ≡ o → resolved_group m xs (k, (n, unless_by_members o (unwrap_or o (frame_at Real 0)))) ≡ Some (unwrap_or o (frame_at Real 0))
  by None e = refl
  by (Some g) e = e
found (Flat selector) m xs k n = refl

module _ (frames : Frames) (m : List Rec) (xs : List Placed) where
  abbrev some_frames : ℕ → ℕ → List Frame
  some_frames k c = map (group_frame frames m xs) (range_with_len k c)

  abbrev some_entries : ℕ → ℕ → ℕ → List (ℕ × (ℕ × Option Frame))
  some_entries k n c = enumerate_from k (enumerate_from n (map (frame_given frames m xs) (enumerate_from k (some_frames k c))))

  all-found : (c k n : ℕ) → filter_map (resolved_group m xs) (some_entries k n c) ≡ some_frames k c
  all-found zero k n = refl
  all-found (suc c) k n =
      ap (λ o. cons_option o (filter_map (resolved_group m xs) (some_entries (k + 1) (n + 1) c))) (found frames m xs k n)
      ∙ ap (λ fs. group_frame frames m xs k ∷ fs) (all-found c (k + 1) (n + 1))

  none-lost : (c k n : ℕ) → filter_map (unresolved_group m xs) (some_entries k n c) ≡ []
  none-lost zero k n = refl
  none-lost (suc c) k n =
      ap (λ o. cons_option (line_unless n o) (filter_map (unresolved_group m xs) (some_entries (k + 1) (n + 1) c))) (found frames m xs k n)
      ∙ none-lost c (k + 1) (n + 1)

is-resolved : (m : List Rec) (d : Draft) (fs : List Frame) → filter_map (unresolved_group m d.segments) (enumerate_from 1 d.groups) ≡ [] → filter_map (resolved_group m d.segments) (enumerate_from 1 d.groups) ≡ fs
    → resolved m d ≡ Ok (record { segments = d.segments; groups = fs; externals = d.externals })
is-resolved m d fs e f = rw (e, f) refl

entries-resolve : (frames : Frames) (m : List Rec) (pl : Places) → group_frames frames m pl.segments ≡ pl.groups → resolved m (draft_entries frames m pl) ≡ Ok pl
entries-resolve frames m pl given =
    is-resolved m (draft_entries frames m pl) pl.groups
    (subst (λ fs. filter_map (unresolved_group m pl.segments) (enumerate_from 1 (enumerate_from (length pl.segments + 1) (map (frame_given frames m pl.segments) (enumerate_from 1 fs)))) ≡ []) given
    (none-lost frames m pl.segments (length (groups m)) 1 (length pl.segments + 1)))
    (subst (λ fs. filter_map (resolved_group m pl.segments) (enumerate_from 1 (enumerate_from (length pl.segments + 1) (map (frame_given frames m pl.segments) (enumerate_from 1 fs)))) ≡ fs) given
    (all-found frames m pl.segments (length (groups m)) 1 (length pl.segments + 1)))

pub drafts-are-read : DraftsAreRead
drafts-are-read o m l h short = record {
  parses = text-parses o.frames m l short (alignment-count o m l h) (room-count o m l h) (segment-count o m l h) (group-count o m l h) (external-count o m l h);
  resolves = entries-resolve o.frames m l.places (groups-given o m l h);
}
