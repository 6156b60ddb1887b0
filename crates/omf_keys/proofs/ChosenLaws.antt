-- Of modules of equal keys the same COMDATs are left out.
use Rattle.std.proofs.Common.{◌≡◌, ℕ, ◌+◌, List, [], ◌∷◌, ◌++◌, refl, sym, ◌∙◌, ap, ap₂, subst, Bool, true, false, cond, append-nil, append_assoc}
use Rattle.std.specs.Prelude.{◌==◌, ◌&&◌, ◌||◌, filter, flat_map, map, not, Option, Some, None}
use Rattle.std.specs.List.{AllZip, list_any}
use Rattle.omf_frame.specs.Bytes.{with_before}
use Rattle.omf_frame.specs.Types.{is_local}
use Rattle.omf_records.specs.Values.{At, Rec, Contents, Segment, SegmentItem, Publics, PublicItem, Plain, Iterated, Fixups, ModEnd, Comment, Reference, Subrecord, Thread, Fixup, contents_alone, alone, unplaced}
use Rattle.omf_check.specs.Module.{Module, recs_of}
use Rattle.omf_check.specs.Tables.{segment_length, subrecords}
use Rattle.omf_lowering.specs.Marks.{selection_by}
use Rattle.omf_lowering.specs.Unrolled.{is_fixup}
use Rattle.omf_reloc.specs.Plain.{Piece, Kept, Fixed, PlainFixup, plain_fixup}
use Rattle.omf_trimming.specs.Choice.{AreChosen, IsChosen, Marked, data_by, data_of, instances, is_left_out, left_out, marked_after, marked_from, marked_if, name_by, only_name, past_threads}
use Rattle.omf_trimming.specs.Without.{IsWithout, count_after}
use Rattle.omf_trimming.specs.Inner.Choosing.{marked_named}
use Rattle.omf_trimming.specs.declared.without.LeftPublics.TheVariants.{Nameless}
use Rattle.omf_trimming.proofs.PastLaws.{past-false, past-true}
use Rattle.omf_keys.specs.Keys.{AreAlike, HaveEqualKeys, HaveOneKey, bare_pieces}
use Rattle.omf_keys.specs.Laws.{PiecesByKeys}
use Rattle.omf_keys.proofs.KeptLaws.{IsKeptTable, same-records}
use Rattle.omf_keys.proofs.RestLaws.{bare_from, bare-told}

abbrev T : ℕ → Contents → Rec
T kind c = record { kind = kind; contents = c }

-- ---- the data of a segment

data-bare : (segment kind : ℕ) (c : Contents) → data_by segment kind c ≡ data_by segment kind (contents_alone c)
data-bare segment kind (Plain d) = refl
data-bare segment kind (Iterated d) = refl
data-bare segment kind _ = refl

data-kept : (segment : ℕ) → IsKeptTable (data_by segment)
data-kept segment = record { bare = data-bare segment; fixups = λ kind subs. refl; end = λ kind byte start. refl }

data-same : (m n : List Rec) → AreAlike m n → (segment : ℕ) → data_of segment m ≡ data_of segment n
data-same m n h segment = same-records (data_by segment) (data-kept segment) m n h

-- ---- the instances of records, one record after another

-- What the last records begin: nothing, a segment of this length, or one with a name.
data Begun : Type 0 where
  Idle : Begun
  Sized : ℕ → Begun
  Titled : ℕ → List ℕ → Begun

-- A record that is no reference; none for a FIXUPP or a MODEND.
abbrev shown : ℕ → Contents → Option Rec
shown kind (Fixups subs) = None
shown kind (ModEnd byte start) = None
shown kind c = Some (T kind c)

abbrev after_public : ℕ → Option (List ℕ) → Begun
after_public size (Some name) = Titled size name
after_public size None = Idle

abbrev after_other : ℕ → Begun → ℕ → Contents → Begun
after_other n (Sized size) kind c = after_public size (name_by n kind c)
after_other n _ kind c = Idle

abbrev begin_by : ℕ → Begun → ℕ → Contents → Begun
begin_by n b kind (Segment s) = Sized (segment_length kind s)
begin_by n b kind c = after_other n b kind c

module _ (m : List Rec) where
  abbrev ends : ℕ → Begun → Contents → List Marked
  ends n (Titled size name) c = marked_if m n size (Some name) (selection_by c)
  ends n _ c = []

  abbrev run : ℕ → Begun → List (Option Rec) → List Marked
  run n b [] = []
  run n b (None ∷ xs) = run n Idle xs
  run n b (Some r ∷ xs) = ends n b r.contents ++ run (count_after n r.contents) (begin_by n b r.kind r.contents) xs

  -- The instance that is begun, and those that follow.
  abbrev begun_in : ℕ → Begun → List Rec → List Marked
  begun_in n Idle rs = []
  begun_in n (Sized size) rs = marked_after m n size rs
  begun_in n (Titled size name) rs = marked_named m n size (Some name) rs

  abbrev to_come : ℕ → Begun → List Rec → List Marked
  to_come n b rs = begun_in n b rs ++ marked_from m n rs

  abbrev shown_all : List Rec → List (Option Rec)
  shown_all rs = map (λ r. shown r.kind r.contents) rs

  if-none : (n size : ℕ) (o : Option (List ℕ)) → marked_if m n size o None ≡ []
  if-none n size (Some name) = refl
  if-none n size None = refl

  -- After a PUBDEF, or another record, in the place of a PUBDEF.
  public-begins : (n size : ℕ) (o : Option (List ℕ)) (rs : List Rec) → marked_named m n size o rs ≡ begun_in n (after_public size o) rs
  public-begins n size (Some name) rs = refl
  public-begins n size None [] = refl
  public-begins n size None (r ∷ rs) = refl

  after-front : (n size : ℕ) (r : Rec) (rs : List Rec) → marked_after m n size (r ∷ rs) ≡ marked_named m n size (name_by n r.kind r.contents) rs
  after-front n size r [] = refl
  after-front n size r (mark ∷ rs) = refl

  -- A record that is no SEGDEF.
  other-begins : (n : ℕ) (b : Begun) (r : Rec) (rs : List Rec) → begun_in n b (r ∷ rs) ≡ ends n b r.contents ++ begun_in n (after_other n b r.kind r.contents) rs
  other-begins n Idle r rs = refl
  other-begins n (Sized size) r rs = after-front n size r rs ∙ public-begins n size (name_by n r.kind r.contents) rs
  other-begins n (Titled size name) r rs = sym (append-nil (marked_if m n size (Some name) (selection_by r.contents)))

  -- A SEGDEF ends nothing, and begins anew.
  segment-ends : (n : ℕ) (b : Begun) (kind : ℕ) (s : SegmentItem) (rs : List Rec) → begun_in n b (T kind (Segment s) ∷ rs) ≡ []
  segment-ends n Idle kind s rs = refl
  segment-ends n (Sized size) kind s [] = refl
  segment-ends n (Sized size) kind s (r ∷ rs) = refl
  segment-ends n (Titled size name) kind s rs = refl

  segment-ended : (n : ℕ) (b : Begun) (s : SegmentItem) → ends n b (Segment s) ≡ []
  segment-ended n Idle s = refl
  segment-ended n (Sized size) s = refl
  segment-ended n (Titled size name) s = refl

  -- A FIXUPP or a MODEND ends nothing, and nothing goes on.
  fixups-idle : (n : ℕ) (b : Begun) (kind : ℕ) (subs : List (At Subrecord)) (rs : List Rec) → begun_in n b (T kind (Fixups subs) ∷ rs) ≡ []
  fixups-idle n Idle kind subs rs = refl
  fixups-idle n (Sized size) kind subs rs = after-front n size (T kind (Fixups subs)) rs ∙ public-begins n size None rs
  fixups-idle n (Titled size name) kind subs rs = refl

  end-idle : (n : ℕ) (b : Begun) (kind byte : ℕ) (start : Option Reference) (rs : List Rec) → begun_in n b (T kind (ModEnd byte start) ∷ rs) ≡ []
  end-idle n Idle kind byte start rs = refl
  end-idle n (Sized size) kind byte start rs = after-front n size (T kind (ModEnd byte start)) rs ∙ public-begins n size None rs
  end-idle n (Titled size name) kind byte start rs = refl

  other-run : (n : ℕ) (b : Begun) (kind : ℕ) (c : Contents) (rs : List Rec) → to_come n (after_other n b kind c) rs ≡ run n (after_other n b kind c) (shown_all rs)
      → begun_in n b (T kind c ∷ rs) ++ marked_from m n rs ≡ ends n b c ++ run n (after_other n b kind c) (shown_all rs)
  other-run n b kind c rs h =
      ap (λ (xs : List Marked). xs ++ marked_from m n rs) (other-begins n b (T kind c) rs)
      ∙ append_assoc (ends n b c) (begun_in n (after_other n b kind c) rs) (marked_from m n rs) ∙ ap (λ (xs : List Marked). ends n b c ++ xs) h

  runs : (n : ℕ) (b : Begun) (rs : List Rec) → to_come n b rs ≡ run n b (shown_all rs)
  runs n Idle [] = refl
  runs n (Sized size) [] = refl
  runs n (Titled size name) [] = refl
  runs n b (r ∷ rs) = by r.kind r.contents (λ k c. runs k c rs)
    where
      by : (kind : ℕ) (c : Contents) → ((k : ℕ) (d : Begun) → to_come k d rs ≡ run k d (shown_all rs)) → to_come n b (T kind c ∷ rs) ≡ run n b (shown kind c ∷ shown_all rs)
      by kind (Segment s) h =
          ap (λ (xs : List Marked). xs ++ to_come (n + 1) (Sized (segment_length kind s)) rs) (segment-ends n b kind s rs)
          ∙ h (n + 1) (Sized (segment_length kind s)) ∙ sym (ap (λ (xs : List Marked). xs ++ run (n + 1) (Sized (segment_length kind s)) (shown_all rs)) (segment-ended n b s))
      by kind (Fixups subs) h = ap (λ (xs : List Marked). xs ++ marked_from m n rs) (fixups-idle n b kind subs rs) ∙ h n Idle
      by kind (ModEnd byte start) h = ap (λ (xs : List Marked). xs ++ marked_from m n rs) (end-idle n b kind byte start rs) ∙ h n Idle
      by kind (Publics p) h = other-run n b kind (Publics p) rs (h n (after_other n b kind (Publics p)))
      by kind (Comment x y z) h = other-run n b kind (Comment x y z) rs (h n (after_other n b kind (Comment x y z)))
      by kind c h = other-run n b kind c rs (h n (after_other n b kind c))

  -- ---- the same by bare pieces

  abbrev piece_shown : Piece → Option Rec
  piece_shown (Kept r) = Some r
  piece_shown _ = None

  abbrev pieces_shown : List Piece → List (Option Rec)
  pieces_shown ps = map piece_shown ps

  only-alone : (b : Bool) (items : List (At PublicItem)) → only_name b (map unplaced items) ≡ only_name b items
  only-alone b [] = refl
  only-alone b (x ∷ []) = refl
  only-alone b (x ∷ y ∷ more) = refl

  name-alone : (n kind : ℕ) (c : Contents) → name_by n kind (contents_alone c) ≡ name_by n kind c
  name-alone n kind (Publics q) = only-alone (not (is_local kind) && (q.segment.item == n)) q.items
  name-alone n kind _ = refl

  selection-alone : (c : Contents) → selection_by (contents_alone c) ≡ selection_by c
  selection-alone (Comment a b t) = refl
  selection-alone _ = refl

  count-alone : (n : ℕ) (c : Contents) → count_after n (contents_alone c) ≡ count_after n c
  count-alone n (Segment s) = refl
  count-alone n _ = refl

  ends-alone : (n : ℕ) (b : Begun) (c : Contents) → ends n b (contents_alone c) ≡ ends n b c
  ends-alone n Idle c = refl
  ends-alone n (Sized size) c = refl
  ends-alone n (Titled size name) c = ap (marked_if m n size (Some name)) (selection-alone c)

  other-alone : (n : ℕ) (b : Begun) (kind : ℕ) (c : Contents) → after_other n b kind (contents_alone c) ≡ after_other n b kind c
  other-alone n Idle kind c = refl
  other-alone n (Sized size) kind c = ap (after_public size) (name-alone n kind c)
  other-alone n (Titled size name) kind c = refl

  begin-alone : (n : ℕ) (b : Begun) (kind : ℕ) (c : Contents) → begin_by n b kind (contents_alone c) ≡ begin_by n b kind c
  begin-alone n b kind (Segment s) = refl
  begin-alone n b kind c = other-alone n b kind c

  run-alone : (n : ℕ) (b : Begun) (r : Rec) (xs ys : List (Option Rec)) → ((k : ℕ) (d : Begun) → run k d xs ≡ run k d ys) → run n b (Some (alone r) ∷ xs) ≡ run n b (Some r ∷ ys)
  run-alone n b r xs ys h =
      ap₂ (λ (zs ws : List Marked). zs ++ ws) (ends-alone n b r.contents)
      (ap₂ (λ (k : ℕ) (d : Begun). run k d xs) (count-alone n r.contents) (begin-alone n b r.kind r.contents) ∙ h (count_after n r.contents) (begin_by n b r.kind r.contents))

  -- Fixups are as one FIXUPP, and none are nothing.
  idle-fixups : (n kind : ℕ) (fs : List PlainFixup) (ps : List Piece) → run n Idle (pieces_shown (map (λ f. Fixed kind (f ∷ [])) fs ++ ps)) ≡ run n Idle (pieces_shown ps)
  idle-fixups n kind [] ps = refl
  idle-fixups n kind (f ∷ fs) ps = idle-fixups n kind fs ps

  fixed-by : (E : List Subrecord) (s : Subrecord) → is_fixup s ≡ false → plain_fixup E s ≡ []
  fixed-by E (Thread byte datum) e = refl
  fixed-by E (Fixup locat r) e = absurd cc

  or-parts : (a b : Bool) → (a || b) ≡ false → (a ≡ false) × (b ≡ false)
  or-parts true b e = absurd cc
  or-parts false b e = (refl, e)

  none-fixed : (E : List Subrecord) (subs : List (At Subrecord)) → list_any (λ s. is_fixup s.item) subs ≡ false → with_before plain_fixup E (map (λ s. s.item) subs) ≡ []
  none-fixed E [] e = refl
  none-fixed E (s ∷ subs) e =
      let q = or-parts (is_fixup s.item) (list_any (λ (x : At Subrecord). is_fixup x.item) subs) e in
      ap₂ (λ (xs ys : List PlainFixup). xs ++ ys) (fixed-by E s.item q.0) (none-fixed (E ++ s.item ∷ []) subs q.1)

  some-by : (E : List Subrecord) (x : Subrecord) (rest : List Subrecord) (more : Bool) (n : ℕ) (b : Begun) (kind : ℕ) (ps : List Piece)
      → (more ≡ true → run n b (pieces_shown (map (λ f. Fixed kind (f ∷ [])) (with_before plain_fixup (E ++ x ∷ []) rest) ++ ps)) ≡ run n Idle (pieces_shown ps)) → (is_fixup x || more) ≡ true
      → run n b (pieces_shown (map (λ f. Fixed kind (f ∷ [])) (plain_fixup E x ++ with_before plain_fixup (E ++ x ∷ []) rest) ++ ps)) ≡ run n Idle (pieces_shown ps)
  some-by E (Thread byte datum) rest more n b kind ps h e = h e
  some-by E (Fixup locat r) rest more n b kind ps h e = idle-fixups n kind (with_before plain_fixup (E ++ Fixup locat r ∷ []) rest) ps

  some-fixed : (E : List Subrecord) (subs : List (At Subrecord)) (n : ℕ) (b : Begun) (kind : ℕ) (ps : List Piece) → list_any (λ s. is_fixup s.item) subs ≡ true
      → run n b (pieces_shown (map (λ f. Fixed kind (f ∷ [])) (with_before plain_fixup E (map (λ s. s.item) subs)) ++ ps)) ≡ run n Idle (pieces_shown ps)
  some-fixed E [] n b kind ps e = absurd cc
  some-fixed E (s ∷ subs) n b kind ps e =
      some-by E s.item (map (λ x. x.item) subs) (list_any (λ (x : At Subrecord). is_fixup x.item) subs) n b kind ps (λ t. some-fixed (E ++ s.item ∷ []) subs n b kind ps t) e

  abbrev IsShown : List Rec → List Rec → Type 0
  IsShown before rs = (n : ℕ) (b : Begun) → run n b (pieces_shown (bare_from before rs)) ≡ run n b (shown_all (past_threads rs))

  fixups-shown : (before : List Rec) (kind : ℕ) (subs : List (At Subrecord)) (rs : List Rec) → IsShown (before ++ T kind (Fixups subs) ∷ []) rs → (t : Bool) → list_any (λ s. is_fixup s.item) subs ≡ t → IsShown before (T kind (Fixups subs) ∷ rs)
  fixups-shown before kind subs rs h true e n b =
      some-fixed (subrecords before) subs n b kind (bare_from (before ++ T kind (Fixups subs) ∷ []) rs) e ∙ h n Idle
      ∙ sym (ap (λ (xs : List Rec). run n b (shown_all xs)) (past-false (T kind (Fixups subs)) rs (ap not e)))
  fixups-shown before kind subs rs h false e n b =
      ap (λ (fs : List PlainFixup). run n b (pieces_shown (map (λ f. Fixed kind (f ∷ [])) fs ++ bare_from (before ++ T kind (Fixups subs) ∷ []) rs))) (none-fixed (subrecords before) subs e) ∙ h n b
      ∙ sym (ap (λ (xs : List Rec). run n b (shown_all xs)) (past-true (T kind (Fixups subs)) rs (ap not e)))

  record-shown : (before : List Rec) (kind : ℕ) (c : Contents) (rs : List Rec) → IsShown (before ++ T kind c ∷ []) rs → IsShown before (T kind c ∷ rs)
  record-shown before kind (Fixups subs) rs h n b = fixups-shown before kind subs rs h (list_any (λ s. is_fixup s.item) subs) refl n b
  record-shown before kind (ModEnd byte start) rs h n b = h n Idle
  record-shown before kind c rs h n b = run-alone n b (T kind c) (pieces_shown (bare_from (before ++ T kind c ∷ []) rs)) (shown_all (past_threads rs)) h

  all-shown : (before rs : List Rec) → IsShown before rs
  all-shown before [] n b = refl
  all-shown before (r ∷ rs) n b = record-shown before r.kind r.contents rs (all-shown (before ++ r ∷ []) rs) n b

  instances-told : instances m ≡ run 0 Idle (pieces_shown (bare_pieces m))
  instances-told = runs 0 Idle (past_threads m) ∙ sym (all-shown [] m 0 Idle) ∙ ap (λ (ps : List Piece). run 0 Idle (pieces_shown ps)) (sym (bare-told m))

-- ---- modules of the same pieces

module _ (m n : List Rec) (h : AreAlike m n) where
  if-same : (k size : ℕ) (o : Option (List ℕ)) (s : Option ℕ) → marked_if m k size o s ≡ marked_if n k size o s
  if-same k size (Some name) (Some selection) =
      ap (λ (ps : List (List ℕ)). (let x : Marked = record { name = name; segment = k; selection = selection; size = size; data_pieces = ps } in x) ∷ []) (data-same m n h k)
  if-same k size None s = refl
  if-same k size (Some name) None = refl

  ends-same : (k : ℕ) (b : Begun) (c : Contents) → ends m k b c ≡ ends n k b c
  ends-same k Idle c = refl
  ends-same k (Sized size) c = refl
  ends-same k (Titled size name) c = if-same k size (Some name) (selection_by c)

  run-same : (k : ℕ) (b : Begun) (xs : List (Option Rec)) → run m k b xs ≡ run n k b xs
  run-same k b [] = refl
  run-same k b (None ∷ xs) = run-same k Idle xs
  run-same k b (Some r ∷ xs) = ap₂ (λ (ys zs : List Marked). ys ++ zs) (ends-same k b r.contents) (run-same (count_after k r.contents) (begin_by k b r.kind r.contents) xs)

  pub instances-same : instances m ≡ instances n
  instances-same =
      instances-told m ∙ run-same 0 Idle (pieces_shown m (bare_pieces m)) ∙ ap (λ (ps : List Piece). run n 0 Idle (pieces_shown n ps)) h ∙ sym (instances-told n)

-- ---- modules of equal keys

all-instances : PiecesByKeys → (ms ns : List Module) → HaveEqualKeys ms ns → flat_map (λ k. instances (recs_of k.bytes)) ms ≡ flat_map (λ k. instances (recs_of k.bytes)) ns
all-instances pieces [] [] h = refl
all-instances pieces [] (n ∷ ns) h = absurd h
all-instances pieces (m ∷ ms) [] h = absurd h
all-instances pieces (m ∷ ms) (n ∷ ns) h = ap₂ (λ (xs ys : List Marked). xs ++ ys) (instances-same (recs_of m.bytes) (recs_of n.bytes) (pieces m n h.0).bare) (all-instances pieces ms ns h.1)

keys-more : (ms ns : List Module) (m n : Module) → HaveEqualKeys ms ns → HaveOneKey m n → HaveEqualKeys (ms ++ m ∷ []) (ns ++ n ∷ [])
keys-more [] [] m n h k = (k, tt)
keys-more [] (y ∷ ns) m n h k = absurd h
keys-more (x ∷ ms) [] m n h k = absurd h
keys-more (x ∷ ms) (y ∷ ns) m n h k = (h.0, keys-more ms ns m n h.1 k)

abbrev out_by : List Marked → List Marked → List ℕ
out_by before is = map (λ i. i.segment) (filter (is_left_out before) is)

left-same : PiecesByKeys → (before others : List Module) (m n : Module) → HaveEqualKeys before others → HaveOneKey m n → left_out before m ≡ left_out others n
left-same pieces before others m n h k = ap₂ out_by (all-instances pieces before others h) (instances-same (recs_of m.bytes) (recs_of n.bytes) (pieces m n k).bare)

module _ (pieces : PiecesByKeys) (left : (gone : List ℕ) (m n o p : Module) → HaveOneKey m n → IsWithout Nameless gone m o → IsWithout Nameless gone n p → HaveOneKey o p) where
  abbrev pairs : List Module → List Module → List (Module × List ℕ)
  pairs before ms = with_before (λ b m. (m, left_out b m) ∷ []) before ms

  chosen-from : (before others ms ns out more : List Module) → HaveEqualKeys before others → HaveEqualKeys ms ns → AllZip IsChosen (pairs before ms) out → AllZip IsChosen (pairs others ns) more → HaveEqualKeys out more
  chosen-from before others [] [] [] [] h k a b = tt
  chosen-from before others [] [] (o ∷ out) more h k a b = absurd a
  chosen-from before others [] [] [] (p ∷ more) h k a b = absurd b
  chosen-from before others [] (n ∷ ns) out more h k a b = absurd k
  chosen-from before others (m ∷ ms) [] out more h k a b = absurd k
  chosen-from before others (m ∷ ms) (n ∷ ns) [] more h k a b = absurd a
  chosen-from before others (m ∷ ms) (n ∷ ns) (o ∷ out) [] h k a b = absurd b
  chosen-from before others (m ∷ ms) (n ∷ ns) (o ∷ out) (p ∷ more) h k a b = (
    left (left_out others n) m n o p k.0 (subst (λ (g : List ℕ). IsWithout Nameless g m o) (left-same pieces before others m n h k.0) a.0) b.0,
    chosen-from (before ++ m ∷ []) (others ++ n ∷ []) ms ns out more (keys-more before others m n h k.0) k.1 a.1 b.1,
  )

  pub chosen : (ms ns out more : List Module) → HaveEqualKeys ms ns → AreChosen ms out → AreChosen ns more → HaveEqualKeys out more
  chosen ms ns out more h a b = chosen-from [] [] ms ns out more tt h a b
