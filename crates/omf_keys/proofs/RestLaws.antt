-- Without the same segments modules of equal keys have equal keys.
use Rattle.std.proofs.Common.{◌≡◌, ℕ, ◌+◌, inl, inr, List, [], ◌∷◌, ◌++◌, length, refl, sym, ◌∙◌, ap, ap₂, Bool, true, false, cond, append-nil}
use Rattle.std.specs.Prelude.{map, flat_map, filter_map, Option, Some, None, option_map, unwrap_or}
use Rattle.std.specs.List.{cons_option, last_or}
use Rattle.std.proofs.lemmas.Bool.{cases_Bool, cond-true, cond-false}
use Rattle.std.proofs.lemmas.Grind.{flat_map-append}
use Rattle.std.proofs.lemmas.List.Elements.{filter_map-append}
use Rattle.omf_frame.specs.Bytes.{with_before, is_one_of, bits, last}
use Rattle.omf_records.specs.Values.{At, Rec, Contents, Segment, SegmentItem, Publics, Plain, Iterated, Fixups, ModEnd, Header, Comment, Names, Group, Externs, Communals, Carried, Reference, Subrecord, Thread, Fixup, frame_by_thread, frame_bits, target_by_thread, target_bits, subrecord_alone, contents_alone, alone, nowhere, unplaced}
use Rattle.omf_check.specs.Inner.Names.{frame_from, target_from}
use Rattle.omf_check.specs.Tables.{data_in, last_data, segments, subrecords, subrecords_in}
use Rattle.omf_check.specs.Threads.{Setting, setting, setting_of, PlainReference, T0, plain}
use Rattle.omf_check.specs.declared.method.FrameMethod.TheVariants.{Target as F5}
use Rattle.omf_reloc.specs.Inner.Pieces.{one_by_one}
use Rattle.omf_reloc.specs.Plain.{Piece, Kept, Fixed, End, PlainFixup, plain_fixup, pieces}
use Rattle.omf_canon.proofs.AloneLaws.{same-piece}
use Rattle.omf_canon.proofs.NormalLaws.{normal_at, normal_of, normal-pieces, single-normal}
use Rattle.omf_canon.specs.Inner.Names.{end_byte}
use Rattle.omf_trimming.proofs.LeftLaws.{data-more}
use Rattle.omf_trimming.proofs.RestLaws.{count-is, segments-more}
use Rattle.omf_trimming.specs.Without.{Left, Whole, Nothing, Anew, are_of, count_after, emptied, is_thread, left_after, left_by, recs_left, recs_without, threads_alone}
use Rattle.omf_trimming.specs.declared.without.LeftPublics.TheVariants.{Nameless}
use Rattle.omf_keys.specs.Keys.{bare_pieces}

-- ---- subrecords that set the same threads

abbrev SetTheSame : List Subrecord → List Subrecord → Type 0
SetTheSame xs ys = (b : Bool) (k : ℕ) → filter_map (setting_of b k) xs ≡ filter_map (setting_of b k) ys

same-more : (xs ys more others : List Subrecord) → SetTheSame xs ys → SetTheSame more others → SetTheSame (xs ++ more) (ys ++ others)
same-more xs ys more others h g b k =
    filter_map-append (setting_of b k) xs more ∙ ap₂ (λ (ss ts : List Setting). ss ++ ts) (h b k) (g b k) ∙ sym (filter_map-append (setting_of b k) ys others)

abbrev settings_in : Rec → List Subrecord
settings_in r = subrecords_in r.contents

-- One record more on both sides, or on one that sets none.
one-more : (done before : List Rec) (u t : Rec) → SetTheSame (subrecords done) (subrecords before) → SetTheSame (settings_in u) (settings_in t) → SetTheSame (subrecords (done ++ u ∷ [])) (subrecords (before ++ t ∷ []))
one-more done before u t h g b k =
    ap (filter_map (setting_of b k)) (flat_map-append settings_in done (u ∷ []))
    ∙ same-more (subrecords done) (subrecords before) (settings_in u ++ []) (settings_in t ++ []) h (same-more (settings_in u) (settings_in t) [] [] g (λ c i. refl)) b k
    ∙ sym (ap (filter_map (setting_of b k)) (flat_map-append settings_in before (t ∷ [])))

none-more : (before : List Rec) (t : Rec) → settings_in t ≡ [] → subrecords (before ++ t ∷ []) ≡ subrecords before
none-more before t e = flat_map-append settings_in before (t ∷ []) ∙ ap (λ (xs : List Subrecord). subrecords before ++ (xs ++ [])) e ∙ append-nil (subrecords before)

module _ (E F : List Subrecord) (h : SetTheSame E F) where
  plain-same : (r : Reference) → plain E r ≡ plain F r
  plain-same r =
      let made : Option Setting → Option Setting → PlainReference = λ x y. record { frame = unwrap_or (option_map frame_from x) F5; target = unwrap_or (option_map target_from y) (T0 0); displacement = unwrap_or r.displacement 0 } in
      ap₂ (λ (x y : Option Setting). made (cond (frame_by_thread r.fix.item) x (Some (setting (frame_bits r.fix.item) r.frame))) (cond (target_by_thread r.fix.item) y (Some (setting (target_bits r.fix.item) r.target))))
      (ap last (h true (bits r.fix.item 4 2))) (ap last (h false (target_bits r.fix.item)))

  fixup-same : (s : Subrecord) → plain_fixup E s ≡ plain_fixup F s
  fixup-same (Thread byte datum) = refl
  fixup-same (Fixup locat r) = ap (λ (x : PlainReference). record { locat = locat; reference = x } ∷ []) (plain-same r)

  start-same : (o : Option Reference) → option_map (plain E) o ≡ option_map (plain F) o
  start-same None = refl
  start-same (Some r) = ap Some (plain-same r)

fixups-same : (E F : List Subrecord) → SetTheSame E F → (ss : List Subrecord) → with_before plain_fixup E ss ≡ with_before plain_fixup F ss
fixups-same E F h [] = refl
fixups-same E F h (s ∷ ss) =
    ap₂ (λ (x y : List PlainFixup). x ++ y) (fixup-same E F h s) (fixups-same (E ++ s ∷ []) (F ++ s ∷ []) (same-more E F (s ∷ []) (s ∷ []) h (λ b k. refl)) ss)

piece-same : (E F : List Subrecord) → SetTheSame E F → (kind : ℕ) (c : Contents) → normal_of E kind c ≡ normal_of F kind c
piece-same E F h kind (Fixups subs) = ap (Fixed kind) (fixups-same E F h (map (λ s. s.item) subs))
piece-same E F h kind (ModEnd byte start) = ap (End kind (end_byte byte)) (start-same E F h start)
piece-same E F h kind _ = refl

-- ---- THREADs alone

none-fixed : (E : List Subrecord) (s : Subrecord) → is_thread s ≡ true → plain_fixup E s ≡ []
none-fixed E (Thread byte datum) e = refl
none-fixed E (Fixup locat r) e = absurd cc

no-fixups : (E : List Subrecord) (subs : List (At Subrecord)) → with_before plain_fixup E (map (λ s. s.item) (threads_alone subs)) ≡ []
no-fixups E [] = refl
no-fixups E (s ∷ subs) = elim (cases_Bool (is_thread s.item)) [
  | inl t ↦ ap (λ (xs : List (At Subrecord)). with_before plain_fixup E (map (λ x. x.item) xs)) (cond-true (is_thread s.item) (s ∷ threads_alone subs) (threads_alone subs) t)
      ∙ ap₂ (λ (x y : List PlainFixup). x ++ y) (none-fixed E s.item t) (no-fixups (E ++ s.item ∷ []) subs)
  | inr t ↦ ap (λ (xs : List (At Subrecord)). with_before plain_fixup E (map (λ x. x.item) xs)) (cond-false (is_thread s.item) (s ∷ threads_alone subs) (threads_alone subs) t) ∙ no-fixups E subs
]

none-set : (b : Bool) (k : ℕ) (s : Subrecord) → is_thread s ≡ false → setting_of b k s ≡ None
none-set b k (Thread byte datum) e = absurd cc
none-set b k (Fixup locat r) e = refl

threads-set : (subs : List (At Subrecord)) → SetTheSame (map (λ s. s.item) (threads_alone subs)) (map (λ s. s.item) subs)
threads-set [] b k = refl
threads-set (s ∷ subs) b k = elim (cases_Bool (is_thread s.item)) [
  | inl t ↦ ap (λ (xs : List (At Subrecord)). filter_map (setting_of b k) (map (λ x. x.item) xs)) (cond-true (is_thread s.item) (s ∷ threads_alone subs) (threads_alone subs) t)
      ∙ ap (cons_option (setting_of b k s.item)) (threads-set subs b k)
  | inr t ↦ ap (λ (xs : List (At Subrecord)). filter_map (setting_of b k) (map (λ x. x.item) xs)) (cond-false (is_thread s.item) (s ∷ threads_alone subs) (threads_alone subs) t)
      ∙ threads-set subs b k ∙ sym (ap (λ (o : Option Setting). cons_option o (filter_map (setting_of b k) (map (λ x. x.item) subs))) (none-set b k s.item t))
]

-- ---- the bare pieces of the records after others

abbrev pub bare_from : List Rec → List Rec → List Piece
bare_from before m = flat_map one_by_one (with_before normal_at before m)

pub bare-told : (m : List Rec) → bare_pieces m ≡ bare_from [] m
bare-told m = single-normal (pieces m) ∙ ap (flat_map one_by_one) (normal-pieces m)

-- Places do not matter.
setting-alone : (b : Bool) (k : ℕ) (s : Subrecord) → setting_of b k s ≡ setting_of b k (subrecord_alone s)
setting-alone b k (Thread byte None) = refl
setting-alone b k (Thread byte (Some a)) = refl
setting-alone b k (Fixup locat r) = refl

subs-alone : (subs : List (At Subrecord)) → SetTheSame (map (λ s. s.item) subs) (map (λ s. s.item) (map (λ s. nowhere (subrecord_alone s.item)) subs))
subs-alone [] b k = refl
subs-alone (s ∷ subs) b k = ap₂ cons_option (setting-alone b k s.item) (subs-alone subs b k)

set-alone : (c : Contents) → SetTheSame (subrecords_in c) (subrecords_in (contents_alone c))
set-alone (Fixups subs) = subs-alone subs
set-alone _ = λ b k. refl

same-front : {A : Type 0} (x y : A) (xs ys : List A) → x ∷ xs ≡ y ∷ ys → (x ≡ y) × (xs ≡ ys)
same-front x y xs ys e = (cc, cc)

alone-from : (before done m n : List Rec) → SetTheSame (subrecords before) (subrecords done) → map alone m ≡ map alone n → bare_from before m ≡ bare_from done n
alone-from before done [] [] h e = refl
alone-from before done [] (s ∷ n) h e = absurd cc
alone-from before done (r ∷ m) [] h e = absurd cc
alone-from before done (r ∷ m) (s ∷ n) h e =
    let q = same-front (alone r) (alone s) (map alone m) (map alone n) e in
    let set : SetTheSame (settings_in r) (settings_in s) = λ b k. set-alone r.contents b k ∙ ap (λ (x : Rec). filter_map (setting_of b k) (settings_in x)) q.0 ∙ sym (set-alone s.contents b k) in
    ap₂ (λ (p : Piece) (ps : List Piece). one_by_one p ++ ps) (same-piece (subrecords before) r s q.0 ∙ piece-same (subrecords before) (subrecords done) h s.kind s.contents)
    (alone-from (before ++ r ∷ []) (done ++ s ∷ []) m n (one-more before done r s h set) q.1)

pub bare-alone : (m n : List Rec) → map alone m ≡ map alone n → bare_pieces m ≡ bare_pieces n
bare-alone m n e = bare-told m ∙ alone-from [] [] m n (λ b k. refl) e ∙ sym (bare-told n)

-- ---- what is left of bare pieces

abbrev T : ℕ → Contents → Rec
T kind c = record { kind = kind; contents = c }

module _ (gone : List ℕ) where
  abbrev kept_left : Rec → Left → List Piece
  kept_left r Whole = Kept r ∷ []
  kept_left r Nothing = []
  kept_left r (Anew c) = Kept (alone (T r.kind c)) ∷ []

  abbrev piece_left : ℕ → Bool → Piece → List Piece
  piece_left n g (Kept r) = kept_left r (left_by Nameless gone (n + 1) g r.contents)
  piece_left n g (Fixed kind fs) = cond g [] (Fixed kind fs ∷ [])
  piece_left n g (End kind byte start) = End kind byte start ∷ []

  abbrev count_by : ℕ → Piece → ℕ
  count_by n (Kept r) = count_after n r.contents
  count_by n _ = n

  -- Whether the last data are of a segment that is left out.
  abbrev went : Bool → Contents → Bool
  went g (Plain d) = is_one_of gone d.segment.item
  went g (Iterated d) = is_one_of gone d.segment.item
  went g _ = g

  abbrev went_by : Bool → Piece → Bool
  went_by g (Kept r) = went g r.contents
  went_by g _ = g

  abbrev walk : ℕ → Bool → List Piece → List Piece
  walk n g [] = []
  walk n g (p ∷ ps) = piece_left n g p ++ walk (count_by n p) (went_by g p) ps

  walk-gone : (n : ℕ) (kind : ℕ) (fs : List PlainFixup) (ps : List Piece) → walk n true (map (λ f. Fixed kind (f ∷ [])) fs ++ ps) ≡ walk n true ps
  walk-gone n kind [] ps = refl
  walk-gone n kind (f ∷ fs) ps = walk-gone n kind fs ps

  walk-stays : (n : ℕ) (kind : ℕ) (fs : List PlainFixup) (ps : List Piece) → walk n false (map (λ f. Fixed kind (f ∷ [])) fs ++ ps) ≡ map (λ f. Fixed kind (f ∷ [])) fs ++ walk n false ps
  walk-stays n kind [] ps = refl
  walk-stays n kind (f ∷ fs) ps = ap (λ (qs : List Piece). Fixed kind (f ∷ []) ∷ qs) (walk-stays n kind fs ps)

  abbrev left_of : List Rec → Rec → List Rec
  left_of before t = recs_left t (left_after Nameless gone before t.contents)

  went-more : (o : Option Contents) (c : Contents) → are_of gone (last_or o (data_in c)) ≡ went (are_of gone o) c
  went-more o (Plain d) = refl
  went-more o (Iterated d) = refl
  went-more o _ = refl

  module _ (before done m : List Rec) (h : SetTheSame (subrecords done) (subrecords before)) (kind : ℕ) where
    abbrev E : List Subrecord
    E = subrecords before

    abbrev D : List Subrecord
    D = subrecords done

    abbrev n : ℕ
    n = length (segments before)

    abbrev g : Bool
    g = are_of gone (last_data before)

    -- The records after this one, and their bare pieces.
    abbrev later : Contents → List Rec
    later c = with_before left_of (before ++ T kind c ∷ []) m

    abbrev pieces_after : Contents → List Piece
    pieces_after c = bare_from (before ++ T kind c ∷ []) m

    abbrev IsNext : Contents → Type 0
    IsNext c = (d : List Rec) → SetTheSame (subrecords d) (subrecords (before ++ T kind c ∷ [])) → bare_from d (later c) ≡ walk (count_after n c) (went g c) (pieces_after c)

    abbrev Steps : Contents → List Rec → Type 0
    Steps c ls = bare_from done (ls ++ later c) ≡ walk n g (one_by_one (normal_of E kind c) ++ pieces_after c)

    -- A record in the place of this one, and none.
    with-one : (c d : Contents) → IsNext c → SetTheSame (subrecords_in d) (subrecords_in c) → bare_from done (T kind d ∷ later c) ≡ one_by_one (normal_of D kind d) ++ walk (count_after n c) (went g c) (pieces_after c)
    with-one c d next s = ap (λ (ps : List Piece). one_by_one (normal_of D kind d) ++ ps) (next (done ++ T kind d ∷ []) (one-more done before (T kind d) (T kind c) h s))

    with-none : (c : Contents) → IsNext c → subrecords_in c ≡ [] → bare_from done (later c) ≡ walk (count_after n c) (went g c) (pieces_after c)
    with-none c next e = next done (λ b k. h b k ∙ sym (ap (filter_map (setting_of b k)) (none-more before (T kind c) e)))

    segment-step : (s : SegmentItem) (b : Bool) → IsNext (Segment s) → bare_from done (recs_left (T kind (Segment s)) (cond b (Anew (Segment (emptied Nameless s))) Whole) ++ later (Segment s))
        ≡ kept_left (alone (T kind (Segment s))) (cond b (Anew (Segment (emptied Nameless (record s { name = unplaced s.name; class = unplaced s.class })))) Whole) ++ walk (n + 1) g (pieces_after (Segment s))
    segment-step s true next = with-one (Segment s) (Segment (emptied Nameless s)) next (λ c k. refl)
    segment-step s false next = with-one (Segment s) (Segment s) next (λ c k. refl)

    -- Publics and data: all of them, or nothing.
    either-step : (c : Contents) (b : Bool) → IsNext c → subrecords_in c ≡ [] → normal_of D kind c ≡ Kept (alone (T kind c))
        → bare_from done (recs_left (T kind c) (cond b Nothing Whole) ++ later c) ≡ kept_left (alone (T kind c)) (cond b Nothing Whole) ++ walk (count_after n c) (went g c) (pieces_after c)
    either-step c true next e k = with-none c next e
    either-step c false next e k = with-one c c next (λ b i. refl) ∙ ap (λ (p : Piece). one_by_one p ++ walk (count_after n c) (went g c) (pieces_after c)) k

    fixups-step : (subs : List (At Subrecord)) (b : Bool) → ((d : List Rec) → SetTheSame (subrecords d) (subrecords (before ++ T kind (Fixups subs) ∷ [])) → bare_from d (later (Fixups subs)) ≡ walk n b (pieces_after (Fixups subs)))
        → bare_from done (recs_left (T kind (Fixups subs)) (cond b (Anew (Fixups (threads_alone subs))) Whole) ++ later (Fixups subs))
        ≡ walk n b (map (λ f. Fixed kind (f ∷ [])) (with_before plain_fixup E (map (λ s. s.item) subs)) ++ pieces_after (Fixups subs))
    fixups-step subs true next =
        ap₂ (λ (fs : List PlainFixup) (ps : List Piece). map (λ f. Fixed kind (f ∷ [])) fs ++ ps) (no-fixups D subs)
        (next (done ++ T kind (Fixups (threads_alone subs)) ∷ []) (one-more done before (T kind (Fixups (threads_alone subs))) (T kind (Fixups subs)) h (threads-set subs)))
        ∙ sym (walk-gone n kind (with_before plain_fixup E (map (λ s. s.item) subs)) (pieces_after (Fixups subs)))
    fixups-step subs false next =
        ap₂ (λ (fs : List PlainFixup) (ps : List Piece). map (λ f. Fixed kind (f ∷ [])) fs ++ ps) (fixups-same D E h (map (λ s. s.item) subs))
        (next (done ++ T kind (Fixups subs) ∷ []) (one-more done before (T kind (Fixups subs)) (T kind (Fixups subs)) h (λ b k. refl)))
        ∙ sym (walk-stays n kind (with_before plain_fixup E (map (λ s. s.item) subs)) (pieces_after (Fixups subs)))

    step : (c : Contents) → IsNext c → Steps c (left_of before (T kind c))
    step (Segment s) next = segment-step s (is_one_of gone (n + 1)) next
    step (Publics p) next = either-step (Publics p) (is_one_of gone p.segment.item) next refl refl
    step (Plain d) next = either-step (Plain d) (is_one_of gone d.segment.item) next refl refl
    step (Iterated d) next = either-step (Iterated d) (is_one_of gone d.segment.item) next refl refl
    step (Fixups subs) next = fixups-step subs g next
    step (ModEnd byte start) next =
        with-one (ModEnd byte start) (ModEnd byte start) next (λ b k. refl) ∙ ap (λ (o : Option PlainReference). End kind (end_byte byte) o ∷ walk n g (pieces_after (ModEnd byte start))) (start-same D E h start)
    step (Header x) next = with-one (Header x) (Header x) next (λ b k. refl)
    step (Comment x y z) next = with-one (Comment x y z) (Comment x y z) next (λ b k. refl)
    step (Names x) next = with-one (Names x) (Names x) next (λ b k. refl)
    step (Group x) next = with-one (Group x) (Group x) next (λ b k. refl)
    step (Externs x) next = with-one (Externs x) (Externs x) next (λ b k. refl)
    step (Communals x) next = with-one (Communals x) (Communals x) next (λ b k. refl)
    step (Carried x) next = with-one (Carried x) (Carried x) next (λ b k. refl)

  counted : (before : List Rec) (r : Rec) → length (segments (before ++ r ∷ [])) ≡ count_after (length (segments before)) r.contents
  counted before r = segments-more before r ∙ sym (count-is (length (segments before)) r.kind r.contents)

  went-on : (before : List Rec) (r : Rec) → are_of gone (last_data (before ++ r ∷ [])) ≡ went (are_of gone (last_data before)) r.contents
  went-on before r = ap (are_of gone) (data-more before r) ∙ went-more (last_data before) r.contents

  left-from : (before done m : List Rec) → SetTheSame (subrecords done) (subrecords before) → bare_from done (with_before left_of before m) ≡ walk (length (segments before)) (are_of gone (last_data before)) (bare_from before m)
  left-from before done [] h = refl
  left-from before done (r ∷ m) h = step before done m h r.kind r.contents
      (λ d s. left-from (before ++ r ∷ []) d m s ∙ ap₂ (λ (k : ℕ) (b : Bool). walk k b (bare_from (before ++ r ∷ []) m)) (counted before r) (went-on before r))

  left-bare : (m : List Rec) → bare_pieces (recs_without Nameless gone m) ≡ walk 0 false (bare_pieces m)
  left-bare m = bare-told (recs_without Nameless gone m) ∙ left-from [] [] m (λ b k. refl) ∙ ap (walk 0 false) (sym (bare-told m))

  pub same-without : (m n : List Rec) → bare_pieces m ≡ bare_pieces n → bare_pieces (recs_without Nameless gone m) ≡ bare_pieces (recs_without Nameless gone n)
  same-without m n h = left-bare m ∙ ap (walk 0 false) h ∙ sym (left-bare n)
