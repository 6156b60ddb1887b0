-- The bytes of data records and the marks of their fixups, laid in file order, are the pattern.
use Rattle.std.proofs.Common.{◌≡◌, inl, inr, ℕ, zero, suc, ◌+◌, ◌-◌, ◌<◌, ◌≤◌, Bool, true, false, cond, List, [], ◌∷◌, ◌++◌, append_assoc, length, refl, sym, ap, ap₂, subst, ◌∙◌, arith}
use Rattle.std.specs.Prelude.{All, map, flat_map, replicate, Option, Some, None, IsSome, option_map, is_some, slice_get, nat_le, nat_lt, ◌==◌, ◌&&◌, ◌||◌}
use Rattle.std.specs.Option.{option_or}
use Rattle.std.proofs.lemmas.Bool.{le-leb}
use Rattle.std.proofs.lemmas.Bool.Decides.{leb_tells}
use Rattle.std.proofs.lemmas.List.{map-append, length-replicate, get_or-replicate}
use Rattle.std.proofs.lemmas.List.Elements.{All-head, All-tail}
use Rattle.std.proofs.lemmas.Option.{slice_get_past, slice_get-get_or}
use Rattle.omf_records.specs.Inner.Names.{location_size}
use Rattle.omf_records.specs.Values.{Rec, Contents, Names, Plain, Iterated, width, location_offset, location_type}
use Rattle.omf_image.specs.Inner.Expanding.{expanded}
use Rattle.omf_image.specs.Limits.{profile_limits}
use Rattle.omf_image.specs.Overlay.{Laid, byte_of, byte_at}
use Rattle.omf_check.specs.Sound.{ModuleHolds}
use Rattle.omf_reloc.specs.Inner.Pieces.{single_pieces}
use Rattle.omf_reloc.specs.Inner.ReachSteps.{data_place}
use Rattle.omf_reloc.specs.Laws.{location_end, AreInside}
use Rattle.omf_reloc.specs.Plain.{Piece, Kept, Fixed, End, PlainFixup, pieces, fixups_of_data}
use Rattle.omf_finding.specs.Pattern.{Unplaced, unplaced, unplaced_contents, touches, is_open, pattern_by, pattern_at, pattern}
use Rattle.omf_finding.specs.declared.patterning.PatternByte.{PatternByte}
use Rattle.omf_finding.specs.Inner.Walking.{is_marked, byte_with, raw_contents, raw_of, unmarked, marked, marked_all, all_marks}
use Rattle.omf_finding.proofs.LastLaws.{last_from, last-cons, last-append}
use Rattle.omf_finding.proofs.UnplacedLaws.{Inside, unplaced-same, all-inside}

-- ---- the byte of a mark

replicate-get : (n i : ℕ) (v : ℕ) → i < n → slice_get (replicate n v) i ≡ Some v
replicate-get n i v low = slice_get-get_or (replicate n v) i v (omega (arith, low, length-replicate n v)) ∙ ap Some (get_or-replicate n i v v low)

replicate-past : (n i : ℕ) (v : ℕ) → n ≤ i → slice_get (replicate n v) i ≡ None
replicate-past n i v high = slice_get_past (replicate n v) i (omega (arith, high, length-replicate n v))

abbrev to_zero : ℕ → ℕ
to_zero b = 0

abbrev zeros : ℕ → List ℕ
zeros n = replicate n 0

zeros-at : (xs : List ℕ) (i : ℕ) → slice_get (zeros (length xs)) i ≡ option_map to_zero (slice_get xs i)
zeros-at [] i = refl
zeros-at (x ∷ xs) zero = refl
zeros-at (x ∷ xs) (suc i) = zeros-at xs i

zero-by : (covers : Bool) (xs : List ℕ) (i : ℕ) → cond covers (slice_get (zeros (length xs)) i) None ≡ option_map to_zero (cond covers (slice_get xs i) None)
zero-by true xs i = zeros-at xs i
zero-by false xs i = refl

pub zero-of : (segment x : ℕ) (l : Laid) → byte_of segment x (unmarked l) ≡ option_map to_zero (byte_of segment x l)
zero-of segment x l = zero-by ((l.segment == segment) && nat_le l.offset x) l.bytes (x - l.offset)

some-at : (xs : List ℕ) (i : ℕ) → i < length xs → is_some (slice_get xs i) ≡ true
some-at xs i low = ap is_some (slice_get-get_or xs i 0 low)

and-none : (b : Bool) → (b && false) ≡ false
and-none true = refl
and-none false = refl

not-le : (a b : ℕ) → b < a → nat_le a b ≡ false
not-le a b low = elim (leb_tells a b) [ inl t ↦ absurd (omega (arith, low, t.1)) | inr t ↦ t.0 ]

abbrev ones : ℕ → List ℕ
ones n = replicate n 1

one-by : (e : Bool) (a o size x : ℕ) (bytes : List ℕ) → o + size ≤ length bytes
    → cond (e && nat_le (a + o) x) (slice_get (ones size) (x - (a + o))) None
    ≡ cond (is_some (cond (e && nat_le a x) (slice_get bytes (x - a)) None) && (nat_le o (x - a) && nat_lt (x - a) (o + size))) (Some 1) None
one-by false a o size x bytes inside = refl
one-by true a o size x bytes inside = elim (leb_tells (a + o) x) [
  | inl t ↦
      let from : a + o ≤ x = t.1 in
      let low : nat_le a x ≡ true = le-leb a x (omega (arith, from)) in
      let begun : nat_le o (x - a) ≡ true = le-leb o (x - a) (omega (arith, from)) in
      elim (leb_tells (o + size) (x - a)) [
        | inl u ↦
            let high : nat_lt (x - a) (o + size) ≡ false = not-le (suc (x - a)) (o + size) (omega (arith, u.1)) in
            rw (le-leb (a + o) x from, replicate-past size (x - (a + o)) 1 (omega (arith, from, u.1)), begun, high, and-none (is_some (cond (nat_le a x) (slice_get bytes (x - a)) None))) refl
        | inr u ↦
            let within : nat_lt (x - a) (o + size) ≡ true = le-leb (suc (x - a)) (o + size) (omega (arith, u.1)) in
            rw (le-leb (a + o) x from, replicate-get size (x - (a + o)) 1 (omega (arith, from, u.1)), begun, within, low, some-at bytes (x - a) (omega (arith, u.1, inside))) refl
      ]
  | inr t ↦ elim (leb_tells a x) [
    | inl u ↦
        let late : nat_le o (x - a) ≡ false = not-le o (x - a) (omega (arith, t.1, u.1)) in
        rw (t.0, late, and-none (is_some (cond (nat_le a x) (slice_get bytes (x - a)) None))) refl
    | inr u ↦ rw (t.0, u.0) refl
  ]
]

pub one-of : (segment x : ℕ) (l : Laid) (f : ℕ × PlainFixup) → location_end f ≤ length l.bytes
    → byte_of segment x (marked (l.segment, l.offset) f.1) ≡ cond (is_some (byte_of segment x l) && touches (x - l.offset) f) (Some 1) None
one-of segment x l f inside =
    one-by (l.segment == segment) l.offset (location_offset f.1.locat) (location_size (location_type f.1.locat)) x l.bytes inside

-- ---- the marks of one data record

abbrev pub marks_for : Option (ℕ × ℕ) → List (ℕ × PlainFixup) → List Laid
marks_for place fs = marked_all place (map (λ f. f.1) fs)

abbrev pub place_of : Laid → Option (ℕ × ℕ)
place_of l = Some (l.segment, l.offset)

abbrev pub marks_with : Unplaced → List Laid
marks_with u = unmarked u.laid ∷ marks_for (place_of u.laid) u.fixups

or-none : (b : Bool) → (b || false) ≡ b
or-none true = refl
or-none false = refl

or-true : (b : Bool) → (b || true) ≡ true
or-true true = refl
or-true false = refl

marked-by : (t r : Bool) (k : Option ℕ) → (is_marked (option_or (cond t (Some 1) None) k) || r) ≡ (is_marked k || (t || r))
marked-by true r k = sym (or-true (is_marked k))
marked-by false r k = refl

module _ (segment x : ℕ) (l : Laid) where
  abbrev byte : Laid → Option ℕ
  byte k = byte_of segment x k

  abbrev one_or : Bool → Option ℕ
  one_or b = cond b (Some 1) None

  abbrev i : ℕ
  i = x - l.offset

  mark-first : (f : ℕ × PlainFixup) (fs : List (ℕ × PlainFixup)) (k : Option ℕ) (b : Bool) → location_end f ≤ length l.bytes → is_some (byte l) ≡ b
      → last_from byte k (marks_for (place_of l) (f ∷ fs)) ≡ last_from byte (option_or (one_or (b && touches i f)) k) (marks_for (place_of l) fs)
  mark-first f fs k b inside e =
      last-cons byte k (marked (l.segment, l.offset) f.1) (marks_for (place_of l) fs)
      ∙ ap (λ o. last_from byte (option_or o k) (marks_for (place_of l) fs)) (one-of segment x l f inside ∙ ap (λ c. one_or (c && touches i f)) e)

  fold-none : (fs : List (ℕ × PlainFixup)) (k : Option ℕ) → AreInside (length l.bytes) fs → is_some (byte l) ≡ false → last_from byte k (marks_for (place_of l) fs) ≡ k
  fold-none [] k h e = refl
  fold-none (f ∷ fs) k h e =
      mark-first f fs k false (All-head (λ g. location_end g ≤ length l.bytes) f fs h) e ∙ fold-none fs k (All-tail (λ g. location_end g ≤ length l.bytes) f fs h) e

  fold-some : (fs : List (ℕ × PlainFixup)) (k : Option ℕ) → AreInside (length l.bytes) fs → is_some (byte l) ≡ true → is_marked (last_from byte k (marks_for (place_of l) fs)) ≡ (is_marked k || is_open fs i)
  fold-some [] k h e = sym (or-none (is_marked k))
  fold-some (f ∷ fs) k h e =
      ap is_marked (mark-first f fs k true (All-head (λ g. location_end g ≤ length l.bytes) f fs h) e)
      ∙ fold-some fs (option_or (one_or (touches i f)) k) (All-tail (λ g. location_end g ≤ length l.bytes) f fs h) e
      ∙ marked-by (touches i f) (is_open fs i) k

-- ---- all data records

abbrev with_fixups : ℕ → Unplaced → Option ℕ → Option PatternByte
with_fixups x u b = option_map (λ v. record { value = v; is_open = is_open u.fixups (x - u.laid.offset) }) b

one-record : (segment x : ℕ) (u : Unplaced) (o k : Option ℕ) (c : Option PatternByte) → Inside u → byte_with o k ≡ c
    → byte_with (option_or (byte_of segment x u.laid) o) (last_from (byte_of segment x) k (marks_with u)) ≡ option_or (pattern_by segment x u) c
one-record segment x u o k c inside h = go (byte_of segment x u.laid) refl
  where
    begun : (b : Option ℕ) → byte_of segment x u.laid ≡ b → last_from (byte_of segment x) k (marks_with u) ≡ last_from (byte_of segment x) (option_or (option_map to_zero b) k) (marks_for (place_of u.laid) u.fixups)
    begun b e =
        last-cons (byte_of segment x) k (unmarked u.laid) (marks_for (place_of u.laid) u.fixups)
        ∙ ap (λ z. last_from (byte_of segment x) (option_or z k) (marks_for (place_of u.laid) u.fixups)) (zero-of segment x u.laid ∙ ap (option_map to_zero) e)

    by : (b : Option ℕ) → byte_of segment x u.laid ≡ b → byte_with (option_or b o) (last_from (byte_of segment x) k (marks_with u)) ≡ option_or (with_fixups x u b) c
    by None e = ap (byte_with o) (begun None e ∙ fold-none segment x u.laid u.fixups k inside (ap is_some e)) ∙ h
    by (Some v) e =
        ap (λ m. let p : PatternByte = record { value = v; is_open = m } in Some p)
        (ap is_marked (begun (Some v) e) ∙ fold-some segment x u.laid u.fixups (Some 0) inside (ap is_some e))

    go : (b : Option ℕ) → byte_of segment x u.laid ≡ b → byte_with (option_or (byte_of segment x u.laid) o) (last_from (byte_of segment x) k (marks_with u)) ≡ option_or (with_fixups x u (byte_of segment x u.laid)) c
    go b e =
        ap (λ z. byte_with (option_or z o) (last_from (byte_of segment x) k (marks_with u))) e ∙ by b e ∙ ap (λ z. option_or (with_fixups x u z) c) (sym e)

all-records : (segment x : ℕ) (us : List Unplaced) (o k : Option ℕ) (c : Option PatternByte) → All Inside us → byte_with o k ≡ c
    → byte_with (last_from (byte_of segment x) o (map (λ u. u.laid) us)) (last_from (byte_of segment x) k (flat_map marks_with us)) ≡ last_from (pattern_by segment x) c us
all-records segment x [] o k c h e = e
all-records segment x (u ∷ us) o k c h e =
    ap₂ byte_with (last-cons (byte_of segment x) o u.laid (map (λ u. u.laid) us)) (last-append (byte_of segment x) k (marks_with u) (flat_map marks_with us))
    ∙ all-records segment x us (option_or (byte_of segment x u.laid) o) (last_from (byte_of segment x) k (marks_with u)) (option_or (pattern_by segment x u) c) (All-tail Inside u us h)
    (one-record segment x u o k c (All-head Inside u us h) e)
    ∙ sym (last-cons (pattern_by segment x) c u us)

-- ---- piece by piece

raw-contents : (kind : ℕ) (c : Contents) (ps : List Piece) → raw_contents kind c ≡ map (λ u. u.laid) (unplaced_contents profile_limits kind c ps)
raw-contents kind (Plain d) ps = refl
raw-contents kind (Iterated d) ps = refl
raw-contents kind _ ps = refl

raws : (ps : List Piece) → flat_map raw_of ps ≡ map (λ u. u.laid) (unplaced profile_limits ps)
raws [] = refl
raws (Kept r ∷ ps) =
    ap₂ (λ a b. a ++ b) (raw-contents r.kind r.contents ps) (raws ps) ∙ sym (map-append (λ u. u.laid) (unplaced_contents profile_limits r.kind r.contents ps) (unplaced profile_limits ps))
raws (Fixed kind fs ∷ ps) = raws ps
raws (End kind byte s ∷ ps) = raws ps

no-marks : (place : Option (ℕ × ℕ)) → marks_for place [] ≡ []
no-marks None = refl
no-marks (Some p) = refl

abbrev behind : List Piece → List Laid
behind ps = flat_map marks_with (unplaced profile_limits ps)

kept-marks : (r : Rec) (c : Contents) (place : Option (ℕ × ℕ)) (ps : List Piece) → all_marks (data_place c place) ps ≡ marks_for (data_place c place) (fixups_of_data ps) ++ behind ps
    → all_marks place (Kept (record r { contents = c }) ∷ ps) ≡ marks_for place (fixups_of_data (Kept (record r { contents = c }) ∷ ps)) ++ behind (Kept (record r { contents = c }) ∷ ps)
kept-marks r (Plain d) place ps h =
    let l : Laid = record { segment = d.segment.item; offset = d.offset.item; bytes = d.bytes } in
    ap (λ t. unmarked l ∷ t) h ∙ ap (λ t. t ++ behind (Kept (record r { contents = Plain d }) ∷ ps)) (sym (no-marks place))
kept-marks r (Iterated d) place ps h =
    let l : Laid = record { segment = d.segment.item; offset = d.offset.item; bytes = expanded (width r.kind) profile_limits d.bytes } in
    ap (λ t. unmarked l ∷ t) h ∙ ap (λ t. t ++ behind (Kept (record r { contents = Iterated d }) ∷ ps)) (sym (no-marks place))
kept-marks r (Names ns) place ps h = h
kept-marks r _ place ps h = h

tagged-marks : (kind : ℕ) (place : Option (ℕ × ℕ)) (fs : List PlainFixup) (gs : List (ℕ × PlainFixup)) → marks_for place (map (λ f. (kind, f)) fs ++ gs) ≡ marked_all place fs ++ marks_for place gs
tagged-marks kind None fs gs = refl
tagged-marks kind (Some p) [] gs = refl
tagged-marks kind (Some p) (f ∷ fs) gs = ap (λ t. marked p f ∷ t) (tagged-marks kind (Some p) fs gs)

all-marks : (place : Option (ℕ × ℕ)) (ps : List Piece) → all_marks place ps ≡ marks_for place (fixups_of_data ps) ++ behind ps
all-marks place [] = ap (λ t. t ++ behind []) (sym (no-marks place))
all-marks place (Kept r ∷ ps) = kept-marks r r.contents place ps (all-marks (data_place r.contents place) ps)
all-marks place (Fixed kind fs ∷ ps) =
    ap (λ t. marked_all place fs ++ t) (all-marks place ps) ∙ sym (append_assoc (marked_all place fs) (marks_for place (fixups_of_data ps)) (behind ps))
    ∙ ap (λ t. t ++ behind ps) (sym (tagged-marks kind place fs (fixups_of_data ps)))
all-marks place (End kind byte s ∷ ps) = all-marks place ps

pub marks-are-pattern : (m : List Rec) → ModuleHolds profile_limits m → (segment x : ℕ)
    → byte_with (byte_at (flat_map raw_of (single_pieces m)) segment x) (byte_at (all_marks None (single_pieces m)) segment x) ≡ pattern profile_limits m segment x
marks-are-pattern m holds segment x =
    ap₂ (λ a b. byte_with (byte_at a segment x) (byte_at b segment x)) (raws (single_pieces m)) (all-marks None (single_pieces m))
    ∙ all-records segment x (unplaced profile_limits (single_pieces m)) None None None (subst (All Inside) (sym (unplaced-same profile_limits (pieces m))) (all-inside m holds)) refl
    ∙ ap (λ us. pattern_at us segment x) (unplaced-same profile_limits (pieces m))

-- ---- there are marks exactly where there are bytes

or-some : (o k : Option ℕ) → IsSome k → IsSome (option_or o k)
or-some None k h = h
or-some (Some v) k h = refl

kept-some : (f : Laid → Option ℕ) (ls : List Laid) (k : Option ℕ) → IsSome k → IsSome (last_from f k ls)
kept-some f [] k h = h
kept-some f (l ∷ ls) k h = subst IsSome (sym (last-cons f k l ls)) (kept-some f ls (option_or (f l) k) (or-some (f l) k h))

zeroed : (b o k : Option ℕ) → (IsSome o → IsSome k) → IsSome (option_or b o) → IsSome (option_or (option_map to_zero b) k)
zeroed None o k h e = h e
zeroed (Some v) o k h e = refl

module _ (segment x : ℕ) where
  marks-begun : (u : Unplaced) (k : Option ℕ) → last_from (byte_of segment x) k (marks_with u) ≡ last_from (byte_of segment x) (option_or (option_map to_zero (byte_of segment x u.laid)) k) (marks_for (place_of u.laid) u.fixups)
  marks-begun u k =
      last-cons (byte_of segment x) k (unmarked u.laid) (marks_for (place_of u.laid) u.fixups)
      ∙ ap (λ z. last_from (byte_of segment x) (option_or z k) (marks_for (place_of u.laid) u.fixups)) (zero-of segment x u.laid)

  record-covers : (u : Unplaced) (o k : Option ℕ) → (IsSome o → IsSome k) → IsSome (option_or (byte_of segment x u.laid) o) → IsSome (last_from (byte_of segment x) k (marks_with u))
  record-covers u o k h e =
      subst IsSome (sym (marks-begun u k))
      (kept-some (byte_of segment x) (marks_for (place_of u.laid) u.fixups) (option_or (option_map to_zero (byte_of segment x u.laid)) k) (zeroed (byte_of segment x u.laid) o k h e))

  record-marked : (u : Unplaced) (o k : Option ℕ) → Inside u → (IsSome k → IsSome o) → IsSome (last_from (byte_of segment x) k (marks_with u)) → IsSome (option_or (byte_of segment x u.laid) o)
  record-marked u o k inside h s = by (byte_of segment x u.laid) refl
    where
      by : (b : Option ℕ) → byte_of segment x u.laid ≡ b → IsSome (option_or (byte_of segment x u.laid) o)
      by (Some v) e = subst (λ z. IsSome (option_or z o)) (sym e) refl
      by None e =
          let same : last_from (byte_of segment x) k (marks_with u) ≡ k =
          marks-begun u k ∙ ap (λ z. last_from (byte_of segment x) (option_or (option_map to_zero z) k) (marks_for (place_of u.laid) u.fixups)) e ∙ fold-none segment x u.laid u.fixups k inside (ap is_some e) in
          subst (λ z. IsSome (option_or z o)) (sym e) (h (subst IsSome same s))

  all-covered : (us : List Unplaced) (o k : Option ℕ) → (IsSome o → IsSome k) → IsSome (last_from (byte_of segment x) o (map (λ u. u.laid) us)) → IsSome (last_from (byte_of segment x) k (flat_map marks_with us))
  all-covered [] o k h e = h e
  all-covered (u ∷ us) o k h e =
      subst IsSome (sym (last-append (byte_of segment x) k (marks_with u) (flat_map marks_with us)))
      (all-covered us (option_or (byte_of segment x u.laid) o) (last_from (byte_of segment x) k (marks_with u)) (record-covers u o k h)
      (subst IsSome (last-cons (byte_of segment x) o u.laid (map (λ u. u.laid) us)) e))

  all-marked : (us : List Unplaced) (o k : Option ℕ) → All Inside us → (IsSome k → IsSome o) → IsSome (last_from (byte_of segment x) k (flat_map marks_with us)) → IsSome (last_from (byte_of segment x) o (map (λ u. u.laid) us))
  all-marked [] o k a h e = h e
  all-marked (u ∷ us) o k a h e =
      subst IsSome (sym (last-cons (byte_of segment x) o u.laid (map (λ u. u.laid) us)))
      (all-marked us (option_or (byte_of segment x u.laid) o) (last_from (byte_of segment x) k (marks_with u)) (All-tail Inside u us a) (record-marked u o k (All-head Inside u us a) h)
      (subst IsSome (last-append (byte_of segment x) k (marks_with u) (flat_map marks_with us)) e))

module _ (m : List Rec) (segment x : ℕ) where
  pub marks-cover : IsSome (byte_at (flat_map raw_of (single_pieces m)) segment x) → IsSome (byte_at (all_marks None (single_pieces m)) segment x)
  marks-cover e =
      subst (λ ls. IsSome (byte_at ls segment x)) (sym (all-marks None (single_pieces m)))
      (all-covered segment x (unplaced profile_limits (single_pieces m)) None None (λ h. h) (subst (λ ls. IsSome (byte_at ls segment x)) (raws (single_pieces m)) e))

  pub marks-only : ModuleHolds profile_limits m → IsSome (byte_at (all_marks None (single_pieces m)) segment x) → IsSome (byte_at (flat_map raw_of (single_pieces m)) segment x)
  marks-only holds e =
      subst (λ ls. IsSome (byte_at ls segment x)) (sym (raws (single_pieces m)))
      (all-marked segment x (unplaced profile_limits (single_pieces m)) None None (subst (All Inside) (sym (unplaced-same profile_limits (pieces m))) (all-inside m holds)) (λ h. h)
      (subst (λ ls. IsSome (byte_at ls segment x)) (all-marks None (single_pieces m)) e))
