-- A placement reaches exactly if it has no fault of reach.
use Rattle.std.proofs.Common.{◌≡◌, ℕ, zero, suc, ◌+◌, ◌≤◌, List, [], ◌∷◌, ◌++◌, refl, sym, ◌∙◌, ap, ap₂, Bool, true, false, cond, length, arith, length-append}
use Rattle.std.specs.Prelude.{All, map, flat_map, filter_map, zip, slice_get, option_to_list, is_some, Option, Some, None, ◌==◌, ◌&&◌, nat_lt}
use Rattle.std.specs.List.{enumerate_from, cons_option}
use Rattle.std.proofs.lemmas.Bool.{ltb-false, le-ltb, eqb-true, eq-eqb, and_parts, and_from, true≢false, false≢true}
use Rattle.std.proofs.lemmas.List.{length-map}
use Rattle.std.proofs.lemmas.List.Elements.{All-nil, All-cons, All-head, All-tail}
use Rattle.std.proofs.lemmas.Option.{none-some, same_Some}
use Rattle.std.specs.Result.{result_err}
use Rattle.omf_frame.specs.Bytes.{with_before, up_to}
use Rattle.omf_records.specs.Values.{At, Rec, Contents, Plain, Iterated, Fixups, ModEnd, Subrecord, Thread, Fixup}
use Rattle.omf_check.specs.Tables.{segments, subrecords, entry}
use Rattle.omf_check.specs.Threads.{PlainReference}
use Rattle.omf_check.specs.declared.segment.SegInfo.{SegInfo}
use Rattle.omf_reloc.specs.Inner.Names.{plain_fixups, extra, missing, far_fault, reach_faults, given, all_kinds, lies_at, causes_at}
use Rattle.omf_reloc.specs.declared.fault.Cause.{Cause}
use Rattle.omf_reloc.specs.declared.fault.Kind.{Kind}
use Rattle.omf_reloc.specs.declared.fault.Kind.TheVariants as kinds
use Rattle.omf_reloc.specs.declared.fault.ReachFault.{ReachFault}
use Rattle.omf_reloc.specs.declared.fault.ReachFault.TheVariants as fault
use Rattle.omf_placement.proofs.NamedLaws.{entry-suc}
use Rattle.omf_reloc.specs.Laws.{AllReach, Fits, ReachIsDecided}
use Rattle.omf_reloc.specs.Offsets.{outcome}
use Rattle.omf_placement.specs.declared.frame.Placed.{Placed}
use Rattle.omf_placement.specs.Placement.{Places, absolute_place}
use Rattle.omf_reloc.specs.Plain.{Piece, Kept, Fixed, End, PlainFixup, piece_of, pieces, plain_fixup, fixups_of_data, fixups_in, data_of, data_contents}
use Rattle.omf_reloc.specs.Reach.{causes, piece_causes, fixup_place, reference_places, all_reference_places, entries, misplaced, misfits, far_faults, Reaches}

abbrev piece_at : List Rec → Rec → List Piece
piece_at before r = piece_of (subrecords before) r.kind r.contents ∷ []

-- References: a fixup each, and the start.
abbrev refs : Piece → ℕ
refs (Kept r) = 0
refs (Fixed kind fs) = length fs
refs (End kind byte None) = 0
refs (End kind byte (Some r)) = 1

abbrev total : List Piece → ℕ
total [] = 0
total (p ∷ ps) = refs p + total ps

abbrev is_data : Piece → Bool
is_data p = is_some (data_of p)

-- There is a cause, or none, for each fixup after a data record and for the start.
module _ (pl : Places) where
  data-causes : (r : Rec) (c : Contents) (ps : List Piece)
      → length (causes_at pl (data_contents c) ps) + length (flat_map fixups_in (cond (is_some (data_contents c)) [] (Kept r ∷ up_to is_data ps))) ≤ length (fixups_of_data ps)
  data-causes r (Plain d) ps = omega (arith, length-map (fixups_of_data ps) (λ f. result_err (outcome pl d f)))
  data-causes r (Iterated d) ps = omega (arith, length-map (fixups_of_data ps) (λ f. result_err (outcome pl d f)))
  data-causes r _ ps = omega arith

  end-causes : (kind byte : ℕ) (s : Option PlainReference) (ps : List Piece) → length (piece_causes pl (End kind byte s) ps) ≡ refs (End kind byte s)
  end-causes kind byte None ps = refl
  end-causes kind byte (Some r) ps = refl

  length-causes : (ps : List Piece) → length (causes pl ps) + length (fixups_of_data ps) ≤ total ps
  length-causes [] = omega arith
  length-causes (Kept r ∷ ps) = omega (arith, length-causes ps, data-causes r r.contents ps, length-append (causes_at pl (data_contents r.contents) ps) (causes pl ps))
  length-causes (Fixed kind fs ∷ ps) = omega (arith, length-causes ps, length-append (map (λ f. (kind, f)) fs) (fixups_of_data ps), length-map {B = ℕ × PlainFixup} fs (λ f. (kind, f)))
  length-causes (End kind byte s ∷ ps) = omega (arith, length-causes ps, length-append (piece_causes pl (End kind byte s) ps) (causes pl ps), end-causes kind byte s ps)

-- And a place for each reference.
fixup-places : (earlier : List Subrecord) (within : ℕ) (s : Subrecord) → length (option_to_list (fixup_place within s)) ≡ length (plain_fixup earlier s)
fixup-places earlier within (Thread byte datum) = refl
fixup-places earlier within (Fixup locat r) = refl

length-cons_option : {A : Type 0} (o : Option A) (xs : List A) → length (cons_option o xs) ≡ length (option_to_list o) + length xs
length-cons_option None xs = omega arith
length-cons_option (Some x) xs = omega arith

pub fixups-places : (earlier : List Subrecord) (subs : List (At Subrecord)) → length (filter_map (λ s. fixup_place s.within s.item) subs) ≡ length (plain_fixups earlier subs)
fixups-places earlier [] = refl
fixups-places earlier (s ∷ subs) = omega (
  arith,
  length-cons_option (fixup_place s.within s.item) (filter_map (λ t. fixup_place t.within t.item) subs),
  fixup-places earlier s.within s.item,
  fixups-places (earlier ++ s.item ∷ []) subs,
  length-append (plain_fixup earlier s.item) (plain_fixups (earlier ++ s.item ∷ []) subs),
)

record-places : (earlier : List Subrecord) (kind : ℕ) (c : Contents) → length (reference_places c) ≡ refs (piece_of earlier kind c)
record-places earlier kind (Fixups subs) = fixups-places earlier subs
record-places earlier kind (ModEnd byte None) = refl
record-places earlier kind (ModEnd byte (Some r)) = refl
record-places earlier kind _ = refl

abbrev numbered_places : ℕ × Rec → List (ℕ × ℕ)
numbered_places p = map (λ within. (p.0, within)) (reference_places p.1.contents)

length-places : (k : ℕ) (before m : List Rec) → length (flat_map numbered_places (enumerate_from k m)) ≡ total (with_before piece_at before m)
length-places k before [] = refl
length-places k before (r ∷ m) = omega (
  arith,
  length-append (numbered_places (k, r)) (flat_map numbered_places (enumerate_from (k + 1) m)),
  length-map {B = ℕ × ℕ} (reference_places r.contents) (λ within. (k, within)),
  record-places (subrecords before) r.kind r.contents,
  length-places (k + 1) (before ++ r ∷ []) m,
)

causes-places : (pl : Places) (m : List Rec) → length (causes pl (pieces m)) ≤ length (all_reference_places m)
causes-places pl m = omega (arith, length-causes pl (pieces m), length-places 0 [] m)

-- Lists that are empty together.
pub nil-left : {A : Type 0} (xs ys : List A) → xs ++ ys ≡ [] → xs ≡ []
nil-left [] ys h = refl
nil-left (x ∷ xs) ys h = absurd (omega (arith, ap length h))

pub nil-right : {A : Type 0} (xs ys : List A) → xs ++ ys ≡ [] → ys ≡ []
nil-right [] ys h = h
nil-right (x ∷ xs) ys h = absurd (omega (arith, ap length h))

pub nil-both : {A : Type 0} (xs ys : List A) → xs ≡ [] → ys ≡ [] → xs ++ ys ≡ []
nil-both xs ys h k = ap₂ (λ x y. x ++ y) h k

not-one : {A : Type 0} (b : Bool) (x : A) → cond b (x ∷ []) [] ≡ [] → b ≡ false
not-one true x h = absurd (omega (arith, ap length h))
not-one false x h = refl

none-one : {A : Type 0} (b : Bool) (x : A) → b ≡ false → cond b (x ∷ []) [] ≡ []
none-one true x e = absurd (true≢false e)
none-one false x e = refl

pub first-none : {A : Type 0} (xs : List A) → slice_get xs 0 ≡ None → xs ≡ []
first-none [] h = refl
first-none (x ∷ xs) h = absurd (none-some x (sym h))

-- The lengths.
pub same-count : (k j : Kind) (n given : ℕ) → missing k n given ≡ [] → extra j n given ≡ [] → given ≡ n
same-count k j n given h g = omega (arith, ltb-false given n (not-one (nat_lt given n) (fault.Missing k (given + 1)) h), ltb-false n given (not-one (nat_lt n given) (fault.Extra j (n + 1)) g))

no-missing : (k : Kind) (n given : ℕ) → given ≡ n → missing k n given ≡ []
no-missing k n given e = none-one (nat_lt given n) (fault.Missing k (given + 1)) (le-ltb given n (omega (arith, e)))

no-extra : (k : Kind) (n given : ℕ) → given ≡ n → extra k n given ≡ []
no-extra k n given e = none-one (nat_lt n given) (fault.Extra k (n + 1)) (le-ltb n given (omega (arith, e)))

-- The absolute segments.
lies-from : (p : Option Placed) (q : Placed) → lies_at p q ≡ true → p ≡ Some q
lies-from None q h = absurd (false≢true h)
lies-from (Some p) q h =
    let one = and_parts ((p.address == q.address) && (p.frame.base == q.frame.base)) (p.frame.selector == q.frame.selector) h in
    let two = and_parts (p.address == q.address) (p.frame.base == q.frame.base) one.0 in
    ap (λ a. Some (record p { address = a })) (eqb-true p.address q.address two.0)
    ∙ ap (λ b. Some (record q { frame = record { base = b; selector = p.frame.selector } })) (eqb-true p.frame.base q.frame.base two.1)
    ∙ ap (λ s. Some (record q { frame = record { base = q.frame.base; selector = s } })) (eqb-true p.frame.selector q.frame.selector one.1)

lies-itself : (q : Placed) → lies_at (Some q) q ≡ true
lies-itself q = and_from _ _ (and_from _ _ (eq-eqb q.address q.address refl) (eq-eqb q.frame.base q.frame.base refl)) (eq-eqb q.frame.selector q.frame.selector refl)

unless-lies : {A : Type 0} (b : Bool) (x : A) → cond b [] (x ∷ []) ≡ [] → b ≡ true
unless-lies true x h = refl
unless-lies false x h = absurd (omega (arith, ap length h))

lies-none : {A : Type 0} (b : Bool) (x : A) → b ≡ true → cond b [] (x ∷ []) ≡ []
lies-none true x e = refl
lies-none false x e = absurd (false≢true e)

misplaced-from : (pl : Places) (i : ℕ) (o : Option (ℕ × ℕ)) (number offset : ℕ) → o ≡ Some (number, offset) → misplaced pl i o ≡ []
    → entry pl.segments i ≡ Some (absolute_place number offset)
misplaced-from pl i None number offset e h = absurd (none-some (number, offset) e)
misplaced-from pl i (Some a) number offset e h =
    lies-from (entry pl.segments i) (absolute_place a.0 a.1) (unless-lies (lies_at (entry pl.segments i) (absolute_place a.0 a.1)) (fault.Absolute i) h)
    ∙ ap (λ b. Some (absolute_place b.0 b.1)) (same_Some a (number, offset) e)

misplaced-to : (pl : Places) (i : ℕ) (o : Option (ℕ × ℕ)) → ((number offset : ℕ) → o ≡ Some (number, offset) → entry pl.segments i ≡ Some (absolute_place number offset))
    → misplaced pl i o ≡ []
misplaced-to pl i None h = refl
misplaced-to pl i (Some a) h =
    lies-none (lies_at (entry pl.segments i) (absolute_place a.0 a.1)) (fault.Absolute i)
    (ap (λ p. lies_at p (absolute_place a.0 a.1)) (h a.0 a.1 refl) ∙ lies-itself (absolute_place a.0 a.1))

abbrev misplaced_all : Places → ℕ → List SegInfo → List ReachFault
misplaced_all pl k infos = flat_map (λ s. misplaced pl s.0 s.1.absolute) (enumerate_from k infos)

all-from : (pl : Places) (k : ℕ) (infos : List SegInfo) → misplaced_all pl k infos ≡ [] → (j number offset : ℕ) (info : SegInfo) → slice_get infos j ≡ Some info → info.absolute ≡ Some (number, offset)
    → entry pl.segments (k + j) ≡ Some (absolute_place number offset)
all-from pl k [] h j number offset info e g = absurd (none-some info e)
all-from pl k (s ∷ infos) h zero number offset info e g =
    ap (entry pl.segments) (omega arith) ∙ misplaced-from pl k s.absolute number offset (ap (λ i. i.absolute) (same_Some s info e) ∙ g) (nil-left (misplaced pl k s.absolute) (misplaced_all pl (k + 1) infos) h)
all-from pl k (s ∷ infos) h (suc j) number offset info e g =
    ap (entry pl.segments) (omega arith) ∙ all-from pl (k + 1) infos (nil-right (misplaced pl k s.absolute) (misplaced_all pl (k + 1) infos) h) j number offset info e g

all-to : (pl : Places) (k : ℕ) (infos : List SegInfo) → ((j number offset : ℕ) (info : SegInfo) → slice_get infos j ≡ Some info → info.absolute ≡ Some (number, offset) → entry pl.segments (k + j) ≡ Some (absolute_place number offset))
    → misplaced_all pl k infos ≡ []
all-to pl k [] h = refl
all-to pl k (s ∷ infos) h = nil-both (misplaced pl k s.absolute) (misplaced_all pl (k + 1) infos)
    (misplaced-to pl k s.absolute (λ number offset e. ap (entry pl.segments) (omega arith) ∙ h 0 number offset s refl e))
    (all-to pl (k + 1) infos (λ j number offset info e g. ap (entry pl.segments) (omega arith) ∙ h (suc j) number offset info e g))

absolute-from : (pl : Places) (m : List Rec) → misplaced_all pl 1 (segments m) ≡ []
    → (i number offset : ℕ) (info : SegInfo) → entry (segments m) i ≡ Some info → info.absolute ≡ Some (number, offset) → entry pl.segments i ≡ Some (absolute_place number offset)
absolute-from pl m h zero number offset info e g = absurd (none-some info e)
absolute-from pl m h (suc j) number offset info e g =
    ap (entry pl.segments) (omega arith) ∙ all-from pl 1 (segments m) h j number offset info (sym (entry-suc (segments m) j) ∙ e) g

-- What each kind has none of, and all kinds.
none-of : (f : Kind → List ReachFault) → flat_map f all_kinds ≡ [] → (k : Kind) → f k ≡ []
none-of f h kinds.Segment = nil-left (f kinds.Segment) (f kinds.Group ++ (f kinds.External ++ [])) h
none-of f h kinds.Group = nil-left (f kinds.Group) (f kinds.External ++ []) (nil-right (f kinds.Segment) (f kinds.Group ++ (f kinds.External ++ [])) h)
none-of f h kinds.External =
    nil-left (f kinds.External) [] (nil-right (f kinds.Group) (f kinds.External ++ []) (nil-right (f kinds.Segment) (f kinds.Group ++ (f kinds.External ++ [])) h))

none-at-all : (f : Kind → List ReachFault) → ((k : Kind) → f k ≡ []) → flat_map f all_kinds ≡ []
none-at-all f h =
    nil-both (f kinds.Segment) (f kinds.Group ++ (f kinds.External ++ [])) (h kinds.Segment)
    (nil-both (f kinds.Group) (f kinds.External ++ []) (h kinds.Group) (nil-both (f kinds.External) [] (h kinds.External) refl))

module _ (pl : Places) (m : List Rec) where
  abbrev missed : Kind → List ReachFault
  missed k = missing k (entries m k) (given pl k)

  abbrev added : Kind → List ReachFault
  added k = extra k (entries m k) (given pl k)

  abbrev counted : List ReachFault
  counted = flat_map missed all_kinds ++ flat_map added all_kinds

  -- the placement has as many entries of each kind as the module
  pub counts-same : counted ≡ [] → (k : Kind) → given pl k ≡ entries m k
  counts-same h k =
      same-count k k (entries m k) (given pl k)
      (none-of missed (nil-left (flat_map missed all_kinds) (flat_map added all_kinds) h) k) (none-of added (nil-right (flat_map missed all_kinds) (flat_map added all_kinds) h) k)

  pub counts-fit : ((k : Kind) → given pl k ≡ entries m k) → counted ≡ []
  counts-fit h =
      nil-both (flat_map missed all_kinds) (flat_map added all_kinds)
      (none-at-all missed (λ k. no-missing k (entries m k) (given pl k) (h k))) (none-at-all added (λ k. no-extra k (entries m k) (given pl k) (h k)))

  fits-from : misfits pl m ≡ [] → Fits pl m
  fits-from h =
      let same = counts-same (nil-left counted (misplaced_all pl 1 (segments m)) h) in
      record {
        segment_count = same kinds.Segment;
        group_count = same kinds.Group;
        external_count = same kinds.External;
        absolute = absolute-from pl m (nil-right counted (misplaced_all pl 1 (segments m)) h);
      }

  counts-of : Fits pl m → (k : Kind) → given pl k ≡ entries m k
  counts-of fit kinds.Segment = fit.segment_count
  counts-of fit kinds.Group = fit.group_count
  counts-of fit kinds.External = fit.external_count

  pub fits-to : Fits pl m → misfits pl m ≡ []
  fits-to fit =
      nil-both counted (misplaced_all pl 1 (segments m)) (counts-fit (counts-of fit))
      (all-to pl 1 (segments m) (λ j number offset info e g. ap (entry pl.segments) (omega arith) ∙ fit.absolute (suc j) number offset info (entry-suc (segments m) j ∙ e) g))

-- The references.
abbrev IsFine : Option Cause → Type 0
IsFine c = c ≡ None

far-from : (ps : List (ℕ × ℕ)) (cs : List (Option Cause)) → length cs ≤ length ps → filter_map far_fault (zip ps cs) ≡ [] → All IsFine cs
far-from ps [] l h = All-nil IsFine
far-from [] (c ∷ cs) l h = absurd (omega (arith, l))
far-from (p ∷ ps) (None ∷ cs) l h = All-cons IsFine None cs refl (far-from ps cs (omega (arith, l)) h)
far-from (p ∷ ps) (Some c ∷ cs) l h = absurd (omega (arith, ap length h))

far-to : (ps : List (ℕ × ℕ)) (cs : List (Option Cause)) → All IsFine cs → filter_map far_fault (zip ps cs) ≡ []
far-to [] cs h = refl
far-to (p ∷ ps) [] h = refl
far-to (p ∷ ps) (None ∷ cs) h = far-to ps cs (All-tail IsFine None cs h)
far-to (p ∷ ps) (Some c ∷ cs) h = absurd (none-some c (sym (All-head IsFine (Some c) cs h)))

reaches-from : (pl : Places) (m : List Rec) → Reaches pl m → AllReach pl m
reaches-from pl m h =
    let none = first-none (reach_faults pl m) h in
    record {
      fits = fits-from pl m (nil-left (misfits pl m) (far_faults pl m) none);
      each = far-from (all_reference_places m) (causes pl (pieces m)) (causes-places pl m) (nil-right (misfits pl m) (far_faults pl m) none);
    }

reaches-to : (pl : Places) (m : List Rec) → AllReach pl m → Reaches pl m
reaches-to pl m r = ap (λ l. slice_get l 0) (nil-both (misfits pl m) (far_faults pl m) (fits-to pl m r.fits) (far-to (all_reference_places m) (causes pl (pieces m)) r.each))

pub reach-decided : (pl : Places) (m : List Rec) → ReachIsDecided pl m
reach-decided pl m = record { decided = (reaches-from pl m, reaches-to pl m); places = causes-places pl m }
