-- Which lines of a draft share the frame of the first line of their name.
use Rattle.std.proofs.Common.{◌≡◌, ℕ, zero, suc, ◌+◌, ◌<◌, ◌≤◌, Bool, true, false, ◌&&◌, List, [], ◌∷◌, ◌++◌, length, take, drop, get_or, refl, sym, ap, ap₂, subst, ◌∙◌, inl, inr, append_assoc, append-nil, arith}
use Rattle.std.specs.Prelude.{map, flat_map, zip, find, Option, Some, None, option_and_then, option_map, slice_get, not, ◌==◌, ◌||◌, if◌then◌else◌}
use Rattle.std.specs.BTreeMap.{BTreeMap}
use Rattle.std.specs.Global.{Vec}
use Rattle.std.specs.List.{AllZip, enumerate_from, list_any}
use Rattle.std.specs.Option.{option_or}
use Rattle.std.proofs.Math.Seq.{drop-nil}
use Rattle.std.proofs.lemmas.Bool.{and_from, and_parts, cases_Bool, cond-true, cond-false, eq-eqb, false≢true, ne_eqb, or_parts}
use Rattle.std.proofs.lemmas.Grind.{flat_map-append}
use Rattle.std.proofs.lemmas.List.{length-map, take-append-drop, take_all}
use Rattle.std.proofs.lemmas.List.Folds.{list_any-append}
use Rattle.std.proofs.lemmas.List.FromFn.{length-enumerate_from}
use Rattle.std.proofs.lemmas.Option.{none-some, same_Some, slice_get-get_or, slice_get-map}
use Rattle.std.proofs.lemmas.Slice.Zip.{AllZip-long}
use Rattle.omf_records.specs.Values.{Rec}
use Rattle.omf_check.specs.Module.{Module, records_in, typed_modules}
use Rattle.omf_check.specs.Tables.{entry, groups, segments}
use Rattle.omf_check.specs.WellFormed.{recs}
use Rattle.omf_placement.specs.declared.frame.Frame.{Frame}
use Rattle.omf_placement.specs.declared.frame.Placed.{Placed}
use Rattle.omf_placement.specs.Placement.{Places}
use Rattle.omf_placement.proofs.ListLaws.{entry-at, next-at}
use Rattle.omf_linking.specs.Inner.Sharing.{shared_after, shares_seen}
use Rattle.omf_linking.specs.Inner.Titling.{IsFrameTable}
use Rattle.omf_linking.specs.Locator.Drafted.{HasEntries, Shared, Sharing, all_groups, all_parts, all_segments, all_shared, groups_framed, is_part, is_same, is_same_part, is_sharing, parts_framed, segments_framed, shared_by, sharing, sharing_of}
use Rattle.omf_linking.specs.Locator.Items.{Title, first_titled, in_quotes, is_titled, segment_title, shared_frame}
use Rattle.omf_linking.specs.Locator.Laws.{DraftsShareFrames}
use Rattle.omf_linking.specs.declared.locator.shares.Shares.{Shares}
use Rattle.omf_linking.proofs.KeyLaws.{more-in}
use Rattle.omf_linking.proofs.ItemLaws.{first-of-all}

abbrev pub Framed : Type 0
Framed = (ℕ × ℕ) × Option Frame

abbrev pub Kept : Type 0
Kept = BTreeMap (Vec ℕ) (Option Frame)

-- ---- lines of other entries

abbrev pub is_at : ℕ → ℕ → Framed → Bool
is_at a i g = (g.0.0 == a) && (g.0.1 == i)

-- No line is that of module a from its entry s on; or of any module from the one with number a on.
abbrev pub IsFree : List Framed → ℕ → ℕ → Type 0
IsFree gs a s = (i : ℕ) → s ≤ i → list_any (is_at a i) gs ≡ false

abbrev pub IsClear : List Framed → ℕ → Type 0
IsClear gs n = (a i : ℕ) → n ≤ a → list_any (is_at a i) gs ≡ false

found-other : (p q : Framed → Bool) (gs : List Framed) (x : Framed) → list_any q gs ≡ false → find p gs ≡ Some x → q x ≡ false
found-other p q [] x h e = absurd (none-some x e)
found-other p q (y ∷ ys) x h e =
    let k = or_parts (q y) (list_any q ys) h in
    elim (cases_Bool (p y)) [
      | inl t ↦ subst (λ z. q z ≡ false) (same_Some y x (sym (cond-true (p y) (Some y) (find p ys) t) ∙ e)) k.0
      | inr t ↦ found-other p q ys x k.1 (sym (cond-false (p y) (Some y) (find p ys) t) ∙ e)
    ]

same-module : (j s i : ℕ) → s < i → ((j == j) && (s == i)) ≡ false
same-module j s i low = ap₂ (λ a b. a && b) (eq-eqb j j refl) (ne_eqb s i (λ e. absurd (omega (arith, e, low))))

other-module : (j a s i : ℕ) → j < a → ((j == a) && (s == i)) ≡ false
other-module j a s i low = ap (λ b. b && (s == i)) (ne_eqb j a (λ e. absurd (omega (arith, e, low))))

free-more : (gs : List Framed) (j s : ℕ) (o : Option Frame) → IsFree gs j s → IsFree (gs ++ ((j, s), o) ∷ []) j (s + 1)
free-more gs j s o free i low =
    list_any-append (is_at j i) gs (((j, s), o) ∷ []) ∙ ap₂ (λ a b. a || (b || false)) (free i (omega (arith, low))) (same-module j s i (omega (arith, low)))

-- ---- the lines of the segments, or of the groups, of a module: all that are parts have a frame

abbrev pub part_of : Bool → Frame → Option Frame
part_of b f = if b then Some f else None

abbrev pub framed : {V : Type 0} → (V → Frame) → (ℕ → Bool) → ℕ → ℕ → List V → List Framed
framed frame part j s vs = map (λ y. ((j, y.0), part_of (part y.0) (frame y.1))) (enumerate_from s vs)

first-shares : (j i : ℕ) (f : Frame) (o : Option Framed) → ((g : Framed) → o ≡ Some g → is_at j i g ≡ false) → is_same (option_and_then (λ g. g.1) o) f ≡ is_sharing (j, i) f (option_or o (Some ((j, i), Some f)))
first-shares j i f None h = sym (ap (λ b. not b && is_same (Some f) f) (and_from (j == j) (i == i) (eq-eqb j j refl) (eq-eqb i i refl)))
first-shares j i f (Some g) h = sym (ap (λ b. not b && is_same g.1 f) (h g refl))

module _ (title : List Rec → ℕ → Title) (ms : List (List Rec)) (j : ℕ) (m : List Rec) (here : slice_get ms j ≡ Some m) where
  shares-here : (i : ℕ) (f : Frame) (b : Bool) (gs later all : List Framed) → list_any (is_at j i) gs ≡ false → all ≡ gs ++ ((j, i), part_of b f) ∷ later
      → is_same_part (shared_frame title ms (in_quotes (title m i)) gs) (part_of b f) ≡ (b && sharing title ms all j m i f)
  shares-here i f false gs later all free split = refl
  shares-here i f true gs later all free split =
      let own = in_quotes (title m i) in
      first-shares j i f (first_titled title ms own gs) (λ g e. found-other (λ x. is_titled title ms own x.0) (is_at j i) gs g free e)
      ∙ sym (ap (is_sharing (j, i) f) (first-of-all title ms j i m f here gs later all split))

  -- What is computed line by line is what is so in all lines.
  pub shares-are : {V : Type 0} (frame : V → Frame) (part : ℕ → Bool) (s : ℕ) (vs : List V) (gs later all : List Framed) → IsFree gs j s → all ≡ gs ++ (framed frame part j s vs ++ later)
      → shared_after title ms gs m (framed frame part j s vs) ≡ map (λ y. part y.0 && sharing title ms all j m y.0 (frame y.1)) (enumerate_from s vs)
  shares-are frame part s [] gs later all free split = refl
  shares-are frame part s (v ∷ vs) gs later all free split =
      let o = part_of (part s) (frame v) in
      let x : Framed = ((j, s), o) in
      let rest = framed frame part j (s + 1) vs in
      ap₂ (λ a b. a ∷ b) (shares-here s (frame v) (part s) gs (rest ++ later) all (free s (omega arith)) split)
      (shares-are frame part (s + 1) vs (gs ++ x ∷ []) later all (free-more gs j s o free) (split ∙ sym (append_assoc gs (x ∷ []) (rest ++ later))))

none-in : {V : Type 0} (frame : V → Frame) (part : ℕ → Bool) (j s : ℕ) (vs : List V) (a i : ℕ) → j < a → list_any (is_at a i) (framed frame part j s vs) ≡ false
none-in frame part j s [] a i low = refl
none-in frame part j s (v ∷ vs) a i low = ap₂ (λ p q. p || q) (other-module j a s i low) (none-in frame part j (s + 1) vs a i low)

pub clear-more : {V : Type 0} (frame : V → Frame) (part : ℕ → Bool) (j : ℕ) (vs : List V) (gs : List Framed) → IsClear gs j → IsClear (gs ++ framed frame part j 1 vs) (j + 1)
clear-more frame part j vs gs clear a i low =
    list_any-append (is_at a i) gs (framed frame part j 1 vs) ∙ ap₂ (λ p q. p || q) (clear a i (omega (arith, low))) (none-in frame part j 1 vs a i (omega (arith, low)))

-- The k-th of a list that is made of numbered values.
numbered-at : {A B : Type 0} (f : ℕ × A → B) (s : ℕ) (xs : List A) (k : ℕ) (x : A) → slice_get xs k ≡ Some x → slice_get (map f (enumerate_from s xs)) k ≡ Some (f (s + k, x))
numbered-at f s [] k x e = absurd (none-some x e)
numbered-at f s (y ∷ xs) zero x e = let same : s ≡ s + 0 = omega arith in ap (λ z. Some (f (s, z))) (same_Some y x e) ∙ ap (λ n. Some (f (n, x))) same
numbered-at f s (y ∷ xs) (suc k) x e = let next : s + 1 + k ≡ s + suc k = omega arith in numbered-at f (s + 1) xs k x e ∙ ap (λ n. Some (f (n, x))) next

mapped-at : {A B : Type 0} (f : ℕ × A → B) (xs : List A) (k : ℕ) (x : A) → slice_get xs k ≡ Some x → slice_get (map f (enumerate_from 1 xs)) k ≡ Some (f (k + 1, x))
mapped-at f xs k x e = let same : 1 + k ≡ k + 1 = omega arith in numbered-at f 1 xs k x e ∙ ap (λ n. Some (f (n, x))) same

pub entry-mapped : {A B : Type 0} (f : ℕ × A → B) (xs : List A) (bs : List B) (k : ℕ) (x : A) (b : B) → bs ≡ map f (enumerate_from 1 xs) → entry xs (k + 1) ≡ Some x → entry bs (k + 1) ≡ Some b → b ≡ f (k + 1, x)
entry-mapped f xs bs k x b e g h =
    same_Some b (f (k + 1, x)) (sym h ∙ ap (λ ys. entry ys (k + 1)) e ∙ entry-at (map f (enumerate_from 1 xs)) k ∙ mapped-at f xs k x (sym (entry-at xs k) ∙ g))

pub entry-framed : {V : Type 0} (frame : V → Frame) (part : ℕ → Bool) (j : ℕ) (vs : List V) (k : ℕ) (v : V) → slice_get vs k ≡ Some v → slice_get (framed frame part j 1 vs) k ≡ Some ((j, k + 1), part_of (part (k + 1)) (frame v))
entry-framed frame part j vs k v e = mapped-at (λ y. ((j, y.0), part_of (part y.0) (frame y.1))) vs k v e

pub framed-long : {V : Type 0} (frame : V → Frame) (part : ℕ → Bool) (j : ℕ) (vs : List V) → length (framed frame part j 1 vs) ≡ length vs
framed-long frame part j vs = length-map (enumerate_from 1 vs) (λ y. ((j, y.0), part_of (part y.0) (frame y.1))) ∙ length-enumerate_from 1 vs

-- ---- one line more

pub take-more : {A : Type 0} (xs : List A) (k : ℕ) (x : A) → slice_get xs k ≡ Some x → take (k + 1) xs ≡ take k xs ++ x ∷ []
take-more [] k x e = absurd (none-some x e)
take-more (y ∷ ys) zero x e = ap (λ z. z ∷ []) (same_Some y x e)
take-more (y ∷ ys) (suc k) x e =
    let same : suc k + 1 ≡ suc (k + 1) = omega arith in ap (λ n. take n (y ∷ ys)) same ∙ ap (λ zs. y ∷ zs) (take-more ys k x e)

module _ (title : List Rec → ℕ → Title) (ms : List (List Rec)) (m : List Rec) (gs all : List Framed) where
  pub next-shared : (old new : List Bool) (k : ℕ) (x : Framed) (b : Bool) (whole : List Bool) → slice_get all k ≡ Some x → new ≡ old ++ b ∷ [] → b ≡ is_same_part (shared_frame title ms (in_quotes (title m x.0.1)) (gs ++ take k all)) x.1
      → old ++ shared_after title ms (gs ++ take k all) m (drop k all) ≡ whole → new ++ shared_after title ms (gs ++ take (k + 1) all) m (drop (k + 1) all) ≡ whole
  next-shared old new k x b whole e more is h =
      let before = gs ++ take k all in
      let rest = drop (k + 1) all in
      let grown : before ++ x ∷ [] ≡ gs ++ take (k + 1) all = append_assoc gs (take k all) (x ∷ []) ∙ ap (λ t. gs ++ t) (sym (take-more all k x e)) in
      more-in old new b (shared_after title ms (gs ++ take (k + 1) all) m rest) (shared_after title ms before m (drop k all)) whole more
      (ap (shared_after title ms before m) (next-at all k x e) ∙ ap₂ (λ a g. a ∷ shared_after title ms g m rest) (sym is) grown) h

  pub next-table : (k : ℕ) (x : Framed) (t : Kept) → slice_get all k ≡ Some x → IsFrameTable title ms ((gs ++ take k all) ++ x ∷ []) t → IsFrameTable title ms (gs ++ take (k + 1) all) t
  next-table k x t e h = subst (λ g. IsFrameTable title ms g t) (append_assoc gs (take k all) (x ∷ []) ∙ ap (λ u. gs ++ u) (sym (take-more all k x e))) h

  pub first-table : (t : Kept) → IsFrameTable title ms gs t → IsFrameTable title ms (gs ++ take 0 all) t
  first-table t h = subst (λ g. IsFrameTable title ms g t) (sym (append-nil gs)) h

  pub last-table : (k : ℕ) (t : Kept) → length all ≤ k → IsFrameTable title ms (gs ++ take k all) t → IsFrameTable title ms (gs ++ all) t
  last-table k t end h = subst (λ u. IsFrameTable title ms (gs ++ u) t) (take_all k all end) h

-- ---- the lines of all modules

abbrev pub Entered : Type 0
Entered = ℕ × (List Rec × Places)

abbrev pub segments_of : Entered → List Framed
segments_of x = parts_framed x.0 x.1.0 x.1.1.segments

abbrev pub groups_of : Entered → List Framed
groups_of x = groups_framed x.0 1 x.1.1.groups

-- The table has the lines of the modules so far.
pub record IsSoFar (title : List Rec → ℕ → Title) (lines : Entered → List Framed) (ms : List (List Rec)) (zs : List Entered) (n : ℕ) (t : Kept) : Type 0 where
  pub table : IsFrameTable title ms (flat_map lines (take n zs)) t
  pub clear : IsClear (flat_map lines (take n zs)) n

module _ (title : List Rec → ℕ → Title) (lines : Entered → List Framed) (ms : List (List Rec)) (zs : List Entered) where
  pub none-so-far : (t : Kept) → IsFrameTable title ms [] t → IsSoFar title lines ms zs 0 t
  none-so-far t h = record { table = h; clear = λ a i low. refl }

  pub more-so-far : (n : ℕ) (x : Entered) (t : Kept) → slice_get zs n ≡ Some x → IsFrameTable title ms (flat_map lines (take n zs) ++ lines x) t → IsClear (flat_map lines (take n zs) ++ lines x) (n + 1) → IsSoFar title lines ms zs (n + 1) t
  more-so-far n x t e table clear =
      let grown : flat_map lines (take n zs) ++ lines x ≡ flat_map lines (take (n + 1) zs)
      = sym (ap (flat_map lines) (take-more zs n x e) ∙ flat_map-append lines (take n zs) (x ∷ []) ∙ ap (λ l. flat_map lines (take n zs) ++ l) (append-nil (lines x))) in
      record { table = subst (λ g. IsFrameTable title ms g t) grown table; clear = subst (λ g. IsClear g (n + 1)) grown clear }

pub all-split : (lines : Entered → List Framed) (zs : List Entered) (n : ℕ) (x : Entered) → slice_get zs n ≡ Some x → flat_map lines zs ≡ flat_map lines (take n zs) ++ (lines x ++ flat_map lines (drop (n + 1) zs))
all-split lines zs n x e =
    ap (flat_map lines) (sym (take-append-drop n zs)) ∙ flat_map-append lines (take n zs) (drop n zs)
    ∙ ap (λ l. flat_map lines (take n zs) ++ flat_map lines l) (next-at zs n x e)

-- The module with number n from k on, and its places.
entered-from : (k : ℕ) (ms : List (List Rec)) (pls : List Places) (n : ℕ) (m : List Rec) (pl : Places) → slice_get ms n ≡ Some m → slice_get pls n ≡ Some pl → slice_get (enumerate_from k (zip ms pls)) n ≡ Some (k + n, (m, pl))
entered-from k [] pls n m pl e g = absurd (none-some m e)
entered-from k (a ∷ ms) [] n m pl e g = absurd (none-some pl g)
entered-from k (a ∷ ms) (b ∷ pls) zero m pl e g =
    let same : k ≡ k + 0 = omega arith in ap₂ (λ u v. Some (k, (u, v))) (same_Some a m e) (same_Some b pl g) ∙ ap (λ n. Some (n, (m, pl))) same
entered-from k (a ∷ ms) (b ∷ pls) (suc n) m pl e g =
    let next : k + 1 + n ≡ k + suc n = omega arith in entered-from (k + 1) ms pls n m pl e g ∙ ap (λ n. Some (n, (m, pl))) next

pub entered : (ms : List (List Rec)) (pls : List Places) (n : ℕ) (m : List Rec) (pl : Places) → slice_get ms n ≡ Some m → slice_get pls n ≡ Some pl → slice_get (enumerate_from 0 (zip ms pls)) n ≡ Some (n, (m, pl))
entered ms pls n m pl e g = let same : 0 + n ≡ n = omega arith in entered-from 0 ms pls n m pl e g ∙ ap (λ n. Some (n, (m, pl))) same

pub none-entered : (k : ℕ) (ms : List (List Rec)) (pls : List Places) (n : ℕ) → length ms ≤ n → drop n (enumerate_from k (zip ms pls)) ≡ []
none-entered k [] pls n h = drop-nil n
none-entered k (m ∷ ms) [] n h = drop-nil n
none-entered k (m ∷ ms) (pl ∷ pls) zero h = absurd (omega (arith, h))
none-entered k (m ∷ ms) (pl ∷ pls) (suc n) h = none-entered (k + 1) ms pls n (omega (arith, h))

pub typed-slice : (ms : List Module) (j : ℕ) (m : Module) → m ≡ get_or ms j m → j < length ms → slice_get (typed_modules ms) j ≡ Some (recs (records_in m.bytes))
typed-slice [] j m e h = absurd (omega (arith, h))
typed-slice (x ∷ ms) zero m e h = ap (λ (y : Module). Some (recs (records_in y.bytes))) (sym e)
typed-slice (x ∷ ms) (suc j) m e h = typed-slice ms j m e (omega (arith, h))

pub typed-length : (ms : List Module) → length (typed_modules ms) ≡ length ms
typed-length ms = length-map ms (λ (m : Module). recs (records_in m.bytes))

pub has-at : (ms : List (List Rec)) (pls : List Places) (j : ℕ) (m : List Rec) (pl : Places) → slice_get ms j ≡ Some m → slice_get pls j ≡ Some pl → AllZip HasEntries ms pls → HasEntries m pl
has-at [] pls j m pl e g h = absurd (none-some m e)
has-at (x ∷ ms) [] j m pl e g h = absurd h
has-at (x ∷ ms) (y ∷ pls) zero m pl e g h = subst (λ v. HasEntries v pl) (same_Some x m e) (subst (HasEntries x) (same_Some y pl g) h.0)
has-at (x ∷ ms) (y ∷ pls) (suc j) m pl e g h = has-at ms pls j m pl e g h.1

pub groups-zipped : (a : ℕ) (ms : List (List Rec)) (pls : List Places) → AllZip HasEntries ms pls → flat_map groups_of (enumerate_from a (zip ms pls)) ≡ all_groups a pls
groups-zipped a [] [] has = refl
groups-zipped a [] (pl ∷ pls) has = absurd has
groups-zipped a (m ∷ ms) [] has = absurd has
groups-zipped a (m ∷ ms) (pl ∷ pls) has = ap (λ l. groups_framed a 1 pl.groups ++ l) (groups-zipped (a + 1) ms pls has.1)

-- What is computed for each module.
zip-long : (ms : List (List Rec)) (pls : List Places) → AllZip HasEntries ms pls → length (zip ms pls) ≡ length ms
zip-long [] [] has = refl
zip-long [] (pl ∷ pls) has = absurd has
zip-long (m ∷ ms) [] has = absurd has
zip-long (m ∷ ms) (pl ∷ pls) has = ap suc (zip-long ms pls has.1)

abbrev shared_in : List (List Rec) → List Places → Entered → Shared
shared_in ms pls x = shared_by (sharing_of ms pls x.0 x.1.0) x.1.1

pub shared-many : (ms : List (List Rec)) (pls : List Places) (ss : List Shares) → AllZip HasEntries ms pls → map shares_seen ss ≡ all_shared ms pls → length ss ≡ length ms
shared-many ms pls ss has e =
    sym (length-map ss shares_seen) ∙ ap length e ∙ length-map (enumerate_from 0 (zip ms pls)) (shared_in ms pls) ∙ length-enumerate_from 0 (zip ms pls) ∙ zip-long ms pls has

pub shared-at : (mods : List Module) (pls : List Places) (ss : List Shares) (n : ℕ) (s : Shares) (m : Module) (pl : Places) → map shares_seen ss ≡ all_shared (typed_modules mods) pls → s ≡ get_or ss n s → m ≡ get_or mods n m → pl ≡ get_or pls n pl
    → n < length mods → AllZip HasEntries (typed_modules mods) pls → shares_seen s ≡ shared_by (sharing_of (typed_modules mods) pls n (recs (records_in m.bytes))) pl
shared-at mods pls ss n s m pl e a b c low has =
    let ms = typed_modules mods in
    let many : n < length ss = omega (arith, low, shared-many ms pls ss has e, typed-length mods) in
    let placed : n < length pls = omega (arith, low, AllZip-long HasEntries ms pls has, typed-length mods) in
    let x : Entered = (n, (recs (records_in m.bytes), pl)) in
    let there : slice_get (enumerate_from 0 (zip ms pls)) n ≡ Some x = entered ms pls n (recs (records_in m.bytes)) pl (typed-slice mods n m b low) (slice_get-get_or pls n pl placed ∙ ap Some (sym c)) in
    same_Some (shares_seen s) (shared_in ms pls x)
    (ap (option_map shares_seen) (ap Some a ∙ sym (slice_get-get_or ss n s many)) ∙ sym (slice_get-map shares_seen ss n)
    ∙ ap (λ xs. slice_get xs n) e ∙ slice_get-map (shared_in ms pls) (enumerate_from 0 (zip ms pls)) n ∙ ap (option_map (shared_in ms pls)) there)

pub shared-long : (sh : Sharing) (m : List Rec) (pl : Places) (s : Shared) → s ≡ shared_by sh pl → HasEntries m pl → (length s.0 ≡ length (segments m)) × (length s.1 ≡ length (groups m))
shared-long sh m pl s e has = (
  ap (λ (t : Shared). length t.0) e ∙ length-map (enumerate_from 1 pl.segments) (λ y. sh.segment y.0 y.1.frame) ∙ length-enumerate_from 1 pl.segments ∙ has.segments,
  ap (λ (t : Shared). length t.1) e ∙ length-map (enumerate_from 1 pl.groups) (λ y. sh.group y.0 y.1) ∙ length-enumerate_from 1 pl.groups ∙ has.groups,
)

-- ---- what shares a frame as a part shares it

abbrev Alike : Framed → Framed → Type 0
Alike p s = (p.0 ≡ s.0) × ((f : Frame) → is_same p.1 f ≡ true → is_same s.1 f ≡ true)

alike-both : (ps ss qs ts : List Framed) → AllZip Alike ps ss → AllZip Alike qs ts → AllZip Alike (ps ++ qs) (ss ++ ts)
alike-both [] [] qs ts h k = k
alike-both [] (s ∷ ss) qs ts h k = absurd h
alike-both (p ∷ ps) [] qs ts h k = absurd h
alike-both (p ∷ ps) (s ∷ ss) qs ts h k = (h.0, alike-both ps ss qs ts h.1 k)

same-part : (b : Bool) (g f : Frame) → is_same (part_of b g) f ≡ true → is_same (Some g) f ≡ true
same-part true g f h = h
same-part false g f h = absurd (false≢true h)

parts-alike : (j s : ℕ) (m : List Rec) (ps : List Placed) → AllZip Alike (framed (λ (p : Placed). p.frame) (is_part m) j s ps) (segments_framed j s ps)
parts-alike j s m [] = tt
parts-alike j s m (p ∷ ps) = ((refl, same-part (is_part m s) p.frame), parts-alike j (s + 1) m ps)

all-alike : (a : ℕ) (ms : List (List Rec)) (pls : List Places) → AllZip HasEntries ms pls → AllZip Alike (all_parts a ms pls) (all_segments a pls)
all-alike a [] [] has = tt
all-alike a [] (pl ∷ pls) has = absurd has
all-alike a (m ∷ ms) [] has = absurd has
all-alike a (m ∷ ms) (pl ∷ pls) has =
    alike-both (parts_framed a m pl.segments) (segments_framed a 1 pl.segments) (all_parts (a + 1) ms pls) (all_segments (a + 1) pls) (parts-alike a 1 m pl.segments) (all-alike (a + 1) ms pls has.1)

sharing-alike : (test : ℕ × ℕ → Bool) (at : ℕ × ℕ) (f : Frame) (ps ss : List Framed) → AllZip Alike ps ss → is_sharing at f (find (λ g. test g.0) ps) ≡ true → is_sharing at f (find (λ g. test g.0) ss) ≡ true
sharing-alike test at f [] [] h e = e
sharing-alike test at f [] (s ∷ ss) h e = absurd h
sharing-alike test at f (p ∷ ps) [] h e = absurd h
sharing-alike test at f (p ∷ ps) (s ∷ ss) h e = elim (cases_Bool (test p.0)) [
  | inl t ↦
      let first = sym (ap (is_sharing at f) (cond-true (test p.0) (Some p) (find (λ g. test g.0) ps) t)) ∙ e in
      let k = and_parts (not ((p.0.0 == at.0) && (p.0.1 == at.1))) (is_same p.1 f) first in
      ap (is_sharing at f) (cond-true (test s.0) (Some s) (find (λ g. test g.0) ss) (ap test (sym h.0.0) ∙ t))
      ∙ and_from (not ((s.0.0 == at.0) && (s.0.1 == at.1))) (is_same s.1 f) (ap (λ (q : ℕ × ℕ). not ((q.0 == at.0) && (q.1 == at.1))) (sym h.0.0) ∙ k.0) (h.0.1 f k.1)
  | inr t ↦
      let rest = sym (ap (is_sharing at f) (cond-false (test p.0) (Some p) (find (λ g. test g.0) ps) t)) ∙ e in
      ap (is_sharing at f) (cond-false (test s.0) (Some s) (find (λ g. test g.0) ss) (ap test (sym h.0.0) ∙ t)) ∙ sharing-alike test at f ps ss h.1 rest
]

pub drafts-share-frames : DraftsShareFrames
drafts-share-frames ms pls has j m = record {
  segments = λ i f h.
      sharing-alike (is_titled segment_title ms (in_quotes (segment_title m i))) (j, i) f (all_parts 0 ms pls) (all_segments 0 pls) (all-alike 0 ms pls has)
      (and_parts (is_part m i) (sharing segment_title ms (all_parts 0 ms pls) j m i f) h).1;
  groups = λ i f h. h;
}
