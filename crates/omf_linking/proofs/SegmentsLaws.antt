-- The segments of modules, gathered one after another.
use Rattle.std.proofs.Common.{◌≡◌, inl, inr, ℕ, zero, suc, ◌+◌, ◌-◌, ◌<◌, ◌≤◌, Bool, List, [], ◌∷◌, ◌++◌, length, drop, get_or, map, refl, sym, ap, ap₂, subst, ◌∙◌, arith, append-nil, append_assoc}
use Rattle.std.proofs.Math.Path.{fun_ext}
use Rattle.std.proofs.Math.Seq.{drop-nil}
use Rattle.std.proofs.lemmas.List.{length-append}
use Rattle.std.specs.Prelude.{flat_map, zip, Option, Some, None, option_map, slice_get, Result, Err, cond, nat_le, true, false}
use Rattle.std.proofs.lemmas.List.{length-map}
use Rattle.std.proofs.lemmas.List.FromFn.{length-enumerate_from}
use Rattle.std.proofs.lemmas.Option.{slice_get_cases, slice_get_within, slice_get-map}
use Rattle.std.specs.List.{AllZip, enumerate_from}
use Rattle.omf_records.specs.Values.{Rec}
use Rattle.omf_check.specs.Module.{Module, records_in}
use Rattle.omf_check.specs.Tables.{attributes, entry, segments}
use Rattle.omf_check.specs.WellFormed.{recs}
use Rattle.omf_placement.specs.Derive.{PlacedModule, placed_modules}
use Rattle.omf_placement.proofs.AttributeLaws.{length-attributes}
use Rattle.omf_linking.specs.declared.space.segment.PlacedSegment.{PlacedSegment}
use Rattle.omf_image.specs.Overlay.{Laid}
use Rattle.omf_linking.specs.declared.space.fault.MemoryFault.{MemoryFault}
use Rattle.omf_linking.specs.declared.space.fault.MemoryFault.TheVariants as memory
use Rattle.omf_linking.specs.Space.Segments.{SegmentAt, segments_at, IsMemoryOf, DoOverlap, IsFirstBeyond, LieWell}
use Rattle.omf_placement.specs.Placement.{Places}
use Rattle.omf_linking.specs.Faults.{of_memory}
use Rattle.omf_linking.specs.LinkedMemory.{IsLinkedMemory}
use Rattle.omf_linking.specs.Relocated.{IsRelocated}
use Rattle.omf_linking.specs.Segments.{commons, is_common, Bytes, ModuleBytes, module_segment, module_segments, all_segments, image_bytes, with_images, stored_image, stored_images}
use Rattle.omf_linking.specs.declared.fault.LinkFault.{LinkFault}
use Rattle.omf_linking.specs.declared.relocated.Relocated.{Relocated}

-- ---- parts of a list, one after another

-- one more part at the end
pub more_given : {A : Type 0} (old new part rest left all : List A) → new ≡ old ++ part → left ≡ part ++ rest → old ++ left ≡ all → new ++ rest ≡ all
more_given old new part rest left all e f h = ap (λ xs. xs ++ rest) e ∙ append_assoc old part rest ∙ ap (λ xs. old ++ xs) (sym f) ∙ h

pub all_given : {A : Type 0} (old left all : List A) → left ≡ [] → old ++ left ≡ all → old ≡ all
all_given old left all e h = sym (append-nil old) ∙ ap (λ xs. old ++ xs) (sym e) ∙ h

-- ---- the segments of a module

-- the entry of a mapped list
pub entry_mapped : {A B : Type 0} (f : A → B) (xs : List A) (i : ℕ) → entry (map f xs) i ≡ option_map f (entry xs i)
entry_mapped f xs i = by (nat_le 1 i) where
  by : (b : Bool) → cond b (slice_get (map f xs) (i - 1)) None ≡ option_map f (cond b (slice_get xs (i - 1)) None)
  by true = slice_get-map f xs (i - 1)
  by false = refl

pub length_commons : (m : List Rec) → length (commons m) ≡ length (segments m)
length_commons m = length-map (attributes m) is_common ∙ length-attributes m

-- some segments, and those of a module from one on, are these
abbrev pub AreFrom : (ℕ × Bool → SegmentAt) → List PlacedSegment → ℕ → List Bool → List SegmentAt → Type 0
AreFrom f ss k left all = segments_at ss ++ map f (enumerate_from (k + 1) left) ≡ all

-- ---- the segments of modules

-- some segments, and those of the modules from one on, are those of all
abbrev pub AreGathered : List ModuleBytes → List PlacedSegment → ℕ → Type 0
AreGathered ms ss j = segments_at ss ++ flat_map module_segments (enumerate_from j (drop j ms)) ≡ all_segments ms

pub next_module : (ms : List Module) (pls : List Places) (rs : List Relocated) (j : ℕ) (m : Module) (pl : Places) (r : Relocated) → m ≡ get_or ms j m → pl ≡ get_or pls j pl → r ≡ get_or rs j r
    → j < length ms → length pls ≡ length ms → length rs ≡ length ms
    → drop j (with_images (placed_modules ms pls) rs) ≡ ((recs (records_in m.bytes), pl), image_bytes r) ∷ drop (j + 1) (with_images (placed_modules ms pls) rs)
next_module [] pls rs j m pl r a b c l e f = absurd (omega arith)
next_module (x ∷ ms) [] rs j m pl r a b c l e f = absurd (omega arith)
next_module (x ∷ ms) (y ∷ pls) [] j m pl r a b c l e f = absurd (omega arith)
next_module (x ∷ ms) (y ∷ pls) (z ∷ rs) zero m pl r a b c l e f =
    let rest : List ModuleBytes = with_images (placed_modules ms pls) rs in
    ap (λ (u : Module). ((recs (records_in u.bytes), y), image_bytes z) ∷ rest) (sym a)
    ∙ ap (λ (u : Places). ((recs (records_in m.bytes), u), image_bytes z) ∷ rest) (sym b)
    ∙ ap (λ (u : Relocated). ((recs (records_in m.bytes), pl), image_bytes u) ∷ rest) (sym c)
next_module (x ∷ ms) (y ∷ pls) (z ∷ rs) (suc j) m pl r a b c l e f =
    let same : suc (j + 1) ≡ suc j + 1 = omega arith in
    next_module ms pls rs j m pl r a b c (omega arith) (omega arith) (omega arith)
    ∙ ap (λ (n : ℕ). ((recs (records_in m.bytes), pl), image_bytes r) ∷ drop n (with_images (placed_modules (x ∷ ms) (y ∷ pls)) (z ∷ rs))) same

pub no_module : (ms : List Module) (pls : List Places) (rs : List Relocated) (j : ℕ) → length ms ≤ j → drop j (with_images (placed_modules ms pls) rs) ≡ []
no_module [] pls rs j h = drop-nil j
no_module (m ∷ ms) [] rs j h = drop-nil j
no_module (m ∷ ms) (p ∷ pls) [] j h = drop-nil j
no_module (m ∷ ms) (p ∷ pls) (r ∷ rs) zero h = absurd (omega arith)
no_module (m ∷ ms) (p ∷ pls) (r ∷ rs) (suc j) h = no_module ms pls rs j (omega arith)

module _ (ms : List ModuleBytes) (j : ℕ) where
  pub one_gathered : (m : ModuleBytes) (ss new : List PlacedSegment) → drop j ms ≡ m ∷ drop (j + 1) ms → segments_at new ≡ segments_at ss ++ module_segments (j, m) → AreGathered ms ss j → AreGathered ms new (j + 1)
  one_gathered m ss new next n h =
      let rest : List SegmentAt = flat_map module_segments (enumerate_from (j + 1) (drop (j + 1) ms)) in
      ap (λ (xs : List SegmentAt). xs ++ rest) n ∙ append_assoc (segments_at ss) (module_segments (j, m)) rest
      ∙ ap (λ (xs : List ModuleBytes). segments_at ss ++ flat_map module_segments (enumerate_from j xs)) (sym next) ∙ h

  pub all_gathered : (ss : List PlacedSegment) → drop j ms ≡ [] → AreGathered ms ss j → segments_at ss ≡ all_segments ms
  all_gathered ss none h = sym (append-nil (segments_at ss)) ∙ ap (λ (xs : List ModuleBytes). segments_at ss ++ flat_map module_segments (enumerate_from j xs)) (sym none) ∙ h

-- ---- modules with the images that their placements give them

pub own_bytes : (m : PlacedModule) (at : Places) (r : Relocated) → IsRelocated m r → image_bytes r ≡ (stored_image (m, at)).1
own_bytes m at r h = fun_ext (λ segment. fun_ext (λ x. h.bytes segment x))

pub images_stored : (ms : List (List Rec)) (pls at : List Places) (rs : List Relocated) → AllZip IsRelocated (zip ms pls) rs → with_images (zip ms at) rs ≡ stored_images (zip ms pls) at
images_stored [] pls at rs h = refl
images_stored (m ∷ ms) [] [] [] h = refl
images_stored (m ∷ ms) [] (a ∷ at) [] h = refl
images_stored (m ∷ ms) [] at (r ∷ rs) h = absurd h
images_stored (m ∷ ms) (p ∷ pls) at [] h = absurd h
images_stored (m ∷ ms) (p ∷ pls) [] (r ∷ rs) h = refl
images_stored (m ∷ ms) (p ∷ pls) (a ∷ at) (r ∷ rs) h = ap₂ (λ (b : Bytes) (xs : List ModuleBytes). ((m, a), b) ∷ xs) (own_bytes (m, p) a r h.0) (images_stored ms pls at rs h.1)

-- ---- the memory of segments as that of modules

pub linked_fault : (ss all : List SegmentAt) (f : MemoryFault) → ss ≡ all → IsMemoryOf ss (Err f) → IsLinkedMemory all (Err (of_memory f))
linked_fault ss all memory.Memory e h = subst LieWell e h
linked_fault ss all (memory.Overlap a s t) e h = subst (λ (xs : List SegmentAt). DoOverlap xs a s t) e h
linked_fault ss all (memory.Beyond o) e h = subst (λ (xs : List SegmentAt). IsFirstBeyond xs o) e h

pub stored_memory : (ms : List (List Rec)) (pls at : List Places) (rs : List Relocated) (r : Result (List Laid) LinkFault) → IsLinkedMemory (all_segments (with_images (zip ms at) rs)) r → AllZip IsRelocated (zip ms pls) rs
    → IsLinkedMemory (all_segments (stored_images (zip ms pls) at)) r
stored_memory ms pls at rs r h z = subst (λ (xs : List ModuleBytes). IsLinkedMemory (all_segments xs) r) (images_stored ms pls at rs z) h

-- ---- one segment of a list, by its number

slice_left : {A : Type 0} (xs ys : List A) (n : ℕ) → n < length xs → slice_get (xs ++ ys) n ≡ slice_get xs n
slice_left [] ys n h = absurd (omega (arith, h))
slice_left (x ∷ xs) ys zero h = refl
slice_left (x ∷ xs) ys (suc n) h = slice_left xs ys n (omega (arith, h))

slice_right : {A : Type 0} (xs ys : List A) (k n : ℕ) → length xs + k ≡ n → slice_get (xs ++ ys) n ≡ slice_get ys k
slice_right [] ys k n e = let same : n ≡ k = omega (arith, e) in ap (slice_get ys) same
slice_right (x ∷ xs) ys k zero e = absurd (omega (arith, e))
slice_right (x ∷ xs) ys k (suc n) e = slice_right xs ys k n (omega (arith, e))

numbered : {A : Type 0} (k : ℕ) (xs : List A) (i : ℕ) (x : A) → slice_get xs i ≡ Some x → slice_get (enumerate_from k xs) i ≡ Some (k + i, x)
numbered k [] i x e = absurd (none_there i e)
  where
    none_there : {A : Type 0} {x : A} (i : ℕ) → slice_get {X = A} [] i ≡ Some x → ⊥
    none_there i e = let low = slice_get_within [] i _ e in omega (arith, low)
numbered k (y ∷ xs) zero x e = let same : k ≡ k + 0 = omega arith in ap₂ (λ (n : ℕ) (o : Option _). option_map (λ z. (n, z)) o) same e
numbered k (y ∷ xs) (suc i) x e = let same : k + 1 + i ≡ k + suc i = omega arith in numbered (k + 1) xs i x e ∙ ap (λ (n : ℕ). Some (n, x)) same

pub some_left : {A : Type 0} (xs all : List A) (left n : ℕ) → slice_get xs left ≡ slice_get all n → n < length all → xs ≡ [] → ⊥
some_left {A} [] all left n h low none = let c = (slice_get_cases all n).1 in elim c [ inl i ↦ gone (h ∙ i.2) | inr i ↦ omega (arith, i.0, low) ]
  where
    gone : {x : A} → slice_get {X = A} [] left ≡ Some x → ⊥
    gone e = let l = slice_get_within [] left _ e in omega (arith, l)
some_left {A} (x ∷ xs) all left n h low none = cc

-- ---- the segments of modules, by their numbers

pub next_of : (ms : List Module) (pls : List Places) (rs : List Relocated) (j : ℕ) (m : Module) → m ≡ get_or ms j m → j < length ms → length pls ≡ length ms → length rs ≡ length ms
    → (x : ModuleBytes) × (x.0.0 ≡ recs (records_in m.bytes)) × (drop j (with_images (placed_modules ms pls) rs) ≡ x ∷ drop (j + 1) (with_images (placed_modules ms pls) rs))
next_of [] pls rs j m a l e f = absurd (omega arith)
next_of (x ∷ ms) [] rs j m a l e f = absurd (omega arith)
next_of (x ∷ ms) (y ∷ pls) [] j m a l e f = absurd (omega arith)
next_of (x ∷ ms) (y ∷ pls) (z ∷ rs) zero m a l e f = (((recs (records_in x.bytes), y), image_bytes z), ap (λ (u : Module). recs (records_in u.bytes)) (sym a), refl)
next_of (x ∷ ms) (y ∷ pls) (z ∷ rs) (suc j) m a l e f =
    let same : suc (j + 1) ≡ suc j + 1 = omega arith in
    let r = next_of ms pls rs j m a (omega arith) (omega arith) (omega arith) in
    (r.0, r.1, r.2 ∙ ap (λ (n : ℕ). r.0 ∷ drop n (with_images (placed_modules (x ∷ ms) (y ∷ pls)) (z ∷ rs))) same)

pub all_counted : (ms : List ModuleBytes) (j count : ℕ) → drop j ms ≡ [] → count + length (flat_map module_segments (enumerate_from j (drop j ms))) ≡ length (all_segments ms) → count ≡ length (all_segments ms)
all_counted ms j count none h = let zero : length (flat_map module_segments (enumerate_from j (drop j ms))) ≡ 0 = ap (λ (xs : List ModuleBytes). length (flat_map module_segments (enumerate_from j xs))) none in omega (arith, zero, h)

pub length_segments : (j : ℕ) (m : ModuleBytes) → length (module_segments (j, m)) ≡ length (segments m.0.0)
length_segments j m =
    length-map (enumerate_from 1 (commons m.0.0)) (module_segment j m.0.1 m.1) ∙ length-enumerate_from 1 (commons m.0.0) ∙ length_commons m.0.0

module _ (ms : List ModuleBytes) (j : ℕ) (m : ModuleBytes) (next : drop j ms ≡ m ∷ drop (j + 1) ms) where
  abbrev left_at : ℕ → List SegmentAt
  left_at k = flat_map module_segments (enumerate_from k (drop k ms))

  split : left_at j ≡ module_segments (j, m) ++ left_at (j + 1)
  split = ap (λ (xs : List ModuleBytes). flat_map module_segments (enumerate_from j xs)) next

  pub count_next : (count n : ℕ) → n ≡ length (segments m.0.0) → count + length (left_at j) ≡ length (all_segments ms) → count + n + length (left_at (j + 1)) ≡ length (all_segments ms)
  count_next count n e h =
      let both = ap length split ∙ length-append (module_segments (j, m)) (left_at (j + 1)) in
      let long = length_segments j m in
      omega (arith, both, long, e, h)

  pub segment_later : (left n : ℕ) (o : Option SegmentAt) → n ≡ length (segments m.0.0) → n ≤ left → slice_get (left_at j) left ≡ o → slice_get (left_at (j + 1)) (left - n) ≡ o
  segment_later left n o e past h =
      let place : length (module_segments (j, m)) + (left - n) ≡ left = omega (arith, length_segments j m, e, past) in
      sym (slice_right (module_segments (j, m)) (left_at (j + 1)) (left - n) left place) ∙ ap (λ (xs : List SegmentAt). slice_get xs left) (sym split) ∙ h

  pub segment_here : (left n : ℕ) (common : Bool) (o : Option SegmentAt) → n ≡ length (segments m.0.0) → left < n → slice_get (commons m.0.0) left ≡ Some common → slice_get (left_at j) left ≡ o
      → o ≡ Some (module_segment j m.0.1 m.1 (left + 1, common))
  segment_here left n common o e low c h =
      let f = module_segment j m.0.1 m.1 in
      let place : 1 + left ≡ left + 1 = omega arith in
      sym h ∙ ap (λ (xs : List SegmentAt). slice_get xs left) split ∙ slice_left (module_segments (j, m)) (left_at (j + 1)) left (omega (arith, length_segments j m, e, low))
      ∙ slice_get-map f (enumerate_from 1 (commons m.0.0)) left ∙ ap (option_map f) (numbered 1 (commons m.0.0) left common c) ∙ ap (λ (k : ℕ). Some (f (k, common))) place

-- a segment at what is read from two lists
pub placed_same : (pls : List Places) (rs : List Relocated) (j : ℕ) (pl : Places) (r : Relocated) (s : SegmentAt) (i : ℕ × Bool) → pl ≡ get_or pls j pl → r ≡ get_or rs j r
    → s ≡ module_segment j (get_or pls j pl) (image_bytes (get_or rs j r)) i → s ≡ module_segment j pl (image_bytes r) i
placed_same pls rs j pl r s i a b e = e ∙ ap₂ (λ (p : Places) (x : Relocated). module_segment j p (image_bytes x) i) (sym a) (sym b)
