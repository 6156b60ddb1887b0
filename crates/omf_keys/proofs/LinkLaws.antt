-- At the same placements modules of equal keys have one memory and one start.
use Rattle.std.proofs.Common.{◌≡◌, ℕ, ◌+◌, List, [], ◌∷◌, refl, sym, ◌∙◌, ap, ap₂, subst, Bool, cond}
use Rattle.std.specs.Prelude.{map, filter_map, zip, Option, Some, None, option_map}
use Rattle.std.specs.List.{AllZip, cons_option, enumerate_from}
use Rattle.omf_records.specs.Values.{Rec, Contents, Plain, Iterated, contents_alone, width}
use Rattle.omf_image.specs.Inner.Expanding.{expanded}
use Rattle.omf_image.specs.Limits.{profile_limits}
use Rattle.omf_image.specs.Overlay.{Laid, byte_at}
use Rattle.omf_check.specs.Laws.{ModulesHold}
use Rattle.omf_check.specs.Module.{Module, typed_modules, recs_of, records_in}
use Rattle.omf_placement.specs.Derive.{PlacedModule}
use Rattle.omf_placement.specs.Placement.{Places}
use Rattle.omf_reloc.specs.Image.{patched, laid_contents, laid_piece, image}
use Rattle.omf_reloc.specs.Plain.{Piece, Kept, Fixed, End, PlainFixup, fixups_of_data}
use Rattle.omf_reloc.specs.Reach.{reach_fault}
use Rattle.omf_reloc.specs.declared.fault.ReachFault.{ReachFault}
use Rattle.omf_canon.specs.Laws.{MeanTheSame, placeless}
use Rattle.omf_canon.specs.Skeleton.{normal}
use Rattle.omf_linking.specs.declared.relocated.Relocated.{Relocated}
use Rattle.omf_linking.specs.declared.together.Together.{Together}
use Rattle.omf_linking.specs.Relocated.{IsRelocated}
use Rattle.omf_linking.specs.Segments.{Bytes, ModuleBytes, is_common, commons, module_segment, module_segments, stored_image, stored_images}
use Rattle.omf_linking.specs.Space.Segments.{SegmentAt, AreLaid}
use Rattle.omf_linking.specs.Starts.{is_main, is_main_end, says_main, numbered_start, one_start}
use Rattle.omf_linking.specs.Together.{segments_of, start_of, AreOne}
use Rattle.omf_keys.specs.Keys.{AreAlike, HaveOneKey, HaveEqualKeys, IsAcceptedModule}
use Rattle.omf_keys.specs.Laws.{PiecesByKeys, MeaningsByKeys}
use Rattle.omf_keys.proofs.ChunkLaws.{after-alike}
use Rattle.omf_keys.proofs.EndLaws.{EndsIn, last-is, main-same}
use Rattle.omf_keys.proofs.ListLaws.{enum-flat, Beside, zip-beside}
use Rattle.omf_keys.proofs.TableLaws.{same-tables}

-- ---- images

module _ (pl : Places) where
  abbrev laid_by : ℕ → Contents → List (ℕ × PlainFixup) → List Laid
  laid_by kind (Plain d) fs = record { segment = d.segment.item; offset = d.offset.item; bytes = patched pl d fs } ∷ []
  laid_by kind (Iterated d) fs = record { segment = d.segment.item; offset = d.offset.item; bytes = expanded (width kind) profile_limits d.bytes } ∷ []
  laid_by kind _ fs = []

  abbrev piece_by : Piece → List (ℕ × PlainFixup) → List Laid
  piece_by (Kept r) fs = laid_by r.kind r.contents fs
  piece_by _ fs = []

  laid-sees : (kind : ℕ) (c : Contents) (after : List Piece) → laid_contents profile_limits pl kind c after ≡ laid_by kind c (fixups_of_data after)
  laid-sees kind (Plain d) after = refl
  laid-sees kind (Iterated d) after = refl
  laid-sees kind _ after = refl

  laid-bare : (kind : ℕ) (c : Contents) (fs : List (ℕ × PlainFixup)) → laid_by kind (contents_alone c) fs ≡ laid_by kind c fs
  laid-bare kind (Plain d) fs = refl
  laid-bare kind (Iterated d) fs = refl
  laid-bare kind _ fs = refl

  piece-sees : (p : Piece) (after : List Piece) → laid_piece profile_limits pl p after ≡ piece_by p (fixups_of_data after)
  piece-sees (Kept r) after = laid-sees r.kind r.contents after
  piece-sees (Fixed kind fs) after = refl
  piece-sees (End kind byte start) after = refl

  piece-bare : (p : Piece) (fs : List (ℕ × PlainFixup)) → piece_by (normal p) fs ≡ piece_by p fs
  piece-bare (Kept r) fs = laid-bare r.kind r.contents fs
  piece-bare (Fixed kind gs) fs = refl
  piece-bare (End kind byte start) fs = refl

  abbrev bytes_of : List Laid → ℕ → ℕ → Option ℕ
  bytes_of ls segment x = byte_at ls segment x

  image-same : (m n : List Rec) → AreAlike m n → image profile_limits pl m ≡ image profile_limits pl n
  image-same m n h = ap bytes_of
      (after-alike (laid_piece profile_limits pl) piece_by (record { sees = piece-sees; none = λ kind fs fixups. refl; bare = piece-bare }) m n h)

-- ---- twins

pub record AreTwinModules (m n : List Rec) : Type 0 where
  pub alike : AreAlike m n
  pub means : (pl : Places) → MeanTheSame profile_limits pl m n
  pub main : is_main m ≡ is_main n

enum-filter : {X Y B : Type 0} (R : X → Y → Type 0) (f : ℕ × X → Option B) (g : ℕ × Y → Option B) → ((j : ℕ) (x : X) (y : Y) → R x y → f (j, x) ≡ g (j, y)) → (j : ℕ) (xs : List X) (ys : List Y) → AllZip R xs ys
    → filter_map f (enumerate_from j xs) ≡ filter_map g (enumerate_from j ys)
enum-filter R f g same j [] [] h = refl
enum-filter R f g same j [] (y ∷ ys) h = absurd h
enum-filter R f g same j (x ∷ xs) [] h = absurd h
enum-filter {B} R f g same j (x ∷ xs) (y ∷ ys) h = ap₂ (λ (b : Option B) (bs : List B). cons_option b bs) (same j x y h.0) (enum-filter R f g same (j + 1) xs ys h.1)

zip-mapped : {X Y A B : Type 0} (R : X → Y → Type 0) (S : A → B → Type 0) (f : X → A) (g : Y → B) → ((x : X) (y : Y) → R x y → S (f x) (g y)) → (xs : List X) (ys : List Y) → AllZip R xs ys → AllZip S (map f xs) (map g ys)
zip-mapped R S f g same [] [] h = tt
zip-mapped R S f g same [] (y ∷ ys) h = absurd h
zip-mapped R S f g same (x ∷ xs) [] h = absurd h
zip-mapped R S f g same (x ∷ xs) (y ∷ ys) h = (same x y h.0, zip-mapped R S f g same xs ys h.1)

none-mapped : (o p : Option ReachFault) → option_map placeless o ≡ option_map placeless p → o ≡ None → p ≡ None
none-mapped None None e h = refl
none-mapped None (Some b) e h = absurd cc
none-mapped (Some a) p e h = absurd cc

relocated-by : (m n : List Rec) (pl : Places) (r : Relocated) → AreTwinModules m n → IsRelocated (m, pl) r → IsRelocated (n, pl) r
relocated-by m n pl r t is = record {
  reaches = none-mapped (reach_fault pl m) (reach_fault pl n) (t.means pl).reach is.reaches;
  bytes = λ segment x. is.bytes segment x ∙ (t.means pl).image segment x;
  starts = is.starts ∙ (t.means pl).start;
}

all-relocated : (ms ns : List (List Rec)) → AllZip AreTwinModules ms ns → (pls : List Places) (rs : List Relocated) → AllZip IsRelocated (zip ms pls) rs → AllZip IsRelocated (zip ns pls) rs
all-relocated [] [] all pls rs h = h
all-relocated [] (n ∷ ns) all pls rs h = absurd all
all-relocated (m ∷ ms) [] all pls rs h = absurd all
all-relocated (m ∷ ms) (n ∷ ns) all [] rs h = h
all-relocated (m ∷ ms) (n ∷ ns) all (pl ∷ pls) [] h = absurd h
all-relocated (m ∷ ms) (n ∷ ns) all (pl ∷ pls) (r ∷ rs) h = (relocated-by m n pl r all.0 h.0, all-relocated ms ns all.1 pls rs h.1)

abbrev numbered_by : ℕ → ℕ × ℕ → ℕ × (ℕ × ℕ)
numbered_by j s = (j, s)

-- ---- segments

abbrev HaveSameSegments : ModuleBytes → ModuleBytes → Type 0
HaveSameSegments a b = (j : ℕ) → module_segments (j, a) ≡ module_segments (j, b)

commons-same : (m n : List Rec) → AreAlike m n → commons m ≡ commons n
commons-same m n h = ap (map is_common) (same-tables m n h).attributes

-- A module at its placement, stored at others.
abbrev AreStored : PlacedModule × Places → PlacedModule × Places → Type 0
AreStored a b = Beside (Beside AreTwinModules) a b

stored-same : (a b : PlacedModule × Places) → AreStored a b → HaveSameSegments (stored_image a) (stored_image b)
stored-same a b h j =
    ap₂ (λ (bytes : Bytes) (cs : List Bool). map (module_segment j a.1 bytes) (enumerate_from 1 cs))
    (image-same a.0.1 a.0.0 b.0.0 h.0.0.alike ∙ ap (λ (pl : Places). image profile_limits pl b.0.0) h.0.1) (commons-same a.0.0 b.0.0 h.0.0.alike)
    ∙ ap (λ (st : Places). map (module_segment j st (image profile_limits b.0.1 b.0.0)) (enumerate_from 1 (commons b.0.0))) h.1

module _ (ms ns : List (List Rec)) (all : AllZip AreTwinModules ms ns) where
  segments-same : (pls stored : List Places) → segments_of ms pls stored ≡ segments_of ns pls stored
  segments-same pls stored =
      enum-flat HaveSameSegments module_segments module_segments (λ j a b h. h j) 0 (stored_images (zip ms pls) stored) (stored_images (zip ns pls) stored)
      (zip-mapped AreStored HaveSameSegments stored_image stored_image stored-same (zip (zip ms pls) stored) (zip (zip ns pls) stored)
      (zip-beside (Beside AreTwinModules) (zip ms pls) (zip ns pls) stored (zip-beside AreTwinModules ms ns pls all)))

  start-at : (j : ℕ) (a b : List Rec × Relocated) → Beside AreTwinModules a b → numbered_start (j, a) ≡ numbered_start (j, b)
  start-at j a b h = ap₂ (λ (m : Bool) (r : Relocated). option_map (numbered_by j) (cond m r.start None)) h.0.main h.1

  starts-same : (rs : List Relocated) → start_of ms rs ≡ start_of ns rs
  starts-same rs = ap one_start (enum-filter (λ a b. Beside AreTwinModules a b) numbered_start numbered_start start-at 0 (zip ms rs) (zip ns rs) (zip-beside AreTwinModules ms ns rs all))

  one-by : (pls stored : List Places) (t : Together) → AreOne ms pls stored t → AreOne ns pls stored t
  one-by pls stored t o = record {
    at = record { relocated = o.at.relocated; each = all-relocated ms ns all pls o.at.relocated o.at.each };
    laid = subst (λ (ss : List SegmentAt). AreLaid ss t.memory) (segments-same pls stored) o.laid;
    starts = sym (starts-same o.at.relocated) ∙ o.starts;
  }

-- Equal keys are equal the other way round.
turned : (m n : Module) → HaveOneKey m n → HaveOneKey n m
turned m n h = record { first = h.second; second = h.first; keys = sym h.keys }

pub all-turned : (ms ns : List Module) → HaveEqualKeys ms ns → HaveEqualKeys ns ms
all-turned [] [] h = tt
all-turned [] (n ∷ ns) h = absurd h
all-turned (m ∷ ms) [] h = absurd h
all-turned (m ∷ ms) (n ∷ ns) h = (turned m n h.0, all-turned ms ns h.1)

-- ---- modules of equal keys

module _ (pieces : PiecesByKeys) (meanings : MeaningsByKeys) (hold : ModulesHold) where
  ends : (m : Module) → IsAcceptedModule m → EndsIn (recs_of m.bytes)
  ends m a = (hold m.profile profile_limits m.bytes (records_in m.bytes) a).ends

  twin : (m n : Module) → HaveOneKey m n → AreTwinModules (recs_of m.bytes) (recs_of n.bytes)
  twin m n h =
      let e = ends m h.first in
      let f = ends n h.second in
      record {
        alike = (pieces m n h).bare;
        means = meanings m n h;
        main = ap says_main (last-is (recs_of m.bytes) e)
            ∙ main-same is_main_end (λ byte start. refl) (recs_of m.bytes) (recs_of n.bytes) e f (pieces m n h).mains
            ∙ sym (ap says_main (last-is (recs_of n.bytes) f));
      }

  pub all-twins : (ms ns : List Module) → HaveEqualKeys ms ns → AllZip AreTwinModules (typed_modules ms) (typed_modules ns)
  all-twins [] [] h = tt
  all-twins [] (n ∷ ns) h = absurd h
  all-twins (m ∷ ms) [] h = absurd h
  all-twins (m ∷ ms) (n ∷ ns) h = (twin m n h.0, all-twins ms ns h.1)

  pub memories : (ms ns : List Module) (pls stored : List Places) (t : Together) → HaveEqualKeys ms ns
      → (AreOne (typed_modules ms) pls stored t → AreOne (typed_modules ns) pls stored t) × (AreOne (typed_modules ns) pls stored t → AreOne (typed_modules ms) pls stored t)
  memories ms ns pls stored t h =
      (one-by (typed_modules ms) (typed_modules ns) (all-twins ms ns h) pls stored t, one-by (typed_modules ns) (typed_modules ms) (all-twins ns ms (all-turned ms ns h)) pls stored t)
