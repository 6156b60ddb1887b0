-- Walks over the pieces of modules one fixup at a time, each piece with its place: what they find is the same, but for the place.
use Rattle.std.proofs.Common.{◌≡◌, ℕ, List, [], ◌∷◌, ◌++◌, refl, sym, ◌∙◌, ap, ap₂, Bool, true, false, cond}
use Rattle.std.specs.Prelude.{map, filter_map, find, not, Option, Some, None, option_map, option_and_then, slice_get, ◌&&◌}
use Rattle.std.specs.List.{AllZip, cons_option, last_or, list_all}
use Rattle.std.specs.Option.{option_map_or}
use Rattle.std.specs.Result.{result_ok}
use Rattle.omf_frame.specs.Bytes.{with_before}
use Rattle.omf_frame.specs.declared.fault.Place.{Place}
use Rattle.omf_records.specs.Values.{Contents, Plain, Iterated, DataItem, contents_alone}
use Rattle.omf_placement.specs.Placement.{Places}
use Rattle.omf_reloc.specs.Plain.{Piece, Kept, Fixed, End, PlainFixup, data_of, data_contents, fixups_in}
use Rattle.omf_output.specs.Located.{Located, located_after, last_segment, located}
use Rattle.omf_output.specs.Exe.Judged.{segment_moves, start_moves}
use Rattle.omf_output.specs.Exe.Movable.{own_moves, located_moves, first_unmoved}
use Rattle.omf_output.specs.Exe.Moved.{Movers}
use Rattle.omf_output.specs.Exe.Overlaps.{Open, opened, opened_after, with_piece, with_contents, all_words, or_place}
use Rattle.omf_output.specs.Exe.Relocations.{moves_together}
use Rattle.omf_keys.specs.Keys.{with_main}
use Rattle.omf_keys.proofs.EndLaws.{main-again}

-- ---- whether there is one

-- Whether there is a value, without which.
abbrev pub mark : {A : Type 0} → A → ℕ
mark a = 0

abbrev pub told : {A : Type 0} → Option A → Option ℕ
told o = option_map mark o

abbrev pub marks : {A : Type 0} → List A → List ℕ
marks xs = map mark xs

pub told-map : {A B : Type 0} (f : A → B) (o : Option A) → told (option_map f o) ≡ told o
told-map f None = refl
told-map f (Some a) = refl

pub told-first : {A : Type 0} (xs : List A) → told (slice_get xs 0) ≡ slice_get (marks xs) 0
told-first [] = refl
told-first (x ∷ xs) = refl

cons-told : {A B : Type 0} (o : Option A) (p : Option B) (xs : List A) (ys : List B) → told o ≡ told p → marks xs ≡ marks ys → marks (cons_option o xs) ≡ marks (cons_option p ys)
cons-told None None xs ys e h = h
cons-told (Some a) (Some b) xs ys e h = ap (λ (ns : List ℕ). 0 ∷ ns) h
cons-told None (Some b) xs ys e h = absurd cc
cons-told (Some a) None xs ys e h = absurd cc

pub marks-filter : {X A B : Type 0} (f : X → Option A) (g : X → Option B) → ((x : X) → told (f x) ≡ told (g x)) → (xs : List X) → marks (filter_map f xs) ≡ marks (filter_map g xs)
marks-filter f g same [] = refl
marks-filter f g same (x ∷ xs) = cons-told (f x) (g x) (filter_map f xs) (filter_map g xs) (same x) (marks-filter f g same xs)

pub marks-filter-map : {X Y A B : Type 0} (v : X → Y) (f : X → Option A) (g : Y → Option B) → ((x : X) → told (f x) ≡ told (g (v x))) → (xs : List X) → marks (filter_map f xs) ≡ marks (filter_map g (map v xs))
marks-filter-map v f g same [] = refl
marks-filter-map v f g same (x ∷ xs) = cons-told (f x) (g (v x)) (filter_map f xs) (filter_map g (map v xs)) (same x) (marks-filter-map v f g same xs)

pub zip-marks : {X Y A B : Type 0} (R : X → Y → Type 0) (f : X → Option A) (g : Y → Option B) → ((x : X) (y : Y) → R x y → told (f x) ≡ told (g y)) → (xs : List X) (ys : List Y) → AllZip R xs ys
    → marks (filter_map f xs) ≡ marks (filter_map g ys)
zip-marks R f g same [] [] h = refl
zip-marks R f g same [] (y ∷ ys) h = absurd h
zip-marks R f g same (x ∷ xs) [] h = absurd h
zip-marks R f g same (x ∷ xs) (y ∷ ys) h = cons-told (f x) (g y) (filter_map f xs) (filter_map g ys) (same x y h.0) (zip-marks R f g same xs ys h.1)

pub none-told : {A B : Type 0} (o : Option A) (p : Option B) → told o ≡ told p → o ≡ None → p ≡ None
none-told None None e h = refl
none-told None (Some b) e h = absurd cc
none-told (Some a) p e h = absurd cc

pub cond-told : {A B : Type 0} (b d : Bool) (x : A) (y : B) (o : Option A) (p : Option B) → b ≡ d → told o ≡ told p → told (cond b (Some x) o) ≡ told (cond d (Some y) p)
cond-told true true x y o p e h = refl
cond-told false false x y o p e h = h
cond-told true false x y o p e h = absurd cc
cond-told false true x y o p e h = absurd cc

find-told : {X Y : Type 0} (v : X → Y) (p : X → Bool) (q : Y → Bool) → ((x : X) → p x ≡ q (v x)) → (xs : List X) → told (find p xs) ≡ told (find q (map v xs))
find-told v p q same [] = refl
find-told v p q same (x ∷ xs) = cond-told (p x) (q (v x)) x (v x) (find p xs) (find q (map v xs)) (same x) (find-told v p q same xs)

-- ---- pieces with the main bit alone

abbrev pub bared : List (Place × Piece) → List Piece
bared xs = map (λ x. with_main x.1) xs

-- ---- located pieces

abbrev pub segment_of : DataItem → ℕ
segment_of d = d.segment.item

abbrev pub segment_after : Option ℕ → Piece → Option ℕ
segment_after o p = option_map_or (λ d. Some (segment_of d)) (data_of p) o

abbrev pub located_by : Option ℕ → List Piece → List (Option ℕ × Piece)
located_by o [] = []
located_by o (p ∷ ps) = (o, p) ∷ located_by (segment_after o p) ps

abbrev pub seen : Located → Option ℕ × Piece
seen l = (l.segment, with_main l.piece)

abbrev data_at : Place × Piece → Option DataItem
data_at x = data_of x.1

contents-after : (o : Option DataItem) (c : Contents) → option_map segment_of (last_or o (cons_option (data_contents c) [])) ≡ option_map_or (λ d. Some (segment_of d)) (data_contents (contents_alone c)) (option_map segment_of o)
contents-after o (Plain d) = refl
contents-after o (Iterated d) = refl
contents-after o _ = refl

piece-after : (o : Option DataItem) (p : Piece) → option_map segment_of (last_or o (cons_option (data_of p) [])) ≡ segment_after (option_map segment_of o) (with_main p)
piece-after o (Kept r) = contents-after o r.contents
piece-after o (Fixed kind fs) = refl
piece-after o (End kind byte start) = refl

last-step : (o w : Option DataItem) (more less : List DataItem) (p : Piece)
    → ((q : Option DataItem) → option_map segment_of (last_or q more) ≡ segment_after (option_map segment_of (last_or q less)) p)
    → option_map segment_of (last_or o (cons_option w more)) ≡ segment_after (option_map segment_of (last_or o (cons_option w less))) p
last-step o None more less p again = again o
last-step o (Some d) more less p again = again (Some d)

last-more : (o : Option DataItem) (before : List (Place × Piece)) (x : Place × Piece)
    → option_map segment_of (last_or o (filter_map data_at (before ++ x ∷ []))) ≡ segment_after (option_map segment_of (last_or o (filter_map data_at before))) (with_main x.1)
last-more o [] x = piece-after o x.1
last-more o (b ∷ before) x = last-step o (data_at b) (filter_map data_at (before ++ x ∷ [])) (filter_map data_at before) (with_main x.1) (λ q. last-more q before x)

located-from : (before xs : List (Place × Piece)) → map seen (with_before located_after before xs) ≡ located_by (last_segment before) (bared xs)
located-from before [] = refl
located-from before (x ∷ xs) =
    ap (λ (ls : List (Option ℕ × Piece)). (last_segment before, with_main x.1) ∷ ls)
    (located-from (before ++ x ∷ []) xs ∙ ap (λ (o : Option ℕ). located_by o (bared xs)) (last-more None before x))

pub located-seen : (xs : List (Place × Piece)) → map seen (located xs) ≡ located_by None (bared xs)
located-seen xs = located-from [] xs

-- ---- what moves

pub fixups-bared : (p : Piece) → fixups_in p ≡ fixups_in (with_main p)
fixups-bared (Kept r) = refl
fixups-bared (Fixed kind fs) = refl
fixups-bared (End kind byte start) = refl

module _ (mv : Movers) where
  own-contents : (c : Contents) → option_map_or (segment_moves mv) (data_contents c) true ≡ option_map_or (segment_moves mv) (data_contents (contents_alone c)) true
  own-contents (Plain d) = refl
  own-contents (Iterated d) = refl
  own-contents _ = refl

  own-bared : (p : Piece) → own_moves mv p ≡ own_moves mv (with_main p)
  own-bared (Kept r) = own-contents r.contents
  own-bared (Fixed kind fs) = refl
  own-bared (End kind byte start) = sym (ap (λ (b : Bool). cond b (start_moves mv start) true) (main-again byte))

  abbrev pair_moves : Option ℕ × Piece → Bool
  pair_moves x = own_moves mv x.1 && option_map_or (λ segment. list_all (moves_together mv segment) (fixups_in x.1)) x.0 true

  located-bared : (l : Located) → located_moves mv l ≡ pair_moves (seen l)
  located-bared l = ap₂ (λ (b : Bool) (fs : List (ℕ × PlainFixup)). b && option_map_or (λ segment. list_all (moves_together mv segment) fs) l.segment true) (own-bared l.piece) (fixups-bared l.piece)

  unmoved-by : (xs : List (Place × Piece)) → told (first_unmoved mv xs) ≡ told (find (λ x. not (pair_moves x)) (located_by None (bared xs)))
  unmoved-by xs = told-map (λ (l : Located). l.place) (find (λ l. not (located_moves mv l)) (located xs))
      ∙ find-told seen (λ l. not (located_moves mv l)) (λ x. not (pair_moves x)) (λ l. ap not (located-bared l)) (located xs)
      ∙ ap (λ (ls : List (Option ℕ × Piece)). told (find (λ x. not (pair_moves x)) ls)) (located-seen xs)

  pub unmoved-same : (xs ys : List (Place × Piece)) → bared xs ≡ bared ys → told (first_unmoved mv xs) ≡ told (first_unmoved mv ys)
  unmoved-same xs ys h = unmoved-by xs ∙ ap (λ (ps : List Piece). told (find (λ x. not (pair_moves x)) (located_by None ps))) h ∙ sym (unmoved-by ys)

-- ---- relocation words

module _ (mv : Movers) (pl : Places) where
  words-contents : (kind : ℕ) (c : Contents) (ws : List ℕ) → with_contents pl kind c ws ≡ with_contents pl kind (contents_alone c) ws
  words-contents kind (Plain d) ws = refl
  words-contents kind (Iterated d) ws = refl
  words-contents kind _ ws = refl

  opened-contents : (c : Contents) (o : Open) → opened pl c o ≡ opened pl (contents_alone c) o
  opened-contents (Plain d) o = refl
  opened-contents (Iterated d) o = refl
  opened-contents _ o = refl

  piece-words : (o : Open) (p : Piece) (ws : List ℕ) → with_piece mv pl o p ws ≡ with_piece mv pl o (with_main p) ws
  piece-words o (Kept r) ws = words-contents r.kind r.contents ws
  piece-words o (Fixed kind fs) ws = refl
  piece-words o (End kind byte start) ws = refl

  piece-opened : (p : Piece) (o : Open) → opened_after pl p o ≡ opened_after pl (with_main p) o
  piece-opened (Kept r) o = opened-contents r.contents o
  piece-opened (Fixed kind fs) o = refl
  piece-opened (End kind byte start) o = refl

  abbrev words_by : Open → List Piece → List ℕ → Option (List ℕ)
  words_by o [] ws = Some ws
  words_by o (p ∷ ps) ws = option_and_then (λ more. words_by (opened_after pl p o) ps more) (with_piece mv pl o p ws)

  words-step : (x : Place × Piece) (o : Open) (xs : List (Place × Piece)) (w : Option (List ℕ))
      → ((more : List ℕ) → result_ok (all_words mv pl (opened_after pl x.1 o) xs more) ≡ words_by (opened_after pl (with_main x.1) o) (bared xs) more)
      → result_ok (or_place x.0 (λ more. all_words mv pl (opened_after pl x.1 o) xs more) w) ≡ option_and_then (λ more. words_by (opened_after pl (with_main x.1) o) (bared xs) more) w
  words-step x o xs None again = refl
  words-step x o xs (Some more) again = again more

  words-seen : (o : Open) (xs : List (Place × Piece)) (ws : List ℕ) → result_ok (all_words mv pl o xs ws) ≡ words_by o (bared xs) ws
  words-seen o [] ws = refl
  words-seen o (x ∷ xs) ws =
      words-step x o xs (with_piece mv pl o x.1 ws) (λ more. words-seen (opened_after pl x.1 o) xs more ∙ ap (λ (q : Open). words_by q (bared xs) more) (piece-opened x.1 o))
      ∙ ap (option_and_then (λ more. words_by (opened_after pl (with_main x.1) o) (bared xs) more)) (piece-words o x.1 ws)

  pub words-same : (xs ys : List (Place × Piece)) (ws : List ℕ) → bared xs ≡ bared ys → result_ok (all_words mv pl None xs ws) ≡ result_ok (all_words mv pl None ys ws)
  words-same xs ys ws h = words-seen None xs ws ∙ ap (λ (ps : List Piece). words_by None ps ws) h ∙ sym (words-seen None ys ws)
