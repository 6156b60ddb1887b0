-- Tables of a module are those of its bare pieces, whatever the fixups are.
use Rattle.std.proofs.Common.{◌≡◌, ℕ, List, [], ◌∷◌, ◌++◌, refl, sym, ◌∙◌, ap, ap₂}
use Rattle.std.specs.Prelude.{map, flat_map}
use Rattle.std.proofs.lemmas.Simd.{map-map}
use Rattle.std.proofs.lemmas.List.{map-append}
use Rattle.std.proofs.lemmas.Grind.{flat_map-append}
use Rattle.omf_frame.specs.Bytes.{with_before}
use Rattle.omf_frame.specs.Types.{is_local}
use Rattle.omf_records.specs.Values.{At, Rec, Contents, Names, Segment, Comment, Group, GroupItem, Externs, ExternalItem, Communals, CommunalItem, Subrecord, unplaced, nowhere}
use Rattle.omf_check.specs.Tables.{subrecords, defined_names, defined_segments, attributes_in, defined_groups, defined_externals}
use Rattle.omf_placement.specs.Weak.{pairs_in}
use Rattle.omf_reloc.specs.Inner.Pieces.{one_by_one}
use Rattle.omf_reloc.specs.Plain.{Piece, Kept, Fixed, End, PlainFixup, pieces}
use Rattle.omf_canon.specs.Skeleton.{normal}
use Rattle.omf_canon.proofs.NormalLaws.{normal_of, normal_at, normal-pieces, single-normal}
use Rattle.omf_keys.specs.Keys.{bare_pieces, bare_group}
use Rattle.omf_keys.specs.Laws.{HaveSameTables}

-- What no FIXUPP has a part in is the same one fixup at a time.
module _ {A : Type 0} (g : Piece → List A) (none : (kind : ℕ) (fs : List PlainFixup) → g (Fixed kind fs) ≡ []) where
  singles-none : (kind : ℕ) (fs : List PlainFixup) → flat_map g (map (λ f. Fixed kind (f ∷ [])) fs) ≡ []
  singles-none kind [] = refl
  singles-none kind (f ∷ fs) = ap₂ (λ (xs ys : List A). xs ++ ys) (none kind (f ∷ [])) (singles-none kind fs)

  pub table-single : (ps : List Piece) → flat_map g (flat_map one_by_one ps) ≡ flat_map g ps
  table-single [] = refl
  table-single (Kept r ∷ ps) = ap (λ (xs : List A). g (Kept r) ++ xs) (table-single ps)
  table-single (End kind byte start ∷ ps) = ap (λ (xs : List A). g (End kind byte start) ++ xs) (table-single ps)
  table-single (Fixed kind fs ∷ ps) =
      flat_map-append g (map (λ f. Fixed kind (f ∷ [])) fs) (flat_map one_by_one ps)
      ∙ ap₂ (λ (xs ys : List A). xs ++ ys) (singles-none kind fs ∙ sym (none kind fs)) (table-single ps)

  module _ (f : Rec → List A) (same : (earlier : List Subrecord) (r : Rec) → f r ≡ g (normal_of earlier r.kind r.contents)) where
    from-pieces : (before m : List Rec) → flat_map f m ≡ flat_map g (with_before normal_at before m)
    from-pieces before [] = refl
    from-pieces before (r ∷ m) = ap₂ (λ (xs ys : List A). xs ++ ys) (same (subrecords before) r) (from-pieces (before ++ r ∷ []) m)

    pub table-bare : (m : List Rec) → flat_map f m ≡ flat_map g (bare_pieces m)
    table-bare m = from-pieces [] m ∙ sym (ap (flat_map g) (normal-pieces m)) ∙ sym (table-single (map normal (pieces m))) ∙ sym (ap (flat_map g) (single-normal (pieces m)))

    pub same-table : (m n : List Rec) → bare_pieces m ≡ bare_pieces n → flat_map f m ≡ flat_map f n
    same-table m n h = table-bare m ∙ ap (flat_map g) h ∙ sym (table-bare n)

-- A table of the records that are no FIXUPP and no MODEND.
module _ {A : Type 0} (k : ℕ → Contents → List A) where
  abbrev pub of_kept : Piece → List A
  of_kept (Kept r) = k r.kind r.contents
  of_kept _ = []

  pub same-kept : ((earlier : List Subrecord) (kind : ℕ) (c : Contents) → k kind c ≡ of_kept (normal_of earlier kind c)) → (m n : List Rec) → bare_pieces m ≡ bare_pieces n
      → flat_map (λ r. k r.kind r.contents) m ≡ flat_map (λ r. k r.kind r.contents) n
  same-kept same m n h = same-table of_kept (λ kind fs. refl) (λ r. k r.kind r.contents) (λ earlier r. same earlier r.kind r.contents) m n h

names-bare : (items : List (At (List ℕ))) → map (λ n. n.item) items ≡ map (λ n. n.item) (map unplaced items)
names-bare items = sym (map-map (λ (n : At (List ℕ)). n.item) unplaced items)

names-piece : (earlier : List Subrecord) (kind : ℕ) (c : Contents) → defined_names c ≡ of_kept (λ k d. defined_names d) (normal_of earlier kind c)
names-piece earlier kind (Names items) = names-bare items
names-piece earlier kind _ = refl

segments-piece : (earlier : List Subrecord) (kind : ℕ) (c : Contents) → defined_segments kind c ≡ of_kept defined_segments (normal_of earlier kind c)
segments-piece earlier kind (Segment s) = refl
segments-piece earlier kind _ = refl

attributes-piece : (earlier : List Subrecord) (kind : ℕ) (c : Contents) → attributes_in c ≡ of_kept (λ k d. attributes_in d) (normal_of earlier kind c)
attributes-piece earlier kind (Segment s) = refl
attributes-piece earlier kind _ = refl

weak-piece : (earlier : List Subrecord) (kind : ℕ) (c : Contents) → pairs_in c ≡ of_kept (λ k d. pairs_in d) (normal_of earlier kind c)
weak-piece earlier kind (Comment byte class text) = refl
weak-piece earlier kind _ = refl

abbrev bare_groups : Contents → List GroupItem
bare_groups c = map bare_group (defined_groups c)

members-bare : (ms : List (At (At ℕ))) → map (λ m. nowhere (unplaced m.item)) ms ≡ map (λ m. nowhere (unplaced m.item)) (map (λ m. nowhere (unplaced m.item)) ms)
members-bare ms = sym (map-map (λ (m : At (At ℕ)). nowhere (unplaced m.item)) (λ (m : At (At ℕ)). nowhere (unplaced m.item)) ms)

groups-piece : (earlier : List Subrecord) (kind : ℕ) (c : Contents) → bare_groups c ≡ of_kept (λ k d. bare_groups d) (normal_of earlier kind c)
groups-piece earlier kind (Group g) = ap (λ (ms : List (At (At ℕ))). let g' : GroupItem = record { name = unplaced g.name; members = ms } in g' ∷ []) (members-bare g.members)
groups-piece earlier kind _ = refl

map-flat : {A B C : Type 0} (h : B → C) (f : A → List B) (xs : List A) → map h (flat_map f xs) ≡ flat_map (λ x. map h (f x)) xs
map-flat h f [] = refl
map-flat h f (x ∷ xs) = map-append h (f x) (flat_map f xs) ∙ ap (λ ys. map h (f x) ++ ys) (map-flat h f xs)

externs-bare : (items : List (At ExternalItem)) → map (λ e. e.item.name) items ≡ map (λ e. e.item.name) (map unplaced items)
externs-bare items = sym (map-map (λ (e : At ExternalItem). e.item.name) unplaced items)

communals-bare : (items : List (At CommunalItem)) → map (λ c. c.item.name) items ≡ map (λ c. c.item.name) (map unplaced items)
communals-bare items = sym (map-map (λ (c : At CommunalItem). c.item.name) unplaced items)

externals-piece : (earlier : List Subrecord) (kind : ℕ) (c : Contents) → defined_externals c ≡ of_kept (λ k d. defined_externals d) (normal_of earlier kind c)
externals-piece earlier kind (Externs items) = externs-bare items
externals-piece earlier kind (Communals items) = communals-bare items
externals-piece earlier kind _ = refl

locals-piece : (earlier : List Subrecord) (kind : ℕ) (c : Contents) → map (λ e. is_local kind) (defined_externals c) ≡ of_kept (λ k d. map (λ e. is_local k) (defined_externals d)) (normal_of earlier kind c)
locals-piece earlier kind (Externs items) = ap (map (λ e. is_local kind)) (externs-bare items)
locals-piece earlier kind (Communals items) = ap (map (λ e. is_local kind)) (communals-bare items)
locals-piece earlier kind _ = refl

pub same-tables : (m n : List Rec) → bare_pieces m ≡ bare_pieces n → HaveSameTables m n
same-tables m n h = record {
  names = same-kept (λ k c. defined_names c) names-piece m n h;
  segments = same-kept defined_segments segments-piece m n h;
  attributes = same-kept (λ k c. attributes_in c) attributes-piece m n h;
  groups = map-flat bare_group (λ r. defined_groups r.contents) m ∙ same-kept (λ k c. bare_groups c) groups-piece m n h ∙ sym (map-flat bare_group (λ r. defined_groups r.contents) n);
  externals = same-kept (λ k c. defined_externals c) externals-piece m n h;
  locals = same-kept (λ k c. map (λ e. is_local k) (defined_externals c)) locals-piece m n h;
  weak = same-kept (λ k c. pairs_in c) weak-piece m n h;
}
