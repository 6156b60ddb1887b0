-- Tables of the records that are no FIXUPP and no MODEND.
use Rattle.std.proofs.Common.{◌≡◌, ℕ, List, [], refl, sym, ◌∙◌, ap, Bool, true, false, cond}
use Rattle.std.specs.Prelude.{map, flat_map, filter_map, Option}
use Rattle.omf_records.specs.Values.{At, Rec, Contents, Fixups, ModEnd, GroupItem, Reference, Subrecord, contents_alone}
use Rattle.omf_check.specs.Tables.{groups}
use Rattle.omf_reloc.specs.Plain.{Piece, Kept}
use Rattle.omf_canon.proofs.NormalLaws.{normal_of}
use Rattle.omf_keys.specs.Keys.{bare_pieces, bare_group}
use Rattle.omf_keys.proofs.ListLaws.{map-through, filter-through}
use Rattle.omf_keys.proofs.TableLaws.{same-table, same-tables}

-- What records add to a table by their contents, without places; a FIXUPP and a MODEND add nothing.
pub record IsKeptTable {A : Type 0} (k : ℕ → Contents → List A) : Type 0 where
  pub bare : (kind : ℕ) (c : Contents) → k kind c ≡ k kind (contents_alone c)
  pub fixups : (kind : ℕ) (subs : List (At Subrecord)) → k kind (Fixups subs) ≡ []
  pub end : (kind byte : ℕ) (start : Option Reference) → k kind (ModEnd byte start) ≡ []

module _ {A : Type 0} (k : ℕ → Contents → List A) (is : IsKeptTable k) where
  abbrev kept_of : Piece → List A
  kept_of (Kept r) = k r.kind r.contents
  kept_of _ = []

  kept-piece : (earlier : List Subrecord) (kind : ℕ) (c : Contents) → k kind c ≡ kept_of (normal_of earlier kind c)
  kept-piece earlier kind (Fixups subs) = is.fixups kind subs
  kept-piece earlier kind (ModEnd byte start) = is.end kind byte start
  kept-piece earlier kind c = is.bare kind c

  pub same-records : (m n : List Rec) → bare_pieces m ≡ bare_pieces n → flat_map (λ r. k r.kind r.contents) m ≡ flat_map (λ r. k r.kind r.contents) n
  same-records m n h = same-table kept_of (λ kind fs. refl) (λ r. k r.kind r.contents) (λ earlier r. kept-piece earlier r.kind r.contents) m n h

-- Whatever a test gives.
pub either : {A : Type 0} (b : Bool) (x : A) → cond b x x ≡ x
either true x = refl
either false x = refl

-- What does not see the places in groups is the same.
module _ (m n : List Rec) (h : bare_pieces m ≡ bare_pieces n) where
  pub group-map : {B : Type 0} (f : GroupItem → B) → ((g : GroupItem) → f g ≡ f (bare_group g)) → map f (groups m) ≡ map f (groups n)
  group-map f same = map-through bare_group f same (groups m) ∙ ap (map f) (same-tables m n h).groups ∙ sym (map-through bare_group f same (groups n))

  pub group-filter : {B : Type 0} (f : GroupItem → Option B) → ((g : GroupItem) → f g ≡ f (bare_group g)) → filter_map f (groups m) ≡ filter_map f (groups n)
  group-filter f same = filter-through bare_group f same (groups m) ∙ ap (filter_map f) (same-tables m n h).groups ∙ sym (filter-through bare_group f same (groups n))
