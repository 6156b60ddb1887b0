-- The names of the records of a module, one record after another.
use Rattle.std.proofs.Common.{◌≡◌, ℕ, suc, ◌+◌, ◌<◌, ◌≤◌, arith, get_or, length, map, take, List, [], ◌∷◌, ◌++◌, Bool, true, false, cond, refl, sym, ap, ap₂, subst, ◌∙◌, append_assoc}
use Rattle.std.specs.BTreeSet.{BTreeSet, Updates, contains}
use Rattle.std.specs.Cmp.{unsigned_tied}
use Rattle.std.specs.Io.KnownBytes.{Appends}
use Rattle.std.specs.Ordering.{nat_cmp}
use Rattle.std.specs.Prelude.{◌||◌, ◌==◌, flat_map, Option}
use Rattle.std.proofs.Math.Seq.{take-suc}
use Rattle.std.proofs.KnownBytes.{Appends-nil, Appends-trans}
use Rattle.std.proofs.lemmas.List.{append-nil, length-append}
use Rattle.std.proofs.lemmas.Grind.{flat_map-append}
use Rattle.std.proofs.lemmas.List.Folds.{list_any-append}
use Rattle.omf_frame.specs.Bytes.{is_one_of}
use Rattle.omf_frame.specs.Framing.{Raw, raw_bytes}
use Rattle.omf_frame.specs.declared.fault.Place.{Place}
use Rattle.omf_records.specs.Inner.Reading.{typed}
use Rattle.omf_records.specs.Values.{At, CommunalItem, Contents, ExternalItem, Rec}
use Rattle.omf_check.specs.Listed.{placed_from}
use Rattle.omf_check.specs.Tables.{defined_externals, externals}
use Rattle.omf_check.specs.WellFormed.{recs}
use Rattle.omf_dump.specs.Inner.Walking.{IsSent}
use Rattle.omf_dump.specs.Names.{NameRow, module_rows, record_rows, rows_from}
use Rattle.omf_dump.proofs.StreamLaws.{sent_on}

-- what a list has of each record, without their places
pub listed : (f : Contents → List ℕ) (number start : ℕ) (rs : List Raw) → flat_map (λ x. f x.1.contents) (placed_from number start rs) ≡ flat_map (λ r. f r.contents) (recs rs)
listed f number start [] = refl
listed f number start (r ∷ rs) = ap (λ (xs : List ℕ). f (typed r).contents ++ xs) (listed f (number + 1) (start + length (raw_bytes r)) rs)

pub without_places : (number start : ℕ) (rs : List Raw) → map (λ x. x.1) (placed_from number start rs) ≡ recs rs
without_places number start [] = refl
without_places number start (r ∷ rs) = ap (λ (ts : List Rec). typed r ∷ ts) (without_places (number + 1) (start + length (raw_bytes r)) rs)

-- the records that are left, without their places
abbrev pub left_of : List (Place × Rec) → List Rec
left_of xs = map (λ x. x.1) xs

-- the lines of the names so far are written but for what is still collected, and those of the records that are left are to come
abbrev pub AreWritten : (NameRow → List ℕ) → List Rec → ℕ → List (Place × Rec) → List ℕ → Option (List ℕ) → Option (List ℕ) → Type 0
AreWritten f m first xs kept old now = (front : List ℕ) × Appends old now front × ((front ++ kept) ++ flat_map f (rows_from m first (left_of xs)) ≡ flat_map f (module_rows m))

-- the externals of the records that are left are those whose indices are left
abbrev pub AreCounted : List Rec → ℕ → List (Place × Rec) → Type 0
AreCounted m first xs = first + length (externals (left_of xs)) ≡ length (externals m) + 1

pub written_none : (f : NameRow → List ℕ) (m : List Rec) (xs : List (Place × Rec)) (kept : List ℕ) (old : Option (List ℕ)) → kept ≡ [] → left_of xs ≡ m → AreWritten f m 1 xs kept old old
written_none f m xs kept old k e = ([], Appends-nil old, ap (λ (t : List ℕ). t ++ flat_map f (rows_from m 1 (left_of xs))) k ∙ ap (λ (rs : List Rec). flat_map f (rows_from m 1 rs)) e)

pub counted_none : (m : List Rec) (xs : List (Place × Rec)) → left_of xs ≡ m → AreCounted m 1 xs
counted_none m xs e =
    let same = ap (λ (rs : List Rec). length (externals rs)) e in
    omega (arith, same)

pub written_more : (f : NameRow → List ℕ) (m : List Rec) (first next : ℕ) (xs rest : List (Place × Rec)) (x : Place × Rec) (kept shown left : List ℕ) (old mid new : Option (List ℕ))
    → xs ≡ x ∷ rest → next ≡ first + length (defined_externals x.1.contents) → shown ≡ kept ++ flat_map f (record_rows m first x.1.kind x.1.contents) → IsSent mid new shown left
    → AreWritten f m first xs kept old mid → AreWritten f m next rest left old new
written_more f m first next xs rest x kept shown left old mid new e n is s h = (
  h.0 ++ s.front,
  Appends-trans old mid new h.0 s.front h.1 s.written,
  let here : List ℕ = flat_map f (record_rows m first x.1.kind x.1.contents) in
      let after : List ℕ = flat_map f (rows_from m (first + length (defined_externals x.1.contents)) (left_of rest)) in
      let moved : flat_map f (rows_from m next (left_of rest)) ≡ after = ap (λ (k : ℕ). flat_map f (rows_from m k (left_of rest))) n in
      let parted : flat_map f (rows_from m first (left_of xs)) ≡ here ++ after
      = ap (λ (ys : List (Place × Rec)). flat_map f (rows_from m first (left_of ys))) e ∙ flat_map-append f (record_rows m first x.1.kind x.1.contents) (rows_from m (first + length (defined_externals x.1.contents)) (left_of rest)) in
      ap₂ (λ (a b : List ℕ). a ++ b) (sent_on mid new h.0 kept here shown left is s) moved ∙ append_assoc (h.0 ++ kept) here after ∙ ap (λ (t : List ℕ). (h.0 ++ kept) ++ t) (sym parted) ∙ h.2,
)

pub counted_more : (m : List Rec) (first next : ℕ) (xs rest : List (Place × Rec)) (x : Place × Rec) → xs ≡ x ∷ rest → next ≡ first + length (defined_externals x.1.contents) → AreCounted m first xs → AreCounted m next rest
counted_more m first next xs rest x e n h =
    let parted = ap (λ (ys : List (Place × Rec)). length (externals (left_of ys))) e ∙ length-append (defined_externals x.1.contents) (externals (left_of rest)) in
    omega (arith, parted, n, h)

-- the externals of the first record that is left have indices of the table
pub has_room : (m : List Rec) (first : ℕ) (xs rest : List (Place × Rec)) (x : Place × Rec) → xs ≡ x ∷ rest → AreCounted m first xs → first + length (defined_externals x.1.contents) ≤ length (externals m) + 1
has_room m first xs rest x e h =
    let parted = ap (λ (ys : List (Place × Rec)). length (externals (left_of ys))) e ∙ length-append (defined_externals x.1.contents) (externals (left_of rest)) in
    omega (arith, parted, h)

pub written_all : (f : NameRow → List ℕ) (m : List Rec) (first : ℕ) (xs : List (Place × Rec)) (kept : List ℕ) (old mid new : Option (List ℕ)) → xs ≡ [] → AreWritten f m first xs kept old mid → Appends mid new kept
    → Appends old new (flat_map f (module_rows m))
written_all f m first xs kept old mid new e h s =
    let none : flat_map f (rows_from m first (left_of xs)) ≡ [] = ap (λ (ys : List (Place × Rec)). flat_map f (rows_from m first (left_of ys))) e in
    let all : h.0 ++ kept ≡ flat_map f (module_rows m) = sym (append-nil (h.0 ++ kept)) ∙ ap (λ (t : List ℕ). (h.0 ++ kept) ++ t) (sym none) ∙ h.2 in
    subst (Appends old new) all (Appends-trans old mid new h.0 kept h.1 s)

-- a record defines an external for each item
pub externals_counted : (items : List (At ExternalItem)) → length (map (λ e. e.item.name) items) ≡ length items
externals_counted [] = refl
externals_counted (e ∷ es) = ap suc (externals_counted es)

pub communals_counted : (items : List (At CommunalItem)) → length (map (λ c. c.item.name) items) ≡ length items
communals_counted [] = refl
communals_counted (c ∷ cs) = ap suc (communals_counted cs)

-- a set of the first elements of a list gets the next one
or_only : (b a : Bool) → cond b true a ≡ (a || (b || false))
or_only true true = refl
or_only true false = refl
or_only false true = refl
or_only false false = refl

pub one_more : (s n : BTreeSet ℕ) (xs : List ℕ) (i d : ℕ) → i < length xs → Updates nat_cmp s n (get_or xs i d) true → ((q : ℕ) → contains nat_cmp s q ≡ is_one_of (take i xs) q)
    → (q : ℕ) → contains nat_cmp n q ≡ is_one_of (take (i + 1) xs) q
one_more s n xs i d l u h q =
    let k : ℕ = get_or xs i d in
    let e : i + 1 ≡ suc i = omega arith in
    rw e (u.0 q ∙ ap₂ (λ (b a : Bool). cond b true a) (unsigned_tied k q) (h q) ∙ or_only (k == q) (is_one_of (take i xs) q)
    ∙ sym (ap (λ (ys : List ℕ). is_one_of ys q) (take-suc xs i d l) ∙ list_any-append (λ j. j == q) (take i xs) (k ∷ [])))
