-- The laws of shortest contents.
use Rattle.std.proofs.Common.{◌≡◌, ℕ, ◌/◌, ◌%◌, List, [], ◌∷◌, ◌++◌, map, flat_map, Option, Some, None, refl, sym, ap, subst, ◌∙◌}
use Rattle.std.specs.Prelude.{option_map}
use Rattle.byteorder.specs.Endian.{little_bytes}
use Rattle.omf_frame.specs.Fields.{name_bytes}
use Rattle.omf_records.specs.Shortest.{communal_bytes, public_bytes, external_bytes, member_bytes, option_bytes, datum_bytes, reference_bytes, subrecord_bytes, contents_bytes}
use Rattle.omf_records.specs.Values.{At, Reference, Subrecord, Thread, Fixup, Contents, Header, Comment, Names, Segment, Group, Externs, Publics, Communals, Plain, Iterated, Fixups, ModEnd, Carried, Rec, nowhere, unplaced, reference_alone, subrecord_alone, contents_alone, alone}
use Rattle.omf_records.specs.Inner.Meets.{whole_unique}
use Rattle.omf_records.specs.Records.{contents, IsTyped}
use Rattle.omf_records.specs.Inner.RecordReaders.{contents_whole}
use Rattle.omf_records.specs.Laws.{ShortestAreTyped, ShortestDecide}
use Rattle.omf_records.proofs.Recast.{shortens}

-- ---- places do not show in the shortest contents

option_alone : (o : Option (At ℕ)) → option_bytes datum_bytes (option_map unplaced o) ≡ option_bytes datum_bytes o
option_alone None = refl
option_alone (Some a) = refl

items_alone : {A : Type 0} (alone : A → A) (f : A → List ℕ) → ((x : A) → f (alone x) ≡ f x) → (xs : List (At A)) → flat_map (λ x. f x.item) (map (λ x. nowhere (alone x.item)) xs) ≡ flat_map (λ x. f x.item) xs
items_alone alone f h [] = refl
items_alone alone f h (x ∷ xs) = ap (λ w. w ++ flat_map (λ y. f y.item) (map (λ y. nowhere (alone y.item)) xs)) (h x.item) ∙ ap (λ w. f x.item ++ w) (items_alone alone f h xs)

reference_shown : (kind : ℕ) (r : Reference) → reference_bytes kind (reference_alone r) ≡ reference_bytes kind r
reference_shown kind r = rw (option_alone r.frame, option_alone r.target) refl

subrecord_shown : (kind : ℕ) (s : Subrecord) → subrecord_bytes kind (subrecord_alone s) ≡ subrecord_bytes kind s
subrecord_shown kind (Thread b datum) = ap (λ w. b ∷ w) (option_alone datum)
subrecord_shown kind (Fixup h r) = ap (λ w. h / 256 ∷ h % 256 ∷ w) (reference_shown kind r)

start_shown : (kind : ℕ) (o : Option Reference) → option_bytes (reference_bytes kind) (option_map reference_alone o) ≡ option_bytes (reference_bytes kind) o
start_shown kind None = refl
start_shown kind (Some r) = reference_shown kind r

pub shown : (kind : ℕ) (c : Contents) → contents_bytes kind (contents_alone c) ≡ contents_bytes kind c
shown kind (Header n) = refl
shown kind (Comment t c x) = refl
shown kind (Names xs) = items_alone (λ x. x) name_bytes (λ x. refl) xs
shown kind (Segment s) = refl
shown kind (Group g) = ap (λ w. datum_bytes g.name ++ w) (items_alone unplaced member_bytes (λ x. refl) g.members)
shown kind (Externs xs) = items_alone (λ x. x) external_bytes (λ x. refl) xs
shown kind (Publics p) = ap (λ w. datum_bytes p.group ++ (datum_bytes p.segment ++ (option_bytes (little_bytes 2) p.frame ++ w))) (items_alone (λ x. x) (public_bytes kind) (λ x. refl) p.items)
shown kind (Communals xs) = items_alone (λ x. x) communal_bytes (λ x. refl) xs
shown kind (Plain d) = refl
shown kind (Iterated d) = refl
shown kind (Fixups xs) = items_alone subrecord_alone (subrecord_bytes kind) (subrecord_shown kind) xs
shown kind (ModEnd b o) = ap (λ w. b ∷ w) (start_shown kind o)
shown kind (Carried x) = refl

-- ---- the laws

same_alone : (kind : ℕ) (c d : Contents) → contents_alone c ≡ contents_alone d → alone (record { kind = kind; contents = c }) ≡ alone (record { kind = kind; contents = d })
same_alone kind c d e = ap (λ (x : Contents). record { kind = kind; contents = x }) e

pub shortest_typed : ShortestAreTyped
shortest_typed r body t =
    let q = shortens r.kind 3 3 body r.contents t in
    let k = q.shorter in
    ((record { kind = r.kind; contents = q.value }, refl, q.spelled, same_alone r.kind q.value r.contents q.same), k.count, k.fits)

of_kind : (r s : Rec) (other : List ℕ) → r.kind ≡ s.kind → IsTyped s other → (contents r.kind).Spells 3 other s.contents
of_kind r s other k t = subst (λ (x : ℕ). (contents x).Spells 3 other s.contents) (sym k) t

equal_alone : (r s : Rec) (body other : List ℕ) → r.kind ≡ s.kind → IsTyped r body → IsTyped s other → contents_bytes r.kind r.contents ≡ contents_bytes s.kind s.contents → alone r ≡ alone s
equal_alone r s body other k t u e =
    let p = shortens r.kind 3 3 body r.contents t in
    let q = shortens r.kind 3 3 other s.contents (of_kind r s other k u) in
    let same : contents_bytes r.kind r.contents ≡ contents_bytes r.kind s.contents = e ∙ ap (λ (x : ℕ). contents_bytes x s.contents) (sym k) in
    let v : p.value ≡ q.value = whole_unique (contents_whole r.kind) 3 (contents_bytes r.kind s.contents) p.value q.value (subst (λ (w : List ℕ). (contents r.kind).Spells 3 w p.value) same p.spelled) q.spelled in
    let c : contents_alone r.contents ≡ contents_alone s.contents = sym p.same ∙ ap contents_alone v ∙ q.same in
    same_alone r.kind r.contents s.contents c ∙ ap (λ (x : ℕ). alone (record { kind = x; contents = s.contents })) k

equal_bytes : (r s : Rec) → r.kind ≡ s.kind → alone r ≡ alone s → contents_bytes r.kind r.contents ≡ contents_bytes s.kind s.contents
equal_bytes r s k e =
    sym (shown r.kind r.contents) ∙ ap (λ (x : Rec). contents_bytes r.kind x.contents) e ∙ shown r.kind s.contents ∙ ap (λ (x : ℕ). contents_bytes x s.contents) k

pub shortest_decide : ShortestDecide
shortest_decide r s body other k t u = (equal_alone r s body other k t u, equal_bytes r s k)
