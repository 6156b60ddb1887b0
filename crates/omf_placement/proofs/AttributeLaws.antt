-- There are as many attributes as segments.
use Rattle.std.proofs.Common.{◌≡◌, ℕ, ◌+◌, ◌-◌, ◌≤◌, List, [], ◌∷◌, length, get_or, refl, sym, ap, ap₂, ◌∙◌, arith, length-append}
use Rattle.std.specs.Prelude.{None}
use Rattle.std.proofs.lemmas.Option.{none-some, slice_get-get_or}
use Rattle.omf_records.specs.Values.{Rec, Contents, Header, Comment, Names, Segment, Group, Externs, Publics, Communals, Plain, Iterated, Fixups, ModEnd, Carried}
use Rattle.omf_check.specs.Tables.{attributes, attributes_in, segments, entry, defined_segments}
use Rattle.omf_placement.proofs.ListLaws.{entry-at}

one-attribute : (kind : ℕ) (c : Contents) → length (attributes_in c) ≡ length (defined_segments kind c)
one-attribute kind (Segment s) = refl
one-attribute kind (Header n) = refl
one-attribute kind (Comment a b t) = refl
one-attribute kind (Names ns) = refl
one-attribute kind (Group g) = refl
one-attribute kind (Externs es) = refl
one-attribute kind (Publics p) = refl
one-attribute kind (Communals cs) = refl
one-attribute kind (Plain d) = refl
one-attribute kind (Iterated d) = refl
one-attribute kind (Fixups fs) = refl
one-attribute kind (ModEnd b s) = refl
one-attribute kind (Carried bs) = refl

pub length-attributes : (m : List Rec) → length (attributes m) ≡ length (segments m)
length-attributes [] = refl
length-attributes (r ∷ m) = length-append (attributes_in r.contents) (attributes m) ∙ ap₂ (λ a b. a + b) (one-attribute r.kind r.contents) (length-attributes m) ∙ sym (length-append (defined_segments r.kind r.contents) (segments m))

-- Each segment has an attribute, by its index.
pub attribute-there : (m : List Rec) (i : ℕ) → 1 ≤ i → i ≤ length (segments m) → entry (attributes m) i ≡ None → ⊥
attribute-there m i low high e =
    let same : i ≡ i - 1 + 1 = omega (arith, low) in
    none-some (get_or (attributes m) (i - 1) 0) (sym e ∙ ap (entry (attributes m)) same ∙ entry-at (attributes m) (i - 1) ∙ slice_get-get_or (attributes m) (i - 1) 0 (omega (arith, low, high, length-attributes m)))
