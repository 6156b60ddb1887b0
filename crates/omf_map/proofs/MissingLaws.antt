-- Whether a public is missing: of an external that a text gives no place, and no public has the name.
use Rattle.std.proofs.Common.{◌≡◌, ℕ, ◌<◌, List, length, refl, sym, ap, ◌∙◌, arith}
use Rattle.std.specs.Prelude.{Bool, true, false, ◌&&◌, filter_map, is_none, is_some, option_and_then, Option, Some, None}
use Rattle.omf_records.specs.Values.{Rec}
use Rattle.omf_check.specs.Tables.{entry, externals}
use Rattle.omf_linking.specs.Locator.Sparse.{Sparse}
use Rattle.omf_placement.specs.Derive.{named_externals}
use Rattle.omf_placement.proofs.NamedLaws.{named-count}
use Rattle.omf_map.specs.Addresses.{NamedAddress, is_missing, is_unnamed, of_name, some_place}
use Rattle.omf_externals.proofs.SettledLaws.{no_entry}

-- An external that is missing, or not.
pub not_missing : (among : Bool → List NamedAddress) (s : Sparse) (m : List Rec) (i : ℕ) → length (externals m) < i → false ≡ is_missing among s i (entry (named_externals m) i)
not_missing among s m i h = ap (is_missing among s i) (sym (no_entry (named_externals m) i (omega (arith, h, named-count m))))

is_given : {A : Type 0} (o : Option A) (b : Bool) → is_some o ≡ true → false ≡ (is_none o && b)
is_given None b e = absurd cc
is_given (Some x) b e = refl

pub given_is_not : (among : Bool → List NamedAddress) (s : Sparse) (i : ℕ) (e : Option (List ℕ × Bool)) → is_some (option_and_then some_place (entry s.externals i)) ≡ true → false ≡ is_missing among s i e
given_is_not among s i None g = refl
given_is_not among s i (Some e) g = is_given (option_and_then some_place (entry s.externals i)) _ g

not_given : {A : Type 0} (o : Option A) (b : Bool) → is_some o ≡ false → b ≡ (is_none o && b)
not_given None b e = refl
not_given (Some x) b e = absurd cc

pub missing_is : (among : Bool → List NamedAddress) (s : Sparse) (i : ℕ) (o : Option (List ℕ × Bool)) (n : List ℕ) (l : Bool) → o ≡ Some (n, l) → is_some (option_and_then some_place (entry s.externals i)) ≡ false
    → is_unnamed (filter_map (of_name n) (among l)) ≡ is_missing among s i o
missing_is among s i o n l e g = not_given (option_and_then some_place (entry s.externals i)) (is_unnamed (filter_map (of_name n) (among l))) g ∙ ap (is_missing among s i) (sym e)
