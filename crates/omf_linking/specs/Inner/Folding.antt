-- Folding, as the code does it: the items of records, and a record beside its folded one.
use Rattle.std.specs.Prelude.{◌≡◌, ℕ, List, Ok}
use Rattle.omf_records.specs.Inner.Reading.{read_body}
use Rattle.omf_records.specs.Values.{Communals, Contents, Externs, PublicItems, Publics}
use Rattle.omf_linking.specs.Folded.{folded_contents, named_contents}
use Rattle.omf_linking.specs.declared.folding.named.NamedItems.{NamedItems}
use Rattle.omf_linking.specs.declared.folding.named.NamedItems.TheVariants as items

-- The items of a record's contents whose names are folded; contents without such items are their own folded contents.
abbrev pub AreItemsOf : Contents → NamedItems → Type 0
AreItemsOf c (items.Externs xs) = c ≡ Externs xs
AreItemsOf c (items.Publics p) = c ≡ Publics p
AreItemsOf c (items.Communals xs) = c ≡ Communals xs
AreItemsOf c items.Others = named_contents c ≡ c

-- Two PUBDEFs have the same base.
pub record IsSameBase (p q : PublicItems) : Type 0 where
  pub group : q.group ≡ p.group
  pub segment : q.segment ≡ p.segment
  pub frame : q.frame ≡ p.frame

-- A record's contents are those of another one, folded.
pub record FoldTo (kind : ℕ) (body : List ℕ) (lower : ℕ) (lowered : List ℕ) : Type 0 where
  pub same : lower ≡ kind
  pub contents : (c d : Contents) → read_body kind body ≡ Ok c → read_body lower lowered ≡ Ok d → d ≡ folded_contents kind c

-- The same of a record that is no ALIAS.
pub record NamedFold (kind : ℕ) (body : List ℕ) (lower : ℕ) (lowered : List ℕ) : Type 0 where
  pub same : lower ≡ kind
  pub contents : (c d : Contents) → read_body kind body ≡ Ok c → read_body lower lowered ≡ Ok d → d ≡ named_contents c
