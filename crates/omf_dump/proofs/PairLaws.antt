-- The indices in a comment's text, one after another.
use Rattle.std.proofs.Common.{◌≡◌, ℕ, ◌+◌, ◌-◌, ◌*◌, List, [], ◌∷◌, ◌++◌, drop, Bool, true, false, cond, refl, sym, ap, ap₂, ◌∙◌}
use Rattle.std.specs.Prelude.{nat_lt, not, Option, Some, None, unwrap_or}
use Rattle.omf_dump.specs.Comments.{front_index, pair_item, pair_items}
use Rattle.omf_dump.specs.Fields.{Item}
use Rattle.omf_dump.specs.Known.{Tables}
use Rattle.omf_dump.specs.Render.{fields_text, item_end, item_start, items_text}
use Rattle.omf_dump.specs.declared.format.Format.{Format}
use Rattle.omf_dump.proofs.ItemLaws.{item_written}

-- the parts of a pair
abbrev pub at_front : ℕ → ℕ → Option (ℕ × ℕ)
at_front index size = Some (index, size)

first_is : (a b c d : ℕ) → at_front a b ≡ at_front c d → a ≡ c
first_is a b c d e = ap (λ (o : Option (ℕ × ℕ)). (unwrap_or o (0, 0)).0) e

second_is : (a b c d : ℕ) → at_front a b ≡ at_front c d → b ≡ d
second_is a b c d e = ap (λ (o : Option (ℕ × ℕ)). (unwrap_or o (0, 0)).1) e

-- an index and the items after it
abbrev from_index : Tables → ℕ → Bool → List ℕ → ℕ → ℕ → List Item
from_index t within d bytes index size = pair_item t within d index ∷ pair_items t (within + size) (not d) (drop size bytes)

same_from : (t : Tables) (within : ℕ) (d : Bool) (bytes : List ℕ) (a b index size : ℕ) → at_front index size ≡ at_front a b → from_index t within d bytes a b ≡ from_index t within d bytes index size
same_from t within d bytes a b index size e = ap₂ (from_index t within d bytes) (sym (first_is index size a b e)) (sym (second_is index size a b e))

last_one : (t : Tables) (within : ℕ) (d : Bool) (a index size : ℕ) (b : Bool) → at_front index size ≡ cond b (at_front a 1) None → cond b (pair_item t within d a ∷ []) [] ≡ from_index t within d (a ∷ []) index size
last_one t within d a index size true e = same_from t within d (a ∷ []) a 1 index size e
last_one t within d a index size false e = absurd cc

one_or_two : (t : Tables) (within : ℕ) (d : Bool) (a c : ℕ) (rest : List ℕ) (two index size : ℕ) (b : Bool) → at_front index size ≡ cond b (at_front a 1) (at_front two 2)
    → cond b (pair_item t within d a ∷ pair_items t (within + 1) (not d) (c ∷ rest)) (pair_item t within d two ∷ pair_items t (within + 2) (not d) rest) ≡ from_index t within d (a ∷ c ∷ rest) index size
one_or_two t within d a c rest two index size true e = same_from t within d (a ∷ c ∷ rest) a 1 index size e
one_or_two t within d a c rest two index size false e = same_from t within d (a ∷ c ∷ rest) two 2 index size e

pub next_pair : (t : Tables) (within : ℕ) (d : Bool) (bytes : List ℕ) (index size : ℕ) → at_front index size ≡ front_index bytes
    → pair_items t within d bytes ≡ pair_item t within d index ∷ pair_items t (within + size) (not d) (drop size bytes)
next_pair t within d [] index size e = absurd cc
next_pair t within d (a ∷ []) index size e = last_one t within d a index size (nat_lt a 128) e
next_pair t within d (a ∷ c ∷ rest) index size e = one_or_two t within d a c rest ((a - 128) * 256 + c) index size (nat_lt a 128) e

none_here : (t : Tables) (within : ℕ) (d : Bool) (a : ℕ) (b : Bool) → None ≡ cond b (at_front a 1) None → cond b (pair_item t within d a ∷ []) [] ≡ []
none_here t within d a true e = absurd cc
none_here t within d a false e = refl

never_none : (b : Bool) (x y : ℕ × ℕ) → None ≡ cond b (Some x) (Some y) → ⊥
never_none true x y e = cc
never_none false x y e = cc

pub no_pair : (t : Tables) (within : ℕ) (d : Bool) (bytes : List ℕ) → None ≡ front_index bytes → pair_items t within d bytes ≡ []
no_pair t within d [] e = refl
no_pair t within d (a ∷ []) e = none_here t within d a (nat_lt a 128) e
no_pair t within d (a ∷ c ∷ rest) e = absurd (never_none (nat_lt a 128) (a, 1) ((a - 128) * 256 + c, 2) e)

-- an item was written, and those after it are still to come
pub pair_written : (t : Tables) (f : Format) (first d : Bool) (within index size : ℕ) (bytes old a b mid whole : List ℕ) → at_front index size ≡ front_index bytes
    → a ≡ old ++ item_start f first within → b ≡ a ++ fields_text f (pair_item t 0 d index).fields → mid ≡ b ++ item_end f
    → old ++ items_text f first (pair_items t within d bytes) ≡ whole → mid ++ items_text f false (pair_items t (within + size) (not d) (drop size bytes)) ≡ whole
pair_written t f first d within index size bytes old a b mid whole is pa pb pm e =
    item_written f first within (pair_item t 0 d index).fields (pair_items t (within + size) (not d) (drop size bytes)) old a b mid whole pa pb pm
    (ap (λ (xs : List Item). old ++ items_text f first xs) (sym (next_pair t within d bytes index size is)) ∙ e)
