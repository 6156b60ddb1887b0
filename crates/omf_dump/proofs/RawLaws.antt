-- The items of a record by its bytes alone, one after another.
use Rattle.std.proofs.Common.{◌≡◌, ℕ, zero, suc, ◌+◌, ◌-◌, ◌<◌, List, [], ◌∷◌, ◌++◌, length, drop, Bool, false, refl, sym, ap, ap₂, ◌∙◌, arith}
use Rattle.omf_frame.specs.declared.kinds.RecordType.{RecordType}
use Rattle.omf_frame.specs.declared.kinds.Width.{Width}
use Rattle.omf_dump.specs.Fields.{Item, item}
use Rattle.omf_dump.specs.Known.{Tables}
use Rattle.omf_dump.specs.Raw.{item_fields, item_size, items_from}
use Rattle.omf_dump.specs.Render.{fields_text, item_end, item_start, items_text}
use Rattle.omf_dump.specs.declared.format.Format.{Format}
use Rattle.omf_dump.proofs.ItemLaws.{item_written}

-- bytes of the item before
skipped : (t : Tables) (w : Width) (k : RecordType) (within n : ℕ) (bytes : List ℕ) → items_from t w k within n bytes ≡ items_from t w k (within + n) 0 (drop n bytes)
skipped t w k within zero bytes = let e : within ≡ within + 0 = omega arith in ap (λ (s : ℕ). items_from t w k s 0 bytes) e
skipped t w k within (suc n) [] = refl
skipped t w k within (suc n) (b ∷ bytes) =
    let e : within + 1 + n ≡ within + suc n = omega arith in
    skipped t w k (within + 1) n bytes ∙ ap (λ (s : ℕ). items_from t w k s 0 (drop n bytes)) e

from_here : (t : Tables) (w : Width) (k : RecordType) (within taken size less b : ℕ) (bytes : List ℕ) → size ≡ suc less → taken - 1 ≡ less
    → items_from t w k (within + 1) (taken - 1) bytes ≡ items_from t w k (within + size) 0 (drop size (b ∷ bytes))
from_here t w k within taken size less b bytes e d =
    let at : within + 1 + less ≡ within + size = omega (arith, e) in
    ap (λ (n : ℕ). items_from t w k (within + 1) n bytes) d ∙ skipped t w k (within + 1) less bytes
    ∙ ap₂ (λ (s : ℕ) (bs : List ℕ). items_from t w k s 0 bs) at (ap (λ (n : ℕ). drop n (b ∷ bytes)) (sym e))

-- an item, and those after it; it takes a byte at least
pub next_item : (t : Tables) (w : Width) (k : RecordType) (within size : ℕ) (bytes : List ℕ) → 0 < length bytes → 0 < size → size - 1 ≡ item_size w k bytes - 1
    → items_from t w k within 0 bytes ≡ item within (item_fields t w k bytes) ∷ items_from t w k (within + size) 0 (drop size bytes)
next_item t w k within size [] some taken e = absurd (omega (arith, some))
next_item t w k within size (b ∷ bytes) some taken e =
    let one : size ≡ suc (size - 1) = omega (arith, taken) in
    ap (λ (xs : List Item). item within (item_fields t w k (b ∷ bytes)) ∷ xs) (from_here t w k within (item_size w k (b ∷ bytes)) size (size - 1) b bytes one (sym e))

-- an item was written, and those after it are still to come
pub item_was_written : (t : Tables) (w : Width) (k : RecordType) (f : Format) (first : Bool) (within size : ℕ) (bytes old a b mid whole : List ℕ) → 0 < length bytes → 0 < size → size - 1 ≡ item_size w k bytes - 1
    → a ≡ old ++ item_start f first within → b ≡ a ++ fields_text f (item_fields t w k bytes) → mid ≡ b ++ item_end f
    → old ++ items_text f first (items_from t w k within 0 bytes) ≡ whole → mid ++ items_text f false (items_from t w k (within + size) 0 (drop size bytes)) ≡ whole
item_was_written t w k f first within size bytes old a b mid whole some taken is pa pb pm e =
    item_written f first within (item_fields t w k bytes) (items_from t w k (within + size) 0 (drop size bytes)) old a b mid whole pa pb pm
    (ap (λ (xs : List Item). old ++ items_text f first xs) (sym (next_item t w k within size bytes some taken is)) ∙ e)
