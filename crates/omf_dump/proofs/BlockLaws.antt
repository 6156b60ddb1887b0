-- The blocks of an LIDATA, one after another.
use Rattle.std.proofs.Common.{◌≡◌, ℕ, zero, suc, ◌+◌, ◌-◌, ◌<◌, List, [], ◌∷◌, ◌++◌, length, drop, Bool, false, refl, sym, ap, ap₂, ◌∙◌, arith}
use Rattle.std.specs.Prelude.{Option, Some, None, is_some, if◌then◌else◌}
use Rattle.omf_frame.specs.declared.kinds.Width.{Width}
use Rattle.omf_frame.specs.declared.kinds.Width.TheVariants.{Bits16, Bits32}
use Rattle.omf_dump.specs.Blocks.{Front, after_block, block_fields, block_front, block_item, blocks_from, front_of, not_ended}
use Rattle.omf_dump.specs.Fields.{Item}
use Rattle.omf_dump.specs.Render.{fields_text, item_end, item_start, items_text}
use Rattle.omf_dump.specs.declared.format.Format.{Format}
use Rattle.omf_dump.proofs.ItemLaws.{item_written}

-- bytes of the block before
skipped : (w : Width) (within : ℕ) (around : List ℕ) (n : ℕ) (bytes : List ℕ) → blocks_from w within around n bytes ≡ blocks_from w (within + n) around 0 (drop n bytes)
skipped w within around zero bytes = let e : within ≡ within + 0 = omega arith in ap (λ (s : ℕ). blocks_from w s around 0 bytes) e
skipped w within around (suc n) [] = refl
skipped w within around (suc n) (b ∷ bytes) =
    let e : within + 1 + n ≡ within + suc n = omega arith in
    skipped w (within + 1) around n bytes ∙ ap (λ (s : ℕ). blocks_from w s around 0 (drop n bytes)) e

empty : (w : Width) → block_front w [] ≡ None
empty Bits16 = refl
empty Bits32 = refl

abbrev begins_with : Width → ℕ → List ℕ → List ℕ → Option Front → List Item
begins_with w within around bytes o =
    if is_some o then block_item within (not_ended around) (front_of o) ∷ blocks_from w (within + 1) (after_block (not_ended around) (front_of o)) ((front_of o).size - 1) bytes
    else []

abbrev and_more : Width → ℕ → List ℕ → Front → List ℕ → List Item
and_more w within around f bytes = block_item within (not_ended around) f ∷ blocks_from w (within + f.size) (after_block (not_ended around) f) 0 (drop f.size bytes)

from_front : (w : Width) (within : ℕ) (around : List ℕ) (f : Front) (size : ℕ) (b : ℕ) (bytes : List ℕ) → f.size ≡ suc size → begins_with w within around bytes (Some f) ≡ and_more w within around f (b ∷ bytes)
from_front w within around f size b bytes e =
    let next : List ℕ = after_block (not_ended around) f in
    let less : f.size - 1 ≡ size = omega (arith, e) in
    let at : within + 1 + size ≡ within + f.size = omega (arith, e) in
    ap (λ (xs : List Item). block_item within (not_ended around) f ∷ xs)
    (ap (λ (n : ℕ). blocks_from w (within + 1) next n bytes) less ∙ skipped w (within + 1) next size bytes
    ∙ ap₂ (λ (s : ℕ) (bs : List ℕ). blocks_from w s next 0 bs) at (ap (λ (n : ℕ). drop n (b ∷ bytes)) (sym e)))

pred_of : (n : ℕ) → 0 < n → n ≡ suc (n - 1)
pred_of n some = omega (arith, some)

-- a block, and those after it
pub next_block : (w : Width) (within : ℕ) (around : List ℕ) (f : Front) (bytes : List ℕ) → Some f ≡ block_front w bytes → 0 < f.size → blocks_from w within around 0 bytes ≡ and_more w within around f bytes
next_block w within around f [] e some = let none = e ∙ empty w in absurd cc
next_block w within around f (b ∷ bytes) e some = ap (begins_with w within around bytes) (sym e) ∙ from_front w within around f (f.size - 1) b bytes (pred_of f.size some)

pub no_block : (w : Width) (within : ℕ) (around : List ℕ) (bytes : List ℕ) → None ≡ block_front w bytes → blocks_from w within around 0 bytes ≡ []
no_block w within around [] e = refl
no_block w within around (b ∷ bytes) e = ap (begins_with w within around bytes) (sym e)

-- a block was written, and those after it are still to come
pub block_written : (w : Width) (f : Format) (first : Bool) (within : ℕ) (around nests : List ℕ) (x : Front) (bytes old a b mid whole : List ℕ) → Some x ≡ block_front w bytes → 0 < x.size → nests ≡ after_block (not_ended around) x
    → a ≡ old ++ item_start f first within → b ≡ a ++ fields_text f (block_fields (length (not_ended around)) x) → mid ≡ b ++ item_end f
    → old ++ items_text f first (blocks_from w within around 0 bytes) ≡ whole → mid ++ items_text f false (blocks_from w (within + x.size) nests 0 (drop x.size bytes)) ≡ whole
block_written w f first within around nests x bytes old a b mid whole is some same pa pb pm e =
    ap (λ (o : List ℕ). mid ++ items_text f false (blocks_from w (within + x.size) o 0 (drop x.size bytes))) same
    ∙ item_written f first within (block_fields (length (not_ended around)) x) (blocks_from w (within + x.size) (after_block (not_ended around) x) 0 (drop x.size bytes)) old a b mid whole pa pb pm
    (ap (λ (xs : List Item). old ++ items_text f first xs) (sym (next_block w within around x bytes is some)) ∙ e)

-- the number of a block's blocks
abbrev pub blocks_in : Front → ℕ
blocks_in x = x.blocks
