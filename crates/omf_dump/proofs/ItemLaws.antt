-- Items one after another.
use Rattle.std.proofs.Common.{◌≡◌, ℕ, ◌+◌, List, [], ◌∷◌, ◌++◌, length, sym, ap, ◌∙◌, arith, append_assoc, Bool, false}
use Rattle.std.specs.Prelude.{map}
use Rattle.std.proofs.lemmas.List.{length-append}
use Rattle.omf_records.specs.Values.{At}
use Rattle.omf_dump.specs.Contents.{each, numbered}
use Rattle.omf_dump.specs.Fields.{Field, Item, item}
use Rattle.omf_dump.specs.Render.{fields_text, item_end, item_start, items_text}
use Rattle.omf_dump.specs.declared.format.Format.{Format}

regroup : (o s fl en r : List ℕ) → (((o ++ s) ++ fl) ++ en) ++ r ≡ o ++ ((s ++ (fl ++ en)) ++ r)
regroup o s fl en r = simp append_assoc

-- an item was written, and those after it are still to come
pub item_written : (f : Format) (first : Bool) (within : ℕ) (fields : List Field) (rest : List Item) (old a b mid whole : List ℕ) → a ≡ old ++ item_start f first within → b ≡ a ++ fields_text f fields → mid ≡ b ++ item_end f
    → old ++ items_text f first (item within fields ∷ rest) ≡ whole → mid ++ items_text f false rest ≡ whole
item_written f first within fields rest old a b mid whole pa pb pm e =
    let due : List ℕ = items_text f false rest in
    let all : mid ≡ ((old ++ item_start f first within) ++ fields_text f fields) ++ item_end f = pm ∙ ap (λ (t : List ℕ). t ++ item_end f) (pb ∙ ap (λ (t : List ℕ). t ++ fields_text f fields) pa) in
    ap (λ (t : List ℕ). t ++ due) all ∙ regroup old (item_start f first within) (fields_text f fields) (item_end f) due ∙ e

-- the same for the items of a list of which the first has a number
pub numbered_written : {A : Type 0} (fields : ℕ → A → List Field) (f : Format) (first : Bool) (i j : ℕ) (x : At A) (all rest : List (At A)) (old a b mid whole : List ℕ) → all ≡ x ∷ rest → j ≡ i + 1
    → a ≡ old ++ item_start f first x.within → b ≡ a ++ fields_text f (fields i x.item) → mid ≡ b ++ item_end f
    → old ++ items_text f first (numbered fields i all) ≡ whole → mid ++ items_text f false (numbered fields j rest) ≡ whole
numbered_written fields f first i j x all rest old a b mid whole steps next pa pb pm e =
    ap (λ (k : ℕ). mid ++ items_text f false (numbered fields k rest)) next
    ∙ item_written f first x.within (fields i x.item) (numbered fields (i + 1) rest) old a b mid whole pa pb pm (ap (λ xs. old ++ items_text f first (numbered fields i xs)) (sym steps) ∙ e)

-- the same for items without numbers
pub each_written : {A : Type 0} (fields : A → List Field) (f : Format) (first : Bool) (x : At A) (all rest : List (At A)) (old a b mid whole : List ℕ) → all ≡ x ∷ rest
    → a ≡ old ++ item_start f first x.within → b ≡ a ++ fields_text f (fields x.item) → mid ≡ b ++ item_end f
    → old ++ items_text f first (each fields all) ≡ whole → mid ++ items_text f false (each fields rest) ≡ whole
each_written fields f first x all rest old a b mid whole steps pa pb pm e =
    item_written f first x.within (fields x.item) (each fields rest) old a b mid whole pa pb pm (ap (λ xs. old ++ items_text f first (each fields xs)) (sym steps) ∙ e)

-- a list grows by the item that comes
pub grown : {A B : Type 0} (f : A → B) (x : A) (all rest : List A) (old new whole : List B) → all ≡ x ∷ rest → new ≡ old ++ f x ∷ [] → old ++ map f all ≡ whole → new ++ map f rest ≡ whole
grown f x all rest old new whole steps is e =
    ap (λ t. t ++ map f rest) is ∙ append_assoc old (f x ∷ []) (map f rest) ∙ ap (λ xs. old ++ map f xs) (sym steps) ∙ e

-- its number is the next one
pub next_number : {A : Type 0} (old new : List A) (x : A) → new ≡ old ++ x ∷ [] → length new + 1 ≡ length old + 1 + 1
next_number old new x is = let e = length-append old (x ∷ []) in let l = ap length is in omega (arith, e, l)
