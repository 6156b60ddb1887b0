-- The length of a stack with the part that it lacks.
use Rattle.std.proofs.Common.{◌≡◌, ◌∙◌, ◌+◌, ◌≤◌, ◌-◌, ℕ, List, [], ◌∷◌, ap, ap₂, arith}
use Rattle.std.specs.Prelude.{fold, max, min}
use Rattle.std.proofs.Math.Nat.{le-max_right, max-le, min-eq_left, min-le_right}
use Rattle.std.proofs.lemmas.List.Sums.{fold-append}
use Rattle.omf_layout.specs.Room.{next_multiple}
use Rattle.omf_layout.specs.Wants.{bytes_aligned}
use Rattle.omf_layout.specs.declared.several.portion.Portion.{Portion}
use Rattle.omf_combining.specs.Stack.{StackIsAsAsked, even, missing, stack_length, with_part}

filled : (n e : ℕ) → n ≤ e → next_multiple 1 n + (even e - n) ≡ even e
filled n e h = omega (arith, h)

even-below : (size : ℕ) → size ≤ 65536 → even size ≤ 65536
even-below size h = omega (arith, h)

-- no stack is longer than 65,536 bytes
pub length-low : (ps : List Portion) (n : ℕ) → n ≤ 65536 → fold with_part n ps ≤ 65536
length-low [] n h = h
length-low (p ∷ ps) n h = length-low ps (with_part n p) (min-le_right (next_multiple (bytes_aligned p.alignment) n + p.segment.length) 65536)

pub stack-is-as-asked : StackIsAsAsked
stack-is-as-asked ps size p small last =
    let n = stack_length ps in
    fold-append with_part 0 ps (p ∷ [])
    ∙ ap₂ (λ a l. min (next_multiple a n + l) 65536) last.aligned last.length
    ∙ ap (λ k. min k 65536) (filled n (max size n) (le-max_right size n))
    ∙ min-eq_left (even-below (max size n) (max-le (omega (arith, small)) (length-low ps 0 (omega arith))))
