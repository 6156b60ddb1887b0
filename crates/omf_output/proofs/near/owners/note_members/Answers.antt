use Rattle.std.proofs.Common.{◌≡◌, ◌∷◌, [], ◌++◌, ℕ, List, map, ap, ap₂, sym, ◌∙◌, append_assoc}
use Rattle.omf_records.specs.Values.{At}
use Rattle.omf_output.proofs.OwnerLaws.{taken-more}
use Rattle.omf_output.proofs.near.owners.note_members.Goals as goal

pub loop-member-preserved : goal.loop-member-preserved
loop-member-preserved c =
    let i = c.loop-member.invariant in
    let g = c.args.group in
    let x : ℕ × ℕ = (c.segment_of.result, g) in
    let f : At (At ℕ) → ℕ × ℕ = λ y. (y.item.item, g) in
    let segment = c.segment_of.ensures ∙ ap (λ (y : At (At ℕ)). y.item.item) c.member.view_is in
    let left : x ∷ map f c.next.new.self ≡ map f c.loop-member.member-iterator = ap (λ n. (n, g) ∷ map f c.next.new.self) segment ∙ sym (ap (map f) c.in-Some.ensures.steps) in
    (i.0 ++ x ∷ [], append_assoc i.0 (x ∷ []) (map f c.next.new.self) ∙ ap (λ l. i.0 ++ l) left ∙ i.1, taken-more _ _ _ i.0 (x ∷ []) i.2 c.note.ensures)
