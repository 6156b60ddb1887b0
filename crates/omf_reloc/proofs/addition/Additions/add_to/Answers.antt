use Rattle.std.proofs.Common.{◌≡◌, ℕ, ◌+◌, ◌≤◌, [], ◌∷◌, Option, Some, All, length, arith, sym, subst}
use Rattle.std.proofs.lemmas.List.Elements.{All-head, All-tail}
use Rattle.std.specs.Prelude.{option_map}
use Rattle.std.specs.Option.{option_to_list}
use Rattle.omf_image.specs.Parts.{Addition}
use Rattle.omf_reloc.specs.declared.addition.Addition.{Addition as CodeAddition}
use Rattle.omf_reloc.specs.Inner.Seen.{seen_addition, all_added}
use Rattle.omf_reloc.proofs.addition.Additions.add_to.Goals as goal

-- an addition stays inside data of this length
abbrev Fits : ℕ → ℕ → Addition → Type 0
Fits position size a = position + a.offset + a.size ≤ size

second_fits : (position size : ℕ) (first : CodeAddition) (second : Option CodeAddition) (s : CodeAddition) → second ≡ Some s
    → All (Fits position size) (all_added first second) → Fits position size (seen_addition s)
second_fits position size first second s e h =
    let all = subst (λ o. All (Fits position size) (all_added first o)) e h in
    All-head (Fits position size) (seen_addition s) [] (All-tail (Fits position size) (seen_addition first) (seen_addition s ∷ []) all)

pub add_to-requires : goal.add_to-requires
add_to-requires c =
    All-head (Fits c.args.position (length c.args.bytes.now)) (seen_addition c.self.inside.first) (option_to_list (option_map seen_addition c.self.inside.second))
    (subst (All (Fits c.args.position (length c.args.bytes.now))) (sym c.self.view_is) c.requires)

pub add_to-requires-in-Some : goal.add_to-requires-in-Some
add_to-requires-in-Some c =
    let fits = second_fits c.args.position (length c.args.bytes.now) c.self.inside.first c.self.inside.second c.in-Some.second c.in-Some.is
    (subst (All (Fits c.args.position (length c.args.bytes.now))) (sym c.self.view_is) c.requires) in
    omega (arith, fits, c.add_to.auto.bytes)
