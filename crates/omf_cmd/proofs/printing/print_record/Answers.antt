use Rattle.std.proofs.Common.{◌≡◌, ◌++◌, ◌∷◌, [], List, ℕ, subst}
use Rattle.std.specs.Prelude.{OnOk, codes, decimal}
use Rattle.omf_cmd.specs.Printed.{line}
use Rattle.omf_placement.specs.Quoted.{hex}
use Rattle.omf_cmd.proofs.printing.print_record.Goals as goal

pub returns : goal.returns
returns c =
    subst (λ (name : List ℕ). OnOk c.print_named.result (c.print_named.new.text.items ≡ c.args.text.now.items
    ++ line (codes "R" ∷ decimal c.args.number ∷ hex 8 c.args.start ∷ hex 2 c.args.kind ∷ decimal c.args.length ∷ name ∷ [])))
    c.type_name.ensures c.print_named.ensures
