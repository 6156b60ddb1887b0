use Rattle.std.proofs.Common.{◌++◌, ◌∷◌, [], ◌∙◌, refl}
use Rattle.std.specs.Prelude.{codes, string_bytes}
use Rattle.omf_placement.specs.Quoted.{quoted}
use Rattle.omf_placement.proofs.StepLaws.{part_more}
use Rattle.omf_exe.proofs.defaults.put_missing.Goals as goal

pub returns : goal.returns
returns c =
    let old = string_bytes c.args.text.now in
    let name = quoted c.args.name.now in
    let end = codes " is not found" ++ 10 ∷ [] in
    let all = codes "library " ++ (name ++ end) in
    let front = part_more old (string_bytes c.push_str.new.self) (codes "library ") (name ++ end) all (old ++ all) c.in_ok-push_str.ensures.bytes refl refl in
    c.in_ok-push_str-2.ensures.bytes ∙ part_more (string_bytes c.push_str.new.self) (string_bytes c.print_quoted.new.text) name end (name ++ end) (old ++ all) c.in_ok-print_quoted.ensures refl front
