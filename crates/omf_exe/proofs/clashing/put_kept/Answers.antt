use Rattle.std.proofs.Common.{◌≡◌, ◌++◌, ◌∷◌, [], List, ℕ, ap, append_assoc, ◌∙◌}
use Rattle.std.specs.Prelude.{codes, string_bytes}
use Rattle.omf_exe.specs.Clashing.{selection_text}
use Rattle.omf_exe.proofs.ClashingLaws.{pushed}
use Rattle.omf_exe.proofs.clashing.put_kept.Goals as goal

pub returns : goal.returns
returns c =
    let old = string_bytes c.args.text.now in
    let front : List ℕ = codes " is not left out: " in
    let selection = selection_text c.args.selection in
    let before : string_bytes c.put_selection.new.text ≡ old ++ (front ++ selection) =
    c.in_ok-put_selection.ensures ∙ ap (λ (t : List ℕ). t ++ selection) c.in_ok-push_str.ensures.bytes ∙ append_assoc old front selection in
    pushed c.push_str-2.result old (string_bytes c.put_selection.new.text) (string_bytes c.push_str-2.new.self) (front ++ selection) (10 ∷ []) before c.push_str-2.ensures.bytes
