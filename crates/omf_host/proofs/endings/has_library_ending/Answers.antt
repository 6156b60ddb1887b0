use Rattle.std.proofs.Common.{◌≡◌, ◌++◌, ◌-◌, ◌∙◌, ap, codes, length, refl, rules}
use Rattle.omf_host.specs.Endings.{folded}
use Rattle.omf_host.proofs.EndingLaws.{ending_is, front_is, parts_folded}
use Rattle.omf_host.proofs.endings.has_library_ending.Goals as goal

pub returns-then-eq_ignore_ascii_case : goal.returns-then-eq_ignore_ascii_case
returns-then-eq_ignore_ascii_case c =
    let file = c.args.file.now in
    let name = c.args.name.now in
    let front = c.split_at.result.0.now in
    let ending = c.split_at.result.1.now in
    let same : file ≡ front ++ ending = c.split_at.ensures.by_index.0 in
    let long : length front ≡ length file - 4 = search rules in
    let begins : folded front ≡ folded name = search rules in
    let test = c.eq_ignore_ascii_case-then-eq_ignore_ascii_case.ensures.test in
    (λ t. parts_folded file front ending same ∙ ap (λ xs. xs ++ folded ending) begins ∙ ap (λ xs. folded name ++ xs) (test.0 t), λ h. test.1 (ending_is file front ending name (codes ".lib") same refl long h))

pub returns-else-eq_ignore_ascii_case : goal.returns-else-eq_ignore_ascii_case
returns-else-eq_ignore_ascii_case c =
    let file = c.args.file.now in
    let name = c.args.name.now in
    let front = c.split_at.result.0.now in
    let ending = c.split_at.result.1.now in
    let same : file ≡ front ++ ending = c.split_at.ensures.by_index.0 in
    let long : length front ≡ length file - 4 = search rules in
    let test = c.eq_ignore_ascii_case.ensures.test in
    (λ t. search rules, λ h. test.1 (front_is file front ending name (codes ".lib") same refl long h))
