use Rattle.std.proofs.Common.{◌≡◌, ◌++◌, List, ℕ, map, refl}
use Rattle.std.specs.Prelude.{string_bytes}
use Rattle.std.proofs.lemmas.Result.{IfOk-weaker}
use Rattle.omf_check.specs.Module.{typed_modules}
use Rattle.omf_lines.specs.Strays.{IsNearLine, near_line}
use Rattle.omf_lines.proofs.lines.put_stray.Goals as goal

pub returns : goal.returns
returns c =
    let labels = map string_bytes c.args.named.labels.now in
    let ms = typed_modules c.args.named.modules.now in
    let s = c.args.stray in
    let n = c.aim_at.result in
    let line = near_line labels ms s.«module» s.place.number n in
    let old = string_bytes c.args.text.now in
    let new = string_bytes c.put_near.new.text in
    IfOk-weaker c.put_near.result (λ _. new ≡ old ++ line) (λ _. (l : List ℕ) × IsNearLine labels ms s l × (new ≡ old ++ l)) (λ u e. (line, (n, refl), e)) c.put_near.ensures
