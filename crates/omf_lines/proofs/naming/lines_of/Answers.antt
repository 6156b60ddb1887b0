use Rattle.std.proofs.Common.{map}
use Rattle.std.specs.Prelude.{string_bytes}
use Rattle.std.proofs.lemmas.Result.{IfOk-weaker}
use Rattle.omf_check.specs.Module.{typed_modules}
use Rattle.omf_linking.specs.declared.fault.LinkFault.TheVariants.{External, Reach, Starts, Space}
use Rattle.omf_lines.proofs.TextLineLaws.{by_lines}
use Rattle.omf_lines.proofs.naming.lines_of.Goals as goal

pub returns-in-External : goal.returns-in-External
returns-in-External c =
    let labels = map string_bytes c.args.named.labels.now in
    let ms = typed_modules c.args.named.modules.now in
    rw c.in-External.is (by_lines labels ms c.args.text.now (External c.in-External.fault) c.bytes_of.result c.external_lines.result c.bytes_of.ensures c.external_lines.ensures)

pub returns-in-Reach : goal.returns-in-Reach
returns-in-Reach c =
    let labels = map string_bytes c.args.named.labels.now in
    let ms = typed_modules c.args.named.modules.now in
    rw c.in-Reach.is (by_lines labels ms c.args.text.now (Reach c.in-Reach.«module» c.in-Reach.fault) c.bytes_of-in-Reach.result c.reach_lines.result c.bytes_of-in-Reach.ensures c.reach_lines.ensures)

pub returns-in-Starts : goal.returns-in-Starts
returns-in-Starts c =
    let labels = map string_bytes c.args.named.labels.now in
    let ms = typed_modules c.args.named.modules.now in
    rw c.in-Starts.is (by_lines labels ms c.args.text.now (Starts c.in-Starts.first c.in-Starts.second) c.bytes_of-in-Starts.result c.starts_line.result c.bytes_of-in-Starts.ensures c.starts_line.ensures)

pub returns-in-Space : goal.returns-in-Space
returns-in-Space c =
    let labels = map string_bytes c.args.named.labels.now in
    let ms = typed_modules c.args.named.modules.now in
    rw c.in-Space.is (by_lines labels ms c.args.text.now (Space c.in-Space.fault) c.bytes_of-in-Space.result c.space_line.result c.bytes_of-in-Space.ensures (IfOk-weaker c.space_line.result _ _ (λ line h. h c.args.text.now) c.space_line.ensures))
