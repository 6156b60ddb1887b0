use Rattle.std.proofs.Common.{map}
use Rattle.std.specs.Prelude.{string_bytes}
use Rattle.omf_check.specs.Module.{typed_modules}
use Rattle.omf_linker.specs.Seen.Looks.{counts}
use Rattle.omf_linker.proofs.LookLaws.{last-lines, next-lines}
use Rattle.omf_placement.proofs.StepLaws.{none_left}
use Rattle.omf_externals.proofs.SettledLaws.{next_at}
use Rattle.omf_linker.proofs.seen.files.add_found.Goals as goal

pub loop-one-init : goal.loop-one-init
loop-one-init c = λ end h. h

pub loop-one-preserved : goal.loop-one-preserved
loop-one-preserved c = λ end h.
    let k = c.loop-one.one-index in
    c.loop-one.invariant end
    (next-lines (map string_bytes c.args.labeled.labels.now) (typed_modules c.args.labeled.modules.now) (counts c.args.allowed c.args.as_warning) c.args.found.now k _ _ _ end (next_at c.args.found.now k _ c.loop-one-test.true)
    c.in_ok-add_one.ensures h)

pub returns : goal.returns
returns c =
    let k = c.loop-one.one-index in
    c.loop-one.invariant (string_bytes c.loop-one.text)
    (last-lines (map string_bytes c.args.labeled.labels.now) (typed_modules c.args.labeled.modules.now) (counts c.args.allowed c.args.as_warning) c.args.found.now k (string_bytes c.loop-one.text)
    (none_left c.args.found.now k c.loop-one-test.false))
