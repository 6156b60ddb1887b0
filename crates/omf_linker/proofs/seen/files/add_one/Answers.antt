use Rattle.std.proofs.Common.{◌≡◌, false, true, map, rules}
use Rattle.std.specs.Prelude.{string_bytes}
use Rattle.omf_check.specs.Module.{typed_modules}
use Rattle.omf_linker.specs.Seen.Looks.{counts}
use Rattle.omf_linker.proofs.LookLaws.{kept-line, left-out}
use Rattle.omf_linker.proofs.seen.files.add_one.Goals as goal

pub returns-then-not-counts : goal.returns-then-not-counts
returns-then-not-counts c =
    let out : counts c.args.allowed c.args.as_warning c.args.found ≡ false = search rules in
    left-out (map string_bytes c.args.labeled.labels.now) (typed_modules c.args.labeled.modules.now) (counts c.args.allowed c.args.as_warning) c.args.found (string_bytes c.args.text.now) out

pub returns : goal.returns
returns c =
    let kept : counts c.args.allowed c.args.as_warning c.args.found ≡ true = search rules in
    kept-line (map string_bytes c.args.labeled.labels.now) (typed_modules c.args.labeled.modules.now) (counts c.args.allowed c.args.as_warning) c.args.found c.put_line.result (string_bytes c.args.text.now) (string_bytes c.put_line.new.text) kept
    c.put_line.ensures
