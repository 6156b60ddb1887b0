use Rattle.std.proofs.Common.{map, subst, sym}
use Rattle.std.specs.Prelude.{string_bytes}
use Rattle.omf_check.specs.Module.{typed_modules}
use Rattle.omf_externals.specs.Names.{all_names}
use Rattle.omf_externals.specs.Repeated.{IsRepeatedText}
use Rattle.omf_externals.specs.Unresolved.{all_rows}
use Rattle.omf_externals.proofs.RepeatedLaws.{none-repeated, repeated-lines}
use Rattle.omf_externals.proofs.unresolved.repeated_text.Goals as goal

pub returns-then-not-repeats : goal.returns-then-not-repeats
returns-then-not-repeats c =
    let ms = typed_modules c.args.modules.now in
    subst (λ t. IsRepeatedText (map string_bytes c.args.labels.now) (all_rows ms) t) (sym c.new-text.ensures.bytes)
    (none-repeated (map string_bytes c.args.labels.now) ms (c.repeats.ensures (all_names ms) c.in_ok-of.ensures c.if-not-repeats.true))

pub returns : goal.returns
returns c =
    repeated-lines (map string_bytes c.args.labels.now) (all_rows (typed_modules c.args.modules.now)) c.in_ok-publics.publics.spots (string_bytes c.new-text.result) (string_bytes c.put_all_repeated.new.text) c.in_ok-publics.ensures
    c.in_ok-put_all_repeated.ensures.ordered c.new-text.ensures.bytes c.in_ok-put_all_repeated.ensures.lines
