use Rattle.std.proofs.Common.{◌∙◌, take, get_or, sym, ap}
use Rattle.std.proofs.lemmas.List.{take_more}
use Rattle.std.specs.Prelude.{None}
use Rattle.omf_check.specs.Module.{typed_modules}
use Rattle.omf_layout.specs.declared.alignment.Alignment.TheVariants.{Byte}
use Rattle.omf_layout.specs.declared.several.portion.Combination.TheVariants.{Joined}
use Rattle.omf_layout.specs.declared.several.portion.Portion.{Portion}
use Rattle.omf_layout.specs.Inner.Known.{rows_in, with_lying}
use Rattle.omf_layout.specs.Several.Laying.{Lying}
use Rattle.omf_layout.proofs.SeveralLaws.KnownLaws.{none-known, rows-step}
use Rattle.omf_layout.proofs.several.places.rows_in.Goals as goal

pub loop-one-init : goal.loop-one-init
loop-one-init c = c.in_ok-rows.ensures ∙ sym (none-known 0 (typed_modules c.args.modules.now))

pub loop-one-preserved : goal.loop-one-preserved
loop-one-preserved c =
    let p : Portion = record { «module» = 0; index = 0; segment = record { length = 0; absolute = None; name = 0; class = 0 }; alignment = Byte; combination = Joined } in
    let d : Lying = (p, record { address = 0; frame = record { base = 0; selector = 0 } }) in
    let ms = typed_modules c.args.modules.now in
    let xs = c.args.lying.now in
    let k = c.loop-one.one-index in
    let x : Lying = get_or xs k d in
    c.put_lying.ensures ∙ ap (with_lying x) c.loop-one.invariant ∙ sym (rows-step (take k xs) x ms) ∙ ap (λ ls. rows_in ls ms) (sym (take_more xs k d c.loop-one-test.true))
