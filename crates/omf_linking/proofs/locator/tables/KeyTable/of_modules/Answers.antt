use Rattle.std.proofs.Common.{◌≡◌, ◌∙◌, length, ap, sym, arith}
use Rattle.std.specs.Prelude.{Some, flat_map, option_map}
use Rattle.omf_check.specs.Module.{typed_modules}
use Rattle.omf_placement.specs.Quoted.{escaped}
use Rattle.omf_linking.specs.Inner.KeyTables.{module_text}
use Rattle.omf_linking.specs.Locator.Keys.{count_from, module_name}
use Rattle.omf_linking.proofs.KeyTableLaws.{all-numbers, next-number, none-yet}
use Rattle.omf_linking.proofs.NamingLaws.{next_module}
use Rattle.omf_linking.proofs.locator.tables.KeyTable.of_modules.Goals as goal

pub loop-j-init : goal.loop-j-init
loop-j-init c = record { low = omega arith; table = none-yet (module_text (typed_modules c.args.modules.now)) c.new.result c.new.ensures.empty }

pub loop-j-preserved : goal.loop-j-preserved
loop-j-preserved c =
    let ms = c.args.modules.now in
    let j = c.loop-j.j in
    let texts = module_text (typed_modules ms) in
    let here = next_module ms j c.index-modules-j.result c.index-modules-j.is c.loop-j-test.true in
    let own : texts j ≡ Some c.in_ok-text.text.items = ap (option_map (λ m. flat_map escaped (module_name m))) here ∙ ap Some (sym (c.in_ok-text.ensures ∙ ap (flat_map escaped) c.module_name.ensures)) in
    record {
      low = omega (arith, c.loop-j-test.true);
      table = next-number texts 0 j j c.add.new.self.by_text (omega arith) (c.in_ok-add.ensures texts (count_from 0 j) own c.loop-j.invariant.table);
    }

pub returns : goal.returns
returns c =
    let inv = c.loop-j.invariant in
    all-numbers (module_text (typed_modules c.args.modules.now)) 0 c.loop-j.j (length c.args.modules.now) c.loop-j.table.by_text inv.low (omega (arith, c.loop-j-test.false)) inv.table
