use Rattle.std.proofs.Common.{sym, subst}
use Rattle.omf_check.specs.Module.{typed_modules}
use Rattle.omf_linking.specs.Inner.KeyTables.{IsKeyTable, module_text}
use Rattle.omf_linking.specs.Locator.Keys.{count_from}
use Rattle.omf_linking.proofs.EachLaws.{typed_length}
use Rattle.omf_linking.proofs.locator.tables.ModuleKeys.of.Goals as goal

pub returns : goal.returns
returns c =
    let ms = c.args.modules.now in
    record {
      names_are = subst (λ n. IsKeyTable (module_text (typed_modules ms)) (count_from 0 n) c.in_ok-by_name.by_name.by_text) (sym (typed_length ms)) c.in_ok-by_name.ensures;
      count_is = sym (typed_length ms);
    }
