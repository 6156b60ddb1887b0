use Rattle.std.proofs.Common.{rules, [], ◌++◌, append-nil, ap, map, refl, sym, ◌∙◌}
use Rattle.std.specs.List.{enumerate_from}
use Rattle.omf_check.specs.Module.{typed_modules}
use Rattle.omf_linking.specs.Locator.Sparse.{sparse_of}
use Rattle.omf_linking.proofs.KeyLaws.{none-left}
use Rattle.omf_linking.proofs.locator.lines.Lines.new.Goals as goal

pub returns : goal.returns
returns c =
    let given = c.loop-module.given.items in
    let j = c.loop-module.module-index in
    record {
      keys_are = c.in_ok-keys.ensures;
      opened_is = search rules;
      current_is = refl;
      given_is = sym (append-nil given) ∙ ap (λ ms. given ++ map (sparse_of []) (enumerate_from j ms)) (sym (none-left c.args.modules.now j c.loop-module-test.false)) ∙ c.loop-module.invariant;
      titles_are = c.new-2.ensures (typed_modules c.args.modules.now);
      end_is = refl;
      end_low = tt;
    }
