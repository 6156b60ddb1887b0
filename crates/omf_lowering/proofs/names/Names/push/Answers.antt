use Rattle.std.proofs.Common.{◌≡◌, ◌++◌, ◌∷◌, [], length, refl, rules}
use Rattle.omf_lowering.specs.Comdats.{class_of}
use Rattle.omf_lowering.proofs.NamedLaws.{pushed_first}
use Rattle.omf_lowering.proofs.names.Names.push.Goals as goal

pub invariant_of-self-2 : goal.invariant_of-self-2
invariant_of-self-2 c =
    let names = c.self.inside.items.items in
    let name = c.args.name in
    let new = c.push_reserved.new.self.items in
    let count : c.len-number.result ≡ length names = search rules in
    let grown : new ≡ names ++ name ∷ [] = search rules in
    record {
      code_is = pushed_first (class_of 1) c.class_of.result.now names new name _ _ c.len-number.result c.self.invariant.code_is c.class_of.ensures count grown c.first_after-self-inside.ensures;
      far_data_is = pushed_first (class_of 0) c.class_of-2.result.now names new name _ _ c.len-number.result c.self.invariant.far_data_is c.class_of-2.ensures count grown c.first_after-self-inside-2.ensures;
      empty_is = pushed_first [] [] names new name _ _ c.len-number.result c.self.invariant.empty_is refl count grown c.first_after-self-inside-3.ensures;
    }
