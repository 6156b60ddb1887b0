use Rattle.std.proofs.Common.{◌≡◌, ◌++◌, ◌∷◌, [], List, ℕ, Some, refl, rules, subst, sym}
use Rattle.omf_names.proofs.NameTables.{IsUpdated, is_updated}
use Rattle.omf_lowering.specs.Inner.Named.{AreNamed}
use Rattle.omf_lowering.specs.Values.{Instance}
use Rattle.omf_lowering.proofs.NamedLaws.{named_more}
use Rattle.omf_lowering.proofs.instances.Instances.push.Goals as goal

pub invariant_of-self-2 : goal.invariant_of-self-2
invariant_of-self-2 c =
    let own : Instance = c.args.own in
    let old = c.self.inside.by_name in
    let new = c.insert.new.self in
    let key = c.of.result in
    let named : key.now ≡ own.name = search rules in
    let copied : c.copy_of.result ≡ own = search rules in
    let grown : c.push_reserved.new.self.items ≡ c.self.inside.items.items ++ own ∷ [] = search rules in
    let at_key : IsUpdated key.now old new (Some c.copy_of.result) = is_updated key key refl old new (Some c.copy_of.result) c.in_ok-insert.ensures.updates in
    let at_name : IsUpdated own.name old new (Some own) = subst (λ (n : List ℕ). IsUpdated n old new (Some own)) named (subst (λ (i : Instance). IsUpdated key.now old new (Some i)) copied at_key) in
    subst (AreNamed new) (sym grown) (named_more old new c.self.inside.items.items own c.self.invariant at_name)
