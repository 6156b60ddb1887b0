use Rattle.std.proofs.Common.{◌∙◌, [], ap}
use Rattle.omf_lowering.specs.Comdats.{index_of}
use Rattle.omf_lowering.specs.Inner.Named.{or_other}
use Rattle.omf_lowering.proofs.NamedLaws.{other_of}
use Rattle.omf_lowering.proofs.names.Names.empty_index.Goals as goal

pub returns : goal.returns
returns c =
    c.or_other.ensures ∙ ap (λ n. or_other n c.args.other) c.self.invariant.empty_is ∙ other_of c.args.other [] c.self.inside.items.items ∙ ap (index_of c.args.other []) c.self.view_is
