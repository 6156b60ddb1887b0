use Rattle.std.proofs.Common.{◌∙◌, ap}
use Rattle.omf_lowering.specs.Comdats.{class_of, index_of}
use Rattle.omf_lowering.specs.Inner.Named.{or_other}
use Rattle.omf_lowering.proofs.NamedLaws.{class_even, class_odd, other_of}
use Rattle.omf_lowering.proofs.names.Names.class_index.Goals as goal

pub returns-then-allocation-eq1 : goal.returns-then-allocation-eq1
returns-then-allocation-eq1 c =
    let names = c.self.inside.items.items in
    c.or_other.ensures ∙ ap (λ n. or_other n c.args.other) c.self.invariant.code_is ∙ other_of c.args.other (class_of 1) names
    ∙ ap (λ t. index_of c.args.other t names) (class_odd c.args.allocation c.if-allocation-eq1.true) ∙ ap (index_of c.args.other (class_of c.args.allocation)) c.self.view_is

pub returns-else-allocation-eq1 : goal.returns-else-allocation-eq1
returns-else-allocation-eq1 c =
    let names = c.self.inside.items.items in
    c.or_other-else-allocation-eq1.ensures ∙ ap (λ n. or_other n c.args.other) c.self.invariant.far_data_is ∙ other_of c.args.other (class_of 0) names
    ∙ ap (λ t. index_of c.args.other t names) (class_even c.args.allocation c.if-allocation-eq1.false) ∙ ap (index_of c.args.other (class_of c.args.allocation)) c.self.view_is
