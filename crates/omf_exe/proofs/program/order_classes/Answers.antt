use Rattle.std.proofs.Common.{subst}
use Rattle.std.specs.Prelude.{map}
use Rattle.omf_exe.specs.Ordering.{IsClassOrderOf, IsClassOrderingFault}
use Rattle.omf_exe.proofs.program.order_classes.Goals as goal

pub returns-in-Ok-with_front-clause-ordered : goal.returns-in-Ok-with_front-clause-ordered
returns-in-Ok-with_front-clause-ordered c = record {
  order = c.in-Ok.order;
  made = subst (λ xs. IsClassOrderOf (map (λ n. n.now) c.args.classes.now) xs c.in-Ok.order) c.deref.ensures.value c.in-Ok.ensures.order;
  first = c.in-Ok-with_front.ensures;
}

pub returns-in-Err-clause-refused : goal.returns-in-Err-clause-refused
returns-in-Err-clause-refused c =
    λ e. (c.in-Err.fault, c.of_ordering.ensures e, subst (λ xs. IsClassOrderingFault (map (λ n. n.now) c.args.classes.now) xs c.in-Err.fault) c.deref.ensures.value c.in-Err.ensures.fault)
