use Rattle.std.proofs.Common.{◌≡◌, ◌∙◌, ◌∷◌, ap, length, rules, subst, take}
use Rattle.omf_aliases.specs.Aliases.{IsAskerOf}
use Rattle.omf_exe.specs.Ordering.{IsOrderOf, IsOrderingFault}
use Rattle.omf_exe.specs.Sharing.{with_added}
use Rattle.omf_exe.proofs.AddingLaws.{without-added}
use Rattle.omf_exe.proofs.program.order_modules.Goals as goal

pub returns-in-Ok-with_front-clause-ordered : goal.returns-in-Ok-with_front-clause-ordered
returns-in-Ok-with_front-clause-ordered c =
    let ms = c.args.modules.items in
    let asker = c.in-Ok.asker in
    let asking = c.in-Ok-with_added.asking.items in
    let order = c.in-Ok-order_of.order in
    let whole : asking ≡ with_added ms asker = c.in-Ok-with_added.ensures in
    let left : c.truncate.new.self.items ≡ take (length ms) asking = search rules in
    record {
      asker = asker;
      asks = subst (λ xs. IsAskerOf xs asker) c.deref.ensures.value c.in-Ok.ensures;
      order = order;
      made = subst (λ xs. IsOrderOf xs order) (c.deref-2.ensures.value ∙ whole) c.in-Ok-order_of.ensures.order;
      first = c.in-Ok-with_front.ensures ∙ ap (λ xs. order ∷ xs) (without-added ms asker asking c.truncate.new.self.items whole left);
    }

pub returns-in-Err-clause-refused : goal.returns-in-Err-clause-refused
returns-in-Err-clause-refused c =
    let whole = c.in-Ok-with_added.ensures in
    λ e. (
      c.in-Ok.asker,
      subst (λ xs. IsAskerOf xs c.in-Ok.asker) c.deref.ensures.value c.in-Ok.ensures,
      (c.in-Err.fault, c.of_ordering.ensures e, subst (λ xs. IsOrderingFault xs c.in-Err.fault) (c.deref-2.ensures.value ∙ whole) c.in-Err.ensures.fault),
    )
