use Rattle.std.proofs.Common.{◌≡◌, ◌∙◌, inr, rules, subst, sym}
use Rattle.std.specs.Prelude.{Err, IfErr, List, Option}
use Rattle.omf_exe.specs.Making.{AreIncomplete}
use Rattle.omf_exe.specs.Origins.{AreAllWith}
use Rattle.omf_exe.specs.Refusing.{IsRefusalFor}
use Rattle.omf_exe.specs.declared.input.Origin.{Origin}
use Rattle.omf_exe.proofs.program.ProgramModules.completed.Goals as goal

pub returns-in_err-whole-clause-refused : goal.returns-in_err-whole-clause-refused
returns-in_err-whole-clause-refused c =
    let f = c.in_err-whole.field-0.0 in
    let same : c.from_residual-in_err-whole.result ≡ Err f = search rules in
    subst (λ r. IfErr r (IsRefusalFor (AreIncomplete c.args.options.now c.args.self.modules))) (sym same)
    (λ e. record { chosen = c.in_ok-chosen.chosen.modules; choice = c.in_ok-chosen.ensures.chosen; why = inr (c.in_ok-added.added.modules, c.in_ok-added.ensures.added.added, c.in_err-whole.ensures.refused e) })

pub returns-clause-completed : goal.returns-clause-completed
returns-clause-completed c =
    let o = c.args.options.now in
    let chosen = c.in_ok-chosen.chosen in
    record {
      chosen = chosen.modules;
      choice = c.in_ok-chosen.ensures.chosen;
      all = c.in_ok-added.added;
      added = subst (λ (f : List (Option Origin)). AreAllWith o.kind o.stack o.order chosen.modules f c.in_ok-added.added) c.in_ok-chosen.ensures.from c.in_ok-added.ensures.added;
      whole = c.in_ok-whole.whole.modules;
      followed = c.in_ok-whole.ensures.followed;
      trimmed = c.in_ok-linked.ensures.trimmed;
      from = c.in_ok-linked.ensures.from ∙ c.in_ok-whole.ensures.from;
    }
