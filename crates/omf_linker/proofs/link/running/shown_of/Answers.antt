use Rattle.std.proofs.Common.{List, [], subst}
use Rattle.omf_check.specs.Module.{Module, typed_modules}
use Rattle.omf_linker.specs.Link.Shown.{AreShown}
use Rattle.omf_linker.proofs.LinkRuns.{in_input, no_module}
use Rattle.omf_linker.proofs.link.running.shown_of.Goals as goal

pub returns-in-Ok : goal.returns-in-Ok
returns-in-Ok c = in_input c.args.task c.args.input.now c.unlabeled_shown.result (record {
  modules = c.in-Ok.modules.items;
  text = c.in-Ok.text.now;
  spelled = c.in-Ok.ensures.modules;
  shown = subst (λ (ms : List Module). AreShown c.args.task [] (typed_modules ms) c.in-Ok.text.now c.unlabeled_shown.result) c.deref.ensures.value c.unlabeled_shown.ensures;
})

pub returns-in-Err : goal.returns-in-Err
returns-in-Err c = no_module c.args.task c.args.input.now c.in-Err.fault c.in-Err.ensures.modules
