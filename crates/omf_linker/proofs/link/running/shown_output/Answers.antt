use Rattle.std.proofs.Common.{ℕ, List, [], subst}
use Rattle.omf_check.specs.Module.{Module, typed_modules}
use Rattle.omf_linker.specs.Link.Shown.{AreShown}
use Rattle.omf_linker.proofs.LinkRuns.{in_input, no_module}
use Rattle.omf_linker.proofs.link.running.shown_output.Goals as goal

pub returns-in-Ok : goal.returns-in-Ok
returns-in-Ok c =
    let of_text = subst (λ (text : List ℕ). AreShown c.args.task [] (typed_modules c.deref.result.now) text c.unlabeled_shown.result) c.deref-in-Ok.ensures.value c.unlabeled_shown.ensures in
    in_input c.args.task c.args.input.items c.unlabeled_shown.result (record {
      modules = c.in-Ok.modules.items;
      text = c.in-Ok.text.items;
      spelled = c.in-Ok.ensures.modules;
      shown = subst (λ (ms : List Module). AreShown c.args.task [] (typed_modules ms) c.in-Ok.text.items c.unlabeled_shown.result) c.deref.ensures.value of_text;
    })

pub returns-in-Err : goal.returns-in-Err
returns-in-Err c = no_module c.args.task c.args.input.items c.in-Err.fault c.in-Err.ensures.modules
