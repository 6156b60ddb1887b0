use Rattle.std.proofs.Common.{ℕ, List, [], subst}
use Rattle.omf_check.specs.Module.{Module, typed_modules}
use Rattle.omf_records.specs.Inner.Seen.{map_ok}
use Rattle.omf_linker.specs.Link.Shown.{AreShown}
use Rattle.omf_linker.specs.declared.seen.files.SeenText.{SeenText}
use Rattle.omf_linker.specs.Seen.Looks.{AreLookedIn}
use Rattle.omf_linker.proofs.LinkRuns.{in_input, no_module}
use Rattle.omf_linker.proofs.LookLaws.{looked-of}
use Rattle.omf_linker.proofs.seen.files.input_seen.Goals as goal

pub returns-in-Ok-clause-shown : goal.returns-in-Ok-clause-shown
returns-in-Ok-clause-shown c =
    let shown = map_ok (λ (s : SeenText). s.shown) c.unlabeled_seen.result in
    let of_text = subst (λ (text : List ℕ). AreShown c.args.task [] (typed_modules c.deref-in-Ok.result.now) text shown) c.deref.ensures.value c.unlabeled_seen.ensures.shown in
    in_input c.args.task c.args.input.items shown (record {
      modules = c.in-Ok.modules.items;
      text = c.in-Ok.text.items;
      spelled = c.in-Ok.ensures.modules;
      shown = subst (λ (ms : List Module). AreShown c.args.task [] (typed_modules ms) c.in-Ok.text.items shown) c.deref-in-Ok.ensures.value of_text;
    })

pub returns-in-Ok-clause-looked : goal.returns-in-Ok-clause-looked
returns-in-Ok-clause-looked c =
    looked-of (AreLookedIn c.args.task c.args.allowed) c.args.input.items c.in-Ok.modules.items c.in-Ok.text.items c.unlabeled_seen.result c.in-Ok.ensures.modules
    (rw (c.deref.ensures.value, c.deref-in-Ok.ensures.value) at c.unlabeled_seen.ensures.looked)

pub returns-in-Err-clause-shown : goal.returns-in-Err-clause-shown
returns-in-Err-clause-shown c = no_module c.args.task c.args.input.items c.in-Err.fault c.in-Err.ensures.modules
