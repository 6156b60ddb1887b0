use Rattle.std.proofs.Common.{List, [], inl, inr, subst, ℕ}
use Rattle.omf_records.specs.Inner.Seen.{map_ok}
use Rattle.omf_linker.specs.Link.Folded.{IsShownFolded}
use Rattle.omf_linker.specs.declared.seen.files.SeenText.{SeenText}
use Rattle.omf_linker.specs.Seen.Looks.{AreLookedFolded}
use Rattle.omf_linker.proofs.LookLaws.{looked-of}
use Rattle.omf_linker.proofs.seen.folded.input_folded.Goals as goal

pub returns-in-Ok-clause-shown : goal.returns-in-Ok-clause-shown
returns-in-Ok-clause-shown c =
    let shown = map_ok (λ (s : SeenText). s.shown) c.folded_seen.result in
    inr (record {
      modules = c.in-Ok.modules.items;
      text = c.in-Ok.text.items;
      spelled = c.in-Ok.ensures.modules;
      shown = subst (λ (text : List ℕ). IsShownFolded c.args.task [] c.in-Ok.modules.items text shown) c.deref.ensures.value c.folded_seen.ensures.shown;
    })

pub returns-in-Ok-clause-looked : goal.returns-in-Ok-clause-looked
returns-in-Ok-clause-looked c =
    looked-of (AreLookedFolded c.args.task c.args.allowed) c.args.input.items c.in-Ok.modules.items c.in-Ok.text.items c.folded_seen.result c.in-Ok.ensures.modules
    (rw (c.deref.ensures.value) at c.folded_seen.ensures.looked)

pub returns-in-Err-clause-shown : goal.returns-in-Err-clause-shown
returns-in-Err-clause-shown c = inl c.in-Err.ensures.modules
