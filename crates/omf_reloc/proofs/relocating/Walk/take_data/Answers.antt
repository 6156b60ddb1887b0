use Rattle.std.proofs.Common.{◌≡◌, ◌∙◌, ap, sym, subst, List, ℕ, Some}
use Rattle.omf_check.specs.Inner.Contents.{data_seen}
use Rattle.omf_image.specs.Overlay.{Laid}
use Rattle.omf_reloc.specs.Inner.Walking.{Walk, CanExpand, opened_by}
use Rattle.omf_reloc.proofs.relocating.Walk.take_data.Goals as goal

pub expanded-requires : goal.expanded-requires
expanded-requires c = subst (λ d. CanExpand (data_seen d).kind (data_seen d).contents) c.in-Iterated.is c.requires.expands

pub returns-in_ok-expanded-in-Iterated-clause-open_data : goal.returns-in_ok-expanded-in-Iterated-clause-open_data
returns-in_ok-expanded-in-Iterated-clause-open_data c =
    let i = c.in-Iterated in
    let w : Walk = c.args.self.now in
    let new : Walk = c.open-in-Iterated.new.self in
    let begun = λ (bytes : List ℕ). let l : Laid = record { segment = i.segment.item; offset = i.offset.item; bytes = bytes } in l in
    subst (λ d. new.open_data ≡ opened_by (data_seen d).kind (data_seen d).contents w.open_data) (sym i.is)
    (c.open-in-Iterated.ensures.open_data ∙ ap Some (c.new-in-Iterated.ensures ∙ ap begun c.in_ok-expanded-in-Iterated.ensures))
