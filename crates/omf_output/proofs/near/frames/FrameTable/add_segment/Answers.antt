use Rattle.std.proofs.Common.{◌∙◌, ap, sym, subst, List, ℕ}
use Rattle.std.specs.Prelude.{OnOk, Option, option_map, option_to_list}
use Rattle.omf_output.specs.Inner.GroupFrames.{HasMore}
use Rattle.omf_output.specs.Near.{frame_of}
use Rattle.omf_output.proofs.FrameLaws.{Names, names_of, none-more}
use Rattle.omf_output.proofs.near.frames.FrameTable.add_segment.Goals as goal

pub returns-in-Some : goal.returns-in-Some
returns-in-Some c =
    subst (λ (o : Option Names). OnOk c.add.result (HasMore c.args.self.now.by_name c.add.new.self.by_name (option_to_list (option_map (frame_of c.args.base) o))))
    (sym (ap (option_map names_of) c.in-Some.is) ∙ c.full_name.ensures) c.add.ensures

pub returns-in-None : goal.returns-in-None
returns-in-None c =
    none-more c.args.self.now.by_name _ (ap (λ (o : Option Names). option_to_list (option_map (frame_of c.args.base) o)) (sym c.full_name.ensures ∙ ap (option_map names_of) c.in-None.is))
