use Rattle.std.proofs.Common.{◌∙◌, ap, sym, subst}
use Rattle.std.specs.Prelude.{All, fold}
use Rattle.std.specs.Vec.{vec_len}
use Rattle.std.proofs.lemmas.List.{take_at}
use Rattle.omf_output.specs.Inner.Laying.{EndsIn}
use Rattle.omf_output.specs.Exe.Members.{all_moving}
use Rattle.omf_output.specs.Exe.Memory.{all_chunks, put}
use Rattle.omf_output.proofs.Steps.{ends-in, zeros-made}
use Rattle.omf_output.proofs.exe.laying.image_of.Goals as goal

pub lay_all-requires : goal.lay_all-requires
lay_all-requires c =
    subst (λ n. All (EndsIn n) c.args.members.now) (sym (c.deref_mut.ensures.len ∙ c.in_ok-resize.ensures.len ∙ c.requires.end)) (ends-in c.args.members.now c.requires.hold)

pub returns : goal.returns
returns c =
    take_at c.lay_all.new.image _ c.resize.new.self.len (c.lay_all.auto.image ∙ c.deref_mut.ensures.len)
    ∙ c.in_ok-lay_all.ensures
    ∙ ap (λ z. fold (put 0) z (all_chunks (all_moving c.args.members.now)))
    (c.deref_mut.ensures.value ∙ zeros-made c.args.end (vec_len c.new-image.result) c.new-image.result.items c.resize.new.self.items c.new-image.ensures.items c.new-image.ensures.len c.in_ok-resize.ensures.items)
