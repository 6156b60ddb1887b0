use Rattle.std.proofs.Common.{◌∙◌, nat_eq, sym, ap}
use Rattle.std.specs.Prelude.{not}
use Rattle.omf_explicit.proofs.PlaceLaws.{has_place}
use Rattle.omf_virtual.proofs.comdat.is_one_of.Goals as goal

pub returns : goal.returns
returns c = ap (λ p. not (nat_eq p 0)) c.place.ensures ∙ sym (has_place c.args.indices.now c.args.index)
