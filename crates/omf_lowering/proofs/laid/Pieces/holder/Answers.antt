use Rattle.std.proofs.Common.{◌≡◌, ◌∙◌, [], List, ap, subst, drop, take, sym}
use Rattle.std.specs.List.{filter}
use Rattle.omf_check.specs.Tables.{entry}
use Rattle.omf_lowering.specs.Patches.{has_byte_of, holder}
use Rattle.omf_lowering.specs.declared.values.Piece.{Piece}
use Rattle.omf_lowering.proofs.HolderLaws.{not_newer}
use Rattle.omf_lowering.proofs.laid.Pieces.holder.Goals as goal

pub returns-in-Some : goal.returns-in-Some
returns-in-Some c = sym c.in-Some.ensures.some ∙ ap (λ ps. holder ps c.args.segment c.args.offset c.args.size) (c.deref.ensures.value ∙ c.self.view_is)

pub returns-in-None : goal.returns-in-None
returns-in-None c =
    let i = c.self.inside in
    let test = has_byte_of c.args.segment c.args.offset c.args.size in
    let none : filter test (drop i.held i.items.items) ≡ [] = subst (λ (ps : List Piece). filter test (drop i.held ps) ≡ []) c.deref.ensures.value c.in-None.ensures.none in
    not_newer test i.items.items i.held c.number_of.result c.numbered.result none (c.number_of.ensures (take i.held i.items.items) c.self.invariant.holders) (c.numbered.ensures ∙ ap (λ ps. entry ps c.number_of.result) (sym c.self.view_is))
    ∙ ap (λ ps. holder ps c.args.segment c.args.offset c.args.size) c.self.view_is
