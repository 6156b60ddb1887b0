use Rattle.std.proofs.Common.{◌≡◌, ◌++◌, ◌∷◌, [], ◌∙◌, ap, length, rules}
use Rattle.omf_lowering.specs.Inner.State.{State, added, seen}
use Rattle.omf_lowering.specs.Patches.{piece_in}
use Rattle.omf_lowering.proofs.PieceLaws.{added_kept}
use Rattle.omf_lowering.proofs.work.Work.keep.Goals as goal

pub returns-clause-ok : goal.returns-clause-ok
returns-clause-ok c =
    let w = c.self.inside in
    let old : State = record { before = record { tables = w.tables; instances = w.instances; records = w.records.items }; data_before = w.pieces; patches = w.patches.items; growths = w.growths.items } in
    let r = seen c.args.front.now in
    let count : c.len-number.result ≡ length w.records.items = search rules in
    added_kept old r c.requires.cextdef c.requires.bakpat c.requires.nbkpat c.requires.comdat c.requires.vendext c.read_taken.new.tables c.push.new.self.items c.read_taken.new.pieces
    c.in_ok-read_taken.ensures.tables
    (c.in_ok-push.ensures.items ∙ ap (λ x. w.records.items ++ x ∷ []) c.in_ok-record.ensures)
    (c.in_ok-read_taken.ensures.pieces ∙ ap (λ n. w.pieces ++ piece_in n r) count)
    ∙ ap (λ s. added s r) c.self.view_is
