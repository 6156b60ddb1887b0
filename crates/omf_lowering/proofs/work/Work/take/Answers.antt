use Rattle.std.proofs.Common.{ap, sym, ◌∙◌}
use Rattle.omf_lowering.specs.Inner.State.{State, added}
use Rattle.omf_lowering.proofs.PieceLaws.{on_ok, added_cextdef, added_vendext}
use Rattle.omf_lowering.proofs.work.Work.take.Goals as goal

pub returns-in-188-clause-ok : goal.returns-in-188-clause-ok
returns-in-188-clause-ok c =
    let front = c.args.front.now in
    let w = c.self.inside in
    let old : State = record { before = record { tables = w.tables; instances = w.instances; records = w.records.items }; data_before = w.pieces; patches = w.patches.items; growths = w.growths.items } in
    on_ok c.lower_externals.result
    (λ e. added_cextdef old front.body.now front.checksum c.lower_externals.new.records.items e
    ∙ ap (λ s. added s (record { kind = 0xBC; body = front.body.now; checksum = front.checksum })) c.self.view_is
    ∙ ap (λ k. added c.args.self.now (record { kind = k; body = front.body.now; checksum = front.checksum })) (sym c.in-188.is))
    c.lower_externals.ensures.ok

pub returns-in-206-clause-ok : goal.returns-in-206-clause-ok
returns-in-206-clause-ok c =
    let front = c.args.front.now in
    added_vendext c.args.self.now front.body.now front.checksum ∙ ap (λ k. added c.args.self.now (record { kind = k; body = front.body.now; checksum = front.checksum })) (sym c.in-206.is)
