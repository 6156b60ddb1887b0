use Rattle.std.proofs.Common.{◌≡◌, ◌∙◌, Ok, ap, sym, length, rules}
use Rattle.omf_records.specs.Inner.Reads.{and_then}
use Rattle.omf_records.specs.Values.{is_wide}
use Rattle.omf_lowering.specs.Comdats.{resolved}
use Rattle.omf_lowering.specs.Inner.Readers.{comdat_whole}
use Rattle.omf_lowering.specs.Inner.State.{State, added, seen}
use Rattle.omf_lowering.specs.Lowering.{comdat_of}
use Rattle.omf_lowering.proofs.PieceLaws.{added_comdat}
use Rattle.omf_lowering.proofs.work.Work.take_comdat.Goals as goal

pub returns-clause-ok : goal.returns-clause-ok
returns-clause-ok c =
    let w = c.self.inside in
    let old : State = record { before = record { tables = w.tables; instances = w.instances; records = w.records.items }; data_before = w.pieces; patches = w.patches.items; growths = w.growths.items } in
    let r = seen c.args.front.now in
    let of = c.in-Ok.of in
    let count : c.len-number.result ≡ length w.records.items = search rules in
    let is : comdat_of old.before r ≡ Ok of =
    sym (c.in-Ok.ensures
    ∙ ap (λ n. and_then ((comdat_whole (is_wide r.kind)).read 3 r.body) (resolved w.tables w.instances n r.kind)) count) in
    added_comdat old r of c.requires.comdat is c.push_instance.new.instances c.append_all.new.records.items c.append_all.new.pieces c.push_growth.new.growths.items
    c.in_ok-push_instance.ensures
    (record { items = c.in_ok-replacing.replacing.items; is = c.in_ok-replacing.ensures; records = c.in_ok-append_all.ensures.records; pieces = c.in_ok-append_all.ensures.pieces })
    c.in_ok-push_growth.ensures
    ∙ ap (λ s. added s r) c.self.view_is
