use Rattle.std.proofs.Common.{◌≡◌, ◌∙◌, [], arith, ap, length, rules, subst, sym}
use Rattle.std.proofs.lemmas.List.{nil_from_length}
use Rattle.std.specs.Vec.Iter.{into_iter_items}
use Rattle.omf_linker.specs.declared.link.labels.LabeledModules.{LabeledModules}
use Rattle.omf_linker.proofs.LabelLaws.{AreSoFar, all_so_far, file_refused, next_so_far, none_so_far}
use Rattle.omf_linker.proofs.link.labels.LabeledModules.of.Goals as goal

pub loop-file-init : goal.loop-file-init
loop-file-init c =
    let files = c.args.files.items in
    let all : LabeledModules = record { modules = c.new.result; labels = c.new-2.result } in
    let none = ap length c.new.ensures.items in
    record {
      labeled = subst (λ left. AreSoFar files left all) (sym c.into_iter-file-iterator.ensures.into_iter_gives.0) (none_so_far files all c.new.ensures.items c.new-2.ensures.items);
      size = search rules;
      few = omega (arith, none);
    }

pub returns-in-Err-clause-fault : goal.returns-in-Err-clause-fault
returns-in-Err-clause-fault c =
    file_refused c.args.files.items _ (into_iter_items c.next.new.self) c.in-Some.file c.loop-file.all c.in-Err.fault c.in_file.result c.in-Some.ensures.steps.0 c.loop-file.invariant.labeled c.in-Err.ensures c.in_file.ensures

pub loop-file-preserved : goal.loop-file-preserved
loop-file-preserved c =
    record {
      labeled = next_so_far c.args.files.items _ (into_iter_items c.next.new.self) c.in-Some.file c.loop-file.all c.add_file.new.self c.in-Some.ensures.steps.0 c.in-Ok.ensures c.loop-file.invariant.labeled;
      size = search rules;
      few = c.in-Ok.ensures.few;
    }

pub returns-clause-labeled : goal.returns-clause-labeled
returns-clause-labeled c =
    let none : into_iter_items c.loop-file.file-iterator ≡ [] = nil_from_length _ (sym c.loop-file.invariant.size ∙ c.in-None.ensures.steps.0) in
    all_so_far c.args.files.items (into_iter_items c.loop-file.file-iterator) c.loop-file.all none c.loop-file.invariant.labeled
