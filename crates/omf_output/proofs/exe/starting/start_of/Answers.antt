use Rattle.std.proofs.Common.{ℕ, ◌+◌, ◌++◌, ◌∙◌, ap, drop, sym}
use Rattle.std.specs.Prelude.{Option, option_to_list}
use Rattle.omf_output.specs.Exe.Based.{HasReached}
use Rattle.omf_output.specs.Exe.Linked.{one_start, starts}
use Rattle.omf_output.proofs.StartLaws.{all-started, first_start, no_start, second_start}
use Rattle.omf_placement.proofs.StepLaws.{next_item, none_left}
use Rattle.omf_output.proofs.Steps.{all-at}
use Rattle.omf_output.proofs.exe.starting.start_of.Goals as goal

pub numbered_start-requires : goal.numbered_start-requires
numbered_start-requires c =
    let ms = c.args.members.now in
    let i = c.loop-member.member-index in
    let m = c.member-item.result in
    all-at HasReached ms i m c.requires (next_item ms i m c.member-item.is c.loop-member-test.true)

pub loop-member-preserved-in_default : goal.loop-member-preserved-in_default
loop-member-preserved-in_default c =
    let ms = c.args.members.now in
    let i = c.loop-member.member-index in
    let m = c.member-item.result in
    no_start m (drop (i + 1) ms) (drop i ms) (option_to_list c.loop-member.found) _ (next_item ms i m c.member-item.is c.loop-member-test.true) (sym c.numbered_start.ensures ∙ c.in_default.is) c.loop-member.invariant

pub returns-in-Some-found : goal.returns-in-Some-found
returns-in-Some-found c =
    let ms = c.args.members.now in
    let i = c.loop-member.member-index in
    let m = c.member-item.result in
    let f : ℕ × (ℕ × ℕ) = (c.in-Some-found.first, c.in-Some-found.field-0-1) in
    second_start m (drop (i + 1) ms) (drop i ms) (c.in-Some.second, c.in-Some.start) f _ (next_item ms i m c.member-item.is c.loop-member-test.true) (sym c.numbered_start.ensures ∙ c.in-Some.is)
    (ap (λ (o : Option (ℕ × (ℕ × ℕ))). one_start (option_to_list o ++ starts (drop i ms))) (sym c.in-Some-found.is) ∙ c.loop-member.invariant)

pub loop-member-preserved : goal.loop-member-preserved
loop-member-preserved c =
    let ms = c.args.members.now in
    let i = c.loop-member.member-index in
    let m = c.member-item.result in
    first_start m (drop (i + 1) ms) (drop i ms) (c.in-Some.second, c.in-Some.start) _ (next_item ms i m c.member-item.is c.loop-member-test.true) (sym c.numbered_start.ensures ∙ c.in-Some.is)
    (ap (λ (o : Option (ℕ × (ℕ × ℕ))). one_start (option_to_list o ++ starts (drop i ms))) (sym c.in_default-found.is) ∙ c.loop-member.invariant)

pub returns-in-Some-found-2 : goal.returns-in-Some-found-2
returns-in-Some-found-2 c =
    let ms = c.args.members.now in
    c.far_address.ensures ∙ ap (λ (o : Option (ℕ × (ℕ × ℕ))). one_start (option_to_list o)) (sym c.in-Some-found-2.is)
    ∙ all-started ms (drop c.loop-member.member-index ms) c.loop-member.found (none_left ms c.loop-member.member-index c.loop-member-test.false) c.loop-member.invariant

pub returns-in-None : goal.returns-in-None
returns-in-None c =
    let ms = c.args.members.now in
    ap (λ (o : Option (ℕ × (ℕ × ℕ))). one_start (option_to_list o)) (sym c.in-None.is)
    ∙ all-started ms (drop c.loop-member.member-index ms) c.loop-member.found (none_left ms c.loop-member.member-index c.loop-member-test.false) c.loop-member.invariant
