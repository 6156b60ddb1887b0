use Rattle.std.proofs.Common.{◌≡◌, ◌<◌, ◌++◌, length, get_or, rules, string_bytes}
use Rattle.omf_host.proofs.EndingLaws.{found_with}
use Rattle.omf_host.proofs.endings.with_ending.Goals as goal

pub returns-then-branch : goal.returns-then-branch
returns-then-branch c =
    let endings = c.args.endings.now in
    let i = c.loop-ending.ending-index in
    let low : i < length endings = search rules in
    c.loop-ending.invariant _ (found_with c.args.front.now c.args.name.now endings i _ _ low c.in_ok-path.ensures)
