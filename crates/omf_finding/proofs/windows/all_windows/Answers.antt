use Rattle.std.proofs.Common.{rules, ◌≡◌, ◌++◌, ◌∷◌, [], ◌+◌, ◌<◌, ◌≤◌, ◌^◌, Some, None, sym, subst}
use Rattle.omf_finding.specs.Inner.Shaping.{HasWindows, OnlyWindows, is_kept, window_at}
use Rattle.omf_finding.proofs.WindowLaws.{only-more, only-same, windows-left, windows-more, windows-past}
use Rattle.omf_finding.proofs.windows.all_windows.Goals.{in-Ok+in-Some+in_ok-push, in-Ok+in_default-window_at, in_default}
use Rattle.omf_finding.proofs.windows.all_windows.Goals as goal

pub loop-at-preserved : goal.loop-at-preserved
loop-at-preserved c =
    let program = c.args.program.now in
    let at = c.loop-at.at in
    let old = c.loop-at.windows.items in
    let new = c.match-try_from.windows.items in
    let kept = is_kept c.args.marks.now in
    let has : HasWindows kept program new (at + 1) = elim c.match-try_from.branch [
      | in-Ok+in-Some+in_ok-push w ↦
          let shown : window_at kept program at ≡ Some w.in-Some.window = search rules in
          let pushed : new ≡ old ++ w.in-Some.window ∷ [] = search rules in
          windows-more kept program old new at w.in-Some.window shown pushed c.loop-at.invariant.has
      | in-Ok+in_default-window_at w ↦
          let same : new ≡ old = search rules in
          let none : window_at kept program at ≡ None = search rules in
          subst (λ ws. HasWindows kept program ws (at + 1)) (sym same) (windows-left kept program old at none c.loop-at.invariant.has)
      | in_default w ↦
          let same : new ≡ old = search rules in
          let far : 2 ^ 32 ≤ at = search rules in
          subst (λ ws. HasWindows kept program ws (at + 1)) (sym same) (windows-past kept program old at far c.loop-at.invariant.has)
    ] in
    let only : OnlyWindows program new (at + 1) = elim c.match-try_from.branch [
      | in-Ok+in-Some+in_ok-push w ↦
          let low : at < 2 ^ 32 = search rules in
          let shown : window_at kept program at ≡ Some w.in-Some.window = search rules in
          let pushed : new ≡ old ++ w.in-Some.window ∷ [] = search rules in
          only-more kept program old new at w.in-Some.window low shown pushed c.loop-at.invariant.only
      | in-Ok+in_default-window_at w ↦ let same : new ≡ old = search rules in subst (λ ws. OnlyWindows program ws (at + 1)) (sym same) (only-same program old at c.loop-at.invariant.only)
      | in_default w ↦ let same : new ≡ old = search rules in subst (λ ws. OnlyWindows program ws (at + 1)) (sym same) (only-same program old at c.loop-at.invariant.only)
    ] in
    record { has = has; only = only }
