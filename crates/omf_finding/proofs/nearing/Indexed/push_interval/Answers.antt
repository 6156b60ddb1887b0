use Rattle.std.proofs.Common.{◌+◌, List, ℕ, ap, refl, subst, sym}
use Rattle.omf_finding.specs.Inner.Nearing.{Adds, IsShownIn}
use Rattle.omf_finding.proofs.ShownLaws.{interval-more, interval-same}
use Rattle.omf_finding.proofs.nearing.Indexed.push_interval.Goals.{in-Some+in_ok-push_shown, in_default}
use Rattle.omf_finding.proofs.nearing.Indexed.push_interval.Goals as goal

pub loop-at-preserved : goal.loop-at-preserved
loop-at-preserved c =
    let program = c.args.self.now.program.now in
    let i = c.args.interval in
    let at = c.loop-at.at in
    let old = c.args.addresses.now.items in
    let now = c.loop-at.addresses.items in
    elim c.match-rare_at.branch [
      | in-Some+in_ok-push_shown w ↦
          let is = w.in-Some.ensures.some in
          subst (λ (xs : List ℕ). Adds (IsShownIn program.bytes.items program.base i (at + 1)) old xs) (sym (ap (λ v. v.items) w.addresses-is))
          (interval-more program.bytes.items program.base i at w.in-Some.rare.key w.in-Some.rare.offset old now w.push_shown.new.addresses.items is.key is.offset c.loop-at.invariant w.in_ok-push_shown.ensures)
      | in_default w ↦
          subst (λ (xs : List ℕ). Adds (IsShownIn program.bytes.items program.base i (at + 1)) old xs) (sym (ap (λ v. v.items) w.addresses-is))
          (interval-same program.bytes.items program.base i at old now (w.in_default.ensures.none refl) c.loop-at.invariant)
    ]
