use Rattle.std.proofs.Common.{◌∙◌, ◌/◌, ◌%◌, ℕ, ap, arith}
use Rattle.std.specs.Prelude.{◌^◌, ◌==◌}
use Rattle.omf_frame.proofs.TypeLaws.{untaken, taken_by_low, taken_by_high}
use Rattle.omf_frame.proofs.kinds.is_taken.Goals as goal
use Rattle.omf_frame.proofs.kinds.is_taken.Goals.{then-kind-lt192, else-kind-lt192}

pub returns-then-kind-lt128 : goal.returns-then-kind-lt128
returns-then-kind-lt128 c = untaken c.args.kind (omega arith)

pub returns : goal.returns
returns c = elim c.if-kind-lt192.branch [
  | then-kind-lt192 w ↦ ap (λ (t : ℕ). t / 2 ^ (c.args.kind % 64) % 2 == 1) w.taken-is ∙ taken_by_low c.args.kind (omega arith) (omega arith)
  | else-kind-lt192 w ↦ ap (λ (t : ℕ). t / 2 ^ (c.args.kind % 64) % 2 == 1) w.taken-is ∙ taken_by_high c.args.kind (omega arith) (omega arith)
]
