use Rattle.std.proofs.Common.{◌≡◌, ◌++◌, ◌-◌, ℕ, min, length, take, ap, ◌∙◌, arith}
use Rattle.omf_frame.specs.Framing.{record_len}
use Rattle.omf_frame.proofs.Growing.{grown}
use Rattle.omf_frame.proofs.framer.grow.Goals as goal

pub returns-clause-ok : goal.returns-clause-ok
returns-clause-ok c =
    let a = c.args.bytes.now.items in
    let b = c.args.piece.now in
    let j : c.joined_len.result ≡ record_len (a ++ b) = rw c.deref.ensures.value at c.joined_len.ensures.same in
    let k : c.min-taken.result ≡ min (record_len (a ++ b) - length a) (length b) = omega (arith, c.args.bytes.now.ok.0) in
    c.in_ok-extend_from_slice.ensures.items ∙ ap (λ t. t ++ take c.min-taken.result b) c.take_room.ensures.same ∙ ap (λ (n : ℕ). a ++ take n b) k ∙ grown a b c.requires.short
