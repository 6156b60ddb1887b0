use Rattle.std.proofs.Common.{List, ℕ, subst}
use Rattle.std.specs.Prelude.{OnOk}
use Rattle.omf_image.specs.Overlay.{IsLaidOver}
use Rattle.omf_image.proofs.image.Image.lay_zeros.Goals as goal

pub returns : goal.returns
returns c =
    subst (λ (bs : List ℕ). OnOk c.lay_piece.result (IsLaidOver c.args.self.now (record { segment = c.args.extent.segment; offset = c.args.extent.first; bytes = bs }) c.lay_piece.new.self)) c.in_ok-bytes.ensures c.lay_piece.ensures.laid
