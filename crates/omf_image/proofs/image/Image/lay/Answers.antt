use Rattle.std.proofs.Common.{List, ℕ, subst}
use Rattle.std.specs.Prelude.{OnOk, OnErr}
use Rattle.omf_image.specs.Overlay.{IsLaidOver, IsCovered}
use Rattle.omf_image.proofs.image.Image.lay.Goals as goal

pub returns-clause-laid : goal.returns-clause-laid
returns-clause-laid c =
    subst (λ (bs : List ℕ). OnOk c.lay_piece.result (IsLaidOver c.args.self.now (record { segment = c.args.segment; offset = c.args.offset; bytes = bs }) c.lay_piece.new.self)) c.from_vec.ensures.items c.lay_piece.ensures.laid

pub returns-clause-full : goal.returns-clause-full
returns-clause-full c =
    subst (λ (bs : List ℕ). OnErr c.lay_piece.result (IsCovered c.args.self.now (record { segment = c.args.segment; offset = c.args.offset; bytes = bs }) → ⊥)) c.from_vec.ensures.items c.lay_piece.ensures.full
