use Rattle.std.proofs.Common.{ℕ, List, [], subst, sym, take, Bor}
use Rattle.omf_library.specs.Inner.Asked.{HasAsked}
use Rattle.omf_library.specs.Inner.Names.{names_seen}
use Rattle.omf_library.proofs.NeededLaws.{names-more}
use Rattle.omf_library.proofs.needed.defaults.once.Goals as goal

pub loop-name-preserved : goal.loop-name-preserved
loop-name-preserved c =
    let ns = c.args.names.now in
    let i = c.loop-name.name-index in
    let d : Bor (List ℕ) = record { ref_ptr = (0, 0); now = [] } in
    subst (HasAsked c.add.new.self) (sym (names-more ns i d c.loop-name-test.true)) (c.in_ok-add.ensures (take i (names_seen ns)) c.loop-name.invariant)
