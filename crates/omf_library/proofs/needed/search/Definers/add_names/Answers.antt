use Rattle.std.proofs.Common.{◌+◌, ◌∷◌, [], get_or, take, Bor, List, ℕ}
use Rattle.omf_library.specs.Inner.Names.{names_seen}
use Rattle.omf_library.proofs.NeededLaws.{more-more, names-more}
use Rattle.omf_library.proofs.needed.search.Definers.add_names.Goals as goal

pub loop-name-preserved : goal.loop-name-preserved
loop-name-preserved c =
    let ns = c.args.names.now in
    let i = c.loop-name.name-index in
    let d : Bor (List ℕ) = record { ref_ptr = (0, 0); now = [] } in
    more-more c.args.self.now c.loop-name.self c.add.new.self (take i (names_seen ns)) ((get_or ns i d).now ∷ []) (take (i + 1) (names_seen ns)) c.args.definer
    (names-more ns i d c.loop-name-test.true) c.loop-name.invariant c.in_ok-add.ensures
