use Rattle.std.proofs.Common.{◌+◌, ◌∷◌, [], get_or, take, Bor, List, ℕ}
use Rattle.omf_library.specs.Inner.Names.{names_seen}
use Rattle.omf_library.specs.Inner.Search.{offered}
use Rattle.omf_library.specs.Inner.Walk.{IsCalled}
use Rattle.omf_library.proofs.NeededLaws.{grown-more, names-at, names-more}
use Rattle.omf_library.proofs.needed.walk.Walk.join_names.Goals as goal

pub join_name-requires-clause-called : goal.join_name-requires-clause-called
join_name-requires-clause-called c =
    names-at (IsCalled (offered c.args.search.now)) c.args.names.now c.loop-name.name-index (record { ref_ptr = (0, 0); now = [] }) c.loop-name-test.true c.requires.called

pub loop-name-preserved : goal.loop-name-preserved
loop-name-preserved c =
    let ns = c.args.names.now in
    let i = c.loop-name.name-index in
    let d : Bor (List ℕ) = record { ref_ptr = (0, 0); now = [] } in
    grown-more (offered c.args.search.now) c.args.self.now.joined.items c.loop-name.self.joined.items c.join_name.new.self.joined.items c.args.self.now.queue.items c.loop-name.self.queue.items c.join_name.new.self.queue.items
    (take i (names_seen ns)) ((get_or ns i d).now ∷ []) (take (i + 1) (names_seen ns)) (names-more ns i d c.loop-name-test.true) c.loop-name.invariant c.in_ok-join_name.ensures
