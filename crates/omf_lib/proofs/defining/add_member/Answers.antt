use Rattle.std.proofs.Common.{[], ◌++◌, ◌∷◌}
use Rattle.omf_making.specs.Names.{names_seen}
use Rattle.omf_lib.proofs.KeyLaws.{member_keys, on_ok}
use Rattle.omf_lib.proofs.defining.add_member.Goals as goal

pub returns-in_ok-add : goal.returns-in_ok-add
returns-in_ok-add c = λ done h.
    let key = c.in_ok-key.key.items in
    on_ok c.add_names.result (member_keys c.args.home.is_case_sensitive c.args.home.page (names_seen c.args.names.now) done key c.add_names.new.keys c.if-home-lt65536.true c.in_ok-key.ensures)
    (c.add_names.ensures (done ++ key ∷ []) (c.in_ok-add.ensures done h))
