use Rattle.std.proofs.Common.{◌≡◌, ◌∙◌, rules}
use Rattle.omf_names.proofs.NameTables.{was_at}
use Rattle.omf_library.specs.Inner.Search.{found_at}
use Rattle.omf_library.proofs.needed.search.Search.member_of.Goals as goal

pub returns : goal.returns
returns c =
    let found : c.copied.result ≡ found_at c.args.self.now.definers c.args.name.now =
    was_at c.args.name c.of.result c.of.ensures c.args.self.now.definers.by_name c.copied.result (c.copied.ensures ∙ c.get.ensures.value) in
    search rules
