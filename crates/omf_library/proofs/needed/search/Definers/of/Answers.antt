use Rattle.std.proofs.Common.{◌+◌, take}
use Rattle.std.specs.Prelude.{map}
use Rattle.omf_library.specs.Needed.{linkage, member_linkage}
use Rattle.omf_library.proofs.NeededLaws.{length-take_map, table-member, take-map_more}
use Rattle.omf_library.proofs.needed.search.Definers.of.Goals as goal

pub loop-number-preserved : goal.loop-number-preserved
loop-number-preserved c =
    let ms = c.args.members.now in
    let i = c.loop-number.number in
    table-member c.loop-number.definers c.add_member.new.self (map linkage c.args.modules.now) (take i (map member_linkage ms)) (take (i + 1) (map member_linkage ms)) (member_linkage c.index-members-number.result) i
    (take-map_more member_linkage ms i c.index-members-number.result c.index-members-number.is c.loop-number-test.true) (length-take_map member_linkage ms i c.loop-number-test.true)
    c.in_ok-add_member.ensures c.loop-number.invariant
