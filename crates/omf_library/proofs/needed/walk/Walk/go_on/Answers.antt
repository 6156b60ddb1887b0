use Rattle.std.proofs.Common.{◌≡◌, ◌<◌, length, get_or, rules}
use Rattle.omf_library.specs.Needed.{member_linkage}
use Rattle.omf_library.specs.Inner.Search.{offered}
use Rattle.omf_library.proofs.NeededLaws.{called-next, given-kept, grown-longer, looked-more, next-inside, slice_get-map_or}
use Rattle.omf_library.proofs.needed.walk.Walk.go_on.Goals as goal

pub join_member-requires-clause-called : goal.join_member-requires-clause-called
join_member-requires-clause-called c =
    let s = c.args.search.now in
    let js = c.loop-at.self.joined.items in
    let qs = c.loop-at.self.queue.items in
    let at = c.loop-at.at in
    let n = c.index-number.result.now in
    let inside : at < length qs = search rules in
    let is : n ≡ get_or qs at n = search rules in
    let w = c.loop-at.invariant.walk in
    called-next (offered s) js qs at n (member_linkage (get_or s.members.now n c.index-search-number.result)) w inside is
    (slice_get-map_or member_linkage s.members.now n c.index-search-number.result (next-inside (offered s) js qs at n w inside is))

pub loop-at-preserved : goal.loop-at-preserved
loop-at-preserved c =
    let s = c.args.search.now in
    let js = c.loop-at.self.joined.items in
    let qs = c.loop-at.self.queue.items in
    let ks = c.join_member.new.self.joined.items in
    let rs = c.join_member.new.self.queue.items in
    let at = c.loop-at.at in
    let n = c.index-number.result.now in
    let m = member_linkage (get_or s.members.now n c.index-search-number.result) in
    let inside : at < length qs = search rules in
    let is : n ≡ get_or qs at n = search rules in
    let w = c.loop-at.invariant.walk in
    let g = c.in_ok-join_member.ensures in
    record {
      walk = g.walk;
      given = given-kept (offered s) js ks qs rs m.externals (offered s).given g c.loop-at.invariant.given;
      low = grown-longer (offered s) js ks qs rs m.externals at g inside;
      looked = looked-more (offered s) js ks qs rs m at n inside is
          (slice_get-map_or member_linkage s.members.now n c.index-search-number.result (next-inside (offered s) js qs at n w inside is)) g c.loop-at.invariant.looked;
    }
