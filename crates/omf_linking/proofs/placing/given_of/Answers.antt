use Rattle.std.proofs.Common.{◌+◌, ◌∙◌, ◌++◌, ap, append-nil, drop, sym}
use Rattle.std.specs.Prelude.{flat_map}
use Rattle.std.specs.List.{enumerate_from}
use Rattle.omf_linking.specs.Placing.{given_in, given_of}
use Rattle.omf_linking.proofs.PlacesLaws.{more-mapped, next-of, none-of}
use Rattle.omf_linking.proofs.placing.given_of.Goals as goal

pub loop-j-init : goal.loop-j-init
loop-j-init c = ap (λ xs. xs ++ given_of c.args.sparse.now) c.new-given.ensures.items

pub loop-j-preserved : goal.loop-j-preserved
loop-j-preserved c =
    let ss = c.args.sparse.now in
    let j = c.loop-j.j in
    let s = c.index-sparse-j.result in
    more-mapped given_in (j, s) (enumerate_from (j + 1) (drop (j + 1) ss)) (enumerate_from j (drop j ss)) c.loop-j.given.items c.add_externals.new.given.items _
    (ap (enumerate_from j) (next-of ss j s c.index-sparse-j.is c.loop-j-test.true)) c.in_ok-add_externals.ensures c.loop-j.invariant

pub returns : goal.returns
returns c =
    let ss = c.args.sparse.now in
    let j = c.loop-j.j in
    sym (append-nil c.loop-j.given.items) ∙ ap (λ xs. c.loop-j.given.items ++ flat_map given_in (enumerate_from j xs)) (sym (none-of ss j c.loop-j-test.false)) ∙ c.loop-j.invariant
