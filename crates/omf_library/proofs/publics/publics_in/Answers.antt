use Rattle.std.proofs.Common.{◌≡◌, ◌++◌, ◌∙◌, sym, ap, ap₂}
use Rattle.omf_library.specs.LibraryMembers.{names_kept, publics_in, publics_of}
use Rattle.omf_library.proofs.PublicLaws.{names_more, publics_step}
use Rattle.omf_library.proofs.publics.publics_in.Goals as goal

pub loop-rest-preserved : goal.loop-rest-preserved
loop-rest-preserved c =
    let rest = c.loop-rest.rest.now in
    let first = publics_of c.first_record.result.0.kind c.first_record.result.0.body.now in
    let next = publics_in c.first_record.result.1.now in
    let f = c.first_record.ensures in
    let step : publics_in rest ≡ first ++ next
    = publics_step rest ∙ ap₂ (λ ks ns. ks ++ ns) (sym (ap₂ publics_of f.kind f.body)) (sym (ap publics_in f.rest)) in
    names_more (names_kept c.loop-rest.names.items) (names_kept c.push_record.new.names.items) first (publics_in rest) next (publics_in c.args.bytes.now) c.in_ok-push_record.ensures step c.loop-rest.invariant
