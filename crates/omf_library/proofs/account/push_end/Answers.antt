use Rattle.std.proofs.Common.{◌≡◌, ◌+◌, ◌∷◌, [], Some, min, length, IfOk, subst}
use Rattle.omf_library.specs.Account.{blocks_at, cut, dictionary_cuts, end_cuts, record_end}
use Rattle.omf_library.specs.Inner.Accounting.{Adds}
use Rattle.omf_library.specs.declared.account.RegionKind.TheVariants as kind
use Rattle.omf_library.proofs.AccountLaws.{adds_ok}
use Rattle.omf_library.proofs.account.push_end.Goals as goal

pub returns-in_ok-at-in-Some-clause-adds : goal.returns-in_ok-at-in-Some-clause-adds
returns-in_ok-at-in-Some-clause-adds c =
    let bytes = c.args.bytes.now in
    let n = length bytes in
    let end = c.args.end in
    let offset = c.in-Some.offset in
    let some : Some offset ≡ blocks_at c.args.header end n = cc in
    subst (λ b. IfOk c.push_dictionary.result (Adds n c.args.from (end_cuts c.args.header bytes end b) c.args.regions.now.items c.push_dictionary.new.regions.items)) some
    (adds_ok n c.args.from c.in_ok-at-in-Some.at (cut kind.Padding end ∷ cut kind.End (min (end + 3) offset) ∷ cut kind.Padding (min (record_end bytes end) offset) ∷ []) (dictionary_cuts c.args.header bytes (Some offset)) c.args.regions.now.items c.push_end_record.new.regions.items c.push_dictionary.new.regions.items c.push_dictionary.result c.in_ok-at-in-Some.ensures.adds c.push_dictionary.ensures.adds)
