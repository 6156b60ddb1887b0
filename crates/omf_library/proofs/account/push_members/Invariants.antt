use Rattle.std.proofs.Common.{◌≤◌, ◌∷◌, take}
use Rattle.omf_library.specs.Account.{AreAdjacent, cut, member_cuts}
use Rattle.omf_library.specs.Inner.Accounting.{Adds}
use Rattle.omf_library.specs.declared.account.RegionKind.TheVariants as kind
use Rattle.omf_library.proofs.account.push_members.Given as goal

-- the regions so far are those of the header and of the members passed, and end at an offset
abbrev pub invariant-loop-span : goal.invariant-loop-span
invariant-loop-span l = record {
  adds : Adds l.all 0 (cut kind.Header 10 ∷ cut kind.Padding l.page ∷ member_cuts (take l.span-index l.spans.members.items)) l.fn.regions.items l.regions.items l.at;
  ends : l.at ≤ l.all;
  adjacent : AreAdjacent l.fn.regions.items 0 0 → AreAdjacent l.regions.items 0 l.at;
}
