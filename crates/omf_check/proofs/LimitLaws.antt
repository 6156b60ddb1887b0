-- A module within some limits on blocks is within all larger limits.
use Rattle.std.proofs.Common.{◌≡◌, ℕ, ◌≤◌, List, ◌++◌, refl, sym, ◌∙◌, ap, subst}
use Rattle.omf_frame.specs.Inner.Names.{AreKept}
use Rattle.omf_frame.specs.Framing.{Raw}
use Rattle.omf_records.specs.Inner.Reading.{typed}
use Rattle.omf_records.specs.Values.{Rec, Contents, Header, Iterated, width}
use Rattle.omf_image.proofs.LimitLaws.{blocks_grow}
use Rattle.omf_image.specs.Inner.BlockReaders.{blocks_whole}
use Rattle.omf_image.specs.Blocks.{blocks_size}
use Rattle.omf_image.specs.Inner.Expanding.{blocks_or_none}
use Rattle.omf_image.specs.declared.limits.Limits.{Limits}
use Rattle.omf_check.specs.Rules.{contents_rules, data_rules, room, item_limit, item_places}
use Rattle.omf_check.specs.Tables.{item_count}
use Rattle.omf_check.specs.WellFormed.{IsWellFormed, HasTrees, recs}
use Rattle.omf_check.specs.declared.profile.Profile.{Profile}
use Rattle.omf_check.proofs.WellLaws.{well-read, well-formed}
use Rattle.omf_check.proofs.AcceptLaws.{all_middle}

module _ (profile : Profile) (small large : Limits) (deeper : small.nesting ≤ large.nesting) (longer : small.expanded ≤ large.expanded) where
  trees_grow : (kind : ℕ) (c : Contents) → HasTrees small kind c → HasTrees large kind c
  trees_grow kind (Iterated d) (trees, h) = (trees, blocks_grow (width kind) small large d.bytes trees deeper longer h)
  trees_grow kind (Header n) h = tt
  trees_grow kind _ h = tt

  rules_same : (before : List Rec) (kind : ℕ) (c : Contents) → HasTrees small kind c → contents_rules profile small before kind c ≡ contents_rules profile large before kind c
  rules_same before kind (Iterated d) (trees, h) =
      let g = blocks_grow (width kind) small large d.bytes trees deeper longer h in
      let less = (blocks_whole (width kind) small.nesting).again 0 d.bytes trees h.0 in
      let more = (blocks_whole (width kind) large.nesting).again 0 d.bytes trees g.0 in
      ap (λ r. data_rules before d (blocks_size (blocks_or_none r))) (less ∙ sym more)
  rules_same before kind (Header n) h = refl
  rules_same before kind _ h = refl

  pub module_grows : (bytes : List ℕ) (records : List Raw) → IsWellFormed profile small bytes records → IsWellFormed profile large bytes records
  module_grows bytes records m =
      let w = well-read profile small bytes records m in
      well-formed profile large bytes records (record {
        framed = w.framed;
        spelled = w.spelled;
        blocks = λ k d low. trees_grow _ _ (w.blocks k d low);
        kept = λ before after r e.
            let h = all_middle (λ x. HasTrees small x.kind (typed x).contents) records before after r e w.blocks in
            subst (λ rs. AreKept (room item_limit (item_count (recs before)) (item_places (typed r).contents) ++ rs)) (rules_same (recs before) r.kind (typed r).contents h) (w.kept before after r e);
      })
