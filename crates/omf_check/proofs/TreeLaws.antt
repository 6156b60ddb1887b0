-- The blocks of an LIDATA have no fault exactly if they are trees within the limits.
use Rattle.std.proofs.Common.{◌≡◌, ℕ, ◌+◌, ◌≤◌, Bool, true, false, List, [], ◌∷◌, Result, Ok, Err, refl, sym, ◌∙◌, ap, subst}
use Rattle.std.specs.Prelude.{nat_le}
use Rattle.std.proofs.lemmas.Bool.{le-leb, leb-true}
use Rattle.omf_frame.specs.Bytes.{AreBytes}
use Rattle.omf_frame.specs.Fault.{Fault, rule, broken}
use Rattle.omf_frame.specs.Framing.{Raw}
use Rattle.omf_frame.specs.declared.fault.Reason.TheVariants as reason
use Rattle.omf_records.specs.Values.{Contents, Header, Iterated, width}
use Rattle.omf_records.specs.Inner.Steps.{AreBytes-rest, AreBytes-none}
use Rattle.omf_records.specs.Records.{IsTyped}
use Rattle.omf_records.specs.Inner.Reading.{typed}
use Rattle.omf_records.proofs.LaidOut.{IsLaidOut, laid-out}
use Rattle.omf_image.specs.Blocks.{Blocks, blocks_size, AreBlocks}
use Rattle.omf_image.specs.Inner.BlockReaders.{blocks_whole}
use Rattle.omf_image.specs.Inner.Expanding.{read_blocks, faults_of, blocks_or_none}
use Rattle.omf_image.specs.declared.limits.Limits.{Limits}
use Rattle.omf_check.specs.Inner.Names.{moved, short_or_deep, too_long}
use Rattle.omf_check.specs.WellFormed.{HasTrees}

-- the bytes of blocks in contents
abbrev pub blocks_in : Contents → List ℕ
blocks_in (Iterated d) = d.bytes
blocks_in _ = []

-- Contents that are spelled by bytes below 256 have blocks of such.
pub small_blocks : (kind at : ℕ) (bytes : List ℕ) (c : Contents) → AreBytes bytes → IsLaidOut kind at bytes c → AreBytes (blocks_in c)
small_blocks kind at bytes (Iterated d) small (f1, b1, x1, p1, s1, (f2, b2, x2, p2, s2, (x, same, is))) =
    let rest_small : AreBytes x = subst AreBytes (sym same) (AreBytes-rest b1 f2 b2 p2 (AreBytes-rest bytes f1 b1 p1 small)) in
    subst (λ z. AreBytes z.bytes) (sym is) rest_small
small_blocks kind at bytes (Header name) small h = AreBytes-none
small_blocks kind at bytes _ small h = AreBytes-none

some_none : (f : Fault) → f ∷ [] ≡ [] → ⊥
some_none f e = cc

within : (b : Bool) (f : Fault) → broken (record { holds = b; within = f.within; reason = f.reason } ∷ []) ≡ [] → b ≡ true
within true f e = refl
within false f e = absurd (some_none _ e)

-- the faults of what was read
abbrev deep_at : ℕ → Result Blocks Fault → List Fault
deep_at at r = moved at (faults_of r)

abbrev long_at : ℕ → ℕ → Result Blocks Fault → List Fault
long_at limit at r = moved at (broken (rule (nat_le (blocks_size (blocks_or_none r)) limit) 0 reason.DataTooLong ∷ []))

long_none : (limit at n : ℕ) → n ≤ limit → moved at (broken (rule (nat_le n limit) 0 reason.DataTooLong ∷ [])) ≡ []
long_none limit at n le = ap (λ b. moved at (broken (rule b 0 reason.DataTooLong ∷ []))) (le-leb n limit le)

by_test : (b : Bool) (at : ℕ) → moved at (broken (rule b 0 reason.DataTooLong ∷ [])) ≡ [] → b ≡ true
by_test true at e = refl
by_test false at e = absurd (some_none _ e)

module _ (limits : Limits) (width at : ℕ) (bytes : List ℕ) where
  trees_faultless : (trees : Blocks) → AreBlocks width limits bytes trees → (deep_at at (read_blocks width limits.nesting bytes) ≡ []) × (long_at limits.expanded at (read_blocks width limits.nesting bytes) ≡ [])
  trees_faultless trees (sp, le) =
      let e = (blocks_whole width limits.nesting).again 0 bytes trees sp in
      (ap (deep_at at) e, ap (long_at limits.expanded at) e ∙ long_none limits.expanded at (blocks_size trees) le)

  faultless_trees : AreBytes bytes → (r : Result Blocks Fault) → read_blocks width limits.nesting bytes ≡ r → deep_at at r ≡ [] → long_at limits.expanded at r ≡ [] → (trees : Blocks) × AreBlocks width limits bytes trees
  faultless_trees small (Ok trees) e deep long =
      (trees, ((blocks_whole width limits.nesting).ok 0 bytes trees small e, leb-true (blocks_size trees) limits.expanded (by_test (nat_le (blocks_size trees) limits.expanded) at long)))
  faultless_trees small (Err f) e deep long = absurd (some_none _ deep)

pub no_block_fault : (limits : Limits) (kind : ℕ) (c : Contents) → HasTrees limits kind c → (short_or_deep limits kind c ≡ []) × (too_long limits kind c ≡ [])
no_block_fault limits kind (Iterated d) (trees, h) = trees_faultless limits (width kind) (d.offset.within + width kind) d.bytes trees h
no_block_fault limits kind (Header n) h = (refl, refl)
no_block_fault limits kind _ h = (refl, refl)

has_trees : (limits : Limits) (kind : ℕ) (c : Contents) → AreBytes (blocks_in c) → short_or_deep limits kind c ≡ [] → too_long limits kind c ≡ [] → HasTrees limits kind c
has_trees limits kind (Iterated d) small deep long = faultless_trees limits (width kind) (d.offset.within + width kind) d.bytes small (read_blocks (width kind) limits.nesting d.bytes) refl deep long
has_trees limits kind (Header n) small deep long = tt
has_trees limits kind _ small deep long = tt

pub trees_of : (limits : Limits) (r : Raw) → AreBytes r.body → IsTyped (typed r) r.body → short_or_deep limits r.kind (typed r).contents ≡ [] → too_long limits r.kind (typed r).contents ≡ [] → HasTrees limits r.kind (typed r).contents
trees_of limits r small is deep long = has_trees limits r.kind (typed r).contents (small_blocks r.kind 3 r.body (typed r).contents small (laid-out r.kind 3 r.body (typed r).contents is)) deep long
