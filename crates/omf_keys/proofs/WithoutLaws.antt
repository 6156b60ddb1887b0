-- What is left of modules of equal keys without the same segments has equal keys.
use Rattle.std.proofs.Common.{◌≡◌, ℕ, List, [], ◌∷◌, sym, ◌∙◌, ap, subst}
use Rattle.std.specs.Prelude.{map}
use Rattle.omf_frame.specs.Framing.{Raw}
use Rattle.omf_image.specs.Limits.{profile_limits}
use Rattle.omf_records.specs.Values.{alone}
use Rattle.omf_check.proofs.SessionLaws.{records_of}
use Rattle.omf_check.specs.Module.{Module, recs_of, records_in}
use Rattle.omf_check.specs.WellFormed.{IsWellFormed, recs}
use Rattle.omf_canon.specs.Laws.{CanonicalsDecide, FixupsStandAlone, SkeletonsAreJoined, SkeletonsAreUnique}
use Rattle.omf_trimming.specs.Without.{IsWithout, records_without, recs_without, without}
use Rattle.omf_trimming.specs.WithoutLaws.{RestsAreTyped, RestsAreWellFormed}
use Rattle.omf_trimming.specs.declared.without.LeftPublics.TheVariants.{Nameless}
use Rattle.omf_keys.specs.Keys.{AreAlike, HaveOneKey, IsAcceptedModule}
use Rattle.omf_keys.specs.Laws.{PiecesByKeys}
use Rattle.omf_keys.proofs.PieceLaws.{same-skeletons}
use Rattle.omf_keys.proofs.RestLaws.{bare-alone, same-without}

-- A module that is left: it is accepted, and has the records that are left.
record IsLeft (gone : List ℕ) (m o : Module) : Type 0 where
  accepted : IsAcceptedModule o
  alike : map alone (recs_of o.bytes) ≡ map alone (recs_without Nameless gone (recs_of m.bytes))

module _ (well : RestsAreWellFormed) (typed : RestsAreTyped) where
  left-bytes : (gone : List ℕ) (m : Module) → IsAcceptedModule m → IsLeft gone m (record m { bytes = without Nameless gone m.bytes })
  left-bytes gone m a =
      let w = well Nameless gone m.profile profile_limits m.bytes a in
      let same : records_in (without Nameless gone m.bytes) ≡ records_without Nameless gone (records_in m.bytes) = records_of (without Nameless gone m.bytes) (records_without Nameless gone (records_in m.bytes)) w.framed in
      record {
        accepted = subst (λ (rs : List Raw). IsWellFormed m.profile profile_limits (without Nameless gone m.bytes) rs) (sym same) w;
        alike = ap (λ (rs : List Raw). map alone (recs rs)) same ∙ typed Nameless gone m.profile profile_limits m.bytes a;
      }

  is-left : (s : ℕ) (ss : List ℕ) (m o : Module) → IsAcceptedModule m → IsWithout Nameless (s ∷ ss) m o → IsLeft (s ∷ ss) m o
  is-left s ss m o a w = subst (IsLeft (s ∷ ss) m) (sym w) (left-bytes (s ∷ ss) m a)

  module _ (decide : CanonicalsDecide) (unique : SkeletonsAreUnique) (stand : FixupsStandAlone) (joined : SkeletonsAreJoined) (pieces : PiecesByKeys) where
    -- Accepted modules of the same pieces have one key.
    pub one-key : (m n : Module) → IsAcceptedModule m → IsAcceptedModule n → AreAlike (recs_of m.bytes) (recs_of n.bytes) → HaveOneKey m n
    one-key m n a b h = record {
      first = a;
      second = b;
      keys = (decide m.profile n.profile profile_limits profile_limits m.bytes n.bytes (records_in m.bytes) (records_in n.bytes) a b).1 (same-skeletons unique stand joined (recs_of m.bytes) (recs_of n.bytes) h);
    }

    pub without-key : (gone : List ℕ) (m n o p : Module) → HaveOneKey m n → IsWithout Nameless gone m o → IsWithout Nameless gone n p → HaveOneKey o p
    without-key [] m n o p h w v = subst (λ (x : Module). HaveOneKey x p) (sym w) (subst (HaveOneKey m) (sym v) h)
    without-key (s ∷ ss) m n o p h w v =
        let a = is-left s ss m o h.first w in
        let b = is-left s ss n p h.second v in
        one-key o p a.accepted b.accepted
        (bare-alone (recs_of o.bytes) (recs_without Nameless (s ∷ ss) (recs_of m.bytes)) a.alike
        ∙ same-without (s ∷ ss) (recs_of m.bytes) (recs_of n.bytes) (pieces m n h).bare
        ∙ sym (bare-alone (recs_of p.bytes) (recs_without Nameless (s ∷ ss) (recs_of n.bytes)) b.alike))
