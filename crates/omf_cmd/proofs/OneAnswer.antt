-- Each input has one answer.
use Rattle.std.proofs.Common.{◌≡◌, ℕ, List, Bool, true, false, length, refl, sym, ap, ap₂, ◌∙◌, Result, Ok, Err, Some, None, ◌⊎◌, inl, inr}
use Rattle.std.specs.Prelude.{Option, nat_lt, if◌then◌else◌, ◌++◌}
use Rattle.std.proofs.lemmas.List.{append_cancel_left}
use Rattle.omf_frame.specs.Framing.{Raw}
use Rattle.omf_frame.specs.declared.fault.Place.{Place}
use Rattle.omf_frame.specs.declared.fault.Reason.{Reason}
use Rattle.omf_records.specs.Values.{Rec}
use Rattle.omf_image.specs.Limits.{profile_limits}
use Rattle.omf_check.specs.Refusal.{IsRefused}
use Rattle.omf_check.specs.WellFormed.{IsAccepted, recs}
use Rattle.omf_check.specs.declared.profile.Profile.{Profile}
use Rattle.omf_check.proofs.AcceptLaws.{accepted_once, never_both}
use Rattle.omf_check.proofs.UniqueLaws.{refused_once}
use Rattle.omf_check.proofs.VerdictLaws.{either}
use Rattle.omf_placement.specs.Placement.{Places}
use Rattle.omf_placement.specs.PlacementText.{parsed}
use Rattle.omf_reloc.specs.Reach.{reach_fault}
use Rattle.omf_reloc.specs.declared.fault.ReachFault.{ReachFault}
use Rattle.omf_cmd.specs.Laws.{is_settled, IsTheAnswer, InputsHaveOneAnswer}
use Rattle.omf_cmd.specs.Outcome.{placement_of, reloc_outcome, text_limit}
use Rattle.omf_cmd.specs.Inner.Names.{unless_far}
use Rattle.omf_cmd.specs.Inner.Names.{of_placement}
use Rattle.omf_cmd.specs.Relocating.{Answers, HasOutcome}
use Rattle.omf_cmd.specs.declared.fault.RunFault.{RunFault}
use Rattle.omf_cmd.specs.declared.fault.RunFault.TheVariants as fault

-- an answer for a module and a text
abbrev is_outcome : Result (List ℕ) RunFault → Bool
is_outcome (Ok shown) = true
is_outcome (Err (fault.Line n)) = true
is_outcome (Err fault.TooLong) = true
is_outcome (Err (fault.Reach f)) = true
is_outcome (Err _) = false

far_outcome : (m : List Rec) (pl : Places) (o : Option ReachFault) → is_outcome (unless_far profile_limits m pl o) ≡ true
far_outcome m pl None = refl
far_outcome m pl (Some f) = refl

placement_outcome : (m : List Rec) (r : Result Places ℕ) → is_outcome (of_placement profile_limits m r) ≡ true
placement_outcome m (Ok pl) = far_outcome m pl (reach_fault pl m)
placement_outcome m (Err n) = refl

either_outcome : (m : List Rec) (text : List ℕ) (b : Bool) → is_outcome (if b then Err fault.TooLong else of_placement profile_limits m (placement_of m (parsed text))) ≡ true
either_outcome m text true = refl
either_outcome m text false = placement_outcome m (placement_of m (parsed text))

outcome_is : (m : List Rec) (text : List ℕ) → is_outcome (reloc_outcome profile_limits m text) ≡ true
outcome_is m text = either_outcome m text (nat_lt text_limit (length text))

-- an outcome is an answer
outcome_settled : (r : Result (List ℕ) RunFault) → is_outcome r ≡ true → is_settled r ≡ true
outcome_settled (Ok shown) is = refl
outcome_settled (Err (fault.Line n)) is = refl
outcome_settled (Err fault.TooLong) is = refl
outcome_settled (Err (fault.Reach f)) is = refl
outcome_settled (Err (fault.Refused why at)) is = refl
outcome_settled (Err fault.Write) is = refl
outcome_settled (Err fault.Memory) is = is
outcome_settled (Err fault.Read) is = is

outcome_answers : (profile : Profile) (input : List ℕ) (r : Result (List ℕ) RunFault) → is_outcome r ≡ true → HasOutcome profile input r → Answers profile input r
outcome_answers profile input (Ok shown) is has = has
outcome_answers profile input (Err (fault.Line n)) is has = has
outcome_answers profile input (Err fault.TooLong) is has = has
outcome_answers profile input (Err (fault.Reach f)) is has = has
outcome_answers profile input (Err (fault.Refused why at)) is has = absurd cc
outcome_answers profile input (Err fault.Write) is has = absurd cc
outcome_answers profile input (Err fault.Memory) is has = tt
outcome_answers profile input (Err fault.Read) is has = tt

-- there is one outcome
one_outcome : (profile : Profile) (input : List ℕ) (r s : Result (List ℕ) RunFault) → HasOutcome profile input r → HasOutcome profile input s → r ≡ s
one_outcome profile input r s h i =
    let same = accepted_once profile profile_limits input h.records i.records h.accepted i.accepted in
    let both : h.accepted.bytes ++ h.accepted.rest ≡ h.accepted.bytes ++ i.accepted.rest =
    sym h.accepted.spelled ∙ i.accepted.spelled ∙ ap (λ (bytes : List ℕ). bytes ++ i.accepted.rest) (sym same.1) in
    let rest : h.accepted.rest ≡ i.accepted.rest = append_cancel_left h.accepted.bytes h.accepted.rest i.accepted.rest both in
    sym h.is ∙ ap₂ (λ (records : List Raw) (text : List ℕ). reloc_outcome profile_limits (recs records) text) same.0 rest ∙ i.is

-- an accepted input has no other answer
no_other : (profile : Profile) (input : List ℕ) (records : List Raw) (r : Result (List ℕ) RunFault) → IsAccepted profile profile_limits input records → HasOutcome profile input r
    → (s : Result (List ℕ) RunFault) → is_settled s ≡ true → Answers profile input s → s ≡ r
no_other profile input records r a has (Ok shown) settled of = one_outcome profile input (Ok shown) r of has
no_other profile input records r a has (Err (fault.Line n)) settled of = one_outcome profile input (Err (fault.Line n)) r of has
no_other profile input records r a has (Err fault.TooLong) settled of = one_outcome profile input (Err fault.TooLong) r of has
no_other profile input records r a has (Err (fault.Reach f)) settled of = one_outcome profile input (Err (fault.Reach f)) r of has
no_other profile input records r a has (Err (fault.Refused why at)) settled of = absurd (never_both profile profile_limits input records why at a of)
no_other profile input records r a has (Err fault.Write) settled of = absurd of
no_other profile input records r a has (Err fault.Memory) settled of = absurd cc
no_other profile input records r a has (Err fault.Read) settled of = absurd cc

-- a refused input has none but its refusal
no_outcome : (profile : Profile) (input : List ℕ) (why : Reason) (at : Place) (r : Result (List ℕ) RunFault) → IsRefused profile profile_limits input why at → HasOutcome profile input r → ⊥
no_outcome profile input why at r refused has = never_both profile profile_limits input has.records why at has.accepted refused

only_refused : (profile : Profile) (input : List ℕ) (why : Reason) (at : Place) → IsRefused profile profile_limits input why at
    → (s : Result (List ℕ) RunFault) → is_settled s ≡ true → Answers profile input s → s ≡ Err (fault.Refused why at)
only_refused profile input why at refused (Ok shown) settled of = absurd (no_outcome profile input why at (Ok shown) refused of)
only_refused profile input why at refused (Err (fault.Line n)) settled of = absurd (no_outcome profile input why at (Err (fault.Line n)) refused of)
only_refused profile input why at refused (Err fault.TooLong) settled of = absurd (no_outcome profile input why at (Err fault.TooLong) refused of)
only_refused profile input why at refused (Err (fault.Reach f)) settled of = absurd (no_outcome profile input why at (Err (fault.Reach f)) refused of)
only_refused profile input why at refused (Err (fault.Refused other there)) settled of =
    let same = refused_once profile profile_limits input other why there at of refused in
    ap₂ (λ (w : Reason) (p : Place). Err (fault.Refused w p)) same.0 same.1
only_refused profile input why at refused (Err fault.Write) settled of = absurd of
only_refused profile input why at refused (Err fault.Memory) settled of = absurd cc
only_refused profile input why at refused (Err fault.Read) settled of = absurd cc

answer_of : (profile : Profile) (input : List ℕ) → ((records : List Raw) × IsAccepted profile profile_limits input records) ⊎ ((why : Reason) × (at : Place) × IsRefused profile profile_limits input why at)
    → (answer : Result (List ℕ) RunFault) × IsTheAnswer profile input answer
answer_of profile input (inl (records, a)) =
    let r : Result (List ℕ) RunFault = reloc_outcome profile_limits (recs records) a.rest in
    let has : HasOutcome profile input r = record { records = records; accepted = a; is = refl } in
    let is = outcome_is (recs records) a.rest in
    (r, record { settled = outcome_settled r is; answers = outcome_answers profile input r is has; only = no_other profile input records r a has })
answer_of profile input (inr (why, at, refused)) = (Err (fault.Refused why at), record { settled = refl; answers = refused; only = only_refused profile input why at refused })

pub one_answer : InputsHaveOneAnswer
one_answer profile input bytes = answer_of profile input (either profile profile_limits input bytes)
