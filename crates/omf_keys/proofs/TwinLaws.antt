-- Members of modules with equal keys.
use Rattle.std.proofs.Common.{◌≡◌, ℕ, ◌+◌, List, [], ◌∷◌, refl, sym, ◌∙◌, ap}
use Rattle.std.specs.List.{AllZip}
use Rattle.omf_frame.specs.Bytes.{last}
use Rattle.omf_records.specs.Values.{Rec}
use Rattle.omf_image.specs.Limits.{profile_limits}
use Rattle.omf_check.specs.Laws.{ModulesHold}
use Rattle.omf_check.specs.Module.{Module, recs_of, records_in}
use Rattle.omf_placement.specs.Placement.{Places}
use Rattle.omf_output.specs.Exe.Linked.{is_main, is_main_end}
use Rattle.omf_output.specs.Exe.Moved.{Movers}
use Rattle.omf_keys.specs.Keys.{HaveOneKey, HaveEqualKeys, IsAcceptedModule, main_pieces}
use Rattle.omf_keys.specs.Laws.{PiecesByKeys, MeaningsByKeys}
use Rattle.omf_keys.specs.Programs.{members_at, AreOneProgram}
use Rattle.omf_keys.proofs.ComLaws.{com-told}
use Rattle.omf_keys.proofs.EndLaws.{EndsIn, last-is, main-same}
use Rattle.omf_keys.proofs.MemberLaws.{AreTwins, AreTwinMembers, same-all-portions, same-linked, same-loaded, exe-told}
use Rattle.omf_keys.proofs.WalkLaws.{none-told}

module _ (pieces : PiecesByKeys) (meanings : MeaningsByKeys) (hold : ModulesHold) where
  ends : (m : Module) → IsAcceptedModule m → EndsIn (recs_of m.bytes)
  ends m a = (hold m.profile profile_limits m.bytes (records_in m.bytes) a).ends

  main-by : (m n : List Rec) → EndsIn m → EndsIn n → main_pieces m ≡ main_pieces n → is_main (last m) ≡ is_main (last n)
  main-by m n e f h = ap is_main (last-is m e) ∙ main-same is_main_end (λ byte start. refl) m n e f h ∙ sym (ap is_main (last-is n f))

  twins : (m n : Module) → HaveOneKey m n → AreTwins m.bytes n.bytes
  twins m n h = record {
    alike = (pieces m n h).bare;
    mains = (pieces m n h).mains;
    means = meanings m n h;
    main = main-by (recs_of m.bytes) (recs_of n.bytes) (ends m h.first) (ends n h.second) (pieces m n h).mains;
  }

  pub twin-members : (j : ℕ) (ms ns : List Module) (pls : List Places) (mvs : List Movers) → HaveEqualKeys ms ns → AllZip AreTwinMembers (members_at j ms pls mvs) (members_at j ns pls mvs)
  twin-members j [] [] pls mvs h = tt
  twin-members j [] (n ∷ ns) pls mvs h = absurd h
  twin-members j (m ∷ ms) [] pls mvs h = absurd h
  twin-members j (m ∷ ms) (n ∷ ns) [] mvs h = tt
  twin-members j (m ∷ ms) (n ∷ ns) (pl ∷ pls) [] h = tt
  twin-members j (m ∷ ms) (n ∷ ns) (pl ∷ pls) (mv ∷ mvs) h = (record { rest = refl; twins = twins m n h.0 }, twin-members (j + 1) ms ns pls mvs h.1)

  pub one-program : (j : ℕ) (ms ns : List Module) (pls : List Places) (mvs : List Movers) → HaveEqualKeys ms ns → AreOneProgram (members_at j ms pls mvs) (members_at j ns pls mvs)
  one-program j ms ns pls mvs h =
      let xs = members_at j ms pls mvs in
      let ys = members_at j ns pls mvs in
      let all = twin-members j ms ns pls mvs h in
      record {
        linked = same-linked xs ys all;
        at = λ k. same-loaded k xs ys all;
        portions = same-all-portions xs ys all;
        exe = (none-told _ _ (exe-told xs ys all), none-told _ _ (sym (exe-told xs ys all)));
        flat = (none-told _ _ (com-told xs ys all), none-told _ _ (sym (com-told xs ys all)));
      }
