-- The start of a module is the one that its last record names, by the threads in force there.
use Rattle.omf_frame.specs.declared.kinds.Width.{Width}
use Rattle.std.proofs.Common.{◌≡◌, ℕ, List, [], ◌∷◌, ◌++◌, append_assoc, refl, sym, ap, ap₂, subst, ◌∙◌, false}
use Rattle.std.specs.Prelude.{All, flat_map, option_to_list, Option, Some, None, IsSome, unwrap_or}
use Rattle.std.specs.Result.{result_ok}
use Rattle.std.proofs.lemmas.Bool.{true≢false}
use Rattle.std.proofs.lemmas.List.{append-nil}
use Rattle.std.proofs.lemmas.List.Elements.{All-head, All-tail}
use Rattle.std.proofs.lemmas.Option.{same_Some}
use Rattle.omf_frame.specs.Bytes.{last}
use Rattle.omf_image.specs.Limits.{profile_limits}
use Rattle.omf_records.specs.Inner.Seen.{kind_seen, contents_seen, rec_seen}
use Rattle.omf_records.specs.declared.record.Rec.{Rec as CodeRec}
use Rattle.omf_records.specs.declared.record.Rec.TheVariants as code
use Rattle.omf_records.specs.declared.subrecord.Reference.{Reference as Named}
use Rattle.omf_records.specs.Values.{Rec, Contents, Names, Fixups, ModEnd, Subrecord, Reference}
use Rattle.omf_check.specs.Inner.Judging.{frame_cell, target_cell}
use Rattle.omf_check.specs.Sound.{is_module_end, ModuleHolds, ReferenceHolds}
use Rattle.omf_check.specs.Tables.{subrecords}
use Rattle.omf_check.specs.Threads.{PlainReference, frame_of, plain, target_of}
use Rattle.omf_check.specs.declared.method.FrameMethod.TheVariants.{Target as F5}
use Rattle.omf_check.specs.Threads.{T0}
use Rattle.omf_check.specs.declared.threads.Threads.{Threads}
use Rattle.omf_reloc.specs.Image.{start, piece_start}
use Rattle.omf_reloc.specs.Offsets.{start_outcome}
use Rattle.omf_reloc.specs.Inner.Widths.{modend_type}
use Rattle.omf_placement.specs.Placement.{Places}
use Rattle.omf_reloc.specs.Plain.{Piece, piece_of, pieces}
use Rattle.omf_reloc.specs.Inner.Walking.{plain_by}
use Rattle.omf_reloc.proofs.EarlierLaws.{frame-made, target-made}
use Rattle.omf_reloc.proofs.GatherLaws.{pieces_from, subrecords-more}
use Rattle.omf_reloc.proofs.WalkLaws.{last-end}

abbrev IsNoEnd : Rec → Type 0
IsNoEnd r = is_module_end r.contents ≡ false

-- The pieces with one more record at the end.
pieces-behind : (before front : List Rec) (r : Rec) → pieces_from before (front ++ r ∷ []) ≡ pieces_from before front ++ piece_of (subrecords (before ++ front)) r.kind r.contents ∷ []
pieces-behind before [] r = ap (λ b. piece_of (subrecords b) r.kind r.contents ∷ []) (sym (append-nil before))
pieces-behind before (x ∷ front) r =
    let p = piece_of (subrecords before) x.kind x.contents in
    ap (λ ps. p ∷ ps) (pieces-behind (before ++ x ∷ []) front r)
    ∙ ap (λ b. p ∷ (pieces_from (before ++ x ∷ []) front ++ piece_of (subrecords b) r.kind r.contents ∷ [])) (append_assoc before (x ∷ []) front)

-- A record that is not a MODEND names no start.
no-start : (pl : Places) (earlier : List Subrecord) (kind : ℕ) (c : Contents) → is_module_end c ≡ false → piece_start pl (piece_of earlier kind c) ≡ []
no-start pl earlier kind (Fixups subs) e = refl
no-start pl earlier kind (ModEnd byte s) e = absurd (true≢false e)
no-start pl earlier kind (Names items) e = refl
no-start pl earlier kind _ e = refl

starts-behind : (pl : Places) (before front : List Rec) (p : Piece) → All IsNoEnd front → flat_map (piece_start pl) (pieces_from before front ++ p ∷ []) ≡ piece_start pl p ++ []
starts-behind pl before [] p h = refl
starts-behind pl before (x ∷ front) p h =
    ap (λ xs. xs ++ flat_map (piece_start pl) (pieces_from (before ++ x ∷ []) front ++ p ∷ [])) (no-start pl (subrecords before) x.kind x.contents (All-head IsNoEnd x front h))
    ∙ starts-behind pl (before ++ x ∷ []) front p (All-tail IsNoEnd x front h)

-- A module, and its last record.
module _ (m : List Rec) (holds : ModuleHolds profile_limits m) (r : Rec) (is : Some r ≡ last m) where
  abbrev front : List Rec
  front = holds.ends.0

  parts : m ≡ front ++ r ∷ []
  parts =
      let (before, end, e, t, others) = holds.ends in
      e ∙ ap (λ x. before ++ x ∷ []) (sym (same_Some r end (is ∙ ap last e ∙ last-end None before end)))

  -- its piece is the last one
  last-piece : pieces m ≡ pieces_from [] front ++ piece_of (subrecords front) r.kind r.contents ∷ []
  last-piece = ap pieces parts ∙ pieces-behind [] front r

  pub start-is : (pl : Places) → start pl m ≡ last (piece_start pl (piece_of (subrecords front) r.kind r.contents) ++ [])
  start-is pl =
      let (before, end, e, t, others) = holds.ends in
      ap (λ ps. last (flat_map (piece_start pl) ps)) last-piece ∙ ap last (starts-behind pl [] before (piece_of (subrecords before) r.kind r.contents) others)

-- The last record as it is seen.
pub seen-end : (m : List Rec) (r : CodeRec) (wide : Width) (byte : ℕ) (s : Option Named) (named : Option Reference) → r ≡ code.ModEnd wide byte s → s ≡ named → Some (rec_seen r) ≡ last m
    → Some (record { kind = modend_type wide; contents = ModEnd byte named }) ≡ last m
seen-end m r wide byte s named e f l = ap (λ x. Some (rec_seen (code.ModEnd wide byte x))) (sym f) ∙ ap (λ x. Some (rec_seen x)) (sym e) ∙ l

no-end : (r : CodeRec) → ((wide : Width) (byte : ℕ) (s : Option Named) → r ≡ code.ModEnd wide byte s → ⊥) → is_module_end (contents_seen r) ≡ false
no-end (code.ModEnd wide byte s) h = absurd (h wide byte s refl)
no-end (code.Names items) h = refl
no-end _ h = refl

-- The last of at most one.
one-last : (o : Option (ℕ × ℕ)) → last (option_to_list o ++ []) ≡ o
one-last None = refl
one-last (Some x) = refl

-- It names no start.
module _ (pl : Places) (m : List Rec) (holds : ModuleHolds profile_limits m) where
  pub none-here : (r : CodeRec) → Some (rec_seen r) ≡ last m → ((wide : Width) (byte : ℕ) (s : Option Named) → r ≡ code.ModEnd wide byte s → ⊥) → None ≡ start pl m
  none-here r is h = sym (start-is m holds (rec_seen r) is pl ∙ ap (λ xs. last (xs ++ [])) (no-start pl (subrecords (front m holds (rec_seen r) is)) (kind_seen r) (contents_seen r) (no-end r h)))

  pub none-named : (kind byte : ℕ) → Some (record { kind = kind; contents = ModEnd byte None }) ≡ last m → None ≡ start pl m
  none-named kind byte is = sym (start-is m holds (record { kind = kind; contents = ModEnd byte None }) is pl)

-- It names one.
module _ (pl : Places) (m : List Rec) (holds : ModuleHolds profile_limits m) (kind byte : ℕ) (r : Reference)
    (is : Some (record { kind = kind; contents = ModEnd byte (Some r) }) ≡ last m) where
  abbrev end : Rec
  end = record { kind = kind; contents = ModEnd byte (Some r) }

  abbrev before : List Rec
  before = front m holds end is

  found : ReferenceHolds before (subrecords before) r
  found = (holds.each before [] end (parts m holds end is)).reference

  same-subs : subrecords m ≡ subrecords before
  same-subs = ap subrecords (parts m holds end is) ∙ subrecords-more before end ∙ append-nil (subrecords before)

  module _ (threads : Threads) (f : frame_cell threads r ≡ frame_of (subrecords m) r) (t : target_cell threads r ≡ target_of (subrecords m) r) where
    frame-is : frame_cell threads r ≡ frame_of (subrecords before) r
    frame-is = f ∙ ap (λ s. frame_of s r) same-subs

    target-is : target_cell threads r ≡ target_of (subrecords before) r
    target-is = t ∙ ap (λ s. target_of s r) same-subs

    pub frame-set : IsSome (frame_cell threads r)
    frame-set = subst (λ o. IsSome o) (sym frame-is) (frame-made (subrecords before) r found.frame_set)

    pub target-set : IsSome (target_cell threads r)
    target-set = subst (λ o. IsSome o) (sym target-is) (target-made (subrecords before) r found.target_set)

    plain-is : plain_by threads r ≡ plain (subrecords before) r
    plain-is =
        ap₂ (λ f t. let x : PlainReference = record { frame = unwrap_or f F5; target = unwrap_or t (T0 0); displacement = unwrap_or r.displacement 0 } in x) frame-is target-is

    pub start-found : result_ok (start_outcome pl kind (plain_by threads r)) ≡ start pl m
    start-found = ap (λ q. result_ok (start_outcome pl kind q)) plain-is ∙ sym (one-last (result_ok (start_outcome pl kind (plain (subrecords before) r)))) ∙ sym (start-is m holds end is pl)
