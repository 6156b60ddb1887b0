-- The type bytes of records by their contents.
use Rattle.std.proofs.Common.{◌≡◌, ℕ, ◌⊎◌, inl, inr, Bool, true, false, List, [], ◌∷◌, Option, Some, None, refl, sym, subst, ◌∙◌}
use Rattle.omf_frame.specs.Bytes.{is_one_of}
use Rattle.omf_frame.specs.Types.{row, type_of}
use Rattle.omf_frame.specs.declared.kinds.RecordType.{RecordType}
use Rattle.omf_frame.specs.declared.kinds.RecordType.TheVariants.{Theadr, Lheadr, Coment, Lnames, Llnames, Segdef, Grpdef, Extdef, Lextdef, Pubdef, Lpubdef, Comdef, Lcomdef, Ledata, Lidata, Fixupp, Modend, Typdef, Linnum, Linsym, Alias, Vernum, Bakpat, Cextdef, Comdat, Nbkpat, Vendext, Library}
use Rattle.omf_records.specs.Inner.Names.{communals, externs, fixups, names}
use Rattle.omf_records.specs.Values.{Contents, Plain, Iterated, is_wide}
use Rattle.omf_records.specs.Layout.{Layout, called}
use Rattle.omf_records.specs.Records.{contents, header, comment, segment, group, publics, data_item, mod_end, carried, layout_of, layout_if}
use Rattle.omf_records.proofs.TypeBytes.{type_holds, one_of_two}
use Rattle.std.proofs.lemmas.Bool.{eqb-true, or_cases}
use Rattle.std.specs.Prelude.{◌==◌}
use Rattle.omf_check.specs.Inner.Known.{HasType}

only : (a kind : ℕ) → is_one_of (a ∷ []) kind ≡ true → kind ≡ a
only a kind e = elim (or_cases (a == kind) false e) [ inl q ↦ sym (eqb-true a kind q) | inr z ↦ absurd cc ]

module _ (kind : ℕ) where
  abbrev Types : Layout Contents → Type 0
  Types p = (at : ℕ) (bytes : List ℕ) (c : Contents) → p.Spells at bytes c → HasType kind c

  -- this is one of the type bytes of a record type
  abbrev Is : RecordType → Type 0
  Is t = is_one_of (row t).bytes kind ≡ true

  by : (c d : Contents) → c ≡ d → HasType kind d → HasType kind c
  by c d e h = subst (HasType kind) (sym e) h

  of_header : Types header
  of_header at bytes c (f, b, x, p, s, (none, e)) = by c _ e tt

  of_comment : Is Coment → Types comment
  of_comment is at bytes c (f, b, x, p, s, (g, d, y, q, t, (z, u, e))) = by c _ e is

  of_names : Is Lnames ⊎ Is Llnames → Types names
  of_names is at bytes c (x, s, e) = by c _ e is

  of_segment : Is Segdef → Types (segment (is_wide kind))
  of_segment is at bytes c (f1, b1, x1, p1, s1, (f2, b2, x2, p2, s2, (f3, b3, x3, p3, s3, (f4, b4, x4, p4, s4, (f5, b5, x5, p5, s5, (f6, b6, x6, p6, s6, (none, e))))))) = by c _ e is

  of_group : Is Grpdef → Types group
  of_group is at bytes c (f, b, x, p, s, (y, t, e)) = by c _ e is

  of_externs : Is Extdef ⊎ Is Lextdef → Types externs
  of_externs is at bytes c (x, s, e) = by c _ e is

  of_publics : Is Pubdef ⊎ Is Lpubdef → Types (publics (is_wide kind))
  of_publics is at bytes c (f1, b1, x1, p1, s1, (f2, b2, x2, p2, s2, (f3, b3, x3, p3, s3, (y, t, e)))) = by c _ e is

  of_communals : Is Comdef ⊎ Is Lcomdef → Types communals
  of_communals is at bytes c (x, s, e) = by c _ e is

  of_plain : Is Ledata → Types (called (data_item (is_wide kind)) Plain)
  of_plain is at bytes c (d, s, e) = by c _ e is

  of_iterated : Is Lidata → Types (called (data_item (is_wide kind)) Iterated)
  of_iterated is at bytes c (d, s, e) = by c _ e is

  of_fixups : Is Fixupp → Types (fixups (is_wide kind))
  of_fixups is at bytes c (x, s, e) = by c _ e is

  of_end : Is Modend → Types (mod_end (is_wide kind))
  of_end is at bytes c (f1, b1, x1, p1, s1, (f2, b2, x2, p2, s2, (none, e))) = by c _ e is

  of_carried : Types carried
  of_carried at bytes c (x, s, e) = by c _ e tt

  by_type : (t : RecordType) → type_of kind ≡ Some t → Types (layout_of t (is_wide kind))
  by_type Theadr e = of_header
  by_type Lheadr e = of_header
  by_type Coment e = of_comment (type_holds kind Coment e)
  by_type Lnames e = of_names (inl (type_holds kind Lnames e))
  by_type Llnames e = of_names (inr (type_holds kind Llnames e))
  by_type Segdef e = of_segment (type_holds kind Segdef e)
  by_type Grpdef e = of_group (type_holds kind Grpdef e)
  by_type Extdef e = of_externs (inl (type_holds kind Extdef e))
  by_type Lextdef e = of_externs (inr (type_holds kind Lextdef e))
  by_type Pubdef e = of_publics (inl (type_holds kind Pubdef e))
  by_type Lpubdef e = of_publics (inr (type_holds kind Lpubdef e))
  by_type Comdef e = of_communals (inl (type_holds kind Comdef e))
  by_type Lcomdef e = of_communals (inr (type_holds kind Lcomdef e))
  by_type Ledata e = of_plain (type_holds kind Ledata e)
  by_type Lidata e = of_iterated (type_holds kind Lidata e)
  by_type Fixupp e = of_fixups (type_holds kind Fixupp e)
  by_type Modend e = of_end (type_holds kind Modend e)
  by_type Typdef e = of_carried
  by_type Linnum e = of_carried
  by_type Linsym e = of_carried
  by_type Alias e = of_carried
  by_type Vernum e = of_carried
  by_type Bakpat e = of_carried
  by_type Cextdef e = of_carried
  by_type Comdat e = of_carried
  by_type Nbkpat e = of_carried
  by_type Vendext e = of_carried
  by_type Library e = of_carried

  by_option : (o : Option RecordType) → type_of kind ≡ o → Types (layout_if o (is_wide kind))
  by_option (Some t) e = by_type t e
  by_option None e = of_carried

  pub has-type : Types (contents kind)
  has-type = by_option (type_of kind) refl

clash : true ≡ false → ⊥
clash e = cc

-- A byte that a test refuses is not one of the type bytes that the test takes.
pub never : (a kind : ℕ) (test : ℕ → Bool) → test a ≡ true → test kind ≡ false → is_one_of (a ∷ []) kind ≡ true → ⊥
never a kind test x other is = clash (sym (subst (λ k. test k ≡ true) (sym (only a kind is)) x) ∙ other)

pub never-one : (a b kind : ℕ) (test : ℕ → Bool) → test a ≡ true → test b ≡ true → test kind ≡ false → is_one_of (a ∷ b ∷ []) kind ≡ true → ⊥
never-one a b kind test x y other is = elim (one_of_two a b kind is) [
  | inl e ↦ clash (sym (subst (λ k. test k ≡ true) (sym e) x) ∙ other)
  | inr e ↦ clash (sym (subst (λ k. test k ≡ true) (sym e) y) ∙ other)
]

-- What holds of two bytes holds of each that is one of them.
pub one-same : (a b kind : ℕ) (P : ℕ → Type 0) → P a → P b → is_one_of (a ∷ b ∷ []) kind ≡ true → P kind
one-same a b kind P x y is = elim (one_of_two a b kind is) [ inl e ↦ subst P (sym e) x | inr e ↦ subst P (sym e) y ]
