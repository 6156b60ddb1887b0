use Rattle.std.proofs.Common.{◌≡◌, inl, inr, rules, subst, sym}
use Rattle.std.specs.Prelude.{Err, IfErr, List, is_some}
use Rattle.omf_linking.specs.File.{InputFile}
use Rattle.omf_exe.specs.Making.{IsListedMap, IsMapIf, IsNotMade}
use Rattle.omf_exe.specs.Refusing.{IsRefusalFor}
use Rattle.omf_exe.proofs.MakingLaws.{made-of-files, not_made}
use Rattle.omf_exe.proofs.program_files.ProgramFiles.make.Goals as goal

pub returns-in_err-linked-clause-refused : goal.returns-in_err-linked-clause-refused
returns-in_err-linked-clause-refused c =
    let options = c.args.options.now in
    let f = c.in_err-linked.field-0.0 in
    let same : c.from_residual.result ≡ Err f = search rules in
    let own = c.self.inside in
    subst (λ r. IfErr r (IsRefusalFor (IsNotMade options c.args.self))) (sym same)
    (λ e. not_made options c.args.self own.files.items own.ignores_case own.modules c.self.view_is c.self.invariant.0 (inl (c.in_err-linked.ensures.refused e)))

pub returns-in_err-made-clause-refused : goal.returns-in_err-made-clause-refused
returns-in_err-made-clause-refused c =
    let options = c.args.options.now in
    let f = c.in_err-made.field-0.0 in
    let same : c.from_residual-in_err-made.result ≡ Err f = search rules in
    let own = c.self.inside in
    subst (λ r. IfErr r (IsRefusalFor (IsNotMade options c.args.self))) (sym same)
    (λ e. not_made options c.args.self own.files.items own.ignores_case own.modules c.self.view_is c.self.invariant.0
    (inr (c.in_ok-linked.linked, c.in_ok-linked.ensures.completed, c.in_err-made.ensures.refused e)))

pub returns-clause-made : goal.returns-clause-made
returns-clause-made c =
    let options = c.args.options.now in
    let own = c.self.inside in
    let linked = c.in_ok-linked.linked in
    let made = c.in_ok-made.made in
    let map_of = subst (λ (fs : List InputFile). IsMapIf (IsListedMap options.unreached fs linked) options.kind (is_some options.map) made.bytes.items made.map) c.deref.ensures.value c.in_ok-made.ensures.map in
    made-of-files options c.args.self own.files.items own.ignores_case own.modules linked made c.self.view_is c.self.invariant.0 c.self.invariant.1 c.in_ok-linked.ensures.completed
    c.in_ok-made.ensures.made map_of c.in_ok-made.ensures.symbols
