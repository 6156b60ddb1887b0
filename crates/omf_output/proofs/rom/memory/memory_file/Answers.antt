use Rattle.std.proofs.Common.{◌≡◌, Some, None, sym, subst}
use Rattle.omf_output.specs.Rom.Binary.{Ascend}
use Rattle.omf_output.specs.Rom.Memory.{IsFile, high, low}
use Rattle.omf_output.specs.Inner.Outside.{first_outside, text_of}
use Rattle.omf_output.proofs.MemoryRuns.{ascend, file_is, first_is, fits_in, low_high}
use Rattle.omf_output.proofs.rom.memory.memory_file.Goals as goal

pub returns-in-Some : goal.returns-in-Some
returns-in-Some c =
    let f = c.args.form in
    let l = c.low.ensures in
    let h = c.high.ensures in
    let d = c.deref.ensures.value in
    let o = c.first_outside.ensures in
    let i = c.in-Some.is in
    let found : first_outside (low f) (high f) c.in_ok-runs.runs.items ≡ Some c.in-Some.address = cc in
    first_is f c.args.memory.now c.in_ok-runs.runs.items c.in_ok-runs.ensures.runs c.in-Some.address found

pub write-requires : goal.write-requires
write-requires c =
    let f = c.args.form in
    let l = c.low.ensures in
    let h = c.high.ensures in
    let d = c.deref.ensures.value in
    let o = c.first_outside.ensures in
    let i = c.in_default.is in
    let none : first_outside (low f) (high f) c.in_ok-runs.runs.items ≡ None = cc in
    subst (Ascend (low f) (high f)) (sym c.deref-2.ensures.value) (ascend f c.args.memory.now c.in_ok-runs.runs.items c.in_ok-runs.ensures.runs (low_high f) none)

pub returns : goal.returns
returns c =
    let f = c.args.form in
    let runs = c.in_ok-runs.runs.items in
    let l = c.low.ensures in
    let h = c.high.ensures in
    let d = c.deref.ensures.value in
    let o = c.first_outside.ensures in
    let i = c.in_default.is in
    let none : first_outside (low f) (high f) runs ≡ None = cc in
    let e = c.deref-2.ensures.value in
    let t = c.in_ok-file.ensures in
    let text : text_of f runs ≡ c.in_ok-file.file.items = cc in
    let image = c.args.memory.now in
    let are = c.in_ok-runs.ensures.runs in
    (fits_in f image runs are none, subst (IsFile f image) text (file_is image runs are f c.in_ok-runs.ensures.bytes (ascend f image runs are (low_high f) none)))
