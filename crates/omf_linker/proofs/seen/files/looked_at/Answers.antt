use Rattle.omf_linker.proofs.seen.files.looked_at.Goals as goal

pub returns-in-Some : goal.returns-in-Some
returns-in-Some c = rw c.in-Some.is (rw (c.deref.ensures.value) at c.found_at.ensures)
