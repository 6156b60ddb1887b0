use Rattle.omf_linker.proofs.link.running.draft_shown.Goals as goal

pub returns-in-Ok : goal.returns-in-Ok
returns-in-Ok c = rw c.into_bytes.ensures.value (record {
  text_is = c.in-Ok.ensures.text;
  read = c.in-Ok.ensures.read;
})

pub returns-in-Err-NoRoom : goal.returns-in-Err-NoRoom
returns-in-Err-NoRoom c = rw c.in-Err-NoRoom.field-0-is at c.in-Err-NoRoom.ensures.text
