-- Entries whose replies have numbers of the machine.
use Rattle.std.specs.Prelude.{◌≡◌, true, All}
use Rattle.egl_calls.specs.declared.entries.Entry.{Entry}
use Rattle.journal_text.specs.Written.{IsByte, IsLong, is_told}

-- an outcome that a call leaves in a journal, numbers of 64 bits, and bytes
pub record HasSizedReply (e : Entry) : Type 0 where
  pub outcome : is_told e.reply.outcome ≡ true
  pub value : IsLong e.reply.value
  pub list : All IsLong e.reply.list
  pub bytes : All IsByte e.reply.bytes
