use Rattle.std.proofs.Common.{rules}
use Rattle.journal_text.proofs.TextLaws.{neither}
use Rattle.journal_text.proofs.entries.put_list_and_bytes.Goals as goal

pub returns-in-empty-empty : goal.returns-in-empty-empty
returns-in-empty-empty c = rw (neither c.args.list.now c.args.bytes.now (search rules) (search rules)) c.put_text.ensures
