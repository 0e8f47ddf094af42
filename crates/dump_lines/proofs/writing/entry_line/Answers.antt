use Rattle.dump_lines.proofs.Plain.{entry_writable}
use Rattle.dump_lines.proofs.writing.entry_line.Goals as goal

pub text_of-requires-clause-whole : goal.text_of-requires-clause-whole
text_of-requires-clause-whole c = (entry_writable _ _ _ c.in-Some.is c.in_ok-value.ensures.value).0

pub text_of-requires-clause-depth : goal.text_of-requires-clause-depth
text_of-requires-clause-depth c = (entry_writable _ _ _ c.in-Some.is c.in_ok-value.ensures.value).1
