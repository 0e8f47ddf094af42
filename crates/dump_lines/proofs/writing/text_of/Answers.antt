use Rattle.std.proofs.Common.{◌∙◌, string_bytes}
use Rattle.dump_lines.proofs.RoundTrip.{text_reads}
use Rattle.dump_lines.proofs.writing.text_of.Goals as goal

pub returns-clause-read : goal.returns-clause-read
returns-clause-read c = text_reads (string_bytes c.in_ok-text.text) c.as_bytes.result.now _ (c.as_bytes.ensures.value ∙ c.as_str.ensures.value) c.as_bytes.ensures.utf8
    (c.in_ok-text.ensures.reads_back c.requires.depth)
