use Rattle.part_lines.proofs.Torn.{invents_nothing, reads_kept, reads_whole}
use Rattle.part_lines.proofs.laws.torn_parts_read_back.Goals as goal

pub returns : goal.returns
returns c = record { whole = reads_whole; kept = reads_kept; torn = invents_nothing }
