-- What became of a term's history, and which term is done with.
use Rattle.std.specs.Prelude.{Bool, true, false, if◌then◌else◌}
use Rattle.host_filing.specs.declared.fates.Filed.{Filed}
use Rattle.host_filing.specs.declared.fates.Fate.{Fate}
use Rattle.host_filing.specs.declared.fates.Fate.TheVariants.{Journaled, Lost}
use Rattle.host_records.specs.declared.term_ends.TermEnd.{TermEnd}
use Rattle.host_filing.specs.declared.writing.UnfiledTerm.{UnfiledTerm}

abbrev pub is_lost : Fate → Bool
is_lost Lost = true
is_lost fate = false

-- what becomes of a history that can't be written to its file
abbrev pub unwritten : TermEnd → Fate
unwritten e = if e.is_journaled then Journaled else Lost

-- a term whose files were to be written, as one that is done with
abbrev pub filed : UnfiledTerm → Filed
filed u = record { tenant = u.tenant; term = u.end.span.number }
