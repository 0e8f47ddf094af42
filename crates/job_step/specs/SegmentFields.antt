-- What the fields of a segment say.
use Rattle.std.specs.Prelude.{◌≡◌, ◌<◌, false}
use Rattle.job_language.specs.declared.instructions.Instr.{Instr}
use Rattle.job_language.specs.Program.{is_last}
use Rattle.job_step.specs.declared.frames.TheConstants.{LAST_PLACE}
use Rattle.job_step.specs.declared.runs.Stop.TheVariants.{Shared}
use Rattle.job_step.specs.declared.segments.Segment.TheInside.{Inside}
use Rattle.job_step.specs.Segment.{run_of_top}

pub record IsSegment (s : Inside) : Type 0 where
  pub run : record { start = s.top.frame; end = s.end; count = s.count; stop = s.stop } ≡ run_of_top s.top
  -- An instruction follows a shared one that may not be the last.
  pub next : (i : Instr) → s.stop ≡ Shared i → is_last i ≡ false → s.end.place < LAST_PLACE
