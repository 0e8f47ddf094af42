-- What a window over a reader's bytes shows: the line that was cut off last, and the bytes after it.
use Rattle.std.specs.Prelude.{ℕ, ◌≤◌, List, vec_len, slice_range}
use Rattle.request_reader.specs.declared.windows.Window.TheInside.{Inside}

pub record Buffered : Type 0 where
  pub size : ℕ
  pub line : List ℕ
  pub held : List ℕ

abbrev pub buffered : Inside → Buffered
buffered w = record { size = vec_len w.bytes; line = slice_range w.bytes.items w.line_start w.line_end; held = slice_range w.bytes.items w.start w.end }

-- The parts lie in this order.
pub record IsOrdered (w : Inside) : Type 0 where
  pub line : w.line_start ≤ w.line_end
  pub before : w.line_end ≤ w.start
  pub held : w.start ≤ w.end
  pub within : w.end ≤ vec_len w.bytes
