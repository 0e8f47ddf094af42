-- How far a reader of lines is, and what it tells.
use Rattle.std.specs.Prelude.{◌≡◌, ℕ, ◌+◌, ◌*◌, ◌≤◌, List, [], ◌∷◌, ◌++◌, length, Bool, true, false, ◌||◌, nat_lt, if◌then◌else◌, Option}
use Rattle.std.specs.Io.BufRead.{drop_through}
use Rattle.std.specs.Io.KnownBytes.{Consumes, IsAtEnd}
use Rattle.request_reader.specs.declared.lines.TheConstants.{BLOCK}
use Rattle.request_reader.specs.Lines.{newline, HasNoNewline, Line, too_long, lines_of}

pub record Reading : Type 0 where
  -- how many bytes a line may have
  pub limit : ℕ
  -- the line that was reported last
  pub line : List ℕ
  -- the bytes that came and belong to no line reported so far
  pub held : List ℕ
  -- whether they are within a line that is too long, whose first bytes are dropped
  pub is_within_long : Bool
  -- whether the reader of bytes has said that it has no more
  pub is_ended : Bool
  -- how often the reader of bytes may still be called
  pub turns : ℕ

-- whether a line is too long that has that number of the bytes held
abbrev pub is_long : Reading → ℕ → Bool
is_long r len = r.is_within_long || nat_lt r.limit len

-- the lines of these bytes; within a line that is too long, those up to its newline are the rest of it
abbrev pub lines_from : (limit : ℕ) → (is_within_long : Bool) → List ℕ → List Line
lines_from limit false bytes = lines_of limit bytes
lines_from limit true bytes = too_long ∷ lines_of limit (drop_through newline bytes)

-- the lines that are not told yet, if these bytes are still to come
abbrev pub lines_left : Reading → List ℕ → List Line
lines_left r bytes = lines_from r.limit r.is_within_long (r.held ++ (if r.is_ended then [] else bytes))

-- These bytes come, these lines are reported: whatever comes next, the first of those left; the rest remain.
pub record Tells (old new : Reading) (came : List ℕ) (told : List Line) : Type 0 where
  pub limit : new.limit ≡ old.limit
  pub ended : old.is_ended ≡ true → (came ≡ []) × (new.is_ended ≡ true)
  pub lines : (more : List ℕ) → (new.is_ended ≡ true → more ≡ []) → lines_left old (came ++ more) ≡ told ++ lines_left new more

-- The same of a reader of bytes, whose known bytes are those before and those after.
pub record Reads (old new : Reading) (before after : Option (List ℕ)) (told : List Line) : Type 0 where
  pub came : List ℕ
  pub consumed : Consumes before after came
  pub tells : Tells old new came told
  pub turns : new.turns ≤ old.turns
  pub end : (old.is_ended ≡ true → IsAtEnd before) → new.is_ended ≡ true → IsAtEnd after

-- no whole line is held, and none was reported last
pub record IsPending (r : Reading) : Type 0 where
  pub not_ended : r.is_ended ≡ false
  pub held : HasNoNewline r.held
  pub short : length r.held ≤ r.limit
  pub line : r.line ≡ []

-- Neither a whole line nor the end can be told before more bytes are read.
pub record NeedsBytes (r : Reading) : Type 0 where
  pub not_ended : r.is_ended ≡ false
  pub held : HasNoNewline r.held

-- The work left: what is held, and for each call left as much as has room. Each line reported lowers it.
abbrev pub work_left : Reading → ℕ
work_left r = r.turns * (r.limit + BLOCK + 1) + length r.held

-- every line is reported
pub record IsDone (r : Reading) : Type 0 where
  pub ended : r.is_ended ≡ true
  pub held : r.held ≡ []
  pub not_within : r.is_within_long ≡ false
  pub line : r.line ≡ []
