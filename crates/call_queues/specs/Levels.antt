-- A level and its passes, as contracts see them.
use Rattle.std.specs.Prelude.{ℕ, List, [], ◌∷◌}
use Rattle.atomic_table.specs.Seated.{TableId}
use Rattle.call_queues.specs.declared.marks.Marked.{Marked}
use Rattle.call_queues.specs.declared.marks.PassLog.{PassLog}
use Rattle.call_queues.specs.declared.marks.QueueView.{QueueView}
use Rattle.call_queues.specs.declared.marks.QueueView.TheVariants.{Owner, Keeper, Spent}
use Rattle.call_queues.specs.Order.{no_log}

-- which queue, which number, how many passes there are (the first pass knows it), and what was pushed and popped
pub record LevelPassSeen : Type 0 where
  pub queue : TableId
  pub number : ℕ
  pub made : ℕ
  pub log : PassLog

-- which queue, and how many calls it holds at most
pub record LevelQueueSeen : Type 0 where
  pub queue : TableId
  pub room : ℕ

-- which queue, how many passes were made, and what those that came back pushed and popped, by number
pub record LevelReturnsSeen : Type 0 where
  pub queue : TableId
  pub made : ℕ
  pub back : List PassLog

abbrev pub first_log : List PassLog → PassLog
first_log [] = no_log
first_log (h ∷ known) = h

abbrev pub log_in : QueueView → PassLog
log_in (Owner p h) = h
log_in (Keeper made known out) = first_log known
log_in Spent = no_log

abbrev pub made_in : QueueView → ℕ
made_in (Owner p h) = 0
made_in (Keeper made known out) = made
made_in Spent = 0

abbrev pub back_in : QueueView → List PassLog
back_in (Owner p h) = []
back_in (Keeper made known out) = known
back_in Spent = []

abbrev pub taken_in : QueueView → List Marked
taken_in (Owner p h) = []
taken_in (Keeper made known out) = out
taken_in Spent = []
