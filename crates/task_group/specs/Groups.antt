-- The task groups of one frame.
use Rattle.std.specs.Prelude.{ℕ, ℤ, pos, Bool, false, List, replicate, slice_index_or}

-- A group: how many of its members are pending, the wrapping sum of the values of those that are done, and whether it has a member. Its members are the rows that joined it since its last passed wait.
pub record Group : Type 0 where
  pub pending : ℕ
  pub total : ℤ
  pub is_used : Bool

abbrev pub unused : Group
unused = record { pending = 0; total = pos 0; is_used = false }

abbrev pub no_members : List Group
no_members = replicate 4 unused

-- the group of a number, counted from 0
abbrev pub group : List Group → ℕ → Group
group groups g = slice_index_or groups g unused
