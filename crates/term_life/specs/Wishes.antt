-- The wish for a tenant's next term, and waiting for it.
use Rattle.std.specs.Prelude.{ℕ, ◌-◌, ◌==◌, ◌&&◌, ◌||◌, not, Bool, true, false, Option, Some, None, if◌then◌else◌}
use Rattle.term_life.specs.declared.terms.Why.{Why}
use Rattle.term_life.specs.declared.terms.Why.TheVariants.{Stop}
use Rattle.term_life.specs.declared.wishes.Awaited.{Awaited}
use Rattle.term_life.specs.declared.wishes.Awaited.TheVariants.{Came, Not, Later}
use Rattle.term_life.specs.declared.wishes.Waiting.{Waiting}
use Rattle.term_life.specs.declared.wishes.Wishes.{Wishes}

-- the reason that was given first
abbrev pub kept_wish : Why → Option Why → Option Why
kept_wish why None = Some why
kept_wish why (Some first) = Some first

abbrev pub refused : Wishes → Wishes
refused w = record w { is_refused = true }

abbrev pub asked : Wishes → Wishes
asked w = record w { is_refused = false }

abbrev pub held : Wishes → Wishes
held w = record w { is_held = true }

-- Nothing is wished for, and nothing stands against the term after the one that begins.
abbrev pub begun : Wishes → Wishes
begun w = record w { wish = None; is_refused = false; is_held = false }

abbrev pub is_stop : Why → Bool
is_stop Stop = true
is_stop why = false

abbrev pub is_coming : Wishes → Bool
is_coming w = not w.is_refused && not w.is_stopped

-- Nobody waits for a term that does not come, nor, beyond so many looks, for one that waits until an older one is closed.
abbrev pub awaited : Wishes → (has_come is_stopping : Bool) → Waiting → Awaited
awaited w has_come is_stopping waiting =
    if has_come then Came else
    if not (is_coming w) || is_stopping || (w.is_held && (waiting.left == 0)) then Not else Later

abbrev pub waited : Wishes → Waiting → Waiting
waited w waiting = if w.is_held then record waiting { left = waiting.left - 1 } else waiting
