-- When a tenant's next term is opened, and what is done once though it is looked at often.
use Rattle.std.specs.Prelude.{ℕ, ◌+◌, ◌-◌, ◌&&◌, not, nat_lt, nat_le, Bool, if◌then◌else◌}
use Rattle.term_life.specs.Spans.{capped}
use Rattle.term_life.specs.declared.tending.Beat.{Beat}
use Rattle.term_life.specs.declared.tending.Order.{Order}
use Rattle.term_life.specs.declared.tending.Step.{Step}
use Rattle.term_life.specs.declared.tending.Step.TheVariants.{Refuse, Rest, Hold, Open}
use Rattle.term_life.specs.declared.tending.TheConstants.{MOST_TERMS}
use Rattle.term_life.specs.declared.tending.Tending.{Tending}

abbrev pub configured : Bool → Tending → Tending
configured is_configured t = record t { is_configured = is_configured }

-- May the tenant's next term be opened, if there is room for it?
abbrev pub may_open : (now : ℕ) → Tending → Bool
may_open now t = t.is_configured && not (nat_lt now t.rest)

-- what becomes of the wish for the next term of a tenant that has so many
abbrev pub next_step : (now terms : ℕ) → Tending → Step
next_step now terms t =
    if not t.is_configured then Refuse else
    if nat_lt now t.rest then Rest else
    if nat_le MOST_TERMS terms then Hold (not t.is_held) else Open

-- that the term waits is known from then on, until it is opened
abbrev pub stepped : (now terms : ℕ) → Tending → Tending
stepped now terms t = if may_open now t then record t { is_held = nat_le MOST_TERMS terms } else t

abbrev pub rested : (now length : ℕ) → Tending → Tending
rested now length t = record t { rest = capped (now + length) }

-- What a file asks for is begun once, until the file was seen to be gone.
abbrev pub is_new_order : (is_there : Bool) → Order → Bool
is_new_order is_there o = is_there && not o.is_there

abbrev pub looked_for : (is_there : Bool) → Order → Order
looked_for is_there o = record o { is_there = is_there }

-- So long has passed since it was last done.
abbrev pub is_due : (now : ℕ) → Beat → Bool
is_due now b = nat_le b.every (now - b.last)

abbrev pub seen : (now : ℕ) → Beat → Beat
seen now b = if is_due now b then record b { last = now } else b
