-- The asks that a history has of a seat.
use Rattle.std.proofs.Common.{ℕ, ◌≡◌, ◌<◌, ◌⊎◌, inl, inr, List, [], ◌∷◌, length, refl, ap, sym, ◌∙◌, arith}
use Rattle.std.proofs.lemmas.Bool.{cond_both}
use Rattle.std.specs.Prelude.{Bool, not, ◌&&◌, IsSome}
use Rattle.job_language.specs.Brought.{job_of}
use Rattle.job_language.specs.declared.answers.Reply.{Reply}
use Rattle.job_language.specs.declared.answers.Reply.TheVariants as reply
use Rattle.job_language.specs.declared.errors.Error.TheVariants.{BadRequest, HistoryFull, NoMemory}
use Rattle.job_language.specs.declared.requests.Request.{Request}
use Rattle.job_language.specs.declared.requests.Request.TheVariants as request
use Rattle.tenant_model.specs.Asks.{ask, reply_to, is_hello}
use Rattle.tenant_model.specs.Changes.{is_full}
use Rattle.tenant_model.specs.State.{State}
use Rattle.tenant_record.specs.Cell.{CellData, state_of, AnswersAsk}
use Rattle.tenant_record.specs.Replayed.{ask_within}
use Rattle.tenant_record.specs.SeatData.{SeatData, has_seat_room}
use Rattle.std.specs.Prelude.{◌↔◌, ◌==◌, IsTrue, nat_lt, true}
use Rattle.job_language.specs.declared.steps.Entry.{Entry}
use Rattle.tenant_lock.specs.SeatLogs.{asks_on}

-- There are none where no seat is named, or no entry is left.
pub none_left : (number : ℕ) (askers : List ℕ) (history : List Entry) → (length askers < 1) ⊎ (nat_lt (length history) 1 ≡ true) → asks_on number askers history ≡ []
none_left number [] history ends = refl
none_left number (asker ∷ askers) [] ends = refl
none_left number (asker ∷ askers) (e ∷ history) (inl few) = absurd (omega (arith, few))
none_left number (asker ∷ askers) (e ∷ history) (inr few) = absurd (grind (arith, few))

-- The definitions never answer that memory was refused.
never : (s : State) (r : Request) → (reply_to s r).0 ≡ reply.Refused NoMemory → ⊥
never s (request.Hello name) is = let no : reply.Refused BadRequest ≡ reply.Refused NoMemory = is in cc
never s (request.Submit j) is = grind (arith, is)
never s (request.Execute j) is = grind (arith, is)
never s (request.Poll j) is = grind (arith, is)
never s (request.Collect j) is = grind (arith, is)
never s (request.Cancel j) is = grind (arith, is)
never s (request.Cells k) is = grind (arith, is)
never s request.Arena is = grind (arith, is)
never s request.Retire is = grind (arith, is)
never s (request.Release j) is = grind (arith, is)
never s (request.Take j) is = grind (arith, is)

never_asked : (s : State) (r : Request) → (ask s r).0 ≡ reply.Refused NoMemory → ⊥
never_asked s r = cond_both (is_full s && not (is_hello r)) (reply.Refused HistoryFull, s) (reply_to s r) (λ q. q.0 ≡ reply.Refused NoMemory → ⊥)
    (λ _ is. let no : reply.Refused HistoryFull ≡ reply.Refused NoMemory = is in cc) (λ _. never s r)

never_within : (b : Bool) (s : State) (r : Request) → (ask_within b s r).0 ≡ reply.Refused NoMemory → ⊥
never_within b s r = cond_both (not b && not (is_hello r)) (reply.Refused HistoryFull, s) (ask s r) (λ q. q.0 ≡ reply.Refused NoMemory → ⊥)
    (λ _ is. let no : reply.Refused HistoryFull ≡ reply.Refused NoMemory = is in cc) (λ _. never_asked s r)

-- Error 9 comes only to a request that brings a job.
pub memory_of : (c : CellData) (seat : SeatData) (r : Request) (y : Reply) (d : CellData) → AnswersAsk c seat r y d → y ≡ reply.Refused NoMemory → IsSome (job_of r)
memory_of c seat r y d (inl said) is = absurd (never_within (has_seat_room seat) (state_of c) r (sym (ap (λ (q : Reply × State). q.0) said) ∙ is))
memory_of c seat r y d (inr refused) is = refused.2

pub tells_empty : (log : List Entry) → IsTrue (length log == 0) ↔ (log ≡ [])
tells_empty [] = (λ none. refl, λ is. refl)
tells_empty (e ∷ log) = (λ some. absurd (grind (arith, some)), λ is. absurd (let zero : length (e ∷ log) ≡ 0 = ap length is in omega (arith, zero)))
