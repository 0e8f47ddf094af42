use Rattle.arena_compile.proofs.jobs.error_of.Goals as goal

pub returns-in-Ok : goal.returns-in-Ok
returns-in-Ok c = λ gs functions said no.
    let count = rw c.in-Count.is at no in
    record { functions = functions; said = said; begins = c.in-Ok.ensures; count = count }

pub returns-in-Ok-function_place : goal.returns-in-Ok-function_place
returns-in-Ok-function_place c = λ gs functions said no.
    let refused = rw c.in-Refused.is at no in
    c.fault_of.ensures gs c.args.text.now (record { functions = functions; said = said; begins = c.in-Ok-function_place.ensures; has = refused })

pub returns-in-Ok-function_place-2 : goal.returns-in-Ok-function_place-2
returns-in-Ok-function_place-2 c = λ gs functions said no.
    let unknown = rw c.in-NoProcedure.is at no in
    record { functions = functions; said = said; number = c.in-NoProcedure.number; begins = c.in-Ok-function_place-2.ensures; has = unknown }
