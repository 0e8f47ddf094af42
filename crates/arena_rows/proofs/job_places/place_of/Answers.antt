use Rattle.std.proofs.Common.{◌≡◌, nat_lt, Some, sym, rules}
use Rattle.std.proofs.lemmas.Fn.{always_returns_same}
use Rattle.arena_rows.specs.declared.rows.CurrentJob.{CurrentJob}
use Rattle.arena_rows.proofs.JobPlaces.{place-at, place-between, smaller-first}
use Rattle.arena_rows.proofs.job_places.place_of.Goals as goal

pub returns-in-Some : goal.returns-in-Some
returns-in-Some c = λ rise.
    let found = c.in-Some.is in
    sym (place-at c.args.jobs.now c.args.number c.in-Some.place rise (rw found at c.place_from_last.ensures.within) (rw found at c.place_from_last.ensures.there))

pub returns-in-None : goal.returns-in-None
returns-in-None c = λ rise.
    let computes = always_returns_same _ _ _ (λ x r f' k. search rules) in
    let part = c.partition_point.ensures.partitioned (λ (it : CurrentJob). nat_lt it.number c.args.number) computes (smaller-first c.args.jobs.now c.args.number rise) in
    sym (place-between c.args.jobs.now c.args.number c.partition_point.result c.partition_point.ensures.bound part.0 part.1)
