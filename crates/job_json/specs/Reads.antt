-- What a reader answers: what is wanted, unless memory ran out.
use Rattle.std.specs.Prelude.{◌≡◌, Result, Ok, Err}
use Rattle.job_json.specs.declared.errors.Place.{Place}
use Rattle.job_json.specs.declared.errors.Refused.{Refused}
use Rattle.job_json.specs.declared.errors.Refused.TheVariants.{Bad, Memory}

abbrev pub Refuses : {A : Type 0} → Refused → Result A Place → Type 0
Refuses (Bad place) want = want ≡ Err place
Refuses (Memory e) want = Unit {0}

abbrev pub Reads : {A B : Type 0} → (A → B) → Result A Refused → Result B Place → Type 0
Reads view (Ok x) want = want ≡ Ok (view x)
Reads view (Err e) want = Refuses e want
