-- Arrays as lists, and how many members an object has.
use Rattle.std.proofs.Common.{◌≡◌, List, [], ◌∷◌, length, suc, refl, ap}
use Rattle.std.specs.Prelude.{String}
use Rattle.std.specs.declared.alloc.Global.{Global}
use Rattle.serde_json.specs.Data.{Data}
use Rattle.serde_json.specs.Events.{members_len}
use Rattle.serde_json.specs.View.{items_of, members_of}
use Rattle.job_json.specs.Json.{list_of}

pub list_of-items_of : (ds : List Data) → list_of (items_of ds) ≡ ds
list_of-items_of [] = refl
list_of-items_of (d ∷ ds) = ap (λ es. d ∷ es) (list_of-items_of ds)

pub members_len-members_of : (ms : List (String Global × Data)) → members_len (members_of ms) ≡ length ms
members_len-members_of [] = refl
members_len-members_of (m ∷ ms) = ap suc (members_len-members_of ms)
