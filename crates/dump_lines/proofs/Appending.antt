-- Bytes that are written one after the other.
use Rattle.std.proofs.Common.{ℕ, List, Option, ◌++◌, Result, Ok, Err, OnOk}
use Rattle.std.specs.Io.KnownBytes.{Appends}
use Rattle.std.proofs.KnownBytes.{Appends-trans}

pub appends_then : {A E : Type 0} (result : Result A E) (a b c : Option (List ℕ)) (xs ys : List ℕ) → Appends a b xs → OnOk result (Appends b c ys) → OnOk result (Appends a c (xs ++ ys))
appends_then (Ok it) a b c xs ys p q = Appends-trans a b c xs ys p q
appends_then (Err e) a b c xs ys p q = tt
