use Rattle.std.proofs.Common.{◌≡◌, ◌++◌, length}
use Rattle.std.specs.Prelude.{◌≤◌, All, IsPermutation, vec_capacity}
use Rattle.server_doors.specs.Sessions.{AreOwn}
use Rattle.server_house.specs.Posts.{IsFresh}
use Rattle.server_house.proofs.fresh.FreshSeats.take_each.Given as goal

abbrev pub invariant-loop-tenant : goal.invariant-loop-tenant
invariant-loop-tenant l = (length l.own.items ≡ l.tenant) × AreOwn l.own.items × All IsFresh l.own.items × IsPermutation l.fn.self (l.own.items ++ l.self) × (l.fn.tenants ≤ vec_capacity l.own)
