use Rattle.std.proofs.Common.{◌≡◌, length}
use Rattle.server_house.proofs.owned.lodging.OwnPosts.next_clients.Given as goal

abbrev pub invariant-loop-session : goal.invariant-loop-session
invariant-loop-session g l = (l.self.house ≡ l.fn.self.house) × (length l.clients.items ≡ l._session)
