use Rattle.std.proofs.Common.{◌≡◌, length}
use Rattle.server_house.proofs.owned.lodging.OwnPosts.next_posts.Given as goal

abbrev pub invariant-loop-post : goal.invariant-loop-post
invariant-loop-post g l = (l.self.house ≡ l.fn.self.house) × (length l.posts.items ≡ l._post)
