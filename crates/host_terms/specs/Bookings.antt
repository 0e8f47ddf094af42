-- The places of sessions in terms.
use Rattle.std.specs.Prelude.{ℕ, ◌≡◌, List, Option, Some}
use Rattle.std.specs.Arc.{arc_value}
use Rattle.host_terms.specs.declared.terms.HostTerm.{HostTerm}
use Rattle.server_house.specs.Houses.{first_life, first_name}
use Rattle.server_house.specs.Posts.{ClientSeen}
use Rattle.term_life.specs.declared.spans.Span.{Span}

-- What a place knows of its term: its number and those of its jobs, the name of its tenant, and the life of that in it, which no other term has.
pub record TermSeen : Type 0 where
  pub span : Span
  pub name : Option (List ℕ)
  pub life : Option ℕ

abbrev pub seen_of : {J : Type 0} → HostTerm J → TermSeen
seen_of t = record { span = t.span; name = first_name (arc_value t.house).doors; life = first_life (arc_value t.house).doors }

-- a term, and a client of its house
pub record BookingSeen : Type 0 where
  pub term : TermSeen
  pub client : ClientSeen

-- The client asks the tenant of that term, in the life that it has there.
abbrev pub IsAt : TermSeen → ClientSeen → Type 0
IsAt term client = (first_name client.post.house.doors ≡ term.name) × (first_life client.post.house.doors ≡ term.life)

-- It is a term of the tenant of that name.
abbrev pub IsOf : List ℕ → TermSeen → Type 0
IsOf name term = term.name ≡ Some name

abbrev pub IsBooking : BookingSeen → Type 0
IsBooking b = IsAt b.term b.client
