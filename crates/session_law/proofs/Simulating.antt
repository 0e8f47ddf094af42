-- If what happens to some doors happens to others beside them, a session at the first is a session at the others.
use Rattle.std.proofs.Common.{◌≡◌, ◌≢◌, ◌≤◌, ◌<◌, ◌++◌, ◌∷◌, [], ℕ, zero, suc, Bool, true, false, List, length, Option, Some, None, inl, inr, refl, sym, ap, subst}
use Rattle.std.specs.Prelude.{Result, Ok, Err, MatchBool, ◌⊎◌, take}
use Rattle.job_language.specs.declared.answers.Reply.{Reply}
use Rattle.job_language.specs.declared.answers.Reply.TheVariants as reply
use Rattle.job_language.specs.declared.errors.Error.{Error}
use Rattle.job_language.specs.declared.errors.Error.TheVariants as error
use Rattle.job_language.specs.declared.jobs.Job.{Job}
use Rattle.job_language.specs.declared.requests.Request.{Request}
use Rattle.job_language.specs.declared.requests.Request.TheVariants.{Hello, Submit, Execute, Poll, Collect, Cancel, Cells, Arena, Retire, Release, Take}
use Rattle.request_reader.specs.Asks.{AskedData}
use Rattle.request_reader.specs.LineAsks.{asked_by}
use Rattle.request_reader.specs.Lines.{Line, whole, too_long}
use Rattle.request_reader.specs.Reading.{Reading}
use Rattle.request_reader.specs.Ready.{ready_of}
use Rattle.nested_wait.specs.declared.attending.Attended.{Attended}
use Rattle.nested_wait.specs.declared.attending.Attended.TheVariants.{Below, Full, Stopped}
use Rattle.session_core.specs.Calls.{Finds, Binds, Asks, Waits, AttendsTo}
use Rattle.session_core.specs.Waiting.{collecting, Gives, Pends, Collects, AfterAttending, Follows, AfterExecute, Executes}
use Rattle.session_core.specs.Replies.{IsRefused, hello_in, GreetsBinding, GreetsFound, GreetsFirst, Greets, RepliesTo, RepliesReady, RepliesAsked, RepliesRead, Replies}
use Rattle.session_core.specs.Texts.{reply_bytes, Says, SaysAll, Stops, is_blank_line}
use Rattle.session_core.specs.Sessions.{Served, Broke, Waited, ServesTo}
use Rattle.session_core.specs.declared.doors.Answered.{Answered}
use Rattle.session_core.specs.declared.serving.SessionEnd.{SessionEnd}
use Rattle.session_core.specs.declared.serving.SessionEnd.TheVariants as end

-- a session beside another one: bound if it is
abbrev pub Both : {D E : Type 0} → (D → E → Type 0) → Bool × D → Bool × E → Type 0
Both {D = D} {E = E} at s t = (t.0 ≡ s.0) × at s.1 t.1

module _ {D E : Type 0} (at : D → E → Type 0) (finds : Finds D) (binds : Binds D) (asks : Asks D) (waits : Waits D) (attends : AttendsTo D) (finds_by : Finds E) (binds_by : Binds E) (asks_by : Asks E)
    (waits_by : Waits E) (attends_by : AttendsTo E)
    (found : (d : D) (x : E) (name : List ℕ) (t : Option ℕ) → at d x → finds d name t → finds_by x name t)
    (bound : (d e : D) (x : E) (t : ℕ) (name : List ℕ) (u : Unit {0}) → at d x → binds d t name (Ok u) e → (y : E) × (binds_by x t name (Ok u) y × at e y))
    (unbound : (d : D) (x : E) (t : ℕ) (name : List ℕ) (error : Error) → at d x → binds d t name (Err error) d → binds_by x t name (Err error) x)
    (asked : (d e : D) (x : E) (q : Request) (a : Answered) → at d x → asks d q a e → (y : E) × (asks_by x q a y × at e y))
    (waited : (d e : D) (x : E) (job : ℕ) (stops : Bool) → at d x → waits d job stops e → (y : E) × (waits_by x job stops y × at e y))
    (attended : (d e : D) (x : E) (how : Attended) → at d x → attends how d e → (y : E) × (attends_by how x y × at e y)) where
  gives : (q : Request) (r : Reply) (d e : D) (x : E) → at d x → Gives asks q r d e → (y : E) × (Gives asks_by q r x y × at e y)
  gives q r d e x is g =
      let next = asked d e x q (record { reply = r; placed = g.0 }) is g.1 in
      (next.0, ((g.0, next.1.0), next.1.1))

  pends : (releases : Bool) (job n : ℕ) (d e : D) (x : E) → at d x → Pends asks waits releases job n d e → (y : E) × (Pends asks_by waits_by releases job n x y × at e y)
  pends releases job zero d e x is p = (x, (refl, subst (λ f. at f x) (sym p) is))
  pends releases job (suc n) d e x is p =
      let first = pends releases job n d p.0 x is p.2.0 in
      let next = gives (collecting releases job) reply.Pending p.0 p.1 first.0 first.1.1 p.2.1 in
      let last = waited p.1 e next.0 job false next.1.1 p.2.2 in
      (last.0, ((first.0, next.0, (first.1.0, next.1.0, last.1.0)), last.1.1))

  collects : (releases : Bool) (job : ℕ) (r : Option Reply) (d e : D) (x : E) → at d x → Collects asks waits releases job r d e → (y : E) × (Collects asks_by waits_by releases job r x y × at e y)
  collects releases job (Some r) d e x is c =
      let first = pends releases job c.0 d c.1 x is c.2.0 in
      let next = gives (collecting releases job) r c.1 e first.0 first.1.1 c.2.1 in
      (next.0, ((c.0, first.0, (first.1.0, next.1.0, c.2.2)), next.1.1))
  collects releases job None d e x is c = elim c [
    | inl c ↦
        let first = pends releases job c.0 d c.1 x is c.3.0 in
        let next = gives (collecting releases job) reply.Pending c.1 c.2 first.0 first.1.1 c.3.1 in
        let last = waited c.2 e next.0 job true next.1.1 c.3.2 in
        (last.0, (inl (c.0, first.0, next.0, (first.1.0, next.1.0, last.1.0)), last.1.1))
    | inr c ↦
        let all = pends releases job c.0 d e x is c.1.1 in
        (all.0, (inr (c.0, (c.1.0, all.1.0)), all.1.1))
  ]

  after_attending : (job : ℕ) (how : Attended) (r : Option Reply) (d e : D) (x : E) → at d x → AfterAttending asks waits job how r d e →
      (y : E) × (AfterAttending asks_by waits_by job how r x y × at e y)
  after_attending job Below r d e x is c = collects false job r d e x is c
  after_attending job Full r d e x is c = (x, ((c.0, refl), subst (λ f. at f x) (sym c.1) is))
  after_attending job Stopped r d e x is c = (x, ((c.0, refl), subst (λ f. at f x) (sym c.1) is))

  follows : (job : ℕ) (placed : Bool) (r : Option Reply) (d e : D) (x : E) → at d x → Follows asks waits attends job placed r d e →
      (y : E) × (Follows asks_by waits_by attends_by job placed r x y × at e y)
  follows job true r d e x is f =
      let first = attended d f.1 x f.0 is f.2.0 in
      let next = after_attending job f.0 r f.1 e first.0 first.1.1 f.2.1 in
      (next.0, ((f.0, first.0, (first.1.0, next.1.0)), next.1.1))
  follows job false r d e x is f = collects false job r d e x is f

  after_execute : (made : Reply) (placed : Bool) (r : Option Reply) (d e : D) (x : E) → at d x → AfterExecute asks waits attends made placed r d e →
      (y : E) × (AfterExecute asks_by waits_by attends_by made placed r x y × at e y)
  after_execute (reply.Made job) placed r d e x is f = follows job placed r d e x is f
  after_execute (reply.Placed job slot) placed r d e x is f = follows job placed r d e x is f
  after_execute (reply.Bound name) placed r d e x is f = (x, ((f.0, refl), subst (λ g. at g x) (sym f.1) is))
  after_execute (reply.Job n status) placed r d e x is f = (x, ((f.0, refl), subst (λ g. at g x) (sym f.1) is))
  after_execute (reply.Cancelled n first) placed r d e x is f = (x, ((f.0, refl), subst (λ g. at g x) (sym f.1) is))
  after_execute (reply.Cells key count sum) placed r d e x is f = (x, ((f.0, refl), subst (λ g. at g x) (sym f.1) is))
  after_execute (reply.Arena level reserved slots) placed r d e x is f = (x, ((f.0, refl), subst (λ g. at g x) (sym f.1) is))
  after_execute (reply.Epoch n) placed r d e x is f = (x, ((f.0, refl), subst (λ g. at g x) (sym f.1) is))
  after_execute (reply.Released n) placed r d e x is f = (x, ((f.0, refl), subst (λ g. at g x) (sym f.1) is))
  after_execute reply.Pending placed r d e x is f = (x, ((f.0, refl), subst (λ g. at g x) (sym f.1) is))
  after_execute (reply.Refused error) placed r d e x is f = (x, ((f.0, refl), subst (λ g. at g x) (sym f.1) is))

  answers : (q : Request) (r : Option Reply) (d e : D) (x : E) → at d x → ((given : Reply) × ((r ≡ Some given) × Gives asks q given d e)) →
      (y : E) × (((given : Reply) × ((r ≡ Some given) × Gives asks_by q given x y)) × at e y)
  answers q r d e x is g =
      let next = gives q g.0 d e x is g.1.1 in
      (next.0, ((g.0, (g.1.0, next.1.0)), next.1.1))

  replies_to : (q : Request) (r : Option Reply) (d e : D) (x : E) → at d x → RepliesTo asks waits attends q r d e → (y : E) × (RepliesTo asks_by waits_by attends_by q r x y × at e y)
  replies_to (Execute job) r d e x is g =
      let first = asked d g.1 x (Execute job) g.0 is g.2.0 in
      let next = after_execute g.0.reply g.0.placed r g.1 e first.0 first.1.1 g.2.1 in
      (next.0, ((g.0, first.0, (first.1.0, next.1.0)), next.1.1))
  replies_to (Collect job) r d e x is g = collects false job r d e x is g
  replies_to (Take job) r d e x is g = collects true job r d e x is g
  replies_to (Release job) r d e x is g = answers (Release job) r d e x is g
  replies_to (Hello name) r d e x is g = answers (Hello name) r d e x is g
  replies_to (Submit job) r d e x is g = answers (Submit job) r d e x is g
  replies_to (Poll job) r d e x is g = answers (Poll job) r d e x is g
  replies_to (Cancel job) r d e x is g = answers (Cancel job) r d e x is g
  replies_to (Cells key) r d e x is g = answers (Cells key) r d e x is g
  replies_to Arena r d e x is g = answers Arena r d e x is g
  replies_to Retire r d e x is g = answers Retire r d e x is g

  stays : (s u : Bool × D) (t : Bool × E) → Both at s t → u ≡ s → Both at u t
  stays s u t is same = subst (λ v. Both at v t) (sym same) is

  greets_binding : (name : List ℕ) (n : ℕ) (answer : Result (Unit {0}) Error) (d : D) (x : E) (r : Reply) (u : Bool × D) → at d x → GreetsBinding binds name n answer d r u →
      (v : Bool × E) × (GreetsBinding binds_by name n answer x r v × Both at u v)
  greets_binding name n (Ok a) d x r u is g =
      let next = bound d u.1 x n name a is g.2 in
      ((true, next.0), ((g.0, refl, next.1.0), (sym g.1, next.1.1)))
  greets_binding name n (Err error) d x r u is g = ((false, x), ((g.0, refl, unbound d x n name error is g.2), stays (false, d) u (false, x) (refl, is) g.1))

  greets_found : (name : List ℕ) (tenant : Option ℕ) (d : D) (x : E) (r : Reply) (u : Bool × D) → at d x → GreetsFound binds name tenant d r u →
      (v : Bool × E) × (GreetsFound binds_by name tenant x r v × Both at u v)
  greets_found name (Some n) d x r u is g =
      let next = greets_binding name n g.0 d x r u is g.1 in
      (next.0, ((g.0, next.1.0), next.1.1))
  greets_found name None d x r u is g = ((false, x), ((g.0, refl), stays (false, d) u (false, x) (refl, is) g.1))

  greets_first : (name : Option (List ℕ)) (d : D) (x : E) (r : Reply) (u : Bool × D) → at d x → GreetsFirst finds binds name d r u →
      (v : Bool × E) × (GreetsFirst finds_by binds_by name x r v × Both at u v)
  greets_first (Some name) d x r u is g =
      let next = greets_found name g.0 d x r u is g.1.1 in
      (next.0, ((g.0, (found d x name g.0 is g.1.0, next.1.0)), next.1.1))
  greets_first None d x r u is g = ((false, x), ((g.0, refl), stays (false, d) u (false, x) (refl, is) g.1))

  greets : (b : Bool) (name : Option (List ℕ)) (d : D) (x : E) (r : Reply) (u : Bool × D) → at d x → Greets finds binds name (b, d) r u →
      (v : Bool × E) × (Greets finds_by binds_by name (b, x) r v × Both at u v)
  greets true name d x r u is g = ((true, x), ((g.0, refl), stays (true, d) u (true, x) (refl, is) g.1))
  greets false name d x r u is g = greets_first name d x r u is g

  refused : (error : Error) (s : Bool × D) (t : Bool × E) (r : Option Reply) (u : Bool × D) → Both at s t → IsRefused error s r u → (v : Bool × E) × (IsRefused error t r v × Both at u v)
  refused error s t r u is g = (t, ((g.0, refl), stays s u t is g.1))

  ready : (q : Result Request Error) (b : Bool) (d : D) (x : E) (r : Option Reply) (u : Bool × D) → at d x → RepliesReady asks waits attends q (b, d) r u →
      (v : Bool × E) × (RepliesReady asks_by waits_by attends_by q (b, x) r v × Both at u v)
  ready (Ok q) b d x r u is g =
      let next = replies_to q r d u.1 x is g.1 in
      ((b, next.0), ((refl, next.1.0), (sym g.0, next.1.1)))
  ready (Err error) b d x r u is g = refused error (b, d) (b, x) r u (refl, is) g

  asked_any : (hello : Option (Option (List ℕ))) (a : AskedData) (b : Bool) (d : D) (x : E) (r : Option Reply) (u : Bool × D) → at d x →
      RepliesAsked finds binds asks waits attends hello a (b, d) r u → (v : Bool × E) × (RepliesAsked finds_by binds_by asks_by waits_by attends_by hello a (b, x) r v × Both at u v)
  asked_any (Some name) a b d x r u is g =
      let next = greets b name d x g.0 u is g.1.1 in
      (next.0, ((g.0, (g.1.0, next.1.0)), next.1.1))
  asked_any None a true d x r u is g = ready (ready_of a) true d x r u is g
  asked_any None a false d x r u is g = refused error.NoTenant (false, d) (false, x) r u (refl, is) g

  read : (a : Result AskedData Error) (b : Bool) (d : D) (x : E) (r : Option Reply) (u : Bool × D) → at d x → RepliesRead finds binds asks waits attends a (b, d) r u →
      (v : Bool × E) × (RepliesRead finds_by binds_by asks_by waits_by attends_by a (b, x) r v × Both at u v)
  read (Ok a) b d x r u is g = asked_any (hello_in a) a b d x r u is g
  read (Err error) b d x r u is g = refused error (b, d) (b, x) r u (refl, is) g

  replies_here : (text : List ℕ) (b : Bool) (d : D) (x : E) (r : Option Reply) (u : Bool × D) → at d x → Replies finds binds asks waits attends text (b, d) r u →
      (v : Bool × E) × (Replies finds_by binds_by asks_by waits_by attends_by text (b, x) r v × Both at u v)
  replies_here text b d x r u is g = elim g [
    | inl g ↦ let next = read (asked_by text) b d x r u is g in (next.0, (inl next.1.0, next.1.1))
    | inr g ↦ let next = refused error.NoMemory (b, d) (b, x) r u (refl, is) g.1 in (next.0, (inr (g.0, next.1.0), next.1.1))
  ]

  pub replies : (text : List ℕ) (s : Bool × D) (t : Bool × E) (r : Option Reply) (u : Bool × D) → Both at s t → Replies finds binds asks waits attends text s r u →
      (v : Bool × E) × (Replies finds_by binds_by asks_by waits_by attends_by text t r v × Both at u v)
  replies text s t r u is g =
      let next = replies_here text s.0 s.1 t.1 r u is.1 g in
      subst (λ b. (v : Bool × E) × (Replies finds_by binds_by asks_by waits_by attends_by text (b, t.1) r v × Both at u v)) (sym is.0) next

-- A session of one kind of state beside one of another, where each reply is.
module _ {S T : Type 0} (beside : S → T → Type 0) (replies_s : List ℕ → S → Option Reply → S → Type 0) (replies_t : List ℕ → T → Option Reply → T → Type 0)
    (same : (text : List ℕ) (s : S) (t : T) (r : Option Reply) (u : S) → beside s t → replies_s text s r u → (v : T) × (replies_t text t r v × beside u v)) where
  said_by : (text : List ℕ) (b : Bool) (s u : S) (t : T) (said : List ℕ) → beside s t
      → MatchBool b ((said ≡ []) × (u ≡ s)) ((r : Reply) × (replies_s text s (Some r) u × (said ≡ reply_bytes r)))
      → (v : T) × (MatchBool b ((said ≡ []) × (v ≡ t)) ((r : Reply) × (replies_t text t (Some r) v × (said ≡ reply_bytes r))) × beside u v)
  said_by text true s u t said is g = (t, ((g.0, refl), subst (λ w. beside w t) (sym g.1) is))
  said_by text false s u t said is g =
      let next = same text s t (Some g.0) u is g.1.0 in
      (next.0, ((g.0, (next.1.0, g.1.1)), next.1.1))

  says : (line : Line) (s u : S) (t : T) (said : List ℕ) → beside s t → Says replies_s line s said u → (v : T) × (Says replies_t line t said v × beside u v)
  says (whole text) s u t said is g = said_by text (is_blank_line text) s u t said is g
  says too_long s u t said is g = (t, ((g.0, refl), subst (λ w. beside w t) (sym g.1) is))

  says_all : (lines : List Line) (s u : S) (t : T) (said : List ℕ) → beside s t → SaysAll replies_s lines s said u → (v : T) × (SaysAll replies_t lines t said v × beside u v)
  says_all [] s u t said is g = (t, ((g.0, refl), subst (λ w. beside w t) (sym g.1) is))
  says_all (line ∷ lines) s u t said is g =
      let first = says line s g.0 t g.1 is g.3.0 in
      let later = says_all lines g.0 u first.0 g.2 first.1.1 g.3.1 in
      (later.0, ((first.0, g.1, g.2, (first.1.0, later.1.0, g.3.2)), later.1.1))

  stops_by : (text : List ℕ) (b : Bool) (s u : S) (t : T) → beside s t → MatchBool b ⊥ (replies_s text s None u) → (v : T) × (MatchBool b ⊥ (replies_t text t None v) × beside u v)
  stops_by text true s u t is g = absurd g
  stops_by text false s u t is g = same text s t None u is g

  module _ (now : Reading) (bytes left written out : Option (List ℕ)) (old new : S) (begins : T) (is : beside old begins) where
    served : Served replies_s now bytes left written out old new → (v : T) × (Served replies_t now bytes left written out begins v × beside new v)
    served g =
        let all = says_all g.lines old new begins g.said is g.says in
        (all.0, (record { lines = g.lines; said = g.said; reads = g.reads; says = all.1.0; wrote = g.wrote }, all.1.1))

    pub serves_beside : (how : SessionEnd) → ServesTo replies_s now bytes left written out old new how → (v : T) × (ServesTo replies_t now bytes left written out begins v how × beside new v)
    serves_beside end.Ended g = let all = served g.0 in (all.0, ((all.1.0, g.1, g.2), all.1.1))
    serves_beside end.ReadFault g = let all = served g.0 in (all.0, ((all.1.0, g.1, g.2), all.1.1))
    serves_beside end.TurnLimit g = let all = served g.0 in (all.0, ((all.1.0, g.1, g.2), all.1.1))
    serves_beside (end.WriteFault sent) g =
        let all = says_all g.lines old g.mid begins g.said is g.says in
        let last = says g.last g.mid new all.0 g.cut all.1.1 g.says_last in (
          last.0,
          (
            record { lines = g.lines; last = g.last; said = g.said; cut = g.cut; mid = all.0; reads = g.reads; says = all.1.0; says_last = last.1.0; short = g.short; wrote = g.wrote },
            last.1.1,
          ),
        )
    serves_beside end.Stopped g =
        let all = says_all g.lines old g.mid begins g.said is g.says in
        let last = stops_by g.last (is_blank_line g.last) g.mid new all.0 all.1.1 g.stops in
        (last.0, (record { lines = g.lines; last = g.last; said = g.said; mid = all.0; reads = g.reads; says = all.1.0; stops = last.1.0; wrote = g.wrote }, last.1.1))
