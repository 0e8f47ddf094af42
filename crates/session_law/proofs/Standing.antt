-- Arenas that stand for states go on to do so after a step of one of them.
use Rattle.std.proofs.Common.{◌≡◌, ◌≢◌, ◌+◌, ℕ, ◌<◌, ◌≤◌, length, sym, ◌∙◌, ap, arith, inl, inr, length-set, List, Some, None, true, false, Bool, refl, subst}
use Rattle.std.specs.Prelude.{slice_set, slice_get, slice_index_or, unwrap_or, is_some}
use Rattle.std.proofs.lemmas.Bool.{cases_eq}
use Rattle.std.proofs.lemmas.List.{get_or-set_same, get_or-set_other}
use Rattle.std.proofs.lemmas.Option.{slice_get-get_or, slice_get_past}
use Rattle.job_language.specs.declared.answers.Moved.{Moved}
use Rattle.job_language.specs.declared.tenants.TheConstants.{MAX_STEPS}
use Rattle.job_language.specs.declared.answers.Reply.{Reply}
use Rattle.job_language.specs.declared.answers.Reply.TheVariants as reply
use Rattle.job_language.specs.declared.requests.Request.{Request}
use Rattle.job_step.specs.declared.segments.Top.{Top}
use Rattle.job_step.specs.declared.segments.View.{View}
use Rattle.tenant_model.specs.State.{State, empty}
use Rattle.tenant_model.specs.Told.{placed_on}
use Rattle.tenant_model.specs.Walks.{height}
use Rattle.tenant_model.specs.Advance.{advance}
use Rattle.tenant_model.specs.Asks.{ask}
use Rattle.arena_rows.specs.Held.{Held}
use Rattle.arena_core.specs.Stands.{StandsFor, Takes}
use Rattle.arena_core.specs.Views.{IsSeen}
use Rattle.arena_core.specs.Views.{Commits as CommitsIn}
use Rattle.session_core.specs.declared.doors.Answered.{Answered}
use Rattle.session_law.specs.Tenants.{Tenants, IsNoneBefore, answered, bound_state, with_state, moved_of, asked_of, asked_in, height_of, IsLimited}
use Rattle.session_law.specs.Doors.{StandForAll, AreAt, Sees, IsSeenIn, IsAsHigh, Advances, Commits, CommitsOf, Asks}
use Rattle.session_law.specs.declared.doors.ArenaDoors.{ArenaDoors}

module _ (arenas : List Held) (states : List State) (is : StandForAll arenas states) where
  pub stand_set : (t : ℕ) (a : Held) (s : State) → StandsFor a s → StandForAll (slice_set arenas t a) (slice_set states t s)
  stand_set t a s stands = record {
    long = length-set arenas t a ∙ is.long ∙ sym (length-set states t s);
    each = λ i b u within.
        let there : i < length arenas = omega (arith, within, length-set arenas t a) in
        elim (cases_eq i t) [
          | inl same ↦
              let at : t < length arenas = rw same at there in
              rw (same, get_or-set_same arenas t a b at, get_or-set_same states t s u (omega (arith, at, is.long))) stands
          | inr other ↦ rw (get_or-set_other arenas t i a b other, get_or-set_other states t i s u other) (is.each i b u there)
        ];
  }

  -- the state of an arena that is there
  pub stood : (t : ℕ) (a : Held) (s : State) → t < length arenas → (slice_get states t ≡ Some (slice_index_or states t s)) × StandsFor (slice_index_or arenas t a) (slice_index_or states t s)
  stood t a s within = (slice_get-get_or states t s (omega (arith, within, is.long)), is.each t a s within)

  pub lacks : (t : ℕ) → length arenas ≤ t → slice_get states t ≡ None
  lacks t past = slice_get_past states t (omega (arith, past, is.long))

module _ (d e : ArenaDoors) (x b : Held) (within : d.tenant < length d.arenas.items) (is : x ≡ slice_index_or d.arenas.items d.tenant x) where
  -- the arena of the bound tenant stands for its state
  pub bound_at : (ts : Tenants) → AreAt d ts → (s : State) × ((bound_state ts ≡ Some s) × StandsFor x s)
  bound_at ts at =
      let s = slice_index_or ts.states d.tenant (empty x.config) in
      let there = stood d.arenas.items ts.states at.stand d.tenant x (empty x.config) within in
      (s, (subst (λ t. slice_get ts.states t ≡ Some s) at.bound there.0, subst (λ a. StandsFor a s) (sym is) there.1))

  set_at : (ts : Tenants) (s : State) (slot : ℕ) → AreAt d ts → e.arenas.items ≡ slice_set d.arenas.items d.tenant b → e.tenant ≡ d.tenant → e.slot ≡ slot → StandsFor b s →
      AreAt e (record (with_state ts s) { slot = slot })
  set_at ts s slot at arenas tenant same stands = record {
    stand =
        let whole = stand_set d.arenas.items ts.states at.stand d.tenant b s stands in
        let there = subst (λ t. StandForAll (slice_set d.arenas.items d.tenant b) (slice_set ts.states t s)) at.bound whole in
        subst (λ items. StandForAll items (slice_set ts.states ts.bound s)) (sym arenas) there;
    bound = tenant ∙ at.bound;
    slot = same;
  }

  module _ (arenas : e.arenas.items ≡ slice_set d.arenas.items d.tenant b) (tenant : e.tenant ≡ d.tenant) where
    pub advances_at : (m : Moved) → e.slot ≡ d.slot → ((s : State) → StandsFor x s → Takes b m (advance s d.slot)) → Advances d m e
    advances_at m same took = λ ts at.
        let there = bound_at ts at in
        let takes = subst (λ slot. Takes b m (advance there.0 slot)) at.slot (took there.0 there.1.1) in
        let next = (advance there.0 ts.slot).1 in
        subst (λ o. (us : Tenants) × (((m ≡ (moved_of ts o).0) × (us ≡ (moved_of ts o).1)) × AreAt e us)) (sym there.1.0)
        (with_state ts next, ((takes.0, refl), set_at ts next ts.slot at arenas tenant (same ∙ at.slot) takes.1))

    pub commits_at : (m : Moved) (seen : Top) → e.slot ≡ d.slot → ((s : State) → StandsFor x s → (t : State) × (CommitsIn true s d.slot seen m t × StandsFor b t)) → Commits d seen m e
    commits_at m seen same took = λ ts at.
        let there = bound_at ts at in
        let takes = subst (λ slot. (t : State) × (CommitsIn true there.0 slot seen m t × StandsFor b t)) at.slot (took there.0 there.1.1) in
        subst (λ o. (us : Tenants) × (CommitsOf seen m ts us o × AreAt e us)) (sym there.1.0)
        (with_state ts takes.0, ((takes.0, (takes.1.0, refl)), set_at ts takes.0 ts.slot at arenas tenant (same ∙ at.slot) takes.1.1))

    pub asks_at : (request : Request) (r : Reply) (placed : Bool) → placed ≡ is_some (placed_on r) → e.slot ≡ unwrap_or (placed_on r) d.slot →
        ((s : State) → StandsFor x s → Takes b r (ask s request)) → Asks d request (record { reply = r; placed = placed }) e
    asks_at request r placed told led took = λ ts at.
        let there = bound_at ts at in
        let takes = took there.0 there.1.1 in
        let a = ask there.0 request in
        let slot : e.slot ≡ unwrap_or (placed_on a.0) ts.slot = led ∙ ap (λ q. unwrap_or (placed_on q) d.slot) takes.0 ∙ ap (unwrap_or (placed_on a.0)) at.slot in
        let given : Answered = record { reply = r; placed = placed } in
        let same : given ≡ answered r = ap (λ (p : Bool). record { reply = r; placed = p }) told in
        subst (λ o. (us : Tenants) × (((given ≡ (asked_of ts request o).0) × (us ≡ (asked_of ts request o).1)) × AreAt e us)) (sym there.1.0)
        ((asked_in ts a).1, ((same ∙ ap (λ (q : Reply). answered q) takes.0, refl), set_at ts a.1 (unwrap_or (placed_on a.0) ts.slot) at arenas tenant slot takes.1))

module _ (d : ArenaDoors) (x : Held) (within : d.tenant < length d.arenas.items) (is : x ≡ slice_index_or d.arenas.items d.tenant x) where
  pub sees_at : (seen : View) → ((s : State) → StandsFor x s → IsSeen s d.slot seen) → Sees d seen
  sees_at seen took = λ ts at.
      let there = bound_at d d x x within is ts at in
      subst (λ o. IsSeenIn ts.slot seen o) (sym there.1.0) (subst (λ slot. IsSeen there.0 slot seen) at.slot (took there.0 there.1.1))

  pub high_at : (h : ℕ) → ((s : State) → StandsFor x s → h ≡ height s.rows d.slot) → ((s : State) → StandsFor x s → s.config.steps ≤ MAX_STEPS) → IsAsHigh d h
  high_at h took limited = λ ts at.
      let there = bound_at d d x x within is ts at in
      subst (λ o. (h ≡ height_of ts o) × IsLimited o) (sym there.1.0) (subst (λ slot. h ≡ height there.0.rows slot) at.slot (took there.0 there.1.1), limited there.0 there.1.1)

pub unplaced : (r : Reply) → ((n slot : ℕ) → r ≡ reply.Placed n slot → ⊥) → placed_on r ≡ None
unplaced (reply.Placed n slot) none = absurd (none n slot refl)
unplaced (reply.Bound name) none = refl
unplaced (reply.Made n) none = refl
unplaced (reply.Job n status) none = refl
unplaced (reply.Cancelled n first) none = refl
unplaced (reply.Cells key count sum) none = refl
unplaced (reply.Arena level reserved slots) none = refl
unplaced (reply.Epoch n) none = refl
unplaced (reply.Released n) none = refl
unplaced reply.Pending none = refl
unplaced (reply.Refused error) none = refl

-- the tenant of a number, which has an arena
pub item_at : (d : ArenaDoors) (ts : Tenants) (n : ℕ) (x : Held) → AreAt d ts → n < length d.arenas.items → x ≡ slice_index_or d.arenas.items n x →
    (s : State) × ((slice_get ts.states n ≡ Some s) × StandsFor x s)
item_at d ts n x at within is =
    let there = stood d.arenas.items ts.states at.stand n x (empty x.config) within in
    (slice_index_or ts.states n (empty x.config), (there.0, subst (λ a. StandsFor a (slice_index_or ts.states n (empty x.config))) (sym is) there.1))

pub none_more : (states : List State) (name : List ℕ) (n : ℕ) → IsNoneBefore states name n → ((s : State) → slice_get states n ≡ Some s → s.config.name ≢ name) → IsNoneBefore states name (n + 1)
none_more states name n so_far last = λ i s low is. elim (cases_eq i n) [
  | inl same ↦ last s (subst (λ k. slice_get states k ≡ Some s) same is)
  | inr other ↦ so_far i s (omega (arith, low, other)) is
]
