-- Live rows have ranks, by which they started: no lower one stands above on a stack, and a task's is above its maker's.
use Rattle.std.proofs.Common.{◌≡◌, ◌≢◌, ℕ, ◌+◌, ◌==◌, ◌<◌, ◌≤◌, List, [], ◌∷◌, ◌++◌, length, Some, true, false, ◌&&◌, refl, sym, ap, ◌∙◌, arith, inl, inr, ◌⊎◌, map, ℤ, pos, eq-eqb, ne_eqb}
use Rattle.std.specs.Prelude.{if◌then◌else◌, nat_le, None, slice_index_or, slice_set}
use Rattle.std.proofs.lemmas.Bool.{cases_eq, cases_lt}
use Rattle.std.proofs.lemmas.List.{length_push}
use Rattle.job_language.specs.declared.steps.Step.{Step}
use Rattle.job_language.specs.declared.steps.Step.TheVariants.{Ask, Arrive, Advance}
use Rattle.job_language.specs.declared.tenants.Tenant.{Tenant}
use Rattle.job_step.specs.declared.frames.Frame.{Frame}
use Rattle.job_step.specs.Frame.{new_frame, register, instr_at}
use Rattle.tenant_model.specs.declared.rows.Kind.{Kind}
use Rattle.tenant_model.specs.declared.rows.Kind.TheVariants.{Root, Posted, Spawned, Region}
use Rattle.tenant_model.specs.declared.rows.Phase.{Phase}
use Rattle.tenant_model.specs.declared.rows.Phase.TheVariants.{Unstarted, Live, Done, Dropped, Faulted}
use Rattle.tenant_model.specs.declared.rows.Row.{Row}
use Rattle.tenant_model.specs.State.{State, empty, row, job, with_at_number}
use Rattle.tenant_model.specs.Walks.{is_unstarted, is_live_at, mark, height, settle}
use Rattle.tenant_model.specs.Changes.{on_row, new_row, add_row, entry, with_frame, task_height, faulted_row, faulted_phase}
use Rattle.tenant_model.specs.Shared.{hand_back, handed_frame, next_place, called_frame}
use Rattle.tenant_model.specs.Solo.{step, after}
use Rattle.tenant_model.specs.Linked.{MakersPrecede}
use Rattle.tenant_model.specs.WellFormed.{AreStacked}
use Rattle.tenant_model.specs.Sound.{MakersStarted, IsSound}
use Rattle.tenant_model.proofs.Within.{either_way}
use Rattle.tenant_model.proofs.Changed.{row-with_same, row-with_other, row-push_old, row-push_new, row-map, length-with}
use Rattle.tenant_model.proofs.Linked.{SameSources-map}
use Rattle.tenant_model.proofs.Stacked.{IsOff, AreSame-set}
use Rattle.tenant_model.proofs.Insides.{live_there, live_low}
use Rattle.tenant_model.proofs.Parts.{same_place, off_live, SameSources-settle, settle-lives}
use Rattle.tenant_model.proofs.Picks.{pick_is}
use Rattle.tenant_model.proofs.KeptSteps.{unstarted_off}
use Rattle.tenant_model.proofs.KeptAdvances as kept
use Rattle.tenant_model.proofs.Invariance.{IsAt, KeepsAdvances, KeepsAsks, advance_keeps, arrive_keeps, ask_keeps}
use Rattle.tenant_model.proofs.SoundSteps.{step_sound}

pub record IsRanked (rows : List Row) : Type 0 where
  pub rank : ℕ → ℕ
  pub most : ℕ
  pub low : (n : ℕ) → rank n ≤ most
  pub stacked : (a b slot lo hi : ℕ) → (row rows a).phase ≡ Live slot lo → (row rows b).phase ≡ Live slot hi → lo ≤ hi → rank a ≤ rank b
  pub spawned : (n m g slot h t k : ℕ) → (row rows n).kind ≡ Spawned m g → (row rows n).phase ≡ Live slot h → (row rows m).phase ≡ Live t k → rank m < rank n

-- Fewer rows are live, each at the place where it was.
pub ranked-fewer : (a b : List Row) → ((n slot h : ℕ) → (row b n).phase ≡ Live slot h → (row a n).phase ≡ Live slot h) →
    ((n slot h : ℕ) → (row b n).phase ≡ Live slot h → (row b n).kind ≡ (row a n).kind) → IsRanked a → IsRanked b
ranked-fewer a b lives kinds is = record {
  rank = is.rank;
  most = is.most;
  low = is.low;
  stacked = λ x y slot lo hi x_live y_live le. is.stacked x y slot lo hi (lives x slot lo x_live) (lives y slot hi y_live) le;
  spawned = λ n m g slot h t k kind n_live m_live. is.spawned n m g slot h t k (sym (kinds n slot h n_live) ∙ kind) (lives n slot h n_live) (lives m t k m_live);
}

-- A row goes live on top of a slot: it made no row that is live.
pub record GoesLive (a b : List Row) (slot q : ℕ) : Type 0 where
  pub lives : (x t h : ℕ) → (row b x).phase ≡ Live t h → ((x ≡ q) × (t ≡ slot) × (h ≡ height a slot + 1)) ⊎ ((row a x).phase ≡ Live t h)
  pub kinds : (x t h : ℕ) → (row a x).phase ≡ Live t h → (row b x).kind ≡ (row a x).kind
  pub off : (t h : ℕ) → (row a q).phase ≡ Live t h → ⊥
  pub childless : (x t h g : ℕ) → (row a x).phase ≡ Live t h → (row a x).kind ≡ Spawned q g → ⊥
  pub itself : (g : ℕ) → (row b q).kind ≡ Spawned q g → ⊥

abbrev rank_with : (ℕ → ℕ) → (q new : ℕ) → ℕ → ℕ
rank_with rank q new n = if n == q then new else rank n

rank_new : (rank : ℕ → ℕ) (q new n : ℕ) → n ≡ q → rank_with rank q new n ≡ new
rank_new rank q new n same = rw (eq-eqb n q same) refl

rank_old : (rank : ℕ → ℕ) (q new n : ℕ) → n ≢ q → rank_with rank q new n ≡ rank n
rank_old rank q new n other = rw (ne_eqb n q other) refl

module _ (a b : List Row) (slot q : ℕ) (stacks : AreStacked a) (goes : GoesLive a b slot q) (is : IsRanked a) where
  abbrev top_rank : ℕ → ℕ
  top_rank n = rank_with is.rank q (is.most + 1) n

  top_new : (n : ℕ) → n ≡ q → top_rank n ≡ is.most + 1
  top_new n same = rank_new is.rank q (is.most + 1) n same

  top_old : (x t h : ℕ) → (row a x).phase ≡ Live t h → top_rank x ≡ is.rank x
  top_old x t h live = rank_old is.rank q (is.most + 1) x (λ same. goes.off t h (ap (λ n. (row a n).phase) (sym same) ∙ live))

  top_low : (n : ℕ) → top_rank n ≤ is.most + 1
  top_low n = elim (cases_eq n q) [
    | inl same ↦ omega (arith, top_new n same)
    | inr other ↦ omega (arith, rank_old is.rank q (is.most + 1) n other, is.low n)
  ]

  top_stacked : (x y t lo hi : ℕ) → (row b x).phase ≡ Live t lo → (row b y).phase ≡ Live t hi → lo ≤ hi → top_rank x ≤ top_rank y
  top_stacked x y t lo hi x_live y_live le = elim (goes.lives y t hi y_live) [
    | inl top ↦ omega (arith, top_new y top.0, top_low x)
    | inr was_y ↦ elim (goes.lives x t lo x_live) [
      | inl top ↦
          let higher = live_low a stacks y t hi was_y in
          let e : height a t ≡ height a slot = ap (height a) top.1 in
          absurd (omega (arith, higher, top, le, e))
      | inr was_x ↦ omega (arith, top_old x t lo was_x, top_old y t hi was_y, is.stacked x y t lo hi was_x was_y le)
    ]
  ]

  top_spawned : (n m g t h u k : ℕ) → (row b n).kind ≡ Spawned m g → (row b n).phase ≡ Live t h → (row b m).phase ≡ Live u k → top_rank m < top_rank n
  top_spawned n m g t h u k kind n_live m_live = elim (goes.lives m u k m_live) [
    | inl m_top ↦ elim (goes.lives n t h n_live) [
      | inl n_top ↦ absurd (goes.itself g (ap (λ (x : ℕ). (row b x).kind) (sym n_top.0) ∙ kind ∙ ap (λ (x : ℕ). Spawned x g) m_top.0))
      | inr n_was ↦ absurd (goes.childless n t h g n_was (sym (goes.kinds n t h n_was) ∙ kind ∙ ap (λ (x : ℕ). Spawned x g) m_top.0))
    ]
    | inr m_was ↦ elim (goes.lives n t h n_live) [
      | inl n_top ↦ omega (arith, top_new n n_top.0, top_old m u k m_was, is.low m)
      | inr n_was ↦ omega (arith, top_old n t h n_was, top_old m u k m_was, is.spawned n m g t h u k (sym (goes.kinds n t h n_was) ∙ kind) n_was m_was)
    ]
  ]

  pub ranked-top : IsRanked b
  ranked-top = record { rank = top_rank; most = is.most + 1; low = top_low; stacked = top_stacked; spawned = top_spawned }

waits_not_live : (p : Phase) (t h : ℕ) → is_unstarted p ≡ true → p ≡ Live t h → ⊥
waits_not_live p t h waits live = let no : is_unstarted p ≡ false = rw live refl in grind (arith, waits, no)

done_not_live : (v : ℤ) (t h : ℕ) → Done v ≡ Live t h → ⊥
done_not_live v t h live = cc

module _ (rows : List Row) (n : ℕ) (r : Row) (from : 1 ≤ n) (to : n ≤ length rows) (kind : r.kind ≡ (row rows n).kind) where
  set_kinds : (m : ℕ) → (row (with_at_number rows n r) m).kind ≡ (row rows m).kind
  set_kinds m = elim (cases_eq m n) [
    | inl same ↦ rw same (ap (λ (q : Row). q.kind) (row-with_same rows n r from to) ∙ kind)
    | inr other ↦ ap (λ (q : Row). q.kind) (row-with_other rows n m r from other)
  ]

  -- The row is no longer live, or is where it was.
  pub ranked-set : ((slot h : ℕ) → r.phase ≡ Live slot h → (row rows n).phase ≡ Live slot h) → IsRanked rows → IsRanked (with_at_number rows n r)
  ranked-set lives is = ranked-fewer rows (with_at_number rows n r) (λ m slot h live. elim (cases_eq m n) [
    | inl same ↦
        let here : r.phase ≡ Live slot h = ap (λ (q : Row). q.phase) (sym (ap (row (with_at_number rows n r)) same ∙ row-with_same rows n r from to)) ∙ live in
        rw same (lives slot h here)
    | inr other ↦ ap (λ (q : Row). q.phase) (sym (row-with_other rows n m r from other)) ∙ live
  ]) (λ m slot h live. set_kinds m) is

  -- A row that waited stands on top now.
  pub ranked-nest : (slot : ℕ) → AreStacked rows → MakersPrecede rows → MakersStarted rows → is_unstarted (row rows n).phase ≡ true → r.phase ≡ Live slot (height rows slot + 1) → IsRanked rows →
      IsRanked (with_at_number rows n r)
  ranked-nest slot stacks precede started waits on_top is = ranked-top rows (with_at_number rows n r) slot n stacks (record {
    lives = λ x t h live. elim (cases_eq x n) [
      | inl same ↦
          let here : Live slot (height rows slot + 1) ≡ Live t h = sym on_top ∙ ap (λ (q : Row). q.phase) (sym (ap (row (with_at_number rows n r)) same ∙ row-with_same rows n r from to)) ∙ live in
          let both = same_place slot (height rows slot + 1) t h here in
          inl (same, sym both.0, sym both.1)
      | inr other ↦ inr (ap (λ (q : Row). q.phase) (sym (row-with_other rows n x r from other)) ∙ live)
    ];
    kinds = λ x t h live. set_kinds x;
    off = λ t h live. waits_not_live (row rows n).phase t h waits live;
    childless = λ x t h g live made. let did : is_unstarted (row rows n).phase ≡ false = started x n (rw made refl) in grind (arith, did, waits);
    itself = λ g made.
        let own : (row rows n).kind ≡ Spawned n g = sym (set_kinds n) ∙ made in
        let before : (1 ≤ n) × (n < n) = rw own at (precede n from to) in
        omega (arith, before);
  }) is

module _ (rows : List Row) (r : Row) where
  push_lives : (x t h : ℕ) → (row (rows ++ r ∷ []) x).phase ≡ Live t h → ((x ≡ length rows + 1) × (r.phase ≡ Live t h)) ⊎ ((row rows x).phase ≡ Live t h)
  push_lives x t h live =
      let there = live_there (rows ++ r ∷ []) x t h live in
      elim (cases_lt (length rows) x) [
        | inl after ↦
            let new : x ≡ length rows + 1 = omega (arith, after, there, length_push rows r) in
            inl (new, ap (λ (q : Row). q.phase) (sym (row-push_new rows x r new)) ∙ live)
        | inr before ↦ inr (ap (λ (q : Row). q.phase) (sym (row-push_old rows x r before)) ∙ live)
      ]

  push_kinds : (x t h : ℕ) → (row rows x).phase ≡ Live t h → (row (rows ++ r ∷ []) x).kind ≡ (row rows x).kind
  push_kinds x t h live = let there = live_there rows x t h live in ap (λ (q : Row). q.kind) (row-push_old rows x r there.1)

  -- a new row on no slot
  pub ranked-push : IsOff r.phase → IsRanked rows → IsRanked (rows ++ r ∷ [])
  ranked-push off is = ranked-fewer rows (rows ++ r ∷ []) (λ x t h live. elim (push_lives x t h live) [
    | inl new ↦ absurd (off_live off new.1)
    | inr old ↦ old
  ]) (λ x t h live. elim (push_lives x t h live) [
    | inl new ↦ absurd (off_live off new.1)
    | inr old ↦ push_kinds x t h old
  ]) is

  -- a new row on top of a slot, which was not spawned
  pub ranked-push_top : (slot : ℕ) → AreStacked rows → MakersPrecede rows → r.phase ≡ Live slot (height rows slot + 1) → ((m g : ℕ) → r.kind ≡ Spawned m g → ⊥) → IsRanked rows →
      IsRanked (rows ++ r ∷ [])
  ranked-push_top slot stacks precede on_top other is =
      let q = length rows + 1 in
      ranked-top rows (rows ++ r ∷ []) slot q stacks (record {
        lives = λ x t h live. elim (push_lives x t h live) [
          | inl new ↦ let both = same_place slot (height rows slot + 1) t h (sym on_top ∙ new.1) in inl (new.0, sym both.0, sym both.1)
          | inr old ↦ inr old
        ];
        kinds = push_kinds;
        off = λ t h live. let there = live_there rows q t h live in omega (arith, there);
        childless = λ x t h g live made.
            let there = live_there rows x t h live in
            let before : (1 ≤ q) × (q < x) = rw made at (precede x there.0 there.1) in
            omega (arith, before, there);
        itself = λ g made. other q g (ap (λ (x : Row). x.kind) (sym (row-push_new rows q r refl)) ∙ made);
      }) is

faulted_lives : (slot from : ℕ) (p : Phase) (t h : ℕ) → faulted_phase slot from p ≡ Live t h → p ≡ Live t h
faulted_lives slot from Unstarted t h live = live
faulted_lives slot from (Live u k) t h live = elim (either_way ((u == slot) && nat_le from k)) [
  | inl gone ↦
      let no : Faulted ≡ Live t h = rw gone at live in
      absurd (grind (arith, ap (is_live_at t h) no))
  | inr kept ↦ rw kept at live
]
faulted_lives slot from (Done v) t h live = live
faulted_lives slot from Dropped t h live = live
faulted_lives slot from Faulted t h live = live

-- some rows of a slot are faulted
ranked-faults : (rows : List Row) (slot from : ℕ) → IsRanked rows → IsRanked (map (faulted_row slot from) rows)
ranked-faults rows slot from is =
    let after = map (faulted_row slot from) rows in
    let same = SameSources-map (faulted_row slot from) rows (λ r. refl) (λ r. refl) in
    ranked-fewer rows after (λ n t h live.
    let there = live_there after n t h live in
    let to : n ≤ length rows = omega (arith, there, same.long) in
    faulted_lives slot from (row rows n).phase t h (ap (λ (r : Row). r.phase) (sym (row-map (faulted_row slot from) rows n there.0 to)) ∙ live)) (λ n t h live. same.kinds n) is

-- of a state
abbrev pub Ranked : State → Type 0
Ranked s = IsRanked s.rows

abbrev pub Started : State → Type 0
Started s = MakersStarted s.rows

entry_ranked : (s : State) → Ranked s → Ranked (entry s)
entry_ranked s is =
    let t = record s { entries = s.entries + 1 } in
    ranked-fewer s.rows (settle t).rows (settle-lives t) (λ n slot h live. (SameSources-settle t).kinds n) is

module _ (s : State) (slot n : ℕ) (at : IsAt s slot n) (is : Ranked s) where
  on_row_ranked : (f : Row → Row) → (f (row s.rows n)).kind ≡ (row s.rows n).kind → (f (row s.rows n)).phase ≡ (row s.rows n).phase → Ranked (on_row s n f)
  on_row_ranked f kind phase = ranked-set s.rows n (f (row s.rows n)) at.from at.to kind (λ t h live. sym phase ∙ live) is

  frame_ranked : (f : Frame) → Ranked (with_frame s n f)
  frame_ranked f = on_row_ranked (λ r. record r { frame = f }) refl refl

  made_ranked : (f : Frame) (r : Row) → IsOff r.phase → Ranked (add_row (with_frame s n f) r)
  made_ranked f r off = ranked-push (with_frame s n f).rows r off (frame_ranked f)

  region_ranked : (f g : Frame) → Ranked (add_row (with_frame s n f) (new_row (Region n) (row s.rows n).job (Some slot) g (Live slot (height s.rows slot + 1))))
  region_ranked f g =
      let moved = kept.moved_kept s slot n at.well (record { from = at.from; to = at.to; live = at.live }) f in
      let same : height (with_frame s n f).rows slot ≡ height s.rows slot = (AreSame-set s.rows n (record (row s.rows n) { frame = f }) at.from at.to refl).on slot in
      ranked-push_top (with_frame s n f).rows (new_row (Region n) (row s.rows n).job (Some slot) g (Live slot (height s.rows slot + 1))) slot moved.stacked moved.linked.makers (rw same refl)
      (λ m h kind. cc) (frame_ranked f)

  ended_ranked : (f : Frame) (v : ℤ) → Ranked (on_row s n (λ r. record r { frame = f; phase = Done v }))
  ended_ranked f v = ranked-set s.rows n (record (row s.rows n) { frame = f; phase = Done v }) at.from at.to refl (λ t h live. absurd (done_not_live v t h live)) is

  handed_ranked : (f : Frame) (v : ℤ) (k : Kind) → (row s.rows n).kind ≡ k → Ranked (hand_back (on_row s n (λ r. record r { frame = f; phase = Done v })) k v)
  handed_ranked f v Root kind = ended_ranked f v
  handed_ranked f v Posted kind = ended_ranked f v
  handed_ranked f v (Spawned m g) kind = ended_ranked f v
  handed_ranked f v (Region m) kind =
      let t = on_row s n (λ r. record r { frame = f; phase = Done v }) in
      let maker : (1 ≤ m) × (m < n) = rw kind at (at.well.linked.makers n at.from at.to) in
      let r = record (row t.rows m) { frame = handed_frame (instr_at (job t.jobs (row t.rows m).job).program (row t.rows m).frame) v (row t.rows m).frame } in
      ranked-set t.rows m r maker.0 (let to = at.to in omega (arith, maker, to, length-with s.rows n (record (row s.rows n) { frame = f; phase = Done v }))) refl (λ u h live. live) (ended_ranked f v)

ranked_advances : (slot : ℕ) → KeepsAdvances Started Ranked Ranked slot
ranked_advances slot = record {
  fueled = λ s n f at p. p;
  fuel = λ s n f at p is. is;
  fault = λ s n e at p is. ranked-faults s.rows slot (task_height s.rows slot) is;
  frame = λ s n f at p same is. frame_ranked s slot n at is f;
  cells = λ s t table is. is;
  spawn = λ s n f g q a b at p same here room is. made_ranked s slot n at is (next_place f) _ unstarted_off;
  post = λ s n f q a b at p same room is. made_ranked s slot n at is (next_place f) _ unstarted_off;
  isolate = λ s n f d q a b at p same here room low is. region_ranked s slot n at is f (called_frame f q a b);
  wait = λ s n f g at p same none is. on_row_ranked s slot n at is (λ r. record r { frame = f; marks = slice_set r.marks g (record { rows = length s.rows; cancelled = false }) }) refl refl;
  cancel = λ s n f g at p same is. on_row_ranked s slot n at is (λ r. record r { frame = f; marks = slice_set r.marks g (record (mark s.rows n g) { cancelled = true }) }) refl refl;
  done = λ s n f a at p same unused is. handed_ranked s slot n at is f (register f a) (row s.rows n).kind refl;
  nest = λ s m well low p picked high is.
      let found = pick_is s.config.isolation s.rows slot m picked in
      ranked-nest s.rows m (record (row s.rows m) { phase = Live slot (height s.rows slot + 1) }) found.0 found.1 refl slot well.stacked well.linked.makers p found.2 refl is;
  enter = entry_ranked;
}

ranked_asks : KeepsAsks Started Ranked Ranked
ranked_asks = record {
  none = λ s is. is;
  add = λ s j well p room is. ranked-push s.rows _ unstarted_off is;
  place = λ s j slot well p room low empty is.
      let r = new_row Root (length s.jobs + 1) None (new_frame 0 (slice_index_or j.args 0 (pos 0)) (slice_index_or j.args 1 (pos 0))) (Live slot 1) in
      let one : height s.rows slot + 1 ≡ 1 = omega (arith, empty) in
      ranked-push_top s.rows r slot well.stacked well.linked.makers (rw one refl) (λ m g kind. cc) is;
  cancel = λ s j w well p known first is. is;
  release = λ s j w well p known over is. is;
  retire = λ s well p closed is. is;
  enter = entry_ranked;
}

pub step_ranked : (s : State) (x : Step) → IsSound s → Ranked s → Ranked (step s x).1
step_ranked s (Ask r) sound is = ask_keeps Started Ranked Ranked ranked_asks s sound.well_formed sound.tended.started is r
step_ranked s (Arrive slot) sound is = arrive_keeps Started Ranked Ranked slot (ranked_advances slot) s sound.well_formed sound.tended.started is
step_ranked s (Advance slot) sound is = advance_keeps Started Ranked Ranked slot (ranked_advances slot) s sound.well_formed sound.tended.started is

pub after_ranked : (s : State) (xs : List Step) → IsSound s → Ranked s → Ranked (after s xs)
after_ranked s [] sound is = is
after_ranked s (x ∷ xs) sound is = after_ranked (step s x).1 xs (step_sound s x sound) (step_ranked s x sound is)

pub empty_ranked : (c : Tenant) → Ranked (empty c)
empty_ranked c = record {
  rank = λ n. 0;
  most = 0;
  low = λ n. omega arith;
  stacked = λ a b slot lo hi a_live b_live le. omega arith;
  spawned = λ n m g slot h t k kind n_live m_live. let there = live_there [] n slot h n_live in absurd (omega (arith, there));
}
