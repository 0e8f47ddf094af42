-- Regions on top of their makers, after a change of rows.
use Rattle.std.proofs.Common.{◌≡◌, ℕ, zero, suc, ◌-◌, ◌≤◌, List, [], ◌∷◌, ◌++◌, length, Bool, true, false, refl, sym, ap, ◌∙◌, arith, inl, inr}
use Rattle.std.proofs.lemmas.Bool.{cases_eq, cases_lt}
use Rattle.std.proofs.lemmas.List.{length_push}
use Rattle.tenant_model.specs.declared.rows.Kind.TheVariants.{Region}
use Rattle.tenant_model.specs.declared.rows.Phase.{Phase}
use Rattle.tenant_model.specs.declared.rows.Phase.TheVariants.{Unstarted, Live, Done, Dropped, Faulted}
use Rattle.tenant_model.specs.declared.rows.Row.{Row}
use Rattle.tenant_model.specs.State.{State, row, with_at_number}
use Rattle.tenant_model.specs.Walks.{is_unstarted, is_context_cancelled, height, settled_row, settle}
use Rattle.tenant_model.specs.WellFormed.{AreStacked, StandOnMakers}
use Rattle.tenant_model.proofs.Within.{either_way}
use Rattle.tenant_model.proofs.Changed.{row-past, row-with_same, row-with_other, row-push_old, row-push_new}
use Rattle.tenant_model.proofs.Stacked.{IsOff}
use Rattle.tenant_model.proofs.Insides.{live_there, live_low}
use Rattle.tenant_model.proofs.Parts.{off_live, same_place, row-settle, SameSources-settle, settle-lives}

-- No row starts to wait, and the live rows are where they were.
pub record StartFewer (a b : List Row) : Type 0 where
  pub kinds : (n : ℕ) → (row b n).kind ≡ (row a n).kind
  pub waits : (n : ℕ) → is_unstarted (row b n).phase ≡ true → is_unstarted (row a n).phase ≡ true
  pub lives : (n slot h : ℕ) → (row b n).phase ≡ Live slot h → (row a n).phase ≡ Live slot h
  -- what stands right below a live row stays
  pub stays : (n m slot h : ℕ) → (row b n).phase ≡ Live slot h → (row a m).phase ≡ Live slot (h - 1) → (row b m).phase ≡ Live slot (h - 1)

pub StandOnMakers-fewer : (a b : List Row) → StartFewer a b → StandOnMakers a → StandOnMakers b
StandOnMakers-fewer a b fewer is = record {
  started = λ n m kind. elim (either_way (is_unstarted (row b n).phase)) [
    | inl waits ↦
        let before : is_unstarted (row a n).phase ≡ false = is.started n m (sym (fewer.kinds n) ∙ kind) in
        absurd (grind (arith, before, fewer.waits n waits))
    | inr not_waiting ↦ not_waiting
  ];
  below = λ n m slot h kind live. fewer.stays n m slot h live (is.below n m slot h (sym (fewer.kinds n) ∙ kind) (fewer.lives n slot h live));
}

settled_waits : (r : Row) (b : Bool) (p : Phase) → r.phase ≡ p → is_unstarted (settled_row r b).phase ≡ true → is_unstarted p ≡ true
settled_waits r b Unstarted is waits = refl
settled_waits r b (Live t h) is waits = rw is at waits
settled_waits r b (Done v) is waits = rw is at waits
settled_waits r b Dropped is waits = rw is at waits
settled_waits r b Faulted is waits = rw is at waits

settled_stays : (r : Row) (b : Bool) (slot h : ℕ) → r.phase ≡ Live slot h → (settled_row r b).phase ≡ Live slot h
settled_stays r b slot h live = rw live refl

pub no_row_waits : (n : ℕ) → is_unstarted (row [] n).phase ≡ false
no_row_waits zero = refl
no_row_waits (suc n) = refl

-- a row that waits is there
pub waits_there : (rows : List Row) (n : ℕ) → is_unstarted (row rows n).phase ≡ true → (1 ≤ n) × (n ≤ length rows)
waits_there rows n waits = elim (cases_eq n 0) [
  | inl none ↦ absurd (let no : is_unstarted (row rows n).phase ≡ false = rw none refl in grind (arith, no, waits))
  | inr some ↦ elim (cases_lt (length rows) n) [
    | inl past ↦ absurd (let no : is_unstarted (row rows n).phase ≡ false = rw (row-past rows n past) (no_row_waits n) in grind (arith, no, waits))
    | inr within ↦ (omega (arith, some), within)
  ]
]

pub StartFewer-settle : (s : State) → StartFewer s.rows (settle s).rows
StartFewer-settle s =
    let same = SameSources-settle s in
    record {
      kinds = same.kinds;
      waits = λ n waits.
          let there = waits_there (settle s).rows n waits in
          let here = row-settle s n there.0 (omega (arith, there, same.long)) in
          settled_waits (row s.rows n) (is_context_cancelled s n) (row s.rows n).phase refl (rw here at waits);
      lives = settle-lives s;
      stays = λ n m slot h live below.
          let there = live_there s.rows m slot (h - 1) below in
          rw (row-settle s m there.0 there.1) (settled_stays (row s.rows m) (is_context_cancelled s m) slot (h - 1) below);
    }

module _ (rows : List Row) (n : ℕ) (r : Row) (from : 1 ≤ n) (to : n ≤ length rows) (kind : r.kind ≡ (row rows n).kind) where
  abbrev pub changed : List Row
  changed = with_at_number rows n r

  here : (m : ℕ) → m ≡ n → row changed m ≡ r
  here m same = ap (row changed) same ∙ row-with_same rows n r from to

  kinds_set : (m : ℕ) → (row changed m).kind ≡ (row rows m).kind
  kinds_set m = elim (cases_eq m n) [
    | inl same ↦ ap (λ (q : Row). q.kind) (here m same) ∙ kind ∙ ap (λ k. (row rows k).kind) (sym same)
    | inr other ↦ ap (λ (q : Row). q.kind) (row-with_other rows n m r from other)
  ]

  -- a row whose phase stays
  pub StartFewer-set : r.phase ≡ (row rows n).phase → StartFewer rows changed
  StartFewer-set phase =
      let same : (m : ℕ) → (row changed m).phase ≡ (row rows m).phase = λ m. elim (cases_eq m n) [
        | inl same ↦ ap (λ (q : Row). q.phase) (here m same) ∙ phase ∙ ap (λ k. (row rows k).phase) (sym same)
        | inr other ↦ ap (λ (q : Row). q.phase) (row-with_other rows n m r from other)
      ] in
      record {
        kinds = kinds_set;
        waits = λ m waits. ap is_unstarted (sym (same m)) ∙ waits;
        lives = λ m slot h live. sym (same m) ∙ live;
        stays = λ m k slot h live below. same k ∙ below;
      }

  -- the topmost row of a slot, which leaves it and waits for nothing
  pub StartFewer-done : (slot : ℕ) → (row rows n).phase ≡ Live slot (height rows slot) → IsOff r.phase → is_unstarted r.phase ≡ false → AreStacked rows → StartFewer rows changed
  StartFewer-done slot top off started stacked =
      let other_lives : (m t h : ℕ) → (row changed m).phase ≡ Live t h → (row rows m).phase ≡ Live t h = λ m t h live. elim (cases_eq m n) [
        | inl same ↦ absurd (off_live off (ap (λ (q : Row). q.phase) (sym (here m same)) ∙ live))
        | inr other ↦ ap (λ (q : Row). q.phase) (sym (row-with_other rows n m r from other)) ∙ live
      ] in
      record {
        kinds = kinds_set;
        waits = λ m waits. elim (cases_eq m n) [
          | inl same ↦ absurd (let no : is_unstarted (row changed m).phase ≡ false = rw (here m same) started in grind (arith, no, waits))
          | inr other ↦ ap (λ (q : Row). is_unstarted q.phase) (sym (row-with_other rows n m r from other)) ∙ waits
        ];
        lives = other_lives;
        stays = λ m k t h live below. elim (cases_eq k n) [
          | inl same ↦
              let place = same_place slot (height rows slot) t (h - 1) (sym top ∙ ap (λ i. (row rows i).phase) (sym same) ∙ below) in
              let low = live_low rows stacked m t h (other_lives m t h live) in
              let e : height rows t ≡ height rows slot = ap (height rows) (sym place.0) in
              absurd (omega (arith, place, low, e))
          | inr other ↦ ap (λ (q : Row). q.phase) (row-with_other rows n k r from other) ∙ below
        ];
      }

  -- a waiting row that stands on a slot now
  pub StandOnMakers-nest : IsOff (row rows n).phase → is_unstarted (row rows n).phase ≡ true → is_unstarted r.phase ≡ false → StandOnMakers rows → StandOnMakers changed
  StandOnMakers-nest off waits started is =
      let no_region : (m : ℕ) → (row rows n).kind ≡ Region m → ⊥ = λ m kind. let no = is.started n m kind in absurd (grind (arith, no, waits)) in
      record {
        started = λ x m kind. elim (cases_eq x n) [
          | inl same ↦ rw (here x same) started
          | inr other ↦ ap (λ (q : Row). is_unstarted q.phase) (row-with_other rows n x r from other) ∙ is.started x m (sym (kinds_set x) ∙ kind)
        ];
        below = λ x m slot h kind live. elim (cases_eq x n) [
          | inl same ↦ absurd (no_region m (ap (λ k. (row rows k).kind) (sym same) ∙ sym (kinds_set x) ∙ kind))
          | inr other ↦
              let before : (row rows m).phase ≡ Live slot (h - 1) = is.below x m slot h (sym (kinds_set x) ∙ kind) (ap (λ (q : Row). q.phase) (sym (row-with_other rows n x r from other)) ∙ live) in
              elim (cases_eq m n) [
                | inl same ↦ absurd (off_live off (ap (λ k. (row rows k).phase) (sym same) ∙ before))
                | inr apart ↦ ap (λ (q : Row). q.phase) (row-with_other rows n m r from apart) ∙ before
              ]
        ];
      }

-- a new row, which is no region that waits, and a region on top of its maker
pub StandOnMakers-push : (rows : List Row) (r : Row) → ((m : ℕ) → r.kind ≡ Region m → is_unstarted r.phase ≡ false) →
    ((m slot h : ℕ) → r.kind ≡ Region m → r.phase ≡ Live slot h → (row rows m).phase ≡ Live slot (h - 1)) → StandOnMakers rows → StandOnMakers (rows ++ r ∷ [])
StandOnMakers-push rows r started below is =
    let all = rows ++ r ∷ [] in
    record {
      started = λ x m kind. elim (either_way (is_unstarted (row all x).phase)) [
        | inr not_waiting ↦ not_waiting
        | inl waits ↦
            let there = waits_there all x waits in
            elim (cases_lt (length rows) x) [
              | inl after ↦
                  let new = row-push_new rows x r (omega (arith, after, there, length_push rows r)) in
                  let no : is_unstarted (row all x).phase ≡ false = rw new (started m (ap (λ (q : Row). q.kind) (sym new) ∙ kind)) in
                  no
              | inr before ↦
                  let old = row-push_old rows x r before in
                  rw old (is.started x m (ap (λ (q : Row). q.kind) (sym old) ∙ kind))
            ]
      ];
      below = λ x m slot h kind live.
          let there = live_there all x slot h live in
          let stood : (row rows m).phase ≡ Live slot (h - 1) = elim (cases_lt (length rows) x) [
            | inl after ↦
                let new = row-push_new rows x r (omega (arith, after, there, length_push rows r)) in
                below m slot h (ap (λ (q : Row). q.kind) (sym new) ∙ kind) (ap (λ (q : Row). q.phase) (sym new) ∙ live)
            | inr before ↦
                let old = row-push_old rows x r before in
                is.below x m slot h (ap (λ (q : Row). q.kind) (sym old) ∙ kind) (ap (λ (q : Row). q.phase) (sym old) ∙ live)
          ] in
          ap (λ (q : Row). q.phase) (row-push_old rows m r (live_there rows m slot (h - 1) stood).1) ∙ stood;
    }
