-- How the rows that wait stay filed while rows and contexts change.
use Rattle.std.proofs.Common.{◌≡◌, ◌≢◌, ◌⊎◌, ◌+◌, ◌<◌, ◌≤◌, ℕ, suc, true, false, if◌then◌else◌, List, [], Option, Some, None, is_some, length, refl, sym, ◌∙◌, ap, subst, inl, inr, arith}
use Rattle.std.specs.Option.{option_eq}
use lib.Dec.{eqb}
use Rattle.std.specs.Prelude.{Contains, nat_lt, option_map, slice_index_or, slice_set}
use Rattle.std.proofs.lemmas.Bool.Decides.{eqb_tells, leb_tells}
use Rattle.std.proofs.lemmas.List.{get_or-set_same, get_or-set_other, get_or_past, length-set}
use Rattle.cancel_context.specs.Forest.{Forest, binding, IsForest, IsHeld, is_cancelled, without}
use Rattle.cancel_context.proofs.Noted.{unheld-fine}
use Rattle.cancel_context.proofs.Released.{binding-without}
use Rattle.place_lists.specs.Filing.{Filing, filed_in, with_filed}
use Rattle.place_lists.proofs.Filed.{filed-within}
use Rattle.tenant_model.proofs.Within.{either_way}
use Rattle.arena_rows.specs.declared.rows.OpenRow.{OpenRow}
use Rattle.arena_rows.specs.OpenRows.{OpenRows, changed_at, is_waiting, list_of_context, list_for, IsFiled, AreFiled}

lt_cases : (c n : ℕ) → ((nat_lt c n ≡ true) × (c < n)) ⊎ ((nat_lt c n ≡ false) × (n ≤ c))
lt_cases c n = elim (leb_tells (suc c) n) [ inl h ↦ inl (h.0, omega (arith, h.1)) | inr h ↦ inr (h.0, omega (arith, h.1)) ]

some_same : {A : Type 0} (x y : A) → Some x ≡ Some y → x ≡ y
some_same x y e = cc

-- what a comparison with `Some d` tells
pub eq_some : (o : Option ℕ) (d : ℕ) → option_eq eqb o (Some d) ≡ true → o ≡ Some d
eq_some None d e = cc
eq_some (Some x) d e = elim (eqb_tells x d) [ inl s ↦ ap Some s.1 | inr ne ↦ let wrong : false ≡ true = sym ne.0 ∙ e in cc ]

pub eq_none : (o : Option ℕ) (d : ℕ) → option_eq eqb o (Some d) ≡ false → o ≢ Some d
eq_none None d e is = cc
eq_none (Some x) d e is = elim (eqb_tells x d) [ inl s ↦ let wrong : true ≡ false = sym s.0 ∙ e in cc | inr ne ↦ ne.1 (some_same x d is) ]

-- a row that waits is filed where it is found
filed_by_context : (forest : Forest) (c : ℕ) → IsFiled forest (list_of_context forest c) c
filed_by_context forest c =
    let n = length forest in
    let rest : Option ℕ = if nat_lt c n then Some c else None in
    elim (either_way (is_cancelled forest c)) [
      | inl cancelled ↦ inl (ap (λ b. if b then Some n else rest) cancelled)
      | inr fine ↦
          let at : list_of_context forest c ≡ rest = ap (λ b. if b then Some n else rest) fine in
          elim (lt_cases c n) [
            | inl within ↦ inr (fine, inl (at ∙ ap (λ b. if b then Some c else None) within.0))
            | inr past ↦ inr (fine, inr past.1)
          ]
    ]

pub filed_for : (forest : Forest) (e : OpenRow) → is_waiting e.stage ≡ true → IsFiled forest (list_for forest (Some e)) e.context
filed_for forest e waits = subst (λ l. IsFiled forest l e.context) (sym (ap (λ b. if b then list_of_context forest e.context else None) waits)) (filed_by_context forest e.context)

filed_own : (forest : Forest) (o : Option OpenRow) (e : OpenRow) → o ≡ Some e → is_waiting e.stage ≡ true → IsFiled forest (list_for forest o) e.context
filed_own forest o e is waits = subst (λ x. IsFiled forest (list_for forest x) e.context) (sym is) (filed_for forest e waits)

-- a row is filed in a list that is there
pub list_within : (forest : Forest) (o : Option OpenRow) (l : ℕ) → list_for forest o ≡ Some l → l < length forest + 1
list_within forest None l e = cc
list_within forest (Some x) l e =
    let n = length forest in
    let rest : Option ℕ = if nat_lt x.context n then Some x.context else None in
    let by_context : Option ℕ = list_of_context forest x.context in
    elim (either_way (is_waiting x.stage)) [
      | inr live ↦ let wrong : None ≡ Some l = sym (ap (λ b. if b then by_context else None) live) ∙ e in cc
      | inl waits ↦
          let at : by_context ≡ Some l = sym (ap (λ b. if b then by_context else None) waits) ∙ e in
          elim (either_way (is_cancelled forest x.context)) [
            | inl cancelled ↦ let same : n ≡ l = some_same n l (sym (ap (λ b. if b then Some n else rest) cancelled) ∙ at) in omega arith
            | inr fine ↦
                let there : rest ≡ Some l = sym (ap (λ b. if b then Some n else rest) fine) ∙ at in
                elim (lt_cases x.context n) [
                  | inl within ↦ let same : x.context ≡ l = some_same x.context l (sym (ap (λ b. if b then Some x.context else None) within.0) ∙ there) in let low = within.1 in omega arith
                  | inr past ↦ let wrong : None ≡ Some l = sym (ap (λ b. if b then Some x.context else None) past.0) ∙ there in cc
                ]
          ]
    ]

-- what is filed with the doomed by a look at it waits, and its context is cancelled
pub doomed_by : (forest : Forest) (o : Option OpenRow) → list_for forest o ≡ Some (length forest) → (e : OpenRow) × (o ≡ Some e) × (is_waiting e.stage ≡ true) × (is_cancelled forest e.context ≡ true)
doomed_by forest None e = cc
doomed_by forest (Some x) e =
    let n = length forest in
    let rest : Option ℕ = if nat_lt x.context n then Some x.context else None in
    let by_context : Option ℕ = list_of_context forest x.context in
    elim (either_way (is_waiting x.stage)) [
      | inr live ↦ let wrong : None ≡ Some n = sym (ap (λ b. if b then by_context else None) live) ∙ e in cc
      | inl waits ↦
          let at : by_context ≡ Some n = sym (ap (λ b. if b then by_context else None) waits) ∙ e in
          elim (either_way (is_cancelled forest x.context)) [
            | inl cancelled ↦ (x, refl, waits, cancelled)
            | inr fine ↦
                let there : rest ≡ Some n = sym (ap (λ b. if b then Some n else rest) fine) ∙ at in
                elim (lt_cases x.context n) [
                  | inl within ↦ let same : x.context ≡ n = some_same x.context n (sym (ap (λ b. if b then Some x.context else None) within.0) ∙ there) in let low = within.1 in absurd (omega arith)
                  | inr past ↦ let wrong : None ≡ Some n = sym (ap (λ b. if b then Some x.context else None) past.0) ∙ there in cc
                ]
          ]
    ]

-- the open rows after the row at a place has changed
pub changed_rows : (now : OpenRows) (table : List (Option OpenRow)) (forest : Forest) (p : ℕ) (f : OpenRow → OpenRow) (e : OpenRow) →
    (let old : OpenRows = record { table = table; contexts = forest } in old) ≡ now → slice_index_or table p None ≡ Some e
    → (let new : OpenRows = record { table = slice_set table p (Some (f e)); contexts = forest } in new) ≡ record now { table = changed_at now.table p f }
changed_rows now table forest p f e is there =
    let with_it : Option OpenRow → OpenRows = λ o. record { table = slice_set table p (option_map f o); contexts = forest } in
    let changed : OpenRows → OpenRows = λ r. record r { table = changed_at r.table p f } in
    ap with_it (sym there) ∙ ap changed is

module _ (table : List (Option OpenRow)) (forest : Forest) (filing : Filing) (doomed : ℕ) (turned : List ℕ) (k : AreFiled table forest filing doomed turned) where
  -- the row at a place waits as it did, under the same context
  pub same_filed : (p : ℕ) (e x : OpenRow) → p < length table → slice_index_or table p None ≡ Some e → x.stage ≡ e.stage → x.context ≡ e.context →
      AreFiled (slice_set table p (Some x)) forest filing doomed turned
  same_filed p e x within here stage context = record {
    places = k.places ∙ sym (length-set table p (Some x));
    lists = k.lists;
    doomed_last = k.doomed_last;
    none_turned = k.none_turned;
    sound = k.sound;
    each = λ q y there waits. elim (eqb_tells q p) [
      | inl s ↦
          let is : x ≡ y = some_same x y (sym (get_or-set_same table p (Some x) None within) ∙ ap (λ n. slice_index_or (slice_set table p (Some x)) n None) (sym s.1) ∙ there) in
          let waited : is_waiting e.stage ≡ true = ap is_waiting (sym stage) ∙ ap (λ (z : OpenRow). is_waiting z.stage) is ∙ waits in
          let filed : IsFiled forest (filed_in filing p) e.context = k.each p e here waited in
          subst (λ n. IsFiled forest (filed_in filing n) y.context) (sym s.1) (subst (IsFiled forest (filed_in filing p)) (sym context ∙ ap (λ (z : OpenRow). z.context) is) filed)
      | inr ne ↦ k.each q y (sym (get_or-set_other table p q (Some x) None ne.1) ∙ there) waits
    ];
  }

  -- a row at a place, or nothing
  pub set_filed : (p : ℕ) (o : Option OpenRow) → p < length table → AreFiled (slice_set table p o) forest (with_filed filing p (list_for forest o)) doomed turned
  set_filed p o within = record {
    places = length-set filing.by_place p (list_for forest o) ∙ k.places ∙ sym (length-set table p o);
    lists = k.lists;
    doomed_last = k.doomed_last;
    none_turned = k.none_turned;
    sound = k.sound;
    each = λ q e there waits. elim (eqb_tells q p) [
      | inl s ↦
          let is : o ≡ Some e = sym (get_or-set_same table p o None within) ∙ ap (λ x. slice_index_or (slice_set table p o) x None) (sym s.1) ∙ there in
          let at : filed_in (with_filed filing p (list_for forest o)) q ≡ list_for forest o =
          ap (filed_in (with_filed filing p (list_for forest o))) s.1 ∙ get_or-set_same filing.by_place p (list_for forest o) None (omega (arith, within, k.places)) in
          subst (λ l. IsFiled forest l e.context) (sym at) (filed_own forest o e is waits)
      | inr ne ↦ subst (λ l. IsFiled forest l e.context) (sym (get_or-set_other filing.by_place p q (list_for forest o) None ne.1))
          (k.each q e (sym (get_or-set_other table p q o None ne.1) ∙ there) waits)
    ];
  }

  -- a place looked at and filed anew
  pub refiled : (p l : ℕ) → filed_in filing p ≡ Some l → AreFiled table forest (with_filed filing p (list_for forest (slice_index_or table p None))) doomed turned
  refiled p l filed =
      let o = slice_index_or table p None in
      record {
        places = length-set filing.by_place p (list_for forest o) ∙ k.places;
        lists = k.lists;
        doomed_last = k.doomed_last;
        none_turned = k.none_turned;
        sound = k.sound;
        each = λ q e there waits. elim (eqb_tells q p) [
          | inl s ↦
              let is : o ≡ Some e = ap (λ x. slice_index_or table x None) (sym s.1) ∙ there in
              let at : filed_in (with_filed filing p (list_for forest o)) q ≡ list_for forest o =
              ap (filed_in (with_filed filing p (list_for forest o))) s.1 ∙ get_or-set_same filing.by_place p (list_for forest o) None (filed-within filing.by_place p l filed) in
              subst (λ l. IsFiled forest l e.context) (sym at) (filed_own forest o e is waits)
          | inr ne ↦ subst (λ l. IsFiled forest l e.context) (sym (get_or-set_other filing.by_place p q (list_for forest o) None ne.1)) (k.each q e there waits)
        ];
      }

  -- where nothing is with the doomed, no row waits whose context is cancelled
  pub none_doomed : ((p : ℕ) → filed_in filing p ≢ Some doomed) → (p : ℕ) (e : OpenRow) → slice_index_or table p None ≡ Some e → is_waiting e.stage ≡ true → is_cancelled forest e.context ≡ false
  none_doomed none p e there waits = elim (k.each p e there waits) [ inl with_them ↦ absurd (none p (with_them ∙ ap Some (sym k.doomed_last))) | inr other ↦ other.0 ]

  -- the contexts change, and the rows that wait are filed as is right then
  module _ (after : Forest) (filing_after : Filing) (long : length after ≡ length forest) (sound : IsForest after) (places : length filing_after.by_place ≡ length filing.by_place)
      (lists : filing_after.lists ≡ filing.lists) where
    kept : ((p c : ℕ) → IsFiled forest (filed_in filing p) c → IsFiled after (filed_in filing_after p) c) → AreFiled table after filing_after doomed []
    kept step = record {
      places = places ∙ k.places;
      lists = lists ∙ k.lists ∙ ap (λ n. n + 1) (sym long);
      doomed_last = k.doomed_last ∙ sym long;
      none_turned = refl;
      sound = sound;
      each = λ p e there waits. step p e.context (k.each p e there waits);
    }

    past_fine : (c : ℕ) → length forest ≤ c → is_cancelled after c ≡ false
    past_fine c past = unheld-fine after c sound (ap is_some (get_or_past after c None (omega (arith, past, long))))

    -- a context more
    pub bound_filed : (r : ℕ) → r < length after → ((c : ℕ) → c ≢ r → is_cancelled after c ≡ is_cancelled forest c) → ((p : ℕ) → filed_in filing p ≡ Some r → filed_in filing_after p ≡ Some doomed) →
        ((p : ℕ) → filed_in filing p ≢ Some r → filed_in filing_after p ≡ filed_in filing p) → AreFiled table after filing_after doomed []
    bound_filed r within others moved stays = kept (λ p c filed. elim filed [
      | inl with_them ↦ inl (stays p (λ e. let same : length forest ≡ r = some_same (length forest) r (sym with_them ∙ e) in absurd (omega (arith, same, within, long))) ∙ with_them ∙
          ap Some (sym long))
      | inr fine ↦ elim (eqb_tells c r) [
        | inl s ↦ elim (fine.1) [
          | inl at ↦ inl (moved p (at ∙ ap Some s.1) ∙ ap Some (k.doomed_last ∙ sym long))
          | inr past ↦ absurd (omega (arith, past, s.1, within, long))
        ]
        | inr ne ↦ inr (
          others c ne.1 ∙ fine.0,
          elim (fine.1) [
            | inl at ↦ inl (stays p (λ e. ne.1 (some_same c r (sym at ∙ e))) ∙ at)
            | inr past ↦ inr (omega (arith, past, long))
          ],
        )
      ]
    ])

    -- contexts that are cancelled, all of which were noted
    pub cancelled_filed : (noted : List ℕ) → ((c : ℕ) → is_cancelled after c ≡ true → is_cancelled forest c ≡ false → Contains noted c) →
        ((p c : ℕ) → Contains noted c → filed_in filing p ≡ Some c → filed_in filing_after p ≡ Some doomed) →
        ((p : ℕ) → (filed_in filing_after p ≡ filed_in filing p) ⊎ (filed_in filing_after p ≡ Some doomed)) → AreFiled table after filing_after doomed []
    cancelled_filed noted all moved others =
        let doomed_now : (p : ℕ) → filed_in filing_after p ≡ Some doomed → filed_in filing_after p ≡ Some (length after) = λ p e. e ∙ ap Some (k.doomed_last ∙ sym long) in
        kept (λ p c filed. elim filed [
          | inl with_them ↦ elim (others p) [ inl same ↦ inl (same ∙ with_them ∙ ap Some (sym long)) | inr gone ↦ inl (doomed_now p gone) ]
          | inr fine ↦ elim (fine.1) [
            | inl at ↦ elim (either_way (is_cancelled after c)) [
              | inl cancelled ↦ inl (doomed_now p (moved p c (all c cancelled fine.0) at))
              | inr still ↦ elim (others p) [ inl same ↦ inr (still, inl (same ∙ at)) | inr gone ↦ inl (doomed_now p gone) ]
            ]
            | inr past ↦ inr (past_fine c past, inr (omega (arith, past, long)))
          ]
        ])

    -- no context more is cancelled
    pub calmed_filed : ((c : ℕ) → is_cancelled forest c ≡ false → is_cancelled after c ≡ false) → ((p : ℕ) → filed_in filing_after p ≡ filed_in filing p) → AreFiled table after filing_after doomed []
    calmed_filed calm same = kept (λ p c filed. elim filed [
      | inl with_them ↦ inl (same p ∙ with_them ∙ ap Some (sym long))
      | inr fine ↦ inr (calm c fine.0, elim (fine.1) [ inl at ↦ inl (same p ∙ at) | inr past ↦ inr (omega (arith, past, long)) ])
    ])

-- a request that is taken back calms
pub reset_calms : (forest after : Forest) → ((c : ℕ) → is_cancelled after c ≡ true → is_cancelled forest c ≡ true) → (c : ℕ) → is_cancelled forest c ≡ false → is_cancelled after c ≡ false
reset_calms forest after no_more c fine = elim (either_way (is_cancelled after c)) [
  | inl cancelled ↦ let wrong : true ≡ false = sym (no_more c cancelled) ∙ fine in cc
  | inr calm ↦ calm
]

-- and so does a context that is released
pub release_calms : (forest after : Forest) (r : ℕ) → IsForest after → IsHeld forest r → after ≡ without forest r → ((c : ℕ) → c ≢ r → is_cancelled after c ≡ is_cancelled forest c) → (c : ℕ) →
    is_cancelled forest c ≡ false → is_cancelled after c ≡ false
release_calms forest after r sound held is others c fine = elim (eqb_tells c r) [
  | inl s ↦ unheld-fine after c sound (ap is_some (ap (λ (f : Forest). binding f c) is ∙ ap (binding (without forest r)) s.1 ∙ binding-without forest r held))
  | inr ne ↦ others c ne.1 ∙ fine
]
