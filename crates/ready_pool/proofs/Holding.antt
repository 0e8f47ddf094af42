-- What is known of the rows that are held, and that a row that comes or goes leaves them held.
use Rattle.std.proofs.Common.{◌≡◌, ◌≢◌, ◌<◌, ◌≤◌, ◌+◌, ◌*◌, ◌==◌, ◌&&◌, Bool, true, false, ℕ, suc, not, if◌then◌else◌, List, [], ◌∷◌, ◌++◌, length, Option, Some, None, is_some, count_by, refl, sym}
use Rattle.std.proofs.Common.{◌∙◌, ap, subst, inl, inr, filter, arith, length-set}
use Rattle.std.specs.Prelude.{All, slice_index_or, slice_set}
use Rattle.std.specs.List.{filter_map, cons_option}
use Rattle.std.proofs.lemmas.Bool.Decides.{eqb_tells}
use Rattle.std.proofs.lemmas.List.{get_or-set_same, get_or-set_other, length_push}
use Rattle.std.proofs.lemmas.List.Quantifiers.{all_pairs_push}
use Rattle.std.proofs.lemmas.List.Kept.{AllPairs-filter}
use Rattle.job_language.specs.declared.tenants.TheConstants.{MAX_SLOTS, MAX_ROWS}
use Rattle.place_lists.specs.Lists.{Lists, list_in, without}
use Rattle.region_tag.specs.declared.row_id.RowId.{RowId}
use Rattle.slab.specs.Slab.{Slab, get, slab_len, Updates}
use Rattle.ready_pool.specs.declared.pool.Waiting.{Waiting}
use Rattle.ready_pool.specs.Ready.{AreRising, is_of, is_made_on}
use Rattle.ready_pool.specs.Parts.{PoolParts, HoldsRows, AreListed, AreAlike, Waits, row_at, rows_of, place_of, positions_of, all_key, slot_key, region_key, both_key, extended}
use Rattle.ready_pool.proofs.Rows.{tells, same-row, filter-yes, filter-no, filter-every, Waits-of_All, Waits-append, Waits-before, Waits-last, Waits-filter, Waits-kept}
use Rattle.ready_pool.proofs.Keyed.{listed-joined, listed-left}

pub eqb-same : (n m : ℕ) → n ≡ m → (n == m) ≡ true
eqb-same n m e = elim (eqb_tells n m) [ inl h ↦ h.0 | inr h ↦ absurd (h.1 e) ]

pub eqb-other : (n m : ℕ) → n ≢ m → (n == m) ≡ false
eqb-other n m e = elim (eqb_tells n m) [ inl h ↦ absurd (e h.1) | inr h ↦ h.0 ]

pub and-false : (b : Bool) → (b && false) ≡ false
and-false true = refl
and-false false = refl

-- lists that are all empty
pub record IsNone (count places : ℕ) (lists : Lists) : Type 0 where
  pub count_is : length lists.lists ≡ count
  pub places_are : lists.places ≡ places
  pub empty : (l : ℕ) → list_in lists l ≡ []

rows-there : (seat : Waiting → ℕ) (table : List (Option Waiting)) (rows : List Waiting) → ((w : Waiting) → Waits rows w → row_at table (seat w) ≡ Some w) →
    filter_map (row_at table) (positions_of seat rows) ≡ rows
rows-there seat table [] there = refl
rows-there seat table (x ∷ xs) there =
    ap (λ o. cons_option o (filter_map (row_at table) (positions_of seat xs))) (there x (inl refl)) ∙ ap (λ l. x ∷ l) (rows-there seat table xs (λ w i. there w (inr i)))

positions-same : (seat now : Waiting → ℕ) (rows : List Waiting) → ((w : Waiting) → Waits rows w → seat w ≡ now w) → positions_of seat rows ≡ positions_of now rows
positions-same seat now [] same = refl
positions-same seat now (x ∷ xs) same = ap (λ p. p ∷ positions_of seat xs) (same x (inl refl)) ∙ ap (λ l. now x ∷ l) (positions-same seat now xs (λ w i. same w (inr i)))

-- lists before and after a position comes at the end of one of them
pub record AreJoined (list : Option ℕ) (position : ℕ) (before after : Lists) : Type 0 where
  pub joined : (l : ℕ) → list_in after l ≡ extended list position l (list_in before l)
  pub count : length after.lists ≡ length before.lists
  pub places : after.places ≡ before.places

-- lists before and after a position leaves
pub record AreLeft (position : ℕ) (before after : Lists) : Type 0 where
  pub left : (l : ℕ) → list_in after l ≡ without position (list_in before l)
  pub count : length after.lists ≡ length before.lists
  pub places : after.places ≡ before.places

joined-listed : (seat now : Waiting → ℕ) (key : Waiting → Option ℕ) (count places after_places : ℕ) (before after : Lists) (rows : List Waiting) (w : Waiting) (position : ℕ) →
    ((v : Waiting) → Waits rows v → seat v ≡ now v) → now w ≡ position → after_places ≡ places → AreListed seat key count places before rows → AreJoined (key w) position before after →
    AreListed now key count after_places after (rows ++ w ∷ [])
joined-listed seat now key count places after_places before after rows w position same here room k j =
    let of : ℕ → Waiting → Bool = λ l v. is_made_on l (key v) in
    let moved : AreListed now key count after_places before rows = record {
      count_is = k.count_is;
      places_are = k.places_are ∙ sym room;
      listed = λ l. k.listed l ∙ positions-same seat now (filter (of l) rows) (λ v i. same v (Waits-filter (of l) rows v i).0);
    } in
    listed-joined now key count after_places before rows moved after j.count j.places w (λ l. j.joined l ∙ ap (λ p. extended (key w) p l (list_in before l)) (sym here))

left-listed : (seat : Waiting → ℕ) (key : Waiting → Option ℕ) (count places after_places : ℕ) (before after : Lists) (rows : List Waiting) (gone : Waiting → Bool) (position : ℕ) →
    ((w : Waiting) → Waits rows w → gone w ≡ (seat w == position)) → after_places ≡ places → AreListed seat key count places before rows → AreLeft position before after →
    AreListed seat key count after_places after (filter (λ w. not (gone w)) rows)
left-listed seat key count places after_places before after rows gone position same room k j =
    let moved : AreListed seat key count after_places before rows = record { count_is = k.count_is; places_are = k.places_are ∙ sym room; listed = k.listed } in
    listed-left seat key count after_places before rows moved after j.count j.places gone position same j.left

rising-head : (x : Waiting) (xs : List Waiting) → AreRising (x ∷ xs) → (v : Waiting) → Waits xs v → x.row.number < v.row.number
rising-head x xs rising = Waits-of_All (λ (u : Waiting). x.row.number < u.row.number) xs (λ k d below. rising 0 (suc k) d (omega arith) (omega (arith, below)))

rising-tail : (x : Waiting) (xs : List Waiting) → AreRising (x ∷ xs) → AreRising xs
rising-tail x xs rising i j d before below = rising (suc i) (suc j) d (omega (arith, before)) (omega (arith, below))

-- One row is gone, and no other.
one-gone : (gone : Waiting → Bool) (rows : List Waiting) (w : Waiting) → AreRising rows → Waits rows w → gone w ≡ true → ((v : Waiting) → Waits rows v → gone v ≡ true → v ≡ w) →
    length (filter (λ v. not (gone v)) rows) + 1 ≡ length rows
one-gone gone [] w rising i is only = absurd i
one-gone gone (x ∷ xs) w rising i is only =
    let stays : Waiting → Bool = λ v. not (gone v) in
    elim (tells (gone x)) [
      | inl h ↦
          let later : (v : Waiting) → Waits xs v → gone v ≡ false = λ v j.
          elim (tells (gone v)) [
            | inl g ↦
                let same : v ≡ x = only v (inr j) g ∙ sym (only x (inl refl) h) in
                let above : x.row.number < v.row.number = rising-head x xs rising v j in
                let equal : v.row.number ≡ x.row.number = ap (λ (u : Waiting). u.row.number) same in
                absurd (omega arith)
            | inr g ↦ g
          ] in
          let rest : filter stays (x ∷ xs) ≡ xs = filter-no stays x xs (ap not h) ∙ filter-every stays xs (λ v j. ap not (later v j)) in
          omega (arith, ap length rest)
      | inr h ↦
          let away : Waits xs w = elim i [ inl e ↦ let wrong : true ≡ false = sym is ∙ ap gone (sym e) ∙ h in cc | inr j ↦ j ] in
          omega (arith, ap length (filter-yes stays x xs (ap not h)), one-gone gone xs w (rising-tail x xs rising) away is (λ v j. only v (inr j)))
    ]

module _ (limit : ℕ) (held : PoolParts) (rows : List Waiting) (k : HoldsRows limit held rows) where
  pub rows_of-is : rows_of held.nodes.slots held.all ≡ rows
  rows_of-is =
      let listed : list_in held.all 0 ≡ positions_of k.seat rows = k.all_listed.listed 0 ∙ ap (positions_of k.seat) (filter-every (λ w. 0 == 0) rows (λ w i. refl)) in
      ap (filter_map (row_at held.nodes.slots)) listed ∙ rows-there k.seat held.nodes.slots rows k.there

  pub only : (v w : Waiting) → Waits rows v → Waits rows w → k.seat v ≡ k.seat w → v ≡ w
  only v w i j e = let both : Some v ≡ Some w = sym (k.there v i) ∙ ap (row_at held.nodes.slots) e ∙ k.there w j in cc

  pub only-place : (v w : Waiting) → Waits rows v → Waits rows w → v.row.place ≡ w.row.place → v ≡ w
  only-place v w i j e = only v w i j (sym (k.noted v i).1 ∙ ap (λ n. slice_index_or held.positions n 0) e ∙ (k.noted w j).1)

  module _ (w : Waiting) (newest : All (λ (v : Waiting). v.row.number < w.row.number) rows) (place : w.row.place < limit) (free : All (λ (v : Waiting). v.row.place ≢ w.row.place) rows)
      (alike : AreAlike (rows ++ w ∷ [])) (position : ℕ) (after : Slab Waiting) (vacant : get held.nodes position ≡ None) (updates : Updates held.nodes after position (Some w))
      (more : slab_len after ≡ slab_len held.nodes + 1) (capacity : after.capacity ≡ held.nodes.capacity) where
    -- where the rows are after this one came
    abbrev now : Waiting → ℕ
    now v = if v.row.place == w.row.place then position else k.seat v

    now-old : (v : Waiting) → Waits rows v → k.seat v ≡ now v
    now-old v i = sym (ap (λ b. if b then position else k.seat v) (eqb-other v.row.place w.row.place (Waits-of_All (λ (u : Waiting). u.row.place ≢ w.row.place) rows free v i)))

    now-new : now w ≡ position
    now-new = ap (λ b. if b then position else k.seat w) (eqb-same w.row.place w.row.place refl)

    apart : (v : Waiting) → Waits rows v → k.seat v ≢ position
    apart v i e = let wrong : Some v ≡ None = sym (k.there v i) ∙ ap (get held.nodes) e ∙ vacant in cc

    put-there : (v : Waiting) → Waits (rows ++ w ∷ []) v → row_at after.slots (now v) ≡ Some v
    put-there v i =
        elim (Waits-append rows w v i) [
          | inl j ↦ ap (get after) (sym (now-old v j)) ∙ updates.others (k.seat v) (apart v j) ∙ k.there v j
          | inr e ↦ subst (λ (u : Waiting). get after (now u) ≡ Some u) e (ap (get after) now-new ∙ updates.changed)
        ]

    put-waits : (p : ℕ) (v : Waiting) → row_at after.slots p ≡ Some v → Waits (rows ++ w ∷ []) v × (now v ≡ p)
    put-waits p v e =
        elim (eqb_tells p position) [
          | inl h ↦
              let here : Some w ≡ Some v = sym updates.changed ∙ ap (get after) (sym h.1) ∙ e in
              let same : w ≡ v = cc in
              (subst (λ u. Waits (rows ++ w ∷ []) u) same (Waits-last rows w), ap now (sym same) ∙ now-new ∙ sym h.1)
          | inr h ↦
              let there = k.waits p v (sym (updates.others p h.1) ∙ e) in
              (Waits-before rows w v there.0, sym (now-old v there.0) ∙ there.1)
        ]

    abbrev pub put_positions : List ℕ
    put_positions = slice_set held.positions w.row.place position

    put-noted : (v : Waiting) → Waits (rows ++ w ∷ []) v → (v.row.place < length put_positions) × (slice_index_or put_positions v.row.place 0 ≡ now v)
    put-noted v i =
        let long : length put_positions ≡ length held.positions = length-set held.positions w.row.place position in
        elim (Waits-append rows w v i) [
          | inl j ↦ (
            omega (arith, long, (k.noted v j).0),
            get_or-set_other held.positions w.row.place v.row.place position 0 (Waits-of_All (λ (u : Waiting). u.row.place ≢ w.row.place) rows free v j) ∙ (k.noted v j).1 ∙ now-old v j,
          )
          | inr e ↦ subst (λ (u : Waiting). (u.row.place < length put_positions) × (slice_index_or put_positions u.row.place 0 ≡ now u)) e
              (omega (arith, long, k.size, place), get_or-set_same held.positions w.row.place position 0 (omega (arith, k.size, place)) ∙ sym now-new)
        ]

    pub held-put : (all by_slot by_region by_both : Lists) → AreJoined (Some 0) position held.all all → AreJoined w.made_on position held.by_slot by_slot →
        AreJoined (place_of w.region) position held.by_region by_region → AreJoined (both_key held.slots w) position held.by_both by_both →
        HoldsRows limit (record { slots = held.slots; nodes = after; positions = put_positions; all = all; by_slot = by_slot; by_region = by_region; by_both = by_both }) (rows ++ w ∷ [])
    held-put all by_slot by_region by_both a s r b = record {
      seat = now;
      size = length-set held.positions w.row.place position ∙ k.size;
      few = k.few;
      few_slots = k.few_slots;
      rising = all_pairs_push (λ (v u : Waiting). v.row.number < u.row.number) rows w k.rising newest;
      alike = alike;
      there = put-there;
      waits = put-waits;
      noted = put-noted;
      count = omega (arith, more, k.count, length_push rows w);
      room = omega (arith, k.room, capacity);
      all_listed = joined-listed k.seat now all_key 1 held.nodes.capacity after.capacity held.all all rows w position now-old now-new capacity k.all_listed a;
      slots_listed = joined-listed k.seat now slot_key held.slots held.nodes.capacity after.capacity held.by_slot by_slot rows w position now-old now-new capacity k.slots_listed s;
      regions_listed = joined-listed k.seat now region_key limit held.nodes.capacity after.capacity held.by_region by_region rows w position now-old now-new capacity k.regions_listed r;
      both_listed = joined-listed k.seat now (both_key held.slots) (limit * held.slots) held.nodes.capacity after.capacity held.by_both by_both rows w position now-old now-new capacity k.both_listed
          b;
    }

  -- A row of this handle is held.
  module _ (row : RowId) (w : Waiting) (here : Waits rows w) (is : is_of row w ≡ true) (after : Slab Waiting) (updates : Updates held.nodes after (k.seat w) None)
      (fewer : slab_len after + 1 ≡ slab_len held.nodes) (capacity : after.capacity ≡ held.nodes.capacity) where
    abbrev position : ℕ
    position = k.seat w

    same-of : (v : Waiting) → Waits rows v → is_of row v ≡ true → v ≡ w
    same-of v i e = only-place v w i here (ap (λ (r : RowId). r.place) (same-row v.row row e ∙ sym (same-row w.row row is)))

    gone-as : (v : Waiting) → Waits rows v → is_of row v ≡ (k.seat v == position)
    gone-as v i =
        elim (eqb_tells (k.seat v) position) [
          | inl h ↦ ap (is_of row) (only v w i here h.1) ∙ is ∙ sym h.0
          | inr h ↦ elim (tells (is_of row v)) [
            | inl e ↦ absurd (h.1 (ap k.seat (same-of v i e)))
            | inr e ↦ e ∙ sym h.0
          ]
        ]

    abbrev pub stays : Waiting → Bool
    stays v = not (is_of row v)

    left-there : (v : Waiting) → Waits (filter stays rows) v → row_at after.slots (k.seat v) ≡ Some v
    left-there v i =
        let there = Waits-filter stays rows v i in
        elim (eqb_tells (k.seat v) position) [
          | inl h ↦ let wrong : true ≡ false = sym there.1 ∙ ap not (gone-as v there.0 ∙ h.0) in cc
          | inr h ↦ updates.others (k.seat v) h.1 ∙ k.there v there.0
        ]

    left-waits : (p : ℕ) (v : Waiting) → row_at after.slots p ≡ Some v → Waits (filter stays rows) v × (k.seat v ≡ p)
    left-waits p v e =
        elim (eqb_tells p position) [
          | inl h ↦ let none : None ≡ Some v = sym (ap (get after) h.1 ∙ updates.changed) ∙ e in cc
          | inr h ↦
              let there = k.waits p v (sym (updates.others p h.1) ∙ e) in
              (Waits-kept stays rows v there.0 (ap not (gone-as v there.0 ∙ eqb-other (k.seat v) position (λ t. h.1 (sym there.1 ∙ t)))), there.1)
        ]

    pub held-left : (all by_slot by_region by_both : Lists) → AreLeft position held.all all → AreLeft position held.by_slot by_slot → AreLeft position held.by_region by_region →
        AreLeft position held.by_both by_both →
        HoldsRows limit (record { slots = held.slots; nodes = after; positions = held.positions; all = all; by_slot = by_slot; by_region = by_region; by_both = by_both }) (filter stays rows)
    held-left all by_slot by_region by_both a s r b = record {
      seat = k.seat;
      size = k.size;
      few = k.few;
      few_slots = k.few_slots;
      rising = AllPairs-filter (λ (v u : Waiting). v.row.number < u.row.number) stays rows k.rising;
      alike = λ v u i j. k.alike v u (Waits-filter stays rows v i).0 (Waits-filter stays rows u j).0;
      there = left-there;
      waits = left-waits;
      noted = λ v i. k.noted v (Waits-filter stays rows v i).0;
      count = omega (arith, fewer, k.count, one-gone (is_of row) rows w k.rising here is same-of);
      room = omega (arith, k.room, capacity);
      all_listed = left-listed k.seat all_key 1 held.nodes.capacity after.capacity held.all all rows (is_of row) position gone-as capacity k.all_listed a;
      slots_listed = left-listed k.seat slot_key held.slots held.nodes.capacity after.capacity held.by_slot by_slot rows (is_of row) position gone-as capacity k.slots_listed s;
      regions_listed = left-listed k.seat region_key limit held.nodes.capacity after.capacity held.by_region by_region rows (is_of row) position gone-as capacity k.regions_listed r;
      both_listed = left-listed k.seat (both_key held.slots) (limit * held.slots) held.nodes.capacity after.capacity held.by_both by_both rows (is_of row) position gone-as capacity k.both_listed b;
    }

-- Nothing is held yet.
pub held-none : (limit slots : ℕ) (nodes : Slab Waiting) (positions : List ℕ) (all by_slot by_region by_both : Lists) → limit ≤ MAX_ROWS → slots ≤ MAX_SLOTS → nodes.slots ≡ [] →
    limit ≤ nodes.capacity → length positions ≡ limit → IsNone 1 nodes.capacity all → IsNone slots nodes.capacity by_slot → IsNone limit nodes.capacity by_region →
    IsNone (limit * slots) nodes.capacity by_both →
    HoldsRows limit (record { slots = slots; nodes = nodes; positions = positions; all = all; by_slot = by_slot; by_region = by_region; by_both = by_both }) []
held-none limit slots nodes positions all by_slot by_region by_both few few_slots none room long a s r b = record {
  seat = λ w. 0;
  size = long;
  few = few;
  few_slots = few_slots;
  rising = λ i j d h below. absurd (omega arith);
  alike = λ v w i. absurd i;
  there = λ w i. absurd i;
  waits = λ p w e. let wrong : None ≡ Some w = sym (ap (λ (slots : List (Option Waiting)). row_at slots p) none) ∙ e in cc;
  noted = λ w i. absurd i;
  count = ap (λ (slots : List (Option Waiting)). count_by is_some slots) none;
  room = room;
  all_listed = record { count_is = a.count_is; places_are = a.places_are; listed = a.empty };
  slots_listed = record { count_is = s.count_is; places_are = s.places_are; listed = s.empty };
  regions_listed = record { count_is = r.count_is; places_are = r.places_are; listed = r.empty };
  both_listed = record { count_is = b.count_is; places_are = b.places_are; listed = b.empty };
}
