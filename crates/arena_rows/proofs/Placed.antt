-- A place for the next row: what is held stands for the state with it as well.
use Rattle.std.proofs.Common.{◌≡◌, ◌≢◌, ℕ, zero, suc, ◌+◌, ◌==◌, ◌<◌, ◌≤◌, List, [], ◌∷◌, length, Option, Some, None, true, false, refl, sym, ap, ◌∙◌, arith, map}
use Rattle.std.specs.Prelude.{if◌then◌else◌, is_some, All}
use Rattle.std.specs.Option.{option_map}
use Rattle.std.proofs.lemmas.List.Elements.{All-filter}
use Rattle.region_tag.specs.declared.row_id.RowId.{RowId}
use Rattle.region_tag.specs.declared.regions.Tagged.{Tagged}
use Rattle.ready_pool.specs.Ready.{Ready}
use Rattle.nest_stack.specs.declared.stack.Nested.{Nested}
use Rattle.tenant_model.specs.declared.rows.Kind.{Kind}
use Rattle.tenant_model.specs.declared.rows.Kind.TheVariants.{Root, Posted, Spawned, Region}
use Rattle.tenant_model.specs.declared.rows.Row.{Row}
use Rattle.tenant_model.specs.State.{State, row}
use Rattle.tenant_model.specs.Walks.{NumberedRow, numbered_rows, maker_of, region_of}
use Rattle.tenant_model.specs.Linked.{MakersPrecede}
use Rattle.tenant_model.proofs.Within.{region_within, within_above}
use Rattle.tenant_model.proofs.Insides.{live_there}
use Rattle.tenant_model.proofs.Picks.{IsNumbered, numbered_all}
use Rattle.arena_rows.specs.declared.rows.OpenRow.{OpenRow}
use Rattle.arena_rows.specs.Held.{Held}
use Rattle.arena_rows.specs.Represents.{Places, id_of, at_place, source_of, tag_of, around_of, tagged_of, waiting, waiting_of, IsRow, AreRows, AreNests, AreTagged, Holds}
use Rattle.tenant_model.proofs.AttendedSteps.{open_there}

module _ (rows : List Row) (precede : MakersPrecede rows) (places places' : Places) (same : (m : ℕ) → m ≤ length rows → places' m ≡ places m) where
  pub id_same : (m : ℕ) → m ≤ length rows → id_of places' m ≡ id_of places m
  id_same m old = ap (λ p. let id : RowId = record { number = m; place = p } in id) (same m old)

  region_low : (n q : ℕ) → n ≤ length rows → region_of rows n ≡ Some q → q ≤ length rows
  region_low zero q within found = absurd (grind (arith, ap is_some (sym found)))
  region_low (suc n) q within found =
      let above = within_above rows precede (suc n) (suc n) q (omega arith) (omega arith) within (region_within rows precede (suc n) (suc n) q (omega arith) (omega arith) within found) in
      omega (arith, above, within)

  by_region : (n : ℕ) (o : Option ℕ) → n ≤ length rows → region_of rows n ≡ o → option_map (id_of places') o ≡ option_map (id_of places) o
  by_region n None within found = refl
  by_region n (Some q) within found = ap Some (id_same q (region_low n q within found))

  pub tag_same : (n : ℕ) → n ≤ length rows → tag_of rows places' n ≡ tag_of rows places n
  tag_same n within = by_region n (region_of rows n) within refl

  before : (n m : ℕ) → 1 ≤ n → n ≤ length rows → maker_of (row rows n).kind ≡ Some m → m ≤ length rows
  before n m from to made = let its : (1 ≤ m) × (m < n) = rw made at (precede n from to) in omega (arith, its, to)

  source_same : (n : ℕ) (k : Kind) → 1 ≤ n → n ≤ length rows → (row rows n).kind ≡ k → source_of places' k ≡ source_of places k
  source_same n Root from to kind = refl
  source_same n Posted from to kind = refl
  source_same n (Spawned m g) from to kind = let e = id_same m (before n m from to (ap maker_of kind)) in rw e refl
  source_same n (Region m) from to kind = let e = id_same m (before n m from to (ap maker_of kind)) in rw e refl

  around_same : (n : ℕ) (k : Kind) → 1 ≤ n → n ≤ length rows → (row rows n).kind ≡ k → around_of rows places' k ≡ around_of rows places k
  around_same n Root from to kind = refl
  around_same n Posted from to kind = refl
  around_same n (Spawned m g) from to kind = refl
  around_same n (Region m) from to kind = tag_same m (before n m from to (ap maker_of kind))

  IsRow-placed : (n : ℕ) (e : OpenRow) → 1 ≤ n → n ≤ length rows → IsRow rows places n e → IsRow rows places' n e
  IsRow-placed n e from to is = record {
    number = is.number;
    source = is.source ∙ sym (source_same n (row rows n).kind from to refl);
    job = is.job;
    made_on = is.made_on;
    stage = is.stage;
    groups = is.groups;
    all_groups = is.all_groups;
    all_contexts = is.all_contexts;
  }

  pub AreRows-placed : (table : List (Option OpenRow)) → AreRows rows places table → AreRows rows places' table
  AreRows-placed table are = record {
    each = λ n opened.
        let its = are.each n opened in
        let there = open_there rows n opened in
        let e = same n there.1 in
        record { within = omega (arith, e, its.within); entry = its.entry; there = ap (at_place table) e ∙ its.there; is = IsRow-placed n its.entry there.0 there.1 its.is };
    only = λ p e here. let its = are.only p e here in (its.0, same e.number (open_there rows e.number its.0).1 ∙ its.1);
  }

  pub AreNests-placed : (slots : ℕ) (nests : List (List Nested)) → AreNests rows places slots nests → AreNests rows places' slots nests
  AreNests-placed slots nests are = record {
    long = are.long;
    each = λ n slot h live.
        let its = are.each n slot h live in
        let there = live_there rows n slot h live in
        (its.0, its.1, rw (id_same n there.1) its.2);
    only = are.only;
  }

  pub AreTagged-placed : (table : List (Option OpenRow)) (regions : List (Option Tagged)) → AreRows rows places table → AreTagged rows places table regions → AreTagged rows places' table regions
  AreTagged-placed table regions are tagged = record {
    long = tagged.long;
    each = λ p. tagged.each p ∙ by_entry p (at_place table p) refl;
  }
    where
      by_entry : (p : ℕ) (o : Option OpenRow) → at_place table p ≡ o → option_map (tagged_of rows places) o ≡ option_map (tagged_of rows places') o
      by_entry p None here = refl
      by_entry p (Some e) here =
          let there = open_there rows e.number (are.only p e here).0 in
          rw (tag_same e.number there.1, around_same e.number (row rows e.number).kind there.0 there.1 refl) refl

  map_same : (ps : List NumberedRow) → All (IsNumbered rows) ps → map (waiting_of rows places') ps ≡ map (waiting_of rows places) ps
  map_same [] all = refl
  map_same (p ∷ ps) all =
      let first = all 0 p (omega arith) in
      let rest = map_same ps (λ k d below. all (suc k) d (omega (arith, below))) in
      rw (id_same p.0 first.1, tag_same p.0 first.1) (ap (λ ws. waiting_of rows places p ∷ ws) rest)

  all_numbered : All (IsNumbered rows) (waiting rows)
  all_numbered = All-filter _ (IsNumbered rows) (numbered_rows rows) (numbered_all rows)

  pub waiting-placed : map (waiting_of rows places') (waiting rows) ≡ map (waiting_of rows places) (waiting rows)
  waiting-placed = map_same (waiting rows) all_numbered

-- the place of the next row
abbrev pub with_place : Places → (number place : ℕ) → Places
with_place places number place = λ m. if m == number then place else places m

pub place_old : (places : Places) (number place m : ℕ) → m ≢ number → with_place places number place m ≡ places m
place_old places number place m other = let no : (m == number) ≡ false = grind (arith, other) in rw no refl

pub place_new : (places : Places) (number place : ℕ) → with_place places number place number ≡ place
place_new places number place = let same : (number == number) ≡ true = grind arith in rw same refl

-- What is held stands for the state with another place for the next row.
module _ (a : Held) (s : State) (is : Holds a s) (place : ℕ) where
  same_before : (m : ℕ) → m ≤ length s.rows → with_place is.places (length s.rows + 1) place m ≡ is.places m
  same_before m old = place_old is.places (length s.rows + 1) place m (omega (arith, old))

  pub holds_placed : Holds a s
  holds_placed =
      let precede = is.steady.formed.linked.makers in
      let places' = with_place is.places (length s.rows + 1) place in
      record {
        config = is.config;
        places = places';
        assigned = is.assigned;
        made = is.made;
        made_jobs = is.made_jobs;
        table = AreRows-placed s.rows precede is.places places' same_before a.table is.table;
        free = is.free;
        nests = AreNests-placed s.rows precede is.places places' same_before a.config.slots a.nests is.nests;
        tags = AreTagged-placed s.rows precede is.places places' same_before a.table a.regions is.table is.tags;
        waiting = is.waiting ∙ ap (λ ws. let p : Ready = record { isolation = a.config.isolation; limit = a.config.rows; slots = a.config.slots; rows = ws } in p)
            (sym (waiting-placed s.rows precede is.places places' same_before));
        contexts = is.contexts;
        room = is.room;
        jobs = is.jobs;
        cells = is.cells;
        entries = is.entries;
        epoch = is.epoch;
        steady = is.steady;
      }

-- the same, as a caller needs it
pub record IsPlaced (a : Held) (s : State) (is : Holds a s) (place : ℕ) : Type 0 where
  pub holds : Holds a s
  pub placed : holds.places (length s.rows + 1) ≡ place
  pub assigned : holds.assigned ≡ is.assigned
  pub old : (m : ℕ) → m ≤ length s.rows → holds.places m ≡ is.places m

pub next_placed : (a : Held) (s : State) (is : Holds a s) (place : ℕ) → IsPlaced a s is place
unfolding holds_placed
next_placed a s is place = record {
  holds = holds_placed a s is place;
  placed = place_new is.places (length s.rows + 1) place;
  assigned = refl;
  old = λ m old. place_old is.places (length s.rows + 1) place m (omega (arith, old));
}
