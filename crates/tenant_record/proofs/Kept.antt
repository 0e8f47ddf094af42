-- What locked calls keep right.
use Rattle.std.proofs.Common.{◌≡◌, ◌≢◌, inl, inr, ℕ, ◌==◌, ◌<◌, ◌≤◌, ◌&&◌, Bool, true, false, List, [], ◌∷◌, ◌++◌, length, refl, sym, ap, ◌∙◌, arith, length-append, length-set, subst, Option, Some}
use Rattle.std.proofs.Common.{None, get_or, nat_lt}
use Rattle.std.specs.Prelude.{if◌then◌else◌, count_by, slice_set, slice_index_or, unwrap_or, replicate}
use Rattle.std.specs.Option.{option_map, option_map_or}
use Rattle.std.proofs.lemmas.Bool.{cond_both, and_right}
use Rattle.std.proofs.lemmas.Bool.Decides.{nat_tests}
use Rattle.std.proofs.lemmas.List.{append-nil, set-get_or, get_or-replicate, get_or_past}
use Rattle.std.proofs.lemmas.List.FromFn.{get_or-map-range_with_len, length-map-range_with_len}
use Rattle.std.proofs.lemmas.Option.{unwrap_or-slice_get}
use Rattle.job_language.specs.Recorded.{is_entry, is_recorded_reply}
use Rattle.job_language.specs.Tenant.{IsValidTenant}
use Rattle.job_language.specs.declared.answers.Answer.{Answer}
use Rattle.job_language.specs.declared.answers.Answer.TheVariants as answer
use Rattle.job_language.specs.declared.answers.Came.{Came}
use Rattle.job_language.specs.declared.answers.Came.TheVariants as came
use Rattle.job_language.specs.declared.answers.Moved.{Moved}
use Rattle.job_language.specs.declared.answers.Moved.TheVariants as moved
use Rattle.job_language.specs.declared.answers.Reply.{Reply}
use Rattle.job_language.specs.declared.answers.Reply.TheVariants as reply
use Rattle.job_language.specs.declared.requests.Request.{Request}
use Rattle.job_language.specs.declared.steps.Entry.{Entry}
use Rattle.job_language.specs.declared.steps.Step.{Step}
use Rattle.job_language.specs.declared.steps.Step.TheVariants as steps
use Rattle.job_language.specs.declared.tenants.Tenant.{Tenant}
use Rattle.tenant_model.specs.Advance.{advance}
use Rattle.tenant_model.specs.Told.{placed_on, is_freed}
use Rattle.tenant_model.proofs.Within.{either_way}
use Rattle.tenant_record.specs.History.{state_after, entries_of, IsHistory, Takes}
use Rattle.tenant_record.specs.Locked.{IsMoved, IsArrived, IsAsked, home_arrived}
use Rattle.tenant_record.specs.PassData.{PassData, has_room, first_pass, advanced, still_after, goes_home}
use Rattle.tenant_record.specs.Places.{place, is_in, pass_in, first_places, home_place, woken, returned, taken, arrived_place, IsPlaceOf}
use Rattle.tenant_record.specs.SeatData.{SeatData}
use Rattle.tenant_record.specs.declared.places.Place.{Place}
use Rattle.tenant_record.specs.declared.places.Place.TheVariants.{Home, Due, Out}
use Rattle.tenant_record.specs.Cell.{CellData, state_of, is_ask, places_on, touches, AreStill, AreHome, ArePlaced, AreCounted, IsRight, first_cell, askers_of, touched, entered}
use Rattle.tenant_record.proofs.Histories.{entry_recorded, none_recorded, first_is}
use Rattle.tenant_record.proofs.Rightness.{place_same, place_by, IsIn, woken_in, woken_placed, woken_long, set_placed, home_kept, stills_more, stills_now, forgotten, asks_by}

-- Asks are counted by their askers.
asks_same : (h : List Entry) (x : Step) (a : Answer) → is_ask x ≡ false → count_by (λ (v : Entry). is_ask v.step) (h ++ entries_of x a) ≡ count_by (λ (v : Entry). is_ask v.step) h
asks_same h x a other = asks_by h x a (is_entry a) refl ∙ rw (other, and_right (is_entry a) false refl) (omega arith)

askers_long : (number : ℕ) (y : Reply) (b : Bool) → is_recorded_reply y ≡ b → length (askers_of number y) ≡ (if is_recorded_reply y && true then 1 else 0)
askers_long number y true is = rw is refl
askers_long number y false is = rw is refl

asks_asked : (h : List Entry) (askers : List ℕ) (number : ℕ) (r : Request) (y : Reply) → length askers ≡ count_by (λ (v : Entry). is_ask v.step) h →
    length (askers ++ askers_of number y) ≡ count_by (λ (v : Entry). is_ask v.step) (h ++ entries_of (steps.Ask r) (answer.Replied y))
asks_asked h askers number r y same =
    let more = asks_by h (steps.Ask r) (answer.Replied y) (is_recorded_reply y) refl in
    let long = askers_long number y (is_recorded_reply y) refl in
    omega (arith, same, more, long, length-append askers (askers_of number y))

-- An advance touches its slot alone.
apart_moved : (slot o : ℕ) (m : Moved) → o ≢ slot → touches o (record { step = steps.Advance slot; answer = answer.Moved m }) ≡ false
apart_moved slot o m differs = grind (arith, nat_tests)

apart_came : (slot o : ℕ) (m : Came) → o ≢ slot → touches o (record { step = steps.Arrive slot; answer = answer.Came m }) ≡ false
apart_came slot o m differs = grind (arith, nat_tests)

module _ (c : Tenant) (h : List Entry) (idle_since : List (Option ℕ)) (slot : ℕ) (are : AreStill c h idle_since) (long : slot < length idle_since) where
  abbrev Stills : Moved → Type 0
  Stills m = AreStill c (h ++ entries_of (steps.Advance slot) (answer.Moved m)) (slice_set idle_since slot (still_after (slice_index_or idle_since slot None) m (length h)))

  moved_more : (m : Moved) → AreStill c (h ++ (record { step = steps.Advance slot; answer = answer.Moved m }) ∷ []) (slice_set idle_since slot None)
  moved_more m = let e : Entry = record { step = steps.Advance slot; answer = answer.Moved m } in
      stills_more c h e idle_since (slice_set idle_since slot None) are (forgotten idle_since slot e long (λ o differs. apart_moved slot o m differs))

  unmoved : AreStill c (h ++ []) (slice_set idle_since slot (slice_index_or idle_since slot None))
  unmoved = rw (append-nil h, set-get_or idle_since slot None) are

  moved_stills : (m : Moved) → (m ≡ moved.Idle → (advance (state_after c h) slot).0 ≡ moved.Idle) → Stills m
  moved_stills moved.Ran idle = moved_more moved.Ran
  moved_stills (moved.Nested n) idle = moved_more (moved.Nested n)
  moved_stills moved.Freed idle = moved_more moved.Freed
  moved_stills moved.Idle idle = rw (append-nil h) (stills_now c h idle_since slot are long (idle refl))
  moved_stills moved.Left idle = unmoved
  moved_stills moved.Stale idle = unmoved
  moved_stills moved.Full idle = unmoved

  arrived_stills : (m : Came) → AreStill c (h ++ entries_of (steps.Arrive slot) (answer.Came m)) (touched (entered slot (is_entry (answer.Came m))) idle_since)
  arrived_stills (came.At n) = let e : Entry = record { step = steps.Arrive slot; answer = answer.Came (came.At n) } in
      stills_more c h e idle_since (slice_set idle_since slot None) are (forgotten idle_since slot e long (λ o differs. apart_came slot o (came.At n) differs))
  arrived_stills came.Nothing = rw (append-nil h) are
  arrived_stills came.Full = rw (append-nil h) are

-- Where a job was placed.
places_by : (y : Reply) (o : ℕ) → places_on o (answer.Replied y) ≡ option_map_or (λ s. s == o) (placed_on y) false
places_by (reply.Bound name) o = refl
places_by (reply.Made n) o = refl
places_by (reply.Placed n slot) o = refl
places_by (reply.Job n status) o = refl
places_by (reply.Cancelled n first) o = refl
places_by (reply.Cells k n sum) o = refl
places_by (reply.Arena level n m) o = refl
places_by (reply.Epoch n) o = refl
places_by (reply.Released n) o = refl
places_by (reply.Refused error) o = refl
places_by reply.Pending o = refl

placed_enters : (y : Reply) (slot : ℕ) → placed_on y ≡ Some slot → is_recorded_reply y ≡ true
placed_enters (reply.Bound name) slot is = absurd (grind (arith, is))
placed_enters (reply.Made n) slot is = refl
placed_enters (reply.Placed n s) slot is = refl
placed_enters (reply.Job n status) slot is = refl
placed_enters (reply.Cancelled n first) slot is = refl
placed_enters (reply.Cells k n sum) slot is = refl
placed_enters (reply.Arena level n m) slot is = refl
placed_enters (reply.Epoch n) slot is = refl
placed_enters (reply.Released n) slot is = refl
placed_enters (reply.Refused error) slot is = absurd (grind (arith, is))
placed_enters reply.Pending slot is = absurd (grind (arith, is))

module _ (c : Tenant) (h : List Entry) (idle_since : List (Option ℕ)) (r : Request) (y : Reply) (are : AreStill c h idle_since) where
  abbrev TheEntry : Entry
  TheEntry = record { step = steps.Ask r; answer = answer.Replied y }

  unplaced : placed_on y ≡ None → (o : ℕ) → touches o TheEntry ≡ false
  unplaced none o = places_by y o ∙ ap (λ k. option_map_or (λ s. s == o) k false) none

  asked_stills : (k : Option ℕ) (b : Bool) → placed_on y ≡ k → is_recorded_reply y ≡ b → ((slot : ℕ) → placed_on y ≡ Some slot → slot < length idle_since) →
      AreStill c (h ++ entries_of (steps.Ask r) (answer.Replied y)) (touched (placed_on y) idle_since)
  asked_stills None true none enters low = rw (entry_recorded (steps.Ask r) (answer.Replied y) enters, none) (stills_more c h TheEntry idle_since idle_since are (λ o. inr (unplaced none o, refl)))
  asked_stills None false none quiet low = rw (none_recorded (steps.Ask r) (answer.Replied y) quiet, none, append-nil h) are
  asked_stills (Some slot) true some enters low =
      rw (entry_recorded (steps.Ask r) (answer.Replied y) enters, some)
      (stills_more c h TheEntry idle_since (slice_set idle_since slot None) are
      (forgotten idle_since slot TheEntry (low slot some) (λ o differs. places_by y o ∙ (ap (λ k. option_map_or (λ s. s == o) k false) some ∙ grind (arith, nat_tests)))))
  asked_stills (Some slot) false some quiet low = absurd (let enters = placed_enters y slot some in grind (arith, enters, quiet))

-- Passes that come home, go out or stay.
returned_in : (home : List Place) (p : PassData) (m : Moved) (o : ℕ) → IsIn (place home o) → IsIn (place (returned home p m) o)
returned_in home p m o is = cond_both (goes_home m) (slice_set home p.slot (Home p)) home (λ l. IsIn (place l o)) (λ _. place_by IsIn home p.slot o (Home p) (λ _. refl) is) (λ _. is)

freed_in : (home : List Place) (p : PassData) (m : Moved) (o : ℕ) → p.slot < length home → p.slot ≡ o → is_freed (answer.Moved m) ≡ true → IsIn (place (returned home p m) o)
freed_in home p moved.Freed o within same is = ap is_in (ap (λ k. place (slice_set home p.slot (Home p)) k) (sym same) ∙ place_same home p.slot (Home p) within)
freed_in home p moved.Ran o within same is = absurd (grind (arith, is))
freed_in home p (moved.Nested n) o within same is = absurd (grind (arith, is))
freed_in home p moved.Left o within same is = absurd (grind (arith, is))
freed_in home p moved.Idle o within same is = absurd (grind (arith, is))
freed_in home p moved.Stale o within same is = absurd (grind (arith, is))
freed_in home p moved.Full o within same is = absurd (grind (arith, is))

returned_placed : (tenant : ℕ) (home : List Place) (p : PassData) (m : Moved) → ArePlaced tenant home → p.tenant ≡ tenant → ArePlaced tenant (returned home p m)
returned_placed tenant home p m are same =
    cond_both (goes_home m) (slice_set home p.slot (Home p)) home (λ l. ArePlaced tenant l) (λ _. set_placed tenant home p.slot (Home p) are (record { tenant = same; slot = refl })) (λ _. are)

returned_long : (home : List Place) (p : PassData) (m : Moved) → length (returned home p m) ≡ length home
returned_long home p m = cond_both (goes_home m) (slice_set home p.slot (Home p)) home (λ l. length l ≡ length home) (λ _. length-set home p.slot (Home p)) (λ _. refl)

home_in : (q : Place) → IsIn q → IsIn (home_place q)
home_in (Home p) is = refl
home_in (Due p) is = refl
home_in Out is = is

home_of : (tenant slot : ℕ) (q : Place) → IsPlaceOf tenant slot q → IsPlaceOf tenant slot (home_place q)
home_of tenant slot (Home p) is = is
home_of tenant slot (Due p) is = is
home_of tenant slot Out is = is

arrived_in : (home : List Place) (slot : ℕ) (m : Came) (o : ℕ) → (is_entry (answer.Came m) ≡ true → Some slot ≢ Some o) → IsIn (place home o) → IsIn (place (home_arrived home slot m) o)
arrived_in home slot (came.At n) o differs is = place_by IsIn home slot o Out (λ same. absurd (differs refl (ap Some (sym same)))) is
arrived_in home slot came.Nothing o differs is = place_by IsIn home slot o (home_place (place home slot)) (λ same. home_in (place home slot) (subst (λ k. IsIn (place home k)) same is)) is
arrived_in home slot came.Full o differs is = place_by IsIn home slot o (home_place (place home slot)) (λ same. home_in (place home slot) (subst (λ k. IsIn (place home k)) same is)) is

arrived_of : (tenant slot : ℕ) (m : Came) (q : Place) → IsPlaceOf tenant slot q → IsPlaceOf tenant slot (arrived_place m q)
arrived_of tenant slot (came.At n) q is = tt
arrived_of tenant slot came.Nothing q is = home_of tenant slot q is
arrived_of tenant slot came.Full q is = home_of tenant slot q is

taken_in : (home : List Place) (k : Option ℕ) (o : ℕ) → k ≢ Some o → IsIn (place home o) → IsIn (place (taken k home) o)
taken_in home None o differs is = is
taken_in home (Some slot) o differs is = place_by IsIn home slot o Out (λ same. absurd (differs (ap Some (sym same)))) is

taken_placed : (tenant : ℕ) (home : List Place) (k : Option ℕ) → ArePlaced tenant home → ArePlaced tenant (taken k home)
taken_placed tenant home None are = are
taken_placed tenant home (Some slot) are = set_placed tenant home slot Out are tt

taken_long : (home : List Place) (k : Option ℕ) → length (taken k home) ≡ length home
taken_long home None = refl
taken_long home (Some slot) = length-set home slot Out

same_slot : (slot o : ℕ) → Some slot ≡ Some o → slot ≡ o
same_slot slot o same = ap (λ k. unwrap_or k slot) same

-- an advance, or a commit
pub moved_right : (c d : CellData) (p : PassData) (m : Moved) (due : Option ℕ) (q : Option PassData) → IsValidTenant c.config → IsRight c → IsMoved c p m due q d → IsHistory d.config d.history →
    Takes (state_of c) (steps.Advance p.slot) (answer.Moved m) (state_of d)
    → p.tenant ≡ c.tenant → p.slot < c.config.slots → p.slot < length c.idle_since → (m ≡ moved.Idle → (advance (state_of c) p.slot).0 ≡ moved.Idle) → IsRight d
moved_right c d p m due q valid r is history takes tenant low long idle =
    let n = length c.history in
    let back = advanced p m n in
    let left = woken due (returned c.home back m) in
    let inside : p.slot < length c.home = omega (arith, low, r.slots) in
    record {
      history = history;
      askers = rw (is.askers, is.history) (r.askers ∙ sym (asks_same c.history (steps.Advance p.slot) (answer.Moved m) refl));
      idle_since = rw (is.config, is.history, is.idle_since) (moved_stills c.config c.history c.idle_since p.slot r.idle_since long m idle);
      home =
          let kept : AreHome c.config (state_of d) left = home_kept c.config c.history (steps.Advance p.slot) (answer.Moved m) (state_of d) c.home left valid r.history r.home takes
          (λ o apart in_before. woken_in (returned c.home back m) due o (returned_in c.home back m o in_before))
          (λ o here freed. woken_in (returned c.home back m) due o (freed_in c.home back m o inside (same_slot p.slot o here) freed)) in
          subst (λ k. AreHome k (state_of d) d.home) (sym is.config) (subst (λ l. AreHome c.config (state_of d) l) (sym is.home) kept);
      places = subst (λ k. ArePlaced k d.home) (sym is.tenant)
          (subst (λ l. ArePlaced c.tenant l) (sym is.home) (woken_placed c.tenant (returned c.home back m) due (returned_placed c.tenant c.home back m r.places tenant)));
      slots = ap length is.home ∙ (woken_long (returned c.home back m) due ∙ (returned_long c.home back m ∙ (r.slots ∙ ap (λ (k : Tenant). k.slots) (sym is.config))));
    }

-- an arrival
pub arrived_right : (c d : CellData) (slot : ℕ) (m : Came) (due : Option ℕ) (q : Option PassData) → IsValidTenant c.config → IsRight c → IsArrived c slot m due q d → IsHistory d.config d.history →
    Takes (state_of c) (steps.Arrive slot) (answer.Came m) (state_of d) → slot < length c.idle_since → IsRight d
arrived_right c d slot m due q valid r is history takes long =
    let left = woken due (home_arrived c.home slot m) in
    record {
      history = history;
      askers = rw (is.askers, is.history) (r.askers ∙ sym (asks_same c.history (steps.Arrive slot) (answer.Came m) refl));
      idle_since = rw (is.config, is.history, is.idle_since) (arrived_stills c.config c.history c.idle_since slot r.idle_since long m);
      home =
          let kept : AreHome c.config (state_of d) left = home_kept c.config c.history (steps.Arrive slot) (answer.Came m) (state_of d) c.home left valid r.history r.home takes
          (λ o apart in_before. woken_in (home_arrived c.home slot m) due o (arrived_in c.home slot m o apart in_before))
          (λ o here freed. absurd (let no : false ≡ true = freed in grind (arith, no))) in
          subst (λ k. AreHome k (state_of d) d.home) (sym is.config) (subst (λ l. AreHome c.config (state_of d) l) (sym is.home) kept);
      places = subst (λ k. ArePlaced k d.home) (sym is.tenant)
          (subst (λ l. ArePlaced c.tenant l) (sym is.home)
          (woken_placed c.tenant (home_arrived c.home slot m) due
          (set_placed c.tenant c.home slot (arrived_place m (place c.home slot)) r.places (arrived_of c.tenant slot m (place c.home slot) (r.places slot)))));
      slots = ap length is.home ∙ (woken_long (home_arrived c.home slot m) due ∙
          (length-set c.home slot (arrived_place m (place c.home slot)) ∙ (r.slots ∙ ap (λ (k : Tenant). k.slots) (sym is.config))));
    }

-- an ask
pub asked_right : (c d : CellData) (s t : SeatData) (a : Request) (y : Reply) (due : Option ℕ) (q : Option PassData) → IsValidTenant c.config → IsRight c → IsAsked c s a y due q d t →
    IsHistory d.config d.history → Takes (state_of c) (steps.Ask a) (answer.Replied y) (state_of d) → ((slot : ℕ) → placed_on y ≡ Some slot → slot < length c.idle_since) → IsRight d
asked_right c d s t a y due q valid r is history takes long =
    let left = woken due (taken (placed_on y) c.home) in
    record {
      history = history;
      askers = rw (is.askers, is.history) (asks_asked c.history c.askers s.number a y r.askers);
      idle_since = rw (is.config, is.history, is.idle_since) (asked_stills c.config c.history c.idle_since a y r.idle_since (placed_on y) (is_recorded_reply y) refl refl long);
      home =
          let kept : AreHome c.config (state_of d) left = home_kept c.config c.history (steps.Ask a) (answer.Replied y) (state_of d) c.home left valid r.history r.home takes
          (λ o apart in_before. woken_in (taken (placed_on y) c.home) due o (taken_in c.home (placed_on y) o (λ same. apart (placed_enters y o same) same) in_before))
          (λ o here freed. absurd (let no : false ≡ true = freed in grind (arith, no))) in
          subst (λ k. AreHome k (state_of d) d.home) (sym is.config) (subst (λ l. AreHome c.config (state_of d) l) (sym is.home) kept);
      places = subst (λ k. ArePlaced k d.home) (sym is.tenant)
          (subst (λ l. ArePlaced c.tenant l) (sym is.home) (woken_placed c.tenant (taken (placed_on y) c.home) due (taken_placed c.tenant c.home (placed_on y) r.places)));
      slots = ap length is.home ∙ (woken_long (taken (placed_on y) c.home) due ∙ (taken_long c.home (placed_on y) ∙ (r.slots ∙ ap (λ (k : Tenant). k.slots) (sym is.config))));
    }

-- A slot whose pass is out stays so at an arrival, which changes nothing.
out_same : (home : List Place) (slot : ℕ) (q : Place) → place home slot ≡ q → option_map has_room (pass_in q) ≡ None → home ≡ slice_set home slot (home_place q)
out_same home slot (Home p) at none = absurd (grind (arith, none))
out_same home slot (Due p) at none = absurd (grind (arith, none))
out_same home slot Out at none =
    let is : get_or home slot Out ≡ Out = sym (unwrap_or-slice_get home slot Out) ∙ at in
    sym (ap (λ q. slice_set home slot q) (sym is) ∙ set-get_or home slot Out)

pub nobody_came : (c : CellData) (slot : ℕ) → option_map has_room (pass_in (place c.home slot)) ≡ None → IsArrived c slot came.Nothing None None c
nobody_came c slot out = record {
  history = sym (append-nil c.history);
  tenant = refl;
  config = refl;
  askers = refl;
  idle_since = refl;
  pass = refl;
  due = refl;
  home = out_same c.home slot (place c.home slot) refl out;
}

-- A cell of a tenant that has done nothing yet.
first_at : (tenant limit n o : ℕ) → o < n → place (first_places tenant limit n) o ≡ Home (first_pass tenant limit o)
first_at tenant limit n o within = unwrap_or-slice_get (first_places tenant limit n) o Out ∙ get_or-map-range_with_len (λ s. Home (first_pass tenant limit s)) 0 n o o Out within (omega arith)

first_past : (tenant limit n o : ℕ) → n ≤ o → place (first_places tenant limit n) o ≡ Out
first_past tenant limit n o past =
    unwrap_or-slice_get (first_places tenant limit n) o Out ∙
    get_or_past (first_places tenant limit n) o Out (omega (arith, past, length-map-range_with_len (λ s. Home (first_pass tenant limit s)) 0 n))

first_placed : (tenant limit n : ℕ) → ArePlaced tenant (first_places tenant limit n)
first_placed tenant limit n o = elim (either_way (nat_lt o n)) [
  | inl inside ↦ subst (λ q. IsPlaceOf tenant o q) (sym (first_at tenant limit n o (grind (arith, nat_tests, inside)))) (record { tenant = refl; slot = refl })
  | inr outside ↦ subst (λ q. IsPlaceOf tenant o q) (sym (first_past tenant limit n o (grind (arith, nat_tests, outside)))) tt
]

pub first_right : (tenant : ℕ) (c : Tenant) → IsValidTenant c → IsRight (first_cell tenant c)
first_right tenant c valid = record {
  history = first_is c;
  askers = refl;
  idle_since = λ o within. rw (get_or-replicate {A = Option ℕ} 16 o None None within) tt;
  home = λ o low empty. let reserved = valid.reserved in ap is_in (first_at tenant c.steps c.slots o (omega (arith, low, reserved)));
  places = first_placed tenant c.steps c.slots;
  slots = length-map-range_with_len (λ s. Home (first_pass tenant c.steps s)) 0 c.slots;
}

pub first_counted : AreCounted [] (replicate 16 0)
first_counted o within = get_or-replicate 16 o 0 0 within
