-- What a tenant's door shows, and what its calls do to tokens.
use Rattle.std.specs.Prelude.{ℕ, ◌≡◌, All, List, not, IfSome, Option, Some, None}
use Rattle.std.specs.Option.{is_some}
use Rattle.job_language.specs.declared.answers.Came.{Came}
use Rattle.job_language.specs.declared.answers.Came.TheVariants.{At}
use Rattle.job_language.specs.declared.answers.Moved.{Moved}
use Rattle.job_language.specs.declared.steps.Entry.{Entry}
use Rattle.job_language.specs.declared.tenants.Tenant.{Tenant}
use Rattle.tenant_book.specs.Fronts.{BeginsIn, FrontData}
use Rattle.tenant_record.specs.PassData.{PassData, IsPassOf, advanced, arrived, goes_home}

-- The number of the tenant's life, the tenant's number and what it is given, and how many seats it has. What the lock keeps is
-- not in it.
pub record DoorData : Type 0 where
  pub life : ℕ
  pub tenant : ℕ
  pub config : Tenant
  pub seats : ℕ

abbrev pub door_of : (life tenant : ℕ) → Tenant → (seats : ℕ) → DoorData
door_of life tenant config seats = record { life = life; tenant = tenant; config = config; seats = seats }

-- The front is of the door's life, whose tenant is given what the door's is.
pub record IsFrontOf (d : DoorData) (f : FrontData) : Type 0 where
  pub life : f.life ≡ d.life
  pub config : f.config ≡ d.config

-- The pass after an advance with that answer. How many entries the history had before it, no caller knows.
abbrev pub Carries : PassData → Moved → PassData → Type 0
Carries p moved q = (entries : ℕ) × (q ≡ advanced p moved entries)

-- What was seen of a life begins that history.
abbrev pub AreBegun : (life : ℕ) → List FrontData → List Entry → Type 0
AreBegun life fronts history = All (λ (f : FrontData). f.life ≡ life → BeginsIn f history) fronts

-- After an advance or a commit with that answer the pass comes back and carries the answer, unless it went home.
pub record ComesBack (p : PassData) (moved : Moved) (back : Option PassData) : Type 0 where
  pub carries : IfSome back (λ q. Carries p moved q)
  pub home : is_some back ≡ not (goes_home moved)

-- It is the pass of that slot of the tenant, and the last that its holders were told of is the arrival at that row.
pub record HasArrived (tenant slot row : ℕ) (p : PassData) : Type 0 where
  pub is : IsPassOf tenant slot p
  pub before : PassData
  pub told : p ≡ arrived before row

-- There is a pass if and only if a row was found, and its log ends with that arrival.
abbrev pub ComesWith : (tenant slot : ℕ) → Came → Option PassData → Type 0
ComesWith tenant slot (At row) None = ⊥
ComesWith tenant slot (At row) (Some p) = HasArrived tenant slot row p
ComesWith tenant slot came q = q ≡ None
