-- Steps of a world whose tenants are named.
use Rattle.std.specs.Prelude.{ℕ, List, Option, Some, None, if◌then◌else◌, nat_lt, option_and_then}
use Rattle.std.specs.List.{position}
use Rattle.std.specs.Option.{option_map}
use Rattle.std.specs.Str.{bytes_eq}
use Rattle.world_model.specs.Raw.{Raw}
use Rattle.world_model.specs.Raw as raw
use Rattle.world_script.specs.RawLines.{RawData, line, master, push, pop, arrive, advance}

-- the number of the tenant of a name
abbrev pub tenant_named : List (List ℕ) → List ℕ → Option ℕ
tenant_named names name = position (bytes_eq name) names

-- a slot of a tenant, if the tenant is there; no slot has a number above 255
abbrev pub slot_named : List (List ℕ) → List ℕ → (slot : ℕ) → Option (ℕ × ℕ)
slot_named names name slot = option_and_then (λ t. if nat_lt slot 256 then Some (t, slot) else None) (tenant_named names name)

-- the step of a world, if its tenant is there
abbrev pub raw_of : List (List ℕ) → RawData → Option Raw
raw_of names (line name text) = option_map (λ t. raw.line t text) (tenant_named names name)
raw_of names (master name slot) = option_map (λ (at : ℕ × ℕ). raw.master at.0 at.1) (slot_named names name slot)
raw_of names (push name slot) = option_map (λ (at : ℕ × ℕ). raw.push at.0 at.1) (slot_named names name slot)
raw_of names (pop worker) = Some (raw.pop worker)
raw_of names (arrive worker) = Some (raw.arrive worker)
raw_of names (advance worker) = Some (raw.advance worker)
