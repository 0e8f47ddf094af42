-- Configurations that pass the test.
use Rattle.std.proofs.Common.{◌≡◌, ◌≢◌, ℕ, List, [], ◌∷◌, true, false, Bool, refl, sym}
use Rattle.std.specs.Prelude.{All, AllPairs, not}
use Rattle.std.specs.List.{list_any, IsDistinct, AllByRecursion}
use Rattle.std.specs.Str.{bytes_eq}
use Rattle.std.proofs.lemmas.Bool.{and_parts, or_parts, leb-true}
use Rattle.std.proofs.lemmas.Slice.Eq.{bytes_eq-Decides}
use Rattle.std.proofs.lemmas.Map.Made.{AllPairs-from_IsDistinct}
use Rattle.job_language.specs.Tenant.{IsValidTenant}
use Rattle.job_language.specs.Configuration.{are_distinct, Configuration, is_valid_config, IsValidConfig}

not-true : (b : Bool) → not b ≡ true → b ≡ false
not-true true h = cc
not-true false h = refl

none_is : (name : List ℕ) (names : List (List ℕ)) → list_any (bytes_eq name) names ≡ false → AllByRecursion (λ other. bytes_eq name other ≡ false) names
none_is name [] h = tt
none_is name (other ∷ names) h =
    let parts = or_parts _ _ h in
    (parts.0, none_is name names parts.1)

IsDistinct-from_test : (names : List (List ℕ)) → are_distinct names ≡ true → IsDistinct bytes_eq names
unfolding IsDistinct
IsDistinct-from_test [] h = tt
IsDistinct-from_test (name ∷ names) h =
    let parts = and_parts _ _ h in
    (none_is name names (not-true _ parts.0), IsDistinct-from_test names parts.1)

AllPairs-from_test : (names : List (List ℕ)) → are_distinct names ≡ true → AllPairs (λ s t. s ≢ t) names
AllPairs-from_test names h = AllPairs-from_IsDistinct bytes_eq-Decides names (IsDistinct-from_test names h)

pub IsValidConfig-from_test : (c : Configuration) → true ≡ is_valid_config c → All IsValidTenant c.tenants → IsValidConfig c
IsValidConfig-from_test c h each =
    let all = and_parts _ _ (sym h) in
    let most_workers = and_parts _ _ all.0 in
    let some_worker = and_parts _ _ most_workers.0 in
    let tenants = and_parts _ _ some_worker.0 in
    record {
      some_tenant = leb-true _ _ tenants.0;
      most_tenants = leb-true _ _ tenants.1;
      each = each;
      distinct = AllPairs-from_test _ all.1;
      some_worker = leb-true _ _ some_worker.1;
      most_workers = leb-true _ _ most_workers.1;
    }
