-- The slots of one tenant.
use Rattle.std.proofs.Common.{◌≡◌, ℕ, zero, suc, ◌+◌, ◌-◌, ◌<◌, ◌≤◌, List, [], ◌∷◌, ◌++◌, length, get_or, drop, take, replicate, Some, None, true, false, refl, ap, ◌∙◌, arith}
use Rattle.std.specs.Prelude.{if◌then◌else◌}
use Rattle.std.proofs.lemmas.List.{length-replicate, drop_more}
use Rattle.world_model.specs.declared.calls.SlotState.{SlotState}
use Rattle.world_model.specs.declared.calls.SlotState.TheVariants as slot
use Rattle.world_model.specs.Market.{is_home, lowest_home}
use Rattle.market_config.specs.declared.config.MarketTenant.{MarketTenant}
use Rattle.market.specs.First.{first_slots}

take_all : {X : Type 0} (n : ℕ) (xs : List X) → length xs ≤ n → take n xs ≡ xs
take_all zero [] few = refl
take_all (suc n) [] few = refl
take_all zero (x ∷ xs) few = absurd (omega (arith, few))
take_all (suc n) (x ∷ xs) few = ap (λ l. x ∷ l) (take_all n xs (omega (arith, few)))

-- Slots are reserved first, and the rest are at home.
pub first_row : (t : MarketTenant) (a b : List SlotState) → a ≡ replicate t.reserved slot.Reserved → b ≡ take t.slots a ++ replicate (t.slots - length a) slot.Home → t.reserved ≤ t.slots →
    b ≡ first_slots t
first_row t a b reserved whole few =
    let long : length a ≡ t.reserved = ap length reserved ∙ length-replicate t.reserved slot.Reserved in
    let all : take t.slots a ≡ a = take_all t.slots a (omega (arith, long, few)) in
    whole ∙ (λ i. (all ∙ reserved) i ++ replicate (t.slots - long i) slot.Home)

pub home_next : (n k : ℕ) (xs : List SlotState) (d : SlotState) → k < length xs → is_home (get_or xs k d) ≡ false → lowest_home n (drop k xs) ≡ lowest_home (n + 1) (drop (k + 1) xs)
home_next n k xs d within other = ap (lowest_home n) (drop_more xs k d within) ∙ ap (λ b. if b then Some n else lowest_home (n + 1) (drop (k + 1) xs)) other

pub home_here : (n k : ℕ) (xs : List SlotState) (d : SlotState) → k < length xs → is_home (get_or xs k d) ≡ true → lowest_home n (drop k xs) ≡ Some n
home_here n k xs d within home = ap (lowest_home n) (drop_more xs k d within) ∙ ap (λ b. if b then Some n else lowest_home (n + 1) (drop (k + 1) xs)) home

pub home_none : (n k : ℕ) (xs : List SlotState) → length xs ≤ k → lowest_home n (drop k xs) ≡ None
home_none n zero [] all = refl
home_none n (suc k) [] all = refl
home_none n zero (x ∷ xs) all = absurd (omega (arith, all))
home_none n (suc k) (x ∷ xs) all = home_none n k xs (omega (arith, all))
