-- What represents a world goes on to do so after a step of one tenant.
use Rattle.std.proofs.Common.{◌≡◌, ℕ, ◌<◌, length, sym, ◌∙◌, arith, inl, inr, length-set}
use Rattle.std.specs.Prelude.{slice_set}
use Rattle.std.proofs.lemmas.Bool.{cases_eq}
use Rattle.std.proofs.lemmas.List.{get_or-set_same, get_or-set_other}
use Rattle.tenant_model.specs.State.{State, empty}
use Rattle.world_model.specs.Market.{Market}
use Rattle.world_model.specs.World.{World, no_tenant, state_of}
use Rattle.world_core.specs.WorldData.{WorldData}
use Rattle.world_core.specs.Represents.{Represents}

module _ {A : Type 0} (stands_for : A → State → Type 0) (h : WorldData A) (w : World) (is : Represents stands_for h w) where
  -- the arena of a tenant has changed, and the market
  pub represents_step : (t : ℕ) (a : A) (s : State) (m n : Market) → stands_for a s → m ≡ n →
      Represents stands_for (record { arenas = slice_set h.arenas t a; market = m }) (record { states = slice_set w.states t s; market = n })
  represents_step t a s m n stands same = record {
    market_is = same;
    long = length-set h.arenas t a ∙ is.long ∙ sym (length-set w.states t s);
    each = λ i d within.
        let there : i < length h.arenas = omega (arith, within, length-set h.arenas t a) in
        elim (cases_eq i t) [
          | inl same ↦
              let at : t < length h.arenas = rw same at there in
              rw (same, get_or-set_same h.arenas t a d at, get_or-set_same w.states t s (empty no_tenant) (omega (arith, at, is.long))) stands
          | inr other ↦ rw (get_or-set_other h.arenas t i a d other, get_or-set_other w.states t i s (empty no_tenant) other) (is.each i d there)
        ];
  }

  -- an arena is another that stands for the same state
  pub represents_same : (t : ℕ) (a : A) (m : Market) → stands_for a (state_of w t) → m ≡ h.market → Represents stands_for (record { arenas = slice_set h.arenas t a; market = m }) w
  represents_same t a m stands same = record {
    market_is = same ∙ is.market_is;
    long = length-set h.arenas t a ∙ is.long;
    each = λ i d within.
        let there : i < length h.arenas = omega (arith, within, length-set h.arenas t a) in
        elim (cases_eq i t) [
          | inl here ↦
              let at : t < length h.arenas = rw here at there in
              rw (here, get_or-set_same h.arenas t a d at) stands
          | inr other ↦ rw (get_or-set_other h.arenas t i a d other) (is.each i d there)
        ];
  }
