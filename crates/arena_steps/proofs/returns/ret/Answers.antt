use Rattle.std.proofs.Common.{◌≡◌, true, false, refl, sym, ◌∙◌, subst, w64, FitsSigned}
use Rattle.std.proofs.lemmas.Int.{to_z-of_z}
use Rattle.tenant_model.specs.State.{State, row}
use Rattle.tenant_model.specs.Walks.{is_region}
use Rattle.tenant_model.specs.Changes.{finish_step}
use Rattle.tenant_model.specs.Shared.{has_used_group, hand_to, hand_back}
use Rattle.arena_rows.specs.Represents.{Rests, Gives}
use Rattle.arena_steps.specs.Frames.{CanMove}
use Rattle.arena_steps.proofs.Handing.{over, none_handed, found, maker_on_top, handed}
use Rattle.arena_steps.proofs.Moving.{same_slots, same_room}
use Rattle.arena_steps.proofs.returns.ret.Goals as goal

pub finish_step-requires-clause-rests : goal.finish_step-requires-clause-rests
finish_step-requires-clause-rests c =
    let h : CanMove c.args.parts.now c.args.slot c.args.frame = c.requires.fits in
    let a = c.args.parts.now in
    let f = c.args.frame in
    let slot = c.args.slot in
    let v = c.read-value.result in
    let b = c.finish.new.self in
    let is = h.2.rests.holds in
    let unused : has_used_group h.0 h.1 ≡ false = sym (c.has_used_group.ensures h.0 h.1 is h.2.on_top) ∙ c.if-has_used_group.false in
    let range : FitsSigned w64 v = record { sfits = c.read-value.type_inv } in
    let t : State = over h.0 h.1 f v in
    let now : Rests b t = subst (λ w. Rests b (over h.0 h.1 f w)) (to_z-of_z w64 v range) (c.finish.ensures h.0 h.1 f h.2.rests h.2.on_top unused h.2.same) in
    (t, now)

pub finish_step-requires-clause-slot : goal.finish_step-requires-clause-slot
finish_step-requires-clause-slot c =
    let h : CanMove c.args.parts.now c.args.slot c.args.frame = c.requires.fits in
    let a = c.args.parts.now in
    let f = c.args.frame in
    let slot = c.args.slot in
    let v = c.read-value.result in
    let b = c.finish.new.self in
    let is = h.2.rests.holds in
    let unused : has_used_group h.0 h.1 ≡ false = sym (c.has_used_group.ensures h.0 h.1 is h.2.on_top) ∙ c.if-has_used_group.false in
    let range : FitsSigned w64 v = record { sfits = c.read-value.type_inv } in
    let t : State = over h.0 h.1 f v in
    let now : Rests b t = subst (λ w. Rests b (over h.0 h.1 f w)) (to_z-of_z w64 v range) (c.finish.ensures h.0 h.1 f h.2.rests h.2.on_top unused h.2.same) in
    same_slots a b h.0 t is now.holds refl slot h.1 h.2.on_top

pub finish_step-requires-clause-room : goal.finish_step-requires-clause-room
finish_step-requires-clause-room c =
    let h : CanMove c.args.parts.now c.args.slot c.args.frame = c.requires.fits in
    let a = c.args.parts.now in
    let f = c.args.frame in
    let slot = c.args.slot in
    let v = c.read-value.result in
    let b = c.finish.new.self in
    let is = h.2.rests.holds in
    let unused : has_used_group h.0 h.1 ≡ false = sym (c.has_used_group.ensures h.0 h.1 is h.2.on_top) ∙ c.if-has_used_group.false in
    let range : FitsSigned w64 v = record { sfits = c.read-value.type_inv } in
    let t : State = over h.0 h.1 f v in
    let now : Rests b t = subst (λ w. Rests b (over h.0 h.1 f w)) (to_z-of_z w64 v range) (c.finish.ensures h.0 h.1 f h.2.rests h.2.on_top unused h.2.same) in
    same_room a b h.0 t is now.holds refl refl c.requires.room

pub returns-then-not-is_region : goal.returns-then-not-is_region
returns-then-not-is_region c = λ s n fits.
    let a = c.args.parts.now in
    let f = c.args.frame in
    let slot = c.args.slot in
    let v = c.read-value.result in
    let b = c.finish.new.self in
    let is = fits.rests.holds in
    let unused : has_used_group s n ≡ false = sym (c.has_used_group.ensures s n is fits.on_top) ∙ c.if-has_used_group.false in
    let range : FitsSigned w64 v = record { sfits = c.read-value.type_inv } in
    let t : State = over s n f v in
    let now : Rests b t = subst (λ w. Rests b (over s n f w)) (to_z-of_z w64 v range) (c.finish.ensures s n f fits.rests fits.on_top unused fits.same) in
    let kind = (row s.rows n).kind in
    let task : is_region kind ≡ false = sym (c.is_region_on-is_region.ensures s n is fits.on_top) ∙ c.if-not-is_region.true in
    let d = c.finish_step.new.self in
    let moved = c.finish_step.result in
    let all : Gives d moved (finish_step slot (hand_back t kind v)) = subst (λ u. Gives d moved (finish_step slot u)) (sym (none_handed t kind v task)) (c.finish_step.ensures t now) in
    rw unused (subst (λ w. Gives d moved (finish_step slot (hand_back (over s n f w) kind w))) c.read-value.ensures all)

pub hand-requires : goal.hand-requires
hand-requires c =
    let h : CanMove c.args.parts.now c.args.slot c.args.frame = c.requires.fits in
    let a = c.args.parts.now in
    let f = c.args.frame in
    let slot = c.args.slot in
    let v = c.read-value.result in
    let b = c.finish.new.self in
    let is = h.2.rests.holds in
    let unused : has_used_group h.0 h.1 ≡ false = sym (c.has_used_group.ensures h.0 h.1 is h.2.on_top) ∙ c.if-has_used_group.false in
    let range : FitsSigned w64 v = record { sfits = c.read-value.type_inv } in
    let t : State = over h.0 h.1 f v in
    let now : Rests b t = subst (λ w. Rests b (over h.0 h.1 f w)) (to_z-of_z w64 v range) (c.finish.ensures h.0 h.1 f h.2.rests h.2.on_top unused h.2.same) in
    let region : is_region (row h.0.rows h.1).kind ≡ true = sym (c.is_region_on-is_region.ensures h.0 h.1 is h.2.on_top) ∙ c.if-not-is_region.false in
    let m = (found a b h.0 is slot h.1 f v h.2.on_top now region).0 in
    let next = maker_on_top a b h.0 is slot h.1 f v h.2.on_top now region in
    (t, m, now, next)

pub finish_step-requires-2-clause-rests : goal.finish_step-requires-2-clause-rests
finish_step-requires-2-clause-rests c =
    let h : CanMove c.args.parts.now c.args.slot c.args.frame = c.requires.fits in
    let a = c.args.parts.now in
    let f = c.args.frame in
    let slot = c.args.slot in
    let v = c.read-value.result in
    let b = c.finish.new.self in
    let is = h.2.rests.holds in
    let unused : has_used_group h.0 h.1 ≡ false = sym (c.has_used_group.ensures h.0 h.1 is h.2.on_top) ∙ c.if-has_used_group.false in
    let range : FitsSigned w64 v = record { sfits = c.read-value.type_inv } in
    let t : State = over h.0 h.1 f v in
    let now : Rests b t = subst (λ w. Rests b (over h.0 h.1 f w)) (to_z-of_z w64 v range) (c.finish.ensures h.0 h.1 f h.2.rests h.2.on_top unused h.2.same) in
    let region : is_region (row h.0.rows h.1).kind ≡ true = sym (c.is_region_on-is_region.ensures h.0 h.1 is h.2.on_top) ∙ c.if-not-is_region.false in
    let m = (found a b h.0 is slot h.1 f v h.2.on_top now region).0 in
    let next = maker_on_top a b h.0 is slot h.1 f v h.2.on_top now region in
    let it : Rests c.hand.new.parts (hand_to t m v) = subst (λ w. Rests c.hand.new.parts (hand_to t m w)) (to_z-of_z w64 v range) (c.hand.ensures t m now next) in
    (hand_to t m v, it)

pub finish_step-requires-2-clause-slot : goal.finish_step-requires-2-clause-slot
finish_step-requires-2-clause-slot c =
    let h : CanMove c.args.parts.now c.args.slot c.args.frame = c.requires.fits in
    let a = c.args.parts.now in
    let f = c.args.frame in
    let slot = c.args.slot in
    let v = c.read-value.result in
    let b = c.finish.new.self in
    let is = h.2.rests.holds in
    let unused : has_used_group h.0 h.1 ≡ false = sym (c.has_used_group.ensures h.0 h.1 is h.2.on_top) ∙ c.if-has_used_group.false in
    let range : FitsSigned w64 v = record { sfits = c.read-value.type_inv } in
    let t : State = over h.0 h.1 f v in
    let now : Rests b t = subst (λ w. Rests b (over h.0 h.1 f w)) (to_z-of_z w64 v range) (c.finish.ensures h.0 h.1 f h.2.rests h.2.on_top unused h.2.same) in
    let region : is_region (row h.0.rows h.1).kind ≡ true = sym (c.is_region_on-is_region.ensures h.0 h.1 is h.2.on_top) ∙ c.if-not-is_region.false in
    let m = (found a b h.0 is slot h.1 f v h.2.on_top now region).0 in
    let next = maker_on_top a b h.0 is slot h.1 f v h.2.on_top now region in
    let it : Rests c.hand.new.parts (hand_to t m v) = subst (λ w. Rests c.hand.new.parts (hand_to t m w)) (to_z-of_z w64 v range) (c.hand.ensures t m now next) in
    same_slots a c.hand.new.parts h.0 (hand_to t m v) is it.holds refl slot h.1 h.2.on_top

pub finish_step-requires-2-clause-room : goal.finish_step-requires-2-clause-room
finish_step-requires-2-clause-room c =
    let h : CanMove c.args.parts.now c.args.slot c.args.frame = c.requires.fits in
    let a = c.args.parts.now in
    let f = c.args.frame in
    let slot = c.args.slot in
    let v = c.read-value.result in
    let b = c.finish.new.self in
    let is = h.2.rests.holds in
    let unused : has_used_group h.0 h.1 ≡ false = sym (c.has_used_group.ensures h.0 h.1 is h.2.on_top) ∙ c.if-has_used_group.false in
    let range : FitsSigned w64 v = record { sfits = c.read-value.type_inv } in
    let t : State = over h.0 h.1 f v in
    let now : Rests b t = subst (λ w. Rests b (over h.0 h.1 f w)) (to_z-of_z w64 v range) (c.finish.ensures h.0 h.1 f h.2.rests h.2.on_top unused h.2.same) in
    let region : is_region (row h.0.rows h.1).kind ≡ true = sym (c.is_region_on-is_region.ensures h.0 h.1 is h.2.on_top) ∙ c.if-not-is_region.false in
    let m = (found a b h.0 is slot h.1 f v h.2.on_top now region).0 in
    let next = maker_on_top a b h.0 is slot h.1 f v h.2.on_top now region in
    let it : Rests c.hand.new.parts (hand_to t m v) = subst (λ w. Rests c.hand.new.parts (hand_to t m w)) (to_z-of_z w64 v range) (c.hand.ensures t m now next) in
    same_room a c.hand.new.parts h.0 (hand_to t m v) is it.holds refl refl c.requires.room

pub returns : goal.returns
returns c = λ s n fits.
    let a = c.args.parts.now in
    let f = c.args.frame in
    let slot = c.args.slot in
    let v = c.read-value.result in
    let b = c.finish.new.self in
    let is = fits.rests.holds in
    let unused : has_used_group s n ≡ false = sym (c.has_used_group.ensures s n is fits.on_top) ∙ c.if-has_used_group.false in
    let range : FitsSigned w64 v = record { sfits = c.read-value.type_inv } in
    let t : State = over s n f v in
    let now : Rests b t = subst (λ w. Rests b (over s n f w)) (to_z-of_z w64 v range) (c.finish.ensures s n f fits.rests fits.on_top unused fits.same) in
    let region : is_region (row s.rows n).kind ≡ true = sym (c.is_region_on-is_region.ensures s n is fits.on_top) ∙ c.if-not-is_region.false in
    let m = (found a b s is slot n f v fits.on_top now region).0 in
    let next = maker_on_top a b s is slot n f v fits.on_top now region in
    let it : Rests c.hand.new.parts (hand_to t m v) = subst (λ w. Rests c.hand.new.parts (hand_to t m w)) (to_z-of_z w64 v range) (c.hand.ensures t m now next) in
    let kind = (row s.rows n).kind in
    let d = c.finish_step-2.new.self in
    let moved = c.finish_step-2.result in
    let all : Gives d moved (finish_step slot (hand_back t kind v)) = handed a b s is slot n f v fits.on_top now region d moved (c.finish_step-2.ensures (hand_to t m v) it) in
    rw unused (subst (λ w. Gives d moved (finish_step slot (hand_back (over s n f w) kind w))) c.read-value.ensures all)
