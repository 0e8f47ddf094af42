use Rattle.std.proofs.Common.{◌≡◌, ◌+◌, ◌*◌, ℕ, Option, Some, None, length, sym, ◌∙◌, ap, arith}
use Rattle.std.specs.Prelude.{replicate, slice_index_or}
use Rattle.std.proofs.lemmas.Grind.{common_steps}
use Rattle.std.proofs.lemmas.List.{get_or-replicate, get_or_past, length-replicate}
use Rattle.cancel_context.specs.Forest.{Forest, Binding}
use Rattle.place_lists.specs.Filing.{Filing}
use Rattle.arena_rows.specs.declared.rows.OpenRow.{OpenRow}
use Rattle.arena_rows.proofs.open_rows.OpenRows.new.Goals as goal

nothing-there : (n p : ℕ) (e : OpenRow) → slice_index_or (replicate n None) p None ≡ Some e → ⊥
nothing-there n p e at = grind (arith, common_steps, get_or-replicate, get_or_past)

pub invariant_of-result : goal.invariant_of-result
invariant_of-result c =
    let rows = c.args.rows in
    let forest : Forest = c.in_ok-contexts.contexts in
    let size : length forest ≡ 256 + 5 * rows = ap length c.in_ok-contexts.ensures.empty ∙ length-replicate {A = Option Binding} (256 + 5 * rows) None in
    let lists = ap (λ (f : Filing). f.lists) c.in_ok-filing.ensures in
    let places = ap (λ (f : Filing). length f.by_place) c.in_ok-filing.ensures in (
      record {
        places = places ∙ length-replicate {A = Option ℕ} rows None ∙ sym (ap length c.in_ok-table.ensures ∙ length-replicate {A = Option OpenRow} rows None);
        lists = omega (arith, size, lists);
        doomed_last = sym size;
        none_turned = c.in_ok-turned.ensures.items;
        sound = c.in_ok-contexts.ensures.forest;
        each = λ p e at waits. absurd (nothing-there rows p e (ap (λ t. slice_index_or t p None) (sym c.in_ok-table.ensures) ∙ at));
      },
      omega (arith, size, c.in_ok-turned.ensures.capacity),
    )
