-- The changes by which a row ends, one after another.
use Rattle.std.proofs.Common.{◌≡◌, ℕ, ℤ, List, length, length-set, Option, Some, None, refl, sym, ap, ◌∙◌, subst}
use Rattle.std.specs.Prelude.{count_by, is_some, slice_index_or, slice_set}
use Rattle.std.specs.Option.{option_map}
use Rattle.region_tag.specs.declared.row_id.RowId.{RowId}
use Rattle.cancel_context.specs.Forest.{Forest}
use Rattle.arena_rows.specs.declared.rows.OpenRow.{OpenRow}
use Rattle.arena_rows.specs.declared.rows.CurrentJob.{CurrentJob}
use Rattle.arena_rows.specs.declared.rows.Source.{Source}
use Rattle.arena_rows.specs.Held.{Held}
use Rattle.arena_rows.specs.HeldChanges.{index_of, no_job}
use Rattle.arena_rows.specs.Represents.{at_place}
use Rattle.arena_rows.specs.Endings.{Left, contexts_of, member_left, open_maker, parted_by, parted, with_ended, ended, HasEnded, CanEnd}
use Rattle.arena_rows.proofs.FreePlaces.{mapped_taken}
use Rattle.arena_rows.proofs.Grouped.{IsEntry, is_entry}
use Rattle.arena_rows.proofs.Parting.{parted_numbers}
use Rattle.arena_rows.proofs.Started.{some_none}

pub entry_in : (a : Held) (id : RowId) (h : CanEnd a id) (e : OpenRow) → at_place a.table id.place ≡ Some e → IsEntry a h.0 h.2 h.1 e
entry_in a id h e there = is_entry a h.0 h.2 h.1 e h.3 (ap (λ (r : RowId). at_place a.table r.place) (sym h.4) ∙ there)

by_maker : (table : List (Option OpenRow)) (v : ℤ) (o : Option (ℕ × ℕ)) → length (parted_by table v o) ≡ length table
by_maker table v None = refl
by_maker table v (Some p) = length-set table p.0 _

pub parted_long : (table : List (Option OpenRow)) (source : Source) (v : ℤ) → length (parted table source v) ≡ length table
parted_long table source v = by_maker table v (open_maker table source)

taken_by : (table : List (Option OpenRow)) (v : ℤ) (o : Option (ℕ × ℕ)) → count_by is_some (parted_by table v o) ≡ count_by is_some table
taken_by table v None = refl
taken_by table v (Some p) = mapped_taken (member_left p.1 v) table p.0

pub parted_taken : (table : List (Option OpenRow)) (source : Source) (v : ℤ) → count_by is_some (parted table source v) ≡ count_by is_some table
parted_taken table source v = taken_by table v (open_maker table source)

by_number : (o : Option OpenRow) (n : ℕ) → option_map (λ (e : OpenRow). e.number) o ≡ Some n → (e : OpenRow) × (o ≡ Some e)
by_number None n is = absurd (some_none n (sym is))
by_number (Some e) n is = (e, refl)

-- A row stands where it stood.
pub still_there : (table : List (Option OpenRow)) (source : Source) (v : ℤ) (p : ℕ) (e : OpenRow) → at_place table p ≡ Some e → (x : OpenRow) × (at_place (parted table source v) p ≡ Some x)
still_there table source v p e there = by_number (at_place (parted table source v) p) e.number (parted_numbers table source v p ∙ ap (option_map (λ (x : OpenRow). x.number)) there)

-- the contexts released, and the maker told
abbrev pub told : Held → Forest → Source → ℤ → Held
told a forest source v = record a { contexts = forest; table = parted a.table source v }

-- and the row taken out
abbrev pub taken : Held → Forest → RowId → Source → ℤ → Held
taken a forest id source v = record a { contexts = forest; table = slice_set (parted a.table source v) id.place None; regions = slice_set a.regions id.place None }

pub taken_is : (a x y : Held) (forest : Forest) (id : RowId) (source : Source) (v : ℤ) → x ≡ told a forest source v →
    y ≡ record x { table = slice_set x.table id.place None; regions = slice_set x.regions id.place None } → y ≡ taken a forest id source v
taken_is a x y forest id source v tells takes = takes ∙ ap (λ (z : Held). record z { table = slice_set z.table id.place None; regions = slice_set z.regions id.place None }) tells

-- and the job counted
pub counted_is : (a y z : Held) (forest : Forest) (id : RowId) (e : OpenRow) (v : ℤ) → y ≡ taken a forest id e.source v →
    ((d : CurrentJob) → z ≡ record y { jobs = slice_set y.jobs (index_of y e.job) (with_ended id.number v (slice_index_or y.jobs (index_of y e.job) d)) }) →
    z ≡ record (ended a id e v) { contexts = forest }
counted_is a y z forest id e v takes counts =
    counts no_job ∙ ap (λ (x : Held). record x { jobs = slice_set x.jobs (index_of x e.job) (with_ended id.number v (slice_index_or x.jobs (index_of x e.job) no_job)) }) takes

pub has_ended : (a z : Held) (forest : Forest) (id : RowId) (e : OpenRow) (v : ℤ) → Left a.contexts forest (contexts_of e) → z ≡ record (ended a id e v) { contexts = forest } → HasEnded a z id e v
has_ended a z forest id e v left is =
    let same : z.contexts ≡ forest = ap (λ (x : Held). x.contexts) is in
    record {
      left = subst (λ f. Left a.contexts f (contexts_of e)) (sym same) left;
      rest = is ∙ ap (λ f. record (ended a id e v) { contexts = f }) (sym same);
    }
