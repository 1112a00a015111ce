-- What is kept stands for the items so far: each rank's last command, each cell's last write, and its accesses since. The arrows that it gives into
-- the next item are the model's.
use Rattle.std.specs.Prelude.{Some, IfSome}
use Prim.Native.Nat.{ℕ, ◌<◌}
use mathlib.Core.Path.{◌≡◌, refl, sym, ap, ◌∙◌}
use mathlib.Core.Bool.{Bool, true, false, ◌&&◌, ◌||◌}
use mathlib.Core.List.{◌++◌}
use native.Mathlib.Omega.{arith}
use lib.ListN.{length, replicate, length-replicate}
use Rattle.model.specs.Limits.{max_ranks, max_items}
use Rattle.model.specs.Replay.{Event}
use Rattle.model.specs.HappensBefore.{program_edges, conflict_edges}
use Rattle.model.proofs.Laws.{decided}
use Rattle.memory.specs.Tables.{Table}
use Rattle.chains.specs.Chains.{Listed}
use Rattle.chains.proofs.Chains.{empty_listed}
use Rattle.happens_before.specs.declared.kept.Kept.{Kept}
use Rattle.happens_before.specs.declared.rows.Told.{Told}
use Rattle.happens_before.specs.declared.rows.Touch.{Touch}
use Rattle.happens_before.specs.Told.{told_at, event_told}
use Rattle.happens_before.specs.Drawing.{kept_none, from_item, from_each, program_into, conflicts_into, edges_into}
use Rattle.happens_before.proofs.Tests.{
  told_or_not,
  is_rank,
  at_cell,
  is_write,
  rank_same,
  rank_none,
  touch_conflict,
  touch_overwrite,
  untouched_conflict,
  untouched_overwrite,
  rank_within,
  inside_cell,
}
use Rattle.happens_before.proofs.Cases.{program_none, program_some, conflicts_none, conflicts_write, conflicts_read}
use Rattle.happens_before.proofs.Lasts.{Lasts, lasts_none}
use Rattle.happens_before.proofs.Searches.{
  latest,
  since,
  before,
  program_search,
  read_search,
  write_search,
  no_search,
  no_conflicts,
}

-- Tests joined with a known one.
or_no : (a : Bool) → (a || false) ≡ a
or_no true = refl
or_no false = refl

and_or_yes : (a b : Bool) → (a && (b || true)) ≡ a
and_or_yes true true = refl
and_or_yes true false = refl
and_or_yes false b = refl

-- What an item is told to be.
module _ (trail : Table) where
  abbrev pub of_rank : (rank item : ℕ) → Bool
  of_rank rank item = is_rank (told_at trail item).rank rank

  abbrev pub touches : (cell item : ℕ) → Bool
  touches cell item = at_cell (told_at trail item).access cell

  abbrev pub writing : (item : ℕ) → Bool
  writing item = is_write (told_at trail item).access

  abbrev pub overwriting : (cell item : ℕ) → Bool
  overwriting cell item = touches cell item && writing item

-- Of the first items, each rank's last command, each cell's last write, and its accesses since.
pub record Stands {cells : ℕ} (trail : Table) (items : ℕ) (k : Kept cells) : Type 0 where
  pub commands : Lasts k.commands max_ranks (of_rank trail) items
  pub writes : Lasts k.accesses.writes cells (overwriting trail) items
  pub newest_long : length k.accesses.newest ≡ cells
  pub links_long : length k.accesses.links ≡ max_items
  pub accesses : Listed k.accesses.newest k.accesses.links items (λ c. since (touches trail c) (writing trail) items)

pub stands_none : (cells : ℕ) (trail : Table) → Stands trail 0 (kept_none cells)
unfolding since
stands_none cells trail =
    record {
      commands = lasts_none max_ranks (of_rank trail);
      writes = lasts_none cells (overwriting trail);
      newest_long = length-replicate {A = ℕ} cells 0;
      links_long = length-replicate {A = ℕ} max_items 0;
      accesses = empty_listed cells (replicate max_items 0);
    }

-- The group of an event that a row tells of.
group_told : (t : Told) → (event_told t).group ≡ t.group
unfolding event_told
group_told t = refl

-- The arrows into an item.
module _ {cells : ℕ} (trail : Table) (item : ℕ) (within : item < max_items) (inside : IfSome (told_at trail item).access (λ t. t.cell < cells))
    (k : Kept cells) (stands : Stands trail item k) where
  abbrev t : Told
  t = told_at trail item

  abbrev y : Event
  y = event_told t

  program_into_lem : program_into trail k.commands t ≡ program_edges y (before trail item)
  program_into_lem =
      told_or_not t.rank
      (λ rank command.
      program_some trail t k.commands rank command
      ∙ ap (λ last. from_item trail last t.group) (stands.commands.last rank (rank_within trail item rank command))
      ∙ ap (from_item trail (latest (of_rank trail rank) item)) (sym (group_told t))
      ∙ sym (program_search trail y (of_rank trail rank) (λ other. rank_same (told_at trail other) t rank command) item (omega (arith, within))))
      (λ pop.
      program_none trail t k.commands pop
      ∙ sym (no_search trail y (λ other. rank_none (told_at trail other) t pop) item))

  module _ (own : Touch) (touched : t.access ≡ Some own) where
    slot_within : own.cell < cells
    slot_within = inside_cell inside own touched

    -- A read finds the last write, and a write each access since.
    read_into : own.writes ≡ false → conflicts_into trail k.accesses t ≡ conflict_edges y (before trail item)
    read_into reads =
        conflicts_read trail t k.accesses own touched reads
        ∙ ap (λ last. from_item trail last t.group) (stands.writes.last own.cell slot_within)
        ∙ ap (from_item trail (latest (overwriting trail own.cell) item)) (sym (group_told t))
        ∙ sym
        (read_search trail y (overwriting trail own.cell)
        (λ other.
        touch_conflict (told_at trail other) t own touched
        ∙ ap (λ w. touches trail own.cell other && (writing trail other || w)) reads
        ∙ ap (λ w. touches trail own.cell other && w) (or_no (writing trail other)))
        (λ other. touch_overwrite (told_at trail other) t own touched) item (omega (arith, within)))

    write_into : own.writes ≡ true → conflicts_into trail k.accesses t ≡ conflict_edges y (before trail item)
    write_into writes =
        conflicts_write trail t k.accesses own touched writes
        ∙ ap (λ items. from_each trail items t.group) (stands.accesses.lists own.cell (rw stands.newest_long slot_within))
        ∙ ap (from_each trail (since (touches trail own.cell) (writing trail) item)) (sym (group_told t))
        ∙ sym
        (write_search trail y (touches trail own.cell) (writing trail)
        (λ other.
        touch_conflict (told_at trail other) t own touched
        ∙ ap (λ w. touches trail own.cell other && (writing trail other || w)) writes
        ∙ and_or_yes (touches trail own.cell other) (writing trail other))
        (λ other. touch_overwrite (told_at trail other) t own touched) item (omega (arith, within)))

  conflicts_into_lem : conflicts_into trail k.accesses t ≡ conflict_edges y (before trail item)
  conflicts_into_lem =
      told_or_not t.access
      (λ own touched. decided own.writes (write_into own touched) (read_into own touched))
      (λ untouched.
      conflicts_none trail t k.accesses untouched
      ∙ sym
      (no_conflicts trail y
      (λ other. untouched_conflict (told_at trail other) t untouched)
      (λ other. untouched_overwrite (told_at trail other) t untouched) item))

  pub edges_into_lem : edges_into trail item k ≡ program_edges y (before trail item) ++ conflict_edges y (before trail item)
  edges_into_lem = ap (λ es. es ++ conflicts_into trail k.accesses t) program_into_lem ∙ ap (λ es. program_edges y (before trail item) ++ es) conflicts_into_lem
