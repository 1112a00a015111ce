-- An accepted record's events can all be told, and its arrows fit the tables: the trail gives the arrows of the run, and the table of arrows all of
-- them.
use Rattle.std.specs.Prelude.{Option, Some, None}
use Prim.Native.Nat.{ℕ, ◌≤◌, ◌<◌}
use mathlib.Core.Path.{◌≡◌, ap, ◌∙◌}
use mathlib.Core.List.{List}
use native.Mathlib.Omega.{arith}
use lib.ListN.{length}
use Rattle.model.specs.declared.Header.{Header}
use Rattle.model.specs.Limits.{max_items}
use Rattle.model.specs.Refusals.{Ok}
use Rattle.model.specs.Programs.{HeaderFits}
use Rattle.model.specs.Machine.{Access}
use Rattle.model.specs.Replay.{Event, Replayed}
use Rattle.model.specs.HappensBefore.{edges_of}
use Rattle.model.specs.Checks.{Accepted, accept}
use Rattle.record_facts.proofs.Bounds.{AccessIn, EventIn, Bounds, accepted_bounds}
use Rattle.items.proofs.Accesses.{Placed}
use Rattle.trails.specs.Trails.{trail_of}
use Rattle.ordering.proofs.Counting.{edges_count}
use Rattle.ordering.proofs.Retold.{Throughout}
use Rattle.ordering.proofs.Runs.{run_proper}
use Rattle.graph.specs.Edges.{edge_table, graph_in}
use Rattle.graph.proofs.Edges.{graph_whole}
use Rattle.happens_before.specs.Told.{events_told}
use Rattle.graph.specs.Drawn.{drawn_as}
use Rattle.happens_before.proofs.Again.{Tellable, told_again}

-- A run whose events can be told, with no more groups than events.
pub record TellableRun (run : Replayed) : Type 0 where
  pub few : length run.events ≤ max_items
  pub tellable : Throughout Tellable run.events
  pub groups : Throughout (λ e. e.group < run.last.opened) run.events
  pub opened : run.last.opened ≤ length run.events

access_placed : {header : Header} → HeaderFits header → (access : Option Access) → AccessIn header access → Placed access
access_placed fits None inside = tt
access_placed fits (Some a) inside =
    record {
      rank_held = record { first = inside.rank.low; last = omega (arith, inside.rank.high, fits.ranks_fit) };
      cell_held = omega (arith, inside.cell, fits.cells_fit);
    }

event_tellable : {header : Header} → HeaderFits header → (e : Event) → EventIn header e → e.group < max_items → Tellable e
event_tellable fits e inside group =
    record {
      rank = λ _. record { first = inside.rank.low; last = omega (arith, inside.rank.high, fits.ranks_fit) };
      group = group;
      access = access_placed fits e.access inside.access;
    }

-- Every accepted record is such a run.
pub bounds_tellable : {header : Header} (run : Replayed) → HeaderFits header → length run.events ≤ max_items →
    Bounds header 0 (length run.events) run → TellableRun run
bounds_tellable run fits few b =
    record {
      few = few;
      tellable = λ i e at. event_tellable fits e (b.inside i e at) (omega (arith, b.group i e at, b.most));
      groups = b.group;
      opened = omega (arith, b.most);
    }

pub accepted_tellable : (program start recorded : List ℕ) (a : Accepted) → accept program start recorded ≡ Ok a → TellableRun a.run
accepted_tellable program start recorded a h =
    let b = accepted_bounds program start recorded a h in bounds_tellable a.run b.header b.few b.bounds

module _ {run : Replayed} (t : TellableRun run) where
  -- What its trail tells has the run's arrows.
  pub run_told : edges_of (events_told (length run.events) (trail_of run.events)) ≡ edges_of run.events
  run_told = told_again run.events t.tellable t.few

  -- The table of its arrows has room for all of them, and they are all between its groups.
  pub run_graph : graph_in run.last.opened (length (edges_of run.events)) (edge_table (edges_of run.events)) ≡ edges_of run.events
  run_graph =
      graph_whole run.last.opened (edges_of run.events) (omega (arith, t.opened, t.few))
      (run_proper run.last.opened run.events t.groups).below
      (omega (arith, t.few, edges_count run.events))

  -- So what is drawn from the trail is the run's graph.
  pub run_drawn : let drawn = drawn_as (edges_of (events_told (length run.events) (trail_of run.events))) in
      graph_in run.last.opened drawn.count drawn.edges ≡ edges_of run.events
  run_drawn = ap (λ edges. graph_in run.last.opened (length edges) (edge_table edges)) run_told ∙ run_graph
