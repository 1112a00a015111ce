-- The first items of an accepted record's groups: its events are its items', which stand one after the other in its bytes, and its trail tells their
-- groups.
use Rattle.std.specs.Prelude.{Option, None}
use Prim.Native.Nat.{ℕ, ◌+◌, ◌≤◌, ◌<◌}
use mathlib.Core.Path.{◌≡◌}
use mathlib.Core.List.{List, [], map}
use native.Mathlib.Omega.{arith}
use lib.ListN.{length, length-replicate, get_or-replicate}
use Rattle.model.specs.declared.Header.{Header}
use Rattle.model.specs.declared.Item.{Item}
use Rattle.model.specs.Limits.{max_items}
use Rattle.model.specs.Refusals.{Ok}
use Rattle.model.specs.Replay.{Event, begin}
use Rattle.model.specs.Checks.{Accepted, accept}
use Rattle.model.proofs.TakenItems.{taken_items, replay_taken}
use Rattle.model.proofs.Accepted.{accepted_parts}
use Rattle.memory.specs.Tables.{zeros}
use Rattle.graph.proofs.Edges.{filled_at}
use Rattle.record.specs.Places.{ItemsFrom, first_item}
use Rattle.record.proofs.Places.{record_items}
use Rattle.record_facts.proofs.Bounds.{accepted_bounds}
use Rattle.trails.specs.Trails.{row_of_event, trail_of, trail_size}
use Rattle.first_items.specs.declared.Noted.{Noted}
use Rattle.first_items.specs.Firsts.{first_in, no_firsts, first_items, first_of}
use Rattle.first_items.proofs.Firsts.{TellsGroups, finds}

trail_tells : (events : List Event) → TellsGroups (trail_of events) 0 events
trail_tells events i e at =
    let n : 0 + i ≡ i = omega arith in
    rw (n, filled_at row_of_event events (zeros trail_size) [] i at)

pub run_firsts : (h : Header) (recorded : List ℕ) {items : List Item} (events : List Event) {end : ℕ} → ItemsFrom h recorded first_item items end →
    map (λ e. e.item) events ≡ items → length events ≤ max_items → (g : ℕ) → g < max_items →
    first_of h recorded (first_items h recorded (trail_of events) (length events)) g ≡ first_in g 0 events
unfolding first_items
run_firsts h recorded events from same few g row =
    finds h recorded (trail_of events) g row events 0 no_firsts from same (trail_tells events) (omega arith)
    (length-replicate {A = Option Noted} max_items None) (get_or-replicate max_items g None None row)

pub accepted_firsts : (program start recorded : List ℕ) (a : Accepted) → accept program start recorded ≡ Ok a → (g : ℕ) → g < max_items →
    let h = a.program.header in
    first_of h recorded (first_items h recorded (trail_of a.run.events) (length a.run.events)) g ≡ first_in g 0 a.run.events
accepted_firsts program start recorded a h g row =
    let few = (accepted_bounds program start recorded a h).few in
    let p = accepted_parts program start recorded a h in
    run_firsts a.program.header recorded a.run.events (record_items a.program.header recorded p.record_read_lem).items_from
    (taken_items a.program (begin a.readings) 0 p.items (replay_taken a.program a.readings p.items p.replayed).0) few g row
