-- A record that never accesses a cell is accepted whatever that cell holds at the start, with the same events, so with the same order or ring.
use Rattle.std.specs.Prelude.{Option, Some, None}
use Prim.Native.Nat.{ℕ}
use mathlib.Core.Path.{◌≡◌, refl, ap, ap₂}
use mathlib.Core.List.{List, ◌∷◌}
use lib.Dec.{eqb}
use borrow.Author.Tests.{eqb-true, eqb-false}
use Rattle.model.specs.declared.Item.{Item}
use Rattle.model.specs.Refusals.{Ok}
use Rattle.model.specs.Programs.{Program}
use Rattle.model.specs.Machine.{Start, Access, initial}
use Rattle.model.specs.Replay.{Event, Origin, Replayed, begin, replay}
use Rattle.model.proofs.Laws.{decided}
use Rattle.model.proofs.TakenItems.{replay_taken, taken_replay}
use Rattle.traces.specs.Claims.{DifferOffAccesses}
use Rattle.traces.proofs.Views.{whole}
use Rattle.traces.proofs.Locality.{SameEvent}
use Rattle.traces.proofs.Following.{AllSame, none_same, more_same, Related, CaredAt, AllCared, RunToo, ends_too, follow}

-- Events whose marks are the same, as they are, are the same.
equal_events : {xs ys : List Event} → AllSame whole xs ys → xs ≡ ys
equal_events none_same = refl
equal_events (more_same {x} {y} e rest) = ap₂ ◌∷◌ (event_equal x y e) (equal_events rest)
  where
    event_equal : (x y : Event) → SameEvent whole x y → x ≡ y
    event_equal x y e =
        λ i. record {
          item = e.item i;
          place = ap (λ (o : Origin). o.place) e.mark i;
          group = ap (λ (o : Origin). o.group) e.mark i;
          queue = e.queue i;
          access = e.access i;
        }

module _ (P : Program) (start other : Start) where
  -- The cells where the two starts agree are the ones that matter.
  abbrev Same : ℕ → ℕ → Type 0
  Same rank cell = start rank cell ≡ other rank cell

  begins_alike : Related whole Same (begin start) (begin other)
  unfolding begin initial
  begins_alike =
      record {
        ranks = λ r. record { control = refl; registers = refl; taken = refl; requests = λ q. refl; deliveries = λ q. refl };
        row = refl;
        opened = refl;
        cells = λ r c same. same;
      }

  -- They agree at every access.
  all_cared : (events : List Event) → DifferOffAccesses start other events → AllCared whole Same events
  all_cared events differ i e at = at_access e.access refl
    where
      at_access : (x : Option Access) → e.access ≡ x → CaredAt whole Same x
      at_access None is = tt
      at_access (Some a) is =
          let rank : ℕ = a.address.rank in
          let cell : ℕ = a.address.cell in
          decided (eqb (start rank cell) (other rank cell))
          (λ same. eqb-true (start rank cell) (other rank cell) same)
          (λ not_same.
          absurd (differ rank cell (eqb-false (start rank cell) (other rank cell) not_same)
          (record { i = i; e = e; a = a; at = at; access = is; here = refl })))

  -- The record from the other start.
  pub record FromOther (items : List Item) (run : Replayed) : Type 0 where
    pub too : Replayed
    pub replayed : replay P other items ≡ Ok too
    pub events : run.events ≡ too.events
    pub opened : run.last.opened ≡ too.last.opened
    pub cells : (rank cell : ℕ) → start rank cell ≡ other rank cell → run.last.machine.cells rank cell ≡ too.last.machine.cells rank cell
    pub registers : (rank : ℕ) → run.last.machine.registers rank ≡ too.last.machine.registers rank
    pub taken : (rank : ℕ) → run.last.taken rank ≡ too.last.taken rank

  pub from_other : (items : List Item) (run : Replayed) → replay P start items ≡ Ok run → DifferOffAccesses start other run.events →
      FromOther items run
  from_other items run h differ =
      let (taken, ended) = replay_taken P start items h in
      let later : RunToo whole Same P (begin other) 0 items run =
      follow whole Same P items (begin start) (begin other) 0 0 begins_alike taken (all_cared run.events differ) in
      record {
        too = later.too;
        replayed = taken_replay P other items later.taken (ends_too whole Same P later.related ended);
        events = equal_events later.events;
        opened = later.related.opened;
        cells = later.related.cells;
        registers = λ r. (later.related.ranks r).registers;
        taken = λ r. (later.related.ranks r).taken;
      }
