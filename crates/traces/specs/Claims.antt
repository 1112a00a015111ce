-- The notions of "one trace, one page" (document 02, #112), of lists of items and of their events.
use Rattle.std.specs.Prelude.{ℕ, suc, ◌≡◌, Bool, false, ◌&&◌, ◌||◌, List, eqb, length, Some}
use Rattle.model.specs.declared.Address.{Address}
use Rattle.model.specs.declared.Item.{Item}
use Rattle.model.specs.declared.Kind.{Kind}
use Rattle.model.specs.declared.Kind.TheVariants.{Store, Popb}
use Rattle.model.specs.Choice.{select, Each}
use Rattle.model.specs.Refusals.{Ok}
use Rattle.model.specs.ItemKinds.{same_kind, is_bar, has_place}
use Rattle.model.specs.Programs.{Program}
use Rattle.model.specs.Machine.{Start, Access, address}
use Rattle.model.specs.Replay.{Event, Replayed, replay, same_address}
use Rattle.model.specs.HappensBefore.{At, conflict}
use Rattle.model.specs.Orders.{Verdict, ordered, cyclic}
use Rattle.model.specs.Traces.{InRecord}

-- An accepted record of a program from a start: items as a record has them, which the replay takes to this run.
pub record RecordedRun (P : Program) (start : Start) (run : Replayed) : Type 0 where
  pub items : List Item
  pub in_record : Each (InRecord P.header) items
  pub replayed : replay P start items ≡ Ok run

-- "two neighbouring items of different ranks, neither a bar, whose accesses do not conflict": x and y, whose events stand at a place and the next.
pub record Exchangeable (events : List Event) (place : ℕ) (x y : Item) : Type 0 where
  pub ranks : ¬ (x.rank ≡ y.rank)
  pub first_no_bar : is_bar x.kind ≡ false
  pub second_no_bar : is_bar y.kind ≡ false
  pub no_conflict : (e f : Event) → At events place e → At events (suc place) f → conflict e.access f.access ≡ false

-- Some event accesses this cell.
pub record Accesses (events : List Event) (rank cell : ℕ) : Type 0 where
  pub i : ℕ
  pub e : Event
  pub a : Access
  pub at : At events i e
  pub access : e.access ≡ Some a
  pub here : a.address ≡ address rank cell

-- "two starts differ only in cells that a record .. never accesses"
abbrev pub DifferOffAccesses : Start → Start → List Event → Type 0
DifferOffAccesses start other events = (rank cell : ℕ) → ¬ (start rank cell ≡ other rank cell) → ¬ (Accesses events rank cell)

-- Verdicts of one kind, which list as many groups.
pub data SameKind : Verdict → Verdict → Type 0 where
  orders : (l m : List ℕ) → length l ≡ length m → SameKind (ordered l) (ordered m)
  rings : (l m : List ℕ) → length l ≡ length m → SameKind (cyclic l) (cyclic m)

-- Items of a rank's log: its own, and the bars, which stand in rows.
abbrev pub in_log : (rank : ℕ) → Item → Bool
in_log rank i = is_bar i.kind || eqb i.rank rank

-- Items that write a cell, and those with which a rank accesses it.
abbrev pub writes_kind : Kind → Bool
writes_kind k = same_kind k Store || same_kind k Popb

abbrev pub at_cell : Address → (rank : ℕ) → Item → Bool
at_cell p rank i = has_place i.kind && same_address i.place p && (writes_kind i.kind || eqb i.rank rank)

-- Two merges of the same logs: each rank's items and the rows stand in the same order, and so do the writes to each cell with each rank's accesses of
-- it. So any two accesses of one cell, one of them a write, come in the same order.
pub record SameLogs (items others : List Item) : Type 0 where
  pub ranks : (rank : ℕ) → select (in_log rank) items ≡ select (in_log rank) others
  pub cells : (p : Address) (rank : ℕ) → select (at_cell p rank) items ≡ select (at_cell p rank) others
