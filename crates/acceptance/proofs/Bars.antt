-- Bars one at a time: a bar that the replay takes is the next of its row, and moves its rank; any other item comes only where no row is open.
use Rattle.model.specs.declared.Action.TheVariants.{Meets}
use Rattle.std.specs.Prelude.{None}
use Prim.Native.Nat.{ℕ, ◌+◌}
use mathlib.Core.Path.{◌≡◌, refl, sym, ap, subst, ◌∙◌}
use mathlib.Core.Bool.{true, false, false≢true}
use lib.Dec.{eqb}
use borrow.Author.Tests.{eqb-true}
use Rattle.model.specs.declared.Kind.TheVariants.{Bar}
use Rattle.model.specs.declared.Item.{Item}
use Rattle.model.specs.Choice.{when}
use Rattle.model.specs.ItemKinds.{is_bar}
use Rattle.model.specs.Programs.{Program, Command, bar, kind_of}
use Rattle.model.specs.Machine.{Action, move_to}
use Rattle.model.specs.Rules.{command, Rank, Enabled, Recorded}
use Rattle.model.specs.Replay.{Replay, Taken, row_allows, row_after}
use Rattle.model.proofs.ItemKinds.{same_kind_true, kind_of_bar}
use Rattle.model.proofs.Replay.{ItemTaken, commands, fetches, delivers}
use Rattle.model.proofs.Actions.{Asks, meeting, action_asks}
use Rattle.acceptance.specs.Bare.{bare}
use Rattle.acceptance.proofs.Marks.{successor, bare_perform}
use Rattle.acceptance.proofs.Single.{command_enabled}

-- A bar asks for no more than to meet.
pub asks_bar : {P : Program} {r : ℕ} {registers : ℕ → ℕ} {c : Command} {a : Action} → Asks P r registers c a → kind_of c ≡ Bar → a ≡ Meets
asks_bar {P} {r} {registers} {c} {a} asks h = only (subst (λ (c : Command). Asks P r registers c a) (kind_of_bar c h) asks)
  where
    only : {a : Action} → Asks P r registers bar a → a ≡ Meets
    only meeting = refl

-- The row after a bar of this rank.
abbrev pub row_past : Program → ℕ → ℕ
row_past P r = when (eqb r P.header.ranks) (λ _. 0) (λ _. r)

-- What holds of a bar that is taken.
pub record BarTaken (P : Program) (s : Replay) (i : Item) (taken : Taken) : Type 0 where
  pub target : ℕ
  pub next : i.rank ≡ s.row + 1
  pub enabled : Enabled P (bare s.machine) i.rank i.transition bar target
  pub recorded : Recorded (command Bar i.rank i.transition None) i
  pub state : bare taken.state.machine ≡ move_to (bare s.machine) i.rank target
  pub row : taken.state.row ≡ row_past P i.rank

module _ (P : Program) (s : Replay) (i : Item) where
  -- A bar is taken: all this holds.
  pub bar_taken : {taken : Taken} → Rank P i.rank → is_bar i.kind ≡ true → ItemTaken P s i taken → BarTaken P s i taken
  unfolding row_allows row_after successor
  bar_taken rank isbar (commands t a c) =
      let kind : i.kind ≡ Bar = same_kind_true i.kind Bar isbar in
      let act = asks_bar (action_asks P i.rank (s.machine.registers i.rank) 0 t.command (c.acts 0)) (c.kind ∙ kind) in
      record {
        target = t.target;
        next = eqb-true i.rank (s.row + 1) (rw isbar at c.allowed);
        enabled =
            subst (λ (k : Command). Enabled P (bare s.machine) i.rank i.transition k t.target) (kind_of_bar t.command (c.kind ∙ kind))
            (command_enabled P s i rank c);
        recorded = record { kind = kind; rank = refl; choice = refl; access = tt };
        state =
            bare_perform P s.machine i.rank _ a t.target ∙
            ap (λ (x : Action). successor P (bare s.machine) i.rank x t.target) act;
        row = rw isbar;
      }
  bar_taken rank isbar (fetches a rest f) = absurd (false≢true (ap is_bar (sym f.kind_is) ∙ isbar))
  bar_taken rank isbar (delivers b rest d) = absurd (false≢true (ap is_bar (sym d.kind_is) ∙ isbar))

  -- No row is open before or after an item that is no bar.
  pub single_row : {taken : Taken} → is_bar i.kind ≡ false → ItemTaken P s i taken → (s.row ≡ 0) × (taken.state.row ≡ 0)
  unfolding row_allows row_after
  single_row single (commands t a c) = (closed c.allowed, rw single (closed c.allowed))
    where
      closed : row_allows s.row i ≡ true → s.row ≡ 0
      closed allowed = eqb-true s.row 0 (rw single at allowed)
  single_row single (fetches a rest f) = let row = eqb-true s.row 0 (rw single at f.allowed) in (row, row)
  single_row single (delivers b rest d) = let row = eqb-true s.row 0 (rw single at d.allowed) in (row, row)
