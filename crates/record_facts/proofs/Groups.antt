-- The groups at a point of a run. Those not yet numbered have nothing. Of those that are numbered, the last may be a barrier row that is still
-- open; every other stands as a finished command, a closed row, or a transfer at one of its stages. Here too is what a command makes of its group:
-- one that is no bar opens a group; a bar enters a row, which the bar of rank 1 opens and every later one joins.
use Rattle.model.specs.declared.Action.TheVariants.{Loads, Stores, Assigns, Passes, Issues, Meets}
use Prim.Native.Nat.{ℕ, suc, ◌-◌, ◌<◌, ◌≤◌}
use native.Mathlib.Nat.{le_refl}
use native.Mathlib.Omega.{arith}
use mathlib.Core.Path.{◌≡◌, refl, sym, subst, ap}
use mathlib.Core.Bool.{true, false, true≢false}
use mathlib.Core.List.{List, [], ◌∷◌, ◌++◌, map}
use mathlib.Core.Logic.{◌⊎◌, inl, inr}
use lib.Dec.{leb}
use borrow.Author.Tests.{leb-true, leb-false}
use Rattle.model.specs.declared.Address.{Address}
use Rattle.model.specs.declared.Item.{Item}
use Rattle.model.specs.declared.Kind.TheVariants.{Bar}
use Rattle.model.specs.Choice.{numbers_from, Each, all}
use Rattle.model.specs.ItemKinds.{is_bar, is_transfer, is_command_part}
use Rattle.model.specs.Programs.{Program, Transition}
use Rattle.model.specs.Machine.{Action}
use Rattle.model.specs.Replay.{Event, Replay, row_allows, joins_row, group_of, opened_after, queue_of, origin_of, after_command}
use Rattle.model.specs.HappensBefore.{rank_of}
use Rattle.model.proofs.Laws.{decided}
use Rattle.record_facts.specs.Facts.{Local}
use Rattle.record_facts.proofs.Moves.{Commands, Move}
use Rattle.record_facts.proofs.Locals.{local_of}
use Rattle.record_facts.proofs.Queues.{Out, entries_of, out_own, out_nothing}
use Rattle.record_facts.proofs.Status.{Standing, standing, nothing, unopened, plus_event, plus_request, Issuing, request_of, Status, alone, issued}
use Rattle.record_facts.proofs.Standings.{stands_other, stands_command, stands_transfer}
use Rattle.record_facts.proofs.Rows.{either, joining, opening, group_joined, group_opened, count_joined, count_opened}

-- A row that ranks 1 to `row` have entered.
pub record OpenRow (row : ℕ) (was : Standing) : Type 0 where
  pub bars : Each (λ e. e.item.kind ≡ Bar) was.events
  pub ranks : map rank_of was.events ≡ numbers_from 1 row
  pub no_requests_lem : was.requests ≡ nothing
  pub no_deliveries_lem : was.deliveries ≡ nothing

-- The groups at a point of a run.
pub record Groups (P : Program) (local : ℕ → ℕ → Local) (done : List Event) (s : Replay) : Type 0 where
  pub fresh : (g : ℕ) → s.opened ≤ g → standing g done s ≡ unopened
  pub settled : (g : ℕ) → g < s.opened → (s.row ≡ 0) ⊎ (suc g < s.opened) → Status P local g (standing g done s)
  pub open_row : 1 ≤ s.row → (1 ≤ s.opened) × OpenRow s.row (standing (s.opened - 1) done s)

-- A group at a point of a run.
abbrev pub Stands : (P : Program) (local : ℕ → ℕ → Local) (done : List Event) (s : Replay) (g : ℕ) → Type 0
Stands P local done s g = Status P local g (standing g done s)

-- After a step: its event's group as it stands then, and every other as it stood.
pub stands_after_lem : {P : Program} {local : ℕ → ℕ → Local} {s s' : Replay} {e : Event} (done : List Event) → Move P s e s' → (g : ℕ) →
    (e.group ≡ g → Stands P local (done ++ e ∷ []) s' e.group) → (¬ (e.group ≡ g) → Stands P local done s g) →
    Stands P local (done ++ e ∷ []) s' g
stands_after_lem {P} {local} {s' = s'} {e} done step g own others =
    either e.group g
    (λ same. subst (Stands P local (done ++ e ∷ []) s') same (own same))
    (λ different. rw (stands_other done step g different) (others different))

-- An entry belongs to a group that is numbered, since the others have none.
pub known_group : {P : Program} {local : ℕ → ℕ → Local} {s : Replay} {done : List Event} → Groups P local done s →
    {A : Type 0} (group : A → ℕ) {a : A} {l rest : List A} → Out a l rest →
    (standing (group a) done s ≡ unopened → entries_of group (group a) l ≡ []) → group a < s.opened
known_group {s = s} inv group {a} o none_there =
    decided (leb s.opened (group a))
    (λ beyond. absurd (out_nothing (out_own group (group a) o refl) (none_there (inv.fresh (group a) (leb-true s.opened (group a) beyond)))))
    (λ known. leb-false s.opened (group a) known)

-- What a command makes of a group that is not yet opened.
module _ {P : Program} {local : ℕ → ℕ → Local} {s : Replay} (done : List Event)
    (now : (rank : ℕ) → local rank (s.taken rank) ≡ local_of s rank) (i : Item) (t : Transition) where
  -- A transfer issues its request.
  issues_status : (q remote : ℕ) (source destination : Address) → Commands P s i t (Issues q remote source destination) →
      let g = (origin_of s i).group in let after = after_command P s i t.target (Issues q remote source destination) in
      standing g done s ≡ unopened → Stands P local (done ++ after.event ∷ []) after.state g
  unfolding queue_of
  issues_status q remote source destination c was =
      let g = (origin_of s i).group in
      let e = (after_command P s i t.target (Issues q remote source destination)).event in
      let issue : Issuing P local e remote source destination =
      record {
        kind = c.fits.0;
        low = c.in_record.low;
        high = c.in_record.high;
        queue = c.fits.2;
        acts = λ at t' found. let same : t' ≡ t = cc c.taken.found in rw (now i.rank, same) (c.taken.acts at);
      } in
      rw (stands_transfer s done P i t q remote source destination)
      (subst (λ w. Status P local g (plus_request i.rank q (request_of g e remote source destination) (plus_event e w))) (sym was)
      (issued e remote source destination issue))

  -- A command that is neither a transfer nor a bar is done.
  alone_status : (a : Action) → Commands P s i t a → is_transfer i.kind ≡ false → is_bar i.kind ≡ false →
      let g = (origin_of s i).group in let after = after_command P s i t.target a in
      standing g done s ≡ unopened → Stands P local (done ++ after.event ∷ []) after.state g
  alone_status a c plain bar was =
      let e = (after_command P s i t.target a).event in
      rw (stands_command s done P i t a c plain)
      (subst (λ w. Status P local (origin_of s i).group (plus_event e w)) (sym was) (alone e (ap is_command_part c.taken.part) plain bar))

  -- Any command that is no bar.
  pub command_status : (a : Action) → Commands P s i t a → is_bar i.kind ≡ false →
      let g = (origin_of s i).group in let after = after_command P s i t.target a in
      standing g done s ≡ unopened → Stands P local (done ++ after.event ∷ []) after.state g
  command_status (Loads x v) c bar was = alone_status (Loads x v) c c.fits.0 bar was
  command_status (Stores x v) c bar was = alone_status (Stores x v) c c.fits.0 bar was
  command_status (Assigns x v) c bar was = alone_status (Assigns x v) c c.fits.0 bar was
  command_status Passes c bar was = alone_status Passes c c.fits.0 bar was
  command_status (Issues q remote source destination) c bar was = issues_status q remote source destination c was
  command_status Meets c bar was = absurd (true≢false (rw c.fits at bar))

-- A bar's group is the last one after it; before it, it is the row that ranks 1 to `row` have entered, and every other group is settled.
pub record Entering (s : Replay) (done : List Event) (i : Item) : Type 0 where
  pub last : suc (group_of s.opened i) ≡ opened_after s.opened i
  pub was : OpenRow s.row (standing (group_of s.opened i) done s)
  pub rises : s.opened ≤ opened_after s.opened i
  pub others : (g : ℕ) → suc g < opened_after s.opened i → (g < s.opened) × ((s.row ≡ 0) ⊎ (suc g < s.opened))

module _ {P : Program} {local : ℕ → ℕ → Local} {s : Replay} {done : List Event} (inv : Groups P local done s)
    (i : Item) (allowed : row_allows s.row i ≡ true) where
  -- A bar that joins the row, and the bar of rank 1.
  enters_joined : joins_row i ≡ true → Entering s done i
  enters_joined joins =
      let group = group_joined s.opened i joins in
      let count = count_joined s.opened i joins in
      let (positive, was) = inv.open_row (joining s.row i allowed joins).1 in
      record {
        last = omega arith;
        was = rw group was;
        rises = omega arith;
        others = λ g h. let h' : suc g < s.opened = omega arith in (omega arith, inr h');
      }

  enters_opened : is_bar i.kind ≡ true → joins_row i ≡ false → Entering s done i
  unfolding numbers_from
  enters_opened bar opens =
      let group = group_opened s.opened i opens in
      let count = count_opened s.opened i opens in
      let closed_row = opening s.row i allowed bar opens in
      let empty : OpenRow 0 unopened = record { bars = all; ranks = refl; no_requests_lem = refl; no_deliveries_lem = refl } in
      record {
        last = omega arith;
        was = rw (closed_row, group) (subst (OpenRow 0) (sym (inv.fresh s.opened (le_refl s.opened))) empty);
        rises = omega arith;
        others = λ g h. (omega arith, inl closed_row);
      }

  -- Either way.
  pub entering : is_bar i.kind ≡ true → Entering s done i
  entering bar = decided (joins_row i) enters_joined (enters_opened bar)
