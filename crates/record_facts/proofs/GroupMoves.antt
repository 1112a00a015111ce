-- Each step keeps what holds of the groups: it changes its event's group alone, a command's as it opens or joins it, a pop's from one stage to the
-- next.
use Prim.Native.Nat.{ℕ, suc, ◌-◌, ◌<◌, ◌≤◌}
use native.Mathlib.Omega.{arith}
use mathlib.Core.Path.{◌≡◌, refl, sym, ◌∙◌, ap, subst}
use mathlib.Core.Bool.{true, false}
use mathlib.Core.List.{List, [], ◌∷◌, ◌++◌, map-append}
use mathlib.Core.Logic.{◌⊎◌, inl, inr}
use lib.Dec.{eqb}
use borrow.Author.Tests.{eqb-true}
use Rattle.model.specs.declared.Item.{Item}
use Rattle.model.specs.declared.Kind.TheVariants.{Bar}
use Rattle.model.specs.Choice.{numbers_from, select}
use Rattle.model.specs.ItemKinds.{is_bar}
use Rattle.model.specs.Programs.{Program, Transition}
use Rattle.model.specs.Machine.{Start, Request, Delivery, initial, Action}
use Rattle.model.specs.Replay.{Origin, Event, Replay, begin, row_allows, group_of, opened_after, row_after, after_command, after_fetch, after_delivery}
use Rattle.model.specs.HappensBefore.{rank_of}
use Rattle.model.specs.Checks.{group_events}
use Rattle.model.proofs.ItemKinds.{same_kind_true}
use Rattle.model.proofs.Replay.{FetchTaken, DeliveryTaken, taken_oldest}
use Rattle.model.proofs.Laws.{decided}
use Rattle.record_facts.specs.Facts.{Local}
use Rattle.record_facts.proofs.Moves.{Commands, Move, commands, fetches, delivers}
use Rattle.record_facts.proofs.Locals.{local_of}
use Rattle.record_facts.proofs.Trajectory.{Run, begins, grows, local_now}
use Rattle.record_facts.proofs.Queues.{oldest_out, out_own}
use Rattle.record_facts.proofs.Status.{Standing, standing, request_group, delivery_group, nothing, Pops, Status, closed, fetch_status, delivery_status}
use Rattle.record_facts.proofs.Standings.{stands_other, stands_command, stands_fetch, stands_delivery}
use Rattle.record_facts.proofs.Rows.{no_row, row_kept, not_joining, next_rank, row_closes, row_grows, group_opened, count_opened, numbers_snoc, each_snoc}
use Rattle.record_facts.proofs.Groups.{OpenRow, Groups, Stands, stands_after_lem, known_group, command_status, entering}

module _ {P : Program} {local : ℕ → ℕ → Local} {s : Replay} {done : List Event} (inv : Groups P local done s)
    (now : (rank : ℕ) → local rank (s.taken rank) ≡ local_of s rank) where
  -- A command that is no bar opens a group, and finishes it or issues its transfer.
  command_groups : (i : Item) (t : Transition) (a : Action) → Commands P s i t a → is_bar i.kind ≡ false →
      Groups P local (done ++ (after_command P s i t.target a).event ∷ []) (after_command P s i t.target a).state
  command_groups i t a c other =
      let closed_row : s.row ≡ 0 = no_row s.row i c.taken.allowed other in
      let row_after_lem : row_after P.header.ranks s.row i ≡ s.row = row_kept P.header.ranks s.row i other in
      let group = group_opened s.opened i (not_joining i other) in
      let count = count_opened s.opened i (not_joining i other) in
      let step : Move P s _ _ = commands i t a c in
      record {
        fresh = λ g h. stands_other done step g (λ same. omega arith) ∙ inv.fresh g (omega arith);
        settled =
            λ g h reason.
            stands_after_lem done step g (λ same. command_status done now i t a c other (inv.fresh _ (omega arith)))
            (λ different. inv.settled g (omega arith) (inl closed_row));
        open_row = λ h. absurd (omega arith);
      }

  -- After a bar, its row has been entered by one rank more.
  entered : (i : Item) (t : Transition) (a : Action) (c : Commands P s i t a) → is_bar i.kind ≡ true →
      OpenRow i.rank (standing (group_of s.opened i) (done ++ (after_command P s i t.target a).event ∷ []) (after_command P s i
      t.target a).state)
  entered i t a c bar =
      let before = (entering inv i c.taken.allowed bar).was in
      let kind : i.kind ≡ Bar = same_kind_true i.kind Bar bar in
      let rank = next_rank s.row i c.taken.allowed bar in
      rw (stands_command s done P i t a c (rw kind refl))
      (record {
        bars = each_snoc before.bars kind;
        ranks =
            map-append rank_of (group_events (group_of s.opened i) done) _ ∙
            (ap (◌++ i.rank ∷ []) before.ranks ∙
            (ap (λ n. numbers_from 1 s.row ++ n ∷ []) (omega arith) ∙ (numbers_snoc 1 s.row ∙ ap (numbers_from 1) (sym rank))));
        no_requests_lem = before.no_requests_lem;
        no_deliveries_lem = before.no_deliveries_lem;
      })

  -- A row that is full is closed.
  closed_status : {g row : ℕ} (w : Standing) → OpenRow row w → row ≡ P.header.ranks → Status P local g w
  closed_status {g} w row full =
      subst (λ r. Status P local g (record { events = w.events; requests = r; deliveries = w.deliveries })) (sym row.no_requests_lem)
      (subst (λ d. Status P local g (record { events = w.events; requests = nothing; deliveries = d })) (sym row.no_deliveries_lem)
      (closed w.events row.bars (row.ranks ∙ ap (numbers_from 1) full)))

  -- If no row is open after a bar, it was the last rank's.
  last_rank : (i : Item) → row_allows s.row i ≡ true → is_bar i.kind ≡ true → row_after P.header.ranks s.row i ≡ 0 →
      i.rank ≡ P.header.ranks
  last_rank i allowed bar none_open =
      decided (eqb i.rank P.header.ranks)
      (λ full. eqb-true i.rank P.header.ranks full)
      (λ more. absurd (omega (arith, row_grows P.header.ranks s.row i bar more, next_rank s.row i allowed bar)))

  -- The last group is settled only if no row is open.
  no_row_after : (i : Item) {g : ℕ} → (row_after P.header.ranks s.row i ≡ 0) ⊎ (suc g < opened_after s.opened i) →
      suc g ≡ opened_after s.opened i → row_after P.header.ranks s.row i ≡ 0
  no_row_after i (inl none_open) last = none_open
  no_row_after i (inr before) last = absurd (omega arith)

  -- A row that is open after a bar is the one that the bar has entered.
  still_open : (i : Item) (t : Transition) (a : Action) (c : Commands P s i t a) → is_bar i.kind ≡ true →
      let after = after_command P s i t.target a in
      1 ≤ after.state.row → OpenRow after.state.row (standing (after.state.opened - 1) (done ++ after.event ∷ []) after.state)
  still_open i t a c bar positive =
      let last = (entering inv i c.taken.allowed bar).last in
      let group : opened_after s.opened i - 1 ≡ group_of s.opened i = omega arith in
      decided (eqb i.rank P.header.ranks)
      (λ full. absurd (omega (arith, row_closes P.header.ranks s.row i bar full)))
      (λ more. rw (row_grows P.header.ranks s.row i bar more, group) (entered i t a c bar))

  -- A bar enters its row, and closes it if it is the last rank's.
  bar_groups : (i : Item) (t : Transition) (a : Action) → Commands P s i t a → is_bar i.kind ≡ true →
      Groups P local (done ++ (after_command P s i t.target a).event ∷ []) (after_command P s i t.target a).state
  bar_groups i t a c bar =
      let step : Move P s _ _ = commands i t a c in
      let enter = entering inv i c.taken.allowed bar in
      let last = enter.last in
      let rises = enter.rises in
      record {
        fresh = λ g h. stands_other done step g (λ same. omega arith) ∙ inv.fresh g (omega arith);
        settled =
            λ g h reason.
            stands_after_lem done step g
            (λ same. closed_status _ (entered i t a c bar) (last_rank i c.taken.allowed bar (no_row_after i reason (omega arith))))
            (λ different. let (known, settled) = enter.others g (omega arith) in inv.settled g known settled);
        open_row = λ h. (omega arith, still_open i t a c bar h);
      }

  -- A pop changes its own group, which is numbered; no row is open, and none is opened.
  pop_groups : {s' : Replay} {e : Event} → Move P s e s' → s.row ≡ 0 → s'.row ≡ s.row → s'.opened ≡ s.opened → e.group < s.opened →
      (Stands P local done s e.group → Stands P local (done ++ e ∷ []) s' e.group) → Groups P local (done ++ e ∷ []) s'
  pop_groups step closed_row row opened known own =
      record {
        fresh = λ g h. stands_other done step g (λ same. omega arith) ∙ inv.fresh g (omega arith);
        settled =
            λ g h reason.
            stands_after_lem done step g
            (λ same. own (inv.settled _ known (inl closed_row)))
            (λ different. inv.settled g (omega arith) (inl closed_row));
        open_row = λ h. absurd (omega arith);
      }

  -- A fetch takes its transfer on, and so does a delivery.
  fetch_groups : (i : Item) (a : Request Origin) (rest : List (Request Origin)) → FetchTaken s i a rest →
      Groups P local (done ++ (after_fetch s i a rest).event ∷ []) (after_fetch s i a rest).state
  fetch_groups i a rest c =
      let taken = taken_oldest c in
      let out = oldest_out taken in
      let own = out_own request_group (request_group a) out refl in
      let pops : Pops (after_fetch s i a rest).event i.rank i.queue a.mark a.remote =
      record {
        rank_is = refl;
        item_queue = refl;
        queue_is = refl;
        place = refl;
        for_remote = taken.passes;
      } in
      pop_groups (fetches i a rest c) (no_row s.row i c.allowed (rw c.kind_is refl)) refl refl
      (known_group inv request_group out (ap (λ w. w.requests i.rank i.queue)))
      (λ stood. rw (stands_fetch s done i a rest) (fetch_status stood _ i.rank i.queue _ a _ c.kind_is pops refl own))

  delivery_groups : (i : Item) (b : Delivery Origin) (rest : List (Delivery Origin)) → DeliveryTaken s i b rest →
      Groups P local (done ++ (after_delivery s i b rest).event ∷ []) (after_delivery s i b rest).state
  delivery_groups i b rest c =
      let taken = taken_oldest c in
      let out = oldest_out taken in
      let own = out_own delivery_group (delivery_group b) out refl in
      let pops : Pops (after_delivery s i b rest).event i.rank i.queue b.mark b.remote =
      record {
        rank_is = refl;
        item_queue = refl;
        queue_is = refl;
        place = refl;
        for_remote = taken.passes;
      } in
      pop_groups (delivers i b rest c) (no_row s.row i c.allowed (rw c.kind_is refl)) refl refl
      (known_group inv delivery_group out (ap (λ w. w.deliveries i.rank i.queue)))
      (λ stood. rw (stands_delivery s done i b rest) (delivery_status stood _ i.rank i.queue b _ c.kind_is pops refl own))

  -- Each step keeps the groups.
  pub move_groups : {s' : Replay} {e : Event} → Move P s e s' → Groups P local (done ++ e ∷ []) s'
  move_groups (commands i t a c) = decided (is_bar i.kind) (bar_groups i t a c) (command_groups i t a c)
  move_groups (fetches i a rest c) = fetch_groups i a rest c
  move_groups (delivers i b rest c) = delivery_groups i b rest c

-- The groups at each point of a run.
pub groups : {P : Program} {start : Start} {local : ℕ → ℕ → Local} {done : List Event} {s : Replay} → Run P start local done s → Groups P local done s
unfolding begin initial select
groups (begins h) =
    record { fresh = λ g h. refl; settled = λ g h reason. absurd (omega arith); open_row = λ h. absurd (omega arith) }
groups (grows run step h) = move_groups (groups run) (local_now run) step
