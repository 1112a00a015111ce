-- Two accepted records of one program with the same trace: each event of the one has its counterpart in the other, of the same kind, at the same cell,
-- writing alike; and two that conflict stand the same way round in both.
use Prim.Native.Nat.{ℕ, ◌<◌}
use mathlib.Core.Path.{◌≡◌, refl, sym, ◌∙◌, ap, subst}
use mathlib.Core.Bool.{true}
use mathlib.Core.Logic.{◌↔◌}
use native.Mathlib.Omega.{arith}
use Rattle.model.specs.ItemKinds.{Part, command, fetch, delivery, part_of, is_command_part}
use Rattle.model.specs.Programs.{Program}
use Rattle.model.specs.Machine.{Start}
use Rattle.model.specs.Replay.{Event, Replayed}
use Rattle.model.specs.HappensBefore.{At, conflict}
use Rattle.model.specs.Traces.{Identified, cell_of, SameTrace}
use Rattle.model.specs.Lists.{Precedes, ◌∈◌}
use Rattle.model.proofs.Lists.{position}
use Rattle.model.proofs.ItemKinds.{fetch_kind, delivery_kind}
use Rattle.record_facts.specs.Facts.{Facts}
use Rattle.record_facts.proofs.FactsHold.{facts}
use Rattle.serializability.proofs.Identity.{identified_sym, identity_unique}
use Rattle.serializability.proofs.CommandKinds.{Twins, first_in_lem, second_in, same_kinds}
use Rattle.serializability.proofs.Correspondence.{Counterpart, counterpart, twins}
use Rattle.traces.specs.Claims.{RecordedRun, writes_kind}
use Rattle.traces.proofs.Accesses.{WritesAs, kind_writes, WriteAlike, write_alike}

abbrev pub facts_of : {P : Program} {start : Start} {run : Replayed} (a : RecordedRun P start run) → Facts P start a.items run
facts_of {P} {start} {run} a = facts P start a.items run a.in_record a.replayed

-- What stands before another stands at an earlier place, since an identity names one event.
pub at_places : {P : Program} {start : Start} {run : Replayed} (a : RecordedRun P start run) (i j : ℕ) {x y : Event} → At run.events i x →
    At run.events j y → Precedes run.events x y → i < j
at_places a i j {x} {y} ax ay p =
    let one = identity_unique (facts_of a) p.i i p.first ax (itself x) in
    let two = identity_unique (facts_of a) p.j j p.second ay (itself y) in
    omega (arith, p.before, one, two)
  where
    itself : (e : Event) → Identified e e
    itself e = record { rank = refl; place = refl; part = refl }

module _ {P : Program} {start start' : Start} {run run' : Replayed} (a : RecordedRun P start run) (a' : RecordedRun P start' run')
    (trace : SameTrace run.events run'.events) where
  -- An event and its counterpart; the pair of two events, of an event of the first record, and of one of the second.
  abbrev pub Pair : Type 0
  Pair = Twins run.events run'.events

  abbrev pub pair : {x y : Event} → x ∈ run.events → y ∈ run'.events → Identified x y → Pair
  pair {x} {y} mx my same =
      record { i = (position mx).0; j = (position my).0; x = x; y = y; first = (position mx).1; second = (position my).1; same = same }

  abbrev pub paired : (i : ℕ) (x : Event) → At run.events i x → Pair
  paired i x ax = twins i x ax (counterpart (facts_of a) (facts_of a') trace.transitions i x ax)

  abbrev pub paired' : (j : ℕ) (y : Event) → At run'.events j y → Pair
  paired' j y ay =
      let c : Counterpart run.events y = counterpart (facts_of a') (facts_of a) (λ rank. sym (trace.transitions rank)) j y ay in
      record { i = c.j; j = j; x = c.y; y = y; first = c.at; second = ay; same = identified_sym c.same }

  -- Both are of one kind: a command's is its transition's, and a pop's its part's.
  pub pair_kind : (w : Pair) → w.x.item.kind ≡ w.y.item.kind
  pair_kind w = go (part_of w.x.item.kind) refl
    where
      go : (p : Part) → part_of w.x.item.kind ≡ p → w.x.item.kind ≡ w.y.item.kind
      go command is = same_kinds (facts_of a) (facts_of a') trace.transitions w (ap is_command_part is)
      go fetch is = fetch_kind w.x.item.kind is ∙ sym (fetch_kind w.y.item.kind (sym w.same.part ∙ is))
      go delivery is = delivery_kind w.x.item.kind is ∙ sym (delivery_kind w.y.item.kind (sym w.same.part ∙ is))

  pub pair_cells : (w : Pair) → cell_of w.x ≡ cell_of w.y
  pair_cells w = trace.cells w.x w.y (first_in_lem w) (second_in w) w.same

  -- So both write, or neither does: they are alike, as far as conflicts go.
  first_writes : (w : Pair) → WritesAs (writes_kind w.x.item.kind) w.x.access
  first_writes w = kind_writes a w.i w.x w.first

  second_writes : (w : Pair) → WritesAs (writes_kind w.x.item.kind) w.y.access
  second_writes w = subst (λ k. WritesAs (writes_kind k) w.y.access) (sym (pair_kind w)) (kind_writes a' w.j w.y w.second)

  pub pair_alike : (w : Pair) → WriteAlike w.x.access w.y.access
  pair_alike w = write_alike (writes_kind w.x.item.kind) w.x.access w.y.access (first_writes w) (second_writes w) (pair_cells w)

  -- Pairs that conflict stand the same way round in both.
  pub pair_order : (v w : Pair) → conflict v.x.access w.x.access ≡ true → (v.i < w.i) ↔ (v.j < w.j)
  pair_order v w c =
      let o = trace.order v.x w.x v.y w.y (first_in_lem v) (first_in_lem w) (second_in v) (second_in w) v.same w.same c in (
        (λ less. at_places a' v.j w.j v.second w.second
            (o.0 (record { i = v.i; j = w.i; first = v.first; second = w.first; before = less }))),
        (λ less. at_places a v.i w.i v.first w.first
            (o.1 (record { i = v.j; j = w.j; first = v.second; second = w.second; before = less }))),
      )
