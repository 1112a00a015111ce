-- Events of which two neighbours have changed places, of different ranks and without a conflict: the trace is the same.
use Rattle.model.proofs.Options.{some-injective}
use Prim.Native.Nat.{ℕ, zero, suc, ◌<◌}
use mathlib.Core.Path.{◌≡◌, refl, sym, ◌∙◌, ap, ap₂, subst}
use mathlib.Core.Bool.{true, false, ◌&&◌, true≢false}
use mathlib.Core.List.{List, ◌∷◌}
use native.Mathlib.Nat.{not-suc-le-zero, le_of_suc-le-suc}
use native.Mathlib.Omega.{arith}
use lib.Dec.{eqb}
use borrow.Author.Tests.{eqb-true}
use Rattle.model.specs.declared.Item.{Item}
use Rattle.model.specs.Choice.{select}
use Rattle.model.specs.ItemKinds.{is_command_kind}
use Rattle.model.specs.Programs.{Program}
use Rattle.model.specs.Machine.{Start}
use Rattle.model.specs.Replay.{Event, Replayed}
use Rattle.model.specs.HappensBefore.{At, is_command, rank_of, conflict}
use Rattle.model.specs.Traces.{transitions_of, command_of, Identified, SameTrace}
use Rattle.model.specs.Lists.{Precedes, ◌∈◌}
use Rattle.model.proofs.Lists.{position}
use Rattle.model.proofs.Laws.{decided, and-true}
use Rattle.serializability.proofs.Alike.{Alike, AllAlike, alike_refl, alike_sym, all_alike_sym, alike_at, alike_transitions, alike_identity}
use Rattle.serializability.proofs.Identity.{identified_sym, identified_trans, identity_unique, at_unique}
use Rattle.ordering.proofs.Links.{conflict_sym}
use Rattle.traces.specs.Claims.{RecordedRun}
use Rattle.traces.proofs.Accesses.{cell_in}
use Rattle.traces.proofs.Pairs.{facts_of}

-- Lists of events that are the same but for two neighbours, which have changed places and do not conflict.
pub data Turned : List Event → List Event → Type 0 where
  here : {x y x' y' : Event} {rest others : List Event} → Alike x x' → Alike y y' → conflict x.access y.access ≡ false →
      ¬ (rank_of x ≡ rank_of y) → AllAlike rest others → Turned (x ∷ y ∷ rest) (y' ∷ x' ∷ others)
  later : (e : Event) {rest others : List Event} → Turned rest others → Turned (e ∷ rest) (e ∷ others)

-- An event's like in the other list.
record Found (others : List Event) (e : Event) : Type 0 where
  j : ℕ
  e' : Event
  at : At others j e'
  like : Alike e e'

unfoldable find : {xs ys : List Event} → Turned xs ys → (i : ℕ) (e : Event) → At xs i e → Found ys e
find (here {x} {y} {x'} {y'} lx ly free differ rest) zero e at =
    record { j = 1; e' = x'; at = refl; like = subst (λ z. Alike z x') (some-injective x e at) lx }
find (here {x} {y} {x'} {y'} lx ly free differ rest) (suc zero) e at =
    record { j = 0; e' = y'; at = refl; like = subst (λ z. Alike z y') (some-injective y e at) ly }
find (here lx ly free differ rest) (suc (suc i)) e at =
    let l = alike_at rest i e at in
    record { j = suc (suc i); e' = l.0; at = l.1; like = l.2 }
find (later d rest) zero e at = record { j = 0; e' = d; at = refl; like = subst (λ z. Alike z d) (some-injective d e at) (alike_refl d) }
find (later d rest) (suc i) e at =
    let l = find rest i e at in
    record { j = suc l.j; e' = l.e'; at = l.at; like = l.like }

-- The likes of events that conflict stand in the same order: of all pairs only the two neighbours' is turned, and they do not conflict.
kept : {xs ys : List Event} (t : Turned xs ys) (i j : ℕ) (e f : Event) (ae : At xs i e) (af : At xs j f) → i < j →
    conflict e.access f.access ≡ true → (find t i e ae).j < (find t j f af).j
unfolding find
kept t i zero e f ae af less c = absurd (not-suc-le-zero less)
kept (here {x} {y} lx ly free differ rest) zero (suc zero) e f ae af less c =
    absurd
    (true≢false
    (sym c ∙ ap₂ (λ (u v : Event). conflict u.access v.access) (sym (some-injective x e ae)) (sym (some-injective y f af)) ∙
    free))
kept (here lx ly free differ rest) zero (suc (suc j)) e f ae af less c = omega arith
kept (here lx ly free differ rest) (suc zero) (suc zero) e f ae af less c = absurd (omega (arith, less))
kept (here lx ly free differ rest) (suc zero) (suc (suc j)) e f ae af less c = omega arith
kept (here lx ly free differ rest) (suc (suc i)) (suc zero) e f ae af less c = absurd (omega (arith, less))
kept (here lx ly free differ rest) (suc (suc i)) (suc (suc j)) e f ae af less c = less
kept (later d rest) zero (suc j) e f ae af less c = omega arith
kept (later d rest) (suc i) (suc j) e f ae af less c = omega (arith, kept rest i j e f ae af (le_of_suc-le-suc less) c)

-- The other way round it is the same.
turned_sym : {xs ys : List Event} → Turned xs ys → Turned ys xs
turned_sym (here {x} {y} {x'} {y'} lx ly free differ rest) =
    here (alike_sym ly) (alike_sym lx)
    (ap₂ conflict (sym ly.access) (sym lx.access) ∙ conflict_sym y.access x.access ∙ free)
    (λ e. differ (ap (λ i. i.rank) lx.item ∙ sym e ∙ ap (λ i. i.rank) (sym ly.item)))
    (all_alike_sym rest)
turned_sym (later d rest) = later d (turned_sym rest)

-- Each rank's transitions are the same.
command_alike : {x y : Event} (rank : ℕ) → Alike x y → command_of rank x ≡ command_of rank y
command_alike rank a = ap (λ i. is_command_kind i.kind && eqb i.rank rank) a.item

turned_transitions : {xs ys : List Event} → Turned xs ys → (rank : ℕ) → transitions_of rank xs ≡ transitions_of rank ys
unfolding select
turned_transitions (here {x} {y} {x'} {y'} {rest} {others} lx ly free differ more) rank =
    let ih : transitions_of rank rest ≡ transitions_of rank others = alike_transitions more rank in
    let cx = command_alike rank lx in
    let cy = command_alike rank ly in
    decided (command_of rank x)
    (λ own_x.
    let not_y : command_of rank y ≡ false =
    decided (command_of rank y)
    (λ own_y. absurd (differ (eqb-true (rank_of x) rank (and-true (is_command x) (eqb (rank_of x) rank) own_x).1 ∙
    sym (eqb-true (rank_of y) rank (and-true (is_command y) (eqb (rank_of y) rank) own_y).1))))
    (λ other. other) in
    rw (own_x, not_y, sym cx ∙ own_x, sym cy ∙ not_y) (ap₂ (λ (i : Item) (l : List ℕ). i.transition ∷ l) lx.item ih))
    (λ not_x.
    decided (command_of rank y)
    (λ own_y. rw (not_x, own_y, sym cx ∙ not_x, sym cy ∙ own_y) (ap₂ (λ (i : Item) (l : List ℕ). i.transition ∷ l) ly.item ih))
    (λ not_y. rw (not_x, not_y, sym cx ∙ not_x, sym cy ∙ not_y) ih))
turned_transitions (later d rest) rank =
    let ih = turned_transitions rest rank in
    decided (command_of rank d) (λ own. rw own (ap (d.item.transition ∷◌) ih)) (λ other. rw other ih)

-- So the trace is the same. An event's like is the event of its identity.
module _ {P : Program} {start : Start} {xs : List Event} {run : Replayed} (a : RecordedRun P start run) (t : Turned xs run.events) where
  like_is : (i j : ℕ) {x y : Event} (ax : At xs i x) → At run.events j y → Identified x y → (find t i x ax).j ≡ j
  like_is i j {x} ax ay same =
      let l = find t i x ax in
      identity_unique (facts_of a) l.j j l.at ay (identified_trans (identified_sym (alike_identity l.like)) same)

  same_access_lem : {x y : Event} → x ∈ xs → y ∈ run.events → Identified x y → x.access ≡ y.access
  same_access_lem {x} mx my same =
      let (i, ax) = position mx in
      let (j, ay) = position my in
      let l = find t i x ax in
      l.like.access ∙ ap (λ e. e.access) (at_unique (facts_of a) l.at ay (like_is i j ax ay same))

  order_kept : {x x' y y' : Event} → y ∈ run.events → y' ∈ run.events → Identified x y → Identified x' y' →
      conflict x.access x'.access ≡ true → Precedes xs x x' → Precedes run.events y y'
  order_kept {x} {x'} my my' same same' c p =
      let (j, ay) = position my in
      let (j', ay') = position my' in
      let before = kept t p.i p.j x x' p.first p.second p.before c in
      record {
        i = j;
        j = j';
        first = ay;
        second = ay';
        before = omega (arith, before, like_is p.i j p.first ay same, like_is p.j j' p.second ay' same');
      }

pub turned_trace : {P : Program} {start : Start} {run run' : Replayed} → RecordedRun P start run → RecordedRun P start run' →
    Turned run.events run'.events → SameTrace run.events run'.events
turned_trace a a' t =
    record {
      transitions = turned_transitions t;
      cells = λ x y mx my same. ap cell_in (same_access_lem a' t mx my same);
      order = λ x x' y y' mx mx' my my' same same' c. (
        order_kept a' t my my' same same' c,
        order_kept a (turned_sym t) mx mx' (identified_sym same) (identified_sym same')
            (ap₂ conflict (sym (same_access_lem a' t mx my same)) (sym (same_access_lem a' t mx' my' same')) ∙ c),
      );
    }
