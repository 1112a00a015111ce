-- The entry that Table 1's pops take, the head or the oldest for a rank, is the one that the replay takes, with the marks and without them.
use Rattle.std.specs.Prelude.{Some}
use Prim.Native.Nat.{ℕ, ◌≤◌}
use mathlib.Core.Path.{◌≡◌, refl, sym, ap, subst, ◌∙◌}
use mathlib.Core.Bool.{true, false, true≢false}
use mathlib.Core.List.{List, [], ◌∷◌, ◌++◌}
use native.Mathlib.Omega.{arith}
use lib.Dec.{eqb}
use borrow.Author.Tests.{eq-eqb, ne_eqb, eqb-true, eqb-false}
use Rattle.model.specs.Choice.{Each, one}
use Rattle.model.specs.Programs.{Program}
use Rattle.model.specs.Rules.{Rank, OldestFor}
use Rattle.model.specs.Replay.{is_for, oldest}
use Rattle.model.proofs.Laws.{decided, each_weaker}
use Rattle.model.proofs.Replay.{Oldest, oldest_is, is_oldest}

-- The entry that a rule for a pop takes, by the rank that the event names: the head where it names none.
pub data Chosen (P : Program) {A : Type 0} (remote : A → ℕ) (queue : List A) (a : A) (left : List A) : (named : ℕ) → Type 0 where
  head : queue ≡ a ∷ left → Chosen P remote queue a left 0
  for_rank : {n : ℕ} → Rank P n → OldestFor remote n queue a left → Chosen P remote queue a left n

-- The test of a pop that names no rank passes for every entry, and that of one which names a rank for its entries.
any_passes : (n : ℕ) → is_for 0 n ≡ true
unfolding is_for
any_passes n = refl

named_tests : (named n : ℕ) → ¬ (named ≡ 0) → is_for named n ≡ eqb named n
unfolding is_for
named_tests named n other = rw (ne_eqb named 0 other)

module _ (P : Program) {A : Type 0} (remote : A → ℕ) {queue : List A} {a : A} {left : List A} where
  -- What the replay takes, a rule takes.
  named_none : Oldest (λ x. is_for 0 (remote x)) queue a left → Chosen P remote queue a left 0
  named_none o = head (go o.older o.first o.stands o.leaves)
    where
      go : (older : List A) → Each (λ x. is_for 0 (remote x) ≡ false) older → queue ≡ older ++ a ∷ o.newer → left ≡ older ++ o.newer → queue ≡ a ∷ left
      go [] each stands leaves = stands ∙ ap (a ∷◌) (sym leaves)
      go (b ∷ older) (one fails each) stands leaves = absurd (true≢false (sym (any_passes (remote b)) ∙ fails))

  named_one : (named : ℕ) → ¬ (named ≡ 0) → Oldest (λ x. is_for named (remote x)) queue a left → OldestFor remote named queue a left
  named_one named other o =
      record {
        older = o.older;
        newer = o.newer;
        stands = o.stands;
        leaves = o.leaves;
        for_rank = sym (eqb-true named (remote a) (sym (named_tests named (remote a) other) ∙ o.passes));
        first =
            each_weaker (λ x fails same. eqb-false named (remote x) (sym (named_tests named (remote x) other) ∙ fails) (sym same)) o.first;
      }

  pub rule_takes : (named : ℕ) → named ≤ P.header.ranks → oldest (λ x. is_for named (remote x)) queue ≡ Some (a, left) →
      Chosen P remote queue a left named
  rule_takes named high h =
      let o = oldest_is (λ x. is_for named (remote x)) queue h in
      decided (eqb named 0)
      (λ none_named.
      let zero_named : named ≡ 0 = eqb-true named 0 none_named in
      subst (Chosen P remote queue a left) (sym zero_named)
      (named_none (subst (λ n. Oldest (λ x. is_for n (remote x)) queue a left) zero_named o)))
      (λ one_named.
      let other = eqb-false named 0 one_named in
      for_rank (record { low = omega (arith, other); high = high }) (named_one named other o))

  -- What a rule takes, the replay takes.
  pub replay_takes : {named : ℕ} → Chosen P remote queue a left named → oldest (λ x. is_for named (remote x)) queue ≡ Some (a, left)
  unfolding oldest
  replay_takes (head h) = rw (h, any_passes (remote a))
  replay_takes (for_rank {n} rank o) =
      let other : ¬ (n ≡ 0) = λ z. omega (arith, z, rank.low) in
      is_oldest (λ x. is_for n (remote x))
      (record {
        older = o.older;
        newer = o.newer;
        stands = o.stands;
        leaves = o.leaves;
        passes = named_tests n (remote a) other ∙ eq-eqb n (remote a) (sym o.for_rank);
        first = each_weaker (λ x differs. named_tests n (remote x) other ∙ ne_eqb n (remote x) (λ same. differs (sym same))) o.first;
      })
