-- A search by remote rank, step by step as the code makes it; and on tables that hold the model's lists it finds what the model calls the oldest: the
-- links run through the entries, so the search passes them in the model's order, and no list has more entries than the search has steps.
use Rattle.std.specs.Prelude.{Option, Some, None}
use Prim.Native.Nat.{ℕ, zero, suc, ◌-◌, ◌≤◌, ◌<◌}
use mathlib.Core.Path.{◌≡◌, refl, sym, ap, ◌∙◌}
use mathlib.Core.Bool.{Bool, true, false}
use mathlib.Core.Logic.{◌≢◌}
use mathlib.Core.List.{List, [], ◌∷◌, ◌++◌, map, cons-ne-nil}
use native.Mathlib.Nat.{not-suc-le-zero}
use native.Mathlib.Omega.{arith}
use lib.ListN.{length}
use borrow.Author.Tests.{eq-eqb, ne_eqb}
use Rattle.model.specs.Limits.{max_items}
use Rattle.model.specs.Replay.{is_for, oldest}
use Rattle.model.proofs.Laws.{decided}
use Rattle.memory.specs.Tables.{Table, Row, number_at}
use Rattle.links.specs.declared.Position.{Position}
use Rattle.entries.specs.Entries.{pool_size, remote_field, link_field}
use Rattle.links.specs.Lists.{searched}
use Rattle.links.specs.Chains.{first, last_or, All, Run}

-- One step of a search: it ends, finds its entry, or goes on with the entry that follows.
module _ (pool : Table) (named : ℕ) where
  pub search_spent : (left previous entry : ℕ) → left ≤ 0 → searched pool named left previous entry ≡ None
  unfolding searched
  search_spent zero previous entry h = refl
  search_spent (suc left) previous entry h = absurd (not-suc-le-zero h)

  pub search_ends : (left previous entry : ℕ) → entry ≡ 0 → searched pool named left previous entry ≡ None
  unfolding searched
  search_ends zero previous entry z = refl
  search_ends (suc left) previous entry z = rw (eq-eqb entry 0 z)

  pub search_finds : (left previous entry : ℕ) → 0 < left → entry ≢ 0 → is_for named (number_at pool_size pool entry remote_field) ≡ true →
      searched pool named left previous entry ≡ Some (record { previous = previous; entry = entry })
  unfolding searched
  search_finds zero previous entry more there passes = absurd (not-suc-le-zero more)
  search_finds (suc left) previous entry more there passes = rw (ne_eqb entry 0 there, passes)

  pub search_goes_on : (left previous entry : ℕ) → 0 < left → entry ≢ 0 → is_for named (number_at pool_size pool entry remote_field) ≡ false →
      searched pool named left previous entry ≡ searched pool named (left - 1) entry (number_at pool_size pool entry link_field)
  unfolding searched
  search_goes_on zero previous entry more there fails = absurd (not-suc-le-zero more)
  search_goes_on (suc left) previous entry more there fails = let e : suc left - 1 ≡ left = omega arith in rw (ne_eqb entry 0 there, fails, e)

-- An entry of a list is that of the oldest of the model's list, and the other entries are those of the rest.
pub record Waiting {A B : Type 0} (bare : A → B) (read : ℕ → B) (among : A → Bool) (l : List A) (es : List ℕ) : Type 0 where
  pub older : List ℕ
  pub entry : ℕ
  pub newer : List ℕ
  pub split : es ≡ older ++ entry ∷ newer
  pub taken : A
  pub rest : List A
  pub chosen : oldest among l ≡ Some (taken, rest)
  pub reads : read entry ≡ bare taken
  pub leaves : map bare rest ≡ map read (older ++ newer)

-- Where it stands, if the list comes behind the entry `before`.
abbrev pub position_of : {A B : Type 0} {bare : A → B} {read : ℕ → B} {among : A → Bool} {l : List A} {es : List ℕ} →
    (before : ℕ) → Waiting bare read among l es → Position
position_of before w = record { previous = last_or before w.older; entry = w.entry }

-- An answer tells where the entry of the oldest stands, or that there is none.
pub data Tells {A B : Type 0} (bare : A → B) (read : ℕ → B) (among : A → Bool) (l : List A) (before : ℕ) (es : List ℕ) : Option Position → Type 0 where
  none_waits : oldest among l ≡ None → Tells bare read among l before es None
  one_waits : (w : Waiting bare read among l es) → Tells bare read among l before es (Some (position_of before w))

module _ {A B : Type 0} (bare : A → B) (read : ℕ → B) (among : A → Bool) where
  -- The first entry may be the one.
  found : {a : A} {l : List A} {before e : ℕ} {es : List ℕ} → read e ≡ bare a → map bare l ≡ map read es → among a ≡ true →
      Tells bare read among (a ∷ l) before (e ∷ es) (Some (record { previous = before; entry = e }))
  unfolding oldest
  found {a} {l} {e = e} {es} here says passes =
      one_waits
      (record {
        older = [];
        entry = e;
        newer = es;
        split = refl;
        taken = a;
        rest = l;
        chosen = rw passes;
        reads = here;
        leaves = says;
      })

  -- Else what is told of the entries behind it is told of them all.
  passed : {a : A} {l : List A} {before e : ℕ} {es : List ℕ} {o : Option Position} → read e ≡ bare a → among a ≡ false →
      Tells bare read among l e es o → Tells bare read among (a ∷ l) before (e ∷ es) o
  unfolding oldest
  passed here fails (none_waits chosen) = none_waits (rw (fails, chosen))
  passed {a} {e = e} here fails (one_waits w) =
      one_waits
      (record {
        older = e ∷ w.older;
        entry = w.entry;
        newer = w.newer;
        split = ap (e ∷◌) w.split;
        taken = w.taken;
        rest = a ∷ w.rest;
        chosen = rw (fails, w.chosen);
        reads = w.reads;
        leaves = rw (here, w.leaves);
      })

  -- The search goes through the entries as the model's choice through its list.
  module _ (pool : Table) (named : ℕ)
      (same : (e : ℕ) (a : A) → read e ≡ bare a → is_for named (number_at pool_size pool e remote_field) ≡ among a) where
    pub search_tells : (l : List A) (before left : ℕ) (es : List ℕ) → map bare l ≡ map read es → Run (λ e. number_at pool_size pool e link_field) es →
        All (Row max_items) es → length es ≤ left → Tells bare read among l before es (searched pool named left before (first es))
    unfolding oldest
    search_tells [] before left [] says run rows few = rw (search_ends pool named left before 0 refl) (none_waits refl)
    search_tells [] before left (e ∷ es) says run rows few = absurd (cons-ne-nil _ _ (sym says))
    search_tells (a ∷ l) before left [] says run rows few = absurd (cons-ne-nil _ _ says)
    search_tells (a ∷ l) before left (e ∷ es) says (link, run) (row, rows) few =
        let here : read e ≡ bare a = cc in
        let rest : map bare l ≡ map read es = cc in
        let there : e ≢ 0 = λ z. omega (arith, z, row.first) in
        decided (among a)
        (λ passes.
        rw (search_finds pool named left before e (omega arith) there (same e a here ∙ passes)) (found here rest passes))
        (λ fails.
        rw (search_goes_on pool named left before e (omega arith) there (same e a here ∙ fails), link)
        (passed here fails (search_tells l e (left - 1) es rest run rows (omega arith))))
