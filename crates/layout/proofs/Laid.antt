-- Lines laid out one after the other, as the code does it: one line, and loops over lines.
use Prim.Native.Nat.{ℕ, suc, ◌+◌, ◌-◌, ◌*◌, ◌≤◌, ◌<◌}
use mathlib.Core.Path.{◌≡◌, refl, sym, ap, ap₂, ◌∙◌}
use mathlib.Core.List.{List, [], ◌∷◌, ◌++◌, map, append-nil}
use native.Mathlib.Nat.{mul-suc}
use native.Mathlib.Numerals.{add-one}
use native.Mathlib.Omega.{arith}
use lib.Dec.{leb}
use lib.ListN.{length, take, drop, length-append, length-drop, drop_of_length-le}
use lib.Seq.{length-take-le, take_all}
use borrow.Author.Tests.{le-leb, lt-leb, leb-true}
use Rattle.model.specs.Choice.{numbers_from}
use Rattle.model.specs.Checks.{for_each_rank, rank_by_rank}
use Rattle.model.proofs.Laws.{decided}
use Rattle.lists.proofs.Forms.{fill_length}
use Rattle.texts.specs.Texts.{written, Wrote}
use Rattle.layout.specs.Laid.{Laid, laid, placed, put, lay_out, Laying, LaysOut}

lay_out_append : (a b : List (List ℕ)) (s : Laid) → lay_out (a ++ b) s ≡ lay_out b (lay_out a s)
unfolding lay_out
lay_out_append [] b s = refl
lay_out_append (new ∷ a) b s = lay_out_append a b (put new s)

-- A text keeps its length.
pub written_length_lem : (new text : List ℕ) → length (written new text) ≡ length text
unfolding written
written_length_lem new text =
    decided (leb (length new) (length text))
    (λ t. rw t (fill_length new text (leb-true (length new) (length text) t)))
    (λ t. rw t)

placed_length : (new : List ℕ) (at : ℕ) (text : List ℕ) → length (placed new at text) ≡ length text
unfolding placed
placed_length new at text =
    decided (leb at (length text))
    (λ t.
    let inside = leb-true at (length text) t in
    let rest = drop at text in
    rw (t, length-append (take at text) (written new rest), written_length_lem new rest, length-take-le at text inside, length-drop at text)
    (omega arith))
    (λ t. rw t)

-- One line: in the rest of the text, which is lent for that and put back; or behind the text's end.
module _ (new text : List ℕ) (at : ℕ) {most r : ℕ} (is : r ≡ length new) (few : r ≤ most) where
  put_laid : {left : List ℕ} → left ≡ placed new at text → LaysOut (new ∷ []) most (laid text at) (laid left (at + r))
  unfolding lay_out
  put_laid e = record { same = ap₂ laid (sym e) (ap (λ n. at + n) (sym is)); near = omega arith }

  pub put_inside : {left : List ℕ} {n : ℕ} → at ≤ length text → Wrote new (take (length text - at) (drop at text)) left n →
      LaysOut (new ∷ []) most (laid text at) (laid (take at text ++ (left ++ drop (length text - at) (drop at text))) (at + r))
  unfolding placed
  put_inside {left} inside w =
      let short : length (drop at text) ≤ length text - at = rw length-drop (omega arith) in
      let whole : take (length text - at) (drop at text) ≡ drop at text = take_all (length text - at) (drop at text) short in
      let none : drop (length text - at) (drop at text) ≡ [] = drop_of_length-le (drop at text) short in
      let is_written : left ≡ written new (drop at text) = w.text ∙ ap (written new) whole in
      put_laid (rw (none, append-nil, is_written, le-leb at (length text) inside))

  pub put_outside : length text < at → LaysOut (new ∷ []) most (laid text at) (laid text (at + r))
  unfolding placed
  put_outside outside = put_laid (rw (lt-leb at (length text) outside))

lay_out_length : (lines : List (List ℕ)) (s : Laid) → length (lay_out lines s).text ≡ length s.text
unfolding lay_out
lay_out_length [] s = refl
lay_out_length (new ∷ lines) s = lay_out_length lines (put new s) ∙ placed_length new s.at s.text

-- Some lines more.
laying_more : (all : List (List ℕ)) {left : List (List ℕ)} (new rest : List (List ℕ)) {most : ℕ} {start s s' : Laid} {more : ℕ} (sum : ℕ) →
    Laying all left most start s → left ≡ new ++ rest → LaysOut new more s s' → most + more ≤ sum → Laying all rest sum start s'
unfolding lay_out
laying_more all new rest {s = s} sum so_far e next fits =
    record {
      same =
          so_far.same
          ∙ ap (λ l. lay_out l s) e
          ∙ lay_out_append new rest s
          ∙ ap (lay_out rest) next.same;
      near = omega (arith, so_far.near, next.near);
    }

-- A line and two lists of lines, one behind the other.
pub laid_all : {a : List ℕ} {b c : List (List ℕ)} {m n k : ℕ} {start s s' end : Laid} → LaysOut (a ∷ []) m start s → LaysOut b n s s' →
    LaysOut c k s' end → end ≡ lay_out (a ∷ (b ++ c)) start
unfolding lay_out
laid_all {a} {b} {c} {start = start} p q r =
    sym
    (lay_out_append b c (put a start)
    ∙ ap (λ x. lay_out c (lay_out b x)) p.same
    ∙ ap (lay_out c) q.same
    ∙ r.same)

-- A loop over lines: each turn lays some of them out, in so many bytes at most.
pub record Going (left : ℕ → List (List ℕ)) (last step : ℕ) (all : List (List ℕ)) (i : ℕ) (start now : Laid) : Type 0 where
  pub laying : Laying all (left i) (step * i) start now
  pub within : i ≤ last

module _ {left : ℕ → List (List ℕ)} {last step : ℕ} {all : List (List ℕ)} where
  pub going_none : {s : Laid} → all ≡ left 0 → Going left last step all 0 s s
  going_none {s} e =
      record { laying = record { same = ap (λ l. lay_out l s) e; near = omega arith }; within = omega arith }

  pub going_more : {i : ℕ} {start s s' : Laid} {new : List (List ℕ)} → Going left last step all i start s → i < last → left i ≡ new ++ left (i + 1) →
      LaysOut new step s s' → Going left last step all (i + 1) start s'
  going_more {i} so_far more e next =
      record {
        laying =
            laying_more all _ (left (i + 1)) (step * (i + 1)) so_far.laying e next
            (omega (arith, mul-suc step i, ap (λ n. step * n) (add-one i)));
        within = omega arith;
      }

  pub going_all : {i most : ℕ} {start s : Laid} → Going left last step all i start s → last ≤ i → left i ≡ [] → step * last ≤ most →
      LaysOut all most start s
  going_all {i} {s = s} so_far done e fits =
      let last_is : i ≡ last = omega (arith, so_far.within) in
      record {
        same = so_far.laying.same ∙ ap (λ l. lay_out l s) e;
        near = omega (arith, so_far.laying.near, ap (λ n. step * n) last_is);
      }

  pub going_length : {i : ℕ} {start s : Laid} → Going left last step all i start s → length s.text ≡ length start.text
  going_length {i} {start} {s} so_far =
      sym (lay_out_length (left i) s) ∙ ap (λ (l : Laid). length l.text) (sym so_far.laying.same) ∙ lay_out_length all start

-- Lines by numbers, from one number to the last.
unfoldable pub lines_left : (f : ℕ → List ℕ) → (last i : ℕ) → List (List ℕ)
lines_left f last i = map f (numbers_from i (last - i))

module _ (f : ℕ → List ℕ) (last : ℕ) where
  pub all_lines : map f (numbers_from 0 last) ≡ lines_left f last 0
  unfolding lines_left
  all_lines = let e : last - 0 ≡ last = omega arith in rw e

  module _ (i : ℕ) where
    pub no_lines : last ≤ i → lines_left f last i ≡ []
    unfolding lines_left numbers_from
    no_lines h = let e : last - i ≡ 0 = omega arith in rw e

    line_left : i < last → lines_left f last i ≡ (f i ∷ []) ++ lines_left f last (i + 1)
    unfolding lines_left numbers_from
    line_left h = let e : last - i ≡ suc (last - (i + 1)) = omega arith in rw e

  pub line_more : {step : ℕ} {all : List (List ℕ)} {i : ℕ} {start s s' : Laid} {bytes : List ℕ} → Going (lines_left f last) last step all i start s →
      i < last → bytes ≡ f i → LaysOut (bytes ∷ []) step s s' → Going (lines_left f last) last step all (i + 1) start s'
  line_more {i = i} so_far more e next =
      going_more so_far more (line_left i more ∙ ap (λ l. (l ∷ []) ++ lines_left f last (i + 1)) (sym e)) next

-- Lines by ranks, of which so many are done.
unfoldable pub ranks_left : (width : ℕ) → (f : ℕ → ℕ → List ℕ) → (ranks done : ℕ) → List (List ℕ)
ranks_left width f ranks done = for_each_rank width f (numbers_from (1 + done) (ranks - done))

module _ (width : ℕ) (f : ℕ → ℕ → List ℕ) (ranks : ℕ) where
  pub all_ranks : rank_by_rank ranks width f ≡ ranks_left width f ranks 0
  unfolding ranks_left rank_by_rank
  all_ranks = let e : ranks - 0 ≡ ranks = omega arith in rw e

  module _ (done : ℕ) where
    pub no_ranks : ranks ≤ done → ranks_left width f ranks done ≡ []
    unfolding ranks_left numbers_from for_each_rank
    no_ranks h = let e : ranks - done ≡ 0 = omega arith in rw e

    rank_left : done < ranks → ranks_left width f ranks done ≡ map (f (1 + done)) (numbers_from 0 width) ++ ranks_left width f ranks (done + 1)
    unfolding ranks_left numbers_from for_each_rank
    rank_left h =
        let e : ranks - done ≡ suc (ranks - (done + 1)) = omega arith in
        let n : 1 + done + 1 ≡ 1 + (done + 1) = omega arith in
        rw (e, n)

  pub rank_more : {step : ℕ} {all new : List (List ℕ)} {done : ℕ} {start s s' : Laid} → Going (ranks_left width f ranks) ranks step all done start s →
      done < ranks → new ≡ map (f (1 + done)) (numbers_from 0 width) → LaysOut new step s s' →
      Going (ranks_left width f ranks) ranks step all (done + 1) start s'
  rank_more {done = done} so_far more e next =
      going_more so_far more (rank_left done more ∙ ap (λ l. l ++ ranks_left width f ranks (done + 1)) (sym e)) next
