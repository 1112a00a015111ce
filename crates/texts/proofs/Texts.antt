-- Texts that are written from the front, and what a writer's answer tells.
use Prim.Native.Nat.{ℕ, suc, ◌+◌, ◌-◌, ◌≤◌, ◌<◌}
use mathlib.Core.Path.{◌≡◌, refl, sym, ap, ◌∙◌}
use mathlib.Core.List.{List, [], ◌∷◌, ◌++◌, append_assoc, append-nil}
use native.Mathlib.Numerals.{add-one}
use native.Mathlib.Omega.{arith}
use lib.Dec.{leb}
use lib.ListN.{length, take, drop, set, get_or, length-append, length-drop, length-set, drop_of_length-le}
use lib.Seq.{drop-cons, get_or-set_same, drop-set-lt, drop-drop, take_all, take-length, take-append_seam, drop-append_seam, drop-append-add, set-append_seam, length-take-le}
use Rattle.std.proofs.lemmas.List.{take_more}
use borrow.Author.Tests.{le-leb, lt-leb, leb-true}
use Rattle.model.specs.Checks.{fill}
use Rattle.model.proofs.Laws.{when_true, when_false, decided}
use Rattle.lists.proofs.Forms.{fill_length}
use Rattle.texts.specs.Texts.{written, written_length, Wrote}

-- What does not fit is not written; what fits is, and the answer is its length.
pub wrote_none : (new text : List ℕ) → length text < length new → Wrote new text text 0
unfolding written written_length
wrote_none new text h = record { text = sym (when_false _ _ (lt-leb _ _ h)); count = sym (when_false _ _ (lt-leb _ _ h)) }

pub wrote_all : (new text : List ℕ) {left : List ℕ} {n : ℕ} → length new ≤ length text → left ≡ fill new text → n ≡ length new → Wrote new text left n
unfolding written written_length
wrote_all new text h e c = record { text = e ∙ sym (when_true _ _ (le-leb _ _ h)); count = c ∙ sym (when_true _ _ (le-leb _ _ h)) }

pub record Fitted (new found left : List ℕ) (answer : ℕ) : Type 0 where
  pub text : left ≡ fill new found
  pub count : answer ≡ length new

pub fitted : {new text left : List ℕ} {n : ℕ} → Wrote new text left n → length new ≤ length text → Fitted new text left n
unfolding written written_length
fitted w h = record { text = w.text ∙ when_true _ _ (le-leb _ _ h); count = w.count ∙ when_true _ _ (le-leb _ _ h) }

pub wrote_length : {new text left : List ℕ} {n : ℕ} → Wrote new text left n → length left ≡ length text
unfolding written
wrote_length {new} {text} w =
    ap length w.text
    ∙ decided (leb (length new) (length text))
    (λ t. ap length (when_true _ _ t) ∙ fill_length new text (leb-true _ _ t))
    (λ f. ap length (when_false _ _ f))

pub wrote_inside : {new text left : List ℕ} {n : ℕ} → Wrote new text left n → n ≤ length text
unfolding written_length
wrote_inside {new} {text} w =
    decided (leb (length new) (length text))
    (λ t.
    let fits : length new ≤ length text = leb-true _ _ t in
    omega (arith, (fitted w fits).count))
    (λ f.
    let none : written_length new text ≡ 0 = when_false _ _ f in
    omega (arith, w.count))

-- What is written over its own beginning is written.
fill_again : (first more text : List ℕ) → fill (first ++ more) (fill first text) ≡ fill (first ++ more) text
unfolding fill
fill_again first more text =
    rw (length-append, drop-append-add first (drop (length first) text) (length more), drop-drop)

fill_over : (new text : List ℕ) → fill new (fill new text) ≡ fill new text
fill_over new text = rw append-nil at (fill_again new [] text)

-- The last byte first: what is left to write goes over a text that has it already.
pub fill_last : (new : List ℕ) (x : ℕ) (text : List ℕ) → length new < length text → fill (new ++ x ∷ []) text ≡ fill new (set text (length new) x)
unfolding fill
fill_last new x text h =
    let there : length new < length (set text (length new) x) = rw length-set h in
    rw (
      drop-cons (set text (length new) x) (length new) 0 there,
      get_or-set_same text (length new) x 0 h,
      drop-set-lt (suc (length new)) text (length new) x (omega arith),
      length-append new (x ∷ []),
      add-one,
      append_assoc,
    )

pub fill_none : (text : List ℕ) → fill [] text ≡ text
unfolding fill
fill_none text = refl

-- The first byte first: what is written gets one byte more.
pub fill_more : (new : List ℕ) (x : ℕ) (text : List ℕ) → length new < length text → set (fill new text) (length new) x ≡ fill (new ++ x ∷ []) text
unfolding fill
fill_more new x text h = rw (drop-cons text (length new) 0 h, set-append_seam, length-append new (x ∷ []), add-one, append_assoc)

module _ (word text : List ℕ) where
  -- So many bytes of a word are the front of the text.
  abbrev pub Fronted : (at : ℕ) → List ℕ → Type 0
  Fronted at now = now ≡ fill (take at word) text

  pub fronted_more : {at : ℕ} {now : List ℕ} → Fronted at now → at < length word → length word ≤ length text → Fronted (at + 1) (set now at (get_or word at 0))
  fronted_more {at} so_far more fits =
      let x = get_or word at 0 in
      let long = length-take-le at word (omega arith) in
      ap (λ t. set t at x) so_far
      ∙ ap (λ n. set (fill (take at word) text) n x) (sym long)
      ∙ fill_more (take at word) x text (omega (arith, long))
      ∙ ap (λ l. fill l text) (sym (take_more word at 0 more))

  pub fronted_all : {at : ℕ} {now : List ℕ} → Fronted at now → at ≤ length word → length word ≤ at → now ≡ fill word text
  fronted_all {at} so_far within all =
      let e : at ≡ length word = omega arith in
      so_far ∙ ap (λ n. fill (take n word) text) e ∙ ap (λ l. fill l text) (take-length word)

-- A text whose front is written, up to a place.
pub record Grown (found done text : List ℕ) (at : ℕ) : Type 0 where
  pub inside : length done ≤ length found
  pub place : at ≡ length done
  pub long : length text ≡ length found
  pub made : text ≡ fill done found

pub grown_none : (found : List ℕ) → Grown found [] found 0
grown_none found = record { inside = omega arith; place = refl; long = refl; made = sym (fill_none found) }

pub grown_first : {new found left : List ℕ} {n : ℕ} → Wrote new found left n → length new ≤ length found → Grown found new left n
grown_first {new} {found} w h =
    let f = fitted w h in
    record { inside = h; place = f.count; long = ap length f.text ∙ fill_length new found h; made = f.text }

module _ {found done text : List ℕ} {at : ℕ} (so_far : Grown found done text at) where
  pub grown_inside : at ≤ length text
  grown_inside = omega (arith, so_far.place, so_far.inside, so_far.long)

  rest_short : length (drop at text) ≤ length text - at
  rest_short = rw length-drop (omega arith)

  -- What is behind the place is as it was found.
  rest_found : take (length text - at) (drop at text) ≡ drop (length done) found
  unfolding fill
  rest_found =
      take_all (length text - at) (drop at text) rest_short
      ∙ rw (so_far.made, so_far.place) (drop-append_seam done (drop (length done) found))

  grown_text : (new : List ℕ) {left : List ℕ} → left ≡ fill new (take (length text - at) (drop at text)) →
      take at text ++ (left ++ drop (length text - at) (drop at text)) ≡ fill (done ++ new) found
  unfolding fill
  grown_text new e =
      let none : drop (length text - at) (drop at text) ≡ [] = drop_of_length-le (drop at text) rest_short in
      let front : take at text ≡ done = rw (so_far.made, so_far.place) (take-append_seam done (drop (length done) found)) in
      rw (none, front, e, rest_found, append-nil, drop-drop, length-append, append_assoc)

  -- The next bytes, written into the rest behind the place, which is lent for that and put back.
  pub grown_more : {new left : List ℕ} {n : ℕ} → Wrote new (take (length text - at) (drop at text)) left n → length done + length new ≤ length found →
      Grown found (done ++ new) (take at text ++ (left ++ drop (length text - at) (drop at text))) (at + n)
  grown_more {new} {left} {n} w h =
      let room : length new ≤ length (take (length text - at) (drop at text)) = rw (rest_found, length-drop) (omega arith) in
      let f = fitted w room in
      let size : length (done ++ new) ≡ length done + length new = length-append done new in
      let e : take at text ++ (left ++ drop (length text - at) (drop at text)) ≡ fill (done ++ new) found = grown_text new f.text in
      record {
        inside = omega arith;
        place = omega (arith, so_far.place, f.count);
        long = ap length e ∙ fill_length (done ++ new) found (omega arith);
        made = e;
      }

  -- The same, of the text as it stands. What is written behind its front from here on is written behind what was found at first.
  pub grown_here : Grown text done text at
  grown_here =
      record {
        inside = omega (arith, so_far.inside, so_far.long);
        place = so_far.place;
        long = refl;
        made = so_far.made ∙ sym (ap (fill done) so_far.made ∙ fill_over done found);
      }

  pub grown_since : (more : List ℕ) {later : List ℕ} {next : ℕ} → Grown text (done ++ more) later next → Grown found (done ++ more) later next
  grown_since more since =
      record {
        inside = omega (arith, since.inside, so_far.long);
        place = since.place;
        long = since.long ∙ so_far.long;
        made = since.made ∙ ap (fill (done ++ more)) so_far.made ∙ fill_again done more found;
      }

  pub grown_wrote : {new : List ℕ} → done ≡ new → Wrote new found text at
  grown_wrote e = rw (← e) (wrote_all done found so_far.inside so_far.made so_far.place)
