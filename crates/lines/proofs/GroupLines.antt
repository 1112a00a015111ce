-- The line of a group: `group` and its number, and behind them a line that begins with the kind's word.
use Prim.Native.Nat.{ℕ, ◌+◌, ◌-◌, ◌≤◌}
use mathlib.Core.Path.{◌≡◌, ap}
use mathlib.Core.List.{List, [], ◌∷◌, ◌++◌, map, append_assoc}
use native.Mathlib.Omega.{arith}
use lib.ListN.{length, take, drop, length-append}
use Rattle.model.specs.declared.Kind.{Kind}
use Rattle.model.specs.Listings.{decimal, line, space, group_word, kind_word}
use Rattle.texts.specs.Texts.{Wrote}
use Rattle.texts.proofs.Texts.{Grown, grown_first, grown_more, grown_wrote}
use Rattle.lines.specs.Lines.{group_entry}

-- What stands before the kind's word, and the line from there on.
abbrev pub group_head : ℕ → List ℕ
group_head group = (group_word ++ (space ∷ decimal group)) ++ (space ∷ [])

abbrev pub kind_line : Kind → (rank first : ℕ) → List ℕ
kind_line kind rank first = line (kind_word kind) (map decimal (rank ∷ first ∷ []))

pub group_apart : (group : ℕ) (kind : Kind) (rank first : ℕ) → group_head group ++ kind_line kind rank first ≡ group_entry group kind rank first
unfolding group_entry line
group_apart group kind rank first = simp append_assoc

pub group_length : (group : ℕ) (kind : Kind) (rank first : ℕ) →
    length (group_entry group kind rank first) ≡ 10 + length (decimal group) + length (kind_word kind) + length (decimal rank) + length (decimal first)
unfolding group_entry line
group_length group kind rank first = simp length-append (omega arith)

-- The line's parts, one behind the other, in a text that has room for all of it.
pub record Room (found : List ℕ) (group : ℕ) (kind : Kind) (rank first : ℕ) : Type 0 where
  pub fits : length (group_entry group kind rank first) ≤ length found

module _ {found : List ℕ} {group : ℕ} {kind : Kind} {rank first : ℕ} (room : Room found group kind rank first) where
  pub with_word : {text : List ℕ} {n : ℕ} → Wrote group_word found text n → Grown found group_word text n
  with_word w = grown_first w (omega (arith, room.fits, group_length group kind rank first))

  module _ {text left : List ℕ} {at n : ℕ} where
    pub with_number : Grown found group_word text at → Wrote (space ∷ decimal group) (take (length text - at) (drop at text)) left n →
        Grown found (group_word ++ (space ∷ decimal group)) (take at text ++ (left ++ drop (length text - at) (drop at text))) (at + n)
    with_number g w = grown_more g w (omega (arith, room.fits, group_length group kind rank first))

    pub with_head : Grown found (group_word ++ (space ∷ decimal group)) text at →
        Wrote (space ∷ []) (take (length text - at) (drop at text)) left n →
        Grown found (group_head group) (take at text ++ (left ++ drop (length text - at) (drop at text))) (at + n)
    with_head g w = grown_more g w (omega (arith, room.fits, group_length group kind rank first, length-append group_word (space ∷ decimal group)))

    pub with_line : Grown found (group_head group) text at → Wrote (kind_line kind rank first) (take (length text - at) (drop at text)) left n →
        Wrote (group_entry group kind rank first) found (take at text ++ (left ++ drop (length text - at) (drop at text))) (at + n)
    with_line g w =
        let e = group_apart group kind rank first in
        let size = length-append (group_head group) (kind_line kind rank first) in
        grown_wrote (grown_more g w (omega (arith, room.fits, ap length e, size))) e
