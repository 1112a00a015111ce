-- A text that lines are put into one after the other, each behind the one before. A line that does not fit is counted and not written.
use Rattle.std.specs.Prelude.{ℕ, ◌+◌, ◌≤◌, ◌≡◌, List, [], ◌∷◌, ◌++◌, leb, length, take, drop}
use Rattle.model.specs.Choice.{when}
use Rattle.texts.specs.Texts.{written}

-- What the bytes hold, and where the next line goes.
pub record Laid : Type 0 where
  pub text : List ℕ
  pub at : ℕ

abbrev pub laid : (text : List ℕ) → (at : ℕ) → Laid
laid text at = record { text = text; at = at }

-- Bytes written into the rest of a text.
unfoldable pub placed : (new : List ℕ) → (at : ℕ) → (text : List ℕ) → List ℕ
placed new at text = when (leb at (length text)) (λ _. take at text ++ written new (drop at text)) (λ _. text)

-- One line, and lines one after the other.
abbrev pub put : List ℕ → Laid → Laid
put new s = laid (placed new s.at s.text) (s.at + length new)

unfoldable pub lay_out : List (List ℕ) → Laid → Laid
lay_out [] s = s
lay_out (new ∷ rest) s = lay_out rest (put new s)

-- Of all these lines these are left, and those before them took so many bytes at most.
pub record Laying (all left : List (List ℕ)) (most : ℕ) (start now : Laid) : Type 0 where
  pub same : lay_out all start ≡ lay_out left now
  pub near : now.at ≤ start.at + most

-- All of them are laid out.
abbrev pub LaysOut : (all : List (List ℕ)) → (most : ℕ) → (start now : Laid) → Type 0
LaysOut all = Laying all []
