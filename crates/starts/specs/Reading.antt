-- What the reader answers, and what it leaves in a lent list of numbers or of bytes, by the entries that are to fill it.
use Rattle.std.specs.Prelude.{ℕ, ◌/◌, ◌≡◌, List, leb, length, flat_map, Ok, Err}
use Rattle.model.specs.Refusals.{Result, Ok, Err, memory_too_short}
use Rattle.model.specs.Choice.{when}
use Rattle.model.specs.Checks.{fill}

-- 15, with the length needed.
abbrev pub too_short : (needed : ℕ) → Result ℕ
too_short needed = Err (record { number = memory_too_short; place = needed })

-- What is answered to a list with room for so many entries.
abbrev pub filled_in : (room : ℕ) → Result (List ℕ) → Result ℕ
filled_in room (Ok entries) = when (leb (length entries) room) (λ _. Ok (length entries)) (λ _. too_short (length entries))
filled_in room (Err r) = Err r

-- What a list holds then, whose entries have so many elements each: all entries at its front, or what it held.
abbrev pub left_in : {A : Type 0} (width : ℕ) (shown : ℕ → List A) (list : List A) → Result (List ℕ) → List A
left_in width shown list (Ok entries) =
    when (leb (length entries) (length list / width)) (λ _. fill (flat_map shown entries) list) (λ _. list)
left_in width shown list (Err r) = list

pub record Lends {A : Type 0} (width : ℕ) (shown : ℕ → List A) (m : Result (List ℕ)) (before after : List A) (answer : Result ℕ) : Type 0 where
  pub answers : answer ≡ filled_in (length before / width) m
  pub leaves : after ≡ left_in width shown before m
