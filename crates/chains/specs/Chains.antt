-- Lists by key through one list of links. Members and heads are named by their number plus 1, and 0 names none.
use Rattle.std.specs.Prelude.{ℕ, zero, suc, ◌-◌, ◌≤◌, ◌<◌, ◌≡◌, Bool, ◌&&◌, List, [], ◌∷◌, ltb, length, get_or, set, Option, Some, None}
use Rattle.model.specs.Choice.{when}

-- The place of a member's link. The name 0 has none.
abbrev pub slot_of : (member : ℕ) → Option ℕ
slot_of zero = None
slot_of (suc slot) = Some slot

-- The lists have room for the key and for the member.
abbrev pub room : (heads links : List ℕ) → (key member : ℕ) → Bool
room heads links key member = ltb 0 member && ltb key (length heads) && ltb (member - 1) (length links)

-- Heads and links with a member more.
unfoldable pub heads_after : (heads links : List ℕ) → (key member : ℕ) → List ℕ
heads_after heads links key member = when (room heads links key member) (λ _. set heads key member) (λ _. heads)

unfoldable pub links_after : (heads links : List ℕ) → (key member : ℕ) → List ℕ
links_after heads links key member =
    when (room heads links key member) (λ _. set links (member - 1) (get_or heads key 0)) (λ _. links)

-- What a push leaves of both lists.
pub record Pushed (heads links heads' links' : List ℕ) (key member : ℕ) : Type 0 where
  pub heads_after_lem : heads' ≡ heads_after heads links key member
  pub links_after_lem : links' ≡ links_after heads links key member

-- The member below one in its list. A link that does not fall ends its list.
unfoldable pub older_in : (links : List ℕ) → (member : ℕ) → ℕ
older_in links member = when (ltb (get_or links (member - 1) 0) member) (λ _. get_or links (member - 1) 0) (λ _. 0)

-- The numbers of the members of a list from one on, the newest first; of at most so many.
unfoldable pub members_from : (turns : ℕ) → (links : List ℕ) → (member : ℕ) → List ℕ
unfolding older_in
members_from zero links member = []
members_from (suc turns) links zero = []
members_from (suc turns) links (suc member) = member ∷ members_from turns links (older_in links (suc member))

-- Links fall, so there are at most as many members as the first one's name says.
unfoldable pub members : (links : List ℕ) → (member : ℕ) → List ℕ
unfolding members_from
members links member = members_from member links member

-- The lists of all keys: members put in so far are below a number, and each key's list is f's.
pub record Listed (heads links : List ℕ) (below : ℕ) (f : ℕ → List ℕ) : Type 0 where
  pub heads_below : (key : ℕ) → key < length heads → get_or heads key 0 ≤ below
  pub lists : (key : ℕ) → key < length heads → members links (get_or heads key 0) ≡ f key
