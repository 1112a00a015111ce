-- The listing (document 01, "Slip and listing"): "Lines end in a line feed, fields in single spaces."
use Rattle.std.specs.Prelude.{ℕ, zero, suc, ◌+◌, ◌/◌, ◌%◌, List, [], ◌∷◌, ◌++◌, ltb, leb, eqb, length}
use Rattle.model.specs.declared.Kind.{Kind}
use Rattle.model.specs.declared.Kind.TheVariants.{Load, Store, Assign, Assume, Read, Write, Popa, Popb, Bar}
use Rattle.model.specs.declared.Listed.{Listed}
use Rattle.model.specs.declared.Refusal.{Refusal}
use Rattle.model.specs.Refusals.{Result, Ok, Err, memory_too_short}
use Rattle.model.specs.Choice.{when}
use Rattle.model.specs.ItemKinds.{is_bar}
use Rattle.model.specs.Formats.{Format, today}
use Rattle.model.specs.Replay.{Event}
use Rattle.model.specs.Orders.{Verdict, ordered, cyclic}
use Rattle.model.specs.Checks.{Accepted, accept_in, verdict_on, listed, answered, rank_by_rank, fill, Answer}

-- The digits of a number in decimal; `size` is at least the number of digits less one.
unfoldable pub digits : (size n : ℕ) → List ℕ
digits zero n = (48 + n % 10) ∷ []
digits (suc size) n = when (ltb n 10) (λ _. (48 + n) ∷ []) (λ _. digits size (n / 10) ++ (48 + n % 10) ∷ [])

unfoldable pub decimal : ℕ → List ℕ
unfolding digits
decimal n = digits n n

-- A line: a word, then numbers and words, a space before each, then a line feed.
abbrev pub space : ℕ
space = 32

abbrev pub line_feed : ℕ
line_feed = 10

unfoldable pub line : (word : List ℕ) → (fields : List (List ℕ)) → List ℕ
line word [] = word ++ line_feed ∷ []
line word (field ∷ fields) = word ++ space ∷ line field fields

-- "Its first words `order`, `ring`, `refused` are fixed bytes."
abbrev pub order_word : List ℕ
order_word = 111 ∷ 114 ∷ 100 ∷ 101 ∷ 114 ∷ []

abbrev pub ring_word : List ℕ
ring_word = 114 ∷ 105 ∷ 110 ∷ 103 ∷ []

abbrev pub refused_word : List ℕ
refused_word = 114 ∷ 101 ∷ 102 ∷ 117 ∷ 115 ∷ 101 ∷ 100 ∷ []

abbrev pub group_word : List ℕ
group_word = 103 ∷ 114 ∷ 111 ∷ 117 ∷ 112 ∷ []

abbrev pub cell_word : List ℕ
cell_word = 99 ∷ 101 ∷ 108 ∷ 108 ∷ []

-- load, store, assign, assume, read, write, bar; a group's first item is no pop, and the pops' words are the source's.
abbrev pub kind_word : Kind → List ℕ
kind_word Load = 108 ∷ 111 ∷ 97 ∷ 100 ∷ []
kind_word Store = 115 ∷ 116 ∷ 111 ∷ 114 ∷ 101 ∷ []
kind_word Assign = 97 ∷ 115 ∷ 115 ∷ 105 ∷ 103 ∷ 110 ∷ []
kind_word Assume = 97 ∷ 115 ∷ 115 ∷ 117 ∷ 109 ∷ 101 ∷ []
kind_word Read = 114 ∷ 101 ∷ 97 ∷ 100 ∷ []
kind_word Write = 119 ∷ 114 ∷ 105 ∷ 116 ∷ 101 ∷ []
kind_word Popa = 112 ∷ 111 ∷ 112 ∷ 97 ∷ []
kind_word Popb = 112 ∷ 111 ∷ 112 ∷ 98 ∷ []
kind_word Bar = 98 ∷ 97 ∷ 114 ∷ []

-- "`group`, number, kind word, rank (0 for a barrier), first item": the first event of the group, and its number.
unfoldable pub group_line : (group at : ℕ) → List Event → List ℕ
unfolding decimal line
group_line g at [] = []
group_line g at (e ∷ events) =
    when (eqb e.group g)
    (λ _. line group_word
    (decimal g ∷ kind_word e.item.kind ∷ decimal (when (is_bar e.item.kind) (λ _. 0) (λ _. e.item.rank)) ∷ decimal at ∷ []))
    (λ _. group_line g (at + 1) events)

-- "then per group, in the answer's order"
unfoldable pub group_lines : List ℕ → List Event → List ℕ
unfolding group_line
group_lines [] events = []
group_lines (g ∷ groups) events = group_line g 0 events ++ group_lines groups events

-- "then `cell`, rank, cell, value for each cell not 0, ranks and then cells rising"
unfoldable pub cell_line : (cells : ℕ → ℕ → ℕ) → (rank cell : ℕ) → List ℕ
unfolding decimal line
cell_line cells r a =
    when (eqb (cells r a) 0) (λ _. []) (λ _. line cell_word (decimal r ∷ decimal a ∷ decimal (cells r a) ∷ []))

unfoldable pub join : List (List ℕ) → List ℕ
join [] = []
join (bytes ∷ rest) = bytes ++ join rest

abbrev pub verdict_word : Verdict → List ℕ
verdict_word (ordered groups) = order_word
verdict_word (cyclic groups) = ring_word

unfoldable pub listing_of : Accepted → Verdict → List ℕ
unfolding decimal line group_lines cell_line join rank_by_rank
listing_of a v =
    line (verdict_word v) (decimal (length (listed v)) ∷ []) ++
    (group_lines (listed v) a.run.events ++
    join (rank_by_rank a.program.header.ranks a.program.header.cells (cell_line a.run.last.machine.cells)))

-- "`refused` carries number and place, and nothing follows"
unfoldable pub refused_line : Refusal → List ℕ
unfolding decimal line
refused_line r = line refused_word (decimal r.number ∷ decimal r.place ∷ [])

-- The listing's answer, and what the lent bytes hold at the end.
pub record Listing : Type 0 where
  pub result : Listed
  pub memory : List ℕ

-- The text is written whole or not at all: 15 with its length, and "only 15 leaves the listing's bytes untouched".
unfoldable pub printed : List ℕ → Answer → (text : List ℕ) → Listing
unfolding fill
printed memory answer text =
    when (leb (length text) (length memory))
    (λ _. record { result = record { answer = answer; length = length text }; memory = fill text memory })
    (λ _. record {
      result = record { answer = Err (record { number = memory_too_short; place = length text }); length = 0 };
      memory = memory;
    })

unfoldable pub printed_of : List ℕ → Result Accepted → Listing
unfolding verdict_on listing_of refused_line printed
printed_of memory (Err r) = printed memory (Err r) (refused_line r)
printed_of memory (Ok a) =
    let v : Verdict = verdict_on a.run in
    printed memory (answered v) (listing_of a v)

-- The whole listing; `memory` is what the lent bytes hold.
unfoldable pub listing_in : Format → (program start recorded memory : List ℕ) → Listing
unfolding accept_in printed_of
listing_in format program start recorded memory = printed_of memory (accept_in format program start recorded)

abbrev pub listing : (program start recorded memory : List ℕ) → Listing
listing = listing_in today
