-- What is listed of an accepted record, by the arrays that the replay hands over.
use Rattle.std.specs.Prelude.{ℕ, List, Err}
use Rattle.model.specs.declared.Header.{Header}
use Rattle.model.specs.declared.Listed.{Listed}
use Rattle.model.specs.Refusals.{memory_too_short}
use Rattle.model.specs.Orders.{Verdict}
use Rattle.model.specs.Checks.{listed, counted, answered}
use Rattle.model.specs.Listings.{Listing, join, printed}
use Rattle.memory.specs.Tables.{Table}
use Rattle.graph.specs.Edges.{group_list}
use Rattle.first_items.specs.Firsts.{first_items}
use Rattle.layout.specs.Lines.{text_lines}

-- The text of a verdict.
unfoldable pub text_of : Verdict → (recorded : List ℕ) → Header → (trail : Table) → (items : ℕ) → (cells : Table) → List ℕ
text_of v recorded header trail items cells =
    join (text_lines (counted v) (group_list (listed v)) recorded header (first_items header recorded trail items) cells)

-- Where the lent bytes have no room for a text of this length: "15 with its length".
abbrev pub too_short : (needed : ℕ) → Listed
too_short needed = record { answer = Err (record { number = memory_too_short; place = needed }); length = 0 }

-- An answer, with what the lent bytes hold then.
abbrev pub printing : Listed → (memory : List ℕ) → Listing
printing result memory = record { result = result; memory = memory }

-- The listing of a verdict, for bytes that hold this.
unfoldable pub printed_verdict : (memory : List ℕ) → Verdict → (recorded : List ℕ) → Header → (trail : Table) → (items : ℕ) → (cells : Table) → Listing
printed_verdict memory v recorded header trail items cells = printed memory (answered v) (text_of v recorded header trail items cells)
