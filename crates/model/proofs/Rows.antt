-- What a row of the table asks, what the definitions reply, and rows of each kind.
use Rattle.model.specs.declared.Verdict.TheVariants.{Order, Ring}
use Rattle.std.specs.Prelude.{Some, Ok}
use Prim.Native.Nat.{ℕ, ◌+◌, ◌-◌}
use mathlib.Core.List.{List, [], ◌∷◌, ◌++◌}
use lib.ListN.{length, replicate}
use Rattle.model.specs.declared.Header.{Header}
use Rattle.model.specs.declared.Item.{Item}
use Rattle.model.specs.declared.Kind.TheVariants.{Store}
use Rattle.model.specs.declared.Refusal.{Refusal}
use Rattle.model.specs.Refusals.{Result, Ok, Err}
use Rattle.model.specs.Formats.{item_maps}
use Rattle.model.specs.Records.{read_record_in, read_record}
use Rattle.model.specs.Machine.{address}
use Rattle.model.specs.Checks.{Outcome, check_in, check, check_bytes_in, check_bytes, Answer}
use Rattle.model.specs.Lending.{Lent}
use Rattle.model.specs.Slips.{write_slip_in, write_slip, read_slip_in, read_slip}
use Rattle.model.specs.Starts.{write_start, write_start_bytes, read_start_into, read_start_into_bytes}
use Rattle.model.specs.Listings.{Listing, listing_in, listing}

-- What is asked: the whole check with what both lists hold, the same on bytes, a listing or a slip with what the memory holds, a slip read with N and
-- what the counts hold; a start written from a cell list, and read into one, and both with lists of bytes; and the items of a record alone, for a program
-- that begins with these numbers.
pub data Question : Type 0 where
  checks : (program start recorded order cells : List ℕ) → Question
  enters : (program start recorded order cells : List ℕ) → Question
  lists : (program start recorded memory : List ℕ) → Question
  writes : (program start recorded memory : List ℕ) → Question
  reads : (ranks : ℕ) (slip counts : List ℕ) → Question
  begins : (program cells memory : List ℕ) → Question
  begins_bytes : (program cells memory : List ℕ) → Question
  recalls : (program start cells : List ℕ) → Question
  recalls_bytes : (program start cells : List ℕ) → Question
  holds : (header : Header) (recorded : List ℕ) → Question

pub data Reply : Type 0 where
  checked : Outcome → Reply
  printed : Listing → Reply
  lent : Lent → Reply
  items : Result (List Item) → Reply

-- What the definitions say.
unfoldable pub reply : Question → Reply
unfolding
    item_maps check_in check_bytes_in listing_in write_slip_in read_slip_in write_start write_start_bytes read_start_into read_start_into_bytes read_record_in
reply (checks program start recorded order cells) = checked (check program start recorded order cells)
reply (enters program start recorded order cells) = checked (check_bytes program start recorded order cells)
reply (lists program start recorded memory) = printed (listing program start recorded memory)
reply (writes program start recorded memory) = lent (write_slip program start recorded memory)
reply (reads ranks slip counts) = lent (read_slip ranks slip counts)
reply (begins program cells memory) = lent (write_start program cells memory)
reply (begins_bytes program cells memory) = lent (write_start_bytes program cells memory)
reply (recalls program start cells) = lent (read_start_into program start cells)
reply (recalls_bytes program start cells) = lent (read_start_into_bytes program start cells)
reply (holds header recorded) = items (read_record header recorded)

pub record Row : Type 0 where
  pub question : Question
  pub expected : Reply

-- So many entries of memory, each of which holds 9.
unfoldable pub nines : ℕ → List ℕ
nines n = replicate n 9

unfoldable pub refusal : (number place : ℕ) → Refusal
refusal number place = record { number = number; place = place }

-- An order of these groups with these last cells, each list longer by one entry, which stays. Rows whose name does not say `From` have no start bytes.
unfoldable pub order_from : (program start recorded groups cells : List ℕ) → Row
unfolding nines
order_from program start recorded groups cells =
    record {
      question = checks program start recorded (nines (length groups + 1)) (nines (length cells + 1));
      expected =
          checked
          (record { answer = Ok (Order (length groups)); order = groups ++ 9 ∷ []; cells = cells ++ 9 ∷ [] });
    }

unfoldable pub order_row : (program recorded groups cells : List ℕ) → Row
unfolding order_from
order_row program = order_from program []

-- A ring of some of so many groups; the order list is as long as the group count, and what the ring leaves of it stays.
unfoldable pub ring_from : (program start recorded : List ℕ) → (groups : ℕ) → (ring cells : List ℕ) → Row
unfolding nines
ring_from program start recorded groups ring cells =
    record {
      question = checks program start recorded (nines groups) (nines (length cells));
      expected =
          checked
          (record { answer = Ok (Ring (length ring)); order = ring ++ nines (groups - length ring); cells = cells });
    }

unfoldable pub ring_row : (program recorded : List ℕ) → (groups : ℕ) → (ring cells : List ℕ) → Row
unfolding ring_from
ring_row program = ring_from program []

-- The recorder's entry on lists of so many bytes.
unfoldable pub entry_row : (program recorded : List ℕ) → (order_length cells_length : ℕ) → Answer → (order cells : List ℕ) → Row
unfolding nines
entry_row program recorded order_length cells_length answer order cells =
    record {
      question = enters program [] recorded (nines order_length) (nines cells_length);
      expected = checked (record { answer = answer; order = order; cells = cells });
    }

-- A refusal with lists of these lengths, which hold what they held.
unfoldable pub refused_with_from : (order_length cells_length : ℕ) → (program start recorded : List ℕ) → (number place : ℕ) → Row
unfolding nines refusal
refused_with_from order_length cells_length program start recorded number place =
    record {
      question = checks program start recorded (nines order_length) (nines cells_length);
      expected =
          checked
          (record { answer = Err (refusal number place); order = nines order_length; cells = nines cells_length });
    }

unfoldable pub refused_with : (order_length cells_length : ℕ) → (program recorded : List ℕ) → (number place : ℕ) → Row
unfolding refused_with_from
refused_with order_length cells_length program = refused_with_from order_length cells_length program []

unfoldable pub refused_from : (program start recorded : List ℕ) → (number place : ℕ) → Row
unfolding refused_with_from
refused_from = refused_with_from 8 64

unfoldable pub refused_row : (program recorded : List ℕ) → (number place : ℕ) → Row
unfolding refused_from
refused_row program = refused_from program []

-- A listing of these bytes, in memory longer by so many bytes, which stay; and by one.
unfoldable pub listing_with : (room : ℕ) → (program start recorded : List ℕ) → Answer → (written : List ℕ) → Row
unfolding nines
listing_with room program start recorded answer written =
    record {
      question = lists program start recorded (nines (length written + room));
      expected =
          printed (record { result = record { answer = answer; length = length written }; memory = written ++ nines room });
    }

unfoldable pub listing_from : (program start recorded : List ℕ) → Answer → (written : List ℕ) → Row
unfolding listing_with
listing_from = listing_with 1

unfoldable pub listing_row : (program recorded : List ℕ) → Answer → (written : List ℕ) → Row
unfolding listing_from
listing_row program = listing_from program []

-- A listing that does not fit.
unfoldable pub no_listing_row : (program recorded : List ℕ) → (memory needed : ℕ) → Row
unfolding nines refusal
no_listing_row program recorded memory needed =
    record {
      question = lists program [] recorded (nines memory);
      expected =
          printed (record { result = record { answer = Err (refusal 15 needed); length = 0 }; memory = nines memory });
    }

-- A slip or a start written, counts or cells read: entries that fill the memory, longer by so many, and by one.
unfoldable pub filled_with : (room : ℕ) → Question → (entries : List ℕ) → Row
unfolding nines
filled_with room question entries =
    record { question = question; expected = lent (record { answer = Ok (length entries); memory = entries ++ nines room }) }

unfoldable pub filled : Question → (entries : List ℕ) → Row
unfolding filled_with
filled = filled_with 1

unfoldable pub not_filled : Question → (memory number place : ℕ) → Row
unfolding nines refusal
not_filled question memory number place =
    record { question = question; expected = lent (record { answer = Err (refusal number place); memory = nines memory }) }

-- Of a program of one rank and cell with so many transitions: a record that holds one store of 7 by this transition, or is refused by 5 at this place.
unfoldable pub numbered : (transitions : ℕ) → (recorded : List ℕ) → Question
numbered transitions recorded =
    holds
    (record { ranks = 1; cells = 1; registers = 1; queues = 1; states = 1; transitions = transitions })
    recorded

unfoldable pub number_row : (transitions : ℕ) → (recorded : List ℕ) → (number : ℕ) → Row
unfolding numbered
number_row transitions recorded number =
    record {
      question = numbered transitions recorded;
      expected =
          items
          (Ok
          (record { kind = Store; rank = 1; transition = number; queue = 0; place = address 1 0; given = Some 7; remote = 0 } ∷ []));
    }

unfoldable pub no_number_row : (transitions : ℕ) → (recorded : List ℕ) → (place : ℕ) → Row
unfolding numbered refusal
no_number_row transitions recorded place =
    record { question = numbered transitions recorded; expected = items (Err (refusal 5 place)) }
