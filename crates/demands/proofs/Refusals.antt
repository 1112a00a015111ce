-- Every refusal has one of the check's numbers: what is refused by the whole is refused by a part.
use Rattle.model.specs.declared.FormFault.TheVariants.{UnknownKind, WrongMap}
use Rattle.std.specs.Prelude.{Option, Some, None, slice_get, Ok, Err}
use Prim.Native.Nat.{ℕ, zero, suc, ◌+◌, ◌-◌, ◌*◌, ◌^◌}
use mathlib.Core.Path.{◌≡◌, refl}
use mathlib.Core.Bool.{Bool, true, ◌&&◌}
use mathlib.Core.List.{List, [], ◌∷◌}
use lib.Dec.{ltb, leb, eqb}
use lib.ListN.{length}
use Rattle.model.specs.declared.Header.{Header}
use Rattle.model.specs.declared.Item.{Item}
use Rattle.model.specs.Limits.{map_size, max_value, max_tokens, short_transitions, max_transitions, long_count, max_items}
use Rattle.model.specs.Refusals.{program_length, program_range, program_form, record_length, record_range, record_form, wrong_transition, operand_range}
use Rattle.model.specs.Refusals.{assume_fails, empty_queue, access_differs, barrier_row, queues_left, order_too_short, memory_too_short, no_value, start_form}
use Rattle.model.specs.Choice.{between, bit, lookup, numbers_from}
use Rattle.model.specs.Bytes.{Reader, byte, big_endian, judged}
use Rattle.model.specs.Marked.{read_marked}
use Rattle.model.specs.ItemKinds.{same_kind, Part, command, fetch, delivery, part_of}
use Rattle.model.specs.Expressions.{Expression, constant, Token, constant_token, register_token, own_rank_token, rank_count_token, operator_token, tokens}
use Rattle.model.specs.Expressions.{Counted, no_token_left, after_token, on_token, read_expression, expression}
use Rattle.model.specs.Programs.{Program, Transition, Command, load, store, assign, assume, read, write, bar, kind_of, CommandForm, forms, judged_form}
use Rattle.model.specs.Programs.{header_number, count_byte, transition_count, read_header_in, read_header, read_fields, read_transition, program_reader_in, read_program_in, read_program}
use Rattle.model.specs.ItemForms.{item_form, judged_item_form, ItemForm}
use Rattle.model.specs.Records.{read_item_in, read_item, record_reader_in, read_record_in, read_record}
use Rattle.model.specs.Machine.{Start, Request, Delivery, value_of, value, ranged, transfer, action}
use Rattle.model.specs.StartBytes.{start_map, rank_reader, start_reader, read_start}
use Rattle.model.specs.Replay.{Origin, Replay, Taken, row_allows, agrees_with, agreed, take_transition, take_fetch, take_delivery, take_part, take_item}
use Rattle.model.specs.Replay.{after_command, after_fetch, after_delivery, request_for, delivery_for, oldest, take_items, begin, quiet, at_end, replay}
use Rattle.model.specs.Checks.{accept_in, check_result_in, check_result}
use Rattle.model.proofs.Laws.{decided}
use Rattle.model.proofs.Faults.{Tabled, ok_tabled, refuse_tabled, bind_tabled, require_tabled, present_tabled, whole_tabled}
use Rattle.model.proofs.Faults.{Faults, pure_faults, here_faults, fault_faults, bind_faults, byte_faults, word_faults, judged_faults}
use Rattle.model.proofs.Faults.{optional_faults, times_faults}
use Rattle.model.proofs.Records.{item_fields_fault}
use Rattle.demands.specs.Demands.{is_check_number}

-- One of the check's numbers.
abbrev pub CheckRow : ℕ → Type 0
CheckRow number = is_check_number number ≡ true

-- The program.
module _ (registers : ℕ) where
  register_faults : Faults CheckRow (judged (λ i. ltb i registers) program_range (byte program_length))
  register_faults = judged_faults (λ i. ltb i registers) program_range refl (byte_faults program_length refl)

  no_token_faults : {A : Type 0} → Faults CheckRow (no_token_left {A = A})
  unfolding no_token_left
  no_token_faults =
      bind_faults here_faults λ at. bind_faults (byte_faults program_length refl) λ token. fault_faults program_form at refl

  token_faults : {operand : ℕ → Reader Counted} → ((left : ℕ) → Faults CheckRow (operand left)) → (left at : ℕ) (token : Option Token) →
      Faults CheckRow (on_token registers operand left at token)
  unfolding on_token after_token
  token_faults operands left at (Some constant_token) = bind_faults (word_faults program_length refl) λ value. pure_faults _
  token_faults operands left at (Some register_token) = bind_faults register_faults λ index. pure_faults _
  token_faults operands left at (Some own_rank_token) = pure_faults _
  token_faults operands left at (Some rank_count_token) = pure_faults _
  token_faults operands left at (Some (operator_token o)) =
      bind_faults (operands left) λ a. bind_faults (operands a.left) λ b. pure_faults _
  token_faults operands left at None = fault_faults program_form at refl

  tokens_fault : (depth left : ℕ) → Faults CheckRow (read_expression registers depth left)
  unfolding read_expression
  tokens_fault zero left = no_token_faults
  tokens_fault (suc depth) zero = no_token_faults
  tokens_fault (suc depth) (suc left) =
      bind_faults here_faults λ at.
      bind_faults (byte_faults program_length refl) λ token.
      token_faults (tokens_fault depth) left at (lookup token tokens)

  expression_faults : Faults CheckRow (expression registers)
  unfolding expression
  expression_faults = bind_faults (tokens_fault max_tokens max_tokens) λ e. pure_faults _

  fields_fault : (map : ℕ) → Faults CheckRow (read_fields registers map)
  unfolding read_fields
  fields_fault map =
      bind_faults (optional_faults (bit 0 map) 0 register_faults) λ x.
      bind_faults (optional_faults (bit 1 map) (constant 0) expression_faults) λ e1.
      bind_faults (optional_faults (bit 2 map) (constant 0) expression_faults) λ e2.
      bind_faults (optional_faults (bit 3 map) (constant 0) expression_faults) λ e3.
      bind_faults (optional_faults (bit 4 map) (constant 0) expression_faults) λ e4.
      pure_faults _

form_faults : (at map : ℕ) (form : Option CommandForm) → Faults CheckRow (judged_form at map form)
unfolding judged_form
form_faults at map None = fault_faults program_form (at + 1) refl
form_faults at map (Some form) =
    decided (eqb map form.map) (λ t. rw t (pure_faults form)) (λ t. rw t (fault_faults program_form at refl))

below_faults : (limit : ℕ) → Faults CheckRow (judged (λ q. ltb q limit) program_range (byte program_length))
below_faults limit = judged_faults (λ q. ltb q limit) program_range refl (byte_faults program_length refl)

transition_faults : (header : Header) → Faults CheckRow (read_transition header)
unfolding read_transition
transition_faults header =
    bind_faults here_faults λ at.
    bind_faults (byte_faults program_length refl) λ map.
    bind_faults (byte_faults program_length refl) λ kind.
    bind_faults (form_faults at map (lookup kind forms)) λ form.
    bind_faults (below_faults header.states) λ source.
    bind_faults (below_faults header.states) λ target.
    bind_faults (fields_fault header.registers map) λ fields.
    pure_faults _

number_faults : (low high : ℕ) → Faults CheckRow (header_number low high)
unfolding header_number
number_faults low high = judged_faults (between low high) program_range refl (byte_faults program_length refl)

count_faults : (most : ℕ) → Faults CheckRow (transition_count most)
unfolding transition_count
count_faults most =
    bind_faults (judged_faults (count_byte most) program_range refl (byte_faults program_length refl)) λ count.
    optional_faults (eqb count long_count) count
    (judged_faults (between (short_transitions + 1) most) program_range refl (word_faults program_length refl))

header_faults : Faults CheckRow read_header
unfolding read_header_in
header_faults =
    bind_faults (number_faults _ _) λ ranks.
    bind_faults (number_faults _ _) λ cells.
    bind_faults (number_faults _ _) λ registers.
    bind_faults (number_faults _ _) λ queues.
    bind_faults (number_faults _ _) λ states.
    bind_faults (count_faults max_transitions) λ transitions.
    pure_faults _

program_tabled : (bytes : List ℕ) → Tabled CheckRow (read_program bytes)
unfolding read_program_in program_reader_in
program_tabled bytes =
    whole_tabled program_length bytes refl
    (bind_faults header_faults λ header.
    bind_faults (times_faults header.transitions (transition_faults header)) λ transitions.
    pure_faults _)

-- The record.
item_form_faults : (at : ℕ) (form : ItemForm) → Faults CheckRow (judged_item_form at form)
unfolding judged_item_form
item_form_faults at (Ok kind) = pure_faults kind
item_form_faults at (Err UnknownKind) = fault_faults record_form (at + 1) refl
item_form_faults at (Err WrongMap) = fault_faults record_form at refl

item_faults : (header : Header) → Faults CheckRow (read_item header)
unfolding read_item_in
item_faults header =
    bind_faults here_faults λ at.
    bind_faults (byte_faults record_length refl) λ map.
    bind_faults (byte_faults record_length refl) λ number.
    bind_faults (item_form_faults at (item_form map number)) λ kind.
    item_fields_fault refl refl header map kind

record_tabled : (header : Header) (bytes : List ℕ) → Tabled CheckRow (read_record header bytes)
unfolding read_record_in record_reader_in
record_tabled header bytes =
    whole_tabled record_length bytes refl
    (bind_faults (judged_faults (λ n. leb n max_items) record_range refl (word_faults record_length refl)) λ count.
    times_faults count (item_faults header))

-- The replay.
module _ (P : Program) where
  module _ (rank : ℕ) (registers : ℕ → ℕ) (at : ℕ) where
    value_tabled : (e : Expression) → Tabled CheckRow (value P rank registers at e)
    unfolding value
    value_tabled e = present_tabled (value_of P rank registers e) no_value at refl

    ranged_tabled : (test : Bool) → Tabled CheckRow (ranged P rank registers at test)
    ranged_tabled test = require_tabled test operand_range at refl

    transfer_tabled : (e1 e2 e3 e4 : Expression) → Tabled CheckRow (transfer P rank registers at e1 e2 e3 e4)
    unfolding transfer
    transfer_tabled e1 e2 e3 e4 =
        bind_tabled (value_tabled e1) λ own.
        bind_tabled (value_tabled e2) λ remote.
        bind_tabled (value_tabled e3) λ cell.
        bind_tabled (value_tabled e4) λ queue.
        bind_tabled (ranged_tabled (ltb own P.header.cells)) λ _.
        bind_tabled (ranged_tabled (between 1 P.header.ranks remote)) λ _.
        bind_tabled (ranged_tabled (ltb cell P.header.cells)) λ _.
        bind_tabled (ranged_tabled (ltb queue P.header.queues)) λ _.
        ok_tabled _

    action_tabled : (c : Command) → Tabled CheckRow (action P rank registers at c)
    unfolding action
    action_tabled (load x e1) = bind_tabled (value_tabled e1) λ cell. bind_tabled (ranged_tabled (ltb cell P.header.cells)) λ _. ok_tabled _
    action_tabled (store e1 e2) =
        bind_tabled (value_tabled e1) λ cell.
        bind_tabled (value_tabled e2) λ stored.
        bind_tabled (ranged_tabled (ltb cell P.header.cells)) λ _.
        ok_tabled _
    action_tabled (assign x e1) = bind_tabled (value_tabled e1) λ assigned. ok_tabled _
    action_tabled (assume e1) =
        bind_tabled (value_tabled e1) λ assumed. bind_tabled (require_tabled (ltb 0 assumed) assume_fails at refl) λ _. ok_tabled _
    action_tabled (read e1 e2 e3 e4) = bind_tabled (transfer_tabled e1 e2 e3 e4) λ t. ok_tabled _
    action_tabled (write e1 e2 e3 e4) = bind_tabled (transfer_tabled e1 e2 e3 e4) λ t. ok_tabled _
    action_tabled bar = ok_tabled _

  agreed_tabled : (at : ℕ) (taken : Taken) → Tabled CheckRow (agreed at taken)
  unfolding agreed
  agreed_tabled at taken =
      let agrees : Bool = agrees_with taken.event.item taken.event.access in
      bind_tabled (require_tabled agrees access_differs at refl) λ _. ok_tabled taken

  module _ (s : Replay) (at : ℕ) (i : Item) where
    transition_tabled : (t : Option Transition) → Tabled CheckRow (take_transition P s at i t)
    unfolding take_transition
    transition_tabled None = refuse_tabled wrong_transition at refl
    transition_tabled (Some t) =
        let fits : Bool = eqb t.source (s.machine.control i.rank) && same_kind (kind_of t.command) i.kind in
        bind_tabled (require_tabled fits wrong_transition at refl) λ _.
        bind_tabled (action_tabled i.rank (s.machine.registers i.rank) at t.command) λ a.
        agreed_tabled at (after_command P s i t.target a)

    fetch_tabled : (o : Option (Request Origin × List (Request Origin))) → Tabled CheckRow (take_fetch s at i o)
    unfolding take_fetch
    fetch_tabled None = refuse_tabled empty_queue at refl
    fetch_tabled (Some (a, rest)) = agreed_tabled at (after_fetch s i a rest)

    delivery_tabled : (o : Option (Delivery Origin × List (Delivery Origin))) → Tabled CheckRow (take_delivery s at i o)
    unfolding take_delivery
    delivery_tabled None = refuse_tabled empty_queue at refl
    delivery_tabled (Some (b, rest)) = agreed_tabled at (after_delivery s i b rest)

    part_tabled : (p : Part) → Tabled CheckRow (take_part P s at i p)
    unfolding take_part
    part_tabled command = transition_tabled (slice_get P.transitions i.transition)
    part_tabled fetch = fetch_tabled (oldest (request_for i) (s.machine.requests i.rank i.queue))
    part_tabled delivery = delivery_tabled (oldest (delivery_for i) (s.machine.deliveries i.rank i.queue))

    item_tabled : Tabled CheckRow (take_item P s at i)
    unfolding take_item
    item_tabled = bind_tabled (require_tabled (row_allows s.row i) barrier_row at refl) λ _. part_tabled (part_of i.kind)

  items_tabled : (s : Replay) (at : ℕ) (items : List Item) → Tabled CheckRow (take_items P s at items)
  unfolding take_items
  items_tabled s at [] = ok_tabled _
  items_tabled s at (i ∷ items) =
      bind_tabled (item_tabled s at i) λ taken. bind_tabled (items_tabled taken.state (at + 1) items) λ rest. ok_tabled _

  replay_tabled : (start : Start) (items : List Item) → Tabled CheckRow (replay P start items)
  unfolding replay at_end
  replay_tabled start items =
      bind_tabled (items_tabled (begin start) 0 items) λ r.
      bind_tabled (require_tabled (eqb r.last.row 0) barrier_row (length items) refl) λ _.
      bind_tabled (require_tabled (quiet P r.last.machine) queues_left (length items) refl) λ _.
      ok_tabled r

-- The start.
marked_faults : (first most map : ℕ) (numbers : List ℕ) → Faults CheckRow (read_marked first most start_form map numbers)
unfolding read_marked
marked_faults first most map [] = pure_faults []
marked_faults first most map (n ∷ numbers) =
    bind_faults (optional_faults (bit (n - first) map) 0 (judged_faults (between 1 most) start_form refl (word_faults start_form refl))) λ value.
    bind_faults (marked_faults first most map numbers) λ rest.
    pure_faults _

big_faults : (size high : ℕ) → Faults CheckRow (big_endian start_form size high)
unfolding big_endian
big_faults zero high = pure_faults high
big_faults (suc size) high = bind_faults (byte_faults start_form refl) λ low. big_faults size _

rank_faults : (cells : ℕ) → Faults CheckRow (rank_reader cells)
unfolding rank_reader start_map
rank_faults cells =
    bind_faults (judged_faults (λ map. ltb map (2 ^ cells)) start_form refl (big_faults map_size 0)) λ map.
    marked_faults 0 max_value map (numbers_from 0 cells)

start_tabled : (header : Header) (start : List ℕ) → Tabled CheckRow (read_start header start)
unfolding read_start start_reader
start_tabled header [] = ok_tabled _
start_tabled header (first ∷ rest) =
    bind_tabled (whole_tabled start_form (first ∷ rest) refl (times_faults header.ranks (rank_faults header.cells))) λ readings. ok_tabled _

-- The whole check.
pub check_tabled : (program start recorded : List ℕ) (order_length cells_length : ℕ) →
    Tabled CheckRow (check_result program start recorded order_length cells_length)
unfolding check_result_in accept_in
check_tabled program start recorded order_length cells_length =
    bind_tabled
    (bind_tabled (program_tabled program) λ P.
    bind_tabled (start_tabled P.header start) λ readings.
    bind_tabled (record_tabled P.header recorded) λ items.
    bind_tabled (replay_tabled P readings items) λ run.
    ok_tabled _) λ a.
    bind_tabled (require_tabled (leb a.run.last.opened order_length) order_too_short _ refl) λ _.
    bind_tabled (require_tabled (leb (a.program.header.ranks * a.program.header.cells) cells_length) memory_too_short _ refl) λ _.
    ok_tabled _
