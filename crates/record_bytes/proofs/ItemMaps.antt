-- The maps of items: which bits stand, that the map of an item that its bytes show is one of its kind, and that a kind has no others. Each is one table
-- that is computed.
use Prim.Native.Nat.{ℕ, ◌<◌}
use mathlib.Core.Path.{◌≡◌, refl, sym, ◌∙◌, ap, subst}
use mathlib.Core.Bool.{Bool, true, false, not, ◌&&◌, ◌||◌, not-not}
use lib.Dec.{ltb, leb, eqb}
use borrow.Author.Tests.{ltb-true, eqb-true}
use Rattle.model.specs.declared.Item.{Item}
use Rattle.model.specs.declared.Kind.{Kind}
use Rattle.model.specs.declared.Kind.TheVariants.{Load, Store, Assign, Assume, Read, Write, Popa, Popb, Bar}
use Rattle.model.specs.Limits.{byte_values}
use Rattle.model.specs.Choice.{bit, member}
use Rattle.model.specs.ItemKinds.{item_kinds, has_place, is_command_kind}
use Rattle.model.specs.Formats.{HasMap, item_maps}
use Rattle.model.proofs.Laws.{and-true, decided}
use Rattle.model.specs.Replay.{every}
use Rattle.model.proofs.Tables.{every_row}
use Rattle.model.proofs.ItemForms.{today_maps, each_map}
use Rattle.record_bytes.specs.RecordBytes.{is_given, map_with, map_of, item_map, Shown}

-- What a test that fails tells.
pub not-true : (b : Bool) → not b ≡ true → b ≡ false
not-true b h = sym (not-not b) ∙ ap not h

pub not-false : (b : Bool) → not b ≡ false → b ≡ true
not-false b h = sym (not-not b) ∙ ap not h

-- A test that passes for both.
abbrev both : (Bool → Bool) → Bool
both test = test true && test false

of_both : (test : Bool → Bool) → both test ≡ true → (b : Bool) → test b ≡ true
of_both test h true = (and-true (test true) (test false) h).0
of_both test h false = (and-true (test true) (test false) h).1

abbrev same : Bool → Bool → Bool
same true b = b
same false b = not b

same_true : (a b : Bool) → same a b ≡ true → a ≡ b
same_true true true h = refl
same_true true false h = sym h
same_true false true h = h
same_true false false h = refl

-- The bits of a map.
pub record Bits (map : ℕ) (command placed valued named high : Bool) : Type 0 where
  pub bit0 : bit 0 map ≡ true
  pub bit1 : bit 1 map ≡ command
  pub bit2 : bit 2 map ≡ not command
  pub bit3 : bit 3 map ≡ placed
  pub bit4 : bit 4 map ≡ placed
  pub bit5 : bit 5 map ≡ valued
  pub bit6 : bit 6 map ≡ named
  pub bit7 : bit 7 map ≡ high

module _ (command placed valued named high : Bool) where
  of_five : (test : Bool → Bool → Bool → Bool → Bool → Bool) →
      both (λ c. both (λ p. both (λ v. both (λ n. both (λ h. test c p v n h))))) ≡ true → test command placed valued named high ≡ true
  of_five test h =
      of_both (λ h. test command placed valued named h)
      (of_both (λ n. both (λ h. test command placed valued n h))
      (of_both (λ v. both (λ n. both (λ h. test command placed v n h)))
      (of_both (λ p. both (λ v. both (λ n. both (λ h. test command p v n h))))
      (of_both (λ c. both (λ p. both (λ v. both (λ n. both (λ h. test c p v n h))))) h command) placed) valued) named) high

  pub bits : Bits (map_with command placed valued named high) command placed valued named high
  bits =
      let m : ℕ = map_with command placed valued named high in
      record {
        bit0 = same_true (bit 0 m) true (of_five (λ c p v n h. same (bit 0 (map_with c p v n h)) true) refl);
        bit1 = same_true (bit 1 m) command (of_five (λ c p v n h. same (bit 1 (map_with c p v n h)) c) refl);
        bit2 = same_true (bit 2 m) (not command) (of_five (λ c p v n h. same (bit 2 (map_with c p v n h)) (not c)) refl);
        bit3 = same_true (bit 3 m) placed (of_five (λ c p v n h. same (bit 3 (map_with c p v n h)) p) refl);
        bit4 = same_true (bit 4 m) placed (of_five (λ c p v n h. same (bit 4 (map_with c p v n h)) p) refl);
        bit5 = same_true (bit 5 m) valued (of_five (λ c p v n h. same (bit 5 (map_with c p v n h)) v) refl);
        bit6 = same_true (bit 6 m) named (of_five (λ c p v n h. same (bit 6 (map_with c p v n h)) n) refl);
        bit7 = same_true (bit 7 m) high (of_five (λ c p v n h. same (bit 7 (map_with c p v n h)) h) refl);
      }

  -- It is a byte.
  map_with_small : map_with command placed valued named high < byte_values
  map_with_small =
      ltb-true (map_with command placed valued named high) byte_values (of_five (λ c p v n h. ltb (map_with c p v n h) byte_values) refl)

abbrev pub ItemBits : Item → Type 0
ItemBits i =
    Bits (item_map i) (is_command_kind i.kind) (has_place i.kind) (is_given i.given) (ltb 0 i.remote) (leb byte_values i.transition)

pub item_bits : (i : Item) → ItemBits i
item_bits i = bits (is_command_kind i.kind) (has_place i.kind) (is_given i.given) (ltb 0 i.remote) (leb byte_values i.transition)

pub map_small : (i : Item) → item_map i < byte_values
map_small i =
    map_with_small (is_command_kind i.kind) (has_place i.kind) (is_given i.given) (ltb 0 i.remote) (leb byte_values i.transition)

-- Which of the last three bits may stand: a value only with a place, a name only of a pop, a high byte only of a command.
pub record Allowed (kind : Kind) (valued named high : Bool) : Type 0 where
  pub unvalued : has_place kind ≡ false → valued ≡ false
  pub unnamed : is_command_kind kind ≡ true → named ≡ false
  pub low : is_command_kind kind ≡ false → high ≡ false

abbrev implies : Bool → Bool → Bool
implies a b = not a || b

-- Such a map is one of the kind's ..
unfoldable fits : Kind → Bool → Bool → Bool → Bool
unfolding member item_maps
fits k v n h =
    implies (implies v (has_place k)) (implies (implies n (not (is_command_kind k)))
    (implies (implies h (is_command_kind k)) (member (map_of k v n h) (item_maps k))))

each_fits : (k : Kind) → both (λ v. both (λ n. both (λ h. fits k v n h))) ≡ true
unfolding fits
each_fits Load = refl
each_fits Store = refl
each_fits Assign = refl
each_fits Assume = refl
each_fits Read = refl
each_fits Write = refl
each_fits Popa = refl
each_fits Popb = refl
each_fits Bar = refl

implied : (b : Bool) → implies b true ≡ true
implied true = refl
implied false = refl

pub allowed_map : {kind : Kind} {v n h : Bool} → Allowed kind v n h → HasMap kind (map_of kind v n h)
unfolding fits
allowed_map {kind} {v} {n} {h} allowed =
    let valued : implies v (has_place kind) ≡ true = decided (has_place kind) (λ t. rw t (implied v)) (λ t. rw (allowed.unvalued t)) in
    let named : implies n (not (is_command_kind kind)) ≡ true = decided (is_command_kind kind) (λ t. rw (allowed.unnamed t)) (λ t. rw t (implied n)) in
    let high : implies h (is_command_kind kind) ≡ true = decided (is_command_kind kind) (λ t. rw t (implied h)) (λ t. rw (allowed.low t)) in
    today_maps.only kind (map_of kind v n h)
    (rw (valued, named, high) at (of_both (λ h. fits kind v n h) (of_both (λ n. both (λ h. fits kind v n h))
    (of_both (λ v. both (λ n. both (λ h. fits kind v n h))) (each_fits kind) v) n) h))

-- .. and the kind has no other.
module _ {kind : Kind} {map : ℕ} (has : HasMap kind map) where
  pub map_is : map ≡ map_of kind (bit 5 map) (bit 6 map) (bit 7 map)
  unfolding every_row every item_kinds item_maps
  map_is =
      eqb-true map (map_of kind (bit 5 map) (bit 6 map) (bit 7 map)) (each_map (λ k m. eqb m (map_of k (bit 5 m) (bit 6 m) (bit 7 m))) refl has)

  pub map_allowed : Allowed kind (bit 5 map) (bit 6 map) (bit 7 map)
  unfolding every_row every item_kinds item_maps
  map_allowed =
      record {
        unvalued = λ is. not-true (bit 5 map) (rw is at (each_map (λ k m. has_place k || not (bit 5 m)) refl has));
        unnamed = λ is. not-true (bit 6 map) (rw is at (each_map (λ k m. not (is_command_kind k) || not (bit 6 m)) refl has));
        low = λ is. not-true (bit 7 map) (rw is at (each_map (λ k m. is_command_kind k || not (bit 7 m)) refl has));
      }

  pub map_bits_lem : Bits map (is_command_kind kind) (has_place kind) (bit 5 map) (bit 6 map) (bit 7 map)
  map_bits_lem =
      subst (λ m. Bits m (is_command_kind kind) (has_place kind) (bit 5 map) (bit 6 map) (bit 7 map)) (sym map_is)
      (bits (is_command_kind kind) (has_place kind) (bit 5 map) (bit 6 map) (bit 7 map))

pub has_map : {i : Item} → Shown i → HasMap i.kind (item_map i)
has_map {i} shown =
    allowed_map {v = is_given i.given} {n = ltb 0 i.remote} {h = leb byte_values i.transition}
    (record {
      unvalued = λ t. ap is_given (shown.of_no_place t).1;
      unnamed = λ t. ap (ltb 0) (shown.of_command t).1;
      low = λ t. ap (leb byte_values) (shown.of_pop t);
    })
