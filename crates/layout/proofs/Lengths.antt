-- No line is long: a line is a few words, and a few numbers of at most twenty digits.
use Rattle.std.specs.Prelude.{Ok}
use Prim.Native.Nat.{ℕ, ◌≤◌, ◌<◌, ◌^◌}
use mathlib.Core.Path.{◌≡◌}
use native.Mathlib.Omega.{arith}
use lib.ListN.{length, length-append}
use Rattle.model.specs.declared.Kind.{Kind}
use Rattle.model.specs.Listings.{line}
use Rattle.model.specs.declared.Verdict as model
use Rattle.model.specs.declared.Verdict.TheVariants.{Order, Ring}
use Rattle.lines.specs.Lines.{answer_line, group_entry, cell_entry}
use Rattle.model.proofs.Listings.{decimal_few, kind_short}
use Rattle.lines.proofs.GroupLines.{group_length}
use Rattle.layout.specs.declared.line.Line.{Line}
use Rattle.layout.specs.declared.line.Line.TheVariants.{Verdict, Group, Cell, Nothing}
use Rattle.layout.specs.Lines.{bytes_of, groups_told, longest, Measures}

-- A number that fits a machine word.
abbrev Word : ℕ → Type 0
Word n = n < 2 ^ 64

verdict_short : (verdict : model.Verdict) → Word (groups_told verdict) → length (answer_line (Ok verdict)) ≤ longest
unfolding answer_line line
verdict_short (Order count) w = simp length-append (omega (arith, decimal_few count w))
verdict_short (Ring count) w = simp length-append (omega (arith, decimal_few count w))

group_short : (group : ℕ) (kind : Kind) (rank first : ℕ) → Word group → Word rank → Word first → length (group_entry group kind rank first) ≤ longest
group_short group kind rank first g r f =
    omega (arith, group_length group kind rank first, decimal_few group g, kind_short kind, decimal_few rank r, decimal_few first f)

cell_short : (rank cell value : ℕ) → Word rank → Word cell → Word value → length (cell_entry rank cell value) ≤ longest
unfolding cell_entry line
cell_short rank cell value r a v = simp length-append (omega (arith, decimal_few rank r, decimal_few cell a, decimal_few value v))

-- So a line's length is measured.
module _ {shape : Line} {r : ℕ} where
  pub verdict_measured : {verdict : model.Verdict} → shape ≡ Verdict verdict → Word (groups_told verdict) →
      r ≡ length (answer_line (Ok verdict)) → Measures shape r
  unfolding bytes_of
  verdict_measured {verdict} e w is = record { is = rw e is; few = omega (arith, verdict_short verdict w) }

  pub group_measured : {group : ℕ} {kind : Kind} {rank first : ℕ} → shape ≡ Group group kind rank first → Word group → Word rank → Word first →
      r ≡ length (group_entry group kind rank first) → Measures shape r
  unfolding bytes_of
  group_measured {group} {kind} {rank} {first} e g ra f is = record { is = rw e is; few = omega (arith, group_short group kind rank first g ra f) }

  pub cell_measured : {rank cell value : ℕ} → shape ≡ Cell rank cell value → Word rank → Word cell → Word value →
      r ≡ length (cell_entry rank cell value) → Measures shape r
  unfolding bytes_of
  cell_measured {rank} {cell} {value} e ra a v is = record { is = rw e is; few = omega (arith, cell_short rank cell value ra a v) }

pub none_measured : {shape : Line} → shape ≡ Nothing → Measures shape 0
unfolding bytes_of
none_measured e = record { is = rw e; few = omega arith }
