-- `next`: it is the first of the list, and the others are left.
use mathlib.Core.Path.{ap}
use native.Mathlib.Omega.{arith}
use Rattle.std.proofs.Common.{length, rules}
use Rattle.chains.proofs.Chains.{no_members, members_first}
use Rattle.rings.proofs.arrows.MembersIterator.next.Goals as goal

pub returns-then-self-eq0-clause-steps : goal.returns-then-self-eq0-clause-steps
returns-then-self-eq0-clause-steps c = rw c.if-self-eq0.true (no_members _, no_members _)

pub returns-clause-steps : goal.returns-clause-steps
returns-clause-steps c = rw c.older-self.ensures (members_first _ _ (omega (arith, c.if-self-eq0.false)))

pub returns-clause-goes : goal.returns-clause-goes
returns-clause-goes c =
    let first = members_first c.args.self.now.links.now c.args.self.now.next (omega (arith, c.if-self-eq0.false)) in
    rw c.older-self.ensures
    (record { on = λ f. (search rules, search rules, omega (arith, ap length first)); keeps = search rules; rests = search rules })
