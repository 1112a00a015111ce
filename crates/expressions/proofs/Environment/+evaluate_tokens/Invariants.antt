-- The measure is the count of tokens left.
use Rattle.expressions.proofs.Environment.+evaluate_tokens.Given as goal

abbrev pub decreases-evaluate_tokens : goal.decreases-evaluate_tokens
decreases-evaluate_tokens l = l.left
