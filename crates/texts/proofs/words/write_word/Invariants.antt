use Rattle.texts.proofs.Texts.{Fronted}
use Rattle.texts.proofs.words.write_word.Given as goal

abbrev pub invariant-loop-at : goal.invariant-loop-at
invariant-loop-at l = Fronted l.word l.initial.text l.at l.text
