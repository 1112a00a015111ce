-- `texts::words::write_word` meets its contract. The invariant: so many of the word's bytes are the front of the text.
use mathlib.Core.Path.{refl, sym}
use Rattle.texts.proofs.Texts.{wrote_none, wrote_all, fill_none, fronted_more, fronted_all}
use Rattle.texts.proofs.words.write_word.Goals as goal

pub returns-then-text-word : goal.returns-then-text-word
returns-then-text-word c = wrote_none _ _ c.if-text-word.true

pub loop-at-init : goal.loop-at-init
loop-at-init c = sym (fill_none _)

pub loop-at-preserved : goal.loop-at-preserved
loop-at-preserved c = fronted_more _ _ c.loop-at.invariant c.loop-at-test.true c.if-text-word.false

pub returns : goal.returns
returns c = wrote_all _ _ c.if-text-word.false (fronted_all _ _ c.loop-at.invariant c.loop-at.auto.at-end c.loop-at-test.false) refl
