-- `expressionread::read_text` meets its contract: the longest choice from the start is the whole text, or the text spells nothing.
-- Assumes nothing.
use Rattle.expressionread.proofs.AnswerLaws.{text_longer}
use Rattle.expressionread.proofs.read_text.Goals as goal

pub returns-then-d-text : goal.returns-then-d-text
returns-then-d-text c = text_longer c.requires.few c.in_ok-d.ensures c.if-d-text.true
