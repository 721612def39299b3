use Rattle.core_memory.proofs.Order.{words_in_order, next_word, no_words_left}
use Rattle.core_memory.proofs.words_in_order.Goals as goal

pub returns-clause-at : goal.returns-clause-at
returns-clause-at c = words_in_order

pub returns-clause-next : goal.returns-clause-next
returns-clause-next c = next_word

pub returns-clause-end : goal.returns-clause-end
returns-clause-end c = no_words_left
