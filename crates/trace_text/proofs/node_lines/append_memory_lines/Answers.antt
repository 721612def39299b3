use Rattle.std.proofs.Common.{◌≡◌, ◌+◌, ◌*◌, ℕ, [], drop, Some, ap, sym, ◌∙◌, arith}
use Rattle.std.specs.Result.{result_ok}
use Rattle.xs_base.specs.declared.numbers.TheConstants.{MEMORY_START}
use Rattle.xs_model.specs.Memory.{load_word, words_of}
use Rattle.trace_text.proofs.TraceLines.{one_more, none_left, memory_lines-next, memory_lines-end}
use Rattle.trace_text.proofs.node_lines.append_memory_lines.Goals as goal

pub loop-k-preserved : goal.loop-k-preserved
loop-k-preserved c =
    let memory = c.args.core.now.core.memory in
    let k = c.loop-k.k in
    let w = c.unwrap-w.result in
    let loaded : load_word memory (MEMORY_START + 4 * k) ≡ Some w = sym c.word.ensures.value ∙ ap (λ r. result_ok r) c.unwrap-w.ensures in
    let split = memory_lines-next c.args.node (MEMORY_START + 4 * k) (MEMORY_START + 4 * (k + 1)) w _ _ (omega arith) (c.words_in_order.ensures.next memory k w c.word.ensures.size loaded) in
    record {
      size = λ _. c.word.ensures.size;
      lines = one_more _ _ _ _ _ _ c.in_ok-append_memory_line.ensures split c.loop-k.invariant.lines;
    }

pub returns : goal.returns
returns c =
    let memory = c.args.core.now.core.memory in
    let all_words : c.loop-k.k ≡ 16384 = omega arith in
    let none : words_of (drop (4 * c.loop-k.k) memory) ≡ [] =
    ap (λ (k : ℕ). words_of (drop (4 * k) memory)) all_words ∙ c.words_in_order.ensures.end memory (c.loop-k.invariant.size (omega arith)) in
    none_left _ _ _ (memory_lines-end c.args.node (MEMORY_START + 4 * c.loop-k.k) _ none) c.loop-k.invariant.lines
