use Rattle.std.proofs.Common.{◌≡◌, ℕ, ◌≤◌, ◌+◌, ◌∷◌, ◌++◌, [], List, length, Err, refl, sym, ap, ◌∙◌, subst, append-nil, arith}
use Rattle.std.proofs.lemmas.Grind.{common_steps}
use Rattle.xs_text.specs.Lines.{Reading, lines_of, bytes_left, line_bytes}
use Rattle.rank_model.specs.declared.rank_line.RankSays.TheVariants.{Blank, System, Rank}
use Rattle.rank_model.specs.Lines.{Head, Ranks, BadLine, bytes_of_lines, head_from, ranks_of, ranks_with, says}
use Rattle.route_ranks.specs.declared.rank_error.RankError.{RankError}
use Rattle.route_ranks.specs.Reads.{ReadsRanks, RefusesLine}
use Rattle.route_ranks.proofs.Heads.{bytes-next, bytes-before, line-read, lines-end}
use Rattle.route_ranks.proofs.reader.read_ranks.Goals as goal

pub loop-line-init : goal.loop-line-init
unfolding bytes_of_lines
loop-line-init c =
    let text = c.args.text.now in
    let none = sym c.new-given.ensures.items in
    let start = sym c.new-lines.ensures in
    record {
      same_text = ap (λ (r : Reading). r.text) c.new-lines.ensures;
      last = ap (λ (r : Reading). r.number) start;
      at = ap (λ (r : Reading). r.at) c.new-lines.ensures ∙ ap (λ (r : Reading). bytes_of_lines r.number text) start;
      whole = λ i. head_from ((start i).number + 1) (none i) (lines_of (bytes_left (start i)));
    }

pub loop-line-preserved-in-Blank : goal.loop-line-preserved-in-Blank
loop-line-preserved-in-Blank c =
    let text = c.args.text.now in
    let old = c.loop-line.lines in
    let new = c.next_line.new.self in
    let line = c.in-Some.line in
    let given = c.loop-line.given.items in
    let same = c.loop-line.invariant.same_text in
    let counted = sym c.in-Some.ensures.counted in
    let said : says line.number (line_bytes text line) ≡ Blank = sym c.says.ensures ∙ c.in-Blank.is in
    record {
      same_text = c.in-Some.ensures.same_text ∙ same;
      last = counted;
      at = bytes-next text old new same c.loop-line.invariant.at c.in-Some.ensures.whole (c.in-Some.ensures.counted ∙ c.in-Some.ensures.numbered);
      whole =
          c.loop-line.invariant.whole
          ∙ line-read text old new line given Blank same c.in-Some.ensures.line c.in-Some.ensures.numbered said
          ∙ (λ i. head_from (counted i + 1) (append-nil given i) (lines_of (bytes_left new)));
    }

pub loop-line-preserved : goal.loop-line-preserved
loop-line-preserved c =
    let text = c.args.text.now in
    let old = c.loop-line.lines in
    let new = c.next_line.new.self in
    let line = c.in-Some.line in
    let given = c.loop-line.given.items in
    let rank = c.in-Rank.rank in
    let same = c.loop-line.invariant.same_text in
    let counted = sym c.in-Some.ensures.counted in
    let said : says line.number (line_bytes text line) ≡ Rank rank = sym c.says.ensures ∙ c.in-Rank.is in
    let pushed : given ++ (rank ∷ []) ≡ c.push.new.self.items = grind (arith, common_steps) in
    record {
      same_text = c.in-Some.ensures.same_text ∙ same;
      last = counted;
      at = bytes-next text old new same c.loop-line.invariant.at c.in-Some.ensures.whole (c.in-Some.ensures.counted ∙ c.in-Some.ensures.numbered);
      whole =
          c.loop-line.invariant.whole
          ∙ line-read text old new line given (Rank rank) same c.in-Some.ensures.line c.in-Some.ensures.numbered said
          ∙ (λ i. head_from (counted i + 1) (pushed i) (lines_of (bytes_left new)));
    }

pub returns-in-System-clause-exact : goal.returns-in-System-clause-exact
returns-in-System-clause-exact c =
    let text = c.args.text.now in
    let old = c.loop-line.lines in
    let new = c.next_line.new.self in
    let line = c.in-Some.line in
    let given = c.loop-line.given.items in
    let same = c.loop-line.invariant.same_text in
    let said : says line.number (line_bytes text line) ≡ System = sym c.says.ensures ∙ c.in-System.is in
    let there = bytes-next text old new same c.loop-line.invariant.at c.in-Some.ensures.whole (c.in-Some.ensures.counted ∙ c.in-Some.ensures.numbered) in
    let within = subst (λ (t : List ℕ). new.at ≤ length t) same c.in-Some.ensures.within in
    let before = bytes-before text c.rest.result.now new (c.in-Some.ensures.same_text ∙ same) within c.rest.ensures in
    let rest = sym (before ∙ there ∙ ap (λ n. bytes_of_lines n text) c.in-Some.ensures.counted) in
    ap (λ (h : Head). ranks_with text h) (c.loop-line.invariant.whole ∙ line-read text old new line given System same c.in-Some.ensures.line c.in-Some.ensures.numbered said)
    ∙ ap (λ n. Ranks (record { lines = given; system = line.number; rest = n })) rest
    ∙ ap Ranks (sym c.of.ensures)

pub returns-in-System-clause-taken : goal.returns-in-System-clause-taken
returns-in-System-clause-taken c = λ ranks e. let same : Ranks c.of.result ≡ Ranks ranks = sym (returns-in-System-clause-exact c) ∙ e in cc

pub returns-in-Some-checked_add-clause-exact : goal.returns-in-Some-checked_add-clause-exact
returns-in-Some-checked_add-clause-exact c =
    let text = c.args.text.now in
    let left : bytes_left c.loop-line.lines ≡ [] = grind (arith, common_steps) in
    let next : c.in-Some-checked_add.next ≡ c.loop-line.lines.number + 1 = grind (arith, common_steps) in
    subst (λ (e : RankError). ReadsRanks (ranks_of text) (Err e)) (sym c.fault-in-Some-checked_add.ensures)
    (lines-end text c.loop-line.lines c.loop-line.given.items _ left c.loop-line.invariant.whole next, refl)

pub returns-in-Some-checked_add-clause-taken : goal.returns-in-Some-checked_add-clause-taken
returns-in-Some-checked_add-clause-taken c = λ ranks e.
    let left : bytes_left c.loop-line.lines ≡ [] = grind (arith, common_steps) in
    let next : c.in-Some-checked_add.next ≡ c.loop-line.lines.number + 1 = grind (arith, common_steps) in
    let apart : BadLine c.in-Some-checked_add.next ≡ Ranks ranks =
    sym (lines-end c.args.text.now c.loop-line.lines c.loop-line.given.items _ left c.loop-line.invariant.whole next) ∙ e in
    cc

pub returns-in-Some-checked_add-clause-refused : goal.returns-in-Some-checked_add-clause-refused
returns-in-Some-checked_add-clause-refused c = λ line e.
    let left : bytes_left c.loop-line.lines ≡ [] = grind (arith, common_steps) in
    let next : c.in-Some-checked_add.next ≡ c.loop-line.lines.number + 1 = grind (arith, common_steps) in
    let same : BadLine c.in-Some-checked_add.next ≡ BadLine line =
    sym (lines-end c.args.text.now c.loop-line.lines c.loop-line.given.items _ left c.loop-line.invariant.whole next) ∙ e in
    let at : c.in-Some-checked_add.next ≡ line = cc in
    subst (λ (x : RankError). RefusesLine line (Err x)) (sym c.fault-in-Some-checked_add.ensures) (at, refl)
