use Rattle.std.proofs.Common.{◌≡◌, ℕ, Bool, Option, List, ◌++◌, ap, ◌∙◌, subst, OnOk}
use Rattle.explain_model.specs.Words.{words_left}
use Rattle.explain_frame_model.specs.declared.frame.Inside.{Inside}
use Rattle.explain_frame_model.specs.FrameBefore.{inside_of}
use Rattle.explain_frame_model.specs.FrameWords.{bytes_at}
use Rattle.explain_frame_model.specs.FrameTold.{FrameAt, edition_in, word_line, word_line_at}
use Rattle.explain_frame_text.specs.Kept.{faulty_of_kept}
use Rattle.explain_frame_text.proofs.told.append_word_line_at.Goals as goal

pub returns : goal.returns
returns c =
    let at = c.args.at.now in
    let model : FrameAt = faulty_of_kept at in
    let inside : Inside = inside_of model.before in
    let word : List ℕ = bytes_at (words_left model.bytes c.args.place) 0 in
    let same : word_line at.inside c.edition.result c.bytes_from.result.now c.is_first_at.result ≡ word_line_at model c.args.place =
    ap (λ (i : Inside). word_line i c.edition.result c.bytes_from.result.now c.is_first_at.result) at.stands
    ∙ (ap (λ (e : Option ℕ). word_line inside e c.bytes_from.result.now c.is_first_at.result) c.edition.ensures
    ∙ (ap (λ (w : List ℕ). word_line inside (edition_in model) w c.is_first_at.result) c.bytes_from.ensures
    ∙ ap (λ (b : Bool). word_line inside (edition_in model) word b) c.is_first_at.ensures)) in
    subst (λ (x : List ℕ). OnOk c.append_word_line.result (c.append_word_line.new.out ≡ c.args.out.now ++ x)) same c.append_word_line.ensures
