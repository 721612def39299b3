-- What may come next of the values of a directive, and its form, as they are kept.
use Rattle.std.specs.Prelude.{[], ◌∷◌}
use Rattle.source_model.specs.Values.{Next, ValueNext, DigitsNext, CommaNext}
use Rattle.explain_model.specs.Values as model
use Rattle.explain_model.specs.Values.{DirectiveForm}
use Rattle.explain_text.specs.declared.values.Next as next
use Rattle.explain_text.specs.declared.values.Next.TheVariants as next_is
use Rattle.explain_text.specs.declared.values.DirectiveForm as form
use Rattle.explain_text.specs.declared.values.DirectiveForm.TheVariants as form_is

abbrev pub next_of_kept : next.Next → Next
next_of_kept next_is.Value = ValueNext
next_of_kept next_is.Digits = DigitsNext
next_of_kept next_is.Comma = CommaNext

abbrev pub form_of_kept : form.DirectiveForm → DirectiveForm
form_of_kept form_is.Nothing = model.Places []
form_of_kept (form_is.One want) = model.Places (want ∷ [])
form_of_kept (form_is.Values width) = model.Values width
