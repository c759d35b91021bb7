use Rattle.std.proofs.Common.{sym, ◌∙◌}
use Rattle.session_text.proofs.ShortImages.{none_long, is_none_none, none_is_none}
use Rattle.session_text.proofs.images.has_images.Goals as goal

pub returns-clause-is : goal.returns-clause-is
returns-clause-is c = (
  λ none. c.first_long_image.ensures.fits (is_none_none c.first_long_image.result c.is_none.result (sym c.is_none.ensures) none),
  λ fit. none_is_none c.first_long_image.result c.is_none.result (sym c.is_none.ensures) (c.first_long_image.ensures.number
      ∙ none_long c.args.q.now fit),
)
